-- A sum over all objects, when one of them changes. For callers.
use Rattle.std.proofs.Common.{◌≡◌, ◌≢◌, ℕ, zero, suc, ◌+◌, List, [], ◌∷◌, get_or, Option, None, sum_by, refl, sym, ap, ◌∙◌, arith}
use Rattle.std.proofs.lemmas.List.Sums.{sum_by-cons}
use Rattle.pool_slots.specs.SlotsModel.{Item, SlotsModel, item_at, Sets}

module _ {X : Type 0} (g : Option X → ℕ) (none : g None ≡ 0) where
  sum_same : (xs ys : List (Option X)) → ((k : ℕ) → get_or ys k None ≡ get_or xs k None) → sum_by g ys ≡ sum_by g xs
  sum_same [] [] same = refl
  sum_same [] (y ∷ ys) same =
      omega (arith, sum_by-cons g y ys, sum_same [] ys (λ k. same (suc k)), ap g (same 0), none)
  sum_same (x ∷ xs) [] same =
      omega (arith, sum_by-cons g x xs, sum_same xs [] (λ k. same (suc k)), ap g (same 0), none)
  sum_same (x ∷ xs) (y ∷ ys) same =
      omega (arith, sum_by-cons g x xs, sum_by-cons g y ys, sum_same xs ys (λ k. same (suc k)), ap g (same 0))

  first_apart : (k : ℕ) → zero ≢ suc k
  first_apart k same = cc

  next_apart : (j k : ℕ) → j ≢ k → suc j ≢ suc k
  next_apart j k apart same = let e : j ≡ k = cc in apart e

  pub sum_changed : (xs ys : List (Option X)) (key : ℕ) → ((k : ℕ) → k ≢ key → get_or ys k None ≡ get_or xs k None) → sum_by g ys + g (get_or xs key None) ≡ sum_by g xs + g (get_or ys key None)
  sum_changed [] [] key others = refl
  sum_changed [] (y ∷ ys) zero others =
      omega (arith, sum_by-cons g y ys, sum_same [] ys (λ k. others (suc k) (λ e. first_apart k (sym e))), none)
  sum_changed [] (y ∷ ys) (suc key) others =
      omega (arith, sum_by-cons g y ys, sum_changed [] ys key (λ k apart. others (suc k) (next_apart k key apart)), ap g (others 0 (first_apart key)), none)
  sum_changed (x ∷ xs) [] zero others =
      omega (arith, sum_by-cons g x xs, sum_same xs [] (λ k. others (suc k) (λ e. first_apart k (sym e))), none)
  sum_changed (x ∷ xs) [] (suc key) others =
      omega (arith, sum_by-cons g x xs, sum_changed xs [] key (λ k apart. others (suc k) (next_apart k key apart)), ap g (others 0 (first_apart key)), none)
  sum_changed (x ∷ xs) (y ∷ ys) zero others =
      omega (arith, sum_by-cons g x xs, sum_by-cons g y ys, sum_same xs ys (λ k. others (suc k) (λ e. first_apart k (sym e))))
  sum_changed (x ∷ xs) (y ∷ ys) (suc key) others =
      omega (arith, sum_by-cons g x xs, sum_by-cons g y ys, sum_changed xs ys key (λ k apart. others (suc k) (next_apart k key apart)), ap g (others 0 (first_apart key)))

-- the sum loses the number of the old object, and gains that of the new one
pub sum_sets : {T : Type 0} (g : Option (Item T) → ℕ) → g None ≡ 0 → (old new : SlotsModel T) (key : ℕ) (item : Option (Item T)) → Sets old new key item → sum_by g new.items + g (item_at old key) ≡ sum_by g old.items + g item
sum_sets g none old new key item done =
    sum_changed g none old.items new.items key done.others ∙ ap (λ o. sum_by g old.items + g o) done.changed
