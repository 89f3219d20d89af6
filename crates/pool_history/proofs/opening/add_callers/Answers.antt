use Rattle.std.proofs.Common.{◌≡◌, ℕ, zero, suc, ◌+◌, ◌<◌, List, [], ◌∷◌, ◌++◌, length, Some, slice_get, sym, ap, ◌∙◌, not, if◌then◌else◌, arith}
use Rattle.std.proofs.lemmas.List.{length_push}
use Rattle.pool_history.specs.CallerStates.{newcomer_at}
use Rattle.pool_history.proofs.opening.add_callers.Goals as goal

-- each element of a list with one more is that of its position
each_push : {X : Type 0} (f : ℕ → X) (xs : List X) (y : X) → f (length xs) ≡ y → ((k : ℕ) → k < length xs → slice_get xs k ≡ Some (f k))
    → (k : ℕ) → k < length xs + 1 → slice_get (xs ++ y ∷ []) k ≡ Some (f k)
each_push f [] y is each zero small = ap Some (sym is)
each_push f [] y is each (suc k) small = absurd (omega (arith, small))
each_push f (x ∷ xs) y is each zero small = each 0 (omega arith)
each_push f (x ∷ xs) y is each (suc k) small = each_push (λ j. f (suc j)) xs y is (λ j below. each (suc j) (omega (arith, below))) k (omega (arith, small))

pub loop-number-preserved : goal.loop-number-preserved
loop-number-preserved g c =
    let l = c.loop-number in
    let so_many = l.invariant.2 in
    let pushed = c.push.ensures.items ∙ ap (λ b. if b then l.list.items ++ c.add_caller-caller.result ∷ [] else l.list.items) (c.is_err.ensures.negation ∙ ap not c.if-is_err.false) in (
      c.add_caller-caller.ensures.same.0 ∙ l.invariant.0,
      c.add_caller-caller.ensures.view,
      ap length pushed ∙ length_push l.list.items c.add_caller-caller.result ∙ ap (λ n. n + 1) so_many,
      λ k small.
          ap (λ xs. slice_get xs k) pushed
          ∙ each_push newcomer_at l.list.items c.add_caller-caller.result (ap newcomer_at so_many ∙ sym c.add_caller-caller.ensures.caller)
          (λ j below. l.invariant.3 j (omega (arith, so_many, below))) k (omega (arith, so_many, small)),
    )
