-- Marked pairs that are dropped.
use Rattle.std.proofs.Common.{◌≡◌, ℕ, ◌+◌, ◌-◌, ◌<◌, ◌≤◌, Bool, true, false, not, cond, List, [], ◌∷◌, ◌++◌, length, get_or, Option, Some, None, refl, ap, sym, ◌∙◌, arith, subst, append-nil}
use Rattle.std.specs.Prelude.{filter, count_by, IsSome}
use Rattle.std.specs.List.{AllByRecursion}
use Rattle.std.specs.Option.{option_to_list}
use Rattle.std.proofs.lemmas.List.{map-append}
use Rattle.std.proofs.lemmas.List.Sums.{sum_by-append, sum_by-cons}
use Rattle.sorted_index.specs.declared.pair.Pair.{Pair}
use Rattle.sorted_index.specs.declared.stored.Stored.{Stored}
use Rattle.sorted_index.specs.Pairs.{IdsBelow, IsAscending}
use Rattle.sorted_index.specs.Marks.{all_in, pairs_in, is_there, starts_gone, is_last_gone, ends_gone, IsCounted, IsTrimmed}
use Rattle.sorted_index.proofs.There.{ascending_there, pairs_in-append, push_pairs, weighs_none, weighs_one, weighed}

last_read : (s : Stored) (ss : List Stored) (d : Stored) → (get_or (s ∷ ss) (length ss) d).is_gone ≡ is_last_gone s ss
last_read s [] d = refl
last_read s (t ∷ ss) d = last_read t ss d

pub ends_read : (ss : List Stored) (d : Stored) → 1 ≤ length ss → (get_or ss (length ss - 1) d).is_gone ≡ ends_gone ss
ends_read [] d some = absurd (omega arith)
ends_read (s ∷ ss) d some =
    let last : length (s ∷ ss) - 1 ≡ length ss = omega arith in
    ap (λ k. (get_or (s ∷ ss) k d).is_gone) last ∙ last_read s ss d

-- the last pair, as it was read
pub last_found : (ss : List Stored) (s : Stored) (n : ℕ) → n ≡ length ss → 0 < n → s ≡ get_or ss (n - 1) s → s.is_gone ≡ ends_gone ss
last_found ss s n is some read = ap (λ (t : Stored). t.is_gone) read ∙ ap (λ k. (get_or ss (k - 1) s).is_gone) is ∙ ends_read ss s (omega (arith, is, some))

last_pushed : (s : Stored) (ss : List Stored) (t : Stored) → is_last_gone s (ss ++ t ∷ []) ≡ t.is_gone
last_pushed s [] t = refl
last_pushed s (u ∷ ss) t = last_pushed u ss t

pub ends_pushed : (ss : List Stored) (t : Stored) → ends_gone (ss ++ t ∷ []) ≡ t.is_gone
ends_pushed [] t = refl
ends_pushed (s ∷ ss) t = last_pushed s ss t

pub ends_some : (ss : List Stored) → ends_gone ss ≡ true → 0 < length ss
ends_some [] ends = absurd (cc ends)
ends_some (s ∷ ss) ends = omega arith

below_later : (n : ℕ) (s : Stored) (ss : List Stored) (b : Bool) → IdsBelow n (all_in (cond b (s ∷ filter is_there ss) (filter is_there ss))) → IdsBelow n (pairs_in ss)
below_later n s ss true below = below.1
below_later n s ss false below = below

below_last : (n : ℕ) (s : Stored) (ss : List Stored) → IsAscending (all_in (s ∷ ss)) → is_last_gone s ss ≡ false → IdsBelow n (pairs_in (s ∷ ss)) → IdsBelow n (all_in (s ∷ ss))
below_last n s [] up ends below = subst (λ g. IdsBelow n (all_in (cond (not g) (s ∷ []) []))) ends below
below_last n s (t ∷ ss) up ends below =
    let later : IdsBelow n (all_in (t ∷ ss)) = below_last n t ss up.1 ends (below_later n s (t ∷ ss) (is_there s) below) in
    (omega (arith, up.0.0, later.0), later)

-- if the last pair is present, its id is above all others
pub below_by_last : (n : ℕ) (ss : List Stored) → IsAscending (all_in ss) → ends_gone ss ≡ false → IdsBelow n (pairs_in ss) → IdsBelow n (all_in ss)
below_by_last n [] up ends below = tt
below_by_last n (s ∷ ss) up ends below = below_last n s ss up ends below

all_front : (P : Pair → Type 0) (ps qs : List Pair) → AllByRecursion P (ps ++ qs) → AllByRecursion P ps
all_front P [] qs all = tt
all_front P (p ∷ ps) qs all = (all.0, all_front P ps qs all.1)

ascending_front : (ps qs : List Pair) → IsAscending (ps ++ qs) → IsAscending ps
ascending_front [] qs up = tt
ascending_front (p ∷ ps) qs up = (all_front (λ q. p.id < q.id) ps qs up.0, ascending_front ps qs up.1)

pub count_push : (ss : List Stored) (t : Stored) → count_by (λ s. s.is_gone) (ss ++ t ∷ []) ≡ count_by (λ s. s.is_gone) ss + cond t.is_gone 1 0
count_push ss t = omega (arith, sum_by-append (λ (s : Stored). cond s.is_gone 1 0) ss (t ∷ []))

pub popped_ascending : (ts : List Stored) (t : Stored) → IsAscending (all_in (ts ++ t ∷ [])) → IsAscending (all_in ts)
popped_ascending ts t up = ascending_front (all_in ts) (t.pair ∷ []) (subst IsAscending (map-append (λ (s : Stored). s.pair) ts (t ∷ [])) up)

-- the last one is popped, and it was marked
pop_pairs : (ts : List Stored) (t : Stored) → t.is_gone ≡ true → pairs_in (ts ++ t ∷ []) ≡ pairs_in ts
pop_pairs ts t gone = pairs_in-append ts (t ∷ []) ∙ ap (λ g. pairs_in ts ++ all_in (cond (not g) (t ∷ []) [])) gone ∙ append-nil (pairs_in ts)

pop_counted : (ts : List Stored) (t : Stored) (n : ℕ) → t.is_gone ≡ true → IsCounted (ts ++ t ∷ []) n → IsCounted ts (n - 1)
pop_counted ts t n gone old = record {
  ascending = popped_ascending ts t old.ascending;
  counted = omega (arith, count_push ts t, weighs_one t.is_gone gone, old.counted);
}

-- the state after a pop
pub record IsPopped (ss ts : List Stored) (n : ℕ) : Type 0 where
  pub pairs : pairs_in ts ≡ pairs_in ss
  pub counted : IsCounted ts (n - 1)
  pub some : 1 ≤ n

pub popped : (ss ts : List Stored) (o : Option Stored) (n : ℕ) → ss ≡ ts ++ option_to_list o → IsSome o → ends_gone ss ≡ true → IsCounted ss n → IsPopped ss ts n
popped ss ts None n is some ends old = absurd (cc some)
popped ss ts (Some t) n is some ends old =
    let gone : t.is_gone ≡ true = sym (ends_pushed ts t) ∙ ap ends_gone (sym is) ∙ ends in
    let counted : IsCounted (ts ++ t ∷ []) n = subst (λ xs. IsCounted xs n) is old in
    record {
      pairs = sym (pop_pairs ts t gone) ∙ ap pairs_in (sym is);
      counted = pop_counted ts t n gone counted;
      some = omega (arith, counted.counted, count_push ts t, weighs_one t.is_gone gone);
    }

pub starts_popped : (ts : List Stored) (o : Option Stored) → starts_gone (ts ++ option_to_list o) ≡ false → starts_gone ts ≡ false
starts_popped [] o first = refl
starts_popped (t ∷ ts) o first = first

-- the state after a present pair was taken
pub record IsTaken (ts : List Stored) (n : ℕ) (ps qs : List Pair) : Type 0 where
  pub counted : IsCounted ts n
  pub pairs : ps ≡ qs

pub taken_last : (ss ts : List Stored) (o : Option Stored) (t : Stored) (n : ℕ) → ss ≡ ts ++ option_to_list o → o ≡ Some t → IsTrimmed ss n → IsTaken ts n (pairs_in ss) (pairs_in ts ++ t.pair ∷ [])
taken_last ss ts o t n split some old =
    let is : ss ≡ ts ++ t ∷ [] = split ∙ ap (λ x. ts ++ option_to_list x) some in
    let there : t.is_gone ≡ false = sym (ends_pushed ts t) ∙ ap ends_gone (sym is) ∙ old.last in
    let counted : IsCounted (ts ++ t ∷ []) n = subst (λ xs. IsCounted xs n) is old.counted in
    record {
      counted = record { ascending = popped_ascending ts t counted.ascending; counted = omega (arith, counted.counted, count_push ts t, weighs_none t.is_gone there) };
      pairs = ap pairs_in is ∙ push_pairs ts t there;
    }

keeps : (s : Stored) (xs : List Stored) → s.is_gone ≡ false → filter is_there (s ∷ xs) ≡ s ∷ filter is_there xs
keeps s xs there = ap (λ g. cond (not g) (s ∷ filter is_there xs) (filter is_there xs)) there

filter_twice : (ss : List Stored) → filter is_there (filter is_there ss) ≡ filter is_there ss
filter_twice [] = refl
filter_twice (s ∷ ss) = by_mark s.is_gone refl (filter_twice ss)
  where
    by_mark : (g : Bool) → s.is_gone ≡ g → filter is_there (filter is_there ss) ≡ filter is_there ss
        → filter is_there (cond (not g) (s ∷ filter is_there ss) (filter is_there ss)) ≡ cond (not g) (s ∷ filter is_there ss) (filter is_there ss)
    by_mark true is rest = rest
    by_mark false is rest = keeps s (filter is_there ss) is ∙ ap (λ xs. s ∷ xs) rest

none_gone : (ss : List Stored) → count_by (λ s. s.is_gone) (filter is_there ss) ≡ 0
none_gone [] = refl
none_gone (s ∷ ss) = by_mark s.is_gone refl (none_gone ss)
  where
    by_mark : (g : Bool) → s.is_gone ≡ g → count_by (λ t. t.is_gone) (filter is_there ss) ≡ 0 → count_by (λ t. t.is_gone) (cond (not g) (s ∷ filter is_there ss) (filter is_there ss)) ≡ 0
    by_mark true is rest = rest
    by_mark false is rest = rw is (omega (arith, rest))

starts_there : (ss : List Stored) → count_by (λ s. s.is_gone) ss ≡ 0 → starts_gone ss ≡ false
starts_there [] none = refl
starts_there (s ∷ ss) none = weighed s.is_gone (omega (arith, none, sum_by-cons (λ (t : Stored). cond t.is_gone 1 0) s ss))

ends_there : (ss : List Stored) → count_by (λ s. s.is_gone) ss ≡ 0 → ends_gone ss ≡ false
ends_there [] none = refl
ends_there (s ∷ []) none = starts_there (s ∷ []) none
ends_there (s ∷ t ∷ ss) none = ends_there (t ∷ ss) (omega (arith, none, sum_by-cons (λ (t : Stored). cond t.is_gone 1 0) s (t ∷ ss)))

-- the marked ones are swept out
pub swept_pairs : (ss ts : List Stored) → ts ≡ filter is_there ss → pairs_in ts ≡ pairs_in ss
swept_pairs ss ts is = ap pairs_in is ∙ ap all_in (filter_twice ss)

pub swept_trimmed : (ss ts : List Stored) (n : ℕ) → ts ≡ filter is_there ss → IsCounted ss n → IsTrimmed ts 0
swept_trimmed ss ts n is old = subst (λ xs. IsTrimmed xs 0) (sym is) (record {
  counted = record { ascending = ascending_there ss old.ascending; counted = sym (none_gone ss) };
  first = starts_there (filter is_there ss) (none_gone ss);
  last = ends_there (filter is_there ss) (none_gone ss);
})
