-- A pair that is added after all others.
use Rattle.std.proofs.Common.{◌≡◌, ℕ, ◌<◌, false, List, [], ◌∷◌, ◌++◌, sym, ◌∙◌, arith, subst}
use Rattle.std.specs.List.{AllByRecursion}
use Rattle.std.proofs.lemmas.List.{map-append, length_push}
use Rattle.sorted_index.specs.declared.pair.Pair.{Pair}
use Rattle.sorted_index.specs.declared.stored.Stored.{Stored}
use Rattle.sorted_index.specs.Pairs.{IdsBelow, IsAscending}
use Rattle.sorted_index.specs.Marks.{all_in, pairs_in, starts_gone, ends_gone, IsCounted, IsTidy, IsTrimmed}
use Rattle.sorted_index.proofs.There.{weighs_none}
use Rattle.sorted_index.proofs.Dropped.{below_by_last, ends_pushed, count_push}

pub all_push : (P : Pair → Type 0) (ps : List Pair) (p : Pair) → AllByRecursion P ps → P p → AllByRecursion P (ps ++ p ∷ [])
all_push P [] p all here = (here, tt)
all_push P (q ∷ ps) p all here = (all.0, all_push P ps p all.1 here)

pub ascending_push : (ps : List Pair) (p : Pair) → IsAscending ps → IdsBelow p.id ps → IsAscending (ps ++ p ∷ [])
ascending_push [] p up below = (tt, tt)
ascending_push (q ∷ ps) p up below = (all_push (λ x. q.id < x.id) ps p up.0 below.0, ascending_push ps p up.1 below.1)

starts_pushed : (ss : List Stored) (s : Stored) → starts_gone ss ≡ false → s.is_gone ≡ false → starts_gone (ss ++ s ∷ []) ≡ false
starts_pushed [] s first there = there
starts_pushed (t ∷ ss) s first there = first

pub push_counted : (ss : List Stored) (s : Stored) (n : ℕ) → IsCounted ss n → ends_gone ss ≡ false → IdsBelow s.pair.id (pairs_in ss) → s.is_gone ≡ false → IsCounted (ss ++ s ∷ []) n
push_counted ss s n old ends above there = record {
  ascending = subst IsAscending (sym (map-append (λ (t : Stored). t.pair) ss (s ∷ []))) (ascending_push (all_in ss) s.pair old.ascending (below_by_last s.pair.id ss old.ascending ends above));
  counted = omega (arith, count_push ss s, weighs_none s.is_gone there, old.counted);
}

pub push_tidy : (ss : List Stored) (s : Stored) (n : ℕ) → IsTidy ss n → IdsBelow s.pair.id (pairs_in ss) → s.is_gone ≡ false → IsTidy (ss ++ s ∷ []) n
push_tidy ss s n old above there = record {
  counted = push_counted ss s n old.counted old.last above there;
  last = ends_pushed ss s ∙ there;
  mostly_there = omega (arith, old.mostly_there, length_push ss s);
}

pub push_trimmed : (ss : List Stored) (s : Stored) (n : ℕ) → IsTrimmed ss n → IdsBelow s.pair.id (pairs_in ss) → s.is_gone ≡ false → IsTrimmed (ss ++ s ∷ []) n
push_trimmed ss s n old above there = record {
  counted = push_counted ss s n old.counted old.last above there;
  first = starts_pushed ss s old.first there;
  last = ends_pushed ss s ∙ there;
}
