-- The loans after one more entry.
use Rattle.std.proofs.Common.{◌≡◌, ℕ, ◌+◌, ◌-◌, ◌^◌, if◌then◌else◌, Option, Some, None, List, [], ◌∷◌, ◌++◌, length}
use Rattle.std.proofs.Common.{take, refl, ap, sym, ◌∙◌, arith, append-nil}
use Rattle.std.specs.Prelude.{unwrap_or, filter_map, max, min}
use Rattle.std.specs.List.{enumerate_from, AllByRecursion, cons_option}
use Rattle.std.specs.Option.{option_map}
use Rattle.std.proofs.lemmas.List.{take_at, take-append-le}
use Rattle.std.proofs.lemmas.List.Elements.{filter_map-append}
use Rattle.std.proofs.lemmas.List.Sums.{fold_push, sum_by-append}
use Rattle.pool_journal.proofs.Latest.{latest_push_if, enumerate_from_push, numbers_below}
use Rattle.pool_journal.specs.Latest.{last_some}
use Rattle.pool_journal.specs.Entries.{is_of}
use Rattle.pool_journal.specs.declared.entry.Entry.{Entry}
use Rattle.pool_stats.specs.Lendings.{begun_by, ended_by, begun, time_since, time_ended, times}
use Rattle.pool_stats.specs.Running.{Walked}
use Rattle.pool_stats.specs.Statistics.{greatest, bounded_sum}

begun_none : (i : ℕ) → begun i [] ≡ None
unfolding begun last_some
begun_none i = refl

begun-push : (i : ℕ) (J : List Entry) (e : Entry) → begun i (J ++ e ∷ []) ≡
    (if is_of i (begun_by e.answer e.input) then Some e.at else begun i J)
unfolding begun
begun-push i J e = latest_push_if _ _ None J e

-- two functions that agree on each element have the same result
filter_map_agree : {X Y : Type 0} (f g : X → Option Y) (xs : List X) → AllByRecursion (λ x. f x ≡ g x) xs
    → filter_map f xs ≡ filter_map g xs
filter_map_agree f g [] same = refl
filter_map_agree f g (x ∷ xs) same = ap (λ o. cons_option o (filter_map f xs)) same.0
    ∙ ap (cons_option (g x)) (filter_map_agree f g xs same.1)

times_none : times [] ≡ []
unfolding times
times_none = refl

times-push : (J : List Entry) (e : Entry) → times (J ++ e ∷ []) ≡ times J ++ cons_option (time_ended J e) []
unfolding times
times-push J e =
    ap (filter_map (λ (k, x). time_ended (take k (J ++ e ∷ [])) x)) (enumerate_from_push 0 J e)
    ∙ filter_map-append (λ (k, x). time_ended (take k (J ++ e ∷ [])) x) (enumerate_from 0 J) ((0 + length J, e) ∷ [])
    ∙ ap (λ (K : List Entry). filter_map (λ (k, x). time_ended (take k (J ++ e ∷ [])) x) (enumerate_from 0 J) ++ cons_option
    (time_ended K e) []) (take_at J (e ∷ []) (0 + length J) (omega arith))
    ∙ ap (λ (ns : List ℕ). ns ++ cons_option (time_ended J e) [])
    (filter_map_agree (λ (k, x). time_ended (take k (J ++ e ∷ [])) x) (λ (k, x). time_ended (take k J) x) (enumerate_from 0 J)
    (numbers_below (λ (k : ℕ) (x : Entry). time_ended (take k (J ++ e ∷ [])) x ≡ time_ended (take k J) x) 0 (length J) J
    (omega arith)
    (λ k x below. ap (λ (K : List Entry). time_ended K x) (take-append-le k J (e ∷ []) (omega arith)))))

-- one more number, if there is one
greatest-push : (ns : List ℕ) (o : Option ℕ) → greatest (ns ++ cons_option o []) ≡ max (greatest ns) (unwrap_or o 0)
greatest-push ns None = ap greatest (append-nil ns) ∙ omega arith
greatest-push ns (Some n) = fold_push max 0 ns n

bounded_sum-push : (ns : List ℕ) (o : Option ℕ) → bounded_sum (ns ++ cons_option o []) ≡ min (bounded_sum ns + unwrap_or o 0)
    (2 ^ 64 - 1)
bounded_sum-push ns None = ap bounded_sum (append-nil ns) ∙ omega arith
bounded_sum-push ns (Some n) = omega (arith, sum_by-append (λ (x : ℕ). x) ns (n ∷ []))

pub walked_none : (moments : ℕ → Option ℕ) → ((i : ℕ) → moments i ≡ None) → Walked [] moments 0 0
walked_none moments none =
    record {
      begun_is = λ i. none i ∙ sym (begun_none i);
      longest_is = ap greatest (sym times_none);
      total_is = ap bounded_sum (sym times_none);
    }

-- the duration of a loan depends only on the times at which loans began
same_time : (moments : ℕ → Option ℕ) (K : List Entry) (at : ℕ) (o : Option ℕ) → ((i : ℕ) → moments i ≡ begun i K)
    → unwrap_or (option_map (λ i. time_since (moments i) at) o) 0 ≡ unwrap_or (option_map (λ i. time_since (begun i K) at) o) 0
same_time moments K at None same = refl
same_time moments K at (Some i) same = ap (λ (m : Option ℕ). time_since m at) (same i)

pub walked_push : (J : List Entry) (e : Entry) (moments noted : ℕ → Option ℕ) (longest total time longer more : ℕ) → Walked J moments longest total
    → time ≡ unwrap_or (option_map (λ i. time_since (moments i) e.at) (ended_by e.answer e.input)) 0
    → longer ≡ max longest time → more ≡ min (total + time) (2 ^ 64 - 1)
    → ((i : ℕ) → noted i ≡ (if is_of i (begun_by e.answer e.input) then Some e.at else moments i))
    → Walked (J ++ e ∷ []) noted longer more
walked_push J e moments noted longest total time longer more so_far time_is longer_is more_is noted_is =
    let same : time ≡ unwrap_or (time_ended J e) 0 = time_is ∙ same_time moments J e.at (ended_by e.answer e.input) so_far.begun_is
    in
    record {
      begun_is = λ i. noted_is i ∙ ap (λ (m : Option ℕ). if is_of i (begun_by e.answer e.input) then Some e.at else m)
          (so_far.begun_is i) ∙ sym (begun-push i J e);
      longest_is =
          longer_is ∙ ap (λ (n : ℕ). max n time) so_far.longest_is ∙ ap (max (greatest (times J))) same
          ∙ sym (greatest-push (times J) (time_ended J e)) ∙ ap greatest (sym (times-push J e));
      total_is =
          more_is ∙ ap (λ (n : ℕ). min (n + time) (2 ^ 64 - 1)) so_far.total_is
          ∙ ap (λ (n : ℕ). min (bounded_sum (times J) + n) (2 ^ 64 - 1)) same
          ∙ sym (bounded_sum-push (times J) (time_ended J e)) ∙ ap bounded_sum (sym (times-push J e));
    }
