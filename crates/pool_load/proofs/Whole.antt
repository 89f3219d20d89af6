-- The history of joined workers and a close.
use Rattle.std.proofs.Common.{◌≡◌, ⊎_elim, ◌⊎◌, inl, inr, ℕ, zero, suc, ◌+◌, ◌<◌, List, [], ◌∷◌, ◌++◌, length, Some, Result, Ok, Err, slice_get, length-append, add-one, refl, sym, ap, ◌∙◌, subst, arith}
use Rattle.std.specs.Prelude.{slice_index, slice_index_or}
use Rattle.std.specs.Option.{option_map}
use Rattle.std.proofs.lemmas.List.{length-map}
use Rattle.std.proofs.lemmas.Option.{slice_get-map, slice_get_within, slice_get-get_or}
use Rattle.pool_journal.specs.declared.entry.Entry.{Entry}
use Rattle.pool_settings.specs.declared.settings.Settings.{Settings}
use Rattle.pool_stats.specs.Statistics.{statistics_of}
use Rattle.pool_stats.specs.declared.statistics.Statistics.{Statistics}
use Rattle.pool_core.specs.Legal.{IsLegal}
use Rattle.pool_history.specs.Finish.{EachAppended, AllByCallers, NoneCut}
use Rattle.pool_history.specs.CellInvariant.{entries_with_number, AllBelow, IsPrefix}
use Rattle.pool_history.specs.CallerStates.{CallerState, Advances, newcomer_at}
use Rattle.pool_shared.specs.declared.faults.PoolFault.{PoolFault}
use Rattle.pool_shared.specs.Traces.{run_stages}
use Rattle.pool_calls.specs.declared.kind.Kind.TheVariants as kinds
use Rattle.pool_shared.specs.Counts.{counted, Counts}
use Rattle.pool_shared.specs.Stages.{asks, complete}
use Rattle.pool_shared.specs.Clears.{CloseSpec}
use Rattle.pool_engines.specs.declared.load_fault.LoadFault.{LoadFault}
use Rattle.pool_engines.specs.declared.load_fault.LoadFault.TheVariants as stops
use Rattle.pool_load.specs.Rounds.{IsWorked}
use Rattle.pool_load.specs.Workers.{Works, AllWorked, total_of}
use Rattle.pool_load.specs.Loads.{OnlyWorks, IsHistory, IsLoad, StopsLoad}
use Rattle.pool_load.proofs.Joined.{all_numbers, error_among}
use Rattle.pool_load.proofs.Closes.{AllOfRounds, works_inputs, close_whole}

below_of : (n : ℕ) (H : List Entry) → ((k : ℕ) (e : Entry) → slice_get H k ≡ Some e → e.caller < n) → AllBelow n H
below_of n [] each = tt
below_of n (x ∷ xs) each = (each 0 x refl, below_of n xs (λ k e at. each (k + 1) e (rw add-one at)))

at_end : (xs : List CallerState) (x : CallerState) → slice_get (xs ++ x ∷ []) (length xs) ≡ Some x
at_end [] x = refl
at_end (y ∷ ys) x = at_end ys x

-- an element of a list and one more is in the list, or is that one
in_front : (xs : List CallerState) (x y : CallerState) (i : ℕ) → slice_get (xs ++ x ∷ []) i ≡ Some y → (slice_get xs i ≡ Some y) ⊎ (x ≡ y)
in_front [] x y zero at = inr (cc at)
in_front [] x y (suc i) at = absurd (cc at)
in_front (z ∷ zs) x y zero at = inl at
in_front (z ∷ zs) x y (suc i) at = in_front zs x y i at

before_end : (xs ys : List CallerState) (i : ℕ) (x : CallerState) → slice_get xs i ≡ Some x → slice_get (xs ++ ys) i ≡ Some x
before_end [] ys i x at = absurd (cc at)
before_end (z ∷ zs) ys zero x at = at
before_end (z ∷ zs) ys (suc i) x at = before_end zs ys i x at

-- the newcomers, without the last
pub record Newcomers (workers : ℕ) (front : List CallerState) (last : CallerState) : Type 0 where
  pub long : length front ≡ workers
  pub each : (i : ℕ) → i < workers → slice_get front i ≡ Some (newcomer_at i)
  pub end : last ≡ newcomer_at workers

pub newcomers : (workers : ℕ) (all front : List CallerState) (last : CallerState) → length all ≡ workers + 1 → ((k : ℕ) → k < workers + 1 → slice_get all k ≡ Some (newcomer_at k)) → all ≡ front ++ last ∷ []
    → Newcomers workers front last
newcomers workers all front last long is cut =
    let same : length front + 1 ≡ workers + 1 = sym (length-append front (last ∷ [])) ∙ sym (ap length cut) ∙ long in
    let wide : length front ≡ workers = omega (arith, same) in
    record {
      long = wide;
      each = λ i lt. front_at i (omega (arith, wide, lt)) (omega (arith, lt));
      end = cc (sym (at_end front last) ∙ ap (λ n. slice_get (front ++ last ∷ []) n) wide ∙ sym (ap (λ l. slice_get l workers) cut) ∙ is workers (omega arith));
    }
  where
    front_at : (i : ℕ) → i < length front → i < workers + 1 → slice_get front i ≡ Some (newcomer_at i)
    front_at i lt below =
        let at = slice_get-get_or front i (newcomer_at 0) lt in
        at ∙ sym (before_end front (last ∷ []) i (slice_index_or front i (newcomer_at 0)) at) ∙ sym (ap (λ l. slice_get l i) cut) ∙ is i below

module _ (s : Settings) (rounds workers : ℕ) (front after : List CallerState) (last last' : CallerState) (os : List (Result ℕ LoadFault)) (H : List Entry) where
  -- a worker, and its outcome
  record Worker (w : ℕ) (o : Result ℕ LoadFault) : Type 0 where
    a : CallerState
    at : slice_get after w ≡ Some a
    is : Works s rounds o (newcomer_at w) a

  worker : Newcomers workers front last → AllWorked s rounds front after os → (w : ℕ) (o : Result ℕ LoadFault) → w < workers → slice_get os w ≡ Some o → Worker w o
  worker new worked w o lt at_o =
      let a : CallerState = slice_index_or after w (newcomer_at 0) in
      let many : length after ≡ workers = worked.callers ∙ new.long in
      let at_a = slice_get-get_or after w (newcomer_at 0) (omega (arith, many, lt)) in
      record { a = a; at = at_a; is = worked.each w (newcomer_at w) a o (new.each w lt) at_a at_o }

  -- each returned caller is one of the callers, and didn't cut the journal
  all_back : Newcomers workers front last → AllWorked s rounds front after os → last'.number ≡ workers → last'.cut_count ≡ 0 → (i : ℕ) (c : CallerState) → slice_get (after ++ last' ∷ []) i ≡ Some c
      → (c.number < workers + 1) × (c.cut_count ≡ 0)
  all_back new worked same uncut i c at = ⊎_elim among the_last (in_front after last' c i at)
    where
      among : slice_get after i ≡ Some c → (c.number < workers + 1) × (c.cut_count ≡ 0)
      among at =
          let within = slice_get_within after i c at in
          let many : length after ≡ workers = worked.callers ∙ new.long in
          let reported : length os ≡ workers = worked.results ∙ new.long in
          let at_o = slice_get-get_or os i (Ok 0) (omega (arith, within, many, reported)) in
          let w = worker new worked i (slice_index_or os i (Ok 0)) (omega (arith, within, many)) at_o in
          let is : w.a ≡ c = cc (sym w.at ∙ at) in
          let n : c.number ≡ i = sym (ap (λ (x : CallerState). x.number) is) ∙ w.is.number in
          (omega (arith, within, many, n), sym (ap (λ (x : CallerState). x.cut_count) is) ∙ w.is.uncut)

      the_last : last' ≡ c → (c.number < workers + 1) × (c.cut_count ≡ 0)
      the_last is = let n : c.number ≡ workers = sym (ap (λ (x : CallerState). x.number) is) ∙ same in (omega (arith, n), sym (ap (λ (x : CallerState). x.cut_count) is) ∙ uncut)

  pub none_cut : (all : List CallerState) → length all ≡ workers + 1 → ((k : ℕ) → k < workers + 1 → slice_get all k ≡ Some (newcomer_at k)) → all ≡ front ++ last ∷ []
      → AllWorked s rounds front after os → last'.number ≡ last.number → last'.cut_count ≡ last.cut_count → NoneCut (after ++ last' ∷ [])
  none_cut all long is cut worked same uncut k c at =
      let new = newcomers workers all front last long is cut in
      (all_back new worked (same ∙ ap (λ (c : CallerState). c.number) new.end) (uncut ∙ ap (λ (c : CallerState). c.cut_count) new.end) k c at).1

  -- the entries of a worker in the history
  works : EachAppended (after ++ last' ∷ []) H → (w : ℕ) (o : Result ℕ LoadFault) → Worker w o → OnlyWorks s rounds o w H
  works made w o r = by_outcome o r.is
    where
      found : (r.a.appended ≡ entries_with_number r.a.number H) × IsPrefix r.a.observed H
      found = made w r.a (before_end after (last' ∷ []) w r.a r.at)

      own : r.a.number ≡ w → r.a.appended ≡ entries_with_number w H
      own same = found.0 ∙ ap (λ n. entries_with_number n H) same

      by_outcome : (o : Result ℕ LoadFault) → Works s rounds o (newcomer_at w) r.a → OnlyWorks s rounds o w H
      by_outcome (Ok f) is = subst (IsWorked s rounds f) (sym is.worked.1 ∙ own is.number) is.worked.2
      by_outcome (Err stops.NoThread) is = sym (own is.number) ∙ is.result
      by_outcome (Err stops.JournalFull) is = (r.a, own is.number, found.1, is.result)
      by_outcome (Err stops.OutOfMemory) is = (r.a, own is.number, found.1, is.result)
      by_outcome (Err _) is = absurd is.result

  pub history : (result : Result ℕ PoolFault) (all : List CallerState) → length all ≡ workers + 1 → ((k : ℕ) → k < workers + 1 → slice_get all k ≡ Some (newcomer_at k)) → all ≡ front ++ last ∷ []
      → AllWorked s rounds front after os → Advances s last last' → CloseSpec s result last last'
      → IsLegal s H → EachAppended (after ++ last' ∷ []) H → AllByCallers (after ++ last' ∷ []) H → IsHistory s workers rounds os H
  history result all long is cut worked goes row legal made under =
      let new = newcomers workers all front last long is cut in
      let number : last'.number ≡ workers = goes.number ∙ ap (λ (c : CallerState). c.number) new.end in
      let reported : length os ≡ workers = worked.results ∙ new.long in
      let closes = made (length after) last' (at_end after last') in
      let own = closes.0 ∙ ap (λ n. entries_with_number n H) number in
      let below = below_of (workers + 1) H (λ k e at. let u = under k e at in let n = (all_back new worked number (goes.uncut ∙ ap (λ (c : CallerState). c.cut_count) new.end) u.0 u.1 u.2).0 in let m = u.3 in omega (arith, n, m)) in
      let only : (w : ℕ) (o : Result ℕ LoadFault) → slice_get os w ≡ Some o → OnlyWorks s rounds o w H =
      λ w o at. works made w o (worker new worked w o (omega (arith, slice_get_within os w o at, reported)) at) in
      let inputs : (w : ℕ) → w < workers → AllOfRounds (entries_with_number w H) =
      λ w lt. works_inputs s rounds (slice_index_or os w (Ok 0)) w H (only w (slice_index_or os w (Ok 0)) (slice_get-get_or os w (Ok 0) (omega (arith, lt, reported)))) in
      let spec = subst (λ c. CloseSpec s result c last') new.end row in
      let seen = sym spec.0.made ∙ goes.all ∙ ap (λ n. entries_with_number n last'.observed) number in
      let whole = close_whole s workers H result last' below inputs closes.1 goes.legal spec.0.es seen spec.0.due spec.0.ends in
      let closing = subst (λ r. CloseSpec s r (newcomer_at workers) last') whole.is spec in
      let taken : Counts kinds.Close whole.taken (newcomer_at workers) last' = closing.1 in
      let counts : counted kinds.Close last'.appended ≡ counted kinds.Close (entries_with_number workers H) = ap (counted kinds.Close) own in
      record {
        legal = legal;
        below = below;
        each = reported;
        worked = only;
        closed = record {
          taken = whole.taken;
          after = last';
          goes = subst (λ c. Advances s c last') new.end goes;
          appended = own;
          observed = closes.1;
          row = closing;
          over = (subst (λ es. run_stages kinds.Close asks es ≡ complete) (sym spec.0.made ∙ own) whole.over, omega (arith, taken, counts));
        };
      }

-- a history in which all workers made their rounds
pub loaded : (s : Settings) (workers rounds refused : ℕ) (os : List (Result ℕ LoadFault)) (H : List Entry) (stats : Statistics) → IsHistory s workers rounds os H → total_of os ≡ Ok refused → stats ≡ statistics_of H → IsLoad s workers rounds refused stats
loaded s workers rounds refused os H stats h sums reported =
    let numbers = all_numbers 0 refused os sums in
    let fs = numbers.refusals in
    let many : length fs ≡ workers = sym (length-map fs Ok) ∙ sym (ap length numbers.are) ∙ h.each in
    let sum_is = numbers.sums in
    record {
      journal = H;
      legal = h.legal;
      below = h.below;
      refusals = fs;
      each = many;
      worked = λ w lt. h.worked w (Ok (slice_index fs w)) (ap (λ l. slice_get l w) numbers.are ∙ slice_get-map Ok fs w ∙ ap (option_map Ok) (slice_get-get_or fs w 0 (omega (arith, lt, many))));
      closed = h.closed;
      all = omega (arith, sum_is);
      reported = reported;
    }

-- a history in which a worker stopped
pub stopped : (s : Settings) (workers rounds : ℕ) (os : List (Result ℕ LoadFault)) (H : List Entry) (fault : LoadFault) → IsHistory s workers rounds os H → total_of os ≡ Err fault → StopsLoad s workers rounds fault
stopped s workers rounds os H fault h sums = by_fault fault (error_among 0 os fault sums)
  where
    by_fault : (fault : LoadFault) → (i : ℕ) × (slice_get os i ≡ Some (Err fault)) → StopsLoad s workers rounds fault
    by_fault stops.JournalFull found = record { journal = H; outcomes = os; history = h; worker = found.0; full = found.1 }
    by_fault stops.OutOfMemory found = tt
    by_fault stops.NoThread found = tt
    by_fault stops.WorkerCount found = absurd (h.worked found.0 (Err stops.WorkerCount) found.1).3
    by_fault stops.RoundCount found = absurd (h.worked found.0 (Err stops.RoundCount) found.1).3
