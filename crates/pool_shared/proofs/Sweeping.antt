-- The trace of a sweep over idle objects.
use Rattle.std.proofs.Common.{◌≡◌, ℕ, zero, suc, ◌+◌, ◌-◌, ◌<◌, Bool, true, false, true≢false, if◌then◌else◌, List, [], ◌∷◌, length, Option, None, Some, Result, Ok, Err, refl, ap, ◌∙◌, subst, arith}
use Rattle.pool_journal.specs.Journal.{records, closed}
use Rattle.pool_journal.specs.Queue.{idle_queue, first_of}
use Rattle.pool_journal.specs.declared.record.Record.{Record}
use Rattle.pool_journal.specs.declared.input.Input.{Input}
use Rattle.pool_journal.specs.declared.input.Input.TheVariants.{Clear, ClearNext, Close, Destroyed}
use Rattle.pool_journal.specs.declared.answer.Answer.{Answer}
use Rattle.pool_journal.specs.declared.answer.Answer.TheVariants as answers
use Rattle.pool_settings.specs.declared.settings.Settings.{Settings}
use Rattle.pool_core.specs.declared.step_fault.StepFault.{StepFault}
use Rattle.pool_core.specs.Completion.{is_completing}
use Rattle.pool_core.specs.Reply.{reply, clear_next_reply}
use Rattle.pool_history.specs.CallerStates.{CallerState, Advances, IsConsistent}
use Rattle.pool_history.proofs.Answering.{none_misused}
use Rattle.pool_history.proofs.Fragments.{prefix_trans, prefix_self}
use Rattle.pool_shared.specs.declared.faults.PoolFault.{PoolFault}
use Rattle.pool_shared.specs.Faults.{room_fault}
use Rattle.pool_lock.specs.Sections.{AppendsAnswer, Refuses}
use Rattle.pool_calls.specs.declared.kind.Kind.{Kind}
use Rattle.pool_calls.specs.declared.kind.Kind.TheVariants as kinds
use Rattle.pool_calls.specs.declared.stage.Stage.{Stage}
use Rattle.pool_calls.specs.Steps.{is_counted}
use Rattle.pool_calls.specs.Table.{go_through}
use Rattle.pool_shared.specs.Counts.{counted}
use Rattle.pool_shared.specs.Stages.{asks, takes, complete}
use Rattle.pool_shared.specs.Traces.{Trace, EndsWithOwn}
use Rattle.pool_shared.specs.TraceToResult.{TraceToResult, IsRoomFault}
use Rattle.pool_shared.specs.Clears.{NoneIdle, MaySweep, Takes, Sweeps, ClearEnds, CloseEnds, ClearSpec, CloseSpec}
use Rattle.pool_shared.proofs.Traces.{trace_none, trace_on, trace_by, trace_one, trace_destroyed, takes_next, count_one, count_hit, count_miss}
use Rattle.pool_shared.proofs.TracesToResults.{row_at, row_none, room_fault_for, unfinished_at}

pub goes_then : (s : Settings) (a b c : CallerState) → Advances s a b → Advances s b c → Advances s a c
goes_then s a b c p q =
    record {
      number = q.number ∙ p.number;
      later = prefix_trans a.observed b.observed c.observed p.later q.later;
      legal = q.legal;
      owner_respecting = q.owner_respecting;
      none_misused = q.none_misused;
      all = q.all;
      fits = q.fits;
      uncut = q.uncut ∙ p.uncut;
      later_cuts = prefix_trans a.cut_positions b.cut_positions c.cut_positions p.later_cuts q.later_cuts;
    }

pub goes_self : (s : Settings) (a : CallerState) → IsConsistent s a → Advances s a a
goes_self s a k = record { number = refl; later = prefix_self a.observed; legal = k.legal; owner_respecting = k.owner_respecting; none_misused = none_misused s a.observed k.legal k.owner_respecting; all = k.all; fits = k.fits; uncut = refl; later_cuts = prefix_self a.cut_positions }

none_first : {X : Type 0} (xs : List X) → first_of xs ≡ None → xs ≡ []
none_first [] is = refl
none_first (x ∷ xs) is = absurd (cc is)

stops : (o : Option Record) → is_completing (clear_next_reply o) ClearNext ≡ false → o ≡ None
stops None is = refl
stops (Some r) is = absurd (true≢false is)

-- a ClearNext that isn't completing finds none
pub none_idle : (s : Settings) (at : ℕ) (me : CallerState) → is_completing (reply s me.observed at ClearNext) ClearNext ≡ false → NoneIdle me
none_idle s at me unfinished =
    none_first (idle_queue (records me.observed)) (stops (first_of (idle_queue (records me.observed))) unfinished)

shut : (b : Bool) (n : ℕ) → is_completing (if b then answers.Nothing else answers.Count n) Close ≡ false → b ≡ true
shut true n is = refl
shut false n is = absurd (true≢false is)

-- a Close that isn't completing finds the pool closed
pub was_closed : (s : Settings) (at : ℕ) (me : CallerState) → is_completing (reply s me.observed at Close) Close ≡ false → closed me.observed ≡ true
was_closed s at me unfinished =
    shut (closed me.observed) (length (idle_queue (records me.observed))) unfinished

-- ---- a sweep, in a clear or in a close
-- one more object is destroyed
one_destroyed : (s : Settings) (k : Kind) (i left : ℕ) (b c d : CallerState) → MaySweep k → AppendsAnswer ClearNext (answers.DestroyIdle i) b c → AppendsAnswer (Destroyed i) answers.Freed c d → Trace s k (takes left) b d (go_through k left)
one_destroyed s kinds.Clear i left b c d may took freed = trace_destroyed s kinds.Clear (takes left) (go_through kinds.Clear left) i ClearNext (answers.DestroyIdle i) (answers.DestroyIdle i) b c d refl took freed refl refl refl
one_destroyed s kinds.Close i left b c d may took freed = trace_destroyed s kinds.Close (takes left) (go_through kinds.Close left) i ClearNext (answers.DestroyIdle i) (answers.DestroyIdle i) b c d refl took freed refl refl refl
one_destroyed s _ i left b c d may took freed = absurd may

pub one_taken : (i n : ℕ) (a b c d : CallerState) → AppendsAnswer ClearNext (answers.DestroyIdle i) b c → AppendsAnswer (Destroyed i) answers.Freed c d → Takes n a b → Takes (n + 1) a d
one_taken i n a b c d took freed so_far =
    let more : Takes (n + 1) a c = count_hit (is_counted kinds.Clear) n ClearNext (answers.DestroyIdle i) (answers.DestroyIdle i) a b c refl took so_far refl in
    count_miss (is_counted kinds.Clear) (n + 1) (Destroyed i) answers.Freed answers.Freed a c d refl freed more refl

-- no object is left
none_left : (s : Settings) (k : Kind) (left : ℕ) (b c : CallerState) → MaySweep k → AppendsAnswer ClearNext answers.Nothing b c → Trace s k (takes left) b c complete
none_left s kinds.Clear left b c may none = trace_one s kinds.Clear (takes left) complete ClearNext answers.Nothing b c none refl refl
none_left s kinds.Close left b c may none = trace_one s kinds.Close (takes left) complete ClearNext answers.Nothing b c none refl refl
none_left s _ left b c may none = absurd may

-- a sweep that has not gone through all objects
module _ (s : Settings) (k : Kind) (may : MaySweep k) (count left taken : ℕ) (some : 0 < left) (a b : CallerState) (w : Trace s k (go_through k count) a b (go_through k left)) where
  pub took_one : (i : ℕ) (c d : CallerState) → AppendsAnswer ClearNext (answers.DestroyIdle i) b c → AppendsAnswer (Destroyed i) answers.Freed c d → Trace s k (go_through k count) a d (go_through k (left - 1))
  took_one i c d took freed = trace_on s k (go_through k count) (takes (left - 1)) (go_through k (left - 1)) a b d (takes_next s k count left a b some w) (one_destroyed s k i (left - 1) b c d may took freed)

  pub took_none : (c : CallerState) → Takes taken a b → AppendsAnswer ClearNext answers.Nothing b c → Sweeps s k count (Ok taken) a c
  took_none c counts none = (
    trace_on s k (go_through k count) (takes (left - 1)) complete a b c (takes_next s k count left a b some w) (none_left s k (left - 1) b c may none),
    count_miss (is_counted kinds.Clear) taken ClearNext answers.Nothing answers.Nothing a b c refl none counts refl,
  )

  -- its next critical section failed, when it would have found no object
  pub refused : {T : Type 0} (f : StepFault T) (c : CallerState) → Takes taken a b → Refuses s ClearNext None f b c → Sweeps s k count (Err (taken, room_fault f)) a c
  refused f c counts refuses =
      let why = room_fault_for s ClearNext f b c refuses in (
        left - 1,
        trace_on s k (go_through k count) (takes (left - 1)) (takes (left - 1)) a b c (takes_next s k count left a b some w) (trace_none s k (takes (left - 1)) b c refuses.same),
        ap (counted kinds.Clear) refuses.same ∙ counts,
        why,
        none_idle s why.0 c (unfinished_at s ClearNext (room_fault f) c why.0 why.1),
      )

-- a sweep that went through all objects
pub took_all : (s : Settings) (k : Kind) (count left : ℕ) (a b : CallerState) → left ≡ 0 → MaySweep k → Trace s k (go_through k count) a b (go_through k left) → Trace s k (go_through k count) a b complete
took_all s kinds.Clear count left a b none may w = subst (λ n. Trace s kinds.Clear (go_through kinds.Clear count) a b (go_through kinds.Clear n)) none w
took_all s kinds.Close count left a b none may w = subst (λ n. Trace s kinds.Close (go_through kinds.Close count) a b (go_through kinds.Close n)) none w
took_all s _ count left a b none may w = absurd may

-- ---- a whole clear or close
same_sweep : (left : ℕ) → go_through kinds.Clear left ≡ go_through kinds.Close left
same_sweep zero = refl
same_sweep (suc left) = refl

-- its first answer takes none
takes_all : (input : Input) (n taken : ℕ) (x : Answer) (a b c : CallerState) → x ≡ answers.Count n → AppendsAnswer input x a b → Takes taken b c → Takes taken a c
takes_all input n taken x a b c is made rest =
    let none : Takes 0 a b = count_one (is_counted kinds.Clear) input x (answers.Count n) a b is made in
    omega (arith, none, rest)

module _ (s : Settings) (k : Kind) (Ends : Stage → Result ℕ PoolFault → CallerState → Type 0) (n taken : ℕ) (a b c : CallerState) (first : Trace s k asks a b (go_through k n)) where
  swept_out : Sweeps s k n (Ok taken) b c → Ends complete (Ok taken) c → TraceToResult s k Ends asks (Ok taken) a c
  swept_out swept ends = row_at s k Ends asks complete (Ok taken) a c (trace_on s k asks (go_through k n) complete a b c first swept.0) ends

  swept_part : (f : PoolFault) (swept : Sweeps s k n (Err (taken, f)) b c) (r : Result ℕ PoolFault) → Ends (takes swept.0) r c → TraceToResult s k Ends asks r a c
  swept_part f swept r ends = row_at s k Ends asks (takes swept.0) r a c (trace_on s k asks (go_through k n) (takes swept.0) a b c first swept.1) ends

module _ (s : Settings) (n taken : ℕ) (x : Answer) (a b c : CallerState) (is : x ≡ answers.Count n) where
  clear_begins : AppendsAnswer Clear x a b → Trace s kinds.Clear asks a b (go_through kinds.Clear n)
  clear_begins made = trace_by s kinds.Clear asks (go_through kinds.Clear n) Clear x (answers.Count n) a b is made refl refl

  close_begins : AppendsAnswer Close x a b → Trace s kinds.Close asks a b (go_through kinds.Close n)
  close_begins made = trace_by s kinds.Close asks (go_through kinds.Close n) Close x (answers.Count n) a b is made refl (same_sweep n)

  pub cleared : AppendsAnswer Clear x a b → Sweeps s kinds.Clear n (Ok taken) b c → EndsWithOwn c → ClearSpec s (Ok taken) a c
  cleared made swept own = (swept_out s kinds.Clear (ClearEnds s) n taken a b c (clear_begins made) swept own, takes_all Clear n taken x a b c is made swept.1)

  pub cleared_part : (f : PoolFault) → AppendsAnswer Clear x a b → Sweeps s kinds.Clear n (Err (taken, f)) b c → ClearSpec s (Err f) a c
  cleared_part f made swept = (swept_part s kinds.Clear (ClearEnds s) n taken a b c (clear_begins made) f swept (Err f) (swept.3, swept.4), tt)

  pub shut_down : AppendsAnswer Close x a b → Sweeps s kinds.Close n (Ok taken) b c → EndsWithOwn c → CloseSpec s (Ok taken) a c
  shut_down made swept own = (swept_out s kinds.Close (CloseEnds s) n taken a b c (close_begins made) swept own, takes_all Close n taken x a b c is made swept.1)

  pub shut_down_part : (f : PoolFault) → AppendsAnswer Close x a b → Sweeps s kinds.Close n (Err (taken, f)) b c → CloseSpec s (Ok taken) a c
  shut_down_part f made swept =
      (swept_part s kinds.Close (CloseEnds s) n taken a b c (close_begins made) f swept (Ok taken) ((f, swept.3), swept.4), takes_all Close n taken x a b c is made swept.2)

-- if the first critical section failed
module _ (s : Settings) (f : PoolFault) (b c : CallerState) (same : c.appended ≡ b.appended) where
  pub clear_refused : IsRoomFault s Clear f c → ClearSpec s (Err f) b c
  clear_refused why = (row_none s kinds.Clear (ClearEnds s) asks (Err f) b c same why, tt)

  pub close_refused : IsRoomFault s Close f c → CloseSpec s (Err f) b c
  close_refused why = (row_none s kinds.Close (CloseEnds s) asks (Err f) b c same (why, was_closed s why.0 c (unfinished_at s Close f c why.0 why.1)), tt)
