-- The trace of a removal of abandoned objects.
use Rattle.std.proofs.Common.{◌≡◌, inl, inr, Bool, true, false, true≢false, Option, None, Some, ℕ, ◌-◌, ◌<◌, Result, Ok, Err, refl, subst, arith}
use Rattle.pool_journal.specs.declared.input.Input.TheVariants.{Reclaim, ReclaimNext}
use Rattle.pool_journal.specs.declared.input.When.{When}
use Rattle.pool_journal.specs.declared.input.When.TheVariants as times
use Rattle.pool_journal.specs.declared.answer.Answer.{Answer}
use Rattle.pool_journal.specs.declared.answer.Answer.TheVariants as answers
use Rattle.pool_journal.specs.Base.{empty_base, records_from}
use Rattle.pool_journal.specs.Queue.{first_of}
use Rattle.pool_journal.specs.declared.record.Record.{Record}
use Rattle.pool_settings.specs.declared.settings.Settings.{Settings}
use Rattle.pool_core.specs.Completion.{is_completing}
use Rattle.pool_core.specs.Reply.{reply, abandoned_objects, reclaim_next_reply}
use Rattle.pool_history.specs.CallerStates.{CallerState}
use Rattle.pool_lock.specs.Sections.{AppendsAnswer}
use Rattle.pool_shared.specs.declared.faults.PoolFault.{PoolFault}
use Rattle.pool_calls.specs.declared.kind.Kind.{Kind}
use Rattle.pool_calls.specs.declared.kind.Kind.TheVariants as kinds
use Rattle.pool_calls.specs.Steps.{next_of, is_counted}
use Rattle.pool_calls.specs.Table.{go_through, through, after_next, after_removing}
use Rattle.pool_shared.specs.Counts.{Counts}
use Rattle.pool_shared.specs.Stages.{asks, takes, complete}
use Rattle.pool_shared.specs.Traces.{Trace}
use Rattle.pool_shared.specs.TraceToResult.{IsRoomFault}
use Rattle.pool_shared.specs.Reclaims.{IsStopped, ReclaimEnds, ReclaimSpec, MayReclaim, Reclaims, HasBegun, Removes}
use Rattle.pool_shared.proofs.Traces.{trace_one, trace_on, trace_more, trace_none, takes_next, count_one}
use Rattle.pool_shared.proofs.TracesToResults.{row_at, row_none, unfinished_at}

asks_next : (k : Kind) → MayReclaim k → ReclaimNext ≡ next_of k
asks_next (kinds.Borrow began) may = refl
asks_next kinds.Reclaim may = refl
asks_next _ may = absurd may

removes_next : (k : Kind) (left : ℕ) (a : Answer) → MayReclaim k → after_next k left a ≡ after_removing k left a
removes_next (kinds.Borrow began) left a may = refl
removes_next kinds.Reclaim left a may = refl
removes_next _ left a may = absurd may

-- a removal that may reclaim more objects
module _ (s : Settings) (k : Kind) (may : MayReclaim k) (count left : ℕ) (some : 0 < left) (a b : CallerState) (w : Trace s k (go_through k count) a b (go_through k left)) where
  -- an object was reclaimed
  pub took_away : (i : ℕ) (x : Answer) (c : CallerState) → x ≡ answers.Reclaimed i → AppendsAnswer ReclaimNext x b c → Trace s k (go_through k count) a c (go_through k (left - 1))
  took_away i x c is made =
      trace_more s k (go_through k count) (takes (left - 1)) (go_through k (left - 1)) ReclaimNext x (answers.Reclaimed i) a b c (takes_next s k count left a b some w) is made (asks_next k may) (removes_next k (left - 1) (answers.Reclaimed i) may)

  -- no object was left
  pub none_abandoned : (x : Answer) (c : CallerState) → x ≡ answers.Nothing → AppendsAnswer ReclaimNext x b c → Trace s k (go_through k count) a c (through k)
  none_abandoned x c is made =
      trace_more s k (go_through k count) (takes (left - 1)) (through k) ReclaimNext x answers.Nothing a b c (takes_next s k count left a b some w) is made (asks_next k may) (removes_next k (left - 1) answers.Nothing may)

  -- a removal that stopped with an error
  pub stopped : (f : PoolFault) (c : CallerState) → c.appended ≡ b.appended → IsStopped s f c → Reclaims s k count (Err f) a c
  stopped f c same room = (left - 1, trace_on s k (go_through k count) (takes (left - 1)) (takes (left - 1)) a b c (takes_next s k count left a b some w) (trace_none s k (takes (left - 1)) b c same), room)

-- a removal that reclaimed up to its full number
pub all_taken : (s : Settings) (k : Kind) (count left : ℕ) (a b : CallerState) → left ≡ 0 → Trace s k (go_through k count) a b (go_through k left) → Trace s k (go_through k count) a b (through k)
all_taken s k count left a b none w = subst (λ n. Trace s k (go_through k count) a b (go_through k n)) none w

takes_none : (b : Bool) (o : Option Record) → is_completing (reclaim_next_reply b o) ReclaimNext ≡ false → reclaim_next_reply b o ≡ answers.Nothing
takes_none true (Some r) is = absurd (true≢false is)
takes_none true None is = refl
takes_none false o is = refl

-- a ReclaimNext failed that would have reclaimed nothing
none_there : (s : Settings) (at : ℕ) (me : CallerState) → is_completing (reply s me.observed at ReclaimNext) ReclaimNext ≡ false → reply s me.observed at ReclaimNext ≡ answers.Nothing
none_there s at me unfinished = takes_none s.abandoned (first_of (abandoned_objects s at (records_from empty_base me.observed))) unfinished

pub stops : (s : Settings) (f : PoolFault) (me : CallerState) → IsRoomFault s ReclaimNext f me → IsStopped s f me
stops s f me why = (why.0, why.1, none_there s why.0 me (unfinished_at s ReclaimNext f me why.0 why.1))

-- a removal that got the number of abandoned objects
pub removal : (s : Settings) (time : When) (count : ℕ) (r : Result ℕ PoolFault) (x : Answer) (a b c : CallerState) → x ≡ answers.Count count → AppendsAnswer (Reclaim time) x a b
    → ((k : Kind) → MayReclaim k → Reclaims s k count r b c) → Removes s time r a c
removal s time count (Ok n) x a b c is made reclaims = (count, b, subst (λ y. AppendsAnswer (Reclaim time) y a b) is made, reclaims)
removal s time count (Err f) x a b c is made reclaims = inr (count, b, subst (λ y. AppendsAnswer (Reclaim time) y a b) is made, reclaims)

-- a removal whose first critical section failed
pub removal_refused : (s : Settings) (time : When) (f : PoolFault) (b c : CallerState) → c.appended ≡ b.appended → IsRoomFault s (Reclaim time) f c → Removes s time (Err f) b c
removal_refused s time f b c same why = inl (same, why)

begins_with : (s : Settings) (count : ℕ) (a b : CallerState) → AppendsAnswer (Reclaim times.Maintain) (answers.Count count) a b → Trace s kinds.Reclaim asks a b (go_through kinds.Reclaim count)
begins_with s count a b made = trace_one s kinds.Reclaim asks (go_through kinds.Reclaim count) (Reclaim times.Maintain) (answers.Count count) a b made refl refl

begun : (s : Settings) (r : Result ℕ PoolFault) (a c : CallerState) → HasBegun s times.Maintain r a c → ReclaimSpec s r a c
begun s (Ok n) a c row =
    let from = go_through kinds.Reclaim row.0 in
    let all = row.3 kinds.Reclaim tt in
    let none : Counts kinds.Reclaim 0 a row.1 = count_one (is_counted kinds.Reclaim) (Reclaim times.Maintain) (answers.Count row.0) (answers.Count row.0) a row.1 refl row.2 in
    (row_at s kinds.Reclaim (ReclaimEnds s) asks complete (Ok n) a c (trace_on s kinds.Reclaim asks from complete a row.1 c (begins_with s row.0 a row.1 row.2) all.0) all.2, omega (arith, none, all.1))
begun s (Err f) a c row =
    let from = go_through kinds.Reclaim row.0 in
    let part = row.3 kinds.Reclaim tt in
    (row_at s kinds.Reclaim (ReclaimEnds s) asks (takes part.0) (Err f) a c (trace_on s kinds.Reclaim asks from (takes part.0) a row.1 c (begins_with s row.0 a row.1 row.2) part.1) part.2, tt)

-- a removal for maintenance
pub maintains : (s : Settings) (r : Result ℕ PoolFault) (a c : CallerState) → Removes s times.Maintain r a c → ReclaimSpec s r a c
maintains s (Ok n) a c row = begun s (Ok n) a c row
maintains s (Err f) a c (inl none) = (row_none s kinds.Reclaim (ReclaimEnds s) asks (Err f) a c none.0 none.1, tt)
maintains s (Err f) a c (inr later) = begun s (Err f) a c later
