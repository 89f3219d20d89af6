-- The guarantees to a borrower follow from the safety properties of its observed history.
use Rattle.std.proofs.Common.{◌≡◌, ◌<◌, ℕ, zero, suc, true, List, [], ◌∷◌, ◌++◌, length, slice_get, Some, Result, Ok, Err, eq-eqb, refl, sym, subst, arith}
use Rattle.std.specs.Prelude.{IfOk}
use Rattle.pool_journal.specs.Entries.{lends}
use Rattle.pool_journal.specs.Journal.{phase}
use Rattle.pool_journal.specs.declared.answer.Answer.TheVariants.{Lent as is_lent}
use Rattle.pool_journal.specs.declared.input.Input.TheVariants.{Ready}
use Rattle.pool_journal.specs.declared.input.Outcome.TheVariants.{Good}
use Rattle.pool_journal.specs.declared.record.Phase.TheVariants as phases
use Rattle.pool_settings.specs.declared.settings.Settings.{Settings}
use Rattle.atomic_table.specs.Seated.{TableId}
use Rattle.pool_core.specs.Laws.{AtMostMaxTotal}
use Rattle.pool_core.specs.Legal.{IsLegal, entry_of}
use Rattle.pool_core.proofs.Lawful.{keeps_laws}
use Rattle.pool_history.specs.declared.brands.View.{View}
use Rattle.pool_history.specs.CallerStates.{CallerState, state_of, Advances, CallerInvariant}
use Rattle.pool_history.proofs.Ownership.{at_seam, last_here}
use Rattle.pool_shared.specs.declared.faults.BorrowFault.{BorrowFault}
use Rattle.pool_shared.specs.declared.lent.Lent.{Lent}
use Rattle.pool_calls.specs.declared.stage.Stage.{Stage}
use Rattle.pool_shared.specs.Borrows.{BorrowsFrom}
use Rattle.pool_shared.specs.Promises.{IsAlone}
use Rattle.pool_shared.specs.Traces.{Ends}
use Rattle.pool_shared.proofs.Sweeping.{goes_self}

-- an element of a prefix of a list has the same position in the list
front_has : {A : Type 0} (front rest : List A) (k : ℕ) (x : A) → slice_get front k ≡ Some x → (slice_get (front ++ rest) k ≡ Some x) × (k < length front)
front_has [] rest k x at = absurd (cc at)
front_has (y ∷ ys) rest zero x at = (at, omega arith)
front_has (y ∷ ys) rest (suc k) x at = let later = front_has ys rest k x at in (later.0, omega (arith, later.1))

pub alone : (s : Settings) (i : ℕ) (me : CallerState) → IsLegal s me.observed → Ends (Ready i Good) is_lent me → IsAlone i me
alone s i me legal ends =
    let e = entry_of me.number ends.at (Ready i Good) is_lent in
    let there : lends i e ≡ true = eq-eqb i i refl in
    let laws = keeps_laws s me.observed legal in
    record {
      by = ends;
      lent = subst (λ J. phase i J ≡ phases.Lent) (sym ends.last_seen) (last_here i phases.Lent ends.found e refl).is_in;
      ended =
          λ k x at is.
          let early = front_has ends.found (e ∷ []) k x at in
          laws.lasting.lent_in_turn i k (length ends.found) x e early.1 (subst (λ J. slice_get J k ≡ Some x) (sym ends.last_seen) early.0)
          (subst (λ J. slice_get J (length ends.found) ≡ Some e) (sym ends.last_seen) (at_seam ends.found [] e).0) is there;
    }

-- a borrow that lends
pub alone_of : {T E : Type 0} (s : Settings) (number began : ℕ) (from : Stage) (r : Result (Lent T) (BorrowFault E)) (before after : CallerState) → Advances s before after → BorrowsFrom s number began from r before after → IfOk r (λ l. IsAlone l.id after)
alone_of s number began from (Ok l) before after goes row = alone s l.id after goes.legal row.ends.2
alone_of s number began from (Err f) before after goes row = tt

-- in the observed history the number of present objects is within the limit of the settings
pub within : (s : Settings) (before after : CallerState) → Advances s before after → AtMostMaxTotal s after.observed
within s before after goes = (keeps_laws s after.observed goes.legal).at_most_max_total

-- a caller without a step
pub untouched : (table : TableId) (s : Settings) (id : TableId) (n : ℕ) (v : View) (me : CallerState) → CallerInvariant table s id n v → state_of n v ≡ me → Advances s me me
untouched table s id n v me known is = subst (λ (t : CallerState). Advances s t t) is (goes_self s (state_of n v) record { legal = known.legal; owner_respecting = known.owner_respecting; all = known.all; fits = known.fits })
