-- The safety properties of legal entries after a base that a pool can continue from, and of whole legal journals.
use Rattle.std.specs.Prelude.{◌≡◌, ◌≢◌, ◌⊎◌, ℕ, ◌+◌, ◌<◌, ◌≤◌, true, List, take, slice_get, length, Some, ℤ, pos, negsuc, ⊤}
use Rattle.pool_journal.specs.Base.{empty_base, phase_from, present_from}
use Rattle.pool_journal.specs.Entries.{move_of_entry, lends, is_closing, is_make_answer}
use Rattle.pool_journal.specs.declared.base.Base.{Base}
use Rattle.pool_journal.specs.declared.entry.Entry.{Entry}
use Rattle.pool_journal.specs.declared.record.Phase.{Phase}
use Rattle.pool_journal.specs.declared.record.Phase.TheVariants as phases
use Rattle.pool_journal.specs.declared.answer.Answer.TheVariants as answers
use Rattle.pool_stats.specs.Counts.{counts_from}
use Rattle.pool_stats.specs.declared.counts.Counts.{Counts}
use Rattle.pool_settings.specs.declared.settings.Settings.{Settings}

-- P holds of each two entries, the first of which is before the second
abbrev pub EachTwo : List Entry → (Entry → Entry → Type 0) → Type 0
EachTwo J P = (k l : ℕ) (e f : Entry) → k < l → slice_get J k ≡ Some e → slice_get J l ≡ Some f → P e f

-- at most a limit; a negative limit is no limit
abbrev pub IsWithin : ℤ → ℕ → Type 0
IsWithin (pos limit) n = n ≤ limit
IsWithin (negsuc _) n = ⊤

-- at most a limit, or at most another number
abbrev pub IsWithinOr : ℤ → ℕ → ℕ → Type 0
IsWithinOr limit most n = IsWithin limit n ⊎ (n ≤ most)

-- fewer than a limit; a negative limit is no limit
abbrev pub IsBelow : ℤ → ℕ → Type 0
IsBelow (pos limit) n = n < limit
IsBelow (negsuc _) n = ⊤

-- the number of present objects is within the limit of the settings
abbrev pub AtMostMaxTotalFrom : Settings → Base → List Entry → Type 0
AtMostMaxTotalFrom S b J = IsWithin S.max_total (length (present_from b J))

-- the number of present objects is within the limit of the settings, or at most that of the base
abbrev pub AtMostMaxTotalOrBase : Settings → Base → List Entry → Type 0
AtMostMaxTotalOrBase S b J = IsWithinOr S.max_total (length b.records) (length (present_from b J))

-- an object is made only while fewer are present than the limit of the settings
abbrev pub MadeBelowMaxTotal : Settings → Base → List Entry → Type 0
MadeBelowMaxTotal S b J =
    (k : ℕ) (e : Entry) → slice_get J k ≡ Some e → is_make_answer e.answer ≡ true → IsBelow S.max_total (length (present_from b (take k J)))

-- after an entry that closes the pool, no entry moves an object to Idle
abbrev pub NoneIdleAfterClose : List Entry → Type 0
NoneIdleAfterClose J = EachTwo J (λ e f. is_closing e.answer e.input ≡ true → (i : ℕ) → move_of_entry f ≢ Some (i, phases.Idle))

-- after a base of a closed pool, no entry moves an object to Idle
abbrev pub NoneIdleAfterClosedBase : Base → List Entry → Type 0
NoneIdleAfterClosedBase b J = b.closed ≡ true → (k : ℕ) (e : Entry) → slice_get J k ≡ Some e → (i : ℕ) → move_of_entry e ≢ Some (i, phases.Idle)

-- each id is made at most once and its place freed at most once, and no entry after that moves it
pub record IdsUsedOnce (J : List Entry) : Type 0 where
  pub made_once : EachTwo J (λ e f. (i : ℕ) → e.answer ≡ answers.Make i → f.answer ≢ answers.Make i)
  pub gone_once : EachTwo J (λ e f. (i : ℕ) → move_of_entry e ≡ Some (i, phases.Gone) → move_of_entry f ≢ Some (i, phases.Gone))
  pub gone_stays : EachTwo J (λ e f. (i : ℕ) (p : Phase) → move_of_entry e ≡ Some (i, phases.Gone) → move_of_entry f ≢ Some (i, p))

-- no object that was created before is made again
abbrev pub MadeAnew : Base → List Entry → Type 0
MadeAnew b J = (k : ℕ) (e : Entry) → slice_get J k ≡ Some e → (i : ℕ) → e.answer ≡ answers.Make i → b.drawn ≤ i

-- the entry at position m of the entries moves i out of Lent
pub record LeavesLentFrom (b : Base) (J : List Entry) (i m : ℕ) : Type 0 where
  pub lent_before : phase_from b i (take m J) ≡ phases.Lent
  pub not_after : phase_from b i (take (m + 1) J) ≢ phases.Lent

-- between two entries that lend i, another one moves it out of Lent
abbrev pub ExclusiveLoansFrom : Base → List Entry → Type 0
ExclusiveLoansFrom b J =
    (i k l : ℕ) (e f : Entry) → k < l → slice_get J k ≡ Some e → slice_get J l ≡ Some f → lends i e ≡ true → lends i f ≡ true
    → (m : ℕ) × (k < m) × (m < l) × LeavesLentFrom b J i m

-- each object that was made is idle, lent or reserved, or was destroyed or reclaimed
abbrev pub AddsUp : Counts → Type 0
AddsUp c = c.created ≡ c.idle + c.lent + c.reserved + c.destroyed + c.reclaimed

-- no object is lost
abbrev pub ObjectsConservedFrom : Base → List Entry → Type 0
ObjectsConservedFrom b J = AddsUp (counts_from b J)

-- the safety properties of entries after a base, whatever the settings of each were
pub record LastingPropertiesFrom (b : Base) (J : List Entry) : Type 0 where
  pub closed_parks_none : NoneIdleAfterClose J
  pub closed_base_parks_none : NoneIdleAfterClosedBase b J
  pub made_and_gone_once : IdsUsedOnce J
  pub made_anew : MadeAnew b J
  pub lent_in_turn : ExclusiveLoansFrom b J
  pub nothing_lost : ObjectsConservedFrom b J

-- the safety properties of legal entries after a base
pub record SafetyPropertiesFrom (S : Settings) (b : Base) (J : List Entry) : Type 0 where
  pub at_most_max_total : AtMostMaxTotalFrom S b J
  pub made_below_max_total : MadeBelowMaxTotal S b J
  pub lasting : LastingPropertiesFrom b J

-- ---- of whole journals

abbrev pub AtMostMaxTotal : Settings → List Entry → Type 0
AtMostMaxTotal S J = AtMostMaxTotalFrom S empty_base J

abbrev pub LeavesLent : List Entry → ℕ → ℕ → Type 0
LeavesLent J i m = LeavesLentFrom empty_base J i m

abbrev pub ExclusiveLoans : List Entry → Type 0
ExclusiveLoans J = ExclusiveLoansFrom empty_base J

abbrev pub ObjectsConserved : List Entry → Type 0
ObjectsConserved J = ObjectsConservedFrom empty_base J

abbrev pub SafetyProperties : Settings → List Entry → Type 0
SafetyProperties S J = SafetyPropertiesFrom S empty_base J
