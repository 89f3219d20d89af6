-- Each present object is idle, lent or reserved.
use Rattle.std.proofs.Common.{◌≡◌, ℕ, ◌+◌, Bool, true, if◌then◌else◌, List, [], ◌∷◌, length, refl, ◌∙◌, arith}
use Rattle.std.specs.Prelude.{count_by}
use Rattle.std.specs.List.{AllByRecursion}
use Rattle.std.proofs.lemmas.Bool.{false≢true}
use Rattle.std.proofs.lemmas.List.{length-map}
use Rattle.std.proofs.lemmas.List.Sums.{sum_by-cons}
use Rattle.pool_journal.specs.Entries.{is_present}
use Rattle.pool_journal.specs.Queue.{is_queued}
use Rattle.pool_journal.specs.declared.record.Record.{Record}
use Rattle.pool_journal.specs.declared.record.Phase.{Phase}
use Rattle.pool_journal.specs.declared.record.Phase.TheVariants as phases
use Rattle.pool_places.specs.declared.place.Place.{Place}
use Rattle.pool_places.specs.PlacesModel.{records_in}
use Rattle.pool_stats.specs.Counts.{is_lent, is_reserved, counts_at}
use Rattle.pool_stats.specs.declared.counts.Counts.{Counts}
use Rattle.pool_core.specs.Stepper.{base_in}
use Rattle.pool_core.specs.declared.state.State.{State}

-- one, if the test holds
abbrev pub one_if : Bool → ℕ
one_if b = if b then 1 else 0

pub count_cons : {A : Type 0} (p : A → Bool) (x : A) (xs : List A) → count_by p (x ∷ xs) ≡ one_if (p x) + count_by p xs
count_cons p x xs = sum_by-cons (λ y. one_if (p y)) x xs

is_one : (p : Phase) → is_present p ≡ true → one_if (is_queued p) + one_if (is_lent p) + one_if (is_reserved p) ≡ 1
is_one phases.Absent here = absurd (false≢true here)
is_one phases.Gone here = absurd (false≢true here)
is_one _ here = refl

pub counted : (rs : List Record) → AllByRecursion (λ r. is_present r.phase ≡ true) rs
    → count_by (λ r. is_queued r.phase) rs + count_by (λ r. is_lent r.phase) rs + count_by (λ r. is_reserved r.phase) rs ≡ length rs
counted [] all = refl
counted (r ∷ rs) all =
    let queued = count_cons (λ (x : Record). is_queued x.phase) r rs in
    let lent = count_cons (λ (x : Record). is_lent x.phase) r rs in
    let reserved = count_cons (λ (x : Record). is_reserved x.phase) r rs in
    omega (arith, is_one r.phase all.0, counted rs all.1, queued, lent, reserved)

-- the objects of a pool are idle, lent or reserved
pub counted_places : {T : Type 0} (ps : List (Place T)) → AllByRecursion (λ r. is_present r.phase ≡ true) (records_in ps)
    → count_by (λ r. is_queued r.phase) (records_in ps) + count_by (λ r. is_lent r.phase) (records_in ps) + count_by (λ r. is_reserved r.phase) (records_in ps) ≡ length ps
counted_places ps here = counted (records_in ps) here ∙ length-map ps (λ p. p.known)

-- the counts of the objects of a state and of those that ended
pub counts_in : {T : Type 0} (s : State T) (steps queued lent reserved : ℕ)
    → queued ≡ count_by (λ r. is_queued r.phase) (records_in s.places.objects) → lent ≡ count_by (λ r. is_lent r.phase) (records_in s.places.objects)
    → reserved ≡ count_by (λ r. is_reserved r.phase) (records_in s.places.objects)
    → ◌≡◌ {A = Counts} (record { steps = steps; idle = queued; lent = lent; reserved = reserved; created = s.next; destroyed = s.ended.destroyed; evicted = s.ended.evicted; reclaimed = s.ended.reclaimed })
    (counts_at (base_in s steps))
counts_in s steps queued lent reserved queued_is lent_is reserved_is = λ t.
    record {
      steps = steps;
      idle = queued_is t;
      lent = lent_is t;
      reserved = reserved_is t;
      created = s.next;
      destroyed = s.ended.destroyed;
      evicted = s.ended.evicted;
      reclaimed = s.ended.reclaimed;
    }
