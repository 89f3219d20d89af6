-- The queue by the records.
use Rattle.std.proofs.Common.{◌≡◌, ◌≢◌, ℕ, ◌<◌, ◌==◌, true, false, List, [], ◌∷◌, Option, Some, None, refl, ap, ◌∙◌, arith, subst, inl, inr}
use Rattle.std.specs.Prelude.{IsSomeAnd, IsTrue}
use Rattle.std.specs.List.{AllByRecursion}
use Rattle.std.proofs.lemmas.Bool.Decides.{nat_tests}
use Rattle.pool_journal.specs.declared.record.Record.{Record}
use Rattle.pool_journal.specs.declared.record.Phase.{Phase}
use Rattle.pool_journal.specs.declared.record.Phase.TheVariants as phases
use Rattle.pool_journal.specs.Queue.{record_in, is_queued}
use Rattle.pool_places.specs.declared.place.Place.{Place}
use Rattle.pool_places.specs.Changes.{opens_as, IdsBelow, IsFreePosition, QueueBelow}
use Rattle.pool_places.specs.QueueEntries.{QueueEntry, IsEntry, IsQueueOf}
use Rattle.pool_places.proofs.Entries.{all_mapped}
use Rattle.pool_places.proofs.Found.{Found}
use Rattle.pool_places.proofs.Picked.{Among, among_found}

pub found_id : {T : Type 0} {ps : List (Place T)} {i k : ℕ} {q : Place T} → Found ps i k q → q.known.id ≡ i
found_id {q} here = ap (λ x. x.known.id) here.read ∙ here.at.has_id q

-- an id above all others
pub record_absent : (i : ℕ) (rs : List Record) → IdsBelow i rs → record_in rs i ≡ None
record_absent i [] below = refl
record_absent i (r ∷ rs) below = (let apart : (i == r.id) ≡ false = grind (arith, nat_tests, below.0) in rw apart (record_absent i rs below.1))

pub opened_not_queued : (p : Phase) → IsTrue (opens_as p) → is_queued p ≡ false
opened_not_queued phases.Idle is = absurd (cc is)
opened_not_queued phases.Testing is = absurd (cc is)
opened_not_queued _ is = refl

among_has : (P : Record → Type 0) (r : Record) (rs : List Record) → AllByRecursion P rs → Among r rs → P r
among_has P r [] all among = absurd among
among_has P r (x ∷ rs) all among = elim among [ inl here ↦ subst P here all.0 | inr later ↦ among_has P r rs all.1 later ]

-- a position above all in the queue is above those of all entries
pub entries_below : (n : ℕ) (rs : List Record) (qs : List QueueEntry) → QueueBelow n rs → IsQueueOf (record_in rs) qs → AllByRecursion (λ q. q.parked < n) qs
entries_below n rs qs below is = all_mapped (λ q. IsSomeAnd (record_in rs q.id) (IsEntry q)) (λ q. q.parked < n) qs (λ q e. by_record q (record_in rs q.id) refl e) is.each
  where
    by_record : (q : QueueEntry) (o : Option Record) → record_in rs q.id ≡ o → IsSomeAnd o (IsEntry q) → q.parked < n
    by_record q None is e = absurd e
    by_record q (Some r) is e = let under = among_has (λ x. is_queued x.phase ≡ true → x.parked < n) r rs below (among_found q.id r rs is).0 e.queued in omega (arith, under, e.parked)

-- a position that is free among the records is free among the entries
pub entries_free : (n : ℕ) (rs : List Record) (qs : List QueueEntry) → IsFreePosition n rs → IsQueueOf (record_in rs) qs → AllByRecursion (λ q. q.parked ≢ n) qs
entries_free n rs qs free is = all_mapped (λ q. IsSomeAnd (record_in rs q.id) (IsEntry q)) (λ q. q.parked ≢ n) qs (λ q e. by_record q (record_in rs q.id) refl e) is.each
  where
    by_record : (q : QueueEntry) (o : Option Record) → record_in rs q.id ≡ o → IsSomeAnd o (IsEntry q) → q.parked ≢ n
    by_record q None is e = absurd e
    by_record q (Some r) is e = λ same. among_has (λ x. is_queued x.phase ≡ true → x.parked ≢ n) r rs free (among_found q.id r rs is).0 e.queued (e.parked ∙ same)
