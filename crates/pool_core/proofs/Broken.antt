-- Journals that each violate one safety property.
use Rattle.std.proofs.Common.{List, [], ◌∷◌, ◌++◌, refl, arith}
use Rattle.std.specs.Prelude.{pos}
use Rattle.pool_journal.specs.Latest.{last_some}
use Rattle.pool_journal.specs.Base.{phase_from, drawn_from, present_from, records_from, parked_from, since_from, lent_from, used_from, is_new_from}
use Rattle.pool_journal.specs.declared.entry.Entry.{Entry}
use Rattle.pool_journal.specs.declared.record.Phase.TheVariants as phases
use Rattle.pool_journal.specs.declared.input.Input.{Input}
use Rattle.pool_journal.specs.declared.input.Input.TheVariants.{Borrow, Ready, Add, Added, Close}
use Rattle.pool_journal.specs.declared.input.Outcome.TheVariants.{Good, MakeFailed}
use Rattle.pool_journal.specs.declared.answer.Answer.{Answer}
use Rattle.pool_journal.specs.declared.answer.Answer.TheVariants.{Make, Lent, Parked, Freed, Count}
use Rattle.pool_settings.specs.Defaults.{defaults}
use Rattle.pool_core.specs.Laws.{AtMostMaxTotal, NoneIdleAfterClose, IdsUsedOnce, ExclusiveLoans, ObjectsConserved}
use Rattle.pool_core.specs.Legal.{entry_of}

abbrev said : Input → Answer → Entry
said input answer = entry_of 0 0 input answer

-- an object is made although none may be present
one_too_many : AtMostMaxTotal (record defaults { max_total = pos 0 }) (said Add (Make 0) ∷ []) → ⊥
unfolding present_from drawn_from phase_from last_some
one_too_many law = omega (arith, law)

-- an object is parked after the pool was closed
parked_when_closed : NoneIdleAfterClose (said Add (Make 0) ∷ said Close (Count 0) ∷ said (Added 0 Good) Parked ∷ []) → ⊥
parked_when_closed law = law 1 2 (said Close (Count 0)) (said (Added 0 Good) Parked) (omega arith) refl refl refl 0 refl

-- an object is made for the queue, and making it fails
abbrev made_in_vain : List Entry
made_in_vain = said Add (Make 0) ∷ said (Added 0 MakeFailed) Freed ∷ []

-- an id is made again
made_again : IdsUsedOnce (made_in_vain ++ said Add (Make 0) ∷ []) → ⊥
made_again law =
    law.made_once 0 2 (said Add (Make 0)) (said Add (Make 0)) (omega arith) refl refl 0 refl refl

-- the place of an id is freed again
gone_again : IdsUsedOnce (made_in_vain ++ made_in_vain) → ⊥
gone_again law =
    law.gone_once 1 3 (said (Added 0 MakeFailed) Freed) (said (Added 0 MakeFailed) Freed) (omega arith) refl refl 0 refl refl

-- an object is moved after its place was freed
moved_when_gone : IdsUsedOnce (made_in_vain ++ said Add (Make 0) ∷ []) → ⊥
moved_when_gone law =
    law.gone_stays 1 2 (said (Added 0 MakeFailed) Freed) (said Add (Make 0)) (omega arith) refl refl 0 phases.Adding refl refl

-- an object is lent twice
lent_twice : ExclusiveLoans (said (Borrow 0) (Make 0) ∷ said (Ready 0 Good) Lent ∷ said (Ready 0 Good) Lent ∷ []) → ⊥
lent_twice law =
    let between = law 0 1 2 (said (Ready 0 Good) Lent) (said (Ready 0 Good) Lent) (omega arith) refl refl refl refl in
    omega (arith, between.1, between.2)

-- an id is allocated that is not the next
id_left_out : ObjectsConserved (said Add (Make 1) ∷ []) → ⊥
unfolding records_from present_from drawn_from phase_from parked_from since_from lent_from used_from is_new_from last_some
id_left_out law = absurd (cc law)
