-- The second steps of a borrow and of a return, after the first.
use Rattle.std.proofs.Common.{◌≡◌, ℕ, Bool, true, false, if◌then◌else◌, List, refl, ap, sym, ◌∙◌}
use Rattle.pool_journal.specs.Base.{phase_from, is_new_from, closed_from, drawn_from, records_from}
use Rattle.pool_journal.specs.Sound.{IsWellFormed}
use Rattle.pool_journal.specs.declared.answer.Answer.TheVariants as answers
use Rattle.pool_journal.specs.declared.base.Base.{Base}
use Rattle.pool_journal.specs.declared.entry.Entry.{Entry}
use Rattle.pool_journal.specs.declared.input.Input.TheVariants.{Ready, Park}
use Rattle.pool_journal.specs.declared.input.Outcome.TheVariants as outcomes
use Rattle.pool_journal.specs.declared.record.Phase.{Phase}
use Rattle.pool_journal.specs.declared.record.Phase.TheVariants as phases
use Rattle.pool_settings.specs.declared.settings.Settings.{Settings}
use Rattle.pool_core.specs.Legal.{IsLegalFrom}
use Rattle.pool_core.specs.Reply.{has_room, park_reply, ready_reply, reply_from}
use Rattle.pool_core.proofs.Legality.{legal_reaches_from}
use Rattle.pool_core.proofs.Tables.{asks_from}

-- a good object is lent, whether it is new or not
good_is_lent : (new : Bool) → ready_reply phases.Readying new outcomes.Good ≡ answers.Lent
good_is_lent true = refl
good_is_lent false = refl

module _ (S : Settings) (b : Base) (J : List Entry) (sound : IsWellFormed b) (legal : IsLegalFrom S b J) (at i : ℕ) where
  -- an object that is being made ready is lent, if it is good
  pub lent_of : phase_from b i J ≡ phases.Readying → answers.Lent ≡ reply_from S b J at (Ready i outcomes.Good)
  lent_of readying =
      sym (good_is_lent (is_new_from b i J)) ∙ sym (ap (λ (p : Phase). ready_reply p (is_new_from b i J) outcomes.Good) readying)
      ∙ asks_from b J (records_from b J) (drawn_from b J) (legal_reaches_from S b J sound legal) i (λ p new. ready_reply p new outcomes.Good)
      (λ new. refl) (λ new. refl)

  -- a returned object becomes idle, if it is good and the queue has room, and is destroyed if it has none
  pub parked_of : (room : Bool) → room ≡ has_room S (closed_from b J) (records_from b J) → phase_from b i J ≡ phases.Returning
      → (if room then answers.Parked else answers.Destroy) ≡ reply_from S b J at (Park i outcomes.Good)
  parked_of room is returning =
      ap (λ (r : Bool). if r then answers.Parked else answers.Destroy) is
      ∙ sym (ap (λ (p : Phase). park_reply p outcomes.Good (has_room S (closed_from b J) (records_from b J))) returning)
      ∙ asks_from b J (records_from b J) (drawn_from b J) (legal_reaches_from S b J sound legal) i
      (λ p new. park_reply p outcomes.Good (has_room S (closed_from b J) (records_from b J))) (λ new. refl) (λ new. refl)
