-- No object becomes idle in a closed pool.
use Rattle.std.proofs.Common.{◌≡◌, ℕ, Bool, true, false, List, Option, Some, refl, ap, ◌∙◌}
use Rattle.std.specs.List.{AllByRecursion}
use Rattle.pool_journal.specs.Carrying.{carries}
use Rattle.pool_journal.specs.Queue.{record_in}
use Rattle.pool_journal.specs.declared.record.Record.{Record}
use Rattle.pool_journal.specs.declared.record.Phase.{Phase}
use Rattle.pool_journal.specs.declared.record.Phase.TheVariants as phases
use Rattle.pool_journal.specs.declared.input.Input.{Input}
use Rattle.pool_journal.specs.declared.input.Input.TheVariants.{Park, Added, Tested}
use Rattle.pool_journal.specs.declared.input.Outcome.TheVariants as outcomes
use Rattle.pool_journal.specs.declared.answer.Answer.{Answer}
use Rattle.pool_journal.specs.declared.answer.Answer.TheVariants as answers
use Rattle.pool_settings.specs.declared.settings.Settings.{Settings}
use Rattle.pool_core.specs.Reply.{park_reply, added_reply, tested_reply, phase_of, reply_from_records}
use Rattle.pool_core.specs.Steps.{keeps_value, IsEnabled}
use Rattle.pool_core.proofs.Finding.{finds_of}

-- an object keeps a value that the input brings
keeping_carries : (input : Input) (a : Answer) (rs : List Record) (next : ℕ) → IsEnabled input a rs next → keeps_value a ≡ true
    → carries input ≡ true
keeping_carries input answers.Parked rs next finds is = finds.1
keeping_carries input answers.Kept rs next finds is = finds.1
keeping_carries input _ rs next finds is = absurd (cc is)

park_keeps_none : (p : Phase) → keeps_value (park_reply p outcomes.Good false) ≡ false
park_keeps_none phases.Returning = refl
park_keeps_none _ = refl

added_keeps_none : (p : Phase) → keeps_value (added_reply p outcomes.Good false) ≡ false
added_keeps_none phases.Adding = refl
added_keeps_none _ = refl

tested_keeps_none : (p : Phase) → keeps_value (tested_reply p outcomes.Good false) ≡ false
tested_keeps_none phases.Testing = refl
tested_keeps_none _ = refl

-- a value that is returned to a closed pool is not kept
carried_is_not_kept : (S : Settings) (rs : List Record) (next : ℕ) (cursor : Option ℕ) (at : ℕ) (input : Input)
    → carries input ≡ true → keeps_value (reply_from_records S rs next true cursor at input) ≡ false
carried_is_not_kept S rs next cursor at (Park i outcomes.Good) carried = park_keeps_none (phase_of (record_in rs i))
carried_is_not_kept S rs next cursor at (Added i outcomes.Good) carried = added_keeps_none (phase_of (record_in rs i))
carried_is_not_kept S rs next cursor at (Tested i outcomes.Good) carried = tested_keeps_none (phase_of (record_in rs i))
carried_is_not_kept S rs next cursor at (Park i _) carried = absurd (cc carried)
carried_is_not_kept S rs next cursor at (Added i _) carried = absurd (cc carried)
carried_is_not_kept S rs next cursor at (Tested i _) carried = absurd (cc carried)
carried_is_not_kept S rs next cursor at _ carried = absurd (cc carried)

pub closed_keeps_none : (S : Settings) (rs : List Record) (next : ℕ) (shut : Bool) (cursor : Option ℕ) (at : ℕ) (input : Input)
    (a : Answer) → AllByRecursion (λ r. record_in rs r.id ≡ Some r) rs → a ≡ reply_from_records S rs next shut cursor at input → shut ≡ true
    → keeps_value a ≡ false
closed_keeps_none S rs next shut cursor at input a found due is_closed = by_test (keeps_value a) refl
  where
    finds : IsEnabled input a rs next
    finds = finds_of S rs next shut cursor at input a found due

    by_test : (b : Bool) → keeps_value a ≡ b → keeps_value a ≡ false
    by_test false is = is
    by_test true is =
        ap keeps_value (due ∙ ap (λ (b : Bool). reply_from_records S rs next b cursor at input) is_closed)
        ∙ carried_is_not_kept S rs next cursor at input (keeping_carries input a rs next finds is)
