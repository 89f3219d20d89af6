-- The inputs of the entries of a call.
use Rattle.std.proofs.Common.{◌≡◌, ℕ, Bool, List, [], ◌∷◌, ap, ◌∙◌}
use Rattle.pool_journal.specs.declared.entry.Entry.{Entry}
use Rattle.pool_journal.specs.declared.input.Input.{Input}
use Rattle.pool_journal.specs.declared.input.Input.TheVariants.{Destroyed}
use Rattle.pool_journal.specs.declared.input.Outcome.{Outcome}
use Rattle.pool_settings.specs.declared.settings.Settings.{Settings}
use Rattle.pool_calls.specs.declared.kind.Kind.{Kind}
use Rattle.pool_calls.specs.declared.stage.Request.{Request}
use Rattle.pool_calls.specs.declared.stage.Stage.{Stage}
use Rattle.pool_calls.specs.declared.stage.Stage.TheVariants as stages
use Rattle.pool_calls.specs.Rules.{next, step_for, IsExpected}
use Rattle.pool_calls.specs.Steps.{report_of, outcome_of}
use Rattle.pool_shared.specs.Plans.{plan_of}
use Rattle.pool_shared.specs.Traces.{turn_of, AllExpected}

-- the test has this result at the input of each entry
abbrev pub AllTest : (Input → Bool) → Bool → List Entry → Type 0
AllTest test b [] = Unit {0}
AllTest test b (e ∷ es) = (test e.input ≡ b) × AllTest test b es

-- a test that has this result at each input of a call of this kind
module _ (s : Settings) (k : Kind) (test : Input → Bool) (b : Bool) (asking : (request : Request) → test (step_for k request) ≡ b) (reporting : (i : ℕ) (o : Outcome) → test (report_of k i o) ≡ b) (freeing : (i : ℕ) → test (Destroyed i) ≡ b) where
  tests_input : (st : Stage) (input : Input) → IsExpected (plan_of s) k st input → test input ≡ b
  tests_input (stages.Asks request) input due = ap test due ∙ asking request
  tests_input (stages.Works object) input due = ap test due.0 ∙ reporting object.id (outcome_of input)
  tests_input (stages.Removes object o) input due = ap test due ∙ freeing object.id
  tests_input _ input due = absurd due

  pub tests_inputs : (st : Stage) (es : List Entry) → AllExpected s k st es → AllTest test b es
  tests_inputs st [] due = tt
  tests_inputs st (e ∷ es) due = (tests_input st e.input due.0, tests_inputs (next k st (turn_of e)) es due.1)
