-- The trace of an operation of several critical sections: each entry is the next one after those before it, by the rules of its
-- call.
use Rattle.std.specs.Prelude.{◌≡◌, ℕ, List, [], ◌∷◌, ◌++◌, map}
use Rattle.pool_journal.specs.declared.entry.Entry.{Entry}
use Rattle.pool_journal.specs.declared.input.Input.{Input}
use Rattle.pool_journal.specs.declared.answer.Answer.{Answer}
use Rattle.pool_settings.specs.declared.settings.Settings.{Settings}
use Rattle.pool_core.specs.Legal.{entry_of}
use Rattle.pool_history.specs.CallerStates.{CallerState}
use Rattle.pool_calls.specs.declared.kind.Kind.{Kind}
use Rattle.pool_calls.specs.declared.stage.Stage.{Stage}
use Rattle.pool_calls.specs.Rules.{next, IsExpected}
use Rattle.pool_calls.specs.Turns as turns
use Rattle.pool_calls.specs.Turns.{Turn}
use Rattle.pool_shared.specs.Plans.{plan_of}

-- the input of an entry, and the answer to it
abbrev pub turn_of : Entry → Turn
turn_of e = record { input = e.input; answer = e.answer }

-- the stage of a call of this kind after its entries
abbrev pub run_stages : Kind → Stage → List Entry → Stage
run_stages k stage es = turns.run_stages (next k) stage (map turn_of es)

-- each entry is expected at the stage before it
abbrev pub AllExpected : Settings → Kind → Stage → List Entry → Type 0
AllExpected s k stage es = turns.AllExpected (IsExpected (plan_of s) k) (next k) stage (map turn_of es)

-- the caller appended entries that lead a call of this kind from one stage to another, and no others
pub record Trace (s : Settings) (k : Kind) (from : Stage) (before after : CallerState) (to : Stage) : Type 0 where
  pub es : List Entry
  pub made : after.appended ≡ before.appended ++ es
  pub due : AllExpected s k from es
  pub comes : run_stages k from es ≡ to

-- the last entry that the caller appended is at the end of its observed history
pub record Ends (input : Input) (a : Answer) (me : CallerState) : Type 0 where
  pub at : ℕ
  pub made : List Entry
  pub found : List Entry
  pub last_made : me.appended ≡ made ++ entry_of me.number at input a ∷ []
  pub last_seen : me.observed ≡ found ++ entry_of me.number at input a ∷ []

abbrev pub EndsWithOwn : CallerState → Type 0
EndsWithOwn me = (input : Input) × (a : Answer) × Ends input a me
