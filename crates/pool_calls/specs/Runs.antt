-- What a call is told, one report after the other.
use Rattle.std.specs.Prelude.{◌≡◌, ◌≤◌, true, List, [], ◌∷◌, length}
use Rattle.pool_journal.specs.declared.input.Outcome.{Outcome}
use Rattle.pool_calls.specs.declared.action.Event.{Event}
use Rattle.pool_calls.specs.declared.operation.Operation.{Operation}
use Rattle.pool_calls.specs.declared.stage.Object.{Object}
use Rattle.pool_calls.specs.declared.stage.Place.{Place}
use Rattle.pool_calls.specs.declared.stage.Place.TheVariants as places
use Rattle.pool_calls.specs.Operations.{HasCome, Proceeds, fits}
use Rattle.pool_calls.specs.Steps.{destroys}
use Rattle.pool_calls.specs.Turns.{Turn}

-- a call goes on by these events, each of which fits
abbrev pub Run : List Event → Operation → Operation → Type 0
Run [] before after = after ≡ before
Run (e ∷ es) before after =
    (mid : Operation) × (fits before e ≡ true) × Proceeds e before mid × Run es mid after

-- a call that is given up is told at most three more
abbrev pub EndsSoon : Type 0
EndsSoon = (es : List Event) (before after : Operation) → before.given_up ≡ true → Run es before after → length es ≤ 3

-- the call destroys the object at this place, or has done so
abbrev pub HasDestroyed : Object → Place → Type 0
HasDestroyed object (places.Destroys o same) = same ≡ object
HasDestroyed object (places.Frees o same) = same ≡ object
HasDestroyed object _ = ⊥

-- A call comes to free the place of an object only after the factory destroyed it. A detachment leaves it to its holder
abbrev pub FreesOnlyDestroyed : Type 0
FreesOnlyDestroyed =
    (e : Event) (before after : Operation) (turns : List Turn) (object : Object) (o : Outcome) → HasCome before turns → fits before e ≡ true → Proceeds e before after
    → destroys before.kind ≡ true → after.place ≡ places.Frees o object → HasDestroyed object before.place
