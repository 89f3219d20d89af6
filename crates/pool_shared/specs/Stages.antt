-- Short names for stages of the calls.
use Rattle.std.specs.Prelude.{ℕ}
use Rattle.pool_calls.specs.declared.action.End.TheVariants as ends
use Rattle.pool_calls.specs.declared.stage.Request.TheVariants as requests
use Rattle.pool_calls.specs.declared.stage.Stage.{Stage}
use Rattle.pool_calls.specs.declared.stage.Stage.TheVariants as stages

-- a borrow begins to remove abandoned objects
abbrev pub begins : Stage
begins = stages.Asks requests.Begin

-- a call asks the pool
abbrev pub asks : Stage
asks = stages.Asks requests.Ask

-- it takes the next of the objects that the pool counted, which up to this many more may follow
abbrev pub takes : ℕ → Stage
takes left = stages.Asks (requests.Next left)

-- it did all that it was to do
abbrev pub complete : Stage
complete = stages.Ends ends.Complete
