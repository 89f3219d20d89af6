-- A call that is given up ends soon.
use Rattle.std.proofs.Common.{◌≡◌, refl, ◌<◌, ◌≤◌, Bool, true, false, not, ◌&&◌, List, [], ◌∷◌, length, ◌∙◌, arith}
use Rattle.pool_calls.specs.declared.action.Event.{Event}
use Rattle.pool_calls.specs.declared.action.Event.TheVariants as events
use Rattle.pool_calls.specs.declared.operation.Operation.{Operation}
use Rattle.pool_calls.specs.Left.{reports_left}
use Rattle.pool_calls.specs.Progress.{is_given_up}
use Rattle.pool_calls.specs.Rules as rules
use Rattle.pool_calls.specs.Operations.{Proceeds, fits}
use Rattle.pool_calls.specs.Runs.{EndsSoon, Run}

never_again : (given_up over : Bool) (A : Type 0) → given_up ≡ true → (not given_up && not over) ≡ true → A
never_again true over A is again = absurd (cc again)
never_again false over A is again = absurd (cc is)

-- each report brings the end nearer
nearer : (e : Event) (a b : Operation) → a.given_up ≡ true → fits a e ≡ true → Proceeds e a b → reports_left b.place < reports_left a.place
unfolding Proceeds fits
nearer events.Cancelled a b is fit goes = never_again a.given_up (rules.is_over a.place) _ is fit
nearer (events.Answered x) a b is fit goes = goes.takes.ends.0 is
nearer (events.NotTaken f) a b is fit goes = goes.takes.ends is
nearer events.RoomMade a b is fit goes = goes.takes.ends is
nearer events.NoRoom a b is fit goes = goes.takes.ends is
nearer events.Succeeded a b is fit goes = goes.takes.ends is
nearer events.Failed a b is fit goes = goes.takes.ends is
nearer events.Queued a b is fit goes = goes.takes.ends is
nearer events.Woken a b is fit goes = goes.takes.ends is
nearer events.TimeOver a b is fit goes = goes.takes.ends is

still : (e : Event) (given_up : Bool) → given_up ≡ true → is_given_up given_up e ≡ true
still events.Cancelled given_up is = refl
still _ given_up is = is

few : (es : List Event) (a b : Operation) → a.given_up ≡ true → Run es a b → length es ≤ reports_left a.place
unfolding Proceeds fits
few [] a b is run = omega arith
few (e ∷ es) a b is (mid, fit, goes, rest) =
    omega (arith, nearer e a mid is fit goes, few es mid b (goes.given_up ∙ still e a.given_up is) rest)

pub ends_soon : EndsSoon
ends_soon es a b is run = omega (arith, few es a b is run, a.few_left is)
