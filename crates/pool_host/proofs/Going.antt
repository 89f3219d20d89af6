-- How a call hears a report, and where what follows is noted under the time that the pool knows.
use Rattle.std.proofs.Common.{◌≡◌, ◌&&◌, ℕ, not, true, List, refl}
use Rattle.std.specs.Option.{is_some}
use Rattle.pool_calls.specs.Operations.{HasCome, Proceeds, fits, is_making, step_at}
use Rattle.pool_calls.specs.Turns.{Turn}
use Rattle.pool_calls.specs.declared.action.Event.TheVariants as events
use Rattle.pool_host.specs.Hosting.{HostedModel}
use Rattle.pool_host.specs.Going.{Heard}
use Rattle.pool_host.specs.declared.call.Call.{Call}
use Rattle.pool_host.specs.declared.report.Report.TheVariants as reports
use Rattle.pool_host.proofs.Moving.{queue_same}
use Rattle.pool_host.proofs.Overtaking.{others_same}
use Rattle.pool_host.proofs.Queueing.{queues_same}
use Rattle.pool_host.proofs.Running.{forgets_none}

-- a call that asks for a step is told to go on
pub heard_none : (at : ℕ) (d : HostedModel) (c : Call) → is_some (step_at c.operation) ≡ true → Heard reports.GoOn at d d c c
heard_none at d c fits = record {
  fits = fits;
  told = refl;
  accepts = record {
    core = refl;
    rest = record { settings = refl; plan = refl; drops = refl };
    token = refl;
    comes = λ turns come. come;
    queue = queues_same c.ticket d.queue d.queue refl refl;
  };
  hears = record { core = forgets_none d.drops d.core d.core refl; drops = refl; served = refl; others = refl; draws_none = λ has. refl; latest = refl };
  longer = refl;
}

-- the factory has done its work
pub heard_success : (at : ℕ) (d : HostedModel) (c m : Call) → Proceeds events.Succeeded c.operation m.operation → (not (is_making c.operation) && fits c.operation events.Succeeded) ≡ true → m.token ≡ c.token
    → ((turns : List Turn) → HasCome c.operation turns → HasCome m.operation turns) → m.ticket ≡ c.ticket → m.was_served ≡ c.was_served → m.longer ≡ c.longer → Heard reports.Succeeded at d d c m
heard_success at d c m told fits token comes ticket served longer = record {
  fits = fits;
  told = told;
  accepts = record { core = refl; rest = record { settings = refl; plan = refl; drops = refl }; token = token; comes = comes; queue = queue_same 0 at d d c m refl ticket };
  hears = record {
    core = forgets_none d.drops d.core d.core refl;
    drops = refl;
    served = served;
    others = others_same c.ticket m.ticket d.queue.waiting d.queue.waiting ticket refl;
    draws_none = λ has. ticket;
    latest = refl;
  };
  longer = longer;
}
