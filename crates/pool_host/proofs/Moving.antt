-- What a call does, one thing after the other.
use Rattle.std.proofs.Common.{◌≡◌, ℕ, Bool, true, false, List, [], ◌∷◌, ◌++◌, Option, Some, None, unwrap_or, refl, sym, ap, ◌∙◌, subst}
use Rattle.pool_journal.specs.declared.answer.Answer.{Answer}
use Rattle.pool_journal.specs.declared.input.Input.{Input}
use Rattle.pool_core.specs.Pool.{CoreModel}
use Rattle.pool_calls.specs.declared.action.Event.TheVariants as events
use Rattle.pool_calls.specs.Operations.{HasCome, ComesOn, step_at}
use Rattle.pool_calls.specs.Turns.{Turn}
use Rattle.pool_host.specs.declared.call.Call.{Call}
use Rattle.pool_host.specs.declared.report.Report.{Report}
use Rattle.pool_host.specs.declared.report.Report.TheVariants as reports
use Rattle.pool_host.specs.Hosting.{HostedModel, KeepsRest, Moves, Accepts, Advances, Forgets, GoesFrom, Runs, StartsBy, StartsWith, Takes, TakesFirst, entries_of, has_turn, told, handed}
use Rattle.pool_host.specs.Queueing.{Queues}
use Rattle.pool_host.proofs.Running.{advances_after, advances_none, advances_on, advances_one, advances_then, forgets_none, forgets_settings, takes_settings}
use Rattle.pool_host.proofs.Queueing.{queues_on, queues_same}

pub rest_on : (a b c : HostedModel) → KeepsRest a b → KeepsRest b c → KeepsRest a c
rest_on a b c p q = record { settings = q.settings ∙ p.settings; plan = q.plan ∙ p.plan; drops = q.drops ∙ p.drops }

pub moves_same : (caller at : ℕ) (a : HostedModel) (c : Call) → Moves caller at a a c c
moves_same caller at a c = record {
  advances = advances_none caller at a.drops a.core a.core c c (forgets_none a.drops a.core a.core refl) refl (λ turns come. come);
  rest = record { settings = refl; plan = refl; drops = refl };
  queue = queues_same c.ticket a.queue a.queue refl refl;
}

abbrev pub moves_on : (caller at : ℕ) (a b c : HostedModel) (first mid last : Call) → Moves caller at a b first mid → Moves caller at b c mid last → Moves caller at a c first last
moves_on caller at a b c first mid last p q =
    let P : Bool → Type 0 = λ d. Advances caller at d b.core c.core mid last in
    record {
      advances = advances_on caller at a.drops a.core b.core c.core first mid last p.advances (subst P p.rest.drops q.advances);
      rest = rest_on a b c p.rest q.rest;
      queue = queues_on first.ticket mid.ticket last.ticket a.queue b.queue c.queue p.queue q.queue;
    }

-- a report that adds nothing to the call
pub moves_accepted : (caller at : ℕ) (old new : HostedModel) (before after : Call) → Accepts reports.GoOn old new before after → Moves caller at old new before after
moves_accepted caller at old new before after p = record {
  advances = advances_none caller at old.drops old.core new.core before after (forgets_none old.drops old.core new.core p.core) p.token p.comes;
  rest = p.rest;
  queue = p.queue;
}

pub accepts_on : (a b c : HostedModel) (first mid last : Call) → Accepts reports.GoOn a b first mid → Accepts reports.GoOn b c mid last → Accepts reports.GoOn a c first last
accepts_on a b c first mid last p q = record {
  core = q.core ∙ p.core;
  rest = rest_on a b c p.rest q.rest;
  token = q.token ∙ p.token;
  comes = λ turns come. q.comes turns (p.comes turns come);
  queue = queues_on first.ticket mid.ticket last.ticket a.queue b.queue c.queue p.queue q.queue;
}

-- a borrow that would wait looks at once
pub accepts_queued : (woken : Bool) (a b : HostedModel) (first mid last : Call) → mid.token ≡ first.token → mid.ticket ≡ first.ticket → ((turns : List Turn) → HasCome first.operation turns → HasCome mid.operation turns) → (woken ≡ true → Accepts reports.Woken a b mid last) → (woken ≡ false → (b ≡ a) × (last ≡ mid)) → Accepts reports.GoOn a b first last
accepts_queued true a b first mid last token ticket comes accepted unfit =
    let p = accepted refl in
    let P : Option ℕ → Type 0 = λ t. Queues t last.ticket a.queue b.queue in
    record {
      core = p.core;
      rest = p.rest;
      token = p.token ∙ token;
      comes = λ turns come. p.comes turns (comes turns come);
      queue = subst P ticket p.queue;
    }
accepts_queued false a b first mid last token ticket comes accepted unfit =
    let same = unfit refl in
    let P : Option ℕ → Type 0 = λ t. Queues first.ticket t a.queue b.queue in
    let C : Call → Type 0 = λ c. (turns : List Turn) → HasCome first.operation turns → HasCome c.operation turns in
    record {
      core = ap (λ d. d.core) same.0;
      rest = record { settings = ap (λ d. d.core.settings) same.0; plan = ap (λ d. d.plan) same.0; drops = ap (λ d. d.drops) same.0 };
      token = ap (λ c. c.token) same.1 ∙ token;
      comes = subst C (sym same.1) comes;
      queue = subst P (sym (ap (λ c. c.ticket) same.1 ∙ ticket)) (queues_same first.ticket a.queue b.queue (ap (λ d. d.queue.most) same.0) (ap (λ d. d.queue.waiting) same.0));
    }

told_advances : (caller at : ℕ) (old new : HostedModel) (before after : Call) → new.core ≡ old.core → after.token ≡ before.token → ((turns : List Turn) → HasCome before.operation turns → HasCome after.operation turns) → Advances caller at old.drops old.core new.core before after
told_advances caller at old new before after core token comes =
    advances_none caller at old.drops old.core new.core before after (forgets_none old.drops old.core new.core core) token comes

told_moves : (report : Report) (caller at : ℕ) (old new : HostedModel) (before after : Call) → Accepts report old new before after → Moves caller at old new (told report before) after
told_moves (reports.Made t) caller at old new before after p = record {
  advances = told_advances caller at old new (told (reports.Made t) before) after p.core p.token p.comes;
  rest = p.rest;
  queue = p.queue;
}
told_moves reports.GoOn caller at old new before after p = record { advances = told_advances caller at old new before after p.core p.token p.comes; rest = p.rest; queue = p.queue }
told_moves reports.Succeeded caller at old new before after p = record { advances = told_advances caller at old new before after p.core p.token p.comes; rest = p.rest; queue = p.queue }
told_moves reports.Failed caller at old new before after p = record { advances = told_advances caller at old new before after p.core p.token p.comes; rest = p.rest; queue = p.queue }
told_moves reports.Woken caller at old new before after p = record { advances = told_advances caller at old new before after p.core p.token p.comes; rest = p.rest; queue = p.queue }
told_moves reports.RoomMade caller at old new before after p = record { advances = told_advances caller at old new before after p.core p.token p.comes; rest = p.rest; queue = p.queue }
told_moves reports.NoRoom caller at old new before after p = record { advances = told_advances caller at old new before after p.core p.token p.comes; rest = p.rest; queue = p.queue }
told_moves reports.GivenUp caller at old new before after p = record { advances = told_advances caller at old new before after p.core p.token p.comes; rest = p.rest; queue = p.queue }

-- the greatest time says nothing of the calls
abbrev pub moves_later : (time caller at : ℕ) (old new : HostedModel) (before after : Call) → Moves caller at old new before after → Moves caller at old (record new { last = time }) before after
moves_later time caller at old new before after p = record {
  advances = p.advances;
  rest = record { settings = p.rest.settings; plan = p.rest.plan; drops = p.rest.drops };
  queue = p.queue;
}

-- a report, and the steps after it
pub moves_told : (report : Report) (caller at : ℕ) (a b c : HostedModel) (first mid last : Call) → Accepts report a b first mid → Moves caller at b c mid last → Moves caller at a c (told report first) last
moves_told report caller at a b c first mid last p q = moves_on caller at a b c (told report first) mid last (told_moves report caller at a b first mid p) q

-- ---- one step
module _ (caller at : ℕ) (old new : HostedModel) (before after : Call) where
  pub queue_same : new.queue ≡ old.queue → after.ticket ≡ before.ticket → Queues before.ticket after.ticket old.queue new.queue
  queue_same queue ticket =
      let P : Option ℕ → Type 0 = λ t. Queues before.ticket t old.queue new.queue in
      subst P (sym ticket) (queues_same before.ticket old.queue new.queue (ap (λ q. q.most) queue) (ap (λ q. q.waiting) queue))

  abbrev pub moves_step : (input : Input) (answer : Answer) (out : Option ℕ) → step_at before.operation ≡ Some input → Takes caller at input (handed input before.token) old.drops old.core new.core answer out → after.token ≡ unwrap_or out before.token → ComesOn (events.Answered answer) before.operation after.operation → new.plan ≡ old.plan → new.drops ≡ old.drops → new.queue ≡ old.queue → after.ticket ≡ before.ticket → Moves caller at old new before after
  moves_step input answer out asked takes token comes plan drops queue ticket = record {
    advances = advances_one caller at old.drops input answer out old.core new.core before after asked takes token comes;
    rest = record { settings = takes_settings caller at input (handed input before.token) old.drops old.core new.core answer out takes; plan = plan; drops = drops };
    queue = queue_same queue ticket;
  }

  pub moves_no_step : Forgets old.drops old.core new.core → after.token ≡ before.token → ((turns : List Turn) → HasCome before.operation turns → HasCome after.operation turns) → new.plan ≡ old.plan → new.drops ≡ old.drops → new.queue ≡ old.queue → after.ticket ≡ before.ticket → Moves caller at old new before after
  moves_no_step forgets token comes plan drops queue ticket = record {
    advances = advances_none caller at old.drops old.core new.core before after forgets token comes;
    rest = record { settings = forgets_settings old.drops old.core new.core forgets; plan = plan; drops = drops };
    queue = queue_same queue ticket;
  }

-- ---- the first step
module _ (input : Input) (caller at : ℕ) where
  -- a step that was taken
  pub takes_step : (answer : Answer) (out : Option ℕ) (old new : HostedModel) (before after : Call) → step_at before.operation ≡ Some input → Takes caller at input (handed input before.token) old.drops old.core new.core answer out → after.token ≡ unwrap_or out before.token → ComesOn (events.Answered answer) before.operation after.operation → new.plan ≡ old.plan → new.drops ≡ old.drops → new.queue ≡ old.queue → after.ticket ≡ before.ticket → TakesFirst input true caller at old new before after
  takes_step answer out old new before after asked takes token comes plan drops queue ticket = record {
    moves = moves_step caller at old new before after input answer out asked takes token comes plan drops queue ticket;
    starts = refl;
    took = λ taken. refl;
  }

  -- no step
  pub takes_none : (old new : HostedModel) (before after : Call) → Forgets old.drops old.core new.core → after.token ≡ before.token → ((turns : List Turn) → HasCome before.operation turns → HasCome after.operation turns) → KeepsRest old new → Queues before.ticket after.ticket old.queue new.queue → TakesFirst input false caller at old new before after
  takes_none old new before after forgets token comes rest queue = record {
    moves = record { advances = advances_none caller at old.drops old.core new.core before after forgets token comes; rest = rest; queue = queue };
    starts = tt;
    took = λ taken. absurd (cc);
  }

  pub takes_accepted : (old new : HostedModel) (before after : Call) → Accepts reports.GoOn old new before after → TakesFirst input false caller at old new before after
  takes_accepted old new before after p =
      takes_none old new before after (forgets_none old.drops old.core new.core p.core) p.token p.comes p.rest p.queue

  starts_on : (ts us : List Turn) → StartsWith input ts → has_turn ts ≡ true → StartsWith input (ts ++ us)
  starts_on [] us starts has = absurd (cc)
  starts_on (t ∷ ts) us starts has = starts

  has_on : (ts us : List Turn) → has_turn ts ≡ true → has_turn (ts ++ us) ≡ true
  has_on [] us has = absurd (cc)
  has_on (t ∷ ts) us has = refl

  -- the steps after the first one
  pub starts_then : (a b c : HostedModel) (first mid last : Call) → TakesFirst input true caller at a b first mid → Moves caller at b c mid last → StartsBy input caller at a c first last
  starts_then a b c first mid last p q = record {
    moves = moves_on caller at a b c first mid last p.moves q;
    starts = starts_on p.moves.advances.turns _ p.starts (p.took refl);
  }

  -- more steps after one that was taken
  pub takes_on : (taken : Bool) (a b c : HostedModel) (first mid last : Call) → taken ≡ true → TakesFirst input taken caller at a b first mid → Moves caller at b c mid last → TakesFirst input taken caller at a c first last
  takes_on taken a b c first mid last is p q = record {
    moves = moves_on caller at a b c first mid last p.moves q;
    starts = starts_on p.moves.advances.turns _ p.starts (p.took is);
    took = λ took. has_on p.moves.advances.turns _ (p.took is);
  }

  -- a step that was not taken
  pub starts_alone : (a b : HostedModel) (first last : Call) → TakesFirst input false caller at a b first last → StartsBy input caller at a b first last
  starts_alone a b first last p = record { moves = p.moves; starts = p.starts }

  -- what a borrow does after it asked
  pub takes_then : (taken : Bool) (a b c : HostedModel) (first mid last : Call) → TakesFirst input taken caller at a b first mid → Accepts reports.GoOn b c mid last → TakesFirst input taken caller at a c first last
  takes_then taken a b c first mid last p q = record {
    moves = record {
      advances = advances_then caller at a.drops a.core b.core c.core first mid last p.moves.advances q.core q.token q.comes;
      rest = rest_on a b c p.moves.rest q.rest;
      queue = queues_on first.ticket mid.ticket last.ticket a.queue b.queue c.queue p.moves.queue q.queue;
    };
    starts = p.starts;
    took = p.took;
  }

  -- what a borrow does before it asks
  pub takes_reserved : (taken : Bool) (a b c : HostedModel) (first last : Call) → b ≡ record a { queue = b.queue } → b.queue.waiting ≡ a.queue.waiting → b.queue.most ≡ a.queue.most → TakesFirst input taken caller at b c first last → TakesFirst input taken caller at a c first last
  takes_reserved taken a b c first last same waiting most p =
      let drops = ap (λ d. d.drops) same in
      record {
        moves = record {
          advances = advances_after caller at a.drops b.drops a.core b.core c.core first last drops (ap (λ d. d.core) same) p.moves.advances;
          rest = rest_on a b c (record { settings = ap (λ d. d.core.settings) same; plan = ap (λ d. d.plan) same; drops = drops }) p.moves.rest;
          queue = queues_on first.ticket first.ticket last.ticket a.queue b.queue c.queue (queues_same first.ticket a.queue b.queue most waiting) p.moves.queue;
        };
        starts = p.starts;
        took = p.took;
      }

-- ---- the steps after a report
module _ (caller at : ℕ) where
  -- with their first step or without it
  pub moves_from : (step : Option Input) (a b : HostedModel) (first last : Call) → GoesFrom step caller at a b first last → Moves caller at a b first last
  moves_from None a b first last p = p.0
  moves_from (Some input) a b first last p = p.moves

  abbrev pub moves_accepting : (report : Report) (a b c : HostedModel) (first mid last : Call) → Accepts report a b first mid → Moves caller at b c mid last → Moves caller at a c (record first { operation = mid.operation; token = (told report first).token }) last
  moves_accepting report a b c first mid last p q =
      let P : Bool → Type 0 = λ d. Runs caller at d q.advances.turns b.core mid.token c.core last.token in
      let Q : CoreModel ℕ → Type 0 = λ m. Runs caller at a.drops q.advances.turns m mid.token c.core last.token in
      let R : ℕ → Type 0 = λ n. Runs caller at a.drops q.advances.turns a.core n c.core last.token in
      record {
        advances = record {
          turns = q.advances.turns;
          runs = subst R p.token (subst Q p.core (subst P p.rest.drops q.advances.runs));
          base = λ kept. q.advances.base (p.rest.drops ∙ kept) ∙ ap (λ m. m.base) p.core;
          appended = λ kept. q.advances.appended (p.rest.drops ∙ kept) ∙ ap (λ m. m.journal ++ entries_of caller at q.advances.turns) p.core;
          comes = q.advances.comes;
        };
        rest = rest_on a b c p.rest q.rest;
        queue = queues_on first.ticket mid.ticket last.ticket a.queue b.queue c.queue p.queue q.queue;
      }

  pub from_told : (report : Report) (step : Option Input) (a b c : HostedModel) (first mid last : Call) → Accepts report a b first mid → GoesFrom step caller at b c mid last → GoesFrom step caller at a c (record first { operation = mid.operation; token = (told report first).token }) last
  from_told report None a b c first mid last p q = (moves_accepting report a b c first mid last p q.0, q.1)
  from_told report (Some input) a b c first mid last p q = record { moves = moves_accepting report a b c first mid last p q.moves; starts = q.starts }

  abbrev pub moves_then : (a b c : HostedModel) (first mid last : Call) → Moves caller at a b first mid → Accepts reports.GoOn b c mid last → Moves caller at a c first last
  moves_then a b c first mid last p q = record {
    advances = advances_then caller at a.drops a.core b.core c.core first mid last p.advances q.core q.token q.comes;
    rest = rest_on a b c p.rest q.rest;
    queue = queues_on first.ticket mid.ticket last.ticket a.queue b.queue c.queue p.queue q.queue;
  }

  pub from_left : (step : Option Input) (a b c : HostedModel) (first mid last : Call) → GoesFrom step caller at a b first mid → Accepts reports.GoOn b c mid last → last.operation ≡ mid.operation → GoesFrom step caller at a c first last
  from_left None a b c first mid last p q same = (moves_then a b c first mid last p.0 q, same ∙ p.1)
  from_left (Some input) a b c first mid last p q same = record { moves = moves_then a b c first mid last p.moves q; starts = p.starts }

  pub from_later : (time : ℕ) (step : Option Input) (a b : HostedModel) (first last : Call) → GoesFrom step caller at a b first last → GoesFrom step caller at a (record b { last = time }) first last
  from_later time None a b first last p = (moves_later time caller at a b first last p.0, p.1)
  from_later time (Some input) a b first last p = record { moves = moves_later time caller at a b first last p.moves; starts = p.starts }
