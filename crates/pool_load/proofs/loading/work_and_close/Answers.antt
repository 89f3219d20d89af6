use Rattle.std.proofs.Common.{◌∷◌, [], ◌++◌, map, ap, ◌∙◌}
use Rattle.pool_load.proofs.Joined.{outcomes_within}
use Rattle.pool_load.proofs.loading.work_and_close.Goals as goal

pub collect_all-requires-clause-each : goal.collect_all-requires-clause-each
collect_all-requires-clause-each g c =
    outcomes_within (λ w. w.caller) (λ w. w.outcome) g.B.PoolBrand.settings c.args.rounds 1000000 c.args.callers.items c.in_ok-worked.worked.items c.in_ok-worked.ensures.ok c.requires.rounds

pub returns-in-Ok-clause-closed : goal.returns-in-Ok-clause-closed
returns-in-Ok-clause-closed g c =
    let took = c.in_ok-outcome.ensures in
    let closes = c.close.ensures in
    record {
      workers = map (λ w. w.caller) c.in_ok-worked.worked.items;
      closer = c.close.new.last;
      outcomes = map (λ w. w.outcome) c.in_ok-worked.worked.items;
      result = closes.spec.0;
      worked = c.in_ok-worked.ensures.ok;
      goes = closes.advances;
      row = closes.spec.1;
      all = c.in-Ok.ensures.items ∙ ap (λ l. l ++ c.close.new.last ∷ []) took.callers;
      sums = took.outcome;
    }
