use Rattle.std.proofs.Common.{◌<◌, ◌-◌, refl, arith}
use Rattle.pool_calls.specs.declared.kind.Kind.TheVariants as kinds
use Rattle.pool_shared.specs.Evicts.{goes_on}
use Rattle.pool_shared.proofs.Traces.{trace_none}
use Rattle.pool_shared.proofs.Sweeping.{goes_self, goes_then}
use Rattle.pool_shared.proofs.Examining.{stopped, all_examined, out_of_objects, one_examined, one_counted, lost_bounded}
use Rattle.pool_shared.proofs.pool.SharedPool.examine.Goals as goal

pub loop-taken-init : goal.loop-taken-init
loop-taken-init g c = record {
  goes = goes_self g.B.PoolBrand.settings c.args.me.now c.requires.knows;
  ends = c.requires.ended;
  examined = refl;
  destroyed = omega arith;
  left = c.args.count;
  all = omega arith;
  trace = trace_none g.B.PoolBrand.settings kinds.Evict (goes_on c.args.count) _ _ refl;
  counts = (omega arith, omega arith);
}

pub loop-taken-preserved : goal.loop-taken-preserved
loop-taken-preserved g c =
    let i = c.loop-taken.invariant in
    let fate = c.in-Ok-Some.fate in
    let some : 0 < i.left = omega (arith, i.all, c.loop-taken-test.true) in
    let counted = c.count_in-run.ensures in
    let most = lost_bounded fate in
    record {
      goes = goes_then g.B.PoolBrand.settings c.args.me.now c.loop-taken.me c.examine_next.new.me i.goes c.in-Ok-Some.ensures.advances;
      ends = c.in-Ok-Some.ensures.ends;
      examined = omega (arith, counted.examined, i.examined);
      destroyed = omega (arith, counted.destroyed, most, i.destroyed);
      left = i.left - 1;
      all = omega (arith, i.all, some);
      trace = one_examined g.B.PoolBrand.settings c.args.count i.left some _ _ i.trace fate _ _ c.in-Ok-Some.field-0-is c.in-Ok-Some.ensures.trace;
      counts = one_counted g.B.PoolBrand.settings c.loop-taken.run _ fate _ c.args.me.now _ _ c.in-Ok-Some.field-0-is counted.examined counted.destroyed i.counts c.in-Ok-Some.ensures.trace;
    }

pub returns-in-Ok-None-clause-advances : goal.returns-in-Ok-None-clause-advances
returns-in-Ok-None-clause-advances g c = goes_then g.B.PoolBrand.settings c.args.me.now c.loop-taken.me c.examine_next.new.me c.loop-taken.invariant.goes c.in-Ok-None.ensures.advances

pub returns-in-Ok-None-clause-spec : goal.returns-in-Ok-None-clause-spec
returns-in-Ok-None-clause-spec g c =
    let i = c.loop-taken.invariant in
    let some : 0 < i.left = omega (arith, i.all, c.loop-taken-test.true) in
    out_of_objects g.B.PoolBrand.settings c.args.count i.left some _ _ i.trace c.loop-taken.run _ _ i.counts c.in-Ok-None.field-0-is c.in-Ok-None.ensures.trace c.in-Ok-None.ensures.ends

pub returns-in-Err-clause-advances : goal.returns-in-Err-clause-advances
returns-in-Err-clause-advances g c = goes_then g.B.PoolBrand.settings c.args.me.now c.loop-taken.me c.examine_next.new.me c.loop-taken.invariant.goes c.in-Err.ensures.advances

pub returns-in-Err-clause-spec : goal.returns-in-Err-clause-spec
returns-in-Err-clause-spec g c =
    let i = c.loop-taken.invariant in
    let some : 0 < i.left = omega (arith, i.all, c.loop-taken-test.true) in
    stopped g.B.PoolBrand.settings c.args.count i.left some _ _ i.trace _ _ c.in-Err.ensures.same c.in-Err.ensures.refused

pub returns-clause-advances : goal.returns-clause-advances
returns-clause-advances g c = c.loop-taken.invariant.goes

pub returns-clause-spec : goal.returns-clause-spec
returns-clause-spec g c =
    let i = c.loop-taken.invariant in
    all_examined g.B.PoolBrand.settings c.args.count i.left c.loop-taken.run _ _ (omega (arith, i.all, c.loop-taken-test.false)) i.trace i.counts i.ends
