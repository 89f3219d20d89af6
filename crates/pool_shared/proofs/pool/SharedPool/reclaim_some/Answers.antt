use Rattle.std.proofs.Common.{◌≡◌, ◌<◌, ◌-◌, refl, subst, arith}
use Rattle.pool_calls.specs.declared.kind.Kind.TheVariants as kinds
use Rattle.pool_calls.specs.Steps.{is_counted}
use Rattle.pool_calls.specs.Table.{go_through}
use Rattle.pool_shared.specs.Counts.{Counts}
use Rattle.pool_shared.proofs.Traces.{trace_none, count_hit, count_miss, ends_of}
use Rattle.pool_shared.proofs.Sweeping.{goes_self, goes_then}
use Rattle.pool_shared.proofs.Removals.{took_away, none_abandoned, all_taken, stops, stopped}
use Rattle.std.proofs.lemmas.Result.{err_from_is_err_and}
use Rattle.pool_shared.proofs.pool.SharedPool.reclaim_some.Goals as goal

pub loop-taken-init : goal.loop-taken-init
loop-taken-init g c = record {
  goes = goes_self g.B.PoolBrand.settings c.args.me.now c.requires.knows;
  ends = c.requires.ended;
  left = c.args.count;
  all = omega arith;
  trace = λ k may. trace_none g.B.PoolBrand.settings k (go_through k c.args.count) _ _ refl;
  counts = omega arith;
}

pub loop-taken-preserved : goal.loop-taken-preserved
loop-taken-preserved g c =
    let i = c.loop-taken.invariant in
    let e = c.in_ok-run_section_without_value.ensures in
    let some : 0 < i.left = omega (arith, i.all, c.loop-taken-test.true) in
    record {
      goes = goes_then g.B.PoolBrand.settings c.args.me.now c.loop-taken.me c.run_section_without_value.new.me i.goes e.advances;
      ends = (_, _, ends_of _ _ c.loop-taken.me c.run_section_without_value.new.me e.advances.number e.appended);
      left = i.left - 1;
      all = omega (arith, i.all, some);
      trace = λ k may. took_away g.B.PoolBrand.settings k may c.args.count i.left some _ _ (i.trace k may) _ _ _ c.in-Reclaimed.is e.appended;
      counts = count_hit (is_counted kinds.Reclaim) c.loop-taken.taken _ _ _ c.args.me.now _ _ c.in-Reclaimed.is e.appended i.counts refl;
    }

pub returns-in-Nothing-clause-advances : goal.returns-in-Nothing-clause-advances
returns-in-Nothing-clause-advances g c = goes_then g.B.PoolBrand.settings c.args.me.now c.loop-taken.me c.run_section_without_value.new.me c.loop-taken.invariant.goes c.in_ok-run_section_without_value.ensures.advances

pub returns-clause-advances : goal.returns-clause-advances
returns-clause-advances g c = c.loop-taken.invariant.goes

pub returns-clause-trace : goal.returns-clause-trace
returns-clause-trace g c k may =
    let i = c.loop-taken.invariant in
    let none : i.left ≡ 0 = omega (arith, i.all, c.loop-taken-test.false) in
    let taken : c.loop-taken.taken ≡ c.args.count = omega (arith, i.all, none) in
    (all_taken g.B.PoolBrand.settings k c.args.count i.left _ _ none (i.trace k may), subst (λ n. Counts kinds.Reclaim n c.args.me.now c.loop-taken.me) taken i.counts, i.ends)

pub returns-in-Nothing-clause-trace : goal.returns-in-Nothing-clause-trace
returns-in-Nothing-clause-trace g c k may =
    let i = c.loop-taken.invariant in
    let e = c.in_ok-run_section_without_value.ensures in
    let some : 0 < i.left = omega (arith, i.all, c.loop-taken-test.true) in (
      none_abandoned g.B.PoolBrand.settings k may c.args.count i.left some _ _ (i.trace k may) _ _ c.in-Nothing.is e.appended,
      count_miss (is_counted kinds.Reclaim) c.loop-taken.taken _ _ _ c.args.me.now _ _ c.in-Nothing.is e.appended i.counts refl,
      (_, _, ends_of _ _ c.loop-taken.me c.run_section_without_value.new.me e.advances.number e.appended),
    )

pub returns-in_err-run_section_without_value-clause-trace : goal.returns-in_err-run_section_without_value-clause-trace
returns-in_err-run_section_without_value-clause-trace g c k may =
    let i = c.loop-taken.invariant in
    let some : 0 < i.left = omega (arith, i.all, c.loop-taken-test.true) in
    let e = c.in_err-run_section_without_value.ensures in
    let p = err_from_is_err_and c.from_residual.result c.from_residual.ensures.1 in
    rw (p.1, p.2) (stopped g.B.PoolBrand.settings k may c.args.count i.left some _ _ (i.trace k may) _ _ e.same (stops g.B.PoolBrand.settings _ _ e.refused))

pub returns-in_err-run_section_without_value-clause-advances : goal.returns-in_err-run_section_without_value-clause-advances
returns-in_err-run_section_without_value-clause-advances g c = goes_then g.B.PoolBrand.settings _ _ _ c.loop-taken.invariant.goes c.in_err-run_section_without_value.ensures.advances
