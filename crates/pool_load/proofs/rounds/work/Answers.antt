use Rattle.std.proofs.Common.{inr, arith, rules}
use Rattle.pool_load.proofs.Rows.{goes_on, rounds_more}
use Rattle.pool_load.proofs.rounds.work.Goals as goal

pub loop-done-preserved : goal.loop-done-preserved
loop-done-preserved g c =
    let i = c.loop-done.invariant in
    let most = c.in-Ok.ensures.most in
    (inr (goes_on g.B.PoolBrand.settings c.args.me.now c.loop-done.me c.round.new.me i.0 c.in-Ok.ensures.advances), omega (arith, i.1, most), rounds_more g.B.PoolBrand.settings c.loop-done.done c.loop-done.refused c.in-Ok.more c.args.me.now c.loop-done.me c.round.new.me i.2 c.in-Ok.ensures.spec)

pub returns-clause-rows : goal.returns-clause-rows
returns-clause-rows g c = search rules
