use Rattle.std.proofs.Common.{◌≡◌, ◌+◌, length, sym, ap, ◌∙◌, rules}
use Rattle.pool_calls.proofs.Orders.{reserved}
use Rattle.pool_calls.proofs.waiters.Waiters.reserve.Goals as goal

pub returns-clause-ok : goal.returns-clause-ok
returns-clause-ok c =
    let all : c.in_ok-all.all ≡ c.len.result + c.args.count = search rules in
    let waiting = c.len.ensures.value ∙ ap (λ q. length q.waiting) (sym c.self.view_is) in
    let old = c.self.inside in
    reserved c.reserve-3.result c.args.count c.in_ok-all.all old.overtakes old.signalled old.asleep old.times c.reserve.new.self c.reserve-2.new.self c.reserve-3.new.self (all ∙ ap (λ n. n + c.args.count) waiting) c.reserve.ensures.pairs c.reserve-2.ensures.pairs c.in_ok-reserve.ensures.ok c.in_ok-reserve-2.ensures.ok c.reserve-3.ensures.ok
