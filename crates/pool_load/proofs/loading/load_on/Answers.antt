use Rattle.std.proofs.Common.{◌≡◌, ℕ, ap, sym, ◌∙◌, subst}
use Rattle.std.proofs.lemmas.Result.{IfOk-weaker}
use Rattle.pool_settings.specs.declared.settings.Settings.{Settings}
use Rattle.pool_stats.specs.Statistics.{statistics_of}
use Rattle.pool_journal.specs.declared.base.Base.{Base}
use Rattle.pool_history.specs.Finish.{EachAppended, AllByCallers, NoneCut}
use Rattle.pool_history.proofs.Segments.{is_first}
use Rattle.pool_load.specs.Loads.{IsLoad, StopsLoad}
use Rattle.pool_load.proofs.Whole.{history, loaded, stopped, none_cut}
use Rattle.pool_load.proofs.loading.load_on.Goals as goal

pub returns-in-Ok-outcome-clause-load : goal.returns-in-Ok-outcome-clause-load
returns-in-Ok-outcome-clause-load g c =
    let s = g.B.PoolBrand.settings in
    let workers = c.args.workers in
    let rounds = c.args.rounds in
    let front = c.pop.new.self.items in
    let last = c.in-Some.last in
    let refused = c.in-Ok-outcome.refused in
    let back = c.in_ok-outcome.ensures.closed in
    let whole = c.in-Ok-finish.ensures.whole in
    let opened = c.in-Ok.opened.1.items in
    let count = c.in-Ok.ensures.count.1 in
    let new = c.in-Ok.ensures.new in
    let popped = c.in-Some.ensures.items in
    let none = none_cut s rounds workers front back.workers last back.closer back.outcomes whole.history opened count new popped back.worked back.goes.number back.goes.uncut in
    let uncut = whole.uncut (subst NoneCut (sym back.all) none) in
    let stored : c.in-Ok-finish.core.journal ≡ whole.history = (is_first _ _ _ whole.ends (ap (λ (b : Base). b.first) uncut)).1 in
    let each = subst (λ l. EachAppended l whole.history) back.all whole.each in
    let all = subst (λ l. AllByCallers l whole.history) back.all whole.all in
    let made = history s rounds workers front back.workers last back.closer back.outcomes whole.history back.result opened count new popped back.worked back.goes back.row whole.legal each all in
    IfOk-weaker c.report.result _ _ (λ r is.
    subst (λ (S : Settings). IsLoad S workers rounds r.refused r.stats) (sym c.requires.room.1)
    (subst (λ (n : ℕ). IsLoad s workers rounds n r.stats) (sym is.0)
    (loaded s workers rounds refused back.outcomes whole.history r.stats made (sym back.sums ∙ c.in-Ok-outcome.is) (is.1 ∙ ap statistics_of stored)))) c.report.ensures.report

pub returns-in-Err-clause-stops : goal.returns-in-Err-clause-stops
returns-in-Err-clause-stops g c =
    let s = g.B.PoolBrand.settings in
    let back = c.in_ok-outcome.ensures.closed in
    let whole = c.in-Ok-finish.ensures.whole in
    let each = subst (λ l. EachAppended l whole.history) back.all whole.each in
    let all = subst (λ l. AllByCallers l whole.history) back.all whole.all in
    let made = history s c.args.rounds c.args.workers c.pop.new.self.items back.workers c.in-Some.last back.closer back.outcomes whole.history back.result c.in-Ok.opened.1.items c.in-Ok.ensures.count.1 c.in-Ok.ensures.new c.in-Some.ensures.items back.worked back.goes back.row whole.legal each all in
    subst (λ (S : Settings). StopsLoad S c.args.workers c.args.rounds c.in-Err.fault) (sym c.requires.room.1) (stopped s c.args.workers c.args.rounds back.outcomes whole.history c.in-Err.fault made (sym back.sums ∙ c.in-Err.is))
