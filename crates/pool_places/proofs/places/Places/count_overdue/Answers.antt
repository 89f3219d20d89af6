use Rattle.std.proofs.Common.{◌<◌, ◌-◌, List, length, ap, arith, sym, ◌∙◌}
use Rattle.pool_journal.specs.declared.record.Record.{Record}
use Rattle.pool_places.proofs.Bounds.{none_overdue}
use Rattle.std.proofs.lemmas.List.Sums.{length-filter}
use Rattle.pool_places.specs.Overdue.{is_overdue}
use Rattle.pool_places.specs.PlacesModel.{records_in}
use Rattle.pool_places.specs.Stored.{objects_of}
use Rattle.pool_places.proofs.places.Places.count_overdue.Goals as goal

pub returns : goal.returns
returns g c = rw (← c.self.view_is) (c.overdue_count.ensures ∙ sym (length-filter (is_overdue c.args.at c.args.timeout) (records_in (objects_of c.self.inside.slots c.self.inside.index.pairs))))

pub returns-then-saturating_sub-timeout : goal.returns-then-saturating_sub-timeout
returns-then-saturating_sub-timeout g c =
    let early : c.args.at - c.earliest_use.result < c.args.timeout = omega (arith, c.saturating_sub.ensures, c.if-saturating_sub-timeout.true) in
    sym (ap (λ (rs : List Record). length rs) (none_overdue c.args.at c.args.timeout c.earliest_use.result _ c.earliest_use.ensures early))
