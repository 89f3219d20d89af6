use Rattle.std.proofs.Common.{◌≤◌, ◌<◌, ◌-◌, List, arith, sym, ap, ◌∙◌}
use Rattle.pool_journal.specs.Queue.{first_of}
use Rattle.pool_places.proofs.Bounds.{none_overdue}
use Rattle.std.specs.List.{AllByRecursion}
use Rattle.std.specs.Option.{option_map}
use Rattle.pool_journal.specs.declared.record.Record.{Record}
use Rattle.pool_journal.specs.declared.record.Phase.TheVariants as phases
use Rattle.pool_places.specs.Changes.{IsInPhase}
use Rattle.pool_places.specs.Overdue.{is_overdue, overdue}
use Rattle.pool_places.specs.PlacesModel.{records_in}
use Rattle.pool_places.specs.Stored.{objects_of}
use Rattle.pool_places.proofs.Picks.{named_by_id, first_of-filter, overdue_is_lent, first_has_least_id}
use Rattle.pool_places.proofs.places.Places.least_overdue.Goals as goal

pub returns-clause-value : goal.returns-clause-value
returns-clause-value g c =
    let ps = objects_of c.self.inside.slots c.self.inside.index.pairs in
    rw (← c.self.view_is) (c.first_overdue.ensures ∙ ap (option_map (λ (r : Record). r.id)) (sym (first_of-filter (is_overdue c.args.at c.args.timeout) (records_in ps))))

pub returns-clause-least : goal.returns-clause-least
returns-clause-least g c =
    let ps = objects_of c.self.inside.slots c.self.inside.index.pairs in
    let test = is_overdue c.args.at c.args.timeout in
    let named = c.first_overdue.ensures ∙ ap (option_map (λ (r : Record). r.id)) (sym (first_of-filter test (records_in ps))) in
    rw (← c.self.view_is)
    (named_by_id _ _ (λ i. AllByRecursion (λ r. i ≤ r.id) (overdue c.args.at c.args.timeout (records_in ps))) named (λ r is. first_has_least_id test ps c.self.invariant.well_formed.ascending r is))

pub returns-clause-lent : goal.returns-clause-lent
returns-clause-lent g c =
    let ps = objects_of c.self.inside.slots c.self.inside.index.pairs in
    let test = is_overdue c.args.at c.args.timeout in
    let named = c.first_overdue.ensures ∙ ap (option_map (λ (r : Record). r.id)) (sym (first_of-filter test (records_in ps))) in
    rw (← c.self.view_is)
    (named_by_id _ _ (λ i. IsInPhase (records_in ps) i phases.Lent) named (λ r is. overdue_is_lent c.args.at c.args.timeout ps c.self.invariant.well_formed.ascending r is))

pub returns-then-saturating_sub-timeout-clause-value : goal.returns-then-saturating_sub-timeout-clause-value
returns-then-saturating_sub-timeout-clause-value g c =
    let early : c.args.at - c.earliest_use.result < c.args.timeout = omega (arith, c.saturating_sub.ensures, c.if-saturating_sub-timeout.true) in
    sym (ap (λ (rs : List Record). option_map (λ (r : Record). r.id) (first_of rs)) (none_overdue c.args.at c.args.timeout c.earliest_use.result _ c.earliest_use.ensures early))
