-- Plain numbers are those of one call at most.
use Rattle.std.proofs.Common.{◌≡◌, ◌∙◌, ◌≤◌, Bool, true, Some, sym, subst}
use Rattle.std.proofs.Props.{props}
use Rattle.pool_calls.specs.declared.kind.Kind.{Kind}
use Rattle.pool_calls.specs.declared.operation.Operation.{Operation}
use Rattle.pool_calls.specs.declared.hook_plan.HookPlan.{HookPlan}
use Rattle.pool_calls.specs.declared.stage.Place.{Place}
use Rattle.pool_calls.specs.declared.call_counts.CallCounts.{CallCounts}
use Rattle.pool_calls.specs.Left.{reports_left}
use Rattle.pool_calls.specs.Rules.{is_waiting}
use Rattle.pool_calls.specs.Steps.{is_borrow}
use Rattle.pool_calls.specs.Words.{ReadsOne}

-- calls with the same fields are the same
same_fields : (a b : Operation) → a.kind ≡ b.kind → a.plan ≡ b.plan → a.given_up ≡ b.given_up → a.counts ≡ b.counts → a.place ≡ b.place → a ≡ b
same_fields a b kind plan given_up counts place =
    let few : (is : Bool) (at : Place) → IsProp (is ≡ true → reports_left at ≤ 3) = λ is at. hlevel props in
    let only : (k : Kind) (at : Place) → IsProp (is_waiting at ≡ true → is_borrow k ≡ true) = λ k at. hlevel props in
    let P : Kind × HookPlan × Bool × CallCounts × Place → Type 0 =
    λ t. (f : t.2 ≡ true → reports_left t.4 ≤ 3) (o : is_waiting t.4 ≡ true → is_borrow t.0 ≡ true)
    → a ≡ record { kind = t.0; plan = t.1; given_up = t.2; counts = t.3; place = t.4; few_left = f; only_borrows_wait = o }
    in
    let here : P (a.kind, a.plan, a.given_up, a.counts, a.place) =
    λ f o i. record {
      kind = a.kind;
      plan = a.plan;
      given_up = a.given_up;
      counts = a.counts;
      place = a.place;
      few_left = few a.given_up a.place a.few_left f i;
      only_borrows_wait = only a.kind a.place a.only_borrows_wait o i;
    }
    in
    subst P (λ i. (kind i, plan i, given_up i, counts i, place i)) here b.few_left b.only_borrows_wait

pub reads_one : ReadsOne
reads_one w a b x y =
    let kind : Some a.kind ≡ Some b.kind = sym x.kind ∙ y.kind in
    let place : Some a.place ≡ Some b.place = sym x.place ∙ y.place in
    same_fields a b (cc kind) (sym x.plan ∙ y.plan) (sym x.given_up ∙ y.given_up) (sym x.counts ∙ y.counts) (cc place)
