use Rattle.std.proofs.Common.{◌≡◌, true, length, ap, sym, ◌∙◌, arith}
use Rattle.std.specs.Prelude.{is_ok}
use Rattle.std.proofs.lemmas.List.Sorted.{IsNonDecreasingBy-short}
use Rattle.pool_places.specs.declared.last_uses.LastUse.{LastUse}
use Rattle.pool_places.proofs.Bounds.{on_ok, listed_all, bound_all}
use Rattle.pool_places.proofs.last_uses.list_anew.Goals as goal

pub returns-then-is_ok : goal.returns-then-is_ok
returns-then-is_ok g c =
    let ok : is_ok c.list_in_order.result ≡ true = sym c.is_ok.ensures.value ∙ c.if-is_ok.true in
    record {
      ascending = on_ok _ ok c.list_in_order.ensures.ascending;
      within = omega arith;
      covered = listed_all _ _ _ (on_ok _ ok c.list_in_order.ensures.listed);
    }

pub returns : goal.returns
returns g c =
    let order = c.clear.new.self.items in
    record {
      ascending = IsNonDecreasingBy-short (λ (one : LastUse). one.at) order (omega (arith, ap length c.clear.ensures.items));
      within = omega arith;
      covered = bound_all _ order _ c.least_use-uses.ensures;
    }
