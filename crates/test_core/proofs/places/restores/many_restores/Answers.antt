use Rattle.std.proofs.Common.{ℕ, ◌+◌, ◌<◌, List, ap, sym, ◌∙◌, arith, subst}
use Rattle.pool_journal.specs.declared.record.Record.{Record}
use Rattle.pool_places.specs.Changes.{IdsBelow}
use Rattle.pool_places.specs.PlacesModel.{records_in}
use Rattle.pool_places.proofs.Entries.{all_mapped}
use Rattle.test_core.proofs.places.restores.many_restores.Goals.{then-is_free, else-is_free}
use Rattle.test_core.proofs.places.restores.many_restores.Goals as goal

below_later : (n : ℕ) (rs : List Record) → IdsBelow n rs → IdsBelow (n + 1) rs
below_later n rs below = all_mapped (λ r. r.id < n) (λ r. r.id < n + 1) rs (λ r under. omega (arith, under)) below

pub loop-id-preserved : goal.loop-id-preserved
loop-id-preserved g c =
    elim c.if-is_free.branch [
      | then-is_free w ↦
          record {
            same = ap (λ s. s.objects) w.places-is ∙ w.put_back.ensures.same ∙ sym (ap (λ v. v.items) w.plain-is);
            below = subst (λ v. IdsBelow (c.loop-id.id + 1) (records_in v.items)) (sym w.plain-is) (subst (λ (n : ℕ). IdsBelow (n + 1) (records_in w.put_back.new.plain.items)) w.some_place-place.ensures.id w.put_back.ensures.below);
          }
      | else-is_free w ↦
          record {
            same = ap (λ s. s.objects) w.places-is ∙ ap (λ s. s.objects) c.start_search_at.ensures ∙ c.reserve.ensures.objects ∙ c.loop-id.invariant.same ∙ sym (ap (λ v. v.items) w.plain-is);
            below = subst (λ v. IdsBelow (c.loop-id.id + 1) (records_in v.items)) (sym w.plain-is) (below_later c.loop-id.id (records_in c.loop-id.plain.items) c.loop-id.invariant.below);
          }
    ]
