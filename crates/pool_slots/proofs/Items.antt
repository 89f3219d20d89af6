-- The objects that a slab of entries holds.
use Rattle.std.proofs.Common.{◌≡◌, ℕ, cond, List, [], ◌∷◌, map, Option, Some, None, IsSome, is_some, count_by, refl, sym, ap, ◌∙◌, arith}
use Rattle.std.specs.Option.{option_map}
use Rattle.std.proofs.Math.ListN.{get_or-map}
use Rattle.std.proofs.lemmas.List.Sums.{sum_by-cons}
use Rattle.slab.specs.Slab.{Slab, get, slab_len, Updates}
use Rattle.pool_slots.specs.declared.slot.Slot.{Slot}
use Rattle.pool_slots.specs.SlotsModel.{item_at, item_count, Sets}
use Rattle.pool_slots.specs.Links.{item_of, items_of, rack_of}

module _ {T : Type 0} where
  pub item_is : (s : Slab (Slot T)) (f : Option ℕ) (key : ℕ) → item_at (rack_of s f) key ≡ option_map item_of (get s key)
  item_is s f key = get_or-map (option_map item_of) s.slots key None

  pub item_found : (s : Slab (Slot T)) (f : Option ℕ) (key : ℕ) (slot : Slot T) → get s key ≡ Some slot → item_at (rack_of s f) key ≡ Some (item_of slot)
  item_found s f key slot found = item_is s f key ∙ ap (option_map item_of) found

  -- a change of an entry is the same change of its object
  pub sets : (s s2 : Slab (Slot T)) (f f2 : Option ℕ) (key : ℕ) (slot : Option (Slot T)) → Updates s s2 key slot → Sets (rack_of s f) (rack_of s2 f2) key (option_map item_of slot)
  sets s s2 f f2 key slot updates = record {
    changed = item_is s2 f2 key ∙ ap (option_map item_of) updates.changed;
    others = λ other differs.
        item_is s2 f2 other ∙ ap (option_map item_of) (updates.others other differs) ∙ sym (item_is s f other);
  }

  pub is_some_item : (o : Option (Slot T)) → is_some (option_map item_of o) ≡ is_some o
  is_some_item None = refl
  is_some_item (Some slot) = refl

  count_map : (slots : List (Option (Slot T))) → count_by is_some (map (option_map item_of) slots) ≡ count_by is_some slots
  count_map [] = refl
  count_map (o ∷ os) =
      let one : ◌≡◌ {A = ℕ} (cond (is_some (option_map item_of o)) 1 0) (cond (is_some o) 1 0) = ap (λ b. cond b 1 0) (is_some_item o) in
      let left = sum_by-cons (λ x. cond (is_some x) 1 0) (option_map item_of o) (map (option_map item_of) os) in
      let right = sum_by-cons (λ x. cond (is_some x) 1 0) o os in
      omega (arith, count_map os, one, left, right)

  pub count_is : (s : Slab (Slot T)) (f : Option ℕ) → item_count (rack_of s f) ≡ slab_len s
  count_is s f = count_map s.slots

  -- the same objects are under the same keys
  pub present_same : (s s2 : Slab (Slot T)) → items_of s2 ≡ items_of s → (key : ℕ) → IsSome (get s key) → IsSome (get s2 key)
  present_same s s2 same key present =
      let at : option_map item_of (get s2 key) ≡ option_map item_of (get s key) = sym (item_is s2 None key) ∙ ap (λ items. item_at (record { items = items; queue = []; room = 0 }) key) same ∙ item_is s None key in
      sym (is_some_item (get s2 key)) ∙ ap is_some at ∙ is_some_item (get s key) ∙ present
