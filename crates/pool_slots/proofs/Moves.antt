-- The effect of each call on the objects and the queue.
use Rattle.std.proofs.Common.{◌≡◌, ◌≢◌, ℕ, ◌+◌, ◌-◌, ◌<◌, ◌≤◌, true, false, cond, List, [], ◌∷◌, ◌++◌, Option, Some, None, Result, Ok, Err, IsSome, is_some, IfSome, refl, sym, ap, ◌∙◌, inl, inr, subst, arith}
use Rattle.std.specs.Option.{option_map, option_and_then}
use Rattle.std.proofs.lemmas.Bool.{cases_lt}
use Rattle.std.specs.Result.{IsOk, OnErr}
use Rattle.std.proofs.Math.Seq.{map-set_same}
use Rattle.std.proofs.lemmas.List.Sums.{sum_by-set}
use Rattle.slab.specs.Slab.{Slab, get, slab_len, with_value, Updates, HasRoomFor}
use Rattle.slab.proofs.SlabLemmas.{ContainsKey-within, Updates-with_value}
use Rattle.pool_slots.specs.declared.slot.Slot.{Slot}
use Rattle.pool_slots.specs.SlotsModel.{Item, SlotsModel, item_at, item_count, is_in, without, put_before, Sets}
use Rattle.pool_slots.specs.Links.{Leads, after_of, before_of, item_of, items_of, rack_of, queue_of, IsQueue}
use Rattle.pool_slots.proofs.Items.{item_is, is_some_item, item_found, sets, count_is, present_same}
use Rattle.pool_slots.proofs.Keys.{in_push, in_put_cases, in_without, distinct_push, distinct_put, distinct_without}
use Rattle.pool_slots.proofs.Queues.{queue_is, as_queue, queue_written, queue_apart, vacant_out}
use Rattle.pool_slots.proofs.Chains.{Around, Appended, Between, around, end_is, chain_without, chain_push, chain_put}

module _ {T : Type 0} where
  -- a write of an entry that leaves the object unchanged
  pub items_same : (s : Slab (Slot T)) (key : ℕ) (old new : Slot T) → get s key ≡ Some old → item_of new ≡ item_of old → items_of (with_value s key new) ≡ items_of s
  items_same s key old new found same =
      map-set_same (option_map item_of) s.slots key (Some new) None (ap Some same ∙ sym (ap (option_map item_of) found))

  -- ---- the object under a key is changed, and no link
  pub record Written (r : SlotsModel T) (s2 : Slab (Slot T)) (f l : Option ℕ) (key : ℕ) (change : Item T → Item T) : Type 0 where
    pub queue : IsQueue s2 f l (queue_of s2 f)
    pub sets : Sets r (rack_of s2 f) key (option_map change (item_at r key))
    pub count : item_count (rack_of s2 f) ≡ item_count r
    pub keys : queue_of s2 f ≡ r.queue
    pub room : (rack_of s2 f).room ≡ r.room

  len_written : (s : Slab (Slot T)) (key : ℕ) (old new : Slot T) → get s key ≡ Some old → slab_len (with_value s key new) ≡ slab_len s
  len_written s key old new found =
      let within = ContainsKey-within s key (ap is_some found) in
      let one : ◌≡◌ {A = ℕ} (cond (is_some (get s key)) 1 0) 1 = ap (λ o. cond (is_some o) 1 0) found in
      omega (arith, sum_by-set (λ o. cond (is_some o) 1 0) s.slots key (Some new) None within, one)

  written_here : (s : Slab (Slot T)) (f l : Option ℕ) (key : ℕ) (old new : Slot T) (change : Item T → Item T) → IsQueue s f l (queue_of s f) → get s key ≡ Some old → new.links.after ≡ old.links.after → new.links.before ≡ old.links.before → item_of new ≡ change (item_of old) → Written (rack_of s f) (with_value s key new) f l key change
  written_here s f l key old new change is found after before changed =
      let s2 = with_value s key new in
      let updates = Updates-with_value s key new (ap is_some found) in
      let later : IsQueue s2 f l (queue_of s f) = queue_written s s2 f l (queue_of s f) key old new updates found after before is in
      let item : Some (item_of new) ≡ option_map change (item_at (rack_of s f) key) = ap Some changed ∙ sym (ap (option_map change) (item_found s f key old found)) in
      let counts : item_count (rack_of s2 f) ≡ item_count (rack_of s f) = count_is s2 f ∙ len_written s key old new found ∙ sym (count_is s f) in
      record {
        queue = as_queue s2 f l (queue_of s f) later;
        sets = subst (Sets (rack_of s f) (rack_of s2 f) key) item (sets s s2 f f key (Some new) updates);
        count = counts;
        keys = queue_is s2 f l (queue_of s f) later;
        room = ap (λ n. s.capacity - n) counts;
      }

  pub written : (s : Slab (Slot T)) (f l : Option ℕ) (r : SlotsModel T) (key : ℕ) (old new : Slot T) (change : Item T → Item T) → rack_of s f ≡ r → IsQueue s f l (queue_of s f) → get s key ≡ Some old → new.links.after ≡ old.links.after → new.links.before ≡ old.links.before → item_of new ≡ change (item_of old) → Written r (with_value s key new) f l key change
  written s f l r key old new change view is found after before changed =
      subst (λ x. Written x (with_value s key new) f l key change) view (written_here s f l key old new change is found after before changed)

  -- ---- an object that isn't in the queue is added or removed
  pub record Apart (r : SlotsModel T) (s2 : Slab (Slot T)) (f l : Option ℕ) (key : ℕ) (slot : Option (Slot T)) : Type 0 where
    pub queue : IsQueue s2 f l (queue_of s2 f)
    pub sets : Sets r (rack_of s2 f) key (option_map item_of slot)
    pub keys : queue_of s2 f ≡ r.queue

  apart_here : (s s2 : Slab (Slot T)) (f l : Option ℕ) (key : ℕ) (slot : Option (Slot T)) → IsQueue s f l (queue_of s f) → Updates s s2 key slot → is_in key (queue_of s f) ≡ false → Apart (rack_of s f) s2 f l key slot
  apart_here s s2 f l key slot is updates out =
      let later = queue_apart s s2 f l (queue_of s f) key slot updates out is in
      record {
        queue = as_queue s2 f l (queue_of s f) later;
        sets = sets s s2 f f key slot updates;
        keys = queue_is s2 f l (queue_of s f) later;
      }

  pub apart : (s s2 : Slab (Slot T)) (f l : Option ℕ) (r : SlotsModel T) (key : ℕ) (slot : Option (Slot T)) → rack_of s f ≡ r → IsQueue s f l (queue_of s f) → Updates s s2 key slot → is_in key r.queue ≡ false → Apart r s2 f l key slot
  apart s s2 f l r key slot view is updates out =
      subst (λ x. Apart x s2 f l key slot) view (apart_here s s2 f l key slot is updates (ap (λ x. is_in key x.queue) view ∙ out))

  pub vacant_apart : (s : Slab (Slot T)) (f l : Option ℕ) (r : SlotsModel T) (key : ℕ) → rack_of s f ≡ r → IsQueue s f l (queue_of s f) → get s key ≡ None → is_in key r.queue ≡ false
  vacant_apart s f l r key view is vacant =
      ap (λ x. is_in key x.queue) (sym view) ∙ vacant_out s f l (queue_of s f) key is vacant

  -- ---- the queue alone is changed
  abbrev with_queue : List ℕ → SlotsModel T → SlotsModel T
  with_queue queue r = record r { queue = queue }

  pub requeued : (s s2 : Slab (Slot T)) (f f2 l2 : Option ℕ) (r : SlotsModel T) (queue : List ℕ) → rack_of s f ≡ r → items_of s2 ≡ items_of s → s2.capacity ≡ s.capacity → IsQueue s2 f2 l2 queue → rack_of s2 f2 ≡ record r { queue = queue }
  requeued s s2 f f2 l2 r queue view items capacity is =
      let made : rack_of s2 f2 ≡ with_queue queue (rack_of s f) = rw (items, capacity, queue_is s2 f2 l2 queue is) refl in
      made ∙ ap (with_queue queue) view

  -- None, or a key with an object
  abbrev pub Good : Slab (Slot T) → Option ℕ → Type 0
  Good s p = IfSome p (λ key. IsSome (get s key))

  pub around_key : (s : Slab (Slot T)) (f l : Option ℕ) (queue : List ℕ) (key : ℕ) → IsQueue s f l queue → is_in key queue ≡ true → Around (after_of s f) (before_of s l) (Good s) key
  around_key s f l queue key is found =
      around (after_of s f) (before_of s l) (Good s) key None queue None is.chain found _ _ is.present

  -- the neighbours of a key of the queue were joined
  pub unlinked : (s s2 : Slab (Slot T)) (f l f2 l2 : Option ℕ) (queue : List ℕ) (key : ℕ) → IsQueue s f l queue → is_in key queue ≡ true → items_of s2 ≡ items_of s → Leads (after_of s f) (after_of s2 f2) (before_of s l (Some key)) (after_of s f (Some key)) → Leads (before_of s l) (before_of s2 l2) (after_of s f (Some key)) (before_of s l (Some key)) → IsQueue s2 f2 l2 (without key queue)
  unlinked s s2 f l f2 l2 queue key is found items forward backward =
      record {
        chain = chain_without (after_of s f) (before_of s l) (after_of s2 f2) (before_of s2 l2) (Good s) key (around_key s f l queue key is found) (record { forward = forward; backward = backward }) queue is.distinct found is.chain;
        distinct = distinct_without key queue is.distinct;
        present = λ other there.
            present_same s s2 items other (is.present other (in_without other key queue there));
      }

  -- the key was joined to the last one, and then to the end
  pub linked_last : (s s1 s2 : Slab (Slot T)) (f l f1 l1 f2 l2 : Option ℕ) (queue : List ℕ) (key : ℕ) → IsQueue s f l queue → is_in key queue ≡ false → IsSome (get s key) → items_of s2 ≡ items_of s → Appended (after_of s f) (before_of s l) (after_of s1 f1) (before_of s1 l1) (after_of s2 f2) (before_of s2 l2) key → IsQueue s2 f2 l2 (queue ++ key ∷ [])
  linked_last s s1 s2 f l f1 l1 f2 l2 queue key is out present items done =
      record {
        chain = chain_push _ _ _ _ _ _ key done queue out is.chain;
        distinct = distinct_push key queue out is.distinct;
        present = λ other there.
            elim (in_push other key queue there) [
              | inl before ↦ present_same s s2 items other (is.present other before)
              | inr same ↦
                  present_same s s2 items other (ap (λ k. is_some (get s k)) same ∙ present)
            ];
      }

  -- the key was joined to the position before the next one, and then to the next one
  pub linked_before : (s s1 s2 : Slab (Slot T)) (f l f1 l1 f2 l2 : Option ℕ) (queue : List ℕ) (key : ℕ) (next : Option ℕ) → IsQueue s f l queue → is_in key queue ≡ false → IfSome next (λ other. is_in other queue ≡ true) → IsSome (get s key) → items_of s2 ≡ items_of s → Between (after_of s f) (before_of s l) (after_of s1 f1) (before_of s1 l1) (after_of s2 f2) (before_of s2 l2) key next → IsQueue s2 f2 l2 (put_before next key queue)
  linked_before s s1 s2 f l f1 l1 f2 l2 queue key next is out there present items done =
      record {
        chain = chain_put _ _ _ _ _ _ key next done queue out there is.distinct is.chain;
        distinct = distinct_put key next queue out is.distinct;
        present = λ other found.
            elim (in_put_cases other key next queue found) [
              | inl before ↦ present_same s s2 items other (is.present other before)
              | inr same ↦ present_same s s2 items other (ap (λ k. is_some (get s k)) same ∙ present)
            ];
      }

  -- ---- by the model
  pub queue_seen : (s : Slab (Slot T)) (f l : Option ℕ) (r : SlotsModel T) → rack_of s f ≡ r → IsQueue s f l (queue_of s f) → IsQueue s f l r.queue
  queue_seen s f l r view is = subst (IsQueue s f l) (ap (λ x. x.queue) view) is

  pub present_seen : (s : Slab (Slot T)) (f : Option ℕ) (r : SlotsModel T) (key : ℕ) → rack_of s f ≡ r → IsSome (item_at r key) → IsSome (get s key)
  present_seen s f r key view present =
      sym (is_some_item (get s key)) ∙ ap is_some (sym (item_is s f key)) ∙ ap (λ x. is_some (item_at x key)) view ∙ present

  pub last_good : (s : Slab (Slot T)) (f l : Option ℕ) (queue : List ℕ) → IsQueue s f l queue → Good s l
  last_good s f l queue is =
      end_is (after_of s f) (before_of s l) (Good s) None queue None is.chain _ is.present

  pub before_good : (s : Slab (Slot T)) (f l : Option ℕ) (queue : List ℕ) (key : ℕ) (slot : Slot T) (p : Option ℕ) → IsQueue s f l queue → is_in key queue ≡ true → get s key ≡ Some slot → p ≡ slot.links.before → Good s p
  before_good s f l queue key slot p is there found reads =
      subst (Good s) (ap (option_and_then (λ x. x.links.before)) found ∙ sym reads) (around_key s f l queue key is there).before_is

  pub after_good : (s : Slab (Slot T)) (f l : Option ℕ) (queue : List ℕ) (key : ℕ) (slot : Slot T) (n : Option ℕ) → IsQueue s f l queue → is_in key queue ≡ true → get s key ≡ Some slot → n ≡ slot.links.after → Good s n
  after_good s f l queue key slot n is there found reads =
      subst (Good s) (ap (option_and_then (λ x. x.links.after)) found ∙ sym reads) (around_key s f l queue key is there).after_is

  pub unlinked_slot : (s s2 : Slab (Slot T)) (f l f2 l2 : Option ℕ) (queue : List ℕ) (key : ℕ) (slot : Slot T) (p n : Option ℕ) → IsQueue s f l queue → is_in key queue ≡ true → get s key ≡ Some slot → p ≡ slot.links.before → n ≡ slot.links.after → items_of s2 ≡ items_of s → Leads (after_of s f) (after_of s2 f2) p n → Leads (before_of s l) (before_of s2 l2) n p → IsQueue s2 f2 l2 (without key queue)
  unlinked_slot s s2 f l f2 l2 queue key slot p n is there found reads_before reads_after items forward backward =
      let before : p ≡ before_of s l (Some key) = reads_before ∙ sym (ap (option_and_then (λ x. x.links.before)) found) in
      let after : n ≡ after_of s f (Some key) = reads_after ∙ sym (ap (option_and_then (λ x. x.links.after)) found) in
      unlinked s s2 f l f2 l2 queue key is there items (subst (λ q. Leads (after_of s f) (after_of s2 f2) q (after_of s f (Some key))) before (subst (λ q. Leads (after_of s f) (after_of s2 f2) p q) after forward)) (subst (λ q. Leads (before_of s l) (before_of s2 l2) q (before_of s l (Some key))) after (subst (λ q. Leads (before_of s l) (before_of s2 l2) n q) before backward))

  -- ---- room
  pub room_taken : (s s2 : Slab (Slot T)) (f : Option ℕ) (r : SlotsModel T) → rack_of s f ≡ r → slab_len s2 ≡ slab_len s + 1 → s2.capacity ≡ s.capacity → 1 ≤ r.room → (rack_of s2 f).room + 1 ≡ r.room
  room_taken s s2 f r view len capacity room =
      omega (arith, count_is s f, count_is s2 f, ap (λ x. x.room) view)

  pub room_given : (s s2 : Slab (Slot T)) (f : Option ℕ) (r : SlotsModel T) → rack_of s f ≡ r → slab_len s2 + 1 ≡ slab_len s → s2.capacity ≡ s.capacity → HasRoomFor s2 1 → (rack_of s2 f).room ≡ r.room + 1
  room_given s s2 f r view len capacity room =
      omega (arith, count_is s f, count_is s2 f, ap (λ x. x.room) view)

  pub queue_reserved : (s : Slab (Slot T)) (f l : Option ℕ) (queue : List ℕ) (n : ℕ) → IsQueue s f l queue → IsQueue (record s { capacity = n }) f l queue
  queue_reserved s f l queue n is =
      record { chain = is.chain; distinct = is.distinct; present = is.present }

  abbrev with_room : ℕ → SlotsModel T → SlotsModel T
  with_room n r = record r { room = n }

  pub rack_reserved : (s s2 : Slab (Slot T)) (f : Option ℕ) (r : SlotsModel T) → rack_of s f ≡ r → s2 ≡ record s { capacity = s2.capacity } → rack_of s2 f ≡ record r { room = (rack_of s2 f).room }
  rack_reserved s s2 f r view kept =
      ap (λ x. with_room (rack_of s2 f).room (rack_of x f)) kept ∙ ap (with_room (rack_of s2 f).room) view

  pub reserve_full : {X E : Type 0} (result : Result X E) (s : Slab (Slot T)) (f : Option ℕ) (r : SlotsModel T) → rack_of s f ≡ r → (HasRoomFor s 1 → IsOk result) → OnErr result (r.room ≡ 0)
  reserve_full (Ok x) s f r view succeeds = _
  reserve_full (Err e) s f r view succeeds =
      elim (cases_lt s.capacity (slab_len s + 1)) [
        | inl over ↦ omega (arith, count_is s f, ap (λ x. x.room) view)
        | inr fits ↦ absurd (cc (succeeds fits))
      ]

  -- a key of the queue has an object, and so does the key before it
  pub next_good : (s : Slab (Slot T)) (f l : Option ℕ) (queue : List ℕ) (next : Option ℕ) → IsQueue s f l queue → IfSome next (λ other. is_in other queue ≡ true) → Good s next
  next_good s f l queue None is there = tt
  next_good s f l queue (Some key) is there = is.present key there

  pub previous_good : (s : Slab (Slot T)) (f l : Option ℕ) (queue : List ℕ) (next p : Option ℕ) → IsQueue s f l queue → IfSome next (λ other. is_in other queue ≡ true) → p ≡ before_of s l next → Good s p
  previous_good s f l queue None p is there reads = subst (Good s) (sym reads) (last_good s f l queue is)
  previous_good s f l queue (Some key) p is there reads = subst (Good s) (sym reads) (around_key s f l queue key is there).before_is

  -- `Between` from the position that was read before the next one
  pub between : (s s1 s2 : Slab (Slot T)) (f l f1 l1 f2 l2 : Option ℕ) (key : ℕ) (next p : Option ℕ) → p ≡ before_of s l next → Leads (after_of s f) (after_of s1 f1) p (Some key) → Leads (before_of s l) (before_of s1 l1) (Some key) p → Leads (after_of s1 f1) (after_of s2 f2) (Some key) next → Leads (before_of s1 l1) (before_of s2 l2) next (Some key)
      → Between (after_of s f) (before_of s l) (after_of s1 f1) (before_of s1 l1) (after_of s2 f2) (before_of s2 l2) key next
  between s s1 s2 f l f1 l1 f2 l2 key next p reads forward backward to_next from_next = record {
    forward = subst (λ q. Leads (after_of s f) (after_of s1 f1) q (Some key)) reads forward;
    backward = subst (λ q. Leads (before_of s l) (before_of s1 l1) (Some key) q) reads backward;
    to_next = to_next;
    from_next = from_next;
  }

  pub reserve_less : {X E : Type 0} (result : Result X E) (s : Slab (Slot T)) (f : Option ℕ) (r : SlotsModel T) (n : ℕ) → rack_of s f ≡ r → n ≢ 0 → (HasRoomFor s n → IsOk result) → OnErr result (r.room < n)
  reserve_less (Ok x) s f r n view some succeeds = _
  reserve_less (Err e) s f r n view some succeeds =
      elim (cases_lt s.capacity (slab_len s + n)) [
        | inl over ↦ omega (arith, count_is s f, ap (λ x. x.room) view)
        | inr fits ↦ absurd (cc (succeeds fits))
      ]
