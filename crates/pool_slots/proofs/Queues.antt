-- The queue that the links form, and the changes that leave it unchanged.
use Rattle.std.proofs.Common.{◌≡◌, ◌≢◌, ℕ, true, false, List, length, Option, Some, None, IsSome, is_some, refl, sym, ap, ◌∙◌, inl, inr, subst}
use Rattle.std.specs.Option.{option_and_then}
use Rattle.std.proofs.lemmas.Bool.Decides.{eqb_tells}
use Rattle.slab.specs.Slab.{Slab, get, Updates}
use Rattle.slab.proofs.SlabLemmas.{ContainsKey-within}
use Rattle.pool_slots.specs.declared.slot.Slot.{Slot}
use Rattle.pool_slots.specs.SlotsModel.{is_in}
use Rattle.pool_slots.specs.Links.{after_of, before_of, queue_of, IsQueue}
use Rattle.pool_slots.proofs.Keys.{few_distinct, true_or_false}
use Rattle.pool_slots.proofs.Chains.{walk-chain, chain_same, chain_stays, none_apart}

module _ {T : Type 0} where
  -- a walk along the links returns the queue
  pub queue_is : (s : Slab (Slot T)) (f l : Option ℕ) (queue : List ℕ) → IsQueue s f l queue → queue_of s f ≡ queue
  queue_is s f l queue is =
      walk-chain (after_of s f) (before_of s l) None queue (length s.slots) is.chain (few_distinct (length s.slots) queue is.distinct (λ key found. ContainsKey-within s key (is.present key found)))

  pub as_queue : (s : Slab (Slot T)) (f l : Option ℕ) (queue : List ℕ) → IsQueue s f l queue → IsQueue s f l (queue_of s f)
  as_queue s f l queue is = subst (IsQueue s f l) (sym (queue_is s f l queue is)) is

  -- a key with no object isn't in the queue
  pub vacant_out : (s : Slab (Slot T)) (f l : Option ℕ) (queue : List ℕ) (key : ℕ) → IsQueue s f l queue → get s key ≡ None → is_in key queue ≡ false
  vacant_out s f l queue key is vacant =
      elim (true_or_false (is_in key queue)) [
        | inl found ↦ absurd (cc (is.present key found, ap is_some vacant))
        | inr out ↦ out
      ]

  -- a change that leaves a part of one entry leaves this part of each entry
  part_same : (s s2 : Slab (Slot T)) (key : ℕ) (old new : Slot T) (part : Slot T → Option ℕ) → Updates s s2 key (Some new) → get s key ≡ Some old → part new ≡ part old → (other : ℕ) → option_and_then part (get s2 other) ≡ option_and_then part (get s other)
  part_same s s2 key old new part updates found same other =
      elim (eqb_tells other key) [
        | inl here ↦
            ap (λ k. option_and_then part (get s2 k)) here.1 ∙ ap (option_and_then part) updates.changed ∙ same ∙ sym (ap (option_and_then part) found) ∙ ap (λ k. option_and_then part (get s k)) (sym here.1)
        | inr differs ↦ ap (option_and_then part) (updates.others other differs.1)
      ]

  after_same : (s s2 : Slab (Slot T)) (f : Option ℕ) (key : ℕ) (old new : Slot T) → Updates s s2 key (Some new) → get s key ≡ Some old → new.links.after ≡ old.links.after → (p : Option ℕ) → after_of s2 f p ≡ after_of s f p
  after_same s s2 f key old new updates found same None = refl
  after_same s s2 f key old new updates found same (Some other) =
      part_same s s2 key old new (λ slot. slot.links.after) updates found same other

  before_same : (s s2 : Slab (Slot T)) (l : Option ℕ) (key : ℕ) (old new : Slot T) → Updates s s2 key (Some new) → get s key ≡ Some old → new.links.before ≡ old.links.before → (p : Option ℕ) → before_of s2 l p ≡ before_of s l p
  before_same s s2 l key old new updates found same None = refl
  before_same s s2 l key old new updates found same (Some other) =
      part_same s s2 key old new (λ slot. slot.links.before) updates found same other

  present_after : (s s2 : Slab (Slot T)) (key : ℕ) (new : Slot T) → Updates s s2 key (Some new) → (other : ℕ) → IsSome (get s other) → IsSome (get s2 other)
  present_after s s2 key new updates other present =
      elim (eqb_tells other key) [
        | inl here ↦ ap (λ k. is_some (get s2 k)) here.1 ∙ ap is_some updates.changed
        | inr differs ↦ ap is_some (updates.others other differs.1) ∙ present
      ]

  -- an entry is changed, except its links
  pub queue_written : (s s2 : Slab (Slot T)) (f l : Option ℕ) (queue : List ℕ) (key : ℕ) (old new : Slot T) → Updates s s2 key (Some new) → get s key ≡ Some old → new.links.after ≡ old.links.after → new.links.before ≡ old.links.before → IsQueue s f l queue → IsQueue s2 f l queue
  queue_written s s2 f l queue key old new updates found after before is = record {
    chain = chain_same _ _ _ _ (after_same s s2 f key old new updates found after) (before_same s s2 l key old new updates found before) None queue None is.chain;
    distinct = is.distinct;
    present = λ other there. present_after s s2 key new updates other (is.present other there);
  }

  after_apart : (s s2 : Slab (Slot T)) (f : Option ℕ) (key : ℕ) (slot : Option (Slot T)) → Updates s s2 key slot → (p : Option ℕ) → p ≢ Some key → after_of s2 f p ≡ after_of s f p
  after_apart s s2 f key slot updates None apart = refl
  after_apart s s2 f key slot updates (Some other) apart =
      ap (option_and_then (λ x. x.links.after)) (updates.others other (λ same. apart (ap Some same)))

  before_apart : (s s2 : Slab (Slot T)) (l : Option ℕ) (key : ℕ) (slot : Option (Slot T)) → Updates s s2 key slot → (p : Option ℕ) → p ≢ Some key → before_of s2 l p ≡ before_of s l p
  before_apart s s2 l key slot updates None apart = refl
  before_apart s s2 l key slot updates (Some other) apart =
      ap (option_and_then (λ x. x.links.before)) (updates.others other (λ same. apart (ap Some same)))

  present_apart : (s s2 : Slab (Slot T)) (queue : List ℕ) (key : ℕ) (slot : Option (Slot T)) → Updates s s2 key slot → is_in key queue ≡ false → (other : ℕ) → is_in other queue ≡ true → IsSome (get s other) → IsSome (get s2 other)
  present_apart s s2 queue key slot updates out other found present =
      ap is_some (updates.others other (λ same. cc (found, out, ap (λ k. is_in k queue) same))) ∙ present

  -- an entry that isn't in the queue is added or removed
  pub queue_apart : (s s2 : Slab (Slot T)) (f l : Option ℕ) (queue : List ℕ) (key : ℕ) (slot : Option (Slot T)) → Updates s s2 key slot → is_in key queue ≡ false → IsQueue s f l queue → IsQueue s2 f l queue
  queue_apart s s2 f l queue key slot updates out is =
      record {
        chain = chain_stays (after_of s f) (before_of s l) (after_of s2 f) (before_of s2 l) key (λ p n from to linked. record { forward = after_apart s s2 f key slot updates p from ∙ linked.forward; backward = before_apart s s2 l key slot updates n to ∙ linked.backward }) None queue None (none_apart key) (none_apart key) out is.chain;
        distinct = is.distinct;
        present = λ other found. present_apart s s2 queue key slot updates out other found (is.present other found);
      }
