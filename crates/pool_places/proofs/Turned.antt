-- The invariants of the objects are preserved when one of them is changed, added or removed.
use Rattle.std.proofs.Common.{◌≡◌, ◌≢◌, ℕ, ◌<◌, ◌==◌, Bool, true, false, not, cond, if◌then◌else◌, List, [], ◌∷◌, ◌++◌, set, Option, Some, None, refl, ap, sym, ◌∙◌, inl, inr, arith, subst}
use Rattle.std.specs.Prelude.{IsSome, is_some, IsSomeAnd}
use Rattle.std.specs.List.{AllByRecursion}
use Rattle.std.specs.Option.{option_map, option_and_then}
use Rattle.std.proofs.lemmas.Bool.Decides.{eqb_tells}
use Rattle.std.proofs.lemmas.List.{map-append}
use Rattle.pool_journal.specs.declared.record.Record.{Record}
use Rattle.pool_journal.specs.Queue.{record_in, is_idle, is_queued}
use Rattle.pool_slots.proofs.Keys.{without_none}
use Rattle.pool_slots.specs.SlotsModel.{Item, SlotsModel, item_at, known_at, value_at, is_in, Sets, with_known, with_value}
use Rattle.pool_slots.specs.SlotsModel.{without as without_key}
use Rattle.sorted_index.specs.declared.pair.Pair.{Pair}
use Rattle.sorted_index.specs.Pairs.{key_of, IdsBelow, IsAscending}
use Rattle.sorted_index.specs.Pairs.{without as without_pair}
use Rattle.pool_places.specs.declared.place_counts.PlaceCounts.{PlaceCounts}
use Rattle.pool_places.specs.Changes.{IdsBelow as RecordsBelow}
use Rattle.pool_places.specs.Counts.{IsCounts}
use Rattle.pool_places.specs.RepInvariant.{RepInvariant, IsWithin}
use Rattle.pool_places.specs.declared.last_uses.LastUses.{LastUses}
use Rattle.pool_places.specs.LastUses.{AreLastUses}
use Rattle.pool_places.specs.PlacesModel.{PlacesModel, records_in, without, PlacesInvariant}
use Rattle.pool_places.specs.Stored.{place_of, place_at, objects_of, IndexInvariant, QueueInvariant}
use Rattle.pool_places.proofs.Found.{Found, set_kept, well_formed_set}
use Rattle.pool_places.proofs.Keeping.{found_id}
use Rattle.pool_places.proofs.SlotLists.{item_known, key_there, record_under, place_item, place_same, item_and, Good, each_good, spot, found_key, Turns, kept_turned, tied_turned, line_left, line_stays}

module _ {T : Type 0} where
  -- ---- one change after another
  pub sets_then : (a b c : SlotsModel T) (key : ℕ) (x y : Option (Item T)) → Sets a b key x → Sets b c key y → Sets a c key y
  sets_then a b c key x y first second = record {
    changed = second.changed;
    others = λ other apart. second.others other apart ∙ first.others other apart;
  }

  -- the record is changed
  pub known_set : (a b : SlotsModel T) (key : ℕ) (r r2 : Record) → known_at a key ≡ Some r → Sets a b key (option_map (with_known r2) (item_at a key)) → Sets a b key (Some (record { known = r2; value = value_at a key }))
  known_set a b key r r2 known sets = subst (Sets a b key) (ap (option_map (with_known r2)) (item_known a key r known)) sets

  -- the value is changed
  pub record Valued (a b : SlotsModel T) (key : ℕ) (r : Record) (v : Option T) : Type 0 where
    pub sets : Sets a b key (Some (record { known = r; value = v }))
    pub known : known_at b key ≡ Some r
    pub value : value_at b key ≡ v

  pub value_set : (a b : SlotsModel T) (key : ℕ) (r : Record) (v : Option T) → known_at a key ≡ Some r → Sets a b key (option_map (with_value v) (item_at a key)) → Valued a b key r v
  value_set a b key r v known sets =
      let now : Sets a b key (Some (record { known = r; value = v })) = subst (Sets a b key) (ap (option_map (with_value v)) (item_known a key r known)) sets in
      record {
        sets = now;
        known = ap (option_map (λ item. item.known)) now.changed;
        value = ap (option_and_then (λ item. item.value)) now.changed;
      }

  -- the value was changed before the record
  pub sets_after : (a b c : SlotsModel T) (key : ℕ) (r r2 : Record) (v : Option T) → Valued a b key r v → Sets b c key (Some (record { known = r2; value = value_at b key })) → Sets a c key (Some (record { known = r2; value = v }))
  sets_after a b c key r r2 v valued sets =
      sets_then a b c key _ _ valued.sets (subst (λ (x : Option T). Sets b c key (Some (record { known = r2; value = x }))) valued.value sets)

  -- ---- an object is changed
  pub line_changed : (rack rack2 : SlotsModel T) (key : ℕ) (q p : Item T) → QueueInvariant rack → Sets rack rack2 key (Some p) → item_at rack key ≡ Some q → rack2.queue ≡ (if is_queued p.known.phase then rack.queue else without_key key rack.queue)
      → (is_queued p.known.phase ≡ true → (is_queued q.known.phase ≡ true) × (p.known.parked ≡ q.known.parked)) → QueueInvariant rack2
  line_changed rack rack2 key q p line sets old queue stays = by_test (is_queued p.known.phase) refl queue
    where
      by_test : (b : Bool) → is_queued p.known.phase ≡ b → rack2.queue ≡ (if b then rack.queue else without_key key rack.queue) → QueueInvariant rack2
      by_test true is same = let was = stays is in line_stays rack rack2 key q p line sets old same was.0 is was.1
      by_test false is left = line_left rack rack2 key (Some p) line sets left is

  -- the record under the key of an id was this one
  pub record Reads (rack : SlotsModel T) (pairs : List Pair) (i key : ℕ) (r : Record) : Type 0 where
    pub tied : IndexInvariant rack pairs
    pub well_formed : PlacesInvariant (objects_of rack pairs)
    pub at : key_of pairs i ≡ Some key
    pub known : known_at rack key ≡ Some r

  pub here : (rack : SlotsModel T) (pairs : List Pair) (i key : ℕ) (r : Record) → Reads rack pairs i key r → Found (objects_of rack pairs) i (spot i (objects_of rack pairs)) (record { known = r; value = value_at rack key })
  here rack pairs i key r reads = found_key rack pairs i key r reads.tied reads.well_formed reads.at reads.known

  turns : (rack rack2 : SlotsModel T) (pairs : List Pair) (i key : ℕ) (r : Record) (p : Item T) → Reads rack pairs i key r → Sets rack rack2 key (Some p) → p.known.id ≡ r.id → Turns rack rack2 pairs i key (record { known = r; value = value_at rack key }) p
  turns rack rack2 pairs i key r p reads sets same = record {
    at = reads.at;
    old = item_known rack key r reads.known;
    sets = sets;
    id = found_id (here rack pairs i key r reads);
    same = same;
  }

  pub kept_is : (rack rack2 : SlotsModel T) (pairs : List Pair) (i key : ℕ) (r : Record) (p : Item T) → Reads rack pairs i key r → Sets rack rack2 key (Some p) → p.known.id ≡ r.id → objects_of rack2 pairs ≡ set (objects_of rack pairs) (spot i (objects_of rack pairs)) (place_of p)
  kept_is rack rack2 pairs i key r p reads sets same = kept_turned rack rack2 pairs i key _ p reads.tied (turns rack rack2 pairs i key r p reads sets same) ∙ sym (set_kept (λ x. place_of p) (here rack pairs i key r reads))

  pub kept_after : (rack rack2 : SlotsModel T) (pairs : List Pair) (i key : ℕ) (r : Record) (p : Item T) (counts : PlaceCounts) (from : Option ℕ) (uses : LastUses) → Reads rack pairs i key r → Sets rack rack2 key (Some p) → p.known.id ≡ r.id → is_some p.value ≡ is_idle p.known.phase
      → IsCounts counts (records_in (set (objects_of rack pairs) (spot i (objects_of rack pairs)) (place_of p))) → QueueInvariant rack2 → IsWithin rack2.queue from → AreLastUses uses (records_in (set (objects_of rack pairs) (spot i (objects_of rack pairs)) (place_of p))) → RepInvariant rack2 pairs counts from uses
  kept_after rack rack2 pairs i key r p counts from uses reads sets same valued counted line within last =
      let is = kept_is rack rack2 pairs i key r p reads sets same in
      record {
        well_formed = subst PlacesInvariant (sym is) (well_formed_set (place_of p) (here rack pairs i key r reads) same valued);
        counted = subst (λ ps. IsCounts counts (records_in ps)) (sym is) counted;
        tied = tied_turned rack rack2 pairs i key _ p reads.tied (turns rack rack2 pairs i key r p reads sets same);
        line = line;
        remembered = within;
        last_uses = subst (λ ps. AreLastUses uses (records_in ps)) (sym is) last;
      }

  -- ---- an object is added
  -- ids above all records are above all pairs
  pub pairs_below : (rack : SlotsModel T) (pairs : List Pair) (n : ℕ) → IndexInvariant rack pairs → RecordsBelow n (records_in (objects_of rack pairs)) → IdsBelow n pairs
  pairs_below rack pairs n tied below = along pairs (each_good rack pairs tied) below
    where
      along : (ps : List Pair) → AllByRecursion (Good rack pairs) ps → RecordsBelow n (records_in (objects_of rack ps)) → IdsBelow n ps
      along [] all below = tt
      along (p ∷ ps) all below = (omega (arith, all.0.id, below.0), along ps all.1 below.1)

  -- another key is under the pair
  other_key : (rack : SlotsModel T) (pairs : List Pair) (key : ℕ) (p : Pair) → Good rack pairs p → item_at rack key ≡ None → p.key ≢ key
  other_key rack pairs key p good vacant same = cc (good.there, ap is_some (ap (item_at rack) same ∙ vacant))

  kept_apart : (rack rack2 : SlotsModel T) (pairs : List Pair) (key : ℕ) (o : Option (Item T)) (ps : List Pair) → AllByRecursion (Good rack pairs) ps → item_at rack key ≡ None → Sets rack rack2 key o → objects_of rack2 ps ≡ objects_of rack ps
  kept_apart rack rack2 pairs key o [] all vacant sets = refl
  kept_apart rack rack2 pairs key o (p ∷ ps) all vacant sets =
      let stays = place_same rack rack2 p.key (sets.others p.key (other_key rack pairs key p all.0 vacant)) in
      λ j. stays j ∷ kept_apart rack rack2 pairs key o ps all.1 vacant sets j

  pub kept_opened : (rack rack2 : SlotsModel T) (pairs : List Pair) (p : Pair) (item : Item T) → IndexInvariant rack pairs → item_at rack p.key ≡ None → Sets rack rack2 p.key (Some item) → objects_of rack2 (pairs ++ p ∷ []) ≡ objects_of rack pairs ++ place_of item ∷ []
  kept_opened rack rack2 pairs p item tied vacant sets =
      map-append (λ x. place_at rack2 x.key) pairs (p ∷ []) ∙ ap (λ ps. ps ++ place_at rack2 p.key ∷ []) (kept_apart rack rack2 pairs p.key (Some item) pairs (each_good rack pairs tied) vacant sets) ∙ ap (λ x. objects_of rack pairs ++ x ∷ []) (place_item rack2 p.key item sets.changed)

  pub tied_opened : (rack rack2 : SlotsModel T) (pairs after : List Pair) (p : Pair) (item : Item T) → IndexInvariant rack pairs → item_at rack p.key ≡ None → Sets rack rack2 p.key (Some item) → item.known.id ≡ p.id → IsAscending after → key_of pairs p.id ≡ None
      → key_of after p.id ≡ Some p.key → ((j : ℕ) → j ≢ p.id → key_of after j ≡ key_of pairs j) → IndexInvariant rack2 after
  tied_opened rack rack2 pairs after p item tied vacant sets id ascending absent found others = record {
    ascending = ascending;
    there = λ j k is. elim (eqb_tells j p.id) [
      | inl same ↦
          (let e : Some p.key ≡ Some k = sym found ∙ ap (key_of after) (sym same.1) ∙ is in
          let key : p.key ≡ k = cc e in
          subst (λ o. IsSomeAnd o (λ x. x.known.id ≡ j)) (sym (ap (item_at rack2) (sym key) ∙ sets.changed)) (id ∙ sym same.1))
      | inr differs ↦
          item_and (λ x. x.known.id ≡ j) rack k (tied.there j k (sym (others j differs.1) ∙ is)) (λ x old own.
          let apart : k ≢ p.key = λ same. cc (sym old ∙ ap (item_at rack) same ∙ vacant) in
          subst (λ o. IsSomeAnd o (λ y. y.known.id ≡ j)) (sym (sets.others k apart ∙ old)) own)
    ];
    back = λ k x is. elim (eqb_tells k p.key) [
      | inl same ↦
          (let e : Some x ≡ Some item = sym is ∙ ap (item_at rack2) same.1 ∙ sets.changed in
          let this : x ≡ item = cc e in
          ap (λ y. key_of after y.known.id) this ∙ ap (key_of after) id ∙ found ∙ ap Some (sym same.1))
      | inr differs ↦
          (let old = tied.back k x (sym (sets.others k differs.1) ∙ is) in
          let apart : x.known.id ≢ p.id = λ same. cc (sym old ∙ ap (key_of pairs) same ∙ absent) in
          others x.known.id apart ∙ old)
    ];
  }

  -- ---- an object is removed
  pub kept_freed : (rack rack2 : SlotsModel T) (pairs : List Pair) (i key : ℕ) (r : Record) → Reads rack pairs i key r → Sets rack rack2 key None → objects_of rack2 (without_pair i pairs) ≡ without i (objects_of rack pairs)
  kept_freed rack rack2 pairs i key r reads sets = along pairs (each_good rack pairs reads.tied)
    where
      id : r.id ≡ i
      id = found_id (here rack pairs i key r reads)

      along : (ps : List Pair) → AllByRecursion (Good rack pairs) ps → objects_of rack2 (without_pair i ps) ≡ without i (objects_of rack ps)
      along [] all = refl
      along (p ∷ ps) all =
          elim (eqb_tells i p.id) [
            | inl same ↦ rw (all.0.id, same.0) (along ps all.1)
            | inr differs ↦
                let apart : p.key ≢ key = λ same. differs.1 (sym id ∙ ap (λ x. x.known.id) (sym (place_item rack key _ (item_known rack key r reads.known))) ∙ ap (λ k. (place_at rack k).known.id) (sym same) ∙ all.0.id) in
                let stays = place_same rack rack2 p.key (sets.others p.key apart) in
                rw (all.0.id, differs.0) (λ j. stays j ∷ along ps all.1 j)
          ]

  pub tied_freed : (rack rack2 : SlotsModel T) (pairs after : List Pair) (i key : ℕ) (r : Record) → Reads rack pairs i key r → Sets rack rack2 key None → IsAscending after → key_of after i ≡ None → ((j : ℕ) → j ≢ i → key_of after j ≡ key_of pairs j) → IndexInvariant rack2 after
  tied_freed rack rack2 pairs after i key r reads sets ascending gone others = record {
    ascending = ascending;
    there = λ j k is. elim (eqb_tells j i) [
      | inl same ↦ absurd (cc (sym is ∙ ap (key_of after) same.1 ∙ gone))
      | inr differs ↦
          item_and (λ x. x.known.id ≡ j) rack k (reads.tied.there j k (sym (others j differs.1) ∙ is)) (λ x old own.
          let apart : k ≢ key = λ same. differs.1 (sym own ∙ ap (λ y. y.known.id) (sym (place_item rack k x old)) ∙ ap (λ n. (place_at rack n).known.id) same ∙ ap (λ y. y.known.id) (place_item rack key _ (item_known rack key r reads.known)) ∙ found_id (here rack pairs i key r reads)) in
          subst (λ o. IsSomeAnd o (λ y. y.known.id ≡ j)) (sym (sets.others k apart ∙ old)) own)
    ];
    back = λ k x is. elim (eqb_tells k key) [
      | inl same ↦ absurd (cc (sym is ∙ ap (item_at rack2) same.1 ∙ sets.changed))
      | inr differs ↦
          (let old = reads.tied.back k x (sym (sets.others k differs.1) ∙ is) in
          let apart : x.known.id ≢ i = λ same. differs.1 (let e : Some k ≡ Some key = sym old ∙ ap (key_of pairs) same ∙ reads.at in cc e) in
          others x.known.id apart ∙ old)
    ];
  }

  -- ---- by the model
  pub key_seen : {n : ℕ} {s : PlacesModel T} (P : Record → Type 0) (rack : SlotsModel T) (pairs : List Pair) (i : ℕ) → IndexInvariant rack pairs → (let seen : PlacesModel T = record { objects = objects_of rack pairs; spare_capacity = n } in seen ≡ s) → IsSomeAnd (record_in (records_in s.objects) i) P → IsSome (key_of pairs i)
  key_seen P rack pairs i tied seen known = key_there rack pairs i P tied (subst (λ s. IsSomeAnd (record_in (records_in s.objects) i) P) (sym seen) known)

  pub item_there : (rack : SlotsModel T) (pairs : List Pair) (i key : ℕ) → IndexInvariant rack pairs → key_of pairs i ≡ Some key → IsSome (item_at rack key)
  item_there rack pairs i key tied at = item_and (λ x. x.known.id ≡ i) rack key (tied.there i key at) (λ x found own. ap is_some found)

  pub follows_known : (rack : SlotsModel T) (key : ℕ) (r : Record) → QueueInvariant rack → known_at rack key ≡ Some r → is_in key rack.queue ≡ is_queued r.phase
  follows_known rack key r line known = line.follows key _ (item_known rack key r known)

  -- more room changes nothing
  pub kept_reserved : (rack : SlotsModel T) (pairs : List Pair) (counts : PlaceCounts) (from : Option ℕ) (uses : LastUses) (n : ℕ) → RepInvariant rack pairs counts from uses → RepInvariant (record rack { room = n }) pairs counts from uses
  kept_reserved rack pairs counts from uses n kept = record {
    well_formed = kept.well_formed;
    counted = kept.counted;
    tied = record { ascending = kept.tied.ascending; there = kept.tied.there; back = kept.tied.back };
    line = record { present = kept.line.present; follows = kept.line.follows; ascends = kept.line.ascends };
    remembered = kept.remembered;
    last_uses = kept.last_uses;
  }

  -- slots of which only the queue may have changed
  pub stays_if : (rack : SlotsModel T) (key : ℕ) (b : Bool) → (b ≡ false → is_in key rack.queue ≡ false) → rack ≡ record rack { queue = if b then rack.queue else without_key key rack.queue }
  stays_if rack key true out = refl
  stays_if rack key false out = ap (λ keys. requeued keys) (sym (without_none key rack.queue (out refl)))
    where
      requeued : List ℕ → SlotsModel T
      requeued keys = record rack { queue = keys }

  pub no_value : (rack : SlotsModel T) (key : ℕ) (r : Record) → known_at rack key ≡ Some r → value_at rack key ≡ None → IsSomeAnd (item_at rack key) (λ item. item.value ≡ None)
  no_value rack key r known none = subst (λ o. IsSomeAnd o (λ item. item.value ≡ None)) (sym (item_known rack key r known)) none

  pub sets_queued : {a b c : SlotsModel T} {key : ℕ} {x : Option (Item T)} {queue : List ℕ} → Sets a b key x → c ≡ record b { queue = queue } → Sets a c key x
  sets_queued {key} sets is = record {
    changed = ap (λ rack. item_at rack key) is ∙ sets.changed;
    others = λ other apart. ap (λ rack. item_at rack other) is ∙ sets.others other apart;
  }

  pub sets_requeued : {a b c : SlotsModel T} {key : ℕ} {x : Option (Item T)} {queue : List ℕ} → Sets b c key x → b ≡ record a { queue = queue } → Sets a c key x
  sets_requeued sets is = record {
    changed = sets.changed;
    others = λ other apart. sets.others other apart ∙ ap (λ rack. item_at rack other) is;
  }

  pub key_absent : (rack : SlotsModel T) (pairs : List Pair) (i : ℕ) → IndexInvariant rack pairs → record_in (records_in (objects_of rack pairs)) i ≡ None → key_of pairs i ≡ None
  key_absent rack pairs i tied none = by_case (key_of pairs i) (sym (record_under rack pairs i tied) ∙ none)
    where
      by_case : (o : Option ℕ) → option_map (λ key. (place_at rack key).known) o ≡ None → o ≡ None
      by_case None is = refl
      by_case (Some key) is = absurd (cc is)
