-- The stored objects and keys, as the list of objects and the list of entries.
use Rattle.std.proofs.Common.{◌≡◌, ◌≢◌, ℕ, suc, ◌<◌, ◌==◌, eqb, Bool, true, false, not, cond, if◌then◌else◌, List, [], ◌∷◌, ◌++◌, map, length, get_or, Option, Some, None, unwrap_or, refl, ap, sym, ◌∙◌, inl, inr, arith, subst}
use Rattle.std.specs.Prelude.{IsSome, is_some, IsSomeAnd, find}
use Rattle.std.specs.List.{AllByRecursion}
use Rattle.std.specs.Option.{option_map}
use Rattle.std.proofs.lemmas.Bool.{eqb-false}
use Rattle.std.proofs.lemmas.Bool.Decides.{eqb_tells, nat_tests}
use Rattle.pool_journal.specs.declared.record.Record.{Record}
use Rattle.pool_journal.specs.declared.record.Phase.TheVariants as phases
use Rattle.pool_journal.specs.Queue.{record_in, is_queued}
use Rattle.pool_slots.specs.SlotsModel.{Item, SlotsModel, item_at, known_at, value_at, is_in, Sets}
use Rattle.pool_slots.specs.SlotsModel.{without as without_key}
use Rattle.sorted_index.specs.declared.pair.Pair.{Pair}
use Rattle.sorted_index.specs.Pairs.{key_of, IsAscending}
use Rattle.pool_places.specs.declared.place.Place.{Place}
use Rattle.pool_places.specs.PlacesModel.{records_in, place_in, changed, new_place, PlacesInvariant}
use Rattle.pool_places.specs.Stored.{place_of, place_at, objects_of, entry_at, entry_of, parked_of, IndexInvariant, QueueInvariant}
use Rattle.pool_places.specs.QueueEntries.{QueueEntry, IsAscendingQueue, IsEntry, HasEntry, IsQueueOf}
use Rattle.pool_places.proofs.Entries.{all_mapped}
use Rattle.pool_places.proofs.Found.{Found}
use Rattle.pool_places.proofs.WellFormed.{record_in-records_in}
use Rattle.pool_slots.proofs.Keys.{is_in_first, is_in_later, neither}
use Rattle.pool_places.proofs.Walks.{other_stays, key_is_gone, in_pushed, in_push_other}

each_key : (ps : List Pair) → IsAscending ps → AllByRecursion (λ p. key_of ps p.id ≡ Some p.key) ps
each_key [] up = tt
each_key (p ∷ ps) up = (let same : (p.id == p.id) ≡ true = grind (arith, nat_tests) in rw same refl, along ps up.0 (each_key ps up.1))
  where
    along : (qs : List Pair) → AllByRecursion (λ q. p.id < q.id) qs → AllByRecursion (λ q. key_of ps q.id ≡ Some q.key) qs → AllByRecursion (λ q. key_of (p ∷ ps) q.id ≡ Some q.key) qs
    along [] above here = tt
    along (q ∷ qs) above here = (let differs : (q.id == p.id) ≡ false = grind (arith, nat_tests, above.0) in rw differs here.0, along qs above.1 here.1)

not_key : (key k : ℕ) (keys : List ℕ) → is_in k keys ≡ true → is_in key keys ≡ false → k ≢ key
not_key key k keys there out same = cc (there, out, ap (λ x. is_in x keys) same)

each_entry : (P : QueueEntry → Type 0) (e : ℕ → QueueEntry) (keys : List ℕ) → ((k : ℕ) → is_in k keys ≡ true → P (e k)) → AllByRecursion P (map e keys)
each_entry P e [] each = tt
each_entry P e (x ∷ xs) each = (each x (is_in_first x xs), each_entry P e xs (λ k there. each k (is_in_later k x xs there)))

has_entry : (e : ℕ → QueueEntry) (key : ℕ) (keys : List ℕ) → is_in key keys ≡ true → HasEntry (e key).id (map e keys)
has_entry e key [] there = absurd (cc there)
has_entry e key (x ∷ xs) there =
    elim (eqb_tells key x) [
      | inl same ↦ inl (ap (λ k. (e k).id) (sym same.1))
      | inr differs ↦ inr (has_entry e key xs (rw differs.0 at there))
    ]

module _ {T : Type 0} where
  -- ---- one object
  pub known_place : (rack : SlotsModel T) (key : ℕ) (r : Record) → known_at rack key ≡ Some r → (place_at rack key).known ≡ r
  known_place rack key r is = by_case (item_at rack key) is
    where
      by_case : (o : Option (Item T)) → option_map (λ item. item.known) o ≡ Some r → (unwrap_or (option_map place_of o) (new_place 0 phases.Absent)).known ≡ r
      by_case None is = absurd (cc is)
      by_case (Some item) is = cc is

  pub item_known : (rack : SlotsModel T) (key : ℕ) (r : Record) → known_at rack key ≡ Some r → item_at rack key ≡ Some (record { known = r; value = value_at rack key })
  item_known rack key r is = by_case (item_at rack key) refl is
    where
      by_case : (o : Option (Item T)) → item_at rack key ≡ o → option_map (λ item. item.known) o ≡ Some r → item_at rack key ≡ Some (record { known = r; value = value_at rack key })
      by_case None found is = absurd (cc is)
      by_case (Some item) found is = (let same : item.known ≡ r = cc is in rw found (ap (λ x. Some (record { known = x; value = item.value })) same))

  pub place_known : (rack : SlotsModel T) (key : ℕ) (r : Record) → known_at rack key ≡ Some r → place_at rack key ≡ record { known = r; value = value_at rack key }
  place_known rack key r is = ap (λ o. unwrap_or (option_map place_of o) (new_place 0 phases.Absent)) (item_known rack key r is)

  -- the object under a key that has one
  pub some_item : {X : Type 0} (rack : SlotsModel T) (key : ℕ) → IsSome (item_at rack key) → ((item : Item T) → item_at rack key ≡ Some item → X) → X
  some_item {X} rack key there go = by_case (item_at rack key) refl there
    where
      by_case : (o : Option (Item T)) → item_at rack key ≡ o → IsSome o → X
      by_case None found there = absurd (cc there)
      by_case (Some item) found there = go item found

  pub item_and : {X : Type 0} (P : Item T → Type 0) (rack : SlotsModel T) (key : ℕ) → IsSomeAnd (item_at rack key) P → ((item : Item T) → item_at rack key ≡ Some item → P item → X) → X
  item_and {X} P rack key there go = by_case (item_at rack key) refl there
    where
      by_case : (o : Option (Item T)) → item_at rack key ≡ o → IsSomeAnd o P → X
      by_case None found there = absurd there
      by_case (Some item) found there = go item found there

  pub place_item : (rack : SlotsModel T) (key : ℕ) (item : Item T) → item_at rack key ≡ Some item → place_at rack key ≡ place_of item
  place_item rack key item is = ap (λ o. unwrap_or (option_map place_of o) (new_place 0 phases.Absent)) is

  pub place_same : (rack rack2 : SlotsModel T) (key : ℕ) → item_at rack2 key ≡ item_at rack key → place_at rack2 key ≡ place_at rack key
  place_same rack rack2 key is = ap (λ o. unwrap_or (option_map place_of o) (new_place 0 phases.Absent)) is

  -- ---- the objects in ascending order of id
  -- the pair leads to its object
  pub record Good (rack : SlotsModel T) (pairs : List Pair) (p : Pair) : Type 0 where
    pub key : key_of pairs p.id ≡ Some p.key
    pub id : (place_at rack p.key).known.id ≡ p.id
    pub there : IsSome (item_at rack p.key)

  pub each_good : (rack : SlotsModel T) (pairs : List Pair) → IndexInvariant rack pairs → AllByRecursion (Good rack pairs) pairs
  each_good rack pairs tied = all_mapped (λ p. key_of pairs p.id ≡ Some p.key) (Good rack pairs) pairs (λ p is. item_and (λ item. item.known.id ≡ p.id) rack p.key (tied.there p.id p.key is) (λ item found id. record { key = is; id = ap (λ x. x.known.id) (place_item rack p.key item found) ∙ id; there = ap is_some found })) (each_key pairs tied.ascending)

  place_kept : (rack : SlotsModel T) (pairs : List Pair) (i : ℕ) (ps : List Pair) → AllByRecursion (Good rack pairs) ps → place_in (objects_of rack ps) i ≡ option_map (place_at rack) (key_of ps i)
  place_kept rack pairs i [] all = refl
  place_kept rack pairs i (p ∷ ps) all = rw all.0.id (by_test (i == p.id) (place_kept rack pairs i ps all.1))
    where
      by_test : (b : Bool) → place_in (objects_of rack ps) i ≡ option_map (place_at rack) (key_of ps i) → cond b (Some (place_at rack p.key)) (place_in (objects_of rack ps) i) ≡ option_map (place_at rack) (option_map (λ q. q.key) (cond b (Some p) (find (λ q. i == q.id) ps)))
      by_test true later = refl
      by_test false later = later

  -- the object of an id is the one under its key
  pub place_under : (rack : SlotsModel T) (pairs : List Pair) (i : ℕ) → IndexInvariant rack pairs → place_in (objects_of rack pairs) i ≡ option_map (place_at rack) (key_of pairs i)
  place_under rack pairs i tied = place_kept rack pairs i pairs (each_good rack pairs tied)

  pub record_under : (rack : SlotsModel T) (pairs : List Pair) (i : ℕ) → IndexInvariant rack pairs → record_in (records_in (objects_of rack pairs)) i ≡ option_map (λ key. (place_at rack key).known) (key_of pairs i)
  record_under rack pairs i tied = record_in-records_in i (objects_of rack pairs) ∙ ap (option_map (λ p. p.known)) (place_under rack pairs i tied) ∙ twice (key_of pairs i)
    where
      twice : (o : Option ℕ) → option_map (λ p. p.known) (option_map (place_at rack) o) ≡ option_map (λ key. (place_at rack key).known) o
      twice None = refl
      twice (Some key) = refl

  -- a present object has a key
  pub key_there : (rack : SlotsModel T) (pairs : List Pair) (i : ℕ) (P : Record → Type 0) → IndexInvariant rack pairs → IsSomeAnd (record_in (records_in (objects_of rack pairs)) i) P → IsSome (key_of pairs i)
  key_there rack pairs i P tied known = by_case (key_of pairs i) (subst (λ o. IsSomeAnd o P) (record_under rack pairs i tied) known)
    where
      by_case : (o : Option ℕ) → IsSomeAnd (option_map (λ key. (place_at rack key).known) o) P → IsSome o
      by_case None known = absurd known
      by_case (Some key) known = refl

  -- the position of the id in the list
  abbrev pub spot : ℕ → List (Place T) → ℕ
  spot i [] = 0
  spot i (p ∷ ps) = if i == p.known.id then 0 else suc (spot i ps)

  record IsPlacedAt (ps : List (Place T)) (i k : ℕ) (q : Place T) : Type 0 where
    in_range : k < length ps
    read : (d : Place T) → get_or ps k d ≡ q
    id : q.known.id ≡ i

  placed_at : (ps : List (Place T)) (i : ℕ) (q : Place T) → place_in ps i ≡ Some q → IsPlacedAt ps i (spot i ps) q
  placed_at [] i q is = absurd (cc is)
  placed_at (p ∷ ps) i q is =
      elim (eqb_tells i p.known.id) [
        | inl same ↦ (let here : p ≡ q = cc (rw same.0 at is) in rw same.0 (record { in_range = omega arith; read = λ d. here; id = ap (λ x. x.known.id) (sym here) ∙ sym same.1 }))
        | inr differs ↦ (let later = placed_at ps i q (rw differs.0 at is) in rw differs.0 (record { in_range = omega (arith, later.in_range); read = later.read; id = later.id }))
      ]

  pub found_key : (rack : SlotsModel T) (pairs : List Pair) (i key : ℕ) (r : Record) → IndexInvariant rack pairs → PlacesInvariant (objects_of rack pairs) → key_of pairs i ≡ Some key → known_at rack key ≡ Some r
      → Found (objects_of rack pairs) i (spot i (objects_of rack pairs)) (record { known = r; value = value_at rack key })
  found_key rack pairs i key r tied well_formed at known =
      let here = placed_at (objects_of rack pairs) i (record { known = r; value = value_at rack key }) (place_under rack pairs i tied ∙ ap (option_map (place_at rack)) at ∙ ap Some (place_known rack key r known)) in
      record {
        well_formed = well_formed;
        at = record { in_range = here.in_range; has_id = λ d. ap (λ x. x.known.id) (here.read d) ∙ here.id };
        read = sym (here.read (record { known = r; value = value_at rack key }));
      }

  -- ---- an object is changed
  -- the object under the key before and after the change
  pub record Turns (rack rack2 : SlotsModel T) (pairs : List Pair) (i key : ℕ) (q p : Item T) : Type 0 where
    pub at : key_of pairs i ≡ Some key
    pub old : item_at rack key ≡ Some q
    pub sets : Sets rack rack2 key (Some p)
    pub id : q.known.id ≡ i
    pub same : p.known.id ≡ q.known.id

  changed_all : (rack rack2 : SlotsModel T) (pairs : List Pair) (i key : ℕ) (q p : Item T) → Turns rack rack2 pairs i key q p → (ps : List Pair) → AllByRecursion (Good rack pairs) ps → objects_of rack2 ps ≡ changed i (λ x. place_of p) (objects_of rack ps)
  changed_all rack rack2 pairs i key q p turns [] all = refl
  changed_all rack rack2 pairs i key q p turns (x ∷ ps) all =
      elim (eqb_tells i x.id) [
        | inl same ↦
            let under : Some x.key ≡ Some key = sym all.0.key ∙ ap (key_of pairs) (sym same.1) ∙ turns.at in
            let here : x.key ≡ key = cc under in
            rw (all.0.id, same.0) (λ j. place_at_here here j ∷ changed_all rack rack2 pairs i key q p turns ps all.1 j)
        | inr differs ↦
            let apart : x.key ≢ key = λ here. differs.1 (sym turns.id ∙ ap (λ y. y.known.id) (sym (place_item rack key q turns.old)) ∙ ap (λ k. (place_at rack k).known.id) (sym here) ∙ all.0.id) in
            let stays = place_same rack rack2 x.key (turns.sets.others x.key apart) in
            rw (all.0.id, differs.0) (λ j. stays j ∷ changed_all rack rack2 pairs i key q p turns ps all.1 j)
      ]
    where
      place_at_here : x.key ≡ key → place_at rack2 x.key ≡ place_of p
      place_at_here here = ap (place_at rack2) here ∙ place_item rack2 key p turns.sets.changed

  pub kept_turned : (rack rack2 : SlotsModel T) (pairs : List Pair) (i key : ℕ) (q p : Item T) → IndexInvariant rack pairs → Turns rack rack2 pairs i key q p → objects_of rack2 pairs ≡ changed i (λ x. place_of p) (objects_of rack pairs)
  kept_turned rack rack2 pairs i key q p tied turns = changed_all rack rack2 pairs i key q p turns pairs (each_good rack pairs tied)

  pub tied_turned : (rack rack2 : SlotsModel T) (pairs : List Pair) (i key : ℕ) (q p : Item T) → IndexInvariant rack pairs → Turns rack rack2 pairs i key q p → IndexInvariant rack2 pairs
  tied_turned rack rack2 pairs i key q p tied turns = record {
    ascending = tied.ascending;
    there = λ j k is. elim (eqb_tells k key) [
      | inl same ↦
          (let was : q.known.id ≡ j = subst (λ o. IsSomeAnd o (λ item. item.known.id ≡ j)) (ap (item_at rack) same.1 ∙ turns.old) (tied.there j k is) in
          subst (λ o. IsSomeAnd o (λ item. item.known.id ≡ j)) (sym (ap (item_at rack2) same.1 ∙ turns.sets.changed)) (turns.same ∙ was))
      | inr differs ↦ subst (λ o. IsSomeAnd o (λ item. item.known.id ≡ j)) (sym (turns.sets.others k differs.1)) (tied.there j k is)
    ];
    back = λ k item is. elim (eqb_tells k key) [
      | inl same ↦
          (let e : Some item ≡ Some p = sym is ∙ ap (item_at rack2) same.1 ∙ turns.sets.changed in
          let this : item ≡ p = cc e in
          ap (λ x. key_of pairs x.known.id) this ∙ ap (key_of pairs) turns.same ∙ tied.back key q turns.old ∙ ap Some (sym same.1))
      | inr differs ↦ tied.back k item (sym (turns.sets.others k differs.1) ∙ is)
    ];
  }

  -- ---- the queue
  -- whether the object under a key belongs in the queue
  abbrev pub is_queued_item : Option (Item T) → Bool
  is_queued_item None = false
  is_queued_item (Some item) = is_queued item.known.phase

  -- a change of the queue and of the object under one key
  pub record Requeues (rack rack2 : SlotsModel T) (key : ℕ) (o : Option (Item T)) : Type 0 where
    pub sets : Sets rack rack2 key o
    pub here : is_in key rack2.queue ≡ is_queued_item o
    pub others : (other : ℕ) → other ≢ key → is_in other rack2.queue ≡ is_in other rack.queue
    pub ascends : IsAscendingQueue (parked_of rack2)

  there_if_queued : (o : Option (Item T)) → is_queued_item o ≡ true → IsSome o
  there_if_queued None queued = absurd (cc queued)
  there_if_queued (Some item) queued = refl

  pub line_turned : (rack rack2 : SlotsModel T) (key : ℕ) (o : Option (Item T)) → QueueInvariant rack → Requeues rack rack2 key o → QueueInvariant rack2
  line_turned rack rack2 key o line turns = record {
    present = λ other there. elim (eqb_tells other key) [
      | inl same ↦ ap (λ k. is_some (item_at rack2 k)) same.1 ∙ ap is_some turns.sets.changed ∙ there_if_queued o (sym turns.here ∙ ap (λ k. is_in k rack2.queue) (sym same.1) ∙ there)
      | inr differs ↦ ap is_some (turns.sets.others other differs.1) ∙ line.present other (sym (turns.others other differs.1) ∙ there)
    ];
    follows = λ other item is. elim (eqb_tells other key) [
      | inl same ↦ ap (λ k. is_in k rack2.queue) same.1 ∙ turns.here ∙ ap is_queued_item (sym turns.sets.changed ∙ ap (item_at rack2) (sym same.1) ∙ is)
      | inr differs ↦ turns.others other differs.1 ∙ line.follows other item (sym (turns.sets.others other differs.1) ∙ is)
    ];
    ascends = turns.ascends;
  }

above_same : (e e2 : ℕ → QueueEntry) (m n : ℕ) (keys : List ℕ) → n ≡ m → ((k : ℕ) → is_in k keys ≡ true → (e2 k).parked ≡ (e k).parked) → AllByRecursion (λ q. m < q.parked) (map e keys) → AllByRecursion (λ q. n < q.parked) (map e2 keys)
above_same e e2 m n [] same each above = tt
above_same e e2 m n (x ∷ xs) same each above = (omega (arith, same, each x (is_in_first x xs), above.0), above_same e e2 m n xs same (λ k there. each k (is_in_later k x xs there)) above.1)

-- equal positions are ascending as well
pub ascends_same : (e e2 : ℕ → QueueEntry) (keys : List ℕ) → ((k : ℕ) → is_in k keys ≡ true → (e2 k).parked ≡ (e k).parked) → IsAscendingQueue (map e keys) → IsAscendingQueue (map e2 keys)
ascends_same e e2 [] each up = tt
ascends_same e e2 (x ∷ xs) each up = (above_same e e2 (e x).parked (e2 x).parked xs (each x (is_in_first x xs)) (λ k there. each k (is_in_later k x xs there)) up.0, ascends_same e e2 xs (λ k there. each k (is_in_later k x xs there)) up.1)

above_without : (e : ℕ → QueueEntry) (n key : ℕ) (keys : List ℕ) → AllByRecursion (λ q. n < q.parked) (map e keys) → AllByRecursion (λ q. n < q.parked) (map e (without_key key keys))
above_without e n key [] above = tt
above_without e n key (x ∷ xs) above = by_test (eqb key x) (above_without e n key xs above.1)
  where
    by_test : (b : Bool) → AllByRecursion (λ q. n < q.parked) (map e (without_key key xs)) → AllByRecursion (λ q. n < q.parked) (map e (cond (not b) (x ∷ without_key key xs) (without_key key xs)))
    by_test true later = later
    by_test false later = (above.0, later)

pub ascends_without : (e : ℕ → QueueEntry) (key : ℕ) (keys : List ℕ) → IsAscendingQueue (map e keys) → IsAscendingQueue (map e (without_key key keys))
ascends_without e key [] up = tt
ascends_without e key (x ∷ xs) up = by_test (eqb key x) (ascends_without e key xs up.1)
  where
    by_test : (b : Bool) → IsAscendingQueue (map e (without_key key xs)) → IsAscendingQueue (map e (cond (not b) (x ∷ without_key key xs) (without_key key xs)))
    by_test true later = later
    by_test false later = (above_without e (e x).parked key xs up.0, later)

above_push : (e : ℕ → QueueEntry) (n key : ℕ) (keys : List ℕ) → AllByRecursion (λ q. n < q.parked) (map e keys) → n < (e key).parked → AllByRecursion (λ q. n < q.parked) (map e (keys ++ key ∷ []))
above_push e n key [] above here = (here, tt)
above_push e n key (x ∷ xs) above here = (above.0, above_push e n key xs above.1 here)

pub ascends_push : (e : ℕ → QueueEntry) (key : ℕ) (keys : List ℕ) → IsAscendingQueue (map e keys) → AllByRecursion (λ q. q.parked < (e key).parked) (map e keys) → IsAscendingQueue (map e (keys ++ key ∷ []))
ascends_push e key [] up below = (tt, tt)
ascends_push e key (x ∷ xs) up below = (above_push e (e x).parked key xs up.0 below.0, ascends_push e key xs up.1 below.1)

below_same : (e e2 : ℕ → QueueEntry) (m n : ℕ) (keys : List ℕ) → n ≡ m → ((k : ℕ) → is_in k keys ≡ true → (e2 k).parked ≡ (e k).parked) → AllByRecursion (λ q. q.parked < m) (map e keys) → AllByRecursion (λ q. q.parked < n) (map e2 keys)
below_same e e2 m n [] same each below = tt
below_same e e2 m n (x ∷ xs) same each below = (omega (arith, same, each x (is_in_first x xs), below.0), below_same e e2 m n xs same (λ k there. each k (is_in_later k x xs there)) below.1)

module _ {T : Type 0} where
  -- the position of a key that is unchanged
  entry_same : (rack rack2 : SlotsModel T) (key k : ℕ) (o : Option (Item T)) → Sets rack rack2 key o → k ≢ key → (entry_at rack2 k).parked ≡ (entry_at rack k).parked
  entry_same rack rack2 key k o sets apart = ap (λ p. p.known.parked) (place_same rack rack2 k (sets.others k apart))

  -- an object that isn't in the queue, and doesn't enter it
  pub line_apart : (rack rack2 : SlotsModel T) (key : ℕ) (o : Option (Item T)) → QueueInvariant rack → Sets rack rack2 key o → rack2.queue ≡ rack.queue → is_in key rack.queue ≡ false → is_queued_item o ≡ false → QueueInvariant rack2
  line_apart rack rack2 key o line sets queue out still =
      line_turned rack rack2 key o line (record {
        sets = sets;
        here = ap (is_in key) queue ∙ out ∙ sym still;
        others = λ other apart. ap (is_in other) queue;
        ascends = rw queue (ascends_same (entry_at rack) (entry_at rack2) rack.queue (λ k there. entry_same rack rack2 key k o sets (not_key key k rack.queue there out)) line.ascends);
      })

  -- the entries are unchanged if the key isn't in the queue
  pub parked_same : (rack rack2 : SlotsModel T) (key : ℕ) (o : Option (Item T)) → Sets rack rack2 key o → rack2.queue ≡ rack.queue → is_in key rack.queue ≡ false → parked_of rack2 ≡ parked_of rack
  parked_same rack rack2 key o sets queue out = ap (map (entry_at rack2)) queue ∙ along rack.queue out
    where
      along : (keys : List ℕ) → is_in key keys ≡ false → map (entry_at rack2) keys ≡ map (entry_at rack) keys
      along [] apart = refl
      along (x ∷ xs) apart =
          let both = neither (eqb key x) (is_in key xs) apart in
          let stays = ap (λ p. entry_of p.known) (place_same rack rack2 x (sets.others x (λ same. eqb-false key x both.0 (sym same)))) in
          λ j. stays j ∷ along xs both.1 j

  -- an object that leaves the queue, or isn't in it
  pub line_left : (rack rack2 : SlotsModel T) (key : ℕ) (o : Option (Item T)) → QueueInvariant rack → Sets rack rack2 key o → rack2.queue ≡ without_key key rack.queue → is_queued_item o ≡ false → QueueInvariant rack2
  line_left rack rack2 key o line sets queue still =
      line_turned rack rack2 key o line (record {
        sets = sets;
        here = ap (is_in key) queue ∙ key_is_gone key rack.queue ∙ sym still;
        others = λ other apart. ap (is_in other) queue ∙ other_stays other key rack.queue apart;
        ascends = rw queue (ascends_same (entry_at rack) (entry_at rack2) (without_key key rack.queue) (λ k there. entry_same rack rack2 key k o sets (not_key key k (without_key key rack.queue) there (key_is_gone key rack.queue))) (ascends_without (entry_at rack) key rack.queue line.ascends));
      })

  -- an object that stays in the queue at its position
  pub line_stays : (rack rack2 : SlotsModel T) (key : ℕ) (q p : Item T) → QueueInvariant rack → Sets rack rack2 key (Some p) → item_at rack key ≡ Some q → rack2.queue ≡ rack.queue → is_queued q.known.phase ≡ true → is_queued p.known.phase ≡ true → p.known.parked ≡ q.known.parked → QueueInvariant rack2
  line_stays rack rack2 key q p line sets old queue was is same =
      line_turned rack rack2 key (Some p) line (record {
        sets = sets;
        here = ap (is_in key) queue ∙ line.follows key q old ∙ was ∙ sym is;
        others = λ other apart. ap (is_in other) queue;
        ascends = rw queue (ascends_same (entry_at rack) (entry_at rack2) rack.queue (λ k there. elim (eqb_tells k key) [
          | inl here ↦ ap (λ x. (entry_at rack2 x).parked) here.1 ∙ ap (λ x. x.known.parked) (place_item rack2 key p sets.changed) ∙ same ∙ ap (λ x. x.known.parked) (sym (place_item rack key q old)) ∙ ap (λ x. (entry_at rack x).parked) (sym here.1)
          | inr differs ↦ entry_same rack rack2 key k (Some p) sets differs.1
        ]) line.ascends);
      })

  -- an object that enters the queue at its end
  pub line_joined : (rack rack2 : SlotsModel T) (key : ℕ) (q p : Item T) → QueueInvariant rack → Sets rack rack2 key (Some p) → item_at rack key ≡ Some q → rack2.queue ≡ rack.queue ++ key ∷ [] → is_queued q.known.phase ≡ false → is_queued p.known.phase ≡ true → AllByRecursion (λ x. x.parked < p.known.parked) (parked_of rack) → QueueInvariant rack2
  line_joined rack rack2 key q p line sets old queue was is below =
      let out : is_in key rack.queue ≡ false = line.follows key q old ∙ was in
      let each : (k : ℕ) → is_in k rack.queue ≡ true → (entry_at rack2 k).parked ≡ (entry_at rack k).parked = λ k there. entry_same rack rack2 key k (Some p) sets (not_key key k rack.queue there out) in
      line_turned rack rack2 key (Some p) line (record {
        sets = sets;
        here = ap (is_in key) queue ∙ in_pushed key rack.queue ∙ sym is;
        others = λ other apart. ap (is_in other) queue ∙ in_push_other other key rack.queue apart;
        ascends = rw queue (ascends_push (entry_at rack2) key rack.queue (ascends_same (entry_at rack) (entry_at rack2) rack.queue each line.ascends) (below_same (entry_at rack) (entry_at rack2) p.known.parked (entry_at rack2 key).parked rack.queue (ap (λ x. x.known.parked) (place_item rack2 key p sets.changed)) each below));
      })

  -- ---- the entries are those of the records
  pub queue_kept : (rack : SlotsModel T) (pairs : List Pair) → IndexInvariant rack pairs → QueueInvariant rack → IsQueueOf (record_in (records_in (objects_of rack pairs))) (parked_of rack)
  queue_kept rack pairs tied line = record {
    ascending = line.ascends;
    each = each_entry (λ q. IsSomeAnd (record_in (records_in (objects_of rack pairs)) q.id) (IsEntry q)) (entry_at rack) rack.queue (λ k there. some_item rack k (line.present k there) (λ item found.
        let place = place_item rack k item found in
        let under : record_in (records_in (objects_of rack pairs)) (entry_at rack k).id ≡ Some (place_at rack k).known = ap (λ p. record_in (records_in (objects_of rack pairs)) p.known.id) place ∙ record_under rack pairs item.known.id tied ∙ ap (option_map (λ key. (place_at rack key).known)) (tied.back k item found) in
        let queued : is_queued (place_at rack k).known.phase ≡ true = ap (λ p. is_queued p.known.phase) place ∙ sym (line.follows k item found) ∙ there in
        subst (λ o. IsSomeAnd o (IsEntry (entry_at rack k))) (sym under) (record { parked = refl; queued = queued; idle = refl })));
    all = λ i queued. by_key i (key_of pairs i) refl (subst (λ o. IsSomeAnd o (λ r. is_queued r.phase ≡ true)) (record_under rack pairs i tied) queued);
  }
    where
      by_key : (i : ℕ) (o : Option ℕ) → key_of pairs i ≡ o → IsSomeAnd (option_map (λ key. (place_at rack key).known) o) (λ r. is_queued r.phase ≡ true) → HasEntry i (parked_of rack)
      by_key i None is queued = absurd queued
      by_key i (Some key) is queued =
          item_and (λ item. item.known.id ≡ i) rack key (tied.there i key is) (λ item found id.
          let place = place_item rack key item found in
          let there : is_in key rack.queue ≡ true = line.follows key item found ∙ ap (λ p. is_queued p.known.phase) (sym place) ∙ queued in
          subst (λ (n : ℕ). HasEntry n (parked_of rack)) (ap (λ p. p.known.id) place ∙ id) (has_entry (entry_at rack) key rack.queue there))
