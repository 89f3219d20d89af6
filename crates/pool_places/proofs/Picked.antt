-- A search of the entries of the queue has the result that is defined by the records.
use Rattle.std.proofs.Common.{◌≡◌, ◌⊎◌, ℕ, ◌<◌, ◌≤◌, nat_lt, eqb, Bool, true, false, ◌&&◌, cond, if◌then◌else◌, List, [], ◌∷◌, reverse, Option, Some, None, refl, ap, sym, ◌∙◌, inl, inr, arith, subst}
use Rattle.std.specs.Prelude.{filter, find, fold, IsSomeAnd}
use Rattle.std.specs.List.{AllByRecursion}
use Rattle.std.specs.Option.{option_map, option_or, ForSome}
use Rattle.std.proofs.lemmas.Bool.{lt-ltb, le-ltb}
use Rattle.std.proofs.lemmas.Bool.Decides.{nat_tests}
use Rattle.std.proofs.lemmas.List.{reverse-append}
use Rattle.std.proofs.lemmas.List.Folds.{find-append}
use Rattle.pool_journal.specs.declared.record.Record.{Record}
use Rattle.pool_journal.specs.declared.record.Phase.{Phase}
use Rattle.pool_journal.specs.declared.record.Phase.TheVariants as phases
use Rattle.pool_journal.specs.Queue.{record_in, is_idle, is_queued, idle_queue, first_of, last_of, earlier, later}
use Rattle.pool_journal.proofs.Ascending.{first_of-by_ascending, last_of-by_ascending}
use Rattle.pool_places.specs.After.{is_after}
use Rattle.pool_places.specs.QueueEntries.{QueueEntry}
use Rattle.pool_places.specs.QueueEntries.{IsAscendingQueue, IsEntry, HasEntry, IsQueueOf}
use Rattle.pool_places.proofs.Entries.{all_mapped}
use Rattle.pool_places.proofs.Passes.{earlier_after, first_after-idle_queue}
use Rattle.pool_places.proofs.Picks.{earlier_keeps, later_keeps, no_one, all_filtered}

-- ---- the best of a list
abbrev pub Among : Record → List Record → Type 0
Among r [] = ⊥
Among r (x ∷ xs) = (x ≡ r) ⊎ Among r xs

-- a step that keeps r against the records that it beats
record Prefers (step : Option Record → Record → Option Record) (r : Record) (Beaten : Record → Type 0) : Type 0 where
  keep : (x : Record) → (x ≡ r) ⊎ Beaten x → step (Some r) x ≡ Some r
  take : (o : Option Record) → ForSome o Beaten → step o r ≡ Some r
  worse : (o : Option Record) (x : Record) → ForSome o Beaten → Beaten x → ForSome (step o x) Beaten

fold_stays : (step : Option Record → Record → Option Record) (r : Record) (Beaten : Record → Type 0) → Prefers step r Beaten → (xs : List Record) → AllByRecursion (λ x. (x ≡ r) ⊎ Beaten x) xs → fold step (Some r) xs ≡ Some r
fold_stays step r Beaten p [] all = refl
fold_stays step r Beaten p (x ∷ xs) all = ap (λ (o : Option Record). fold step o xs) (p.keep x all.0) ∙ fold_stays step r Beaten p xs all.1

fold_comes : (step : Option Record → Record → Option Record) (r : Record) (Beaten : Record → Type 0) → Prefers step r Beaten → (o : Option Record) (xs : List Record) → ForSome o Beaten → AllByRecursion (λ x. (x ≡ r) ⊎ Beaten x) xs → Among r xs → fold step o xs ≡ Some r
fold_comes step r Beaten p o [] worse all among = absurd among
fold_comes step r Beaten p o (x ∷ xs) worse all among =
    elim all.0 [
      | inl here ↦ ap (λ (b : Option Record). fold step b xs) (ap (step o) here ∙ p.take o worse) ∙ fold_stays step r Beaten p xs all.1
      | inr beaten ↦
          elim among [
            | inl here ↦ ap (λ (b : Option Record). fold step b xs) (ap (step o) here ∙ p.take o worse) ∙ fold_stays step r Beaten p xs all.1
            | inr later ↦ fold_comes step r Beaten p (step o x) xs (p.worse o x worse beaten) all.1 later
          ]
    ]

prefers_earlier : (r : Record) → Prefers (earlier (λ x. x.parked)) r (λ x. r.parked < x.parked)
prefers_earlier r = record {
  keep = λ x which. let le : r.parked ≤ x.parked = elim which [ inl same ↦ omega (arith, ap (λ (y : Record). y.parked) same) | inr above ↦ omega (arith, above) ] in rw (le-ltb x.parked r.parked le) refl;
  take = take;
  worse = earlier_keeps (λ x. r.parked < x.parked) (λ x. x.parked);
}
  where
    take : (o : Option Record) → ForSome o (λ x. r.parked < x.parked) → earlier (λ x. x.parked) o r ≡ Some r
    take None worse = refl
    take (Some b) worse = rw (lt-ltb r.parked b.parked (worse b refl)) refl

prefers_later : (r : Record) → Prefers (later (λ x. x.parked)) r (λ x. x.parked < r.parked)
prefers_later r = record {
  keep = keep;
  take = take;
  worse = later_keeps (λ x. x.parked < r.parked) (λ x. x.parked);
}
  where
    either : (x : Record) (b : Bool) → x ≡ r → (if b then Some r else Some x) ≡ Some r
    either x true same = refl
    either x false same = ap Some same

    keep : (x : Record) → (x ≡ r) ⊎ (x.parked < r.parked) → later (λ y. y.parked) (Some r) x ≡ Some r
    keep x which = elim which [ inl same ↦ either x (nat_lt x.parked r.parked) same | inr below ↦ rw (lt-ltb x.parked r.parked below) refl ]

    take : (o : Option Record) → ForSome o (λ x. x.parked < r.parked) → later (λ x. x.parked) o r ≡ Some r
    take None worse = refl
    take (Some b) worse = (let below = worse b refl in rw (le-ltb r.parked b.parked (omega (arith, below))) refl)

-- ---- the entry that is found
find_has : (P : QueueEntry → Type 0) (test : QueueEntry → Bool) (qs : List QueueEntry) (q : QueueEntry) → AllByRecursion P qs → find test qs ≡ Some q → P q × (test q ≡ true)
find_has P test [] q all is = absurd (cc is)
find_has P test (x ∷ qs) q all is = by_test (test x) refl is (find_has P test qs q all.1)
  where
    by_test : (b : Bool) → test x ≡ b → cond b (Some x) (find test qs) ≡ Some q → (find test qs ≡ Some q → P q × (test q ≡ true)) → P q × (test q ≡ true)
    by_test true passes is later = let e : x ≡ q = cc is in (subst P e all.0, ap test (sym e) ∙ passes)
    by_test false passes is later = later is

find_none : (test : QueueEntry → Bool) (qs : List QueueEntry) → find test qs ≡ None → AllByRecursion (λ q. test q ≡ false) qs
find_none test [] is = tt
find_none test (x ∷ qs) is = by_test (test x) refl is (find_none test qs)
  where
    by_test : (b : Bool) → test x ≡ b → cond b (Some x) (find test qs) ≡ None → (find test qs ≡ None → AllByRecursion (λ q. test q ≡ false) qs) → AllByRecursion (λ q. test q ≡ false) (x ∷ qs)
    by_test true passes is later = absurd (cc is)
    by_test false passes is later = (passes, later is)

-- an entry that passes is the one that was found, or a later one
find_first : (test : QueueEntry → Bool) (qs : List QueueEntry) (q : QueueEntry) → IsAscendingQueue qs → find test qs ≡ Some q → AllByRecursion (λ x. test x ≡ true → (x.id ≡ q.id) ⊎ (q.parked < x.parked)) qs
find_first test [] q up is = tt
find_first test (x ∷ qs) q up is = by_test (test x) refl is (find_first test qs q up.1)
  where
    by_test : (b : Bool) → test x ≡ b → cond b (Some x) (find test qs) ≡ Some q → (find test qs ≡ Some q → AllByRecursion (λ y. test y ≡ true → (y.id ≡ q.id) ⊎ (q.parked < y.parked)) qs) → AllByRecursion (λ y. test y ≡ true → (y.id ≡ q.id) ⊎ (q.parked < y.parked)) (x ∷ qs)
    by_test true passes is later =
        let e : x ≡ q = cc is in
        let above = subst (λ (y : QueueEntry). AllByRecursion (λ p. y.parked < p.parked) qs) e up.0 in
        (λ t. inl (ap (λ (y : QueueEntry). y.id) e), all_mapped (λ y. q.parked < y.parked) (λ y. test y ≡ true → (y.id ≡ q.id) ⊎ (q.parked < y.parked)) qs (λ y a t. inr a) above)
    by_test false passes is later = (λ t. absurd (cc (t, passes)), later is)

find_reverse : (test : QueueEntry → Bool) (q : QueueEntry) (qs : List QueueEntry) → find test (reverse (q ∷ qs)) ≡ option_or (find test (reverse qs)) (cond (test q) (Some q) None)
find_reverse test q qs = ap (find test) (reverse-append (q ∷ []) qs) ∙ find-append test (reverse qs) (q ∷ [])

last_has : (P : QueueEntry → Type 0) (test : QueueEntry → Bool) (qs : List QueueEntry) (q : QueueEntry) → AllByRecursion P qs → find test (reverse qs) ≡ Some q → P q × (test q ≡ true)
last_has P test [] q all is = absurd (cc is)
last_has P test (x ∷ qs) q all is = by_rest (find test (reverse qs)) (test x) refl (sym (find_reverse test x qs) ∙ is) (last_has P test qs q all.1) refl
  where
    by_rest : (o : Option QueueEntry) (b : Bool) → test x ≡ b → option_or o (cond b (Some x) None) ≡ Some q → (find test (reverse qs) ≡ Some q → P q × (test q ≡ true)) → find test (reverse qs) ≡ o → P q × (test q ≡ true)
    by_rest (Some y) b passes is later found = later (found ∙ is)
    by_rest None true passes is later found = let e : x ≡ q = cc is in (subst P e all.0, ap test (sym e) ∙ passes)
    by_rest None false passes is later found = absurd (cc is)

last_none : (test : QueueEntry → Bool) (qs : List QueueEntry) → find test (reverse qs) ≡ None → AllByRecursion (λ q. test q ≡ false) qs
last_none test [] is = tt
last_none test (x ∷ qs) is = by_rest (find test (reverse qs)) (test x) refl (sym (find_reverse test x qs) ∙ is) (last_none test qs) refl
  where
    by_rest : (o : Option QueueEntry) (b : Bool) → test x ≡ b → option_or o (cond b (Some x) None) ≡ None → (find test (reverse qs) ≡ None → AllByRecursion (λ q. test q ≡ false) qs) → find test (reverse qs) ≡ o → AllByRecursion (λ q. test q ≡ false) (x ∷ qs)
    by_rest (Some y) b passes is later found = absurd (cc is)
    by_rest None true passes is later found = absurd (cc is)
    by_rest None false passes is later found = (passes, later found)

find_last : (test : QueueEntry → Bool) (qs : List QueueEntry) (q : QueueEntry) → IsAscendingQueue qs → find test (reverse qs) ≡ Some q → AllByRecursion (λ x. test x ≡ true → (x.id ≡ q.id) ⊎ (x.parked < q.parked)) qs
find_last test [] q up is = tt
find_last test (x ∷ qs) q up is = by_rest (find test (reverse qs)) (test x) refl (sym (find_reverse test x qs) ∙ is) (find_last test qs q up.1) refl
  where
    by_rest : (o : Option QueueEntry) (b : Bool) → test x ≡ b → option_or o (cond b (Some x) None) ≡ Some q → (find test (reverse qs) ≡ Some q → AllByRecursion (λ y. test y ≡ true → (y.id ≡ q.id) ⊎ (y.parked < q.parked)) qs) → find test (reverse qs) ≡ o
        → AllByRecursion (λ y. test y ≡ true → (y.id ≡ q.id) ⊎ (y.parked < q.parked)) (x ∷ qs)
    by_rest (Some y) b passes is later found = (λ t. inr (last_has (λ p. x.parked < p.parked) test qs q up.0 (found ∙ is)).0, later (found ∙ is))
    by_rest None true passes is later found =
        let e : x ≡ q = cc is in
        (λ t. inl (ap (λ (y : QueueEntry). y.id) e), all_mapped (λ y. test y ≡ false) (λ y. test y ≡ true → (y.id ≡ q.id) ⊎ (y.parked < q.parked)) qs (λ y no t. absurd (cc (no, t))) (last_none test qs found))
    by_rest None false passes is later found = absurd (cc is)

-- ---- entries and records
-- a property of each entry holds of the entry of a record
of_entry : {C : Type 0} (rs : List Record) (G : QueueEntry → Type 0) (x : Record) (qs : List QueueEntry) → record_in rs x.id ≡ Some x → AllByRecursion (λ q. IsSomeAnd (record_in rs q.id) (IsEntry q)) qs → AllByRecursion G qs → HasEntry x.id qs → ((q : QueueEntry) → q.id ≡ x.id → IsEntry q x → G q → C) → C
of_entry rs G x [] here each all has go = absurd has
of_entry rs G x (q ∷ qs) here each all has go =
    elim has [
      | inl same ↦ go q same (subst (λ o. IsSomeAnd o (IsEntry q)) (ap (record_in rs) same ∙ here) each.0) all.0
      | inr later ↦ of_entry rs G x qs here each.1 all.1 later go
    ]

none_is : (xs : List Record) → AllByRecursion (λ x. ⊥) xs → xs ≡ []
none_is [] all = refl
none_is (x ∷ xs) all = absurd all.0

pub among_found : (i : ℕ) (r : Record) (rs : List Record) → record_in rs i ≡ Some r → Among r rs × (r.id ≡ i)
among_found i r [] is = absurd (cc is)
among_found i r (x ∷ rs) is = by_test (eqb i x.id) refl is (among_found i r rs)
  where
    by_test : (b : Bool) → eqb i x.id ≡ b → cond b (Some x) (record_in rs i) ≡ Some r → (record_in rs i ≡ Some r → Among r rs × (r.id ≡ i)) → Among r (x ∷ rs) × (r.id ≡ i)
    by_test true same is later = let e : x ≡ r = cc is in (inl e, (let n : i ≡ x.id = grind (arith, nat_tests) in ap (λ (y : Record). y.id) (sym e) ∙ sym n))
    by_test false same is later = (inr (later is).0, (later is).1)

pub among_filter : (test : Record → Bool) (r : Record) (rs : List Record) → test r ≡ true → Among r rs → Among r (filter test rs)
among_filter test r [] passes among = among
among_filter test r (x ∷ rs) passes among = by_test (test x) refl (among_filter test r rs passes)
  where
    by_test : (b : Bool) → test x ≡ b → (Among r rs → Among r (filter test rs)) → Among r (cond b (x ∷ filter test rs) (filter test rs))
    by_test true is later = elim among [ inl here ↦ inl here | inr rest ↦ inr (later rest) ]
    by_test false is later = elim among [ inl here ↦ absurd (cc (ap test here ∙ passes, is)) | inr rest ↦ later rest ]

-- the test of an entry agrees with the test of its record
pub record Agrees (test : QueueEntry → Bool) (passes : Record → Bool) : Type 0 where
  pub same : (q : QueueEntry) (r : Record) → IsEntry q r → test q ≡ passes r
  pub idle : (r : Record) → passes r ≡ true → is_queued r.phase ≡ true

-- these are the records that pass
pub record ArePassing (rs xs : List Record) (passes : Record → Bool) : Type 0 where
  pub each : AllByRecursion (λ x. (record_in rs x.id ≡ Some x) × (passes x ≡ true)) xs
  pub all : (r : Record) → Among r rs → passes r ≡ true → Among r xs

record_of : {C : Type 0} (rs : List Record) (q : QueueEntry) → IsSomeAnd (record_in rs q.id) (IsEntry q) → ((r : Record) → record_in rs q.id ≡ Some r → IsEntry q r → C) → C
record_of {C} rs q e go = by_case (record_in rs q.id) refl e
  where
    by_case : (o : Option Record) → record_in rs q.id ≡ o → IsSomeAnd o (IsEntry q) → C
    by_case None is e = absurd e
    by_case (Some r) is e = go r is e

queued_has : (rs : List Record) (qs : List QueueEntry) (x : Record) → IsQueueOf (record_in rs) qs → record_in rs x.id ≡ Some x → is_queued x.phase ≡ true → HasEntry x.id qs
queued_has rs qs x is here queued = is.all x.id (subst (λ o. IsSomeAnd o (λ r. is_queued r.phase ≡ true)) (sym here) queued)

-- if no entry passes, no record does
pub pick_none : (step : Option Record → Record → Option Record) (rs xs : List Record) (qs : List QueueEntry) (test : QueueEntry → Bool) (passes : Record → Bool) → Agrees test passes → ArePassing rs xs passes → IsQueueOf (record_in rs) qs → AllByRecursion (λ q. test q ≡ false) qs → fold step None xs ≡ None
pick_none step rs xs qs test passes agrees are is none =
    ap (fold step None) (none_is xs (all_mapped (λ x. (record_in rs x.id ≡ Some x) × (passes x ≡ true)) (λ x. ⊥) xs
    (λ x has. of_entry {C = ⊥} rs (λ q. test q ≡ false) x qs has.0 is.each none (queued_has rs qs x is has.0 (agrees.idle x has.1)) (λ q same entry fails. absurd (cc (agrees.same q x entry, fails, has.1)))) are.each))

same_record : (rs : List Record) (i j : ℕ) (x r : Record) → record_in rs i ≡ Some x → record_in rs j ≡ Some r → i ≡ j → x ≡ r
same_record rs i j x r here there same = let e : Some x ≡ Some r = sym here ∙ ap (record_in rs) same ∙ there in cc e

-- the one that is found is the record of the best entry
pick_one : (step : Option Record → Record → Option Record) (Less : ℕ → ℕ → Type 0) (rs xs : List Record) (qs : List QueueEntry) (test : QueueEntry → Bool) (passes : Record → Bool) (q : QueueEntry) → ((r : Record) → Prefers step r (λ x. Less r.parked x.parked)) → Agrees test passes → ArePassing rs xs passes → IsQueueOf (record_in rs) qs
    → AllByRecursion (λ x. test x ≡ true → (x.id ≡ q.id) ⊎ Less q.parked x.parked) qs → IsSomeAnd (record_in rs q.id) (IsEntry q) × (test q ≡ true) → option_map (λ r. r.id) (fold step None xs) ≡ Some q.id
pick_one step Less rs xs qs test passes q prefers agrees are is best found =
    record_of rs q found.0 (λ r here entry.
    let among = among_found q.id r rs here in
    let beaten = all_mapped (λ x. (record_in rs x.id ≡ Some x) × (passes x ≡ true)) (λ x. (x ≡ r) ⊎ Less r.parked x.parked) xs
    (λ x has. of_entry rs (λ y. test y ≡ true → (y.id ≡ q.id) ⊎ Less q.parked y.parked) x qs has.0 is.each best (queued_has rs qs x is has.0 (agrees.idle x has.1))
    (λ y same e which. elim (which (agrees.same y x e ∙ has.1)) [
      | inl id ↦ inl (same_record rs x.id q.id x r has.0 here (sym same ∙ id))
      | inr less ↦ inr (subst (λ (n : ℕ). Less r.parked n) (sym e.parked) (subst (λ (n : ℕ). Less n y.parked) (sym entry.parked) less))
    ])) are.each in
    ap (option_map (λ (x : Record). x.id)) (fold_comes step r (λ x. Less r.parked x.parked) (prefers r) None xs (no_one (λ x. Less r.parked x.parked)) beaten (are.all r among.0 (sym (agrees.same q r entry) ∙ found.1)))
    ∙ ap Some among.1)

-- the first
pub pick_first : (rs xs : List Record) (qs : List QueueEntry) (test : QueueEntry → Bool) (passes : Record → Bool) → Agrees test passes → ArePassing rs xs passes → IsQueueOf (record_in rs) qs → option_map (λ q. q.id) (find test qs) ≡ option_map (λ r. r.id) (fold (earlier (λ r. r.parked)) None xs)
pick_first rs xs qs test passes agrees are is = by_case (find test qs) refl
  where
    by_case : (o : Option QueueEntry) → find test qs ≡ o → option_map (λ q. q.id) o ≡ option_map (λ r. r.id) (fold (earlier (λ r. r.parked)) None xs)
    by_case None found = ap (option_map (λ (r : Record). r.id)) (sym (pick_none (earlier (λ r. r.parked)) rs xs qs test passes agrees are is (find_none test qs found)))
    by_case (Some q) found = sym (pick_one (earlier (λ r. r.parked)) (λ m n. m < n) rs xs qs test passes q prefers_earlier agrees are is (find_first test qs q is.ascending found) (find_has (λ q. IsSomeAnd (record_in rs q.id) (IsEntry q)) test qs q is.each found))

-- the last
pub pick_last : (rs xs : List Record) (qs : List QueueEntry) (test : QueueEntry → Bool) (passes : Record → Bool) → Agrees test passes → ArePassing rs xs passes → IsQueueOf (record_in rs) qs → option_map (λ q. q.id) (find test (reverse qs)) ≡ option_map (λ r. r.id) (fold (later (λ r. r.parked)) None xs)
pick_last rs xs qs test passes agrees are is = by_case (find test (reverse qs)) refl
  where
    by_case : (o : Option QueueEntry) → find test (reverse qs) ≡ o → option_map (λ q. q.id) o ≡ option_map (λ r. r.id) (fold (later (λ r. r.parked)) None xs)
    by_case None found = ap (option_map (λ (r : Record). r.id)) (sym (pick_none (later (λ r. r.parked)) rs xs qs test passes agrees are is (last_none test qs found)))
    by_case (Some q) found = sym (pick_one (later (λ r. r.parked)) (λ m n. n < m) rs xs qs test passes q prefers_later agrees are is (find_last test qs q is.ascending found) (last_has (λ q. IsSomeAnd (record_in rs q.id) (IsEntry q)) test qs q is.each found))

-- ---- the idle ones
idle_queued : (p : Phase) → is_idle p ≡ true → is_queued p ≡ true
idle_queued phases.Idle is = refl
idle_queued _ is = absurd (cc is)

agrees_idle : Agrees (λ q. q.is_idle) (λ r. is_idle r.phase)
agrees_idle = record { same = λ q r entry. sym entry.idle; idle = λ r passes. idle_queued r.phase passes }

idle_passing : (rs : List Record) → AllByRecursion (λ r. record_in rs r.id ≡ Some r) rs → ArePassing rs (filter (λ r. is_idle r.phase) rs) (λ r. is_idle r.phase)
idle_passing rs found = record {
  each = all_filtered (λ r. record_in rs r.id ≡ Some r) (λ r. is_idle r.phase) rs found;
  all = λ r among passes. among_filter (λ x. is_idle x.phase) r rs passes among;
}

pub first_entry : (rs : List Record) (qs : List QueueEntry) → AllByRecursion (λ r. record_in rs r.id ≡ Some r) rs → IsQueueOf (record_in rs) qs → option_map (λ q. q.id) (find (λ q. q.is_idle) qs) ≡ option_map (λ r. r.id) (first_of (idle_queue rs))
first_entry rs qs found is = pick_first rs (filter (λ r. is_idle r.phase) rs) qs _ _ agrees_idle (idle_passing rs found) is ∙ ap (option_map (λ (r : Record). r.id)) (sym (first_of-by_ascending (λ r. r.parked) (filter (λ r. is_idle r.phase) rs)))

pub last_entry : (rs : List Record) (qs : List QueueEntry) → AllByRecursion (λ r. record_in rs r.id ≡ Some r) rs → IsQueueOf (record_in rs) qs → option_map (λ q. q.id) (find (λ q. q.is_idle) (reverse qs)) ≡ option_map (λ r. r.id) (last_of (idle_queue rs))
last_entry rs qs found is = pick_last rs (filter (λ r. is_idle r.phase) rs) qs _ _ agrees_idle (idle_passing rs found) is ∙ ap (option_map (λ (r : Record). r.id)) (sym (last_of-by_ascending (λ r. r.parked) (filter (λ r. is_idle r.phase) rs)))

-- ---- the idle ones after a position
and_left : (a b : Bool) → (a && b) ≡ true → a ≡ true
and_left true b is = refl
and_left false b is = is

and_both : (a b : Bool) → a ≡ true → b ≡ true → (a && b) ≡ true
and_both true b left right = right
and_both false b left right = absurd (cc left)

and_right : (a b : Bool) → (a && b) ≡ true → b ≡ true
and_right true b is = is
and_right false b is = absurd (cc is)

agrees_after : (k : ℕ) → Agrees (λ q. q.is_idle && nat_lt k q.parked) (λ r. is_idle r.phase && nat_lt k r.parked)
agrees_after k = record {
  same = λ q r entry. rw (entry.idle, entry.parked) refl;
  idle = λ r passes. idle_queued r.phase (and_left (is_idle r.phase) _ passes);
}

after_passing : (k : ℕ) (rs : List Record) → AllByRecursion (λ r. record_in rs r.id ≡ Some r) rs → ArePassing rs (filter (is_after (Some k)) (filter (λ r. is_idle r.phase) rs)) (λ r. is_idle r.phase && nat_lt k r.parked)
after_passing k rs found = record {
  each = all_mapped (λ r. ((record_in rs r.id ≡ Some r) × (is_idle r.phase ≡ true)) × (nat_lt k r.parked ≡ true)) (λ r. (record_in rs r.id ≡ Some r) × ((is_idle r.phase && nat_lt k r.parked) ≡ true)) _
      (λ r has. (has.0.0, and_both (is_idle r.phase) (nat_lt k r.parked) has.0.1 has.1))
      (all_filtered (λ r. (record_in rs r.id ≡ Some r) × (is_idle r.phase ≡ true)) (is_after (Some k)) (filter (λ r. is_idle r.phase) rs) (all_filtered (λ r. record_in rs r.id ≡ Some r) (λ r. is_idle r.phase) rs found));
  all = λ r among passes. among_filter (is_after (Some k)) r (filter (λ x. is_idle x.phase) rs) (and_right (is_idle r.phase) _ passes) (among_filter (λ x. is_idle x.phase) r rs (and_left (is_idle r.phase) _ passes) among);
}

earlier_filtered : (k : ℕ) (o : Option Record) (xs : List Record) → fold (earlier_after k) o xs ≡ fold (earlier (λ r. r.parked)) o (filter (is_after (Some k)) xs)
earlier_filtered k o [] = refl
earlier_filtered k o (x ∷ xs) = by_test (nat_lt k x.parked) (earlier_filtered k o xs) (earlier_filtered k (earlier (λ r. r.parked) o x) xs)
  where
    by_test : (b : Bool) → fold (earlier_after k) o xs ≡ fold (earlier (λ r. r.parked)) o (filter (is_after (Some k)) xs) → fold (earlier_after k) (earlier (λ r. r.parked) o x) xs ≡ fold (earlier (λ r. r.parked)) (earlier (λ r. r.parked) o x) (filter (is_after (Some k)) xs)
        → fold (earlier_after k) (if b then earlier (λ r. r.parked) o x else o) xs ≡ fold (earlier (λ r. r.parked)) o (cond b (x ∷ filter (is_after (Some k)) xs) (filter (is_after (Some k)) xs))
    by_test true stays comes = comes
    by_test false stays comes = stays

pub next_entry : (k : ℕ) (rs : List Record) (qs : List QueueEntry) → AllByRecursion (λ r. record_in rs r.id ≡ Some r) rs → IsQueueOf (record_in rs) qs → option_map (λ q. q.id) (find (λ q. q.is_idle && nat_lt k q.parked) qs) ≡ option_map (λ r. r.id) (first_of (filter (is_after (Some k)) (idle_queue rs)))
next_entry k rs qs found is =
    pick_first rs (filter (is_after (Some k)) (filter (λ r. is_idle r.phase) rs)) qs _ _ (agrees_after k) (after_passing k rs found) is
    ∙ ap (option_map (λ (r : Record). r.id)) (sym (earlier_filtered k None (filter (λ r. is_idle r.phase) rs)) ∙ sym (first_after-idle_queue k rs))
