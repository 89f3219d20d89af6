-- When lent objects were last used.
use Rattle.std.proofs.Common.{◌≡◌, ◌≢◌, ◌⊎◌, inl, inr, ℕ, zero, suc, ◌+◌, ◌-◌, ◌<◌, ◌≤◌, nat_le, Bool, true, false, ◌&&◌, cond, List, [], ◌∷◌, ◌++◌, set, get_or, Option, Some, IfSome, refl, ap, sym, ◌∙◌, subst, arith}
use Rattle.std.specs.Prelude.{remove, IsTrue, OnOk, is_ok, Result, Ok, Err, slice_get, slice_index_or}
use Rattle.std.specs.List.{AllByRecursion, Contains}
use Rattle.std.specs.List.Sorted.{IsPermutation}
use Rattle.std.proofs.lemmas.Bool.{cases_lt}
use Rattle.std.proofs.lemmas.Bool.Decides.{nat_tests}
use Rattle.std.proofs.lemmas.List.Sorted.{Contains-permutation}
use Rattle.std.proofs.lemmas.Option.{slice_get-get_or, get_or_from_slice_get}
use Rattle.pool_journal.specs.Queue.{record_in}
use Rattle.pool_journal.specs.declared.record.Record.{Record}
use Rattle.pool_journal.specs.declared.record.Phase.{Phase}
use Rattle.pool_journal.specs.declared.record.Phase.TheVariants as phases
use Rattle.pool_places.specs.declared.place.Place.{Place}
use Rattle.pool_places.specs.Changes.{opens_as, takes_to}
use Rattle.pool_places.specs.declared.last_uses.LastUse.{LastUse}
use Rattle.pool_places.specs.declared.last_uses.LastUses.{LastUses}
use Rattle.pool_places.specs.LastUses.{AreLastUses, IsCovered, IsListed, IsUnused, HasAfter, use_of}
use Rattle.pool_places.specs.Overdue.{is_lent, overdue, IsBound}
use Rattle.pool_places.specs.PlacesModel.{records_in}
use Rattle.pool_places.proofs.Entries.{all_mapped}

pub opened_not_lent : (p : Phase) → IsTrue (opens_as p) → is_lent p ≡ false
opened_not_lent phases.Lent is = absurd (cc is)
opened_not_lent _ is = refl

pub taken_not_lent : (p : Phase) → IsTrue (takes_to p) → is_lent p ≡ false
taken_not_lent phases.Lent is = absurd (cc is)
taken_not_lent _ is = refl

-- what holds of each lent object
abbrev Lent : (Record → Type 0) → Record → Type 0
Lent P r = is_lent r.phase ≡ true → P r

abbrev Covered : LastUses → Record → Type 0
Covered uses r = (uses.recent ≤ r.used) ⊎ HasAfter uses.passed uses.order.items (use_of r)

-- an earlier time is one before which no other object was last used as well
pub bound_earlier : (uses : LastUses) (m : ℕ) (rs : List Record) → m ≤ uses.recent → AreLastUses uses rs → AreLastUses (record uses { recent = m }) rs
bound_earlier uses m rs less known =
    record {
      ascending = known.ascending;
      within = known.within;
      covered = all_mapped (Lent (Covered uses)) (Lent (Covered (record uses { recent = m }))) rs (λ r holds lent. earlier r (holds lent)) known.covered;
    }
  where
    earlier : (r : Record) → Covered uses r → Covered (record uses { recent = m }) r
    earlier r (inl later) = inl (omega (arith, later, less))
    earlier r (inr listed) = inr listed

all_set : {T : Type 0} (P : Record → Type 0) (k : ℕ) (p : Place T) (ps : List (Place T)) → P p.known → AllByRecursion P (records_in ps) → AllByRecursion P (records_in (set ps k p))
all_set P k p [] here all = tt
all_set P zero p (q ∷ ps) here all = (here, all.1)
all_set P (suc k) p (q ∷ ps) here all = (all.0, all_set P k p ps here all.1)

all_remove : {T : Type 0} (P : Record → Type 0) (k : ℕ) (ps : List (Place T)) → AllByRecursion P (records_in ps) → AllByRecursion P (records_in (remove ps k))
all_remove P zero [] all = tt
all_remove P (suc k) [] all = tt
all_remove P zero (q ∷ ps) all = all.1
all_remove P (suc k) (q ∷ ps) all = (all.0, all_remove P k ps all.1)

all_push : {T : Type 0} (P : Record → Type 0) (p : Place T) (ps : List (Place T)) → P p.known → AllByRecursion P (records_in ps) → AllByRecursion P (records_in (ps ++ p ∷ []))
all_push P p [] here all = (here, tt)
all_push P p (q ∷ ps) here all = (all.0, all_push P p ps here all.1)

pub bound_set : {T : Type 0} (uses : LastUses) (k : ℕ) (p : Place T) (ps : List (Place T)) → (is_lent p.known.phase ≡ true → uses.recent ≤ p.known.used) → AreLastUses uses (records_in ps) → AreLastUses uses (records_in (set ps k p))
bound_set uses k p ps here known = record { ascending = known.ascending; within = known.within; covered = all_set (Lent (Covered uses)) k p ps (λ lent. inl (here lent)) known.covered }

pub bound_remove : {T : Type 0} (uses : LastUses) (k : ℕ) (ps : List (Place T)) → AreLastUses uses (records_in ps) → AreLastUses uses (records_in (remove ps k))
bound_remove uses k ps known = record { ascending = known.ascending; within = known.within; covered = all_remove (Lent (Covered uses)) k ps known.covered }

pub bound_push : {T : Type 0} (uses : LastUses) (p : Place T) (ps : List (Place T)) → (is_lent p.known.phase ≡ true → uses.recent ≤ p.known.used) → AreLastUses uses (records_in ps) → AreLastUses uses (records_in (ps ++ p ∷ []))
bound_push uses p ps here known = record { ascending = known.ascending; within = known.within; covered = all_push (Lent (Covered uses)) p ps (λ lent. inl (here lent)) known.covered }

-- ---- the list
-- no object has a use that is passed
pub pass_one : (order : List LastUse) (recent p : ℕ) (one : LastUse) (rs : List Record) → slice_get order p ≡ Some one → IsUnused one rs → IsCovered recent p order rs → IsCovered recent (p + 1) order rs
pass_one order recent p one [] is unused covered = tt
pass_one order recent p one (r ∷ rs) is unused covered = (λ lent. later (unused.0 lent) (covered.0 lent), pass_one order recent p one rs is unused.1 covered.1)
  where
    later : (r.id ≡ one.id → r.used ≢ one.at) → (recent ≤ r.used) ⊎ HasAfter p order (use_of r) → (recent ≤ r.used) ⊎ HasAfter (p + 1) order (use_of r)
    later other (inl late) = inl late
    later other (inr (k, from, below, at)) =
        elim (cases_lt p k) [
          | inl above ↦ inr (k, omega (arith, above), below, at)
          | inr not_above ↦
              let same : k ≡ p = omega (arith, from, not_above) in
              let found : slice_index_or order p (use_of r) ≡ one = get_or_from_slice_get order p one (use_of r) is in
              let one_is : use_of r ≡ one = sym at ∙ ap (λ n. slice_index_or order n (use_of r)) same ∙ found in
              absurd (other (ap (λ u. u.id) one_is) (ap (λ u. u.at) one_is))
        ]

-- a time before which no object was last used
pub bound_from : (uses : LastUses) (n : ℕ) (rs : List Record) → AreLastUses uses rs → n ≤ uses.recent → ((one : LastUse) → slice_get uses.order.items uses.passed ≡ Some one → n ≤ one.at) → IsBound n rs
bound_from uses n rs known before first = all_mapped (Lent (Covered uses)) (λ r. is_lent r.phase ≡ true → n ≤ r.used) rs (λ r holds lent. by_case r (holds lent)) known.covered
  where
    by_case : (r : Record) → Covered uses r → n ≤ r.used
    by_case r (inl late) = omega (arith, before, late)
    by_case r (inr (k, from, below, at)) =
        let order = uses.order.items in
        let here = get_or order uses.passed (use_of r) in
        let is : slice_get order uses.passed ≡ Some here = slice_get-get_or order uses.passed (use_of r) (omega (arith, from, below)) in
        let up : here.at ≤ (get_or order k (use_of r)).at = known.ascending uses.passed k (use_of r) from below in
        omega (arith, first here is, up, ap (λ (u : LastUse). u.at) at)

-- a list of the last uses, after all others
pub listed_all : (order : List LastUse) (recent : ℕ) (rs : List Record) → IsListed order rs → IsCovered recent 0 order rs
listed_all order recent rs listed = all_mapped (Lent (λ r. Contains order (use_of r))) (Lent (λ r. (recent ≤ r.used) ⊎ HasAfter 0 order (use_of r))) rs (λ r holds lent. inr ((holds lent).0, omega arith, (holds lent).1, (holds lent).2)) listed

pub on_ok : {A E P : Type 0} (r : Result A E) → is_ok r ≡ true → OnOk r P → P
on_ok (Ok x) ok holds = holds
on_ok (Err e) ok holds = absurd (cc ok)

-- a list in another order
pub listed_again : (order other : List LastUse) (rs : List Record) → IsPermutation order other → IsListed order rs → IsListed other rs
listed_again order other rs moved listed = all_mapped (Lent (λ r. Contains order (use_of r))) (Lent (λ r. Contains other (use_of r))) rs (λ r holds lent. Contains-permutation order other (use_of r) moved (holds lent)) listed

-- none of which is listed
pub bound_all : (recent : ℕ) (order : List LastUse) (rs : List Record) → IsBound recent rs → IsCovered recent 0 order rs
bound_all recent order rs bound = all_mapped (λ r. is_lent r.phase ≡ true → recent ≤ r.used) (Lent (λ r. (recent ≤ r.used) ⊎ HasAfter 0 order (use_of r))) rs (λ r holds lent. inl (holds lent)) bound

-- if the bound is less than the timeout ago, no object is abandoned
pub none_overdue : (at timeout least : ℕ) (rs : List Record) → IsBound least rs → at - least < timeout → overdue at timeout rs ≡ []
none_overdue at timeout least [] bound early = refl
none_overdue at timeout least (r ∷ rs) bound early = by_test (is_lent r.phase) refl (none_overdue at timeout least rs bound.1 early)
  where
    by_test : (b : Bool) → is_lent r.phase ≡ b → overdue at timeout rs ≡ [] → cond (b && nat_le timeout (at - r.used)) (r ∷ overdue at timeout rs) (overdue at timeout rs) ≡ []
    by_test false lent later = later
    by_test true lent later =
        let used = bound.0 lent in
        let under : at - r.used < timeout = omega (arith, used, early) in
        let fails : nat_le timeout (at - r.used) ≡ false = grind (arith, nat_tests, under) in
        rw fails later

-- no lent object has a use, if the object with its id has not
pub unused_by : (one : LastUse) (all : List Record) (o : Option Record) → AllByRecursion (λ r. record_in all r.id ≡ Some r) all → record_in all one.id ≡ o → IfSome o (λ x. is_lent x.phase ≡ true → x.used ≢ one.at) → IsUnused one all
unused_by one all o found is test = all_mapped (λ r. record_in all r.id ≡ Some r) (λ r. is_lent r.phase ≡ true → r.id ≡ one.id → r.used ≢ one.at) all (λ r here lent same used. known r here same lent used) found
  where
    known : (r : Record) → record_in all r.id ≡ Some r → r.id ≡ one.id → is_lent r.phase ≡ true → r.used ≢ one.at
    known r here same =
        let there : o ≡ Some r = sym is ∙ ap (record_in all) (sym same) ∙ here in
        subst (λ x. IfSome x (λ y. is_lent y.phase ≡ true → y.used ≢ one.at)) there test
