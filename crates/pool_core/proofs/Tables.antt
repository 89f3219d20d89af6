-- What is asked of an object after entries that continue a base is asked of its record.
use Rattle.std.proofs.Common.{◌≡◌, ℕ, Bool, true, false, List, length, Option, Some, None, refl, ap, sym, ◌∙◌, inl, inr}
use Rattle.std.specs.Prelude.{◌⊎◌}
use Rattle.std.proofs.lemmas.Bool.{cases_lt}
use Rattle.std.proofs.lemmas.List.{length-map}
use Rattle.pool_journal.specs.declared.base.Base.{Base}
use Rattle.pool_journal.specs.declared.entry.Entry.{Entry}
use Rattle.pool_journal.specs.declared.record.Record.{Record}
use Rattle.pool_journal.specs.declared.record.Phase.{Phase}
use Rattle.pool_journal.specs.declared.record.Phase.TheVariants as phases
use Rattle.pool_journal.specs.declared.answer.Answer.{Answer}
use Rattle.pool_journal.specs.Entries.{is_present}
use Rattle.pool_journal.specs.Queue.{record_in}
use Rattle.pool_journal.specs.Base.{phase_from, is_new_from, drawn_from, present_from, record_from, records_from}
use Rattle.pool_journal.specs.Segments.{IsStateAfter}
use Rattle.pool_journal.proofs.Found.{found_from, not_found_from}
use Rattle.pool_settings.specs.declared.settings.Settings.{Settings}
use Rattle.pool_core.specs.Reply.{lent_reply, phase_of, new_of}

-- there are as many records as present objects
pub length-records_from : (b : Base) (J : List Entry) → length (records_from b J) ≡ length (present_from b J)
unfolding records_from
length-records_from b J = length-map (present_from b J) (record_from b J)

-- an object that is not present is absent or gone
absent_or_gone : (p : Phase) → is_present p ≡ false → (p ≡ phases.Absent) ⊎ (p ≡ phases.Gone)
absent_or_gone phases.Absent is = inl refl
absent_or_gone phases.Gone is = inr refl
absent_or_gone _ is = absurd (cc is)

-- a query of an object of the entries is one of its record
pub asks_from : {A : Type 0} (b : Base) (J : List Entry) (rs : List Record) (next : ℕ) → IsStateAfter b J rs next → (i : ℕ) (F : Phase → Bool → A)
    → ((new : Bool) → F phases.Absent new ≡ F phases.Absent false) → ((new : Bool) → F phases.Gone new ≡ F phases.Absent false)
    → F (phase_from b i J) (is_new_from b i J) ≡ F (phase_of (record_in rs i)) (new_of (record_in rs i))
asks_from {A} b J rs next reaches i F absent gone = by_record (record_in rs i) refl
  where
    not_there : is_present (phase_from b i J) ≡ false → F (phase_from b i J) (is_new_from b i J) ≡ F phases.Absent false
    not_there is = elim (absent_or_gone (phase_from b i J) is) [
      | inl here ↦ ap (λ (p : Phase). F p (is_new_from b i J)) here ∙ absent (is_new_from b i J)
      | inr here ↦ ap (λ (p : Phase). F p (is_new_from b i J)) here ∙ gone (is_new_from b i J)
    ]

    by_record : (o : Option Record) → record_in rs i ≡ o → F (phase_from b i J) (is_new_from b i J) ≡ F (phase_of o) (new_of o)
    by_record None is = elim (cases_lt i (drawn_from b J)) [
      | inl below ↦ not_there (not_found_from b J i below (ap (λ (ks : List Record). record_in ks i) (sym reaches.shown) ∙ is))
      | inr above ↦ not_there (ap (λ (r : Record). is_present r.phase) (reaches.fresh i above))
    ]
    by_record (Some r) is =
        let at = found_from b J i r (ap (λ (ks : List Record). record_in ks i) (sym reaches.shown) ∙ is) in
        ap (λ (k : Record). F k.phase k.is_new) (sym at.is)

-- the same for a query of a lent object
pub lent_from_is : (S : Settings) (b : Base) (J : List Entry) (rs : List Record) (next : ℕ) → IsStateAfter b J rs next → (i : ℕ) (a : Answer)
    → lent_reply S.abandoned (phase_from b i J) a ≡ lent_reply S.abandoned (phase_of (record_in rs i)) a
lent_from_is S b J rs next reaches i a =
    asks_from b J rs next reaches i (λ p new. lent_reply S.abandoned p a) (λ new. refl) (λ new. gone S.abandoned)
  where
    gone : (t : Bool) → lent_reply t phases.Gone a ≡ lent_reply t phases.Absent a
    gone true = refl
    gone false = refl
