-- The two steps of a borrow of an idle object, and those of a return to it, taken at once.
use Rattle.std.proofs.Common.{◌≡◌, ℕ, ◌+◌, ◌<◌, ◌≤◌, ◌^◌, Bool, true, false, not, if◌then◌else◌, List, [], ◌∷◌, ◌++◌, length, length-append, Option, Some, None, unwrap_or, refl, sym, ap, ◌∙◌, subst, arith}
use Rattle.std.proofs.lemmas.Bool.Decides.{nat_tests}
use Rattle.std.specs.Prelude.{◌==◌, ◌&&◌, IsSomeAnd, IsSome}
use Rattle.std.specs.List.{AllByRecursion}
use Rattle.std.specs.Option.{option_map, option_and_then}
use Rattle.pool_journal.specs.Base.{closed_from, cursor_from, drawn_from, phase_from, records_from}
use Rattle.pool_journal.specs.Effects.{HasEffect}
use Rattle.pool_journal.specs.Latest.{some_if}
use Rattle.pool_journal.specs.Queue.{is_queued, queue_length, record_in}
use Rattle.pool_journal.specs.Sound.{IsWellFormed}
use Rattle.pool_journal.specs.declared.answer.Answer.{Answer}
use Rattle.pool_journal.specs.declared.answer.Answer.TheVariants as answers
use Rattle.pool_journal.specs.declared.base.Base.{Base}
use Rattle.pool_journal.specs.declared.entry.Entry.{Entry}
use Rattle.pool_journal.specs.declared.input.Input.{Input}
use Rattle.pool_journal.specs.declared.input.Input.TheVariants.{Borrow, Ready, GiveBack, Park}
use Rattle.pool_journal.specs.declared.input.Outcome.TheVariants as outcomes
use Rattle.pool_journal.specs.declared.record.Phase.{Phase}
use Rattle.pool_journal.specs.declared.record.Phase.TheVariants as phases
use Rattle.pool_journal.specs.declared.record.Record.{Record}
use Rattle.pool_journal.proofs.Found.{each_found_from, each_present_from}
use Rattle.pool_journal.proofs.Pushed.{closed_from-push, phase_from-push}
use Rattle.pool_journal.proofs.Steps.{reaches_from-push}
use Rattle.pool_places.specs.declared.place.Place.{Place}
use Rattle.pool_places.specs.Changes.{QueueBelow, lent_at, parked_at, phase_set, with_changed}
use Rattle.pool_places.specs.Counts.{max_remaining, owed_for}
use Rattle.pool_places.specs.PlacesModel.{changed, place_in, records_in, to_idle, to_lent, to_phase, to_taken, value_in}
use Rattle.pool_places.proofs.Found.{records_changed}
use Rattle.pool_places.proofs.Values.{place_changed_here, value_changed_kept, value_changed_other}
use Rattle.pool_settings.specs.declared.settings.Settings.{Settings}
use Rattle.pool_stats.specs.declared.ended.RemovalTotals.{RemovalTotals}
use Rattle.pool_core.specs.Core.{Answered}
use Rattle.pool_core.specs.Fits.{FitsLimitFrom, limit_from, owed_from}
use Rattle.pool_core.specs.Legal.{IsLegalFrom, entry_of}
use Rattle.pool_core.specs.Pool.{Represents}
use Rattle.pool_core.specs.Reply.{has_room, is_below, reply_from}
use Rattle.pool_core.specs.Stepper.{IsPlan, LendsIdle, ParksLent, RepresentsSome, Stepped, StepperModel, pool_of, reached_by}
use Rattle.pool_core.specs.Steps.{IsBefore, TakesStep, comes_from}
use Rattle.pool_core.specs.Values.{OnlyAt, SameValues}
use Rattle.pool_core.specs.declared.state.State.{State}
use Rattle.pool_core.specs.declared.state.StepContext.{StepContext}
use Rattle.pool_core.proofs.Counted.{count_cons, one_if}
use Rattle.pool_core.proofs.Effects.{speaks}
use Rattle.pool_core.proofs.Finding.{finds_of}
use Rattle.pool_core.proofs.Legality.{legal_reaches_from}
use Rattle.pool_core.proofs.Moving.{check_known, lent_known, parked_known, taken_known}
use Rattle.pool_core.proofs.Outstanding.{open_owes, or_false}
use Rattle.pool_core.proofs.Pairs.{lent_of, parked_of}
use Rattle.pool_core.proofs.Representing.{before_of, due_of, owed_on, owed_then, represents_on}
use Rattle.pool_core.proofs.Stepping.{owed_in, represents_after, taken_on}

-- ---- the queue after a check

checked_is_not_queued : (p : Phase) → comes_from answers.Check p ≡ true → is_queued p ≡ false
checked_is_not_queued phases.Lent is = refl
checked_is_not_queued _ is = absurd (cc is)

module _ (rs : List Record) (i : ℕ) (lent : IsSomeAnd (record_in rs i) (λ r. comes_from answers.Check r.phase ≡ true)) where
  queue_stays : (ks : List Record) → AllByRecursion (λ r. record_in rs r.id ≡ Some r) ks
      → queue_length (with_changed i (phase_set phases.Returning) ks) ≡ queue_length ks
  queue_stays [] all = refl
  queue_stays (r ∷ ks) all = by_test (i == r.id) refl (queue_stays ks all.1)
    where
      rest : List Record
      rest = with_changed i (phase_set phases.Returning) ks

      is_lent : (i == r.id) ≡ true → is_queued r.phase ≡ false
      is_lent is =
          let same : i ≡ r.id = grind (arith, nat_tests) in
          let P : Option Record → Type 0 = λ o. IsSomeAnd o (λ x. comes_from answers.Check x.phase ≡ true) in
          checked_is_not_queued r.phase (subst P (ap (record_in rs) same ∙ all.0) lent)

      by_test : (t : Bool) → (i == r.id) ≡ t → queue_length rest ≡ queue_length ks
          → queue_length ((if t then phase_set phases.Returning r else r) ∷ rest) ≡ queue_length (r ∷ ks)
      by_test true is later =
          omega (
            arith,
            count_cons (λ (x : Record). is_queued x.phase) (phase_set phases.Returning r) rest,
            count_cons (λ (x : Record). is_queued x.phase) r ks,
            ap one_if (is_lent is),
            later,
          )
      by_test false is later =
          omega (
            arith,
            count_cons (λ (x : Record). is_queued x.phase) r rest,
            count_cons (λ (x : Record). is_queued x.phase) r ks,
            later,
          )

module _ (S : Settings) (b : Base) (J : List Entry) (sound : IsWellFormed b) (legal : IsLegalFrom S b J) (caller at i : ℕ)
    (due : answers.Check ≡ reply_from S b J at (GiveBack i)) where
  abbrev checked : Entry
  checked = entry_of caller at (GiveBack i) answers.Check

  records_on : with_changed i (phase_set phases.Returning) (records_from b J) ≡ records_from b (J ++ checked ∷ [])
  records_on =
      let now : StepContext = record { position = b.first + length J; at = at } in
      let rs = records_from b J in
      let next = drawn_from b J in
      let may : HasEffect checked rs next =
      subst (λ (a : Answer). HasEffect (entry_of caller at (GiveBack i) a) rs next) (sym due)
      (speaks S rs next (closed_from b J) (cursor_from b J) caller at (GiveBack i)) in
      let on = reaches_from-push b J rs next checked (legal_reaches_from S b J sound legal) may in
      check_known now next i (GiveBack i) rs refl (each_present_from b J) ∙ on.shown

  -- the queue has room for the object after the check as before
  pub room_stays : has_room S (closed_from b (J ++ checked ∷ [])) (records_from b (J ++ checked ∷ [])) ≡ has_room S (closed_from b J) (records_from b J)
  room_stays =
      let rs = records_from b J in
      let found = each_found_from b J in
      let lent = finds_of S rs (drawn_from b J) (closed_from b J) (cursor_from b J) at (GiveBack i) answers.Check found due in
      let shut : closed_from b (J ++ checked ∷ []) ≡ closed_from b J = closed_from-push b J checked ∙ or_false (closed_from b J) in
      ap (λ (t : Bool). has_room S t (records_from b (J ++ checked ∷ []))) shut
      ∙ ap (λ (ks : List Record). has_room S (closed_from b J) ks) (sym records_on)
      ∙ ap (λ (n : ℕ). not (closed_from b J) && is_below S.max_idle n) (queue_stays rs i lent rs found)

-- ---- the steps

same_id : (i : ℕ) → (i == i) ≡ true
same_id i = grind (arith, nat_tests)

-- no id is drawn, and no object ends
same_next : (n : ℕ) → n ≡ n + 0
same_next n = omega arith

same_ended : (n : RemovalTotals) → n ≡ record { destroyed = n.destroyed + 0; evicted = n.evicted + 0; reclaimed = n.reclaimed + 0 }
same_ended n = λ t.
    record { destroyed = same_next n.destroyed t; evicted = same_next n.evicted t; reclaimed = same_next n.reclaimed t }

-- the state with other objects
abbrev with_objects : {T : Type 0} → List (Place T) → State T → State T
with_objects ps s = record s { places = record { objects = ps; spare_capacity = s.places.spare_capacity } }

module _ (b : Base) (caller at i : ℕ) (J : List Entry) where
  -- a borrow that took an object makes it ready
  pub is_readied : (began : ℕ) → phase_from b i (J ++ entry_of caller at (Borrow began) (answers.Take i) ∷ []) ≡ phases.Readying
  is_readied began =
      phase_from-push b i J (entry_of caller at (Borrow began) (answers.Take i))
      ∙ ap (λ (t : Bool). unwrap_or (some_if t phases.Readying) (phase_from b i J)) (same_id i)

  -- a return that checked an object has it back
  pub is_returned : phase_from b i (J ++ entry_of caller at (GiveBack i) answers.Check ∷ []) ≡ phases.Returning
  is_returned =
      phase_from-push b i J (entry_of caller at (GiveBack i) answers.Check)
      ∙ ap (λ (t : Bool). unwrap_or (some_if t phases.Returning) (phase_from b i J)) (same_id i)

-- a state that represents the entries J
module _ {T : Type 0} (b : Base) (J : List Entry) (s new : State T) (caller at i : ℕ) (value : T) (first taken : ℕ)
    (represents : Represents s b J) (first_is : first ≡ b.first) (taken_is : taken ≡ length J) (small : first + taken + 2 < 2 ^ 64) where
  abbrev now : StepContext
  now = record { position = first + taken; at = at }

  abbrev later : StepContext
  later = record { position = first + taken + 1; at = at }

  here : first + taken ≡ b.first + length J
  here = omega (arith, first_is, taken_is)

  before : IsBefore now.position (records_in s.places.objects) s.next
  before = before_of b J (records_in s.places.objects) s.next represents.runnable.sound represents.reaches now.position here (omega (arith, small))

  -- an idle object is taken and lent
  module _ (began : ℕ) (plan : IsPlan s.settings b J at (Borrow began) (answers.Take i))
      (stored : value_in s.places.objects i ≡ Some value)
      (objects : new.places.objects ≡ changed i (to_lent at) (changed i (to_taken phases.Readying) s.places.objects))
      (rest : new ≡ record s { places = new.places })
      (owed_between : owed_for (records_in (changed i (to_taken phases.Readying) s.places.objects)) + max_remaining phases.Idle ≡ owed_for (records_in s.places.objects) + max_remaining phases.Readying)
      (owed_new : owed_for (records_in new.places.objects) + max_remaining phases.Idle ≡ owed_for (records_in s.places.objects) + max_remaining phases.Lent) where
    abbrev taken_state : State T
    taken_state = with_objects (changed i (to_taken phases.Readying) s.places.objects) s

    abbrev take_entry : Entry
    take_entry = entry_of caller at (Borrow began) (answers.Take i)

    takes : TakesStep now (Borrow began) s taken_state (answers.Take i)
    takes = record {
      due = plan.due ∙ sym (due_of b J s at (Borrow began) represents);
      known =
          records_changed i (to_taken phases.Readying) (phase_set phases.Readying) s.places.objects (λ p. refl)
          ∙ taken_known now s.next i (Borrow began) (records_in s.places.objects) refl before.stay;
      next_is = same_next s.next;
      closed_is = sym (or_false s.closed);
      cursor_is = refl;
      ended_is = same_ended s.ended;
      settings_stay = refl;
    }

    gone : (o : Option (Place T)) → option_and_then (λ p. p.value) (option_map (to_taken phases.Readying) o) ≡ None
    gone None = refl
    gone (Some p) = refl

    releases : (Some value ≡ value_in s.places.objects i) × IsSome (Some value) × (value_in taken_state.places.objects i ≡ None)
        × OnlyAt i s.places.objects taken_state.places.objects
    releases = (
      sym stored,
      refl,
      ap (option_and_then (λ p. p.value)) (place_changed_here i (to_taken phases.Readying) s.places.objects (λ p. refl)) ∙ gone (place_in s.places.objects i),
      λ j other. value_changed_other i (to_taken phases.Readying) s.places.objects j (λ p. refl) other,
    )

    taken_represents : Represents taken_state b (J ++ take_entry ∷ [])
    taken_represents =
        subst (λ (a : Answer). Represents taken_state b (J ++ entry_of caller at (Borrow began) a ∷ [])) (sym plan.due)
        (taken_on b J s taken_state s.places caller now (Borrow began) (answers.Take i) None (Some value) represents refl here refl releases takes plan)

    lent_due : answers.Lent ≡ reply_from s.settings b (J ++ take_entry ∷ []) at (Ready i outcomes.Good)
    lent_due =
        lent_of s.settings b (J ++ take_entry ∷ []) represents.runnable.sound taken_represents.legal at i (is_readied b caller at i J began)

    next_here : later.position ≡ b.first + length (J ++ take_entry ∷ [])
    next_here = omega (arith, here, length-append J (take_entry ∷ []))

    between : IsBefore later.position (records_in taken_state.places.objects) taken_state.next
    between =
        before_of b (J ++ take_entry ∷ []) (records_in taken_state.places.objects) taken_state.next represents.runnable.sound taken_represents.reaches
        later.position next_here (omega (arith, small))

    lends : TakesStep later (Ready i outcomes.Good) taken_state new answers.Lent
    lends = record {
      due = lent_due ∙ sym (due_of b (J ++ take_entry ∷ []) taken_state at (Ready i outcomes.Good) taken_represents);
      known =
          ap (λ ps. records_in ps) objects ∙ records_changed i (to_lent at) (lent_at at) taken_state.places.objects (λ p. refl)
          ∙ lent_known later s.next i (Ready i outcomes.Good) (records_in taken_state.places.objects) refl between.stay;
      next_is = ap (λ (x : State T). x.next) rest ∙ same_next s.next;
      closed_is = ap (λ (x : State T). x.closed) rest ∙ sym (or_false s.closed);
      cursor_is = ap (λ (x : State T). x.cursor) rest;
      ended_is = ap (λ (x : State T). x.ended) rest ∙ same_ended s.ended;
      settings_stay = ap (λ (x : State T). x.settings) rest;
    }

    lent_values : SameValues taken_state.places.objects new.places.objects
    lent_values j =
        ap (λ ps. value_in ps j) objects ∙ value_changed_kept i (to_lent at) taken_state.places.objects j (λ p. refl) (λ p. refl)

    -- fewer entries are outstanding once it is lent
    lent_owes : owed_then taken_state later (Ready i outcomes.Good) answers.Lent + 1 ≤ owed_from b (J ++ take_entry ∷ [])
    lent_owes =
        omega (
          arith,
          ap (λ (rs : List Record). owed_for rs) lends.known,
          ap open_owes (or_false s.closed),
          owed_between,
          owed_new,
          owed_in taken_state b (J ++ take_entry ∷ []) taken_represents,
        )

    -- it is represented by the journal with both entries
    lent_represents : Represents new b ((J ++ take_entry ∷ []) ++ entry_of caller at (Ready i outcomes.Good) answers.Lent ∷ [])
    lent_represents =
        represents_on b (J ++ take_entry ∷ []) taken_state new caller later (Ready i outcomes.Good) answers.Lent None None taken_represents next_here refl
        (refl, lent_values) lends (omega (arith, lent_owes, taken_represents.fits))

    abbrev lent_entry : Entry
    lent_entry = entry_of caller at (Ready i outcomes.Good) answers.Lent

    pub lends_both : LendsIdle caller at began i b J (reached_by s first taken) (reached_by new first (taken + 2)) value
    lends_both = record {
      mid = reached_by taken_state first (taken + 1);
      taken = record {
        due = ap (entry_of caller at (Borrow began)) plan.due;
        represents =
            represents_after taken_state first (taken + 1) b (J ++ take_entry ∷ []) taken_represents first_is
            (omega (arith, taken_is, length-append J (take_entry ∷ [])));
        settings_stay = refl;
        transfers = releases;
      };
      lent = record {
        due = ap (entry_of caller at (Ready i outcomes.Good)) lent_due;
        represents =
            represents_after new first (taken + 2) b ((J ++ take_entry ∷ []) ++ lent_entry ∷ []) lent_represents first_is
            (omega (arith, taken_is, length-append J (take_entry ∷ []), length-append (J ++ take_entry ∷ []) (lent_entry ∷ [])));
        settings_stay = lends.settings_stay;
        transfers = (refl, lent_values);
      };
    }

    pub lends_some : (limit : ℕ) → limit ≡ limit_from s.settings b → RepresentsSome new first (taken + 2) limit
    lends_some limit limit_is = record {
      base = b;
      journal = (J ++ take_entry ∷ []) ++ lent_entry ∷ [];
      represents = lent_represents;
      first_is = first_is;
      taken_is = omega (arith, taken_is, length-append J (take_entry ∷ []), length-append (J ++ take_entry ∷ []) (lent_entry ∷ []));
      limit_is = limit_is ∙ ap (λ (S : Settings). limit_from S b) (sym lends.settings_stay);
    }

    pub lends_fewer : owed_from b ((J ++ take_entry ∷ []) ++ lent_entry ∷ []) + 1 ≤ owed_from b (J ++ take_entry ∷ [])
    lends_fewer =
        omega (
          arith,
          lent_owes,
          owed_on b (J ++ take_entry ∷ []) taken_state caller later (Ready i outcomes.Good) answers.Lent taken_represents next_here lends.due,
        )

  -- a lent object is checked and parked
  module _ (due : answers.Check ≡ reply_from s.settings b J at (GiveBack i))
      (room : has_room s.settings (closed_from b J) (records_from b J) ≡ true)
      (stored : value_in new.places.objects i ≡ Some value)
      (objects : new.places.objects ≡ changed i (to_idle (first + taken + 1) at value) (changed i (to_phase phases.Returning) s.places.objects))
      (rest : new ≡ record s { places = new.places })
      (owed_between : owed_for (records_in (changed i (to_phase phases.Returning) s.places.objects)) + max_remaining phases.Lent ≡ owed_for (records_in s.places.objects) + max_remaining phases.Returning)
      (owed_new : owed_for (records_in new.places.objects) + max_remaining phases.Lent ≡ owed_for (records_in s.places.objects) + max_remaining phases.Idle) where
    abbrev checked_state : State T
    checked_state = with_objects (changed i (to_phase phases.Returning) s.places.objects) s

    abbrev check_entry : Entry
    check_entry = entry_of caller at (GiveBack i) answers.Check

    checks : TakesStep now (GiveBack i) s checked_state answers.Check
    checks = record {
      due = due ∙ sym (due_of b J s at (GiveBack i) represents);
      known =
          records_changed i (to_phase phases.Returning) (phase_set phases.Returning) s.places.objects (λ p. refl)
          ∙ check_known now s.next i (GiveBack i) (records_in s.places.objects) refl before.stay;
      next_is = same_next s.next;
      closed_is = sym (or_false s.closed);
      cursor_is = refl;
      ended_is = same_ended s.ended;
      settings_stay = refl;
    }

    checked_values : SameValues s.places.objects checked_state.places.objects
    checked_values j = value_changed_kept i (to_phase phases.Returning) s.places.objects j (λ p. refl) (λ p. refl)

    check_owes : owed_then s now (GiveBack i) answers.Check + 1 ≤ owed_from b J
    check_owes =
        omega (
          arith,
          ap (λ (rs : List Record). owed_for rs) checks.known,
          ap open_owes (or_false s.closed),
          owed_between,
          owed_in s b J represents,
        )

    checked_represents : Represents checked_state b (J ++ check_entry ∷ [])
    checked_represents =
        represents_on b J s checked_state caller now (GiveBack i) answers.Check None None represents here refl (refl, checked_values) checks
        (omega (arith, check_owes, represents.fits))

    park_due : answers.Parked ≡ reply_from s.settings b (J ++ check_entry ∷ []) at (Park i outcomes.Good)
    park_due =
        parked_of s.settings b (J ++ check_entry ∷ []) represents.runnable.sound checked_represents.legal at i true
        (sym (room_stays s.settings b J represents.runnable.sound represents.legal caller at i due ∙ room))
        (is_returned b caller at i J)

    parked_here : later.position ≡ b.first + length (J ++ check_entry ∷ [])
    parked_here = omega (arith, here, length-append J (check_entry ∷ []))

    returning : IsBefore later.position (records_in checked_state.places.objects) checked_state.next
    returning =
        before_of b (J ++ check_entry ∷ []) (records_in checked_state.places.objects) checked_state.next represents.runnable.sound checked_represents.reaches
        later.position parked_here (omega (arith, small))

    parks : TakesStep later (Park i outcomes.Good) checked_state new answers.Parked
    parks = record {
      due = park_due ∙ sym (due_of b (J ++ check_entry ∷ []) checked_state at (Park i outcomes.Good) checked_represents);
      known =
          ap (λ ps. records_in ps) objects
          ∙ records_changed i (to_idle (first + taken + 1) at value) (parked_at (first + taken + 1) at) checked_state.places.objects (λ p. refl)
          ∙ parked_known later s.next i (Park i outcomes.Good) (records_in checked_state.places.objects) refl returning.stay;
      next_is = ap (λ (x : State T). x.next) rest ∙ same_next s.next;
      closed_is = ap (λ (x : State T). x.closed) rest ∙ sym (or_false s.closed);
      cursor_is = ap (λ (x : State T). x.cursor) rest;
      ended_is = ap (λ (x : State T). x.ended) rest ∙ same_ended s.ended;
      settings_stay = ap (λ (x : State T). x.settings) rest;
    }

    parked_others : OnlyAt i checked_state.places.objects new.places.objects
    parked_others j other =
        ap (λ ps. value_in ps j) objects
        ∙ value_changed_other i (to_idle (first + taken + 1) at value) checked_state.places.objects j (λ p. refl) other

    park_owes : owed_then checked_state later (Park i outcomes.Good) answers.Parked + 1 ≤ owed_from b (J ++ check_entry ∷ [])
    park_owes =
        omega (
          arith,
          ap (λ (rs : List Record). owed_for rs) parks.known,
          ap open_owes (or_false s.closed),
          owed_between,
          owed_new,
          owed_in checked_state b (J ++ check_entry ∷ []) checked_represents,
        )

    parked_represents : Represents new b ((J ++ check_entry ∷ []) ++ entry_of caller at (Park i outcomes.Good) answers.Parked ∷ [])
    parked_represents =
        represents_on b (J ++ check_entry ∷ []) checked_state new caller later (Park i outcomes.Good) answers.Parked (Some value) None checked_represents parked_here refl
        (stored, refl, parked_others) parks (omega (arith, park_owes, checked_represents.fits))

    abbrev park_entry : Entry
    park_entry = entry_of caller at (Park i outcomes.Good) answers.Parked

    pub parks_both : ParksLent caller at i b J (reached_by s first taken) (reached_by new first (taken + 2)) value
    parks_both = record {
      mid = reached_by checked_state first (taken + 1);
      checked = record {
        due = ap (entry_of caller at (GiveBack i)) due;
        represents =
            represents_after checked_state first (taken + 1) b (J ++ check_entry ∷ []) checked_represents first_is
            (omega (arith, taken_is, length-append J (check_entry ∷ [])));
        settings_stay = refl;
        transfers = (refl, checked_values);
      };
      parked = record {
        due = ap (entry_of caller at (Park i outcomes.Good)) park_due;
        represents =
            represents_after new first (taken + 2) b ((J ++ check_entry ∷ []) ++ park_entry ∷ []) parked_represents first_is
            (omega (arith, taken_is, length-append J (check_entry ∷ []), length-append (J ++ check_entry ∷ []) (park_entry ∷ [])));
        settings_stay = parks.settings_stay;
        transfers = (stored, refl, parked_others);
      };
    }

    pub parks_some : (limit : ℕ) → limit ≡ limit_from s.settings b → RepresentsSome new first (taken + 2) limit
    parks_some limit limit_is = record {
      base = b;
      journal = (J ++ check_entry ∷ []) ++ park_entry ∷ [];
      represents = parked_represents;
      first_is = first_is;
      taken_is = omega (arith, taken_is, length-append J (check_entry ∷ []), length-append (J ++ check_entry ∷ []) (park_entry ∷ []));
      limit_is = limit_is ∙ ap (λ (S : Settings). limit_from S b) (sym parks.settings_stay);
    }

    pub parks_fewer : owed_from b ((J ++ check_entry ∷ []) ++ park_entry ∷ []) + 2 ≤ owed_from b J
    parks_fewer =
        omega (
          arith,
          check_owes,
          park_owes,
          owed_on b J s caller now (GiveBack i) answers.Check represents here checks.due,
          owed_on b (J ++ check_entry ∷ []) checked_state caller later (Park i outcomes.Good) answers.Parked checked_represents parked_here parks.due,
        )

-- a lent object that is to be checked, and the positions in the queue
pub lent_there : (o : Option Record) → IsSomeAnd o (λ r. comes_from answers.Check r.phase ≡ true) → IsSomeAnd o (λ r. r.phase ≡ phases.Lent)
lent_there None is = absurd is
lent_there (Some r) is = by_phase r.phase is
  where
    by_phase : (p : Phase) → comes_from answers.Check p ≡ true → p ≡ phases.Lent
    by_phase phases.Lent is = refl
    by_phase _ is = absurd (cc is)

pub queue_below : (n : ℕ) (rs : List Record) → AllByRecursion (λ r. r.parked < n) rs → QueueBelow (n + 1) rs
queue_below n [] all = tt
queue_below n (r ∷ rs) all = (λ queued. omega (arith, all.0), queue_below n rs all.1)

-- a step of the pool without its journal is one of the pool with it, which appends its entry
pub answered_of : {T : Type 0} (caller at : ℕ) (input : Input) (handed out : Option T) (b : Base) (J items : List Entry) (old new : StepperModel T) (a : Answer)
    → Stepped caller at input handed b J old new (entry_of caller at input a) out → items ≡ J ++ entry_of caller at input a ∷ []
    → Answered caller at input handed (pool_of old b J) (pool_of new b items) a out
answered_of caller at input handed out b J items old new a step appended = record {
  due = ap (λ (e : Entry). e.answer) step.due;
  appended = appended ∙ ap (λ (e : Entry). J ++ e ∷ []) step.due;
  fits =
      subst (λ (S : Settings). FitsLimitFrom S b items) step.settings_stay
      (subst (FitsLimitFrom new.settings b) (sym appended) step.represents.fits);
  settings_stay = step.settings_stay;
  base_stays = refl;
  transfers = step.transfers;
}
