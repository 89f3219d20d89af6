-- What an expected entry does to the phases of the objects.
use Rattle.std.proofs.Common.{◌≡◌, ◌≢◌, ℕ, ◌<◌, ◌≤◌, ◌==◌, Bool, true, false, if◌then◌else◌, List, [], ◌∷◌, ◌++◌, Option, Some, None}
use Rattle.std.proofs.Common.{refl, ap, sym, ◌∙◌, arith, subst, inl, inr, ◌⊎◌}
use mathlib.Core.Bool.{false≢true}
use Rattle.std.specs.Prelude.{◌||◌, not, IsSome, IsSomeAnd, unwrap_or}
use Rattle.std.proofs.lemmas.Bool.Decides.{nat_tests}
use Rattle.pool_journal.specs.Latest.{some_if}
use Rattle.pool_journal.specs.Entries.{Move, id_of, is_of, made_to, named_to, move_of_entry, parks, phase_after_move, made_by_move, is_present, is_make_answer}
use Rattle.pool_journal.specs.Queue.{record_in, is_queued}
use Rattle.pool_journal.specs.Totals.{is_freed, is_reclaimed, is_evicting}
use Rattle.pool_journal.specs.Base.{phase_from, is_new_from, drawn_from, records_from, closed_from, cursor_from}
use Rattle.pool_journal.specs.declared.base.Base.{Base}
use Rattle.pool_journal.specs.declared.entry.Entry.{Entry}
use Rattle.pool_journal.specs.declared.record.Record.{Record}
use Rattle.pool_journal.specs.declared.record.Phase.{Phase}
use Rattle.pool_journal.specs.declared.record.Phase.TheVariants as phases
use Rattle.pool_journal.specs.declared.input.Input.{Input}
use Rattle.pool_journal.specs.declared.input.Input.TheVariants.{Borrow, Add, Fill}
use Rattle.pool_journal.specs.declared.answer.Answer.{Answer}
use Rattle.pool_journal.specs.declared.answer.Answer.TheVariants as answers
use Rattle.pool_journal.proofs.Found.{found_from, each_found_from}
use Rattle.pool_journal.proofs.Pushed.{phase_from-push, is_new_from-push}
use Rattle.pool_places.specs.Counts.{is_adding}
use Rattle.pool_settings.specs.declared.settings.Settings.{Settings}
use Rattle.pool_core.specs.Legal.{entry_of}
use Rattle.pool_core.specs.Openable.{is_begun, is_destroying}
use Rattle.pool_core.specs.Steps.{MovesInputObject, IsEnabled, comes_from}
use Rattle.pool_core.proofs.Counted.{one_if}
use Rattle.pool_core.proofs.Finding.{finds_of}
use Rattle.pool_core.proofs.Fronts.{IsDueFrom, IsDueBySome, due_by_some}

abbrev pub move : ℕ → Phase → Option Move
move i p = Some (i, p)

-- the answer frees a place
abbrev pub gives_up : Answer → Bool
gives_up a = is_freed a || is_reclaimed a

-- an entry that moves no object
pub record Still (e : Entry) : Type 0 where
  pub none : move_of_entry e ≡ None
  pub no_make : is_make_answer e.answer ≡ false
  pub stays : gives_up e.answer ≡ false
  pub evicts_none : is_evicting e.answer e.input ≡ false
  pub parks_none : (i : ℕ) → parks i e ≡ false

-- an entry that makes the next object
pub record Makes (b : Base) (J : List Entry) (e : Entry) : Type 0 where
  pub p : Phase
  pub to : move_of_entry e ≡ Some (drawn_from b J, p)
  pub begun : is_begun p ≡ true
  pub comes : is_present p ≡ true
  pub makes : is_make_answer e.answer ≡ true
  pub stays : gives_up e.answer ≡ false
  pub evicts_none : is_evicting e.answer e.input ≡ false
  pub parks_none : (i : ℕ) → parks i e ≡ false

-- an entry that moves an object that is present
pub record Brings (b : Base) (J : List Entry) (e : Entry) : Type 0 where
  pub i : ℕ
  pub p : Phase
  pub to : move_of_entry e ≡ Some (i, p)
  pub below : i < drawn_from b J
  pub was_there : is_present (phase_from b i J) ≡ true
  pub no_make : is_make_answer e.answer ≡ false
  pub leaves : gives_up e.answer ≡ not (is_present p)
  pub not_added : is_adding p ≡ false
  pub evicts : one_if (is_evicting e.answer e.input) ≤ one_if (is_destroying p)
  pub ends : one_if (is_destroying (phase_from b i J)) ≤ one_if (is_freed e.answer)
  pub queues : is_queued p ≡ true → (parks i e ≡ true) ⊎ (is_queued (phase_from b i J) ≡ true)
  pub parks_it : (j : ℕ) → parks j e ≡ true → j ≡ i

pub data Acts (b : Base) (J : List Entry) (e : Entry) : Type 0 where
  still : Still e → Acts b J e
  makes : Makes b J e → Acts b J e
  brings : Brings b J e → Acts b J e

-- an object that is found was created, and is present, in the phase in which it is found
record There (b : Base) (J : List Entry) (i : ℕ) (P : Phase → Type 0) : Type 0 where
  below : i < drawn_from b J
  was_there : is_present (phase_from b i J) ≡ true
  has : P (phase_from b i J)

there : (b : Base) (J : List Entry) (i : ℕ) (P : Phase → Type 0) → IsSomeAnd (record_in (records_from b J) i) (λ r. P r.phase) → There b J i P
there b J i P is = by_record (record_in (records_from b J) i) refl is
  where
    by_record : (o : Option Record) → record_in (records_from b J) i ≡ o → IsSomeAnd o (λ r. P r.phase) → There b J i P
    by_record None none is = absurd is
    by_record (Some r) some is =
        let at = found_from b J i r some in
        record { below = omega (arith, at.below); was_there = at.passes; has = subst (λ (k : Record). P k.phase) at.is is }

-- the other effects of an answer that moves an object from a phase with P to p
record Moves (e : Entry) (i : ℕ) (p : Phase) (P : Phase → Type 0) : Type 0 where
  to : move_of_entry e ≡ Some (i, p)
  no_make : is_make_answer e.answer ≡ false
  leaves : gives_up e.answer ≡ not (is_present p)
  not_added : is_adding p ≡ false
  evicts : one_if (is_evicting e.answer e.input) ≤ one_if (is_destroying p)
  ends : (q : Phase) → P q → one_if (is_destroying q) ≤ one_if (is_freed e.answer)
  queues : is_queued p ≡ true → (q : Phase) → P q → (parks i e ≡ true) ⊎ (is_queued q ≡ true)
  parks_it : (j : ℕ) → parks j e ≡ true → j ≡ i

-- an entry that moves the object i, which is found
brings_one : (b : Base) (J : List Entry) (e : Entry) (i : ℕ) (p : Phase) (P : Phase → Type 0) → Moves e i p P
    → IsSomeAnd (record_in (records_from b J) i) (λ r. P r.phase) → Acts b J e
brings_one b J e i p P m is =
    let here = there b J i P is in
    brings (record {
      i = i;
      p = p;
      to = m.to;
      below = here.below;
      was_there = here.was_there;
      no_make = m.no_make;
      leaves = m.leaves;
      not_added = m.not_added;
      evicts = m.evicts;
      ends = m.ends (phase_from b i J) here.has;
      queues = λ is. m.queues is (phase_from b i J) here.has;
      parks_it = m.parks_it;
    })

-- an entry that moves the object that its input names, from a phase that its answer comes from
brings_named : (b : Base) (J : List Entry) (c at : ℕ) (input : Input) (a : Answer) (p : Phase) → MovesInputObject input a (records_from b J)
    → ((i : ℕ) → id_of input ≡ Some i → Moves (entry_of c at input a) i p (λ q. comes_from a q ≡ true)) → Acts b J (entry_of c at input a)
brings_named b J c at input a p named m = by_id (id_of input) refl named
  where
    by_id : (o : Option ℕ) → id_of input ≡ o → IsSomeAnd o (λ i. IsSomeAnd (record_in (records_from b J) i) (λ r. comes_from a r.phase ≡ true))
        → Acts b J (entry_of c at input a)
    by_id None is named = absurd named
    by_id (Some i) is named = brings_one b J (entry_of c at input a) i p (λ q. comes_from a q ≡ true) (m i is) named

-- an entry that makes the next object for its input
makes_next : (b : Base) (J : List Entry) (c at : ℕ) (input : Input) → IsSome (made_to input (drawn_from b J))
    → Acts b J (entry_of c at input (answers.Make (drawn_from b J)))
makes_next b J c at (Borrow began) is =
    makes (record { p = phases.Readying; to = refl; begun = refl; comes = refl; makes = refl; stays = refl; evicts_none = refl; parks_none = λ i. refl })
makes_next b J c at Add is = makes (record { p = phases.Adding; to = refl; begun = refl; comes = refl; makes = refl; stays = refl; evicts_none = refl; parks_none = λ i. refl })
makes_next b J c at Fill is = makes (record { p = phases.Adding; to = refl; begun = refl; comes = refl; makes = refl; stays = refl; evicts_none = refl; parks_none = λ i. refl })
makes_next b J c at _ is = absurd (cc is)

none_le : (n : ℕ) → 0 ≤ n
none_le n = omega arith

one_le_one : 1 ≤ 1
one_le_one = omega arith

one_if_le : (t : Bool) → one_if t ≤ 1
one_if_le true = one_le_one
one_if_le false = none_le 1

-- only an answer Freed comes from Destroying
freed_from : (a : Answer) → comes_from a phases.Destroying ≡ true → 1 ≤ one_if (is_freed a)
freed_from answers.Freed is = one_le_one
freed_from _ is = absurd (cc is)

ends_from : (a : Answer) (q : Phase) → comes_from a q ≡ true → one_if (is_destroying q) ≤ one_if (is_freed a)
ends_from a phases.Destroying is = freed_from a is
ends_from a _ is = none_le (one_if (is_freed a))

kept_from : (q : Phase) → comes_from answers.Kept q ≡ true → is_queued q ≡ true
kept_from phases.Testing is = refl
kept_from _ is = absurd (cc is)

idle_ends : (a : Answer) (q : Phase) → q ≡ phases.Idle → one_if (is_destroying q) ≤ one_if (is_freed a)
idle_ends a q is = subst (λ (p : Phase). one_if (is_destroying p) ≤ one_if (is_freed a)) (sym is) (none_le (one_if (is_freed a)))

lent_ends : (a : Answer) (q : Phase) → q ≡ phases.Lent → one_if (is_destroying q) ≤ one_if (is_freed a)
lent_ends a q is = subst (λ (p : Phase). one_if (is_destroying p) ≤ one_if (is_freed a)) (sym is) (none_le (one_if (is_freed a)))

idle_queued : (q : Phase) → q ≡ phases.Idle → is_queued q ≡ true
idle_queued q is = ap is_queued is

of_named : (j i : ℕ) (o : Option ℕ) → o ≡ Some i → is_of j o ≡ true → j ≡ i
of_named j i o named is = let here : (i == j) ≡ true = sym (ap (is_of j) named) ∙ is in grind (arith, nat_tests)

named_of : (i : ℕ) (o : Option ℕ) → o ≡ Some i → is_of i o ≡ true
named_of i o named = let same : (i == i) ≡ true = grind (arith, nat_tests) in ap (is_of i) named ∙ same

moves_named : (o : Option ℕ) (i : ℕ) (p : Phase) → o ≡ Some i → named_to o p ≡ Some (i, p)
moves_named o i p is = ap (λ (n : Option ℕ). named_to n p) is

acts_of : (b : Base) (J : List Entry) (c at : ℕ) (input : Input) (a : Answer) → IsEnabled input a (records_from b J) (drawn_from b J)
    → Acts b J (entry_of c at input a)
acts_of b J c at input (answers.Take i) finds =
    let to = ap (λ (t : Bool). if t then move i phases.Readying else None) finds.1 in
    brings_one b J (entry_of c at input (answers.Take i)) i phases.Readying (λ q. q ≡ phases.Idle)
    (record {
      to = to;
      no_make = refl;
      leaves = refl;
      not_added = refl;
      evicts = none_le 0;
      ends = idle_ends (answers.Take i);
      queues = λ is. absurd (false≢true is);
      parks_it = λ j is. absurd (false≢true is);
    }) finds.0
acts_of b J c at input (answers.Test i) finds =
    brings_one b J (entry_of c at input (answers.Test i)) i phases.Testing (λ q. q ≡ phases.Idle)
    (record {
      to = refl;
      no_make = refl;
      leaves = refl;
      not_added = refl;
      evicts = none_le 0;
      ends = idle_ends (answers.Test i);
      queues = λ is q was. inr (idle_queued q was);
      parks_it = λ j is. absurd (false≢true is);
    }) finds.0
acts_of b J c at input (answers.DestroyIdle i) finds =
    brings_one b J (entry_of c at input (answers.DestroyIdle i)) i phases.Destroying (λ q. q ≡ phases.Idle)
    (record {
      to = refl;
      no_make = refl;
      leaves = refl;
      not_added = refl;
      evicts = one_if_le (is_evicting (answers.DestroyIdle i) input);
      ends = idle_ends (answers.DestroyIdle i);
      queues = λ is. absurd (false≢true is);
      parks_it = λ j is. absurd (false≢true is);
    }) finds.0
acts_of b J c at input (answers.Reclaimed i) finds =
    brings_one b J (entry_of c at input (answers.Reclaimed i)) i phases.Gone (λ q. q ≡ phases.Lent)
    (record {
      to = refl;
      no_make = refl;
      leaves = refl;
      not_added = refl;
      evicts = none_le 0;
      ends = lent_ends (answers.Reclaimed i);
      queues = λ is. absurd (false≢true is);
      parks_it = λ j is. absurd (false≢true is);
    }) finds
acts_of b J c at input (answers.Make i) finds =
    let made = makes_next b J c at input (subst (λ (j : ℕ). IsSome (made_to input j)) finds.0 finds.1) in
    subst (λ (j : ℕ). Acts b J (entry_of c at input (answers.Make j))) (sym finds.0) made
acts_of b J c at input answers.Parked finds =
    brings_named b J c at input answers.Parked phases.Idle finds.0
    (λ i named. record {
      to = moves_named (id_of input) i phases.Idle named;
      no_make = refl;
      leaves = refl;
      not_added = refl;
      evicts = none_le 0;
      ends = ends_from answers.Parked;
      queues = λ is q was. inl (named_of i (id_of input) named);
      parks_it = λ j is. of_named j i (id_of input) named is;
    })
acts_of b J c at input answers.Kept finds =
    brings_named b J c at input answers.Kept phases.Idle finds.0
    (λ i named. record {
      to = moves_named (id_of input) i phases.Idle named;
      no_make = refl;
      leaves = refl;
      not_added = refl;
      evicts = none_le 0;
      ends = ends_from answers.Kept;
      queues = λ is q was. inr (kept_from q was);
      parks_it = λ j is. absurd (false≢true is);
    })
acts_of b J c at input answers.Lent finds =
    brings_named b J c at input answers.Lent phases.Lent finds
    (λ i named. record {
      to = moves_named (id_of input) i phases.Lent named;
      no_make = refl;
      leaves = refl;
      not_added = refl;
      evicts = none_le 0;
      ends = ends_from answers.Lent;
      queues = λ is. absurd (false≢true is);
      parks_it = λ j is. absurd (false≢true is);
    })
acts_of b J c at input answers.Check finds =
    brings_named b J c at input answers.Check phases.Returning finds
    (λ i named. record {
      to = moves_named (id_of input) i phases.Returning named;
      no_make = refl;
      leaves = refl;
      not_added = refl;
      evicts = none_le 0;
      ends = ends_from answers.Check;
      queues = λ is. absurd (false≢true is);
      parks_it = λ j is. absurd (false≢true is);
    })
acts_of b J c at input answers.Destroy finds =
    brings_named b J c at input answers.Destroy phases.Destroying finds
    (λ i named. record {
      to = moves_named (id_of input) i phases.Destroying named;
      no_make = refl;
      leaves = refl;
      not_added = refl;
      evicts = one_if_le (is_evicting answers.Destroy input);
      ends = ends_from answers.Destroy;
      queues = λ is. absurd (false≢true is);
      parks_it = λ j is. absurd (false≢true is);
    })
acts_of b J c at input answers.Freed finds =
    brings_named b J c at input answers.Freed phases.Gone finds
    (λ i named. record {
      to = moves_named (id_of input) i phases.Gone named;
      no_make = refl;
      leaves = refl;
      not_added = refl;
      evicts = none_le 0;
      ends = ends_from answers.Freed;
      queues = λ is. absurd (false≢true is);
      parks_it = λ j is. absurd (false≢true is);
    })
acts_of b J c at input _ finds = still (record { none = refl; no_make = refl; stays = refl; evicts_none = refl; parks_none = λ i. refl })

-- an expected entry finds what it concerns
pub some_finds : (b : Base) (J : List Entry) (e : Entry) → IsDueBySome b J e → IsEnabled e.input e.answer (records_from b J) (drawn_from b J)
some_finds b J e due =
    finds_of due.settings (records_from b J) (drawn_from b J) (closed_from b J) (cursor_from b J) e.at e.input e.answer (each_found_from b J) due.is

pub finds_due : (S : Settings) (b : Base) (J : List Entry) (e : Entry) → IsDueFrom S b J e → IsEnabled e.input e.answer (records_from b J) (drawn_from b J)
finds_due S b J e due = some_finds b J e (due_by_some S b J e due)

-- an expected entry moves no object, makes the next one, or moves one that is present
pub acts : (b : Base) (J : List Entry) (e : Entry) → IsDueBySome b J e → Acts b J e
acts b J e due = acts_of b J e.caller e.at e.input e.answer (some_finds b J e due)

pub phase_stays : (b : Base) (J : List Entry) (e : Entry) → move_of_entry e ≡ None → (j : ℕ) → phase_from b j (J ++ e ∷ []) ≡ phase_from b j J
phase_stays b J e none j = phase_from-push b j J e ∙ ap (λ (m : Option Move). unwrap_or (phase_after_move j m) (phase_from b j J)) none

pub phase_moved : (b : Base) (J : List Entry) (e : Entry) (i : ℕ) (p : Phase) → move_of_entry e ≡ Some (i, p) → phase_from b i (J ++ e ∷ []) ≡ p
phase_moved b J e i p to =
    let same : (i == i) ≡ true = grind (arith, nat_tests) in
    phase_from-push b i J e ∙ ap (λ (m : Option Move). unwrap_or (phase_after_move i m) (phase_from b i J)) to
    ∙ ap (λ (t : Bool). unwrap_or (some_if t p) (phase_from b i J)) same

pub phase_of_others : (b : Base) (J : List Entry) (e : Entry) (i : ℕ) (p : Phase) → move_of_entry e ≡ Some (i, p)
    → (j : ℕ) → j ≢ i → phase_from b j (J ++ e ∷ []) ≡ phase_from b j J
phase_of_others b J e i p to j other =
    let differs : (i == j) ≡ false = grind (arith, nat_tests) in
    phase_from-push b j J e ∙ ap (λ (m : Option Move). unwrap_or (phase_after_move j m) (phase_from b j J)) to
    ∙ ap (λ (t : Bool). unwrap_or (some_if t p) (phase_from b j J)) differs

-- the same for whether an object is new
pub new_stays : (b : Base) (J : List Entry) (e : Entry) → move_of_entry e ≡ None → (j : ℕ) → is_new_from b j (J ++ e ∷ []) ≡ is_new_from b j J
new_stays b J e none j = is_new_from-push b j J e ∙ ap (λ (m : Option Move). unwrap_or (made_by_move j m (is_make_answer e.answer)) (is_new_from b j J)) none

pub new_moved : (b : Base) (J : List Entry) (e : Entry) (i : ℕ) (p : Phase) → move_of_entry e ≡ Some (i, p) → is_new_from b i (J ++ e ∷ []) ≡ is_make_answer e.answer
new_moved b J e i p to =
    let same : (i == i) ≡ true = grind (arith, nat_tests) in
    is_new_from-push b i J e ∙ ap (λ (m : Option Move). unwrap_or (made_by_move i m (is_make_answer e.answer)) (is_new_from b i J)) to
    ∙ ap (λ (t : Bool). unwrap_or (some_if t (is_make_answer e.answer)) (is_new_from b i J)) same

pub new_of_others : (b : Base) (J : List Entry) (e : Entry) (i : ℕ) (p : Phase) → move_of_entry e ≡ Some (i, p)
    → (j : ℕ) → j ≢ i → is_new_from b j (J ++ e ∷ []) ≡ is_new_from b j J
new_of_others b J e i p to j other =
    let differs : (i == j) ≡ false = grind (arith, nat_tests) in
    is_new_from-push b j J e ∙ ap (λ (m : Option Move). unwrap_or (made_by_move j m (is_make_answer e.answer)) (is_new_from b j J)) to
    ∙ ap (λ (t : Bool). unwrap_or (some_if t (is_make_answer e.answer)) (is_new_from b j J)) differs
