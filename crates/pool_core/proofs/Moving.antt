-- Each change of the records is the step of its answer.
use Rattle.std.proofs.Common.{◌≡◌, ℕ, ◌<◌, ◌==◌, Bool, true, false, not, cond, if◌then◌else◌, List, [], ◌∷◌, ◌++◌, map, Some, refl}
use Rattle.std.proofs.Common.{ap, sym, ◌∙◌, arith}
use Rattle.std.specs.Prelude.{filter, IsSome}
use Rattle.std.specs.List.{AllByRecursion}
use Rattle.std.proofs.lemmas.List.{append-nil}
use Rattle.std.proofs.lemmas.Bool.Decides.{nat_tests}
use Rattle.pool_journal.specs.Entries.{is_borrow, id_of, made_to, is_make_answer}
use Rattle.pool_journal.specs.declared.input.Input.{Input}
use Rattle.pool_journal.specs.declared.input.Input.TheVariants.{Borrow, Add, Fill}
use Rattle.pool_journal.specs.declared.answer.Answer.{Answer}
use Rattle.pool_journal.specs.declared.answer.Answer.TheVariants as answers
use Rattle.pool_journal.specs.declared.record.Phase.TheVariants as phases
use Rattle.pool_journal.specs.Known.{absent_record}
use Rattle.pool_journal.specs.declared.entry.Entry.{Entry}
use Rattle.pool_journal.specs.declared.record.Record.{Record}
use Rattle.pool_journal.specs.OneMore.{record_after, stays, records_after}
use Rattle.pool_places.specs.Changes.{with_changed, without_id, new_record, phase_set, lent_at, used_at, parked_at}
use Rattle.pool_core.specs.Completion.{made_as}
use Rattle.pool_core.specs.Legal.{entry_of}
use Rattle.pool_core.specs.Steps.{AllStay, known_after}
use Rattle.pool_core.specs.declared.state.StepContext.{StepContext}

-- an entry that creates no object keeps those of the records that stay
stepped_old : (k : ℕ) (e : Entry) (next : ℕ) (rs : List Record) → is_make_answer e.answer ≡ false
    → records_after k e next rs ≡ filter stays (map (record_after k e) rs)
stepped_old k e next rs no_make =
    ap (λ (b : Bool). filter stays (map (record_after k e) rs) ++ (if b then record_after k e (absent_record next) ∷ [] else [])) no_make
    ∙ append-nil (filter stays (map (record_after k e) rs))

-- objects that stay
stays_map : (t : Record → Record) → ((r : Record) → stays r ≡ true → stays (t r) ≡ true) → (rs : List Record) → AllStay rs
    → filter stays (map t rs) ≡ map t rs
stays_map t keeps [] all = refl
stays_map t keeps (r ∷ rs) all = rw (keeps r all.0) (ap (λ ks. t r ∷ ks) (stays_map t keeps rs all.1))

kept_map : (k : ℕ) (e : Entry) (next : ℕ) (t : Record → Record) (rs : List Record) → is_make_answer e.answer ≡ false
    → ((r : Record) → record_after k e r ≡ t r) → ((r : Record) → stays r ≡ true → stays (t r) ≡ true) → AllStay rs
    → records_after k e next rs ≡ map t rs
kept_map k e next t rs no_make reported keeps all =
    stepped_old k e next rs no_make ∙ ap (λ (f : Record → Record). filter stays (map f rs)) (λ x r. reported r x)
    ∙ stays_map t keeps rs all

map_same : (rs : List Record) → map (λ (r : Record). r) rs ≡ rs
map_same [] = refl
map_same (r ∷ rs) = ap (λ ks. r ∷ ks) (map_same rs)

-- an entry without effect
stepped_silent : (k : ℕ) (e : Entry) (next : ℕ) (rs : List Record) → is_make_answer e.answer ≡ false
    → ((r : Record) → record_after k e r ≡ r) → AllStay rs → records_after k e next rs ≡ rs
stepped_silent k e next rs no_make reported all = kept_map k e next (λ r. r) rs no_make reported (λ r is. is) all ∙ map_same rs

-- an entry that changes the object i
stepped_changed : (k : ℕ) (e : Entry) (next i : ℕ) (t : Record → Record) (rs : List Record) → is_make_answer e.answer ≡ false
    → ((r : Record) → (i == r.id) ≡ true → record_after k e r ≡ t r) → ((r : Record) → (i == r.id) ≡ false → record_after k e r ≡ r)
    → ((r : Record) → stays r ≡ true → stays (t r) ≡ true) → AllStay rs → with_changed i t rs ≡ records_after k e next rs
stepped_changed k e next i t rs no_make changes stay comes all =
    sym
    (kept_map k e next (λ r. if i == r.id then t r else r) rs no_make (λ r. reported (i == r.id) r refl)
    (λ r here. either (i == r.id) r here) all)
  where
    reported : (b : Bool) (r : Record) → (i == r.id) ≡ b → record_after k e r ≡ (if b then t r else r)
    reported true r is = changes r is
    reported false r is = stay r is

    either : (b : Bool) (r : Record) → stays r ≡ true → stays (if b then t r else r) ≡ true
    either true r here = comes r here
    either false r here = here

-- an entry that removes the object i
stepped_without : (k : ℕ) (e : Entry) (next i : ℕ) (rs : List Record) → is_make_answer e.answer ≡ false
    → ((r : Record) → (i == r.id) ≡ true → stays (record_after k e r) ≡ false)
    → ((r : Record) → (i == r.id) ≡ false → record_after k e r ≡ r) → AllStay rs → without_id i rs ≡ records_after k e next rs
stepped_without k e next i rs no_make leaves stay all = along rs all ∙ sym (stepped_old k e next rs no_make)
  where
    by_test : (r : Record) (ks : List Record) (b : Bool) → (i == r.id) ≡ b → stays r ≡ true
        → without_id i ks ≡ filter stays (map (record_after k e) ks)
        → cond (not b) (r ∷ without_id i ks) (without_id i ks) ≡ filter stays (map (record_after k e) (r ∷ ks))
    by_test r ks true is here later = rw (leaves r is) later
    by_test r ks false is here later = rw (ap stays (stay r is) ∙ here, stay r is) (ap (λ ls. r ∷ ls) later)

    along : (ks : List Record) → AllStay ks → without_id i ks ≡ filter stays (map (record_after k e) ks)
    along [] all = refl
    along (r ∷ ks) all = by_test r ks (i == r.id) refl all.0 (along ks all.1)

-- an entry that creates the next object
stepped_drawn : (k : ℕ) (e : Entry) (next : ℕ) (new : Record) (rs : List Record) → is_make_answer e.answer ≡ true
    → record_after k e (absent_record next) ≡ new → ((r : Record) → r.id < next → record_after k e r ≡ r)
    → AllByRecursion (λ r. r.id < next) rs → AllStay rs → rs ++ new ∷ [] ≡ records_after k e next rs
stepped_drawn k e next new rs makes is stay below all = rw (← is, makes, same rs below all) refl
  where
    same : (ks : List Record) → AllByRecursion (λ r. r.id < next) ks → AllStay ks → filter stays (map (record_after k e) ks) ≡ ks
    same [] below all = refl
    same (r ∷ ks) below all = rw (ap stays (stay r below.0) ∙ all.0, stay r below.0) (ap (λ ls. r ∷ ls) (same ks below.1 all.1))

-- the object i is changed by the answer
changed : (now : StepContext) (next i : ℕ) (input : Input) (rs : List Record) (t : Record → Record) (a : Answer)
    → is_make_answer a ≡ false → ((r : Record) → (i == r.id) ≡ true → record_after now.position (entry_of 0 now.at input a) r ≡ t r)
    → ((r : Record) → (i == r.id) ≡ false → record_after now.position (entry_of 0 now.at input a) r ≡ r)
    → ((r : Record) → stays r ≡ true → stays (t r) ≡ true) → AllStay rs → with_changed i t rs ≡ known_after now input a next rs
changed now next i input rs t a no_make changes stay comes all =
    stepped_changed now.position (entry_of 0 now.at input a) next i t rs no_make changes stay comes all

-- each change of the records is the step of its answer
pub lent_known : (now : StepContext) (next i : ℕ) (input : Input) (rs : List Record) → id_of input ≡ Some i → AllStay rs
    → with_changed i (lent_at now.at) rs ≡ known_after now input answers.Lent next rs
lent_known now next i input rs named all =
    changed now next i input rs (lent_at now.at) answers.Lent refl
    (λ r is. rw (named, is) refl) (λ r is. rw (named, is) refl) (λ r here. refl) all

pub noted_known : (now : StepContext) (next i : ℕ) (input : Input) (rs : List Record) → id_of input ≡ Some i → AllStay rs
    → with_changed i (used_at now.at) rs ≡ known_after now input answers.Noted next rs
noted_known now next i input rs named all =
    changed now next i input rs (used_at now.at) answers.Noted refl
    (λ r is. rw (named, is) refl) (λ r is. rw (named, is) refl) (λ r here. here) all

pub check_known : (now : StepContext) (next i : ℕ) (input : Input) (rs : List Record) → id_of input ≡ Some i → AllStay rs
    → with_changed i (phase_set phases.Returning) rs ≡ known_after now input answers.Check next rs
check_known now next i input rs named all =
    changed now next i input rs (phase_set phases.Returning) answers.Check refl
    (λ r is. rw (named, is) refl) (λ r is. rw (named, is) refl) (λ r here. refl) all

pub destroy_known : (now : StepContext) (next i : ℕ) (input : Input) (rs : List Record) → id_of input ≡ Some i → AllStay rs
    → with_changed i (phase_set phases.Destroying) rs ≡ known_after now input answers.Destroy next rs
destroy_known now next i input rs named all =
    changed now next i input rs (phase_set phases.Destroying) answers.Destroy refl
    (λ r is. rw (named, is) refl) (λ r is. rw (named, is) refl) (λ r here. refl) all

pub parked_known : (now : StepContext) (next i : ℕ) (input : Input) (rs : List Record) → id_of input ≡ Some i → AllStay rs
    → with_changed i (parked_at now.position now.at) rs ≡ known_after now input answers.Parked next rs
parked_known now next i input rs named all =
    changed now next i input rs (parked_at now.position now.at) answers.Parked refl
    (λ r is. rw (named, is) refl) (λ r is. rw (named, is) refl) (λ r here. refl) all

pub kept_known : (now : StepContext) (next i : ℕ) (input : Input) (rs : List Record) → id_of input ≡ Some i → AllStay rs
    → with_changed i (phase_set phases.Idle) rs ≡ known_after now input answers.Kept next rs
kept_known now next i input rs named all =
    changed now next i input rs (phase_set phases.Idle) answers.Kept refl
    (λ r is. rw (named, is) refl) (λ r is. rw (named, is) refl) (λ r here. refl) all

pub taken_known : (now : StepContext) (next i : ℕ) (input : Input) (rs : List Record) → is_borrow input ≡ true → AllStay rs
    → with_changed i (phase_set phases.Readying) rs ≡ known_after now input (answers.Take i) next rs
taken_known now next i input rs borrows all =
    changed now next i input rs (phase_set phases.Readying) (answers.Take i) refl
    (λ r is. rw (borrows, is) refl) (λ r is. rw (borrows, is) refl) (λ r here. refl) all

pub test_known : (now : StepContext) (next i : ℕ) (input : Input) (rs : List Record) → AllStay rs
    → with_changed i (phase_set phases.Testing) rs ≡ known_after now input (answers.Test i) next rs
test_known now next i input rs all =
    changed now next i input rs (phase_set phases.Testing) (answers.Test i) refl
    (λ r is. rw is refl) (λ r is. rw is refl) (λ r here. refl) all

pub destroy_idle_known : (now : StepContext) (next i : ℕ) (input : Input) (rs : List Record) → AllStay rs
    → with_changed i (phase_set phases.Destroying) rs ≡ known_after now input (answers.DestroyIdle i) next rs
destroy_idle_known now next i input rs all =
    changed now next i input rs (phase_set phases.Destroying) (answers.DestroyIdle i) refl
    (λ r is. rw is refl) (λ r is. rw is refl) (λ r here. refl) all

pub freed_known : (now : StepContext) (next i : ℕ) (input : Input) (rs : List Record) → id_of input ≡ Some i → AllStay rs
    → without_id i rs ≡ known_after now input answers.Freed next rs
freed_known now next i input rs named all =
    stepped_without now.position (entry_of 0 now.at input answers.Freed) next i rs refl
    (λ r is. rw (named, is) refl) (λ r is. rw (named, is) refl) all

pub reclaimed_known : (now : StepContext) (next i : ℕ) (input : Input) (rs : List Record) → AllStay rs
    → without_id i rs ≡ known_after now input (answers.Reclaimed i) next rs
reclaimed_known now next i input rs all =
    stepped_without now.position (entry_of 0 now.at input (answers.Reclaimed i)) next i rs refl
    (λ r is. rw is refl) (λ r is. rw is refl) all

-- if an object is made for an input, it is for a borrow or for the queue
pub made_to_is : (input : Input) (i : ℕ) → IsSome (made_to input i) → made_to input i ≡ Some (i, made_as input)
made_to_is (Borrow began) i is = refl
made_to_is Add i is = refl
made_to_is Fill i is = refl
made_to_is _ i is = absurd (cc is)

pub made_known : (now : StepContext) (next : ℕ) (input : Input) (rs : List Record) → IsSome (made_to input next)
    → AllByRecursion (λ r. r.id < next) rs → AllStay rs
    → rs ++ new_record next (made_as input) ∷ [] ≡ known_after now input (answers.Make next) next rs
made_known now next input rs makes below all =
    let to = made_to_is input next makes in
    let here : (next == next) ≡ true = grind (arith, nat_tests) in
    stepped_drawn now.position (entry_of 0 now.at input (answers.Make next)) next (new_record next (made_as input)) rs refl
    (rw (to, here) refl)
    (λ r lt. let differs : (next == r.id) ≡ false = grind (arith, nat_tests) in rw (to, differs) refl) below all

-- answers without effect on any object
abbrev pub is_silent : Answer → Bool
is_silent answers.Wait = true
is_silent answers.Exhausted = true
is_silent answers.TimedOut = true
is_silent (answers.KeptIdle i) = true
is_silent answers.Gone = true
is_silent (answers.Count n) = true
is_silent answers.Nothing = true
is_silent answers.Enough = true
is_silent answers.NoPlace = true
is_silent (answers.Refused cause) = true
is_silent _ = false

unchanged : (now : StepContext) (next : ℕ) (input : Input) (rs : List Record) (a : Answer) → is_make_answer a ≡ false
    → ((r : Record) → record_after now.position (entry_of 0 now.at input a) r ≡ r) → AllStay rs → rs ≡ known_after now input a next rs
unchanged now next input rs a no_make reported all =
    sym (stepped_silent now.position (entry_of 0 now.at input a) next rs no_make reported all)

pub silent_known : (now : StepContext) (next : ℕ) (input : Input) (rs : List Record) → AllStay rs → (a : Answer) → is_silent a ≡ true
    → rs ≡ known_after now input a next rs
silent_known now next input rs all answers.Wait silent = unchanged now next input rs answers.Wait refl (λ r. refl) all
silent_known now next input rs all answers.Exhausted silent = unchanged now next input rs answers.Exhausted refl (λ r. refl) all
silent_known now next input rs all answers.TimedOut silent = unchanged now next input rs answers.TimedOut refl (λ r. refl) all
silent_known now next input rs all (answers.KeptIdle i) silent =
    unchanged now next input rs (answers.KeptIdle i) refl (λ r. refl) all
silent_known now next input rs all answers.Gone silent = unchanged now next input rs answers.Gone refl (λ r. refl) all
silent_known now next input rs all (answers.Count n) silent = unchanged now next input rs (answers.Count n) refl (λ r. refl) all
silent_known now next input rs all answers.Nothing silent = unchanged now next input rs answers.Nothing refl (λ r. refl) all
silent_known now next input rs all answers.Enough silent = unchanged now next input rs answers.Enough refl (λ r. refl) all
silent_known now next input rs all answers.NoPlace silent = unchanged now next input rs answers.NoPlace refl (λ r. refl) all
silent_known now next input rs all (answers.Refused cause) silent =
    unchanged now next input rs (answers.Refused cause) refl (λ r. refl) all
silent_known now next input rs all _ silent = absurd (cc silent)
