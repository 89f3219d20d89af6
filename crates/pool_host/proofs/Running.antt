-- The steps of a call, one after the other.
use Rattle.std.proofs.Common.{arith, ◌≡◌, ℕ, zero, suc, ◌+◌, Bool, true, false, List, [], ◌∷◌, ◌++◌, append_assoc, append-nil, Option, Some, unwrap_or, Result, Ok, Err, IfOk, MatchResult, OnErr, refl, sym, ap, ◌∙◌, subst}
use Rattle.pool_journal.specs.declared.answer.Answer.{Answer}
use Rattle.pool_journal.specs.declared.input.Input.{Input}
use Rattle.pool_core.specs.Core.{Answered, Faulted}
use Rattle.pool_core.specs.Legal.{entry_of}
use Rattle.pool_core.specs.Pool.{CoreModel}
use Rattle.pool_core.specs.declared.step_fault.StepFault.{StepFault}
use Rattle.pool_core.specs.declared.step_fault.StepFault.TheVariants as faults
use Rattle.pool_calls.specs.declared.action.Event.TheVariants as events
use Rattle.pool_calls.specs.declared.action.StepFailure.{StepFailure}
use Rattle.pool_calls.specs.Operations.{HasCome, ComesOn, step_at}
use Rattle.pool_calls.specs.Turns.{Turn, turns_after}
use Rattle.pool_host.specs.declared.call.Call.{Call}
use Rattle.pool_host.specs.Hosting.{Advances, Forgets, Runs, Takes, cut_of, cut_times, entries_of, handed, outcome_of}

-- ---- cuts
cut_more : (m n : ℕ) (c : CoreModel ℕ) → cut_times n (cut_times m c) ≡ cut_times (m + n) c
cut_more zero n c = let e : n ≡ 0 + n = omega arith in ap (λ k. cut_times k c) e
cut_more (suc m) n c = let e : suc (m + n) ≡ suc m + n = omega arith in cut_more m n (cut_of c) ∙ ap (λ k. cut_times k c) e

cut_settings : (n : ℕ) (c : CoreModel ℕ) → (cut_times n c).settings ≡ c.settings
cut_settings zero c = refl
cut_settings (suc n) c = cut_settings n (cut_of c)

no_more : (m n : ℕ) → m ≡ 0 → n ≡ 0 → m + n ≡ 0
no_more m n none none_more = omega arith

pub forgets_none : (drops : Bool) (a b : CoreModel ℕ) → b ≡ a → Forgets drops a b
forgets_none drops a b same = record { cuts = 0; cut = same; keeps = λ kept. refl }

pub forgets_once : (drops : Bool) (a b : CoreModel ℕ) → drops ≡ true → b ≡ cut_of a → Forgets drops a b
forgets_once true a b is cut = record { cuts = 1; cut = cut; keeps = λ kept. absurd (cc) }
forgets_once false a b is cut = absurd (cc)

pub forgets_on : (drops : Bool) (a b c : CoreModel ℕ) → Forgets drops a b → Forgets drops b c → Forgets drops a c
forgets_on drops a b c p q = record {
  cuts = p.cuts + q.cuts;
  cut = q.cut ∙ ap (cut_times q.cuts) p.cut ∙ cut_more p.cuts q.cuts a;
  keeps = λ kept. no_more p.cuts q.cuts (p.keeps kept) (q.keeps kept);
}

pub forgets_settings : (drops : Bool) (a b : CoreModel ℕ) → Forgets drops a b → b.settings ≡ a.settings
forgets_settings drops a b p = ap (λ c. c.settings) p.cut ∙ cut_settings p.cuts a

is_kept : (drops : Bool) (a b : CoreModel ℕ) → Forgets drops a b → drops ≡ false → b ≡ a
is_kept drops a b p kept = p.cut ∙ ap (λ n. cut_times n a) (p.keeps kept)

pub takes_after : (caller at : ℕ) (input : Input) (token : Option ℕ) (drops : Bool) (a b c : CoreModel ℕ) (answer : Answer) (out : Option ℕ) → Forgets drops a b → Takes caller at input token drops b c answer out → Takes caller at input token drops a c answer out
takes_after caller at input token drops a b c answer out p q = record { cut = q.cut; forgets = forgets_on drops a b q.cut p q.forgets; answered = q.answered }

pub takes_uncut : (caller at : ℕ) (input : Input) (token : Option ℕ) (drops : Bool) (a b : CoreModel ℕ) (answer : Answer) (out : Option ℕ) → Answered caller at input token a b answer out → Takes caller at input token drops a b answer out
takes_uncut caller at input token drops a b answer out p = record { cut = a; forgets = forgets_none drops a a refl; answered = p }

pub takes_cut : (caller at : ℕ) (input : Input) (token : Option ℕ) (drops : Bool) (a b c : CoreModel ℕ) (answer : Answer) (out : Option ℕ) → drops ≡ true → b ≡ cut_of a → Answered caller at input token b c answer out → Takes caller at input token drops a c answer out
takes_cut caller at input token drops a b c answer out is cut p = record { cut = b; forgets = forgets_once drops a b is cut; answered = p }

-- the result of a step, without the token that an error returns
pub answered_in : (caller at : ℕ) (input : Input) (token : Option ℕ) (a b : CoreModel ℕ) (result : Result (Answer × Option ℕ) (StepFault ℕ)) → MatchResult result (λ r. Answered caller at input token a b r.0 r.1) (Faulted caller at input token a) → IfOk (outcome_of result) (λ r. Answered caller at input token a b r.0 r.1)
answered_in caller at input token a b (Ok r) p = p
answered_in caller at input token a b (Err (faults.JournalFull v)) p = tt
answered_in caller at input token a b (Err (faults.OutOfMemory v)) p = tt

-- the result of a step after the journal was forgotten
pub takes_later : (caller at : ℕ) (input : Input) (token : Option ℕ) (drops then : Bool) (a b c : CoreModel ℕ) (result : Result (Answer × Option ℕ) StepFailure) → then ≡ drops → Forgets drops a b → IfOk result (λ r. Takes caller at input token then b c r.0 r.1) → IfOk result (λ r. Takes caller at input token drops a c r.0 r.1)
takes_later caller at input token drops then a b c (Ok r) same p q =
    let P : Bool → Type 0 = λ d. Takes caller at input token d b c r.0 r.1 in
    takes_after caller at input token drops a b c r.0 r.1 p (subst P same q)
takes_later caller at input token drops then a b c (Err f) same p q = tt

pub forgets_later : (drops then : Bool) (a b c : CoreModel ℕ) (result : Result (Answer × Option ℕ) StepFailure) → then ≡ drops → Forgets drops a b → OnErr result (Forgets then b c) → OnErr result (Forgets drops a c)
forgets_later drops then a b c (Ok r) same p q = tt
forgets_later drops then a b c (Err f) same p q = let P : Bool → Type 0 = λ d. Forgets d b c in forgets_on drops a b c p (subst P same q)

pub takes_settings : (caller at : ℕ) (input : Input) (token : Option ℕ) (drops : Bool) (a b : CoreModel ℕ) (answer : Answer) (out : Option ℕ) → Takes caller at input token drops a b answer out → b.settings ≡ a.settings
takes_settings caller at input token drops a b answer out p = p.answered.settings_stay ∙ forgets_settings drops a p.cut p.forgets

-- ---- steps
module _ (caller at : ℕ) (drops : Bool) where
  runs_after : (us : List Turn) (a b c : CoreModel ℕ) (u v : ℕ) → Forgets drops a b → Runs caller at drops us b u c v → Runs caller at drops us a u c v
  runs_after [] a b c u v p q = (forgets_on drops a b c p q.0, q.1)
  runs_after (x ∷ us) a b c u v p q = (q.0, q.1, takes_after caller at x.input (handed x.input u) drops a b q.0 x.answer q.1 p q.2, q.3)

  pub runs_on : (ts us : List Turn) (a b c : CoreModel ℕ) (t u v : ℕ) → Runs caller at drops ts a t b u → Runs caller at drops us b u c v → Runs caller at drops (ts ++ us) a t c v
  runs_on [] us a b c t u v p q =
      let P : ℕ → Type 0 = λ n. Runs caller at drops us a n c v in
      subst P p.1 (runs_after us a b c u v p.0 q)
  runs_on (x ∷ ts) us a b c t u v p q = (p.0, p.1, p.2, runs_on ts us p.0 b c (unwrap_or p.1 t) u v p.3 q)

  appends_one : (x : Turn) (a b : CoreModel ℕ) (token out : Option ℕ) → Takes caller at x.input token drops a b x.answer out → drops ≡ false → b.journal ≡ a.journal ++ entry_of caller at x.input x.answer ∷ []
  appends_one x a b token out takes kept =
      takes.answered.appended ∙ ap (λ r. takes.cut.journal ++ entry_of caller at x.input r ∷ []) (sym takes.answered.due)
      ∙ ap (λ c. c.journal ++ entry_of caller at x.input x.answer ∷ []) (is_kept drops a takes.cut takes.forgets kept)

  pub appends : (ts : List Turn) (a b : CoreModel ℕ) (t u : ℕ) → Runs caller at drops ts a t b u → drops ≡ false → b.journal ≡ a.journal ++ entries_of caller at ts
  appends [] a b t u p kept = ap (λ m. m.journal) (is_kept drops a b p.0 kept) ∙ sym (append-nil a.journal)
  appends (x ∷ ts) a b t u p kept =
      appends ts p.0 b (unwrap_or p.1 t) u p.3 kept
      ∙ ap (λ j. j ++ entries_of caller at ts) (appends_one x a p.0 (handed x.input t) p.1 p.2 kept)
      ∙ append_assoc a.journal (entry_of caller at x.input x.answer ∷ []) (entries_of caller at ts)

  pub base_stays : (ts : List Turn) (a b : CoreModel ℕ) (t u : ℕ) → Runs caller at drops ts a t b u → drops ≡ false → b.base ≡ a.base
  base_stays [] a b t u p kept = ap (λ m. m.base) (is_kept drops a b p.0 kept)
  base_stays (x ∷ ts) a b t u p kept =
      base_stays ts p.0 b (unwrap_or p.1 t) u p.3 kept ∙ p.2.answered.base_stays ∙ ap (λ m. m.base) (is_kept drops a p.2.cut p.2.forgets kept)

  abbrev pub advances_none : (a b : CoreModel ℕ) (before after : Call) → Forgets drops a b → after.token ≡ before.token → ((turns : List Turn) → HasCome before.operation turns → HasCome after.operation turns) → Advances caller at drops a b before after
  advances_none a b before after forgets token comes =
      record {
        turns = [];
        runs = (forgets, token);
        base = base_stays [] a b before.token after.token (forgets, token);
        appended = appends [] a b before.token after.token (forgets, token);
        comes = λ earlier come. subst (λ ts. HasCome after.operation ts) (sym (append-nil earlier)) (comes earlier come);
      }

  abbrev pub advances_on : (a b c : CoreModel ℕ) (first mid last : Call) → Advances caller at drops a b first mid → Advances caller at drops b c mid last → Advances caller at drops a c first last
  advances_on a b c first mid last p q =
      let runs = runs_on p.turns q.turns a b c first.token mid.token last.token p.runs q.runs in
      record {
        turns = p.turns ++ q.turns;
        runs = runs;
        base = base_stays (p.turns ++ q.turns) a c first.token last.token runs;
        appended = appends (p.turns ++ q.turns) a c first.token last.token runs;
        comes = λ earlier come. subst (λ ts. HasCome last.operation ts) (append_assoc earlier p.turns q.turns) (q.comes (earlier ++ p.turns) (p.comes earlier come));
      }

  abbrev pub advances_one : (input : Input) (answer : Answer) (out : Option ℕ) (a b : CoreModel ℕ) (before after : Call) → step_at before.operation ≡ Some input → Takes caller at input (handed input before.token) drops a b answer out → after.token ≡ unwrap_or out before.token → ComesOn (events.Answered answer) before.operation after.operation → Advances caller at drops a b before after
  advances_one input answer out a b before after asked takes token comes =
      let t : Turn = record { input = input; answer = answer } in
      let P : List Turn → Option Input → Type 0 = λ earlier step. HasCome after.operation (turns_after step (events.Answered answer) earlier) in
      let runs : Runs caller at drops (t ∷ []) a before.token b after.token = (b, out, takes, (forgets_none drops b b refl, token)) in
      record {
        turns = t ∷ [];
        runs = runs;
        base = base_stays (t ∷ []) a b before.token after.token runs;
        appended = appends (t ∷ []) a b before.token after.token runs;
        comes = λ earlier come. subst (P earlier) asked (comes earlier come);
      }

  -- nothing is changed after the steps but the call, which takes no step
  abbrev pub advances_then : (a b c : CoreModel ℕ) (first mid last : Call) → Advances caller at drops a b first mid → c ≡ b → last.token ≡ mid.token → ((turns : List Turn) → HasCome mid.operation turns → HasCome last.operation turns) → Advances caller at drops a c first last
  advances_then a b c first mid last p core token comes =
      let P : CoreModel ℕ → Type 0 = λ m. Runs caller at drops p.turns a first.token m mid.token in
      let Q : ℕ → Type 0 = λ n. Runs caller at drops p.turns a first.token c n in
      record {
        turns = p.turns;
        runs = subst Q (sym token) (subst P (sym core) p.runs);
        base = λ kept. ap (λ m. m.base) core ∙ p.base kept;
        appended = λ kept. ap (λ m. m.journal) core ∙ p.appended kept;
        comes = λ earlier come. comes (earlier ++ p.turns) (p.comes earlier come);
      }

  -- nothing is changed before the steps
  abbrev pub advances_after : (then : Bool) (a b c : CoreModel ℕ) (first last : Call) → then ≡ drops → b ≡ a → Advances caller at then b c first last → Advances caller at drops a c first last
  advances_after then a b c first last same core p =
      let P : Bool → Type 0 = λ d. Runs caller at d p.turns b first.token c last.token in
      let Q : CoreModel ℕ → Type 0 = λ m. Runs caller at drops p.turns m first.token c last.token in
      record {
        turns = p.turns;
        runs = subst Q core (subst P same p.runs);
        base = λ kept. p.base (same ∙ kept) ∙ ap (λ m. m.base) core;
        appended = λ kept. p.appended (same ∙ kept) ∙ ap (λ m. m.journal ++ entries_of caller at p.turns) core;
        comes = p.comes;
      }
