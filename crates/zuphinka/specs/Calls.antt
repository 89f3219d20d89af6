-- The results of the calls from C.
use Rattle.std.specs.Prelude.{◌≡◌, ℕ, ◌+◌, true, false, if◌then◌else◌, List, [], ◌∷◌, ◌++◌, length, Option, Some, None, IsSomeAnd, Ok, Err, IsUtf8}
use Rattle.pool_settings.specs.Answer.{settings_of_text, IsAnswer}
use Rattle.pool_settings.specs.declared.fault.SettingsFault.{SettingsFault}
use Rattle.pool_settings.specs.declared.settings.Settings.{Settings}
use Rattle.pool_journal.specs.Base.{empty_base, closed_from, base_after}
use Rattle.pool_journal.specs.Carrying.{carries}
use Rattle.pool_journal.specs.declared.answer.Answer.{Answer}
use Rattle.pool_journal.specs.declared.entry.Entry.{Entry}
use Rattle.pool_journal.specs.declared.input.Input.{Input}
use Rattle.pool_core.specs.Core.{Answered}
use Rattle.pool_core.specs.Completion.{is_completing}
use Rattle.pool_core.specs.Fits.{FitsLimitFrom, ExceedsLimitFrom, owed_from, limit_from}
use Rattle.pool_core.specs.Legal.{expected_entry_from}
use Rattle.pool_core.specs.Pool.{CoreModel, IsConsistent}
use Rattle.pool_core.specs.Reply.{reply_from}
use Rattle.pool_core.specs.Steps.{keeps_value}
use Rattle.pool_host.specs.Hosting as host
use Rattle.zuphinka.specs.Codes.{input_of, reply_of}
use Rattle.zuphinka.specs.Lines.{TextTo, entry_line, base_line}
use Rattle.zuphinka.specs.Opening.{OpenModel, options_of}
use Rattle.zuphinka.specs.declared.pool_options.PoolOptions.{PoolOptions}
use Rattle.zuphinka.specs.Status.{status_code, fault_status}
use Rattle.zuphinka.specs.declared.status.Status.{Status}
use Rattle.zuphinka.specs.declared.status.Status.TheVariants.{Done, NotOpen, AlreadyOpen, OutOfMemory, JournalFull, BadRequest, NotText}
use Rattle.zuphinka.specs.declared.request.Request.{Request}
use Rattle.zuphinka.specs.declared.reply.Reply.{Reply}

-- the content of a handle: a pool, or none
abbrev pub Held : Type 0
Held = Option (CoreModel ℕ)

-- the code is that of a status for which P holds
abbrev pub Came : ℕ → (Status → Type 0) → Type 0
Came code P = (s : Status) × (code ≡ status_code s) × P s

-- ---- open

-- the pool is new, with the settings of the text
pub record Opened (text : List ℕ) (pool : CoreModel ℕ) : Type 0 where
  pub settings : settings_of_text text ≡ Ok pool.settings
  pub base : pool.base ≡ empty_base
  pub journal : pool.journal ≡ []
  pub places : pool.places ≡ []

-- the status is that of the first error of the text, or, in place of any answer, that of an allocation failure
abbrev pub HasFault : List ℕ → Status → Type 0
HasFault text s = (fault : SettingsFault) × (s ≡ fault_status fault) × IsAnswer text (Err fault)

-- the result of opening an empty handle
abbrev pub OpensTo : List ℕ → Held → Status → Type 0
OpensTo text new Done = IsSomeAnd new (Opened text)
OpensTo text new NotText = ¬ (IsUtf8 text) × (new ≡ None)
OpensTo text new s = HasFault text s × (new ≡ None)

abbrev pub Opens : List ℕ → Held → Held → Status → Type 0
Opens text None new s = OpensTo text new s
Opens text (Some pool) new s = (s ≡ AlreadyOpen) × (new ≡ Some pool)

-- the pool is new, with the settings of the text and these options, and without calls
pub record OpenedWith (text : List ℕ) (options : PoolOptions) (pool : OpenModel) : Type 0 where
  pub settings : Settings
  pub read : settings_of_text text ≡ Ok settings
  pub hosted : host.Opened settings (options_of options) pool.hosted
  pub number : pool.number ≡ options.pool
  pub hooks : pool.hooks ≡ (options_of options).hooks
  pub running : pool.running ≡ 0

-- the result of opening an empty handle with options
abbrev pub OpensWithTo : List ℕ → PoolOptions → Option OpenModel → Status → Type 0
OpensWithTo text options new Done = IsSomeAnd new (OpenedWith text options)
OpensWithTo text options new NotText = ¬ (IsUtf8 text) × (new ≡ None)
OpensWithTo text options new s = HasFault text s × (new ≡ None)

abbrev pub OpensWith : List ℕ → PoolOptions → Option OpenModel → Option OpenModel → Status → Type 0
OpensWith text options None new s = OpensWithTo text options new s
OpensWith text options (Some pool) new s = (s ≡ AlreadyOpen) × (new ≡ Some pool)

-- ---- step

-- the token that is passed in: the request's, exactly if the input carries one
abbrev pub handed_in : Request → Input → Option ℕ
handed_in q input = if carries input then Some q.object else None

-- the pool took the step, and the reply is its answer with the token that is returned; after the pool is closed, no object
-- becomes idle
pub record Took (q : Request) (old new : CoreModel ℕ) (reported : Reply) (input : Input) : Type 0 where
  pub answer : Answer
  pub out : Option ℕ
  pub answered : Answered q.caller q.at input (handed_in q input) old new answer out
  pub reports : reported ≡ reply_of answer out
  pub closed : closed_from old.base old.journal ≡ true → keeps_value answer ≡ false
  pub consistent : IsConsistent new

-- the journal with the expected entry
abbrev pub grown : Request → CoreModel ℕ → Input → List Entry
grown q old input = old.journal ++ expected_entry_from old.settings old.base old.journal q.caller q.at input ∷ []

-- the result of a step of an open pool
abbrev pub StepsTo : Request → CoreModel ℕ → CoreModel ℕ → Reply → Reply → Status → Type 0
StepsTo q old new before after Done = IsSomeAnd (input_of q) (Took q old new after)
StepsTo q old new before after BadRequest = (input_of q ≡ None) × (new ≡ old) × (after ≡ before)
StepsTo q old new before after JournalFull =
    IsSomeAnd (input_of q) (λ input. ExceedsLimitFrom old.settings old.base (grown q old input)) × (new ≡ old) × (after ≡ before)
StepsTo q old new before after OutOfMemory =
    IsSomeAnd (input_of q) (λ input. FitsLimitFrom old.settings old.base (grown q old input)) × (new ≡ old) × (after ≡ before)
StepsTo q old new before after _ = ⊥

abbrev pub Steps : Request → Held → Held → Reply → Reply → Status → Type 0
Steps q None new before after s = (s ≡ NotOpen) × (new ≡ None) × (after ≡ before)
Steps q (Some old) new before after s = IsSomeAnd new (λ pool. StepsTo q old pool before after s)

-- the step with the expected answer is completing
abbrev pub IsCompleting : Request → CoreModel ℕ → Type 0
IsCompleting q old = IsSomeAnd (input_of q) (λ input. is_completing (reply_from old.settings old.base old.journal q.at input) input ≡ true)

-- ---- reads

-- if there is a pool, P holds of it and the value that is read; otherwise the value is unchanged
abbrev pub Reads : {A : Type 0} → (CoreModel ℕ → A → Type 0) → Held → Held → A → A → ℕ → Type 0
Reads P None new before after code = (code ≡ status_code NotOpen) × (new ≡ None) × (after ≡ before)
Reads P (Some pool) new before after code = (code ≡ status_code Done) × (new ≡ Some pool) × P pool after

-- the number of entries in the journal
abbrev pub TellsSteps : CoreModel ℕ → ℕ → Type 0
TellsSteps pool n = n ≡ length pool.journal

-- the number of entries that still fit, besides the outstanding ones
abbrev pub TellsRoom : CoreModel ℕ → ℕ → Type 0
TellsRoom pool n = n + (length pool.journal + owed_from pool.base pool.journal) ≡ limit_from pool.settings pool.base

-- ---- cut

-- the result of cutting the journal of an open pool: it continues from the state after the entries, with none of them
abbrev pub CutsTo : CoreModel ℕ → CoreModel ℕ → Status → Type 0
CutsTo old new Done = new ≡ record old { base = base_after old.base old.journal; journal = [] }
CutsTo old new OutOfMemory = new ≡ old
CutsTo old new _ = ⊥

abbrev pub Cuts : Held → Held → Status → Type 0
Cuts None new s = (s ≡ NotOpen) × (new ≡ None)
Cuts (Some old) new s = IsSomeAnd new (λ pool. CutsTo old pool s)

-- ---- lines

-- the result of storing a text of a pool, if it has one
abbrev pub ReturnsText : (CoreModel ℕ → Option (List ℕ)) → Held → Held → List ℕ → List ℕ → ℕ → ℕ → Status → Type 0
ReturnsText text None new before after n m s = (s ≡ NotOpen) × (new ≡ None) × (after ≡ before) × (m ≡ n)
ReturnsText text (Some pool) new before after n m s = (new ≡ Some pool) × TextTo (text pool) before after n m s

-- the lines of the entries
abbrev pub Lines : ℕ → Held → Held → List ℕ → List ℕ → ℕ → ℕ → Status → Type 0
Lines k = ReturnsText (λ pool. entry_line pool.journal k)

-- the lines of the base that the entries continue
abbrev pub BaseLines : ℕ → Held → Held → List ℕ → List ℕ → ℕ → ℕ → Status → Type 0
BaseLines k = ReturnsText (λ pool. base_line pool.base k)
