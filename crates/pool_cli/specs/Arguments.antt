-- The task that the arguments name.
use Rattle.std.specs.Prelude.{ℕ, ◌^◌, Bool, true, false, not, ◌&&◌, ◌==◌, nat_lt, if◌then◌else◌, List, [], ◌∷◌, length, slice_index, map, codes, bytes_eq, Option, None, Some, option_map}
use Rattle.std.specs.Char.{is_ascii_digit}
use Rattle.std.specs.List.{list_all}
use Rattle.std.specs.Str.Parse.{digits_value}
use Rattle.pool_cli.specs.declared.arguments.Task.{Task}
use Rattle.pool_cli.specs.declared.arguments.Task.TheVariants as tasks

abbrev pub Text : Type 0
Text = List ℕ

-- a task, with the bytes of each path
pub data Asked : Type 0 where
  run_input : Asked
  run : Text → Text → Asked
  check : Text → List Text → Asked
  stats : Text → Asked
  load : Text → ℕ → ℕ → Asked

abbrev pub asked : Task → Asked
asked tasks.RunInput = run_input
asked (tasks.Run settings script) = run settings.now script.now
asked (tasks.Check settings journals) = check settings.now (map (λ journal. journal.now) journals.items)
asked (tasks.Stats journal) = stats journal.now
asked (tasks.Load settings workers rounds) = load settings.now workers rounds

-- The words that are not read yet, and whether `--` is before them. A word after `--` is an operand, however it begins.
abbrev pub Rest : Type 0
Rest = Bool × List Text

-- a hyphen with more after it
abbrev pub is_option : Text → Bool
is_option word = nat_lt 1 (length word) && (slice_index word 0 == 45)

abbrev pub plain_operand : List Text → Option (Text × Rest)
plain_operand [] = None
plain_operand (word ∷ words) = Some (word, (true, words))

-- the next operand, and the words after it
abbrev pub operand : Rest → Option (Text × Rest)
operand (_, []) = None
operand (true, word ∷ words) = Some (word, (true, words))
operand (false, word ∷ words) =
    if bytes_eq word (codes "--") then plain_operand words
    else if is_option word then None
    else Some (word, (false, words))

abbrev pub end : Rest → Option (Unit {0})
end (_, []) = Some tt
end (false, word ∷ []) = if bytes_eq word (codes "--") then Some tt else None
end (_, _ ∷ _) = None

-- the words without the first `--`, if none before it is an option
abbrev pub plain_words : List Text → Option (List Text)
plain_words [] = Some []
plain_words (word ∷ words) =
    if bytes_eq word (codes "--") then Some words
    else if is_option word then None
    else option_map (λ rest. word ∷ rest) (plain_words words)

-- all remaining operands
abbrev pub operands : Rest → Option (List Text)
operands (true, words) = Some words
operands (false, words) = plain_words words

infixl 10 ◌>>=◌
abbrev pub ◌>>=◌ : {A B : Type 0} → Option A → (A → Option B) → Option B
None >>= f = None
(Some x) >>= f = f x

-- one or more digits without a leading zero; `0` alone is a number
abbrev pub is_decimal : Text → Bool
is_decimal word =
    (nat_lt 0 (length word) && not (nat_lt 1 (length word) && (slice_index word 0 == 48))) && list_all is_ascii_digit word

-- the number that a word spells, if it is below the limit
abbrev pub number_below : ℕ → Text → Option ℕ
number_below limit word =
    if is_decimal word && nat_lt (digits_value 10 word) limit then Some (digits_value 10 word) else None

abbrev pub run_of : Rest → Option Asked
run_of given = do
  settings ← operand given
  script ← operand settings.1
  _ ← end script.1
  Some (run settings.0 script.0)

abbrev pub check_of : Rest → Option Asked
check_of given = do
  settings ← operand given
  first ← operand settings.1
  others ← operands first.1
  Some (check settings.0 (first.0 ∷ others))

abbrev pub stats_of : Rest → Option Asked
stats_of given = do
  journal ← operand given
  _ ← end journal.1
  Some (stats journal.0)

abbrev pub load_of : Rest → Option Asked
load_of given = do
  settings ← operand given
  workers ← operand settings.1
  rounds ← operand workers.1
  _ ← end rounds.1
  count ← number_below (2 ^ 32) workers.0
  number ← number_below (2 ^ 64) rounds.0
  Some (load settings.0 count number)

-- Without a word the task is to run standard input. Otherwise the first word is the command, and every word after it is used.
abbrev pub task_of : List Text → Option Asked
task_of [] = Some run_input
task_of (command ∷ words) =
    if bytes_eq command (codes "run") then run_of (false, words)
    else if bytes_eq command (codes "check") then check_of (false, words)
    else if bytes_eq command (codes "stats") then stats_of (false, words)
    else if bytes_eq command (codes "load") then load_of (false, words)
    else None
