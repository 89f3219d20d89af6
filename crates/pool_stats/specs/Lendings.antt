-- The times at which loans began, and the durations of loans.
use Rattle.std.specs.Prelude.{ℕ, ◌-◌, List, take, filter_map, Option, Some, None}
use Rattle.std.specs.List.{enumerate_from}
use Rattle.std.specs.Option.{option_map}
use Rattle.pool_journal.specs.Entries.{is_of}
use Rattle.pool_journal.specs.Latest.{last_some, some_if}
use Rattle.pool_journal.specs.declared.entry.Entry.{Entry}
use Rattle.pool_journal.specs.declared.input.Input.{Input}
use Rattle.pool_journal.specs.declared.input.Input.TheVariants.{Ready, GiveBack, Invalidate}
use Rattle.pool_journal.specs.declared.answer.Answer.{Answer}
use Rattle.pool_journal.specs.declared.answer.Answer.TheVariants as answers

-- the object whose loan begins
abbrev pub begun_by : Answer → Input → Option ℕ
begun_by answers.Lent (Ready i outcome) = Some i
begun_by _ input = None

-- the object whose loan ends
abbrev pub ended_by : Answer → Input → Option ℕ
ended_by answers.Check (GiveBack i) = Some i
ended_by answers.Destroy (Invalidate i) = Some i
ended_by (answers.Reclaimed i) input = Some i
ended_by _ input = None

-- the time of the last entry that begins a loan of i
unfoldable pub begun : ℕ → List Entry → Option ℕ
begun i J = last_some (λ e. some_if (is_of i (begun_by e.answer e.input)) (Some e.at)) None J

-- the time from `moment` to `at`, and 0 if there is no `moment` or it is later
abbrev pub time_since : Option ℕ → ℕ → ℕ
time_since None at = 0
time_since (Some moment) at = at - moment

-- the duration of the loan that the entry ends, after the entries J
abbrev pub time_ended : List Entry → Entry → Option ℕ
time_ended J e = option_map (λ i. time_since (begun i J) e.at) (ended_by e.answer e.input)

-- the durations of all loans that ended
unfoldable pub times : List Entry → List ℕ
times J = filter_map (λ (k, e). time_ended (take k J) e) (enumerate_from 0 J)
