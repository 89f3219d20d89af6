-- The kinds of entries that are counted, by their answers and inputs.
use Rattle.std.specs.Prelude.{ℕ, Bool, true, false, List, count_by}
use Rattle.pool_journal.specs.declared.entry.Entry.{Entry}
use Rattle.pool_journal.specs.declared.input.Input.{Input}
use Rattle.pool_journal.specs.declared.input.Input.TheVariants.{Ready}
use Rattle.pool_journal.specs.declared.input.Outcome.TheVariants.{TestFailed}
use Rattle.pool_journal.specs.declared.answer.Answer.{Answer}
use Rattle.pool_journal.specs.declared.answer.Answer.TheVariants as answers

abbrev pub is_check : Answer → Bool
is_check answers.Check = true
is_check _ = false

-- an object is destroyed because it failed its test for a borrow
abbrev pub is_failing : Answer → Input → Bool
is_failing answers.Destroy (Ready i TestFailed) = true
is_failing _ input = false

-- the number of entries whose answer passes the test
abbrev pub count_answers : (Answer → Bool) → List Entry → ℕ
count_answers test J = count_by (λ e. test e.answer) J

-- the number of entries whose answer and input pass the test
abbrev pub count_entries : (Answer → Input → Bool) → List Entry → ℕ
count_entries test J = count_by (λ e. test e.answer e.input) J
