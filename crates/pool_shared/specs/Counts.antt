-- What calls have counted, by the entries of their caller.
use Rattle.std.specs.Prelude.{◌≡◌, ℕ, ◌+◌, List}
use Rattle.pool_journal.specs.declared.entry.Entry.{Entry}
use Rattle.pool_stats.specs.Answers.{count_answers}
use Rattle.pool_calls.specs.declared.kind.Kind.{Kind}
use Rattle.pool_calls.specs.Steps.{is_counted, is_freed}
use Rattle.pool_history.specs.CallerStates.{CallerState}

-- the number of objects that a call of this kind counts in these entries
abbrev pub counted : Kind → List Entry → ℕ
counted k es = count_answers (is_counted k) es

-- in the entries that the caller appended since, a call of this kind counts this many objects
abbrev pub Counts : Kind → ℕ → CallerState → CallerState → Type 0
Counts k n before after = counted k after.appended ≡ counted k before.appended + n

-- in the entries that the caller appended since, this many places were freed
abbrev pub Frees : ℕ → CallerState → CallerState → Type 0
Frees n before after = count_answers is_freed after.appended ≡ count_answers is_freed before.appended + n
