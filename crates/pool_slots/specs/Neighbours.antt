-- The neighbours of an object in the queue. No public clause cites this module.
use Rattle.std.specs.Prelude.{ℕ, Bool, if◌then◌else◌, Option, Some, None}

pub record Neighbours : Type 0 where
  pub before : Option ℕ
  pub after : Option ℕ

-- the key, if the mark is set
abbrev pub marked : Bool → ℕ → Option ℕ
marked is_there key = if is_there then Some key else None
