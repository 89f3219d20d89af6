-- The model of a caller, and its invariant.
use Rattle.std.specs.Prelude.{◌≡◌, ℕ, ◌+◌, List, [], ◌∷◌, ◌++◌}
use Rattle.atomic_table.specs.Seated.{TableId}
use Rattle.pool_journal.specs.declared.entry.Entry.{Entry}
use Rattle.pool_settings.specs.declared.settings.Settings.{Settings}
use Rattle.pool_core.specs.Legal.{IsLegal}
use Rattle.pool_history.specs.Ownership.{IsOwnerRespecting, NoneMisused}
use Rattle.pool_history.specs.Segments.{EachFitted}
use Rattle.pool_history.specs.declared.brands.Fragment.{Fragment}
use Rattle.pool_history.specs.declared.brands.View.{View}
use Rattle.pool_history.specs.CellInvariant.{entries_with_number, fragments_only, fragment, IsPrefix}

-- the state of a caller: its number, the entries that it has observed and those that it has appended, its number of cuts, and
-- the positions of all cuts that it has observed
pub record CallerState : Type 0 where
  pub number : ℕ
  pub observed : List Entry
  pub appended : List Entry
  pub cut_count : ℕ
  pub cut_positions : List ℕ

abbrev pub observed_in : List Fragment → List Entry
observed_in [] = []
observed_in (h ∷ hs) = h.observed

abbrev pub appended_in : List Fragment → List Entry
appended_in [] = []
appended_in (h ∷ hs) = h.appended

abbrev pub cut_count_in : List Fragment → ℕ
cut_count_in [] = 0
cut_count_in (h ∷ hs) = h.cut_count

abbrev pub cut_positions_in : List Fragment → List ℕ
cut_positions_in [] = []
cut_positions_in (h ∷ hs) = h.cut_positions

-- the invariant of a caller: its pass is of this cell, and has one fragment, which has observed a legal and owner-respecting
-- history; its own entries are exactly those with its number, and each fitted
pub record CallerInvariant (table : TableId) (s : Settings) (id : TableId) (number : ℕ) (v : View) : Type 0 where
  pub here : id ≡ table
  pub knows : v ≡ fragments_only (fragment s number (observed_in v.fragments) (appended_in v.fragments) (cut_count_in v.fragments) (cut_positions_in v.fragments) ∷ [])
  pub legal : IsLegal s (observed_in v.fragments)
  pub owner_respecting : IsOwnerRespecting (observed_in v.fragments)
  pub all : appended_in v.fragments ≡ entries_with_number number (observed_in v.fragments)
  pub fits : EachFitted s number (cut_positions_in v.fragments) (observed_in v.fragments)

-- the same caller has observed a legal and owner-respecting history that extends what it had observed, and in which no entry
-- has the answer Refused NotHeld or Refused BadOutcome; its own entries are exactly those with its number, and each fitted; its
-- number of cuts is unchanged
pub record Advances (s : Settings) (before after : CallerState) : Type 0 where
  pub number : after.number ≡ before.number
  pub later : IsPrefix before.observed after.observed
  pub legal : IsLegal s after.observed
  pub owner_respecting : IsOwnerRespecting after.observed
  pub none_misused : NoneMisused after.observed
  pub all : after.appended ≡ entries_with_number after.number after.observed
  pub fits : EachFitted s after.number after.cut_positions after.observed
  pub uncut : after.cut_count ≡ before.cut_count
  pub later_cuts : IsPrefix before.cut_positions after.cut_positions

-- a caller has observed a legal and owner-respecting history; its own entries are exactly those with its number, and each fitted
pub record IsConsistent (s : Settings) (me : CallerState) : Type 0 where
  pub legal : IsLegal s me.observed
  pub owner_respecting : IsOwnerRespecting me.observed
  pub all : me.appended ≡ entries_with_number me.number me.observed
  pub fits : EachFitted s me.number me.cut_positions me.observed

-- a new caller has observed nothing and appended nothing
abbrev pub newcomer_at : ℕ → CallerState
newcomer_at n = record { number = n; observed = []; appended = []; cut_count = 0; cut_positions = [] }

-- the caller has cut the journal once more
abbrev pub having_cut : CallerState → CallerState
having_cut c = record { number = c.number; observed = c.observed; appended = c.appended; cut_count = c.cut_count + 1; cut_positions = c.cut_positions }

-- the caller has observed the history of the authoritative pass and all of its cuts
abbrev pub having_observed : View → CallerState → CallerState
having_observed v c = record { number = c.number; observed = v.history; appended = c.appended; cut_count = c.cut_count; cut_positions = v.cut_positions }

-- the caller has appended an entry, after all that it had observed
abbrev pub having_appended : Entry → CallerState → CallerState
having_appended e c = record { number = c.number; observed = c.observed ++ e ∷ []; appended = c.appended ++ e ∷ []; cut_count = c.cut_count; cut_positions = c.cut_positions }

-- the state of the caller with this number and this pass
abbrev pub state_of : ℕ → View → CallerState
state_of n v = record { number = n; observed = observed_in v.fragments; appended = appended_in v.fragments; cut_count = cut_count_in v.fragments; cut_positions = cut_positions_in v.fragments }

-- the fragment of a caller in this state
abbrev pub fragment_of : Settings → CallerState → Fragment
fragment_of s c = fragment s c.number c.observed c.appended c.cut_count c.cut_positions
