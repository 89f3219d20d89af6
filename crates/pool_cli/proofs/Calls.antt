-- How the program reads clap's result.
use Rattle.std.proofs.Common.{true≢false, ◌≡◌, ◌∙◌, ◌≤◌, cond, false, refl, sym, ap, ap₂, arith, List, [], ◌∷◌, length, drop, map, Option, Some, None}
use Rattle.std.proofs.lemmas.List.{length-map}
use Rattle.std.specs.Prelude.{option_map, String, is_some, string_bytes}
use Rattle.std.proofs.lemmas.Str.{IsUtf8-string_bytes}
use Rattle.std.proofs.lemmas.Option.{none-some, same_Some}
use Rattle.std.specs.Box.{box_value}
use Rattle.clap.specs.declared.ArgMatches.TheViews.{out-ArgMatches, out-SubCommand}
use Rattle.clap.specs.Lexer.{usize_max}
use Rattle.clap.specs.Walk.{Row, rows_of}
use Rattle.clap.specs.Simple.{subcommand_of, subcommand_rows_of}
use Rattle.clap.specs.Kinds.{IsAmong, Kinds}
use Rattle.clap.specs.Faults.{fault_of}
use Rattle.clap.specs.Matches.{first_value, found_of, has_subcommand, subcommand_name_of}
use Rattle.clap.specs.declared.ArgMatches.{ArgMatches}
use Rattle.clap.specs.declared.error.ErrorKind.{ErrorKind}
use Rattle.clap.proofs.WalkLemmas.{first_value-rows, raw_values-rows}
use Rattle.pool_cli.specs.Arguments.{Text, task_of}
use Rattle.pool_cli.specs.Matches.{all_values, pool_app, task_by}
use Rattle.pool_cli.proofs.Walks.{AreTexts, is_clean}
use Rattle.pool_cli.proofs.Tops.{entered_asked, words_page}

-- strings are texts
pub are_texts : {Z : Type 0} (words : List (String Z)) → AreTexts (map string_bytes words)
are_texts [] = tt
are_texts (word ∷ words) = (IsUtf8-string_bytes word, are_texts words)

-- without an error the matches name the task of the definitions
pub matches_page : (program command : Text) (words : List Text) → AreTexts (command ∷ words) → length words ≤ usize_max
    → fault_of pool_app (program ∷ command ∷ words) ≡ [] → entered_asked (subcommand_of pool_app (program ∷ command ∷ words)) ≡ task_of (command ∷ words)
matches_page program command words us fits clean =
    ap (λ (f : Kinds). cond (is_clean f) (entered_asked (subcommand_of pool_app (program ∷ command ∷ words))) None) (sym clean)
    ∙ words_page command words us fits

among : (k : ErrorKind) (kinds : Kinds) → IsAmong k kinds → is_clean kinds ≡ false
among k [] h = absurd h
among k (x ∷ xs) h = refl

-- with an error there is no task
pub fault_page : (program command : Text) (words : List Text) → AreTexts (command ∷ words) → length words ≤ usize_max
    → (k : ErrorKind) → IsAmong k (fault_of pool_app (program ∷ command ∷ words)) → task_of (command ∷ words) ≡ None
fault_page program command words us fits k h =
    sym (words_page command words us fits)
    ∙ ap (λ b. cond b (entered_asked (subcommand_of pool_app (program ∷ command ∷ words))) None) (among k _ h)

-- the results of the getters of the subcommand's matches
pub found_asked : (m : ArgMatches) (name : Text) (rows : List Row) → rows_of (found_of m) ≡ rows
    → task_by name (first_value (found_of m)) (all_values m) ≡ entered_asked (Some (name, rows))
found_asked m name rows e =
    ap₂ (λ (f : Text → Option Text) (g : Text → Option (List Text)). task_by name f g)
    (λ i id. first_value-rows (found_of m) id i) (λ i id. raw_values-rows (found_of m) id i)
    ∙ ap (λ rs. entered_asked (Some (name, rs))) e

few : {Z : Type 0} (program command : String Z) (words : List (String Z)) → length (program ∷ command ∷ words) ≤ usize_max → length (map string_bytes words) ≤ usize_max
few program command words fits = omega (arith, length-map words string_bytes, fits)

pub fault_at : {Z : Type 0} (arguments : List (String Z)) → 2 ≤ length arguments → length arguments ≤ usize_max → (k : ErrorKind)
    → IsAmong k (fault_of pool_app (map string_bytes arguments)) → task_of (drop 1 (map string_bytes arguments)) ≡ None
fault_at [] two fits k h = absurd (omega (arith, two))
fault_at (program ∷ []) two fits k h = absurd (omega (arith, two))
fault_at (program ∷ command ∷ words) two fits k h =
    fault_page (string_bytes program) (string_bytes command) (map string_bytes words) (are_texts (command ∷ words)) (few program command words fits) k h

pub matches_at : {Z : Type 0} (arguments : List (String Z)) → 2 ≤ length arguments → length arguments ≤ usize_max
    → fault_of pool_app (map string_bytes arguments) ≡ []
    → entered_asked (subcommand_of pool_app (map string_bytes arguments)) ≡ task_of (drop 1 (map string_bytes arguments))
matches_at [] two fits clean = absurd (omega (arith, two))
matches_at (program ∷ []) two fits clean = absurd (omega (arith, two))
matches_at (program ∷ command ∷ words) two fits clean =
    matches_page (string_bytes program) (string_bytes command) (map string_bytes words) (are_texts (command ∷ words)) (few program command words fits) clean

pair_of : {X : Type 0} (o : Option X) (n : X → Text) (r : X → List Row) (name : Text) (rows : List Row) → Some name ≡ option_map n o
    → Some rows ≡ option_map (λ (p : Text × List Row). p.1) (option_map {U = Text × List Row} (λ x. (n x, r x)) o) → ◌≡◌ {A = Option (Text × List Row)} (Some (name, rows)) (option_map (λ x. (n x, r x)) o)
pair_of None n r name rows e f = absurd (none-some name (sym e))
pair_of (Some x) n r name rows e f = ap₂ (λ (a : Text) (b : List Row). Some (a, b)) (same_Some _ _ e) (same_Some _ _ f)

-- the subcommand that the matches report
pub reported : (m : ArgMatches) (name : Text) (rows : List Row) → Some name ≡ subcommand_name_of m → Some rows ≡ option_map (λ (p : Text × List Row). p.1) (subcommand_rows_of m)
    → ◌≡◌ {A = Option (Text × List Row)} (Some (name, rows)) (subcommand_rows_of m)
reported m name rows e f =
    pair_of (out-ArgMatches m).subcommand (λ b. (out-SubCommand (box_value b)).name.now) (λ b. rows_of (found_of (out-SubCommand (box_value b)).matches)) name rows e f

none_of : {X Y : Type 0} (o : Option X) (f : X → Y) → false ≡ is_some o → option_map f o ≡ None
none_of None f e = refl
none_of (Some x) f e = absurd (true≢false (sym e))

-- the matches report no subcommand
pub none_reported : (m : ArgMatches) → false ≡ has_subcommand m → subcommand_rows_of m ≡ None
none_reported m e = none_of (out-ArgMatches m).subcommand _ e
