-- The task that the words after the program's name lead to, by clap's matches.
use Rattle.std.proofs.Common.{◌≡◌, ◌∙◌, ◌≤◌, Bool, cond, true, false, refl, sym, ap, ap₂, List, [], ◌∷◌, ◌++◌, length, Option, Some, None, true≢false}
use Rattle.std.specs.Prelude.{codes, bytes_eq, is_some}
use Rattle.std.specs.List.{fold}
use Rattle.std.specs.Str.{IsUtf8}
use Rattle.std.proofs.lemmas.Slice.Eq.{bytes_eq-Decides}
use Rattle.clap.specs.Lexer.{usize_max}
use Rattle.clap.specs.Walk.{Names, Row, Walk, all_of, finished, first_of, idle, nothing_held, settled, stop_after, subcommand_met, walk_from, walked}
use Rattle.clap.specs.Simple.{App, built, entered, names_of}
use Rattle.clap.specs.Kinds.{Kinds, or_else}
use Rattle.clap.specs.Faults.{built_fault, check_fault, defaults_fault, entered_fault, level_fault, settle_fault, turn_fault, walk_fault}
use Rattle.clap.proofs.OnLiterals.{clap_on_literals}
use Rattle.clap.proofs.WalkLemmas.{walk_stopped}
use Rattle.pool_cli.specs.Arguments.{Asked, Text, check_of, is_option, load_of, run_of, stats_of, task_of}
use Rattle.pool_cli.specs.Matches.{pool_app, task_by}
use Rattle.pool_cli.proofs.Walks.{AreTexts, HasOperandsAlone, and_false, clean-or_else, is_clean, option_refused}
use Rattle.pool_cli.proofs.Words.{plain_word}
use Rattle.pool_cli.proofs.Leaves.{help_long, help_short, check_rows, check_shape, check_words, leaf_asked, load_rows, load_shape, load_words, run_rows, run_shape, run_words, stats_rows, stats_shape, stats_words}
use Rattle.pool_cli.proofs.Pages.{check_page, load_page, run_page, stats_page}

abbrev pub whole : App
whole = built pool_app

abbrev names : Names
names = names_of whole

-- the task that the matches of a command name
abbrev pub entered_asked : Option (Text × List Row) → Option Asked
entered_asked None = None
entered_asked (Some found) = task_by found.0 (λ id. first_of id found.1) (λ id. all_of id found.1)

-- the same, if clap accepts the words
abbrev pub words_asked : List Text → Option Asked
words_asked words =
    cond (is_clean (built_fault whole nothing_held words)) (entered_asked (entered whole (stop_after whole.top.rules names words))) None

-- the words after a command belong to it
stopped_clean : (w : Walk) (p : Text × List Text) (words : List Text) → walk_fault whole.top names (record w { stopped = Some p }) words ≡ []
unfolding walk_fault walked
stopped_clean w p [] = refl
stopped_clean w p (word ∷ words) = stopped_clean w (p.0, p.1 ++ word ∷ []) words

-- the result at the end of a walk
abbrev asked_behind : Kinds → Walk → Option Asked
asked_behind fault w =
    cond (is_clean (or_else fault (or_else (entered_fault whole w.stopped)
    (or_else (settle_fault whole.top.rules whole.top.args_override_self w.held)
    (or_else (defaults_fault (settled whole.top.rules w.held).rows whole.top.rules)
    (check_fault whole.top (finished whole.top.rules w.held) (is_some (entered whole w.stopped))))))))
    (entered_asked (entered whole w.stopped)) None

behind : (words : List Text)
    → words_asked words ≡ asked_behind (walk_fault whole.top names (walk_from nothing_held) words) (fold (walked whole.top.rules names) (walk_from nothing_held) words)
behind words = refl

abbrev at_command : Text → List Text → Walk
at_command name words = record (walk_from nothing_held) { stopped = Some (name, words) }

in_time : (fault : Kinds) (x : Option Asked) → cond (is_clean (or_else fault [])) x None ≡ cond (is_clean fault) x None
in_time [] x = refl
in_time (k ∷ ks) x = refl

command_walked : (name : Text) (words : List Text) → fold (walked whole.top.rules names) (at_command name []) words ≡ at_command name words
command_walked name words = sym (walk_stopped whole.top.rules names (walk_from nothing_held) name [] words)

command_met : (name : Text) (words : List Text)
    → asked_behind (walk_fault whole.top names (at_command name []) words) (fold (walked whole.top.rules names) (at_command name []) words)
    ≡ asked_behind [] (at_command name words)
command_met name words = ap₂ asked_behind (stopped_clean (walk_from nothing_held) (name, []) words) (command_walked name words)

run_here : (words : List Text) → words_asked (codes "run" ∷ words) ≡ leaf_asked run_shape run_rows words
unfolding clap_on_literals
run_here words = command_met (codes "run") words ∙ in_time (level_fault run_shape [] nothing_held words false []) _

check_here : (words : List Text) → words_asked (codes "check" ∷ words) ≡ leaf_asked check_shape check_rows words
unfolding clap_on_literals
check_here words = command_met (codes "check") words ∙ in_time (level_fault check_shape [] nothing_held words false []) _

stats_here : (words : List Text) → words_asked (codes "stats" ∷ words) ≡ leaf_asked stats_shape stats_rows words
unfolding clap_on_literals
stats_here words = command_met (codes "stats") words ∙ in_time (level_fault stats_shape [] nothing_held words false []) _

load_here : (words : List Text) → words_asked (codes "load" ∷ words) ≡ leaf_asked load_shape load_rows words
unfolding clap_on_literals
load_here words = command_met (codes "load") words ∙ in_time (level_fault load_shape [] nothing_held words false []) _

help_here : (words : List Text) → words_asked (codes "help" ∷ words) ≡ None
unfolding clap_on_literals
help_here words = refl

-- ---- no command

first_alone : HasOperandsAlone whole.top
first_alone = record {
  long = λ name v h. help_long whole.top.rules 0 _ v h;
  short = λ x rest h next. help_short whole.top.rules 0 _ rest h next;
  plain = λ i. tt;
}

unclean : (fault rest : Kinds) (x : Option Asked) → is_clean fault ≡ false → cond (is_clean (or_else fault rest)) x None ≡ None
unclean [] rest x e = absurd (true≢false e)
unclean (k ∷ ks) rest x e = refl

-- if the first word is an error, there is no task
refused_first : (word : Text) (words : List Text) → is_clean (turn_fault whole.top names (walk_from nothing_held) word) ≡ false → words_asked (word ∷ words) ≡ None
unfolding walk_fault
refused_first word words refused =
    let fault : is_clean (walk_fault whole.top names (walk_from nothing_held) (word ∷ words)) ≡ false = clean-or_else _ _ ∙ and_false _ _ refused in
    unclean (walk_fault whole.top names (walk_from nothing_held) (word ∷ words)) _ _ fault

dashes_here : (words : List Text) → words_asked (codes "--" ∷ words) ≡ None
unfolding clap_on_literals
dashes_here [] = refl
dashes_here (word ∷ words) = refl

other_way : (a b : Text) → bytes_eq b a ≡ false → bytes_eq a b ≡ false
other_way a b e = go (bytes_eq a b) refl
  where
    go : (t : Bool) → bytes_eq a b ≡ t → t ≡ false
    go false h = refl
    go true h = absurd (true≢false (sym ((bytes_eq-Decides b a).1 (sym ((bytes_eq-Decides a b).0 h))) ∙ e))

-- a word that names no command
record IsNone (word : Text) : Type 0 where
  run : bytes_eq word (codes "run") ≡ false
  check : bytes_eq word (codes "check") ≡ false
  stats : bytes_eq word (codes "stats") ≡ false
  load : bytes_eq word (codes "load") ≡ false
  help : bytes_eq word (codes "help") ≡ false

no_command : (word : Text) → IsNone word → subcommand_met names idle word ≡ None
no_command word n = rw (
  other_way (codes "run") word n.run,
  other_way (codes "check") word n.check,
  other_way (codes "stats") word n.stats,
  other_way (codes "load") word n.load,
  other_way (codes "help") word n.help,
) refl

none_here : (word : Text) (words : List Text) → IsUtf8 word → IsNone word → words_asked (word ∷ words) ≡ None
none_here word words u n = first (bytes_eq word (codes "--")) refl
  where
    second : (b : Bool) → bytes_eq word (codes "--") ≡ false → is_option word ≡ b → words_asked (word ∷ words) ≡ None
    second true e o =
        refused_first word words (clean-or_else _ _ ∙ and_false _ _ (option_refused whole.top first_alone names idle nothing_held word u refl (no_command word n) e o))
    second false e o =
        let sub = no_command word n in
        let forms = plain_word word o in
        let stray : is_clean (turn_fault whole.top names (walk_from nothing_held) word) ≡ false = rw (sub, e, forms.0, forms.1) refl in
        refused_first word words stray

    first : (b : Bool) → bytes_eq word (codes "--") ≡ b → words_asked (word ∷ words) ≡ None
    first true e = ap (λ x. words_asked (x ∷ words)) ((bytes_eq-Decides word (codes "--")).0 e) ∙ dashes_here words
    first false e = second (is_option word) e refl

-- the matches that clap returns name the task of the definitions
pub words_page : (command : Text) (words : List Text) → AreTexts (command ∷ words) → length words ≤ usize_max → words_asked (command ∷ words) ≡ task_of (command ∷ words)
words_page command words us fits = by_run (bytes_eq command (codes "run")) refl
  where
    by_help : (b : Bool) → bytes_eq command (codes "run") ≡ false → bytes_eq command (codes "check") ≡ false → bytes_eq command (codes "stats") ≡ false
        → bytes_eq command (codes "load") ≡ false → bytes_eq command (codes "help") ≡ b → words_asked (command ∷ words) ≡ task_of (command ∷ words)
    by_help true r c s l h =
        let page : task_of (command ∷ words) ≡ None = rw (r, c, s, l) refl in
        ap (λ x. words_asked (x ∷ words)) ((bytes_eq-Decides command (codes "help")).0 h) ∙ help_here words ∙ sym page
    by_help false r c s l h =
        let page : task_of (command ∷ words) ≡ None = rw (r, c, s, l) refl in
        none_here command words us.0 (record { run = r; check = c; stats = s; load = l; help = h }) ∙ sym page

    by_load : (b : Bool) → bytes_eq command (codes "run") ≡ false → bytes_eq command (codes "check") ≡ false → bytes_eq command (codes "stats") ≡ false
        → bytes_eq command (codes "load") ≡ b → words_asked (command ∷ words) ≡ task_of (command ∷ words)
    by_load true r c s l =
        let page : task_of (command ∷ words) ≡ load_of (false, words) = rw (r, c, s, l) refl in
        ap (λ x. words_asked (x ∷ words)) ((bytes_eq-Decides command (codes "load")).0 l) ∙ load_here words ∙ load_words words us.1 ∙ load_page words ∙ sym page
    by_load false r c s l = by_help (bytes_eq command (codes "help")) r c s l refl

    by_stats : (b : Bool) → bytes_eq command (codes "run") ≡ false → bytes_eq command (codes "check") ≡ false → bytes_eq command (codes "stats") ≡ b
        → words_asked (command ∷ words) ≡ task_of (command ∷ words)
    by_stats true r c s =
        let page : task_of (command ∷ words) ≡ stats_of (false, words) = rw (r, c, s) refl in
        ap (λ x. words_asked (x ∷ words)) ((bytes_eq-Decides command (codes "stats")).0 s) ∙ stats_here words ∙ stats_words words us.1 ∙ stats_page words ∙ sym page
    by_stats false r c s = by_load (bytes_eq command (codes "load")) r c s refl

    by_check : (b : Bool) → bytes_eq command (codes "run") ≡ false → bytes_eq command (codes "check") ≡ b → words_asked (command ∷ words) ≡ task_of (command ∷ words)
    by_check true r c =
        let page : task_of (command ∷ words) ≡ check_of (false, words) = rw (r, c) refl in
        ap (λ x. words_asked (x ∷ words)) ((bytes_eq-Decides command (codes "check")).0 c) ∙ check_here words ∙ check_words words us.1 fits ∙ check_page words ∙ sym page
    by_check false r c = by_stats (bytes_eq command (codes "stats")) r c refl

    by_run : (b : Bool) → bytes_eq command (codes "run") ≡ b → words_asked (command ∷ words) ≡ task_of (command ∷ words)
    by_run true r =
        let page : task_of (command ∷ words) ≡ run_of (false, words) = rw r refl in
        ap (λ x. words_asked (x ∷ words)) ((bytes_eq-Decides command (codes "run")).0 r) ∙ run_here words ∙ run_words words us.1 ∙ run_page words ∙ sym page
    by_run false r = by_check (bytes_eq command (codes "check")) r refl
