-- The task that the words after each command name, by clap's matches.
use Rattle.std.proofs.Common.{◌≡◌, ◌∙◌, ◌≤◌, ◌^◌, ◌&&◌, ℕ, Bool, cond, true, false, refl, sym, ap, ap₂, arith, le-ltb, List, [], ◌∷◌, ◌++◌, length, Option, Some, None, append-nil, append_assoc}
use Rattle.std.specs.Prelude.{IfSome, codes, option_map, ◌==◌, bytes_eq}
use Rattle.std.proofs.lemmas.Bool.Decides.{nat_tests}
use Rattle.clap.specs.Lexer.{usize_max}
use Rattle.clap.specs.Walk.{Held, Row, Rule, all_of, finished, first_of, nothing_held, rows_after, settled, walk, walk_from, walked}
use Rattle.clap.specs.Simple.{Shape, built_leaf, filled, help_rule, with_index}
use Rattle.clap.specs.declared.error.ErrorKind.TheVariants as kind
use Rattle.clap.specs.Values.{reading_of}
use Rattle.clap.specs.declared.builder.ValueParser.TheVariants as vp
use Rattle.clap.specs.declared.parser.ValueSource.TheVariants.{CommandLine}
use Rattle.clap.specs.Kinds.{Kinds, or_else, range_kinds, values_kinds}
use Rattle.clap.specs.Faults.{check_fault, defaults_fault, level_fault, long_fault, settle_fault, short_fault, walk_fault}
use Rattle.clap.proofs.OnLiterals.{clap_on_literals}
use Rattle.pool_cli.specs.Arguments.{Asked, Text, check, is_option, load, number_below, plain_words, run, stats, ◌>>=◌}
use Rattle.pool_cli.specs.Matches.{check_app, check_by, load_app, load_by, run_app, run_by, stats_app, stats_by}
use Rattle.pool_cli.proofs.Walks.{AreTexts, HasOperandsAlone, and_false, at, clean-or_else, is_clean, same_after, taken, taken_more, taken_nothing, taken_plainly}

-- ---- one command

-- the errors after the last word
abbrev at_end : Shape → Held → Kinds
at_end s end =
    or_else (settle_fault s.rules s.args_override_self end)
    (or_else (defaults_fault (settled s.rules end).rows s.rules) (check_fault s (finished s.rules end) false))

-- the task that the words name, for a given reading of the matches
abbrev pub leaf_asked : Shape → (List Row → Option Asked) → List Text → Option Asked
leaf_asked s by words = cond (is_clean (level_fault s [] nothing_held words false [])) (by (rows_after s.rules [] words)) None

abbrev asked_at : Shape → (List Row → Option Asked) → Held → Option Asked
asked_at s by h = cond (is_clean (at_end s h)) (by (finished s.rules h)) None

-- the same for words that are all operands
abbrev operands_asked : Shape → (List Row → Option Asked) → List Text → Option Asked
operands_asked s by vs = taken s (at nothing_held false 1 true) vs >>= asked_at s by

in_parts : (a b : Bool) (h : Held) (x : Option Asked) (f : Held → Option Asked) → cond b x None ≡ f h → cond (a && b) x None ≡ (cond a (Some h) None >>= f)
in_parts true b h x f e = e
in_parts false b h x f e = refl

after_both : {X Y Z : Type 0} (o : Option X) (f : X → Option Y) (g : Y → Option Z) → (o >>= f >>= g) ≡ (o >>= (λ x. f x >>= g))
after_both None f g = refl
after_both (Some x) f g = refl

leaf_parts : (s : Shape) (by : List Row → Option Asked) (words : List Text) → leaf_asked s by words ≡ (taken s (at nothing_held false 1 false) words >>= asked_at s by)
leaf_parts s by words =
    let end = (walk s.rules [] nothing_held words).held in
    ap (λ b. cond b (by (rows_after s.rules [] words)) None) (clean-or_else (walk_fault s [] (walk_from nothing_held) words) (at_end s end))
    ∙ in_parts (is_clean (walk_fault s [] (walk_from nothing_held) words)) (is_clean (at_end s end)) end (by (rows_after s.rules [] words)) (asked_at s by) refl

pub leaf_operands : (s : Shape) → HasOperandsAlone s → (by : List Row → Option Asked) (words : List Text) → AreTexts words
    → leaf_asked s by words ≡ (plain_words words >>= (λ vs. operands_asked s by vs))
leaf_operands s alone by words us =
    leaf_parts s by words ∙ ap (λ (o : Option Held). o >>= asked_at s by) (taken_plainly s alone words us nothing_held refl false 1)
    ∙ after_both (plain_words words) _ (asked_at s by)

-- ---- the four commands

abbrev pub run_shape : Shape
run_shape = built_leaf run_app.top

abbrev pub check_shape : Shape
check_shape = built_leaf check_app.top

abbrev pub stats_shape : Shape
stats_shape = built_leaf stats_app.top

abbrev pub load_shape : Shape
load_shape = built_leaf load_app.top

and_last : (a : Bool) → (a && false) ≡ false
and_last true = refl
and_last false = refl

pub help_long : (c : List Rule) (i : ℕ) (b : Bool) (v : Option Text) (h : Held)
    → is_clean (long_fault c false (cond b (Some (with_index i (filled help_rule))) None) v h) ≡ false
help_long c i false v h = refl
help_long c i true (Some x) h = refl
help_long c i true None h = clean-or_else (settle_fault c false h) _ ∙ and_last (is_clean (settle_fault c false h))

pub help_short : (c : List Rule) (i : ℕ) (b : Bool) (rest : Text) (h : Held) (next : Held → Kinds)
    → is_clean (short_fault c false (cond b (Some (with_index i (filled help_rule))) None) rest h next) ≡ false
help_short c i false rest h next = refl
help_short c i true rest h next =
    clean-or_else (or_else (settle_fault c false h) (kind.DisplayHelp ∷ [])) _
    ∙ and_false _ _ (clean-or_else (settle_fault c false h) (kind.DisplayHelp ∷ []) ∙ and_last (is_clean (settle_fault c false h)))

plain_if : (b : Bool) (a : Rule) (o : Option Rule) → a.trailing_var_arg ≡ false → IfSome o (λ r. r.trailing_var_arg ≡ false)
    → IfSome (cond b (Some a) o) (λ r. r.trailing_var_arg ≡ false)
plain_if true a o e f = e
plain_if false a o e f = f

run_alone : HasOperandsAlone run_shape
run_alone = record {
  long = λ name v h. help_long run_shape.rules 0 _ v h;
  short = λ x rest h next. help_short run_shape.rules 0 _ rest h next;
  plain = λ i. plain_if (1 == i) _ _ refl (plain_if (2 == i) _ _ refl tt);
}

check_alone : HasOperandsAlone check_shape
check_alone = record {
  long = λ name v h. help_long check_shape.rules 0 _ v h;
  short = λ x rest h next. help_short check_shape.rules 0 _ rest h next;
  plain = λ i. plain_if (1 == i) _ _ refl (plain_if (2 == i) _ _ refl tt);
}

stats_alone : HasOperandsAlone stats_shape
stats_alone = record {
  long = λ name v h. help_long stats_shape.rules 0 _ v h;
  short = λ x rest h next. help_short stats_shape.rules 0 _ rest h next;
  plain = λ i. plain_if (1 == i) _ _ refl tt;
}

load_alone : HasOperandsAlone load_shape
load_alone = record {
  long = λ name v h. help_long load_shape.rules 0 _ v h;
  short = λ x rest h next. help_short load_shape.rules 0 _ rest h next;
  plain = λ i. plain_if (1 == i) _ _ refl (plain_if (2 == i) _ _ refl (plain_if (3 == i) _ _ refl tt));
}

-- ---- the task that operands name

abbrev pub run_with : List Text → Option Asked
run_with (settings ∷ script ∷ []) = Some (run settings script)
run_with _ = None

run_operands : (vs : List Text) → operands_asked run_shape (λ rows. run_by (λ id. first_of id rows)) vs ≡ run_with vs
unfolding clap_on_literals
run_operands [] = refl
run_operands (a ∷ []) = refl
run_operands (a ∷ b ∷ []) = refl
run_operands (a ∷ b ∷ c ∷ vs) = refl

abbrev pub stats_with : List Text → Option Asked
stats_with (journal ∷ []) = Some (stats journal)
stats_with _ = None

stats_operands : (vs : List Text) → operands_asked stats_shape (λ rows. stats_by (λ id. first_of id rows)) vs ≡ stats_with vs
unfolding clap_on_literals
stats_operands [] = refl
stats_operands (a ∷ []) = refl
stats_operands (a ∷ b ∷ vs) = refl

abbrev pub load_with : List Text → Option Asked
load_with (settings ∷ workers ∷ rounds ∷ []) = do
  count ← number_below (2 ^ 32) workers
  number ← number_below (2 ^ 64) rounds
  Some (load settings count number)
load_with _ = None

load_operands : (vs : List Text) → operands_asked load_shape (λ rows. load_by (λ id. first_of id rows)) vs ≡ load_with vs
unfolding clap_on_literals
load_operands [] = refl
load_operands (a ∷ []) = refl
load_operands (a ∷ b ∷ []) = refl
load_operands (a ∷ b ∷ c ∷ []) = refl
load_operands (a ∷ b ∷ c ∷ d ∷ vs) = refl

-- the values while the journals are read
abbrev journals_held : Text → List Text → Held
journals_held settings journals = record {
  rows = record { id = codes "settings"; values = settings ∷ []; count = None; source = Some CommandLine; reading = reading_of vp.String } ∷ [];
  pending = Some (codes "journals", journals);
  skip = 0;
}

-- each word after the first journal is one more journal
in_order : (settings : Text) (journals words : List Text)
    → taken check_shape (at (journals_held settings journals) true 2 true) words ≡ Some (journals_held settings (journals ++ words))
unfolding walked
in_order settings journals [] = taken_nothing check_shape _ ∙ ap (λ js. Some (journals_held settings js)) (sym (append-nil journals))
in_order settings journals (word ∷ words) =
    taken_more check_shape (at (journals_held settings journals) true 2 true) word words ∙ in_order settings (journals ++ word ∷ []) words
    ∙ ap (λ js. Some (journals_held settings js)) (append_assoc journals (word ∷ []) words)

range_fits : (n : ℕ) → 1 ≤ n → n ≤ usize_max → range_kinds 1 usize_max n ≡ []
range_fits n least most =
    let some : (n == 0) ≡ false = grind (arith, nat_tests) in
    rw (some, le-ltb n 1 least, le-ltb usize_max n most) refl

strings_pass : (vs : List Text) → values_kinds false vp.String vs ≡ []
strings_pass [] = refl
strings_pass (v ∷ vs) = strings_pass vs

settled_clean : (settings first : Text) (others : List Text) → length (first ∷ others) ≤ usize_max
    → settle_fault check_shape.rules false (journals_held settings (first ∷ others)) ≡ []
settled_clean settings first others fits = ap₂ or_else (range_fits (length (first ∷ others)) (omega arith) fits) (strings_pass (first ∷ others))

abbrev pub check_with : List Text → Option Asked
check_with (settings ∷ first ∷ others) = Some (check settings (first ∷ others))
check_with _ = None

check_operands : (vs : List Text) → length vs ≤ usize_max → operands_asked check_shape (λ rows. check_by (λ id. first_of id rows) (λ id. all_of id rows)) vs ≡ check_with vs
unfolding clap_on_literals
check_operands [] fits = refl
check_operands (a ∷ []) fits = refl
check_operands (a ∷ b ∷ vs) fits =
    let by : List Row → Option Asked = λ rows. check_by (λ id. first_of id rows) (λ id. all_of id rows) in
    ap (λ (o : Option Held). o >>= asked_at check_shape by) (in_order a (b ∷ []) vs)
    ∙ ap (λ (f : Kinds). cond (is_clean (or_else f [])) (Some (check a (b ∷ vs))) None) (settled_clean a b vs (omega (arith, fits)))

-- ---- the task that the words name

abbrev pub run_rows : List Row → Option Asked
run_rows rows = run_by (λ id. first_of id rows)

abbrev pub check_rows : List Row → Option Asked
check_rows rows = check_by (λ id. first_of id rows) (λ id. all_of id rows)

abbrev pub stats_rows : List Row → Option Asked
stats_rows rows = stats_by (λ id. first_of id rows)

abbrev pub load_rows : List Row → Option Asked
load_rows rows = load_by (λ id. first_of id rows)

pub run_words : (words : List Text) → AreTexts words → leaf_asked run_shape run_rows words ≡ (plain_words words >>= run_with)
run_words words us = leaf_operands run_shape run_alone run_rows words us ∙ same_after (plain_words words) _ _ run_operands

pub stats_words : (words : List Text) → AreTexts words → leaf_asked stats_shape stats_rows words ≡ (plain_words words >>= stats_with)
stats_words words us = leaf_operands stats_shape stats_alone stats_rows words us ∙ same_after (plain_words words) _ _ stats_operands

pub load_words : (words : List Text) → AreTexts words → leaf_asked load_shape load_rows words ≡ (plain_words words >>= load_with)
load_words words us = leaf_operands load_shape load_alone load_rows words us ∙ same_after (plain_words words) _ _ load_operands

few : (words : List Text) → IfSome (plain_words words) (λ vs. length vs ≤ length words)
few [] = omega arith
few (word ∷ words) = first (few words) (bytes_eq word (codes "--")) refl
  where
    longer : (o : Option (List Text)) → IfSome o (λ vs. length vs ≤ length words) → IfSome (option_map (λ rest. word ∷ rest) o) (λ vs. length vs ≤ length (word ∷ words))
    longer None h = tt
    longer (Some vs) h = omega (arith, h)

    second : IfSome (plain_words words) (λ vs. length vs ≤ length words) → (b : Bool) → bytes_eq word (codes "--") ≡ false → is_option word ≡ b
        → IfSome (plain_words (word ∷ words)) (λ vs. length vs ≤ length (word ∷ words))
    second again true e o = rw (e, o) tt
    second again false e o = rw (e, o) (longer (plain_words words) again)

    first : IfSome (plain_words words) (λ vs. length vs ≤ length words) → (b : Bool) → bytes_eq word (codes "--") ≡ b
        → IfSome (plain_words (word ∷ words)) (λ vs. length vs ≤ length (word ∷ words))
    first again true e = rw e (omega arith)
    first again false e = second again (is_option word) e refl

same_where : {X Y : Type 0} (o : Option X) (P : X → Type 0) (f g : X → Option Y) → IfSome o P → ((x : X) → P x → f x ≡ g x) → (o >>= f) ≡ (o >>= g)
same_where None P f g h e = refl
same_where (Some x) P f g h e = e x h

pub check_words : (words : List Text) → AreTexts words → length words ≤ usize_max → leaf_asked check_shape check_rows words ≡ (plain_words words >>= check_with)
check_words words us fits =
    leaf_operands check_shape check_alone check_rows words us
    ∙ same_where (plain_words words) (λ vs. length vs ≤ length words) _ _ (few words) (λ vs h. check_operands vs (omega (arith, h, fits)))
