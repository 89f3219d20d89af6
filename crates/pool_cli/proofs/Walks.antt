-- How clap's walk reads the words after a command that has only operands.
use Rattle.std.proofs.Common.{◌≡◌, ◌∙◌, ◌&&◌, ◌||◌, ℕ, Bool, cond, true, false, refl, sym, ap, ap₂, List, [], ◌∷◌, Option, Some, None, inl, inr}
use Rattle.std.specs.Prelude.{IfSome, codes, option_map}
use Rattle.std.specs.List.{fold}
use Rattle.std.specs.Str.{IsUtf8, bytes_eq}
use Rattle.clap.specs.Walk.{Held, Names, Rule, Waiting, Walk, arg_by_index, arg_by_long, arg_by_short, idle, Step, after_step, is_multiple, is_pending, next_position, positional, positional_held, settled, subcommand_met, takes_several, to_positional, value, walked, word_met}
use Rattle.clap.specs.Simple.{Shape}
use Rattle.std.specs.Option.{option_map_or}
use Rattle.std.proofs.lemmas.Slice.Eq.{bytes_eq-Decides}
use Rattle.clap.specs.declared.error.ErrorKind.TheVariants as kind
use Rattle.clap.specs.Kinds.{Kinds, or_else}
use Rattle.clap.specs.Faults.{flags_fault, long_fault, positional_fault, short_fault, stray_fault, step_fault, turn_fault, walk_fault, word_fault}
use Rattle.pool_cli.specs.Arguments.{Text, is_option, plain_words, ◌>>=◌}
use Rattle.pool_cli.proofs.Words.{option_word, plain_word}

-- each of them is UTF-8
abbrev pub AreTexts : List Text → Type 0
AreTexts [] = Unit {0}
AreTexts (word ∷ words) = IsUtf8 word × AreTexts words

-- no kind of error
abbrev pub is_clean : Kinds → Bool
is_clean [] = true
is_clean (k ∷ ks) = false

pub clean-or_else : (a b : Kinds) → is_clean (or_else a b) ≡ (is_clean a && is_clean b)
clean-or_else [] b = refl
clean-or_else (k ∷ ks) b = refl

pub pick : {X : Type 0} (a b : Bool) (x : Option X) → cond (a && b) x None ≡ cond a (cond b x None) None
pick true b x = refl
pick false b x = refl

-- the values after the words, if the walk accepts them
abbrev pub taken : Shape → Walk → List Text → Option Held
taken s w words = cond (is_clean (walk_fault s [] w words)) (Some (fold (walked s.rules []) w words).held) None

pub taken_more : (s : Shape) (w : Walk) (word : Text) (words : List Text)
    → taken s w (word ∷ words) ≡ cond (is_clean (turn_fault s [] w word)) (taken s (walked s.rules [] w word) words) None
unfolding walk_fault
taken_more s w word words =
    ap (λ b. cond b (Some (fold (walked s.rules []) (walked s.rules [] w word) words).held) None)
    (clean-or_else (turn_fault s [] w word) (walk_fault s [] (walked s.rules [] w word) words))
    ∙ pick (is_clean (turn_fault s [] w word)) (is_clean (walk_fault s [] (walked s.rules [] w word) words)) _

-- the state of a walk over operands
abbrev pub at : Held → Bool → ℕ → Bool → Walk
at h several position trailing = record { held = h; waiting = cond several positional idle; position = position; is_trailing = trailing; stopped = None }

-- each option is an error, and no operand takes all words after it unread
pub record HasOperandsAlone (s : Shape) : Type 0 where
  pub long : (name : Text) (v : Option Text) (h : Held) → is_clean (long_fault s.rules s.args_override_self (arg_by_long s.rules name) v h) ≡ false
  pub short : (x : ℕ) (rest : Text) (h : Held) (next : Held → Kinds)
      → is_clean (short_fault s.rules s.args_override_self (arg_by_short s.rules x) rest h next) ≡ false
  pub plain : (i : ℕ) → IfSome (arg_by_index s.rules i) (λ a. a.trailing_var_arg ≡ false)

-- ---- one word

no_subcommand : (several : Bool) (word : Text) → subcommand_met [] (cond several positional idle) word ≡ None
no_subcommand true word = refl
no_subcommand false word = refl

-- `--`
dashes_clean : (s : Shape) (h : Held) (several : Bool) (p : ℕ) → turn_fault s [] (at h several p false) (codes "--") ≡ []
dashes_clean s h true p = refl
dashes_clean s h false p = refl

dashes_walked : (s : Shape) (h : Held) (several : Bool) (p : ℕ) → walked s.rules [] (at h several p false) (codes "--") ≡ at h several p true
unfolding walked
dashes_walked s h true p = refl
dashes_walked s h false p = refl

-- an option
pub option_refused : (s : Shape) → HasOperandsAlone s → (names : Names) (waiting : Waiting) (h : Held) (word : Text) → IsUtf8 word → h.skip ≡ 0
    → subcommand_met names waiting word ≡ None → bytes_eq word (codes "--") ≡ false → is_option word ≡ true → is_clean (word_fault s names false waiting word h) ≡ false
unfolding flags_fault
option_refused s alone names waiting h word u none no_sub no_dashes o = elim (option_word word u no_dashes o) [
  | inl l ↦ rw (no_sub, no_dashes, l.is) (alone.long l.name l.given h)
  | inr l ↦ rw (no_sub, no_dashes, l.no_long, l.is, none, l.char) (alone.short l.first _ _ _)
]

-- an operand
operand_met : (s : Shape) (h : Held) (several : Bool) (p : ℕ) (word : Text) → bytes_eq word (codes "--") ≡ false → is_option word ≡ false
    → word_met s.rules [] false (cond several positional idle) p word h ≡ (h, value)
operand_met s h true p word no_dashes o = let forms = plain_word word o in rw (no_dashes, forms.0, forms.1) refl
operand_met s h false p word no_dashes o = let forms = plain_word word o in rw (no_dashes, forms.0, forms.1) refl

operand_faults : (s : Shape) (h : Held) (several : Bool) (p : ℕ) (word : Text) → bytes_eq word (codes "--") ≡ false → is_option word ≡ false
    → turn_fault s [] (at h several p false) word ≡ step_fault s p h value
operand_faults s h true p word no_dashes o = let forms = plain_word word o in rw (no_dashes, forms.0, forms.1) refl
operand_faults s h false p word no_dashes o = let forms = plain_word word o in rw (no_dashes, forms.0, forms.1) refl

operand_walked : (s : Shape) (h : Held) (several : Bool) (p : ℕ) (word : Text) → bytes_eq word (codes "--") ≡ false → is_option word ≡ false
    → walked s.rules [] (at h several p false) word ≡ to_positional s.rules (arg_by_index s.rules p) word (at h several p false) h
unfolding walked
operand_walked s h several p word no_dashes o =
    ap (λ (met : Held × Step). after_step s.rules word (at h several p false) met.0 met.1) (operand_met s h several p word no_dashes o)

-- ---- the words of a command that has only operands: every word except the first `--` is an operand

skip_kept : (c : List Rule) (a : Rule) (word : Text) (h : Held) → h.skip ≡ 0 → (positional_held c a word h).skip ≡ 0
skip_kept c a word h none = go (is_pending a h.pending && takes_several a)
  where
    go : (b : Bool) → (cond b h (settled c h)).skip ≡ 0
    go true = none
    go false = none

later : {X Y : Type 0} (b : Bool) (o : Option X) (f : X → Option Y) → cond b (o >>= f) None ≡ (o >>= (λ x. cond b (f x) None))
later true o f = refl
later false None f = refl
later false (Some x) f = refl

pub same_after : {X Y : Type 0} (o : Option X) (f g : X → Option Y) → ((x : X) → f x ≡ g x) → (o >>= f) ≡ (o >>= g)
same_after None f g e = refl
same_after (Some x) f g e = e x

pub after_map : {X Y Z : Type 0} (o : Option X) (k : X → Y) (f : Y → Option Z) → (option_map k o >>= f) ≡ (o >>= (λ x. f (k x)))
after_map None k f = refl
after_map (Some x) k f = refl

pub and_false : (a b : Bool) → a ≡ false → (a && b) ≡ false
and_false a b e = ap (λ c. c && b) e

pub taken_nothing : (s : Shape) (w : Walk) → taken s w [] ≡ Some w.held
unfolding walk_fault
taken_nothing s w = refl

stray_refused : (b : Bool) → is_clean (cond b (kind.UnknownArgument ∷ []) (kind.UnknownArgument ∷ kind.InvalidSubcommand ∷ [])) ≡ false
stray_refused true = refl
stray_refused false = refl

-- a word goes to this positional
abbrev stepped : Shape → Walk → Held → Text → List Text → Option Rule → Option Held
stepped s w h word words found =
    cond (is_clean (option_map_or (λ a. positional_fault s.rules s.args_override_self a h) found (stray_fault s))) (taken s (to_positional s.rules found word w h) words)
    None

abbrev stepped_on : Shape → Held → ℕ → Bool → Text → List Text → Option Rule → Option Held
stepped_on s h p t word words None = None
stepped_on s h p t word words (Some a) =
    cond (is_clean (positional_fault s.rules s.args_override_self a h))
    (taken s (at (positional_held s.rules a word h) (is_multiple a) (next_position a p) t) words) None

stepped_where : (s : Shape) (h : Held) (several : Bool) (p : ℕ) (t : Bool) (word : Text) (words : List Text) (found : Option Rule)
    → IfSome found (λ a. (t || a.trailing_var_arg) ≡ t) → stepped s (at h several p t) h word words found ≡ stepped_on s h p t word words found
stepped_where s h several p t word words None fact = rw (stray_refused s.is_leaf) refl
stepped_where s h several p t word words (Some a) fact =
    ap (λ b. cond (is_clean (positional_fault s.rules s.args_override_self a h))
    (taken s (at (positional_held s.rules a word h) (is_multiple a) (next_position a p) b) words) None) fact

or_true : (found : Option Rule) → IfSome found (λ a. (true || a.trailing_var_arg) ≡ true)
or_true None = tt
or_true (Some a) = refl

-- an operand after `--`, and one before it
trailing_operand : (s : Shape) (h : Held) (several : Bool) (p : ℕ) (word : Text) (words : List Text)
    → taken s (at h several p true) (word ∷ words) ≡ stepped_on s h p true word words (arg_by_index s.rules p)
unfolding walked
trailing_operand s h several p word words =
    taken_more s (at h several p true) word words ∙ stepped_where s h several p true word words (arg_by_index s.rules p) (or_true (arg_by_index s.rules p))

early_operand : (s : Shape) → HasOperandsAlone s → (h : Held) (several : Bool) (p : ℕ) (word : Text) (words : List Text) → bytes_eq word (codes "--") ≡ false
    → is_option word ≡ false → taken s (at h several p false) (word ∷ words) ≡ stepped_on s h p false word words (arg_by_index s.rules p)
early_operand s alone h several p word words no_dashes o =
    taken_more s (at h several p false) word words
    ∙ ap₂ (λ (f : Kinds) (v : Walk). cond (is_clean f) (taken s v words) None) (operand_faults s h several p word no_dashes o)
    (operand_walked s h several p word no_dashes o)
    ∙ stepped_where s h several p false word words (arg_by_index s.rules p) (alone.plain p)

pub none_after : {X Y : Type 0} (o : Option X) → ◌≡◌ {A = Option Y} None (o >>= (λ x. None))
none_after None = refl
none_after (Some x) = refl

pub taken_plainly : (s : Shape) → HasOperandsAlone s → (words : List Text) → AreTexts words → (h : Held) → h.skip ≡ 0 → (several : Bool) (p : ℕ)
    → taken s (at h several p false) words ≡ (plain_words words >>= (λ vs. taken s (at h several p true) vs))
taken_plainly s alone [] us h none several p = taken_nothing s (at h several p false) ∙ sym (taken_nothing s (at h several p true))
taken_plainly s alone (word ∷ words) us h none several p = first (λ k e b q. taken_plainly s alone words us.1 k e b q) (bytes_eq word (codes "--")) refl
  where
    Again : Type 0
    Again = (k : Held) → k.skip ≡ 0 → (b : Bool) (q : ℕ) → taken s (at k b q false) words ≡ (plain_words words >>= (λ vs. taken s (at k b q true) vs))

    by_place : Again → (found : Option Rule) → stepped_on s h p false word words found ≡ (plain_words words >>= (λ vs. stepped_on s h p true word vs found))
    by_place again None = none_after (plain_words words)
    by_place again (Some a) =
        ap (λ o. cond (is_clean (positional_fault s.rules s.args_override_self a h)) o None)
        (again (positional_held s.rules a word h) (skip_kept s.rules a word h none) (is_multiple a) (next_position a p))
        ∙ later (is_clean (positional_fault s.rules s.args_override_self a h)) (plain_words words) _

    second : Again → (b : Bool) → bytes_eq word (codes "--") ≡ false → is_option word ≡ b
        → taken s (at h several p false) (word ∷ words) ≡ (plain_words (word ∷ words) >>= (λ vs. taken s (at h several p true) vs))
    second again true no_dashes o =
        let refused : is_clean (turn_fault s [] (at h several p false) word) ≡ false =
        clean-or_else _ _ ∙ and_false _ _ (option_refused s alone [] (cond several positional idle) h word us.0 none (no_subcommand several word) no_dashes o) in
        let nothing : (plain_words (word ∷ words) >>= (λ vs. taken s (at h several p true) vs)) ≡ None = rw (no_dashes, o) refl in
        taken_more s (at h several p false) word words ∙ ap (λ b. cond b (taken s (walked s.rules [] (at h several p false) word) words) None) refused ∙ sym nothing
    second again false no_dashes o =
        let more : (plain_words (word ∷ words) >>= (λ vs. taken s (at h several p true) vs))
        ≡ (option_map (λ rest. word ∷ rest) (plain_words words) >>= (λ vs. taken s (at h several p true) vs)) = rw (no_dashes, o) refl in
        early_operand s alone h several p word words no_dashes o ∙ by_place again (arg_by_index s.rules p)
        ∙ same_after (plain_words words) _ _ (λ vs. sym (trailing_operand s h several p word vs))
        ∙ sym (after_map (plain_words words) (λ rest. word ∷ rest) (λ vs. taken s (at h several p true) vs)) ∙ sym more

    first : Again → (b : Bool) → bytes_eq word (codes "--") ≡ b
        → taken s (at h several p false) (word ∷ words) ≡ (plain_words (word ∷ words) >>= (λ vs. taken s (at h several p true) vs))
    first again true e =
        let rest : (plain_words (word ∷ words) >>= (λ vs. taken s (at h several p true) vs)) ≡ taken s (at h several p true) words = rw e refl in
        taken_more s (at h several p false) word words
        ∙ ap (λ (x : Text). cond (is_clean (turn_fault s [] (at h several p false) x)) (taken s (walked s.rules [] (at h several p false) x) words) None)
        ((bytes_eq-Decides word (codes "--")).0 e)
        ∙ ap₂ (λ (f : Kinds) (v : Walk). cond (is_clean f) (taken s v words) None) (dashes_clean s h several p) (dashes_walked s h several p)
        ∙ sym rest
    first again false e = second again (is_option word) e refl
