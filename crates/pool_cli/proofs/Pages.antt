-- The definitions of the task that the arguments name, from all operands at once.
use Rattle.std.proofs.Common.{◌≡◌, ◌∙◌, Bool, true, false, refl, sym, List, [], ◌∷◌, Option, None}
use Rattle.std.specs.Prelude.{codes, bytes_eq}
use Rattle.pool_cli.specs.Arguments.{Asked, Rest, Text, check_of, end, is_option, load_of, operand, operands, plain_operand, plain_words, run_of, stats_of, ◌>>=◌}
use Rattle.pool_cli.proofs.Walks.{after_map, none_after, same_after}
use Rattle.pool_cli.proofs.Leaves.{check_with, load_with, run_with, stats_with}

by_first : (f : List Text → Option Asked) → f [] ≡ None → (given : Rest) → (operands given >>= f) ≡ (operand given >>= (λ p. operands p.1 >>= (λ vs. f (p.0 ∷ vs))))
by_first f none (true, []) = none
by_first f none (false, []) = none
by_first f none (true, word ∷ words) = refl
by_first f none (false, word ∷ words) = first (bytes_eq word (codes "--")) refl
  where
    behind : (ws : List Text) → f ws ≡ (plain_operand ws >>= (λ p. operands p.1 >>= (λ vs. f (p.0 ∷ vs))))
    behind [] = none
    behind (x ∷ xs) = refl

    second : (b : Bool) → bytes_eq word (codes "--") ≡ false → is_option word ≡ b
        → (operands (false, word ∷ words) >>= f) ≡ (operand (false, word ∷ words) >>= (λ p. operands p.1 >>= (λ vs. f (p.0 ∷ vs))))
    second true e o = rw (e, o) refl
    second false e o = rw (e, o) (after_map (plain_words words) (λ rest. word ∷ rest) f)

    first : (b : Bool) → bytes_eq word (codes "--") ≡ b
        → (operands (false, word ∷ words) >>= f) ≡ (operand (false, word ∷ words) >>= (λ p. operands p.1 >>= (λ vs. f (p.0 ∷ vs))))
    first true e = rw e (behind words)
    first false e = second (is_option word) e refl

by_end : (f : List Text → Option Asked) → ((x : Text) (xs : List Text) → f (x ∷ xs) ≡ None) → (given : Rest) → (operands given >>= f) ≡ (end given >>= (λ _. f []))
by_end f more (true, []) = refl
by_end f more (false, []) = refl
by_end f more (true, word ∷ []) = more word []
by_end f more (true, word ∷ v ∷ vs) = more word (v ∷ vs)
by_end f more (false, word ∷ []) = first (bytes_eq word (codes "--")) refl
  where
    second : (b : Bool) → bytes_eq word (codes "--") ≡ false → is_option word ≡ b → (operands (false, word ∷ []) >>= f) ≡ (end (false, word ∷ []) >>= (λ _. f []))
    second true e o = rw (e, o) refl
    second false e o = rw (e, o) (more word [])

    first : (b : Bool) → bytes_eq word (codes "--") ≡ b → (operands (false, word ∷ []) >>= f) ≡ (end (false, word ∷ []) >>= (λ _. f []))
    first true e = rw e refl
    first false e = second (is_option word) e refl
by_end f more (false, word ∷ v ∷ vs) = first (bytes_eq word (codes "--")) refl
  where
    second : (b : Bool) → bytes_eq word (codes "--") ≡ false → is_option word ≡ b → (operands (false, word ∷ v ∷ vs) >>= f) ≡ None
    second true e o = rw (e, o) refl
    second false e o =
        rw (e, o) (after_map (plain_words (v ∷ vs)) (λ rest. word ∷ rest) f ∙ same_after (plain_words (v ∷ vs)) _ _ (λ rest. more word rest)
        ∙ sym (none_after (plain_words (v ∷ vs))))

    first : (b : Bool) → bytes_eq word (codes "--") ≡ b → (operands (false, word ∷ v ∷ vs) >>= f) ≡ None
    first true e = rw e (more v vs)
    first false e = second (is_option word) e refl

pub run_page : (words : List Text) → (plain_words words >>= run_with) ≡ run_of (false, words)
run_page words =
    by_first run_with refl (false, words)
    ∙ same_after (operand (false, words)) _ _ (λ s. by_first (λ vs. run_with (s.0 ∷ vs)) refl s.1
    ∙ same_after (operand s.1) _ _ (λ t. by_end (λ vs. run_with (s.0 ∷ t.0 ∷ vs)) (λ x xs. refl) t.1))

pub check_page : (words : List Text) → (plain_words words >>= check_with) ≡ check_of (false, words)
check_page words =
    by_first check_with refl (false, words) ∙ same_after (operand (false, words)) _ _ (λ s. by_first (λ vs. check_with (s.0 ∷ vs)) refl s.1)

pub stats_page : (words : List Text) → (plain_words words >>= stats_with) ≡ stats_of (false, words)
stats_page words =
    by_first stats_with refl (false, words) ∙ same_after (operand (false, words)) _ _ (λ s. by_end (λ vs. stats_with (s.0 ∷ vs)) (λ x xs. refl) s.1)

pub load_page : (words : List Text) → (plain_words words >>= load_with) ≡ load_of (false, words)
load_page words =
    by_first load_with refl (false, words)
    ∙ same_after (operand (false, words)) _ _ (λ s. by_first (λ vs. load_with (s.0 ∷ vs)) refl s.1
    ∙ same_after (operand s.1) _ _ (λ t. by_first (λ vs. load_with (s.0 ∷ t.0 ∷ vs)) refl t.1
    ∙ same_after (operand t.1) _ _ (λ u. by_end (λ vs. load_with (s.0 ∷ t.0 ∷ u.0 ∷ vs)) (λ x xs. refl) u.1)))
