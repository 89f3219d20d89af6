use Rattle.std.proofs.Common.{◌≡◌, ◌++◌, [], ◌∷◌, ap, ◌∙◌, codes}
use Rattle.std.specs.Prelude.{decimal}
use Rattle.pool_journal.specs.Text.{answer_words, line_feed}
use Rattle.pool_journal.specs.Appending.{spaced}
use Rattle.pool_engines.specs.Check.{illegal_line, illegal_base_line}
use Rattle.pool_engines.proofs.Verdicts.{text_of-parts, text_of-two, on_ok}
use Rattle.pool_engines.proofs.verdict.Verdict.push_words.Goals as goal

pub returns-in_ok-push_number_word-in-Illegal : goal.returns-in_ok-push_number_word-in-Illegal
returns-in_ok-push_number_word-in-Illegal c =
    let before = c.args.line.now.items in
    let number = decimal c.args.count in
    let words = answer_words c.in-Illegal.due in
    let middle = c.push_number_word-in-Illegal.new.out.items in
    let after = c.push_answer.new.out.items in
    rw c.in-Illegal.is (on_ok c.push_answer.result (after ≡ middle ++ spaced words) (after ++ line_feed ∷ [] ≡ before ++ illegal_line c.args.count c.in-Illegal.due)
    (λ (e : after ≡ middle ++ spaced words).
    ap (λ l. l ++ line_feed ∷ []) (e ∙ ap (λ l. l ++ spaced words) (c.in_ok-push_number_word-in-Illegal.ensures.ok ∙ ap (λ l. l ++ spaced (number ∷ [])) c.in_ok-extend_from_slice-in-Illegal.ensures.items))
    ∙ text_of-parts before (codes "illegal") number words)
    c.push_answer.ensures.ok)

pub returns-in_ok-extend_from_slice-in-IllegalBase : goal.returns-in_ok-extend_from_slice-in-IllegalBase
returns-in_ok-extend_from_slice-in-IllegalBase c =
    let before = c.args.line.now.items in
    let number = decimal c.in-IllegalBase.file in
    let middle = c.extend_from_slice-in-IllegalBase.new.self.items in
    let after = c.push_number_word-in-IllegalBase.new.out.items in
    rw c.in-IllegalBase.is (on_ok c.push_number_word-in-IllegalBase.result (after ≡ middle ++ spaced (number ∷ [])) (after ++ line_feed ∷ [] ≡ before ++ illegal_base_line c.in-IllegalBase.file)
    (λ (e : after ≡ middle ++ spaced (number ∷ [])).
    ap (λ l. l ++ line_feed ∷ []) (e ∙ ap (λ l. l ++ spaced (number ∷ [])) c.in_ok-extend_from_slice-in-IllegalBase.ensures.items)
    ∙ text_of-two before (codes "illegal base") number)
    c.push_number_word-in-IllegalBase.ensures.ok)
