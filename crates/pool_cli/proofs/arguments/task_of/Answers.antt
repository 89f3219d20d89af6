use Rattle.std.proofs.Common.{rules, ap, refl, true, map, option_map, subst, sym, length, ◌≤◌, ℕ, List, [], ◌≡◌, ◌∙◌, inl, inr}
use Rattle.std.proofs.lemmas.Result.{IfOk-from_err, IfOk-weaker}
use Rattle.std.specs.Prelude.{string_bytes}
use Rattle.clap.specs.Lexer.{usize_max}
use Rattle.clap.specs.declared.ArgMatches.{ArgMatches}
use Rattle.clap.specs.Words.{App, HasKind, HasMatchesOf, fault_of, found_of, is_simple_and_free, rows_of, subcommand_of, subcommand_rows_of}
use Rattle.pool_cli.specs.Matches.{pool_app}
use Rattle.pool_cli.proofs.Tops.{entered_asked}
use Rattle.pool_cli.specs.Arguments as Spec
use Rattle.pool_cli.proofs.Calls.{fault_at, found_asked, matches_at, none_reported, reported}
use Rattle.pool_cli.proofs.arguments.task_of.Goals as goal

pub returns-in-Err : goal.returns-in-Err
returns-in-Err c =
    let fits : length c.args.arguments.now ≤ usize_max = search rules in
    let kinds : HasKind (fault_of pool_app (map string_bytes c.args.arguments.now)) c.in-Err.error =
    subst (λ (a : App). is_simple_and_free a ≡ true → HasKind (fault_of a (map string_bytes c.args.arguments.now)) c.in-Err.error) c.in_ok-command.ensures.0 c.in-Err.ensures.kinds refl in
    elim kinds [
      | inl none ↦ IfOk-from_err _ _ (c.refusal.ensures.known (c.kind.ensures ∙ none))
      | inr among ↦ IfOk-weaker c.refusal.result _ _ (λ task nothing. ap (option_map Spec.asked) nothing ∙ sym (fault_at c.args.arguments.now c.if-count-lt2.false fits _ among))
          c.refusal.ensures.ok
    ]

clean_at : (a : App) (words : List (List ℕ)) → a ≡ pool_app → (is_simple_and_free a ≡ true → fault_of a words ≡ []) → fault_of pool_app words ≡ []
clean_at a words e kinds = subst (λ b. is_simple_and_free b ≡ true → fault_of b words ≡ []) e kinds refl

subcommand_at : (a : App) (words : List (List ℕ)) (m : ArgMatches) → a ≡ pool_app → HasMatchesOf a words m → subcommand_rows_of m ≡ subcommand_of pool_app words
subcommand_at a words m e matches = (subst (λ b. HasMatchesOf b words m) e matches refl).1

pub returns-in-Some : goal.returns-in-Some
returns-in-Some c =
    let fits : length c.args.arguments.now ≤ usize_max = search rules in
    let clean = clean_at _ (map string_bytes c.args.arguments.now) c.in_ok-command.ensures.0 c.in-Ok.ensures.kinds in
    let matches = subcommand_at _ (map string_bytes c.args.arguments.now) c.in-Ok.matches c.in_ok-command.ensures.0 c.in-Ok.ensures.matches in
    let reported_is = reported c.in-Ok.matches c.in-Some.name.now (rows_of (found_of c.in-Some.found.now)) c.in-Some.ensures.name c.in-Some.ensures.rows in
    IfOk-weaker c.task_by.result _ _ (λ task same. same ∙ found_asked c.in-Some.found.now c.in-Some.name.now _ refl ∙ ap entered_asked (reported_is ∙ matches)
    ∙ matches_at c.args.arguments.now c.if-count-lt2.false fits clean) c.task_by.ensures

pub returns : goal.returns
returns c =
    let fits : length c.args.arguments.now ≤ usize_max = search rules in
    let clean = clean_at _ (map string_bytes c.args.arguments.now) c.in_ok-command.ensures.0 c.in-Ok.ensures.kinds in
    let matches = subcommand_at _ (map string_bytes c.args.arguments.now) c.in-Ok.matches c.in_ok-command.ensures.0 c.in-Ok.ensures.matches in
    ap entered_asked (sym (none_reported c.in-Ok.matches c.in-None.ensures.variant) ∙ matches) ∙ matches_at c.args.arguments.now c.if-count-lt2.false fits clean
