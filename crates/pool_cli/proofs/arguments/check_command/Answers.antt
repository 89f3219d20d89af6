use Rattle.std.proofs.Common.{ap, ap₂, codes, false, Option, Some, None, ◌≡◌, ◌∙◌}
use Rattle.std.specs.Prelude.{IsSomeAnd}
use Rattle.clap.specs.Lexer.{usize_max}
use Rattle.clap.specs.Words.{Rule, rule_of}
use Rattle.clap.specs.declared.Arg.{Arg}
use Rattle.clap.specs.declared.builder.ValueRange.{ValueRange}
use Rattle.pool_cli.specs.Matches.{last_rule}
use Rattle.pool_cli.proofs.arguments.check_command.Goals as goal

some_that : (o : Option ValueRange) (v : ValueRange) → IsSomeAnd o (λ r. r ≡ v) → o ≡ Some v
some_that None v h = absurd h
some_that (Some x) v h = ap (λ r. Some r) h

pub returns : goal.returns
returns c =
    let several : c.num_args.result.num_vals ≡ Some (record { start_inclusive = 1; end_inclusive = usize_max }) = some_that _ _ c.num_args.ensures.1 in
    let journals : rule_of c.num_args.result ≡ last_rule (codes "journals") = ap rule_of c.num_args.ensures.0 ∙ ap₂ (λ (r : Rule) (n : Option ValueRange). record r { range = n }) c.operand-2.ensures.rule several in
    let local : c.num_args.result.global ≡ false = ap (λ (a : Arg). a.global) c.num_args.ensures.0 ∙ c.operand-2.ensures.local in
    c.with_argument.ensures _ _ journals local (c.with_argument-command.ensures _ _ c.operand.ensures.rule c.operand.ensures.local (c.new.ensures.app, c.new.ensures.local))
