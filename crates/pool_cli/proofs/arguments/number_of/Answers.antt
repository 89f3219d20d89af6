use Rattle.std.proofs.Common.{sym, ◌∙◌}
use Rattle.pool_cli.proofs.Decimals.{number_parsed}
use Rattle.pool_cli.proofs.arguments.number_of.Goals as goal

pub returns-then-is_decimal : goal.returns-then-is_decimal
returns-then-is_decimal c =
    c.ok.ensures.value ∙ number_parsed c.args.word.now c.parse.result (sym (rw c.as_bytes.ensures.value at c.is_decimal.ensures) ∙ c.if-is_decimal.true) c.parse.ensures.value.0
