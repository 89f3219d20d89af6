use Rattle.std.proofs.Common.{ap, codes, false, true, ◌≡◌, ◌∙◌}
use Rattle.clap.specs.Words.{App, app_of}
use Rattle.clap.specs.Simple.{app_of_fields, new_app, on_top}
use Rattle.clap.specs.declared.Command.TheViews.{out-Command as fields_of}
use Rattle.pool_cli.proofs.arguments.pool_command.Goals as goal

pub returns : goal.returns
returns c =
    let alone : app_of c.subcommand_required.result ≡ on_top (λ shape. record shape { subcommand_required = true }) (new_app (codes "pool")) =
    ap app_of_fields c.subcommand_required.ensures ∙ ap (λ (a : App). on_top (λ shape. record shape { subcommand_required = true }) a) c.new.ensures.app in
    let local : (fields_of c.subcommand_required.result).has_globals ≡ false = ap (λ f. f.has_globals) c.subcommand_required.ensures ∙ c.new.ensures.local in
    let run = c.with_subcommand-command.ensures _ _ (alone, local) c.run_command.ensures in
    let check = c.with_subcommand-command-2.ensures _ _ run c.check_command.ensures in
    let stats = c.with_subcommand-command-3.ensures _ _ check c.stats_command.ensures in
    c.with_subcommand.ensures _ _ stats c.load_command.ensures
