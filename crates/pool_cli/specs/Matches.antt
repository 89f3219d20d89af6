-- The program's command as clap receives it, and the task that its matches name.
use Rattle.std.specs.Prelude.{◌^◌, ◌≡◌, false, true, List, codes, bytes_eq, Option, None, Some, option_map, Result, IfOk, if◌then◌else◌}
use Rattle.std.specs.declared.alloc.AllocError.{AllocError}
use Rattle.clap.specs.Lexer.{usize_max}
use Rattle.clap.specs.Walk.{Rule, Text}
use Rattle.clap.specs.Matches.{found_of, matched_of, raw_values}
use Rattle.clap.specs.declared.ArgMatches.{ArgMatches}
use Rattle.clap.specs.declared.Command.{Command}
use Rattle.clap.specs.declared.Command.TheViews.{out-Command as fields_of}
use Rattle.clap.specs.Simple.{App, app_of, new_app, new_rule, on_top, with_rule, with_subcommand}
use Rattle.pool_cli.specs.Arguments.{Asked, check, load, number_below, run, stats, ◌>>=◌}

abbrev pub operand_rule : Text → Rule
operand_rule id = record (new_rule id) { required = true }

-- an operand that takes all remaining words
abbrev pub last_rule : Text → Rule
last_rule id = record (new_rule id) { required = true; range = Some (record { start_inclusive = 1; end_inclusive = usize_max }) }

abbrev pub run_app : App
run_app = with_rule (with_rule (new_app (codes "run")) (operand_rule (codes "settings"))) (operand_rule (codes "script"))

abbrev pub check_app : App
check_app = with_rule (with_rule (new_app (codes "check")) (operand_rule (codes "settings"))) (last_rule (codes "journals"))

abbrev pub stats_app : App
stats_app = with_rule (new_app (codes "stats")) (operand_rule (codes "journal"))

abbrev pub load_app : App
load_app =
    with_rule (with_rule (with_rule (new_app (codes "load")) (operand_rule (codes "settings"))) (operand_rule (codes "workers"))) (operand_rule (codes "rounds"))

abbrev pub pool_app : App
pool_app =
    with_subcommand (with_subcommand (with_subcommand (with_subcommand
    (on_top (λ shape. record shape { subcommand_required = true }) (new_app (codes "pool")))
    run_app.top) check_app.top) stats_app.top) load_app.top

-- a command that has this application and no argument for all subcommands, unless memory was short
abbrev pub Builds : App → Result Command AllocError → Type 0
Builds app built = IfOk built (λ command. (app_of command ≡ app) × ((fields_of command).has_globals ≡ false))

-- the values of an argument
abbrev pub all_values : ArgMatches → Text → Option (List Text)
all_values matches id = option_map raw_values (matched_of (found_of matches) id)

-- the task that the matches of a command name, from the first value and from all values of each argument
abbrev pub run_by : (Text → Option Text) → Option Asked
run_by first = do
  settings ← first (codes "settings")
  script ← first (codes "script")
  Some (run settings script)

abbrev pub check_by : (Text → Option Text) → (Text → Option (List Text)) → Option Asked
check_by first all = do
  settings ← first (codes "settings")
  journals ← all (codes "journals")
  Some (check settings journals)

abbrev pub stats_by : (Text → Option Text) → Option Asked
stats_by first = do
  journal ← first (codes "journal")
  Some (stats journal)

abbrev pub load_by : (Text → Option Text) → Option Asked
load_by first = do
  settings ← first (codes "settings")
  workers ← first (codes "workers")
  rounds ← first (codes "rounds")
  count ← number_below (2 ^ 32) workers
  number ← number_below (2 ^ 64) rounds
  Some (load settings count number)

abbrev pub task_by : Text → (Text → Option Text) → (Text → Option (List Text)) → Option Asked
task_by name first all =
    if bytes_eq name (codes "run") then run_by first
    else if bytes_eq name (codes "check") then check_by first all
    else if bytes_eq name (codes "stats") then stats_by first
    else if bytes_eq name (codes "load") then load_by first
    else None
