use Rattle.std.proofs.Common.{◌+◌}
use Rattle.pool_load.proofs.loading.load.Given as goal

abbrev pub ghosts-load_on : goal.ghosts-load_on
ghosts-load_on g a = record { table = a.unopened; settings = a.settings; callers = a.workers + 1 }
