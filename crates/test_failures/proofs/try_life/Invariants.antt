use Rattle.test_failures.proofs.try_life.Given as goal

abbrev pub ghosts-live : goal.ghosts-live
ghosts-live g a = record { table = a.unopened; settings = a.settings; callers = 1 }
