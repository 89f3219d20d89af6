use Rattle.test_threads.proofs.faults.pools_have_1_to_1024_callers.Given as goal

abbrev pub ghosts-opens : goal.ghosts-opens
ghosts-opens g a = record { table = a.unopened; settings = a.settings; callers = a.callers }
