use Rattle.test_threads.proofs.dropping.nothing_stays_of_a_finished_pool.Given as goal

abbrev pub ghosts-finishes : goal.ghosts-finishes
ghosts-finishes g a = record { table = a.unopened; settings = a.settings; callers = 1 }
