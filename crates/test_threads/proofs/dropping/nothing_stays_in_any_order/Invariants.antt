use Rattle.test_threads.proofs.dropping.nothing_stays_in_any_order.Given as goal

abbrev pub ghosts-drops : goal.ghosts-drops
ghosts-drops g a = record { table = a.unopened; settings = a.settings; callers = 2 }
