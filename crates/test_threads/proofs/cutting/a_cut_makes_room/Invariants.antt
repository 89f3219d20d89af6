use Rattle.test_threads.proofs.cutting.a_cut_makes_room.Given as goal

abbrev pub ghosts-one_caller_cuts : goal.ghosts-one_caller_cuts
ghosts-one_caller_cuts g a = record { table = a.unopened; settings = a.settings; callers = 1 }
