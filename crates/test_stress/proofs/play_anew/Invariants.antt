use Rattle.test_stress.proofs.play_anew.Given as goal

abbrev pub ghosts-play : goal.ghosts-play
ghosts-play g a = record { table = a.unopened; settings = a.round.now.settings; callers = 4 }
