use Rattle.example_archive.proofs.main.Given as goal

abbrev pub ghosts-live : goal.ghosts-live
ghosts-live g a = record { table = a.unopened; settings = a.settings; callers = 5 }
