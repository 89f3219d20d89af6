use Rattle.test_threads.proofs.solo.tries.Given as goal

abbrev pub ghosts-lives : goal.ghosts-lives
ghosts-lives g a = record { table = a.unopened; settings = a.settings; callers = 1 }
