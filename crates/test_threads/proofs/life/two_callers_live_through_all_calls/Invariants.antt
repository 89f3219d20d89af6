use Rattle.test_threads.proofs.life.two_callers_live_through_all_calls.Given as goal

abbrev pub ghosts-lives : goal.ghosts-lives
ghosts-lives g a = record { table = a.unopened; settings = a.settings; callers = 2 }
