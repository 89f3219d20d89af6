use Rattle.test_threads.proofs.failing.each_call_of_the_factory_fails_once.Given as goal

abbrev pub ghosts-lives : goal.ghosts-lives
ghosts-lives g a = record { table = a.unopened; settings = a.settings; callers = 1 }
