use Rattle.example_bank.proofs.keep_books.Given as goal

abbrev pub ghosts-day : goal.ghosts-day
ghosts-day g a = record { table = a.unopened; settings = a.settings; callers = 5 }
