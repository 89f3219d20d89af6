use Rattle.test_threads.proofs.twins.objects_go_back_to_their_own_pool.Given as goal

abbrev pub ghosts-offers-A-PoolBrand : goal.ghosts-offers-A-PoolBrand
ghosts-offers-A-PoolBrand g a = record { table = a.first; settings = a.settings; callers = 1 }

abbrev pub ghosts-offers-B-PoolBrand : goal.ghosts-offers-B-PoolBrand
ghosts-offers-B-PoolBrand g a = record { table = a.second; settings = a.settings; callers = 1 }
