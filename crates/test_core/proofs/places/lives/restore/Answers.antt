use Rattle.test_core.proofs.places.lives.restore.Goals as goal

pub restore-requires-clause-position : goal.restore-requires-clause-position
restore-requires-clause-position c queued = c.requires.position queued
