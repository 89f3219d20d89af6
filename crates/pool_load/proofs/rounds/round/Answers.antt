use Rattle.pool_load.proofs.Rows.{returned_round, kept_round, full_return, short_return}
use Rattle.pool_load.proofs.rounds.round.Goals as goal

pub returns-in-Ok-give_back-clause-spec : goal.returns-in-Ok-give_back-clause-spec
returns-in-Ok-give_back-clause-spec g c = returned_round g.row.E.Denot g.B.PoolBrand.settings c.args.pool.now.number c.in-Ok.lent _ _ _ _ c.in-Ok.ensures.spec c.in-Ok-give_back.ensures.spec

pub returns-in-Err-NotLent-default-clause-spec : goal.returns-in-Err-NotLent-default-clause-spec
returns-in-Err-NotLent-default-clause-spec g c =
    kept_round g.row.E.Denot g.B.PoolBrand.settings c.args.pool.now.number c.in-Ok.lent c.in-Err-NotLent-default.field-0-1 c.in-Err-NotLent-default.field-0-0 _ _ _ c.in-Err-NotLent-default.field-0-0-is c.in-Ok.ensures.spec c.in-Err-NotLent-default.ensures.spec

pub returns-in-Err-JournalFull-default-clause-stops : goal.returns-in-Err-JournalFull-default-clause-stops
returns-in-Err-JournalFull-default-clause-stops g c =
    full_return g.row.E.Denot g.B.PoolBrand.settings c.args.pool.now.number c.in-Ok.lent c.in-Err-JournalFull-default.field-0-1 c.in-Err-JournalFull-default.field-0-0 _ _ _ c.in-Err-JournalFull-default.field-0-0-is c.in-Ok.ensures.spec c.in-Err-JournalFull-default.ensures.spec

pub returns-in-Err-OutOfMemory-default-clause-stops : goal.returns-in-Err-OutOfMemory-default-clause-stops
returns-in-Err-OutOfMemory-default-clause-stops g c =
    short_return g.row.E.Denot g.B.PoolBrand.settings c.args.pool.now.number c.in-Ok.lent c.in-Err-OutOfMemory-default.field-0-1 c.in-Err-OutOfMemory-default.field-0-0 _ _ _ c.in-Err-OutOfMemory-default.field-0-0-is c.in-Ok.ensures.spec c.in-Err-OutOfMemory-default.ensures.spec
