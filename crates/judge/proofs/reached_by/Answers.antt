use Rattle.pool_journal.proofs.Reached.{reach_is_sound}
use Rattle.judge.proofs.reached_by.Goals as goal

-- the base is what entries lead to, so that its records are those of objects that are present
pub print_base-requires : goal.print_base-requires
print_base-requires c =
    let judged = c.in_ok-judged.ensures.judged.comes in
    rw judged.comes_to (reach_is_sound c.in_ok-judged.judged.from c.in_ok-judged.ensures.judged.entries judged.sound).all_present
