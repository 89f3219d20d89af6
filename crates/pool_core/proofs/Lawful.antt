-- Legal entries after a base that a pool can continue from have the safety properties, and so have legal journals. Those that name no
-- settings last where the settings change from entry to entry.
use Rattle.std.proofs.Common.{List}
use Rattle.pool_journal.specs.Base.{empty_base}
use Rattle.pool_journal.specs.declared.base.Base.{Base}
use Rattle.pool_journal.specs.declared.entry.Entry.{Entry}
use Rattle.pool_settings.specs.declared.settings.Settings.{Settings}
use Rattle.pool_core.specs.Laws.{LastingPropertiesFrom, SafetyPropertiesFrom, SafetyProperties}
use Rattle.pool_core.specs.Legal.{IsLegalBySome, IsLegalFrom, IsLegal}
use Rattle.pool_core.specs.Openable.{CanContinue, IsResumable}
use Rattle.pool_core.proofs.Counting.{at_most_max_total_from, made_below_from, nothing_lost_from}
use Rattle.pool_core.proofs.Lasting.{closed_parks_none_from, closed_base_parks_none, made_anew, made_and_gone_once_from}
use Rattle.pool_core.proofs.Legality.{legal_by_some}
use Rattle.pool_core.proofs.Lending.{lent_in_turn_from}
use Rattle.pool_core.proofs.Opening.{empty_is_openable}

pub keeps_lasting_from : (b : Base) (J : List Entry) → IsResumable b → IsLegalBySome b J → LastingPropertiesFrom b J
keeps_lasting_from b J runs legal =
    record {
      closed_parks_none = closed_parks_none_from b J runs.sound legal;
      closed_base_parks_none = closed_base_parks_none b J runs.sound legal;
      made_and_gone_once = made_and_gone_once_from b J runs.sound legal;
      made_anew = made_anew b J runs.sound legal;
      lent_in_turn = lent_in_turn_from b J runs.sound legal;
      nothing_lost = nothing_lost_from b J runs legal;
    }

pub keeps_laws_from : (S : Settings) (b : Base) (J : List Entry) → CanContinue S b → IsLegalFrom S b J → SafetyPropertiesFrom S b J
keeps_laws_from S b J runs legal =
    record {
      at_most_max_total = at_most_max_total_from S b J runs legal;
      made_below_max_total = made_below_from S b J runs.resumable.sound legal;
      lasting = keeps_lasting_from b J runs.resumable (legal_by_some S b J legal);
    }

pub keeps_laws : (S : Settings) (J : List Entry) → IsLegal S J → SafetyProperties S J
keeps_laws S J legal = keeps_laws_from S empty_base J (empty_is_openable S).runnable legal
