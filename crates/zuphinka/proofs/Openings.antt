-- A pool that was opened with options is a pool of steps.
use Rattle.std.proofs.Common.{ℕ, List, Option, Some, None, Ok, sym, ap, ◌∙◌}
use Rattle.zuphinka.specs.Calls.{Opened, Opens, OpenedWith, OpensWith}
use Rattle.zuphinka.specs.Opening.{OpenModel, core_in}
use Rattle.zuphinka.specs.declared.pool_options.PoolOptions.{PoolOptions}
use Rattle.zuphinka.specs.declared.status.Status.{Status}
use Rattle.zuphinka.specs.declared.status.Status.TheVariants.{Done, NotOpen, AlreadyOpen, OutOfMemory, JournalFull, BadRequest, NoEntry, NoRoom, NotText, NotToml, UnknownKey, WrongType, OutOfRange, NoCall, Misfit, NoWake, AtOnce}

opened_core : (text : List ℕ) (o : PoolOptions) (p : OpenModel) → OpenedWith text o p → Opened text p.hosted.core
opened_core text o p is = record {
  settings = is.read ∙ ap Ok (sym is.hosted.settings);
  base = is.hosted.base;
  journal = is.hosted.journal;
  places = is.hosted.places;
}

pub opens_core : (text : List ℕ) (o : PoolOptions) (old new : Option OpenModel) (s : Status) → OpensWith text o old new s → Opens text (core_in old) (core_in new) s
opens_core text o (Some p) new s is = (is.0, ap core_in is.1)
opens_core text o None None Done is = absurd is
opens_core text o None (Some p) Done is = opened_core text o p is
opens_core text o None new NotOpen is = (is.0, ap core_in is.1)
opens_core text o None new AlreadyOpen is = (is.0, ap core_in is.1)
opens_core text o None new OutOfMemory is = (is.0, ap core_in is.1)
opens_core text o None new JournalFull is = (is.0, ap core_in is.1)
opens_core text o None new BadRequest is = (is.0, ap core_in is.1)
opens_core text o None new NoEntry is = (is.0, ap core_in is.1)
opens_core text o None new NoRoom is = (is.0, ap core_in is.1)
opens_core text o None new NotText is = (is.0, ap core_in is.1)
opens_core text o None new NotToml is = (is.0, ap core_in is.1)
opens_core text o None new UnknownKey is = (is.0, ap core_in is.1)
opens_core text o None new WrongType is = (is.0, ap core_in is.1)
opens_core text o None new OutOfRange is = (is.0, ap core_in is.1)
opens_core text o None new NoCall is = (is.0, ap core_in is.1)
opens_core text o None new Misfit is = (is.0, ap core_in is.1)
opens_core text o None new NoWake is = (is.0, ap core_in is.1)
opens_core text o None new AtOnce is = (is.0, ap core_in is.1)
