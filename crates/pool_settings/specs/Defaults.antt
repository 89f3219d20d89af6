-- The default settings.
use Rattle.std.specs.Prelude.{true, false, pos, negsuc}
use Rattle.pool_settings.specs.declared.settings.Settings.{Settings}

abbrev pub defaults : Settings
defaults =
    record {
      abandoned = false;
      block_when_exhausted = true;
      journal_limit = 1000000;
      lifo = true;
      max_idle = pos 8;
      max_total = pos 8;
      max_wait_millis = negsuc 0;
      min_evictable_idle_millis = pos 1800000;
      min_idle = pos 0;
      num_tests_per_eviction_run = pos 3;
      remove_abandoned_on_borrow = false;
      remove_abandoned_on_maintenance = false;
      remove_abandoned_timeout_millis = pos 300000;
      soft_min_evictable_idle_millis = negsuc 0;
      test_on_borrow = false;
      test_on_create = false;
      test_on_return = false;
      test_while_idle = false;
    }
