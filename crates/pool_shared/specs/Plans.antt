-- What the rules of the calls have to know of a shared pool.
use Rattle.std.specs.Prelude.{true}
use Rattle.pool_settings.specs.declared.settings.Settings.{Settings}
use Rattle.pool_calls.specs.declared.hook_plan.HookPlan.{HookPlan}

-- the tests that the settings say, for a factory that activates, validates and passivates
abbrev pub plan_of : Settings → HookPlan
plan_of s =
    record {
      remove_abandoned_on_borrow = s.remove_abandoned_on_borrow;
      test_on_create = s.test_on_create;
      test_on_borrow = s.test_on_borrow;
      test_on_return = s.test_on_return;
      activates = true;
      passivates = true;
    }
