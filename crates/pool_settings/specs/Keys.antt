-- The keys of a settings text: the values of each, and its setting.
use Rattle.std.specs.Prelude.{ℕ, ℤ, pos, negsuc, Bool, true, if◌then◌else◌, List, [], ◌∷◌, ◌++◌, codes, bytes_eq, unsigned_abs, Result, Ok, Err}
use Rattle.toml.specs.Data.{Data, table, Members, no_members, member}
use Rattle.pool_settings.specs.declared.settings.Settings.{Settings}
use Rattle.pool_settings.specs.ByteOrder.{in_byte_order}
use Rattle.pool_settings.specs.Faults.{Fault, unknown_key, wrong_type}
use Rattle.pool_settings.specs.Ranges.{greatest_millis}
use Rattle.pool_settings.specs.Values.{flag_in, number_in}

infixl 10 ◌>>=◌
abbrev pub ◌>>=◌ : {A B : Type 0} → Result A Fault → (A → Result B Fault) → Result B Fault
(Ok x) >>= f = f x
(Err fault) >>= f = Err fault

-- The settings after the value at a key, from those before it. The key is passed in as errors name it.
abbrev pub Setting : Type 0
Setting = List ℕ → Data → Settings → Result Settings Fault

-- a boolean, put into the settings
abbrev pub flag : (Bool → Settings → Settings) → Setting
flag put key value s = flag_in key value >>= λ b. Ok (put b s)

-- a number from `least` to `greatest`, put into the settings
abbrev pub number : ℤ → ℤ → (ℤ → Settings → Settings) → Setting
number least greatest put key value s = number_in key least greatest value >>= λ z. Ok (put z s)

-- the range of numbers of objects and tests
abbrev pub count : (ℤ → Settings → Settings) → Setting
count = number (negsuc 2147483647) (pos 2147483647)

-- the range of times that may be negative, for none
abbrev pub millis : (ℤ → Settings → Settings) → Setting
millis = number (negsuc 0) greatest_millis

-- the range of times that are never negative
abbrev pub delay : (ℤ → Settings → Settings) → Setting
delay = number (pos 0) greatest_millis

-- A row is a key and its setting.
abbrev pub Rows : Type 0
Rows = List (List ℕ × Setting)

-- The row with the key decides; a key without a row is unknown. Errors print the prefix before the key.
abbrev pub read_key : List ℕ → Rows → List ℕ → Data → Settings → Result Settings Fault
read_key prefix [] key value s = Err (unknown_key (prefix ++ key))
read_key prefix (row ∷ rows) key value s =
    if bytes_eq key row.0 then row.1 (prefix ++ row.0) value s else read_key prefix rows key value s

-- The settings after all keys, one after the other, or the first error.
abbrev pub read_keys : List ℕ → Rows → Members → Settings → Result Settings Fault
read_keys prefix rows no_members s = Ok s
read_keys prefix rows (member key value others) s = read_key prefix rows key value s >>= read_keys prefix rows others

-- all keys of a table, in the order of their bytes
abbrev pub read_table : List ℕ → Rows → Members → Settings → Result Settings Fault
read_table prefix rows members s = read_keys prefix rows (in_byte_order members) s

-- a table with its own keys
abbrev pub section : List ℕ → Rows → (Settings → Settings) → Setting
section prefix rows put key (table members) s = read_table prefix rows members (put s)
section prefix rows put key _ s = Err (wrong_type key)

abbrev pub abandoned_rows : Rows
abandoned_rows =
    (codes "removeAbandonedOnBorrow", flag (λ b s. record s { remove_abandoned_on_borrow = b }))
    ∷ (codes "removeAbandonedOnMaintenance", flag (λ b s. record s { remove_abandoned_on_maintenance = b }))
    ∷ (codes "removeAbandonedTimeoutMillis", delay (λ z s. record s { remove_abandoned_timeout_millis = z }))
    ∷ []

-- the table of abandoned objects, whose presence is a setting too
abbrev pub abandoned_table : Setting
abandoned_table = section (codes "abandoned.") abandoned_rows (λ s. record s { abandoned = true })

abbrev pub rows : Rows
rows =
    (codes "abandoned", abandoned_table)
    ∷ (codes "blockWhenExhausted", flag (λ b s. record s { block_when_exhausted = b }))
    ∷ (codes "journalLimit", number (pos 1) (pos 4294967296) (λ z s. record s { journal_limit = unsigned_abs z }))
    ∷ (codes "lifo", flag (λ b s. record s { lifo = b }))
    ∷ (codes "maxIdle", count (λ z s. record s { max_idle = z }))
    ∷ (codes "maxTotal", count (λ z s. record s { max_total = z }))
    ∷ (codes "maxWaitMillis", millis (λ z s. record s { max_wait_millis = z }))
    ∷ (codes "minEvictableIdleMillis", millis (λ z s. record s { min_evictable_idle_millis = z }))
    ∷ (codes "minIdle", number (pos 0) (pos 2147483647) (λ z s. record s { min_idle = z }))
    ∷ (codes "numTestsPerEvictionRun", count (λ z s. record s { num_tests_per_eviction_run = z }))
    ∷ (codes "softMinEvictableIdleMillis", millis (λ z s. record s { soft_min_evictable_idle_millis = z }))
    ∷ (codes "testOnBorrow", flag (λ b s. record s { test_on_borrow = b }))
    ∷ (codes "testOnCreate", flag (λ b s. record s { test_on_create = b }))
    ∷ (codes "testOnReturn", flag (λ b s. record s { test_on_return = b }))
    ∷ (codes "testWhileIdle", flag (λ b s. record s { test_while_idle = b }))
    ∷ []
