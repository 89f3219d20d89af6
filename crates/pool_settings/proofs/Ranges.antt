-- The settings of a text are in their ranges.
use Rattle.std.proofs.Common.{◌≡◌, ℕ, ℤ, pos, negsuc, Bool, true, ◌&&◌, List, [], ◌∷◌, Result, Ok, Err, refl, subst, arith, rules, codes, int_le, unsigned_abs, bytes_eq, inl, inr}
use Rattle.std.proofs.lemmas.Bool.{cases_Bool, and_parts}
use Rattle.std.proofs.lemmas.Grind.{common_steps}
use Rattle.std.specs.Bool.{⊤}
use Rattle.toml.specs.Data.{Data, string, integer, float, boolean, datetime, array, table, Members, no_members, member}
use Rattle.pool_settings.specs.declared.settings.Settings.{Settings}
use Rattle.pool_settings.specs.Answer.{settings_of}
use Rattle.pool_settings.specs.ByteOrder.{in_byte_order}
use Rattle.pool_settings.specs.Defaults.{defaults}
use Rattle.pool_settings.specs.Faults.{Fault}
use Rattle.pool_settings.specs.Keys.{◌>>=◌, Setting, Rows, flag, number, count, section, read_key, read_keys, abandoned_rows, abandoned_table, rows}
use Rattle.pool_settings.specs.Ranges.{IsInRange, greatest_millis, IsBetween}
use Rattle.pool_settings.specs.Values.{flag_in, number_in}

-- a setting leads from settings in their ranges to settings in their ranges
abbrev KeepsInRange : Setting → Type 0
KeepsInRange f = (key : List ℕ) (value : Data) (s t : Settings) → IsInRange s → f key value s ≡ Ok t → IsInRange t

abbrev AllKeepInRange : Rows → Type 0
AllKeepInRange [] = ⊤
AllKeepInRange (row ∷ rows) = KeepsInRange row.1 × AllKeepInRange rows

after_ok : {A B : Type 0} (r : Result A Fault) (f : A → Result B Fault) (y : B) → r >>= f ≡ Ok y
    → (x : A) × (r ≡ Ok x) × (f x ≡ Ok y)
after_ok (Ok x) f y e = (x, refl, e)
after_ok (Err fault) f y e = cc

inside : {A : Type 0} (x y : A) → ◌≡◌ {A = Result A Fault} (Ok x) (Ok y) → x ≡ y
inside x y e = cc

flag_keeps : (put : Bool → Settings → Settings) → ((b : Bool) (s : Settings) → IsInRange s → IsInRange (put b s)) → KeepsInRange (flag put)
flag_keeps put h key value s t r e =
    let (b, found, made) = after_ok (flag_in key value) (λ b. Ok (put b s)) t e in
    subst IsInRange (inside _ _ made) (h b s r)

number_within : (key : List ℕ) (least greatest z : ℤ) (value : Data) → number_in key least greatest value ≡ Ok z
    → IsBetween least greatest z
number_within key least greatest z (integer x) e =
    elim (cases_Bool (int_le least x && int_le x greatest)) [
      | inl within ↦
          let same : x ≡ z = inside _ _ (rw within at e) in
          let (low, high) = and_parts (int_le least x) (int_le x greatest) within in
          rw (← same) (grind (arith, common_steps), grind (arith, common_steps))
      | inr out ↦ let wrong = rw out at e in cc
    ]
number_within key least greatest z (string x) e = cc
number_within key least greatest z (float x) e = cc
number_within key least greatest z (boolean x) e = cc
number_within key least greatest z (datetime x) e = cc
number_within key least greatest z (array x) e = cc
number_within key least greatest z (table x) e = cc

number_keeps : (least greatest : ℤ) (put : ℤ → Settings → Settings)
    → ((z : ℤ) (s : Settings) → IsBetween least greatest z → IsInRange s → IsInRange (put z s)) → KeepsInRange (number least greatest put)
number_keeps least greatest put h key value s t r e =
    let (z, found, made) = after_ok (number_in key least greatest value) (λ z. Ok (put z s)) t e in
    subst IsInRange (inside _ _ made) (h z s (number_within key least greatest z value found) r)

count_keeps : (put : ℤ → Settings → Settings) → ((z : ℤ) (s : Settings) → IsInRange s → IsInRange (put z s)) → KeepsInRange (count put)
count_keeps put h = number_keeps (negsuc 2147483647) (pos 2147483647) put (λ z s within. h z s)

read_key_keeps : (prefix : List ℕ) (rs : Rows) → AllKeepInRange rs → KeepsInRange (read_key prefix rs)
read_key_keeps prefix [] all key value s t r e = cc
read_key_keeps prefix (row ∷ rs) all key value s t r e =
    elim (cases_Bool (bytes_eq key row.0)) [
      | inl same ↦ all.0 _ value s t r (rw same at e)
      | inr other ↦ read_key_keeps prefix rs all.1 key value s t r (rw other at e)
    ]

read_keys_keeps : (prefix : List ℕ) (rs : Rows) → AllKeepInRange rs → (ms : Members) (s t : Settings)
    → IsInRange s → read_keys prefix rs ms s ≡ Ok t → IsInRange t
read_keys_keeps prefix rs all no_members s t r e = subst IsInRange (inside _ _ e) r
read_keys_keeps prefix rs all (member key value ms) s t r e =
    let (u, here, more) = after_ok (read_key prefix rs key value s) (read_keys prefix rs ms) t e in
    read_keys_keeps prefix rs all ms u t (read_key_keeps prefix rs all key value s u r here) more

section_keeps : (prefix : List ℕ) (rs : Rows) (put : Settings → Settings) → AllKeepInRange rs
    → ((s : Settings) → IsInRange s → IsInRange (put s)) → KeepsInRange (section prefix rs put)
section_keeps prefix rs put all h key (table ms) s t r e = read_keys_keeps prefix rs all (in_byte_order ms) (put s) t (h s r) e
section_keeps prefix rs put all h key (string x) s t r e = cc
section_keeps prefix rs put all h key (integer x) s t r e = cc
section_keeps prefix rs put all h key (float x) s t r e = cc
section_keeps prefix rs put all h key (boolean x) s t r e = cc
section_keeps prefix rs put all h key (datetime x) s t r e = cc
section_keeps prefix rs put all h key (array x) s t r e = cc

-- settings whose numbers with a range of their own are the same
same : (s t : Settings)
    → t.journal_limit ≡ s.journal_limit
    → t.max_wait_millis ≡ s.max_wait_millis
    → t.min_evictable_idle_millis ≡ s.min_evictable_idle_millis
    → t.min_idle ≡ s.min_idle
    → t.remove_abandoned_timeout_millis ≡ s.remove_abandoned_timeout_millis
    → t.soft_min_evictable_idle_millis ≡ s.soft_min_evictable_idle_millis
    → IsInRange s
    → IsInRange t
same s t a b c d e f r = record {
  journal_limit = rw a r.journal_limit;
  max_wait_millis = rw b r.max_wait_millis;
  min_evictable_idle_millis = rw c r.min_evictable_idle_millis;
  min_idle = rw d r.min_idle;
  remove_abandoned_timeout_millis = rw e r.remove_abandoned_timeout_millis;
  soft_min_evictable_idle_millis = rw f r.soft_min_evictable_idle_millis;
}

with_limit : (z : ℤ) (s : Settings) → IsBetween (pos 1) (pos 4294967296) z → IsInRange s
    → IsInRange (record s { journal_limit = unsigned_abs z })
with_limit (pos n) s within r = search rules
with_limit (negsuc n) s within r = absurd (omega arith)

abandoned_keep : AllKeepInRange abandoned_rows
abandoned_keep = (
  flag_keeps _ (λ b s. same _ _ refl refl refl refl refl refl),
  (
    flag_keeps _ (λ b s. same _ _ refl refl refl refl refl refl),
    (
      number_keeps (pos 0) greatest_millis _ (λ z s within r. search rules),
      tt,
    ),
  ),
)

abandoned_table_keeps : KeepsInRange abandoned_table
abandoned_table_keeps =
    let put = λ (s : Settings). record s { abandoned = true } in
    section_keeps (codes "abandoned.") abandoned_rows put abandoned_keep (λ s. same _ _ refl refl refl refl refl refl)

rows_keep : AllKeepInRange rows
rows_keep = (
  abandoned_table_keeps,
  (
    flag_keeps _ (λ b s. same _ _ refl refl refl refl refl refl),
    (
      number_keeps (pos 1) (pos 4294967296) _ with_limit,
      (
        flag_keeps _ (λ b s. same _ _ refl refl refl refl refl refl),
        (
          count_keeps (λ z s. record s { max_idle = z }) (λ z s. same _ _ refl refl refl refl refl refl),
          (
            count_keeps (λ z s. record s { max_total = z }) (λ z s. same _ _ refl refl refl refl refl refl),
            (
              number_keeps (negsuc 0) greatest_millis _ (λ z s within r. search rules),
              (
                number_keeps (negsuc 0) greatest_millis _ (λ z s within r. search rules),
                (
                  number_keeps (pos 0) (pos 2147483647) _ (λ z s within r. search rules),
                  (
                    count_keeps (λ n s. record s { num_tests_per_eviction_run = n }) (λ n s. same _ _ refl refl refl refl refl refl),
                    (
                      number_keeps (negsuc 0) greatest_millis _ (λ z s within r. search rules),
                      (
                        flag_keeps _ (λ b s. same _ _ refl refl refl refl refl refl),
                        (
                          flag_keeps _ (λ b s. same _ _ refl refl refl refl refl refl),
                          (
                            flag_keeps _ (λ b s. same _ _ refl refl refl refl refl refl),
                            (
                              flag_keeps _ (λ b s. same _ _ refl refl refl refl refl refl),
                              tt,
                            ),
                          ),
                        ),
                      ),
                    ),
                  ),
                ),
              ),
            ),
          ),
        ),
      ),
    ),
  ),
)

pub defaults_in_range : IsInRange defaults
defaults_in_range = search rules

pub settings_of_in_range : (ms : Members) (s : Settings) → settings_of ms ≡ Ok s → IsInRange s
unfolding settings_of
settings_of_in_range ms s e = read_keys_keeps [] rows rows_keep (in_byte_order ms) defaults s defaults_in_range e
