-- The entries of a map are in the order of their bytes.
use Rattle.std.proofs.Common.{◌≡◌, ℕ, true, List, [], ◌∷◌, refl, string_bytes}
use Rattle.std.specs.List.Sorted.{IsStrictlySortedBy}
use Rattle.std.specs.Map.{keys_of}
use Rattle.std.specs.String.{string_cmp}
use Rattle.toml.proofs.Views.{Entry, is_before-sorted}
use Rattle.toml.specs.Data.{Data, Members, no_members, member, is_before}
use Rattle.toml.specs.View.{view, members_view}
use Rattle.pool_settings.specs.ByteOrder.{in_byte_order, with_member}

with_first : (key : List ℕ) (value : Data) (ms : Members) → is_before key ms ≡ true → with_member key value ms ≡ member key value ms
with_first key value no_members before = refl
with_first key value (member first held others) before = rw before

pub in_byte_order-sorted : (es : List Entry) → IsStrictlySortedBy string_cmp (keys_of es)
    → in_byte_order (members_view es) ≡ members_view es
unfolding IsStrictlySortedBy
in_byte_order-sorted [] sorted = refl
in_byte_order-sorted (e ∷ es) sorted =
    let before = is_before-sorted e.0 es sorted.0 in
    rw (in_byte_order-sorted es sorted.1) (with_first (string_bytes e.0) (view e.1) (members_view es) before)
