-- The members of a table by ascending key, in the order of the keys' bytes.
use Rattle.std.specs.Prelude.{ℕ, List, if◌then◌else◌}
use Rattle.toml.specs.Data.{Data, Members, no_members, member, is_before}

-- the members, with one more before the first that has a greater key
abbrev pub with_member : List ℕ → Data → Members → Members
with_member key value no_members = member key value no_members
with_member key value (member first held others) =
    if is_before key (member first held others) then member key value (member first held others)
    else member first held (with_member key value others)

abbrev pub in_byte_order : Members → Members
in_byte_order no_members = no_members
in_byte_order (member key value others) = with_member key value (in_byte_order others)
