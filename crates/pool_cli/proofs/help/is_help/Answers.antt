use Rattle.std.proofs.Common.{rules, ◌≡◌, map, string_bytes, Bool, List, [], ◌∷◌, refl, ap}
use Rattle.std.specs.Prelude.{◌||◌}
use Rattle.std.specs.List.{list_any}
use Rattle.pool_cli.specs.Help as Spec
use Rattle.pool_cli.proofs.help.is_help.Goals as goal

-- a test of what each element becomes
any_map : {X Y : Type 0} (p : Y → Bool) (f : X → Y) (xs : List X) → list_any (λ x. p (f x)) xs ≡ list_any p (map f xs)
any_map p f [] = refl
any_map p f (x ∷ xs) = ap (λ (b : Bool). p (f x) || b) (any_map p f xs)

pub returns-else-eq : goal.returns-else-eq
returns-else-eq c = search (rules, any_map (λ word. Spec.is_help_option word) (λ word. string_bytes word) c.args.words.now)
