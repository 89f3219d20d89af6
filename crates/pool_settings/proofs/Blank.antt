-- The document of the empty text.
use Rattle.std.proofs.Common.{◌≡◌, [], Some, refl}
use Rattle.toml.proofs.OnLiterals.{toml_on_literals}
use Rattle.toml.specs.Data.{no_members}
use Rattle.toml.specs.Parse.{parse_document}

pub empty_document : parse_document [] ≡ Some no_members
unfolding toml_on_literals
empty_document = refl
