-- Lists whose elements all have a property.
use Rattle.std.proofs.Common.{◌≡◌, ℕ, zero, suc, List, [], ◌∷◌, slice_get, Some, subst}
use Rattle.std.specs.List.{AllByRecursion}

pub all_mapped : {A : Type 0} (P Q : A → Type 0) (xs : List A) → ((x : A) → P x → Q x) → AllByRecursion P xs → AllByRecursion Q xs
all_mapped P Q [] f all = tt
all_mapped P Q (x ∷ xs) f all = (f x all.0, all_mapped P Q xs f all.1)

pub at_position : {A : Type 0} (P : A → Type 0) (xs : List A) (n : ℕ) (x : A) → AllByRecursion P xs → slice_get xs n ≡ Some x → P x
at_position P [] n x all is = absurd (cc is)
at_position P (y ∷ xs) zero x all is = (let same : y ≡ x = cc is in subst P same all.0)
at_position P (y ∷ xs) (suc n) x all is = at_position P xs n x all.1 is
