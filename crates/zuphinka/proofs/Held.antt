-- A handle owns nothing, at null, or a pool in a block, whose address may be compared with null. Assumes `Logic`.
use Rattle.std.proofs.Common.{◌≡◌, ℕ, List, ◌∷◌, refl, Option, Some, None}
use seplogic.Ra.Ura.{Ura}
use mir.Raw.{raw as bare}
use base.Fraction.{full_share}
use base.Logic.{ent, guard, via, fst∗, snd∗, guard_i, never}
use types.Logic.{Logic, sem}
use types.Kit.{Item, Goal, Seq, ‵, given, ◌$◌, use1, learn, feq_l}
use contract.Monad.{fact_use}
use denote.Memory.{lone}
use denote.RawPtr.{Ptr, block_ptr, null_ptr, lies_at, Testable, in_a_block}
use Rattle.std.specs.declared.alloc.Global.{Global}
use Rattle.std.specs.contracts.impls.GlobalAllocator.TheImpl.{ghosts}
use Rattle.std.proofs.GlobalToken.{dealloc_token-Testable}
use Rattle.zuphinka.specs.Opening.{OpenModel}
use Rattle.zuphinka.specs.Holding.{Pools, holds}

module _ {M : Type 1} {𝓤 : Ura M} (𝓛 : Logic 𝓤) (a : Global) (x : OpenModel) where
  testable : (p : Ptr) → ent 𝓤 (sem 𝓛 (holds a p (Some x))) (guard 𝓤 (Testable p) (sem 𝓛 (holds a p (Some x))))
  testable p = fact_use 𝓤 (Testable p)
      (via 𝓤 _ (snd∗ 𝓤 (sem 𝓛 (lies_at Pools full_share p x)) (sem 𝓛 (ghosts.dealloc_token a (bare (lone Pools.mir)) p))) (dealloc_token-Testable 𝓛 a (bare (lone Pools.mir)) p))
      (guard_i 𝓤 (Testable p) (sem 𝓛 (holds a p (Some x))))

module _ {M : Type 1} {𝓤 : Ura M} {𝓛 : Logic 𝓤} {K : Type 0} {Γ : List (Item 𝓤)} {G : Goal 𝓤 𝓛.H} (t : K) (a : Global) (p : Ptr) where
  pub either : (c : Option OpenModel) → (c ≡ None → p ≡ null_ptr → Seq K 𝓛 Γ G)
      → ((x : OpenModel) (b o : ℕ) → c ≡ Some x → p ≡ block_ptr b o → Testable (block_ptr b o) → Seq K 𝓛 (‵ (holds a (block_ptr b o) (Some x)) ∷ Γ) G)
      → Seq K 𝓛 (‵ (holds a p c) ∷ Γ) G
  either None empty full = feq_l t (λ e. empty refl e)
  either (Some x) empty full =
      in_a_block t p (λ q. holds a q (Some x)) (fst∗ 𝓤 (never 𝓤) (sem 𝓛 (ghosts.dealloc_token a (bare (lone Pools.mir)) null_ptr))) (λ b o lies.
      use1 𝓛 (given (Testable (block_ptr b o)) (‵ (holds a (block_ptr b o) (Some x)))) (testable 𝓛 a x (block_ptr b o)) $ learn t (λ ok. full x b o refl lies ok))
