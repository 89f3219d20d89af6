-- A struct of a pointer and of one thing more, by its machine value. Assumes `Logic`.
--     word p h          the value
--     Pair Z            the struct, whatever its name
--     ptr_good          a pointer is of its type, even if it is null
--     word_good         the value is of the struct's type
--     second            the second field as an allocator, whose lemmas state that it has one machine value
--     apart, joined     what the struct owns is what the second field owns, and back
use Rattle.std.proofs.Common.{◌≡◌, List, [], ◌∷◌, ◌++◌, refl, sym, ◌∙◌, subst, lit<}
use mir.Syntax.{Ty, ty_struct, ty_ptr, tcons, impl, tnil, dnil}
use mir.Val.{Val, vstruct, vcons, vnil, of_list, has_ty}
use seplogic.Ra.Ura.{Ura}
use base.Fml.{ftrue}
use types.Logic.{Logic}
use types.Kit.{Item, Goal, Seq, Step, step, ‵, ◌$◌, move, drop, fsplit, fjoin, fpick, fpack, feq_i, feq_l}
use denote.RattleType.{RattleType, Valss}
use denote.Builtin.{RawPtr}
use denote.Param.{layout}
use denote.Param.Laws.{Laws}
use denote.RawPtr.{Ptr, block_ptr, null_ptr, ptr_val}
use denote.Steps.{nothing}
use denote.Struct.Struct.{Shape, Struct, within, to_tys}
use Rattle.std.proofs.alloc.Calls.{Al, handle_tells}
use Rattle.std.proofs.cell.Inside.{Good}
use Rattle.std.proofs.ResultValues.{and_tt}

abbrev pub word : Ptr → Val → Val
word p h = vstruct (vcons (ptr_val p) (vcons h vnil))

pub ptr_good : (p : Ptr) → Good ty_ptr (ptr_val p)
ptr_good (block_ptr b o) = (tt, tt)
ptr_good null_ptr = (tt, record { fits = lit< tt })

module _ (Z : RattleType) where
  abbrev pub shape : Shape
  shape = record { name = []; args = []; types = []; fields = RawPtr ∷ Z ∷ [] }

  abbrev pub Pair : RattleType
  Pair = Struct shape

  abbrev IsWord : Ptr → Val → List Ty → Type 0
  IsWord p h τs = Good (ty_struct [] (tcons ty_ptr (to_tys (τs ++ [])))) (word p h)

  pub word_good : Z.mir ≡ layout Z ∷ [] → (p : Ptr) (h : Val) → Good (layout Z) h → Good (layout Pair) (word p h)
  word_good one (block_ptr b o) h good = subst (IsWord (block_ptr b o) h) (sym one) (and_tt (has_ty (layout Z) h) good.0, ((ptr_good (block_ptr b o)).1, (good.1, tt)))
  word_good one null_ptr h good = subst (IsWord null_ptr h) (sym one) (and_tt (has_ty (layout Z) h) good.0, ((ptr_good null_ptr).1, (good.1, tt)))

  abbrev pub second : Laws Z → Al
  second L = record { row = Z; laws = L; g = record { dealloc_token = λ _ _ _. ftrue }; d = impl [] tnil dnil; drops = impl [] tnil dnil }

module _ (Z : RattleType) (L : Laws Z) {M : Type 1} {𝓤 : Ura M} {𝓛 : Logic 𝓤} {K : Type 0} {Γ : List (Item 𝓤)} {G : Goal 𝓤 𝓛.H} (t : K) (p : Ptr) (a : Z.Denot) where
  pub apart : (vs : List Val) → ((h : Val) → vs ≡ word p h ∷ [] → Good (layout Z) h → Seq K 𝓛 (‵ (Z.own_val a (h ∷ [])) ∷ Γ) G)
      → Seq K 𝓛 (‵ ((Pair Z).own_val (p, (a, tt)) vs) ∷ Γ) G
  apart vs then =
      fpick t (λ vss. fsplit t $ feq_l t (λ laid. fsplit t $ feq_l t (λ first. fsplit t $ handle_tells (second Z L) t a vss.1.0 (λ h rest good.
      move t (1 ∷ []) $ drop t $ then h (laid ∙ (λ i. vstruct (of_list (first i ++ (rest i ++ []))) ∷ [])) good))))

  pub joined : (h : Val) → Step K 𝓛 (‵ ((Pair Z).own_val (p, (a, tt)) (word p h ∷ [])) ∷ Γ) G (‵ (Z.own_val a (h ∷ [])) ∷ Γ) G
  joined h = step (λ s. nothing t $ move t (1 ∷ 0 ∷ []) $ fjoin t $ feq_i t (List Val) (ptr_val p ∷ []) (ptr_val p ∷ []) refl $ fjoin t $
      feq_i t (List Val) (word p h ∷ []) (word p h ∷ []) refl $ fjoin t $ fpack t (Valss (RawPtr ∷ Z ∷ [])) (within (shape Z) (p, (a, tt)) (word p h ∷ [])) (ptr_val p ∷ [], (h ∷ [], tt)) $ s)
