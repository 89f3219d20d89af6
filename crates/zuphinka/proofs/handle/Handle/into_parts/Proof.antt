-- `into_parts` tests the address: nothing is at null.
use Rattle.std.proofs.Common.{◌≡◌, List, [], ◌∷◌, ◌++◌, refl, sym, ◌∙◌, subst, lit<, Some, None}
use mir.Val.{Val}
use base.Logic.{SProp, ent, emp, id⊢}
use prog.Wp.{WpFn}
use types.Kit.{‵, raw, ◌⊛◌, at_ret, ◌$◌, ◌∵◌, !, qed, by, move, keep, split, fsplit, fjoin, suffices, use0, use1}
use types.Run.{stop, fld, lit, of_opd, bin, no_more, and_then, first, branches, exec, returns, enter}
use types.ByLocal.{alloc_all, pass_all, free_all, look_at, get, get_in, sets, sets_last, env}
use types.Part.{agg, sub, whole}
use contract.Monad.{fact, fact_i}
use contract.Running.{tables}
use denote.Exit.{yes}
use denote.RattleType.{RattleType, owns}
use denote.Signature.{types_at, plain}
use denote.RawPtr.{Ptr, null_ptr, block_ptr, tests_null}
use denote.Steps.{nothing}
use denote.Param.{layout}
use denote.Triple.Entry.{alive}
use denote.Triple.Walked.{Stays, stay_dropped, walk_of, Goes-dropped}
use Rattle.std.proofs.VecSteps.Shapes.{after}
use Rattle.std.proofs.cell.Inside.{Good}
use Rattle.std.proofs.raw_atomic.Walks.{proved_at, leaves}
use Rattle.std.specs.contracts.alloc.Global as heap
use Rattle.std.proofs.alloc.Global.TheLaws as heap_laws
use Rattle.zuphinka.proofs.Pairs.{word, ptr_good, word_good, apart, joined}
use Rattle.zuphinka.specs.contracts.handle.Handle as handle
use Rattle.std.specs.contracts.impls.GlobalAllocator.TheImpl.{ghosts}
use Rattle.zuphinka.specs.contracts.open_pool.OpenPool as pools
use Rattle.zuphinka.specs.contracts.parts.Parts as parts
use mir.Val.{vcons, vnil}
use types.Match.{live}
use Rattle.std.specs.contracts.option.Option as option
use Rattle.std.proofs.option.Made.{Some-of, none_of}
use Rattle.std.proofs.ResultValues.{and_tt}
use Rattle.zuphinka.proofs.Held.{either}
use Rattle.zuphinka.specs.contracts.handle.Handle.into_parts.{ended, clauses}
use Rattle.zuphinka.specs.contracts.handle.Handle.into_parts.Key.{name as #self}
use Rattle.zuphinka.proofs.handle.Handle.into_parts.Statement.{statement}
use Rattle.zuphinka.proofs.handle.Handle.into_parts.Code as code

pub into_parts_spec : {M : Type 1} → statement M
into_parts_spec 𝓤 𝓛 𝓜 𝓡 wired =
    let H = 𝓛.H in let 𝓣 = tables 𝓤 H 𝓜 𝓡 𝓡.env in let Z : RattleType = heap.the_row in let LZ = heap_laws.the_row_laws in let c = clauses 𝓛 𝓜.mem 𝓡.returns in let fn = code.function in
    let From : RattleType = handle.the_row in let hs : Stays ended.signature.params ended.kept = (stay_dropped (plain (λ _. From)) yes, tt) in
    proved_at 𝓛 ended hs c 𝓜 𝓡 (Goes-dropped 𝓛 0 (plain (λ _. From)) yes (λ κs x f. refl), tt) #self fn (code.unfolded 𝓤 H 𝓜 𝓡 wired) (λ z are.
    let x = z.0.3.0 in let Post : Val → SProp 𝓤 = (walk_of 𝓛 ended hs c).post z in let Run : List Val → SProp 𝓤 = λ ws. WpFn 𝓤 H 𝓣.C 𝓣.Λ fn ws Post in
    qed 𝓛 ((raw (alive 𝓛 ended.signature z.0.0 z.0.1) ⊛ ‵ (owns (types_at ended.signature.params z.0.0) z.0.3 z.0.4)) ∷ raw ((c z.0.0 z.0.3).requires z.1) ∷ []) ∵
    let To : RattleType = parts.the_row pools.the_row Z ghosts in let Out : RattleType = option.the_row To in
    split ! $ move ! (1 ∷ []) $ fsplit ! $ fsplit ! $
    -- [the fields; what is held; nothing; the tokens]
    apart Z LZ ! x.at x.alloc z.0.4.0 (λ h laid good. move ! (1 ∷ []) $
    either ! x.alloc x.at x.held
    (λ empty null. let w : Val = word null_ptr h in let none : Val = live 0 vnil in let small : Good (layout Out) none = (tt, (record { fits = lit< tt }, tt)) in
    suffices ! (Run (w ∷ [])) (subst (λ (us : List Val). ent 𝓤 (Run (w ∷ [])) (Run (us ++ []))) (sym (laid ∙ (λ i. word (null i) h ∷ []))) (id⊢ 𝓤 (Run (w ∷ [])))) $
    enter ! 𝓣.C 𝓣.Λ fn (w ∷ []) Post $ alloc_all ! (λ l. pass_all ! refl (word_good Z refl null_ptr h good, tt) $ let Ev = env fn.locals l in
    sets ! (of_opd ! (get_in ! (fld ! refl (stop !)) (sub ! 0 refl (whole !)))) refl (ptr_good null_ptr) $ sets ! (of_opd ! (get_in ! (fld ! refl (stop !)) (sub ! 1 refl (whole !)))) refl good $
    sets ! (bin ! (get ! refl) (lit ! tt) tt) refl (tt, tt) $ first ! $ branches ! (get ! refl)
    (λ _. sets_last ! (agg ! (and_then ! (lit ! tt) (no_more !))) refl small $ exec ! 𝓣.C 𝓣.Λ Ev (after 4 fn.body) (at_ret Ev Post) $ sets ! (of_opd ! (get ! refl)) refl small $
    use0 𝓛 (‵ (Out.own_val None (none ∷ []))) (none_of 𝓛 To) $ use0 𝓛 (raw (fact 𝓤 (None ≡ x.held))) (fact_i 𝓤 (None ≡ x.held) (emp 𝓤) (sym empty)) $ nothing ! $ nothing ! $ fjoin ! $
    -- [nothing; that there is none; the result; the allocator; nothing; the tokens]
    returns ! (look_at ! 0 refl) $ free_all ! refl $ keep ! (5 ∷ 0 ∷ 2 ∷ 1 ∷ []) $ by ! (leaves 𝓛 ended hs c z none None (tt, tt) (tt, tt)))
    (λ wrong. absurd wrong)))
    (λ pool b o full lies ok. let p : Ptr = block_ptr b o in let w : Val = word p h in let typed = word_good Z refl p h good in
    let some : Val = live 1 (vcons w vnil) in let large : Good (layout Out) some = (and_tt _ typed.0, (record { fits = lit< tt }, (typed.1, tt))) in
    let d : To.Denot = record { at = p; alloc = x.alloc; value = pool } in
    suffices ! (Run (w ∷ [])) (subst (λ (us : List Val). ent 𝓤 (Run (w ∷ [])) (Run (us ++ []))) (sym (laid ∙ (λ i. word (lies i) h ∷ []))) (id⊢ 𝓤 (Run (w ∷ [])))) $
    enter ! 𝓣.C 𝓣.Λ fn (w ∷ []) Post $ alloc_all ! (λ l. pass_all ! refl (typed, tt) $ let Ev = env fn.locals l in
    sets ! (of_opd ! (get_in ! (fld ! refl (stop !)) (sub ! 0 refl (whole !)))) refl (ptr_good p) $ sets ! (of_opd ! (get_in ! (fld ! refl (stop !)) (sub ! 1 refl (whole !)))) refl good $
    sets ! (bin ! (get ! refl) (lit ! tt) (tests_null p ok)) refl (tt, tt) $ first ! $ branches ! (get ! refl) (λ wrong. absurd wrong)
    (λ _. sets ! (of_opd ! (get ! refl)) refl (ptr_good p) $ sets ! (agg ! (and_then ! (get ! refl) (and_then ! (get ! refl) (no_more !)))) refl typed $
    sets_last ! (agg ! (and_then ! (lit ! tt) (and_then ! (get ! refl) (no_more !)))) refl large $ exec ! 𝓣.C 𝓣.Λ Ev (after 4 fn.body) (at_ret Ev Post) $ sets ! (of_opd ! (get ! refl)) refl large $
    -- [the pool's memory; the allocator; nothing; the tokens]
    move ! (1 ∷ []) $ joined Z LZ ! p x.alloc h $ fjoin ! $ use1 𝓛 (‵ (Out.own_val (Some d) (some ∷ []))) (Some-of 𝓛 To d w) $
    use0 𝓛 (raw (fact 𝓤 (Some pool ≡ x.held))) (fact_i 𝓤 (Some pool ≡ x.held) (emp 𝓤) (sym full)) $ nothing ! $ nothing ! $ fjoin ! $
    returns ! (look_at ! 0 refl) $ free_all ! refl $ keep ! (4 ∷ 0 ∷ 2 ∷ 1 ∷ []) $ by ! (leaves 𝓛 ended hs c z some (Some d) (tt, tt) (tt, tt)))))))
