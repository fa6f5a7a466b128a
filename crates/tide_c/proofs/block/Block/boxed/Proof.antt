-- A block's parts are handed to the call that makes a box of them, with what it owns.
use Rattle.std.proofs.Common.{◌≡◌, List, [], ◌∷◌, ◌++◌, ap, refl, subst, sym}
use Rattle.std.proofs.BoxSteps.Form as box
use Rattle.std.proofs.alloc.Calls.{Al, Fits, Goes-blank, handle_tells}
use Rattle.std.proofs.alloc.Shapes.{after}
use Rattle.std.proofs.boxed.Box.TheLaws as box_laws
use Rattle.std.proofs.boxed.Box.from_raw.Met.{met}
use Rattle.std.proofs.raw_atomic.Walks.{leaves, proved_at}
use Rattle.std.specs.contracts.boxed.Box.from_raw as whole_again
use Rattle.tide_c.proofs.Blocks.{Row, block_apart, is_typed, pair}
use Rattle.tide_c.proofs.block.Block.boxed.Code as code
use Rattle.tide_c.proofs.block.Block.boxed.Statement.{statement}
use Rattle.tide_c.specs.contracts.block.Block.boxed as f
use base.Fml.{flft, ftrue}
use base.Logic.{SProp, ent, id⊢}
use contract.BorrowLft.{◌⊑◌}
use contract.Monad.{fact}
use contract.Running.{tables}
use denote.Exit.{no}
use denote.Param.{bounded, param}
use denote.Param.Laws.{param_laws}
use denote.RattleType.{RattleType, owns}
use denote.RawPtr.{block_ptr}
use denote.Signature.{plain, types_at}
use denote.Steps.{nothing, only}
use denote.Triple.Call.{calls_at_last}
use denote.Triple.Clauses.{Lasts, lasts}
use denote.Triple.Spec.{triple_of}
use denote.Triple.Table.{framed}
use denote.Triple.Walked.{Stays, stay_dropped, walk_of}
use mir.MapTy.{inst_fn}
use mir.Syntax.{a_type, dcons, dnil}
use mir.Val.{Val, vptr}
use prog.Wp.{WpFn}
use types.ByLocal.{alloc_all, env, free_all, get, get_in, lands_last, look_at, pass_all, sets}
use types.Kit.{◌$◌, ◌∵◌, ◌⊛◌, ‵, !, at_ret, await, by, drop, feq_i, fjoin, fsplit, group, join, keep, later, move, pick, qed, raw, rewrite, some, split, split3, suffices, use1}
use types.Part.{sub, whole}
use types.Run.{and_then, blocks, enter, exec, first, fld, no_more, of_opd, returns, stop}

pub boxed_spec : {M : Type 1} → statement M
boxed_spec 𝓤 𝓛 𝓜 𝓡 wired T A L LA g d dx dd allocator glue glued =
    let 𝓣 = tables 𝓤 𝓛.H 𝓜 𝓡 𝓡.env in let R : RattleType = param 0 T in let Z : RattleType = param 1 A in let LZ = param_laws 1 A LA in
    let E : box.Bx = record { row = T; laws = L; al = record { row = A; laws = LA; g = g; d = d; drops = dd } } in
    let B : RattleType = box.B E in let En = f.ended T A g d dx dd in let c = f.clauses T A g d dx dd 𝓛 𝓜.mem 𝓡.returns in
    let at_types = bounded (a_type ∷ a_type ∷ []) (T, (A, tt)) (dcons d (dcons dx (dcons dd dnil))) in
    let fn = inst_fn at_types code.function in
    let gone : Stays En.signature.params En.kept = (stay_dropped (plain (λ _. Row R Z LZ g)) no, tt) in
    let one : Al = record {
      row = B;
      laws = box_laws.the_row_laws R Z g (param_laws 0 T L) LZ;
      g = record { dealloc_token = λ a σ p. ftrue };
      d = d;
      drops = dd;
    } in
    proved_at 𝓛 En gone c 𝓜 𝓡 (Goes-blank 𝓛 2 (plain (λ _. Row R Z LZ g)) no (λ κs x w. tt), tt) (f.Key.name at_types) fn
    (code.unfolded 𝓤 𝓛.H 𝓜 𝓡 wired (T, (A, tt)) d dx dd) (λ z are.
    let κs = z.0.0 in let qs = z.0.1 in let its = z.0.3.0 in let a = its.alloc in
    let alive = ‵ (flft κs.0 qs.0) ⊛ ‵ (flft κs.1.0 qs.1.0) ⊛ ‵ ftrue in
    let Post : Val → SProp 𝓤 = (walk_of 𝓛 En gone c).post z in
    let From : List Val → SProp 𝓤 = λ ws. WpFn 𝓤 𝓛.H 𝓣.C 𝓣.Λ fn ws Post in
    let call = triple_of 𝓛 (whole_again.signature T A g d dd) (whole_again.spec T A g d dd 𝓛 𝓜.mem 𝓡.returns) in
    let known = raw (fact 𝓤 (κs.0 ⊑ T.lives)) ⊛ raw (fact 𝓤 (κs.1.0 ⊑ A.lives)) ⊛ ‵ ftrue in
    qed 𝓛 ((alive ⊛ ‵ (owns (types_at En.signature.params κs) z.0.3 z.0.4)) ∷ raw ((c κs z.0.3).requires z.1) ∷ []) ∵
    split ! $ move ! (1 ∷ []) $ fsplit ! $ block_apart R Z LZ g ! its z.0.4.0 (λ b o h at is_word fits.
    -- [what a box owned; the handle; nothing; the tokens; what is asked]
    let w : Val = pair h (vptr b o) in
    let y : call.Ghost = ((κs, qs, tt, (a, (block_ptr b o, tt)), (h ∷ [], (vptr b o ∷ [], tt))), its.value) in
    move ! (4 ∷ []) $ use1 𝓛 known (id⊢ 𝓤 _) $ split3 ! $ move ! (2 ∷ []) $ drop ! $ group ! 3 $
    -- [what is asked of T and of A, with what a box owned; the handle; nothing; the tokens]
    move ! (2 ∷ []) $ feq_i ! (List Val) (vptr b o ∷ []) (vptr b o ∷ []) refl $ fjoin ! $ move ! (2 ∷ 0 ∷ []) $ fjoin ! $
    move ! (2 ∷ 0 ∷ []) $ join ! $ join ! $ use1 𝓛 (raw (call.pre y)) (id⊢ 𝓤 _) $
    suffices ! (From (w ∷ [])) (subst (λ (ws : List Val). ent 𝓤 (From (w ∷ [])) (From ws)) (sym (ap (λ (ws : List Val). ws ++ []) is_word)) (id⊢ 𝓤 _)) $
    enter ! 𝓣.C 𝓣.Λ fn (w ∷ []) Post $ alloc_all ! (λ l. pass_all ! refl (is_typed R Z LZ g b o h fits, tt) $ let Ev = env fn.locals l in
    sets ! (of_opd ! (get_in ! (fld ! refl (stop !)) (sub ! 0 refl (whole !)))) refl fits $
    sets ! (of_opd ! (get_in ! (fld ! refl (stop !)) (sub ! 1 refl (whole !)))) refl (tt, tt) $
    first ! $ blocks ! $ sets ! (of_opd ! (get ! refl)) refl fits $
    calls_at_last ! (framed 𝓤 𝓛.H 𝓜 𝓣) call (met 𝓤 𝓛 𝓜 𝓡 (code.calls-std_alloc::boxed::Box::from_raw 𝓡.env wired) T A L LA g d dd allocator glued) y
    (and_then ! (get ! refl) (and_then ! (get ! refl) (no_more !))) (λ u.
    use1 𝓛 (later (some (λ (r : B.Denot). (alive ⊛ ‵ (B.own_val r (u ∷ []))) ⊛
    some (λ (ls : Lasts (whole_again.ended T A g d dd) κs y.0.3). ‵ (lasts (whole_again.ended T A g d dd) κs y.0.3 ls) ⊛
    (raw (fact 𝓤 (r.value ≡ its.value)) ⊛ raw (fact 𝓤 (r.alloc ≡ a))))))) (id⊢ 𝓤 _) $
    await ! tt $ pick ! (λ r. split ! $ move ! (1 ∷ []) $ pick ! (λ _. split3 ! $ drop ! $ move ! (2 ∷ []) $ split ! $ move ! (1 ∷ []) $
    -- [the box; the tokens; what is known of it]
    handle_tells one ! r (u ∷ []) (λ v is_v good. rewrite ! 0 (λ (ws : List Val). ‵ (B.own_val r ws)) (sym is_v) refl $
    let typed = subst (Fits one) (sym (ap only is_v)) good in
    lands_last ! refl typed $ exec ! 𝓣.C 𝓣.Λ Ev (after 3 fn.body) (at_ret Ev Post) $ sets ! (of_opd ! (get ! refl)) refl typed $
    nothing ! $ nothing ! $ fjoin ! $ returns ! (look_at ! 0 refl) $ free_all ! refl $ keep ! (2 ∷ 0 ∷ 1 ∷ 3 ∷ []) $
    by ! (leaves 𝓛 En gone c z u r ((tt, tt), tt) (tt, tt)))))))))
