-- The call that takes a box apart gives an address and a handle, with what the box owned: a block's parts.
use Rattle.std.proofs.Common.{◌≡◌, ◌∙◌, List, [], ◌∷◌, ◌++◌, ap, refl, subst, sym}
use Rattle.std.proofs.BoxSteps.Form as box
use Rattle.std.proofs.alloc.Calls.{Al, Goes-blank, handle_tells}
use Rattle.std.proofs.boxed.Box.TheLaws as box_laws
use Rattle.std.proofs.boxed.Box.into_raw_with_allocator.Met.{met}
use Rattle.std.proofs.raw_atomic.Walks.{leaves, proved_at}
use Rattle.std.specs.contracts.boxed.Box.into_raw_with_allocator as apart
use Rattle.tide_c.proofs.Blocks.{Held, block_whole, is_typed, is_typed_pair, lies_somewhere, pair, pair_apart}
use Rattle.tide_c.proofs.block.Block.under.Code as code
use Rattle.tide_c.proofs.block.Block.under.Statement.{statement}
use Rattle.tide_c.specs.contracts.block.Block.under as f
use base.Fml.{flft, fsep, ftrue}
use base.Logic.{SProp, emp, ent, id⊢}
use contract.Monad.{fact, fact_i}
use contract.Running.{tables}
use denote.Builtin.{RawPtr}
use denote.Exit.{no}
use denote.Param.{bounded, param}
use denote.Param.Laws.{param_laws}
use denote.RattleType.{RattleType, owns}
use denote.RawPtr.{Ptr, block_ptr, ptr_val}
use denote.Signature.{plain, types_at}
use denote.Steps.{heard, nothing}
use denote.Struct.Tuple.{Tuple}
use denote.Triple.Call.{calls_at}
use denote.Triple.Spec.{triple_of}
use denote.Triple.Table.{framed}
use denote.Triple.Walked.{Stays, stay_dropped, walk_of}
use mir.MapTy.{inst_fn}
use mir.Syntax.{a_type, dcons, dnil}
use mir.Val.{Val, vptr}
use prog.Wp.{WpFn}
use types.ByLocal.{alloc_all, free_all, get, get_in, lands_as, look_at, pass_all, sets}
use types.Kit.{◌$◌, ◌∵◌, ◌⊛◌, ‵, !, await, by, drop, fjoin, fsplit, join, keep, later, move, pick, qed, raw, some, split, split3, suffices, use0, use1}
use types.Part.{agg, sub, whole}
use types.Run.{and_then, enter, fld, no_more, of_opd, returns, stop}

pub under_spec : {M : Type 1} → statement M
under_spec 𝓤 𝓛 𝓜 𝓡 wired T A L LA g d dx dd allocator glue glued =
    let 𝓣 = tables 𝓤 𝓛.H 𝓜 𝓡 𝓡.env in let R : RattleType = param 0 T in let Z : RattleType = param 1 A in let LZ = param_laws 1 A LA in
    let E : box.Bx = record { row = T; laws = L; al = record { row = A; laws = LA; g = g; d = d; drops = dd } } in
    let B : RattleType = box.B E in let En = f.ended T A g d dx dd in let c = f.clauses T A g d dx dd 𝓛 𝓜.mem 𝓡.returns in
    let at_types = bounded (a_type ∷ a_type ∷ []) (T, (A, tt)) (dcons d (dcons dx (dcons dd dnil))) in
    let fn = inst_fn at_types code.function in let gone : Stays En.signature.params En.kept = (stay_dropped (plain (λ _. B)) no, tt) in
    let one : Al = record {
      row = B;
      laws = box_laws.the_row_laws R Z g (param_laws 0 T L) LZ;
      g = record { dealloc_token = λ a σ p. ftrue };
      d = d;
      drops = dd;
    } in
    proved_at 𝓛 En gone c 𝓜 𝓡 (Goes-blank 𝓛 2 (plain (λ _. B)) no (λ κs x w. tt), tt) (f.Key.name at_types) fn
    (code.unfolded 𝓤 𝓛.H 𝓜 𝓡 wired (T, (A, tt)) d dx dd) (λ z are.
    let κs = z.0.0 in let whole_box = z.0.3.0 in let a = whole_box.alloc in let x = whole_box.value in
    let alive = ‵ (flft κs.0 z.0.1.0) ⊛ ‵ (flft κs.1.0 z.0.1.1.0) ⊛ ‵ ftrue in
    let Post : Val → SProp 𝓤 = (walk_of 𝓛 En gone c).post z in
    let From : List Val → SProp 𝓤 = λ ws. WpFn 𝓤 𝓛.H 𝓣.C 𝓣.Λ fn ws Post in
    let call = triple_of 𝓛 (apart.signature T A g d dd dx) (apart.spec T A g d dd dx 𝓛 𝓜.mem 𝓡.returns) in
    qed 𝓛 ((alive ⊛ ‵ (owns (types_at En.signature.params κs) z.0.3 z.0.4)) ∷ raw ((c κs z.0.3).requires z.1) ∷ []) ∵
    split ! $ move ! (1 ∷ []) $ fsplit ! $ handle_tells one ! whole_box z.0.4.0 (λ w is_word typed.
    -- [the box; nothing; the tokens; what is asked], and from here on it runs from the one word that the box is
    let y : call.Ghost = ((κs, z.0.1, tt, (whole_box, tt), (w ∷ [], tt)), tt) in
    fjoin ! $ move ! (1 ∷ 0 ∷ []) $ join ! $ join ! $ use1 𝓛 (raw (call.pre y)) (id⊢ 𝓤 _) $
    suffices ! (From (w ∷ [])) (subst (λ (ws : List Val). ent 𝓤 (From (w ∷ [])) (From ws)) (sym (ap (λ (ws : List Val). ws ++ []) is_word)) (id⊢ 𝓤 _)) $
    enter ! 𝓣.C 𝓣.Λ fn (w ∷ []) Post $ alloc_all ! (λ l. pass_all ! refl (typed, tt) $ sets ! (of_opd ! (get ! refl)) refl typed $
    calls_at ! (framed 𝓤 𝓛.H 𝓜 𝓣) call (met 𝓤 𝓛 𝓜 𝓡 (code.calls-std_alloc::boxed::Box::into_raw_with_allocator 𝓡.env wired) T A L LA g d dd dx allocator glued glue) y
    (and_then ! (get ! refl) (no_more !)) (λ u.
    use1 𝓛 (later (some (λ (r : Ptr × A.Denot). (alive ⊛ ‵ ((Tuple (RawPtr ∷ Z ∷ [])).own_val r (u ∷ []))) ⊛
    some (λ (_ : (Unit {0} × (Unit {0} × Unit {0})) × Unit {0}). ‵ (fsep (fsep ftrue (fsep ftrue ftrue)) ftrue) ⊛
    (raw (fact 𝓤 (r.1 ≡ a)) ⊛ ‵ (Held R Z LZ g a r.0 x)))))) (id⊢ 𝓤 _) $
    await ! tt $ pick ! (λ r. split ! $ move ! (1 ∷ []) $ pick ! (λ _. split3 ! $ drop ! $ heard ! (r.1 ≡ a) (λ same.
    -- [what the box owned; the tokens with the pair]
    lies_somewhere R Z LZ g ! a r.0 x (λ b o at. move ! (1 ∷ []) $ split ! $ move ! (1 ∷ []) $
    pair_apart R Z LZ g ! r u a same (λ h is_pair fits.
    let made = is_typed R Z LZ g b o h fits in
    lands_as ! (is_pair ∙ (λ j. pair (ptr_val (at j)) h)) refl (is_typed_pair R Z LZ g b o h fits) $
    sets ! (of_opd ! (get_in ! (fld ! refl (stop !)) (sub ! 0 refl (whole !)))) refl (tt, tt) $
    sets ! (of_opd ! (get_in ! (fld ! refl (stop !)) (sub ! 1 refl (whole !)))) refl fits $
    sets ! (of_opd ! (get ! refl)) refl fits $ sets ! (agg ! (and_then ! (get ! refl) (and_then ! (get ! refl) (no_more !)))) refl made $
    move ! (2 ∷ 0 ∷ []) $ block_whole R Z LZ g ! b o h a x $
    use0 𝓛 (raw (fact 𝓤 (x ≡ x))) (fact_i 𝓤 (x ≡ x) (emp 𝓤) refl) $ nothing ! $ nothing ! $ fjoin ! $
    returns ! (look_at ! 0 refl) $ free_all ! refl $ keep ! (3 ∷ 0 ∷ 2 ∷ 1 ∷ []) $
    by ! (leaves 𝓛 En gone c z (pair h (vptr b o)) (record { alloc = a; start = block_ptr b o; value = x }) ((tt, (tt, tt)), tt) (tt, tt)))))))))))
