-- An empty handle gives no block, and another one the block of what it owns.
use Rattle.std.proofs.Common.{◌≡◌, List, [], ◌∷◌, ◌++◌, ap, lit<, refl, subst, sym}
use Rattle.std.proofs.ResultValues.{and_tt}
use Rattle.std.proofs.alloc.Calls.{Al, handle_tells}
use Rattle.std.proofs.alloc.Shapes.{after}
use Rattle.std.proofs.option.Made.{Some-of, none_of}
use Rattle.std.proofs.raw_atomic.Walks.{leaves, proved_at}
use Rattle.std.specs.Prelude.{IfSome, None, Option, Some}
use Rattle.std.specs.contracts.impls.GlobalAllocator.TheImpl.{ghosts}
use Rattle.tide_c.proofs.Blocks.{block_whole, is_typed, pair}
use Rattle.tide_c.proofs.Handles.{Apart, LZ, Row, Within, Z, handle_apart, is_handle, is_pointer, when_empty, when_full, word}
use Rattle.tide_c.proofs.handle.Handle.unseal.Code as code
use Rattle.tide_c.proofs.handle.Handle.unseal.Statement.{statement}
use Rattle.tide_c.specs.Parties.{PartyStands}
use Rattle.tide_c.specs.contracts.handle.Handle.unseal as f
use base.Logic.{SProp, emp, ent, id⊢}
use contract.Monad.{fact, fact_i}
use contract.Running.{tables}
use denote.Exit.{yes}
use denote.RattleType.{RattleType, owns}
use denote.RawPtr.{block_ptr, ptr_val}
use denote.Signature.{plain, type_at, types_at}
use denote.Steps.{nothing}
use denote.Triple.Entry.{alive}
use denote.Triple.Walked.{Goes-dropped, Stays, stay_dropped, walk_of}
use mir.Syntax.{dnil, impl, tnil}
use mir.Val.{Val, vcons, vnil, vptr}
use prog.Wp.{WpFn}
use types.ByLocal.{alloc_all, env, free_all, get, get_in, is, look_at, pass_all, sets}
use types.Kit.{◌$◌, ◌∵◌, ◌⊛◌, ‵, !, at_ret, by, drop, fjoin, fsplit, join, keep, move, qed, raw, split, suffices, use0, use1}
use types.Match.{live}
use types.Part.{agg, sub, whole}
use types.Run.{and_then, bin, branches, enter, exec, first, fld, lit, no_more, of_opd, returns, returns_within, skips, stop}

-- the allocator, for the step that reads its handle
abbrev handles : Al
handles = record { row = Z; laws = LZ; g = ghosts; d = impl [] tnil dnil; drops = impl [] tnil dnil }

pub unseal_spec : {M : Type 1} → statement M
unseal_spec 𝓤 𝓛 𝓜 𝓡 wired =
    let c = f.clauses 𝓛 𝓜.mem 𝓡.returns in let 𝓣 = tables 𝓤 𝓛.H 𝓜 𝓡 𝓡.env in let fn = code.function in
    let gone : Stays f.ended.signature.params f.ended.kept = (stay_dropped (plain (λ _. Row)) yes, (stay_dropped (plain (λ _. Z)) yes, tt)) in
    proved_at 𝓛 f.ended gone c 𝓜 𝓡 (Goes-dropped 𝓛 0 (plain (λ _. Row)) yes (λ κs x w. refl), (Goes-dropped 𝓛 0 (plain (λ _. Z)) yes (λ κs x w. refl), tt))
    f.Key.name fn (code.unfolded 𝓤 𝓛.H 𝓜 𝓡 wired) (λ z are.
    let κs = z.0.0 in let d : Row.Denot = z.0.3.0 in let a : Z.Denot = z.0.3.1.0 in
    let Post : Val → SProp 𝓤 = (walk_of 𝓛 f.ended gone c).post z in
    let From : List Val → SProp 𝓤 = λ ws. WpFn 𝓤 𝓛.H 𝓣.C 𝓣.Λ fn ws Post in let Out : RattleType = type_at f.ended.signature.result κs in
    let Empty : Option Apart.Denot → Type 0 = λ r. r ≡ None → d.value ≡ None in
    let Is : Option Apart.Denot → Type 0 = λ r. IfSome r (λ block. d.value ≡ Some block.value) in
    let Stands : Option Apart.Denot → Type 0 = λ r. IfSome r (λ block. PartyStands block.value) in
    qed 𝓛 ((raw (alive 𝓛 f.ended.signature κs z.0.1) ⊛ ‵ (owns (types_at f.ended.signature.params κs) z.0.3 z.0.4)) ∷ raw ((c κs z.0.3).requires z.1) ∷ []) ∵
    split ! $ move ! (1 ∷ []) $ fsplit ! $ handle_apart ! d z.0.4.0 (λ is_word below. move ! (1 ∷ []) $ fsplit ! $
    handle_tells handles ! a z.0.4.1.0 (λ h is_h fits. let w : Val = word d.at d.full in
    suffices ! (From (w ∷ h ∷ [])) (subst (λ (ws : List Val). ent 𝓤 (From (w ∷ h ∷ [])) (From ws)) (sym (λ j. is_word j ++ (is_h j ++ []))) (id⊢ 𝓤 _)) $
    -- [what the handle owned; the allocator's handle; the tokens]
    keep ! (2 ∷ 0 ∷ 3 ∷ []) $ enter ! 𝓣.C 𝓣.Λ fn (w ∷ h ∷ []) Post $
    alloc_all ! (λ l. pass_all ! refl (is_handle [] d.at d.full below, (fits, tt)) $ let Ev = env fn.locals l in
    sets ! (of_opd ! (get_in ! (fld ! refl (stop !)) (sub ! 0 refl (whole !)))) refl (is_pointer d.at) $
    sets ! (of_opd ! (get_in ! (fld ! refl (stop !)) (sub ! 1 refl (whole !)))) refl (tt, record { fits = below }) $
    sets ! (bin ! (get ! refl) (lit ! tt) tt) refl (tt, tt) $ first ! $ branches ! (get ! refl)
    (λ is_zero. when_empty ! d is_zero (λ none. drop ! $
    let r : Option Apart.Denot = None in
    sets ! (agg ! (and_then ! (lit ! tt) (no_more !))) refl (tt, (record { fits = lit< tt }, tt)) $
    use0 𝓛 (raw (fact 𝓤 (Stands r))) (fact_i 𝓤 (Stands r) (emp 𝓤) tt) $ use0 𝓛 (raw (fact 𝓤 (Is r))) (fact_i 𝓤 (Is r) (emp 𝓤) tt) $ join ! $
    use0 𝓛 (raw (fact 𝓤 (Empty r))) (fact_i 𝓤 (Empty r) (emp 𝓤) (λ _. none)) $ join ! $
    use0 𝓛 (‵ (Out.own_val r (live 0 vnil ∷ []))) (none_of 𝓛 Apart) $ nothing ! $ nothing ! $ fjoin ! $ nothing ! $ fjoin ! $
    returns_within ! Post refl (look_at ! 0 refl) $ free_all ! refl $ keep ! (3 ∷ 0 ∷ 1 ∷ 2 ∷ []) $
    by ! (leaves 𝓛 f.ended gone c z (live 0 vnil) r (tt, (tt, tt)) (tt, (tt, tt)))))
    (λ not_zero. when_full ! d not_zero (λ x b o is_some stands at.
    let made = is_typed Within Z LZ ghosts b o h fits in let v : Val = pair h (vptr b o) in
    let block : Apart.Denot = record { alloc = a; start = block_ptr b o; value = x } in let r : Option Apart.Denot = Some block in
    skips ! $ exec ! 𝓣.C 𝓣.Λ Ev (after 4 fn.body) (at_ret Ev Post) $ sets ! (is ! (of_opd ! (get ! refl)) (ap ptr_val at)) refl (tt, tt) $
    sets ! (agg ! (and_then ! (get ! refl) (and_then ! (get ! refl) (no_more !)))) refl made $
    sets ! (agg ! (and_then ! (lit ! tt) (and_then ! (get ! refl) (no_more !)))) refl (and_tt _ made.0, (record { fits = lit< tt }, (made.1, tt))) $
    block_whole Within Z LZ ghosts ! b o h a x $ use1 𝓛 (‵ (Out.own_val r (live 1 (vcons v vnil) ∷ []))) (Some-of 𝓛 Apart block v) $
    use0 𝓛 (raw (fact 𝓤 (Stands r))) (fact_i 𝓤 (Stands r) (emp 𝓤) stands) $ use0 𝓛 (raw (fact 𝓤 (Is r))) (fact_i 𝓤 (Is r) (emp 𝓤) is_some) $ join ! $
    use0 𝓛 (raw (fact 𝓤 (Empty r))) (fact_i 𝓤 (Empty r) (emp 𝓤) (λ never. absurd (cc))) $ join ! $ nothing ! $ nothing ! $ fjoin ! $ nothing ! $ fjoin ! $
    returns ! (look_at ! 0 refl) $ free_all ! refl $ keep ! (3 ∷ 0 ∷ 2 ∷ 1 ∷ []) $
    by ! (leaves 𝓛 f.ended gone c z (live 1 (vcons v vnil)) r (tt, (tt, tt)) (tt, (tt, tt)))))))))
