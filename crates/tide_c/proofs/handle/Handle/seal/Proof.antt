-- What a block owns goes behind a handle.
use Rattle.std.proofs.Common.{◌≡◌, List, [], ◌∷◌, ◌++◌, ap, lit<, refl, subst, sym}
use Rattle.std.proofs.raw_atomic.Walks.{leaves, proved_at}
use Rattle.std.specs.Prelude.{Some}
use Rattle.std.specs.contracts.impls.GlobalAllocator.TheImpl.{ghosts}
use Rattle.tide_c.proofs.Blocks.{block_apart, is_typed, pair}
use Rattle.tide_c.proofs.Handles.{Apart, LZ, Row, Within, Z, full_handle, word}
use Rattle.tide_c.proofs.handle.Handle.seal.Code as code
use Rattle.tide_c.proofs.handle.Handle.seal.Statement.{statement}
use Rattle.tide_c.specs.Parties.{PartyStands}
use Rattle.tide_c.specs.contracts.handle.Handle.seal as f
use base.Logic.{SProp, emp, ent, id⊢}
use contract.Monad.{fact, fact_i}
use contract.Running.{tables}
use denote.Exit.{yes}
use denote.RattleType.{owns}
use denote.RawPtr.{block_ptr}
use denote.Signature.{plain, types_at}
use denote.Steps.{heard, nothing}
use denote.Triple.Entry.{alive}
use denote.Triple.Walked.{Goes-dropped, Stays, stay_dropped, walk_of}
use mir.Val.{Val, vptr}
use prog.Wp.{WpFn}
use types.ByLocal.{alloc_all, free_all, get, get_in, look_at, pass_all, sets}
use types.Kit.{◌$◌, ◌∵◌, ◌⊛◌, ‵, !, by, fjoin, fsplit, keep, move, qed, raw, split, suffices, use0}
use types.Part.{agg, sub, whole}
use types.Run.{and_then, enter, fld, lit, no_more, of_opd, returns, stop}

pub seal_spec : {M : Type 1} → statement M
seal_spec 𝓤 𝓛 𝓜 𝓡 wired =
    let c = f.clauses 𝓛 𝓜.mem 𝓡.returns in let 𝓣 = tables 𝓤 𝓛.H 𝓜 𝓡 𝓡.env in
    let gone : Stays f.ended.signature.params f.ended.kept = (stay_dropped (plain (λ _. Apart)) yes, tt) in
    proved_at 𝓛 f.ended gone c 𝓜 𝓡 (Goes-dropped 𝓛 0 (plain (λ _. Apart)) yes (λ κs x w. refl), tt) f.Key.name code.function
    (code.unfolded 𝓤 𝓛.H 𝓜 𝓡 wired) (λ z are.
    let κs = z.0.0 in let x : Within.Denot = z.0.3.0.value in let Post : Val → SProp 𝓤 = (walk_of 𝓛 f.ended gone c).post z in
    let From : List Val → SProp 𝓤 = λ ws. WpFn 𝓤 𝓛.H 𝓣.C 𝓣.Λ code.function ws Post in
    qed 𝓛 ((raw (alive 𝓛 f.ended.signature κs z.0.1) ⊛ ‵ (owns (types_at f.ended.signature.params κs) z.0.3 z.0.4)) ∷ raw ((c κs z.0.3).requires z.1) ∷ []) ∵
    split ! $ move ! (1 ∷ []) $ fsplit ! $ block_apart Within Z LZ ghosts ! z.0.3.0 z.0.4.0 (λ b o h at is_word fits.
    -- [what the block owned; the allocator's handle; nothing; the tokens; what is asked]
    move ! (4 ∷ []) $ heard ! (PartyStands x) (λ stands. let w : Val = pair h (vptr b o) in
    let made : Row.Denot = record { at = block_ptr b o; full = 1; value = Some x } in let is_it = made.value ≡ Some x in
    suffices ! (From (w ∷ [])) (subst (λ (ws : List Val). ent 𝓤 (From (w ∷ [])) (From ws)) (sym (ap (λ (ws : List Val). ws ++ []) is_word)) (id⊢ 𝓤 _)) $
    keep ! (0 ∷ 3 ∷ []) $ enter ! 𝓣.C 𝓣.Λ code.function (w ∷ []) Post $
    alloc_all ! (λ l. pass_all ! refl (is_typed Within Z LZ ghosts b o h fits, tt) $
    sets ! (of_opd ! (get_in ! (fld ! refl (stop !)) (sub ! 1 refl (whole !)))) refl (tt, tt) $ sets ! (of_opd ! (get ! refl)) refl (tt, tt) $
    sets ! (agg ! (and_then ! (get ! refl) (and_then ! (lit ! tt) (no_more !)))) refl (tt, (tt, (record { fits = lit< tt }, tt))) $
    full_handle ! (block_ptr b o) x stands $ use0 𝓛 (raw (fact 𝓤 is_it)) (fact_i 𝓤 is_it (emp 𝓤) refl) $ move ! (1 ∷ []) $
    nothing ! $ nothing ! $ fjoin ! $ returns ! (look_at ! 0 refl) $ free_all ! refl $ keep ! (3 ∷ 0 ∷ 1 ∷ 2 ∷ []) $
    by ! (leaves 𝓛 f.ended gone c z (word (block_ptr b o) 1) made (tt, tt) (tt, tt))))))
