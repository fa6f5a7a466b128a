-- A handle of zeros owns nothing.
use Rattle.std.proofs.Common.{◌≡◌, [], ◌∷◌, lit<, refl}
use Rattle.std.proofs.raw_atomic.Walks.{leaves, proved}
use Rattle.std.specs.Prelude.{None}
use Rattle.tide_c.proofs.Handles.{Row, empty_handle, word}
use Rattle.tide_c.proofs.handle.Handle.empty.Code as code
use Rattle.tide_c.proofs.handle.Handle.empty.Statement.{statement}
use Rattle.tide_c.specs.contracts.handle.Handle.empty as f
use base.Fml.{ftrue}
use base.Logic.{emp}
use contract.Monad.{fact, fact_i}
use contract.Running.{tables}
use denote.RawPtr.{null_ptr}
use denote.Steps.{nothing}
use denote.Triple.Entry.{alive}
use denote.Triple.Walked.{walk_of}
use types.ByLocal.{alloc_all, free_all, look_at, pass_all, sets}
use types.Kit.{◌$◌, ◌∵◌, ◌⊛◌, ‵, !, by, keep, qed, raw, split, use0}
use types.Part.{agg}
use types.Run.{and_then, enter, lit, no_more, returns}

pub empty_spec : {M : Type 1} → statement M
empty_spec 𝓤 𝓛 𝓜 𝓡 wired =
    let c = f.clauses 𝓛 𝓜.mem 𝓡.returns in let W = walk_of 𝓛 f.ended tt c in let 𝓣 = tables 𝓤 𝓛.H 𝓜 𝓡 𝓡.env in
    let made : Row.Denot = record { at = null_ptr; full = 0; value = None } in let is_empty = made.value ≡ None in
    proved 𝓛 f.ended tt c 𝓜 𝓡 tt f.Key.name code.function (code.unfolded 𝓤 𝓛.H 𝓜 𝓡 wired) (λ κs. tt) (λ κs. tt) (λ κs qs bounds a given are.
    let z : W.Ghost = ((κs, qs, bounds, a, tt), given) in
    qed 𝓛 ((raw (alive 𝓛 f.ended.signature κs qs) ⊛ ‵ ftrue) ∷ raw ((c κs a).requires given) ∷ []) ∵ split ! $ keep ! (0 ∷ []) $
    enter ! 𝓣.C 𝓣.Λ code.function [] (W.post z) $ alloc_all ! (λ l. pass_all ! refl tt $
    sets ! (agg ! (and_then ! (lit ! tt) (and_then ! (lit ! tt) (no_more !)))) refl (tt, (record { fits = lit< tt }, (record { fits = lit< tt }, tt))) $
    use0 𝓛 (raw (fact 𝓤 is_empty)) (fact_i 𝓤 is_empty (emp 𝓤) refl) $ empty_handle ! $ nothing ! $
    returns ! (look_at ! 0 refl) $ free_all ! refl $ keep ! (3 ∷ 0 ∷ 1 ∷ 2 ∷ []) $
    by ! (leaves 𝓛 f.ended tt c z (word null_ptr 0) made tt tt)))
