-- One more key is below the number.
use Rattle.std.proofs.Common.{ℕ, ◌<◌, ◌∙◌, sym, ap, subst, arith, get_or, inl, inr, length}
use Rattle.std.proofs.lemmas.Bool.{cases_eq}
use Rattle.std.proofs.lemmas.List.{get_or_default}
use Rattle.tide_model.specs.declared.val.Val.TheVariants.{Empty}
use Rattle.tide_retained.specs.declared.contents.Keyed.{Keyed}
use Rattle.tide_retained.proofs.known.behind_keys.Goals as goal

pub loop-pair-preserved : goal.loop-pair-preserved
loop-pair-preserved c =
    let pairs = c.args.pairs.now in
    let at = c.loop-pair.pair-index in
    let none : Keyed = record { key = 0; value = Empty } in
    let pair = get_or pairs at none in
    let within : at < length pairs = c.loop-pair-test.true in
    let few = c.requires.few pair (at, within, get_or_default pairs at pair none within) in
    let key = c.behind-known.ensures.cell in
    let least = c.behind-known.ensures.least in
    record {
      keys = λ k d below inside. elim (cases_eq k at) [
        | inl same ↦ subst (λ (p : Keyed). p.key < c.behind-known.result)
            (sym (ap (λ (i : ℕ). get_or pairs i none) same) ∙ get_or_default pairs k none d inside) key
        | inr apart ↦ (let old = c.loop-pair.invariant.keys k d (omega (arith, below, apart)) inside in omega (arith, old, least))
      ];
      least = (let before = c.loop-pair.invariant.least in omega (arith, before, least));
      most = elim c.behind-known.ensures.one [
        | inl same ↦ (let before = c.loop-pair.invariant.most in omega (arith, before, same))
        | inr next ↦ omega (arith, next, few)
      ];
    }

pub returns-clause-keys : goal.returns-clause-keys
returns-clause-keys c = λ entry at. (
    let below = at.1 in
    let end = c.loop-pair.auto.pair-index-end in
    let test = c.loop-pair-test.false in
    subst (λ (p : Keyed). p.key < c.loop-pair.known) at.2
    (c.loop-pair.invariant.keys at.0 entry (omega (arith, below, end, test)) below))
