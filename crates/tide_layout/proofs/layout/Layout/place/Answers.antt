-- Why `place` meets its contract.
use Rattle.std.proofs.Common.{ℕ, ◌≡◌, ◌+◌, ◌*◌, ◌<◌, ◌∙◌, arith, ap, get_or, subst, sym}
use Rattle.tide_model.specs.Layout.{Layout}
use Rattle.tide_layout.specs.Layout.{layout_of}
use Rattle.tide_layout.specs.Limits.{IsWithinLimits}
use Rattle.tide_layout.specs.Region.{base_of, gap, gaps_before, place_in, tag, AreApart}
use Rattle.tide_layout.proofs.LimitLaws.{word_count-few}
use Rattle.tide_layout.proofs.Places.{place_in-alone, place_in-below, place_in-is, place_in-owners_apart}
use Rattle.tide_layout.proofs.StartLaws.{starts_of-base}
use Rattle.tide_layout.proofs.layout.Layout.place.Goals as goal

-- the gaps before the word are those of the layout
gaps : (c : goal.After-result-1) → c.gaps_before-gaps.result ≡ gaps_before c.args.self.now c.args.region c.args.index
gaps c = c.gaps_before-gaps.ensures ∙ ap (λ (l : Layout). gaps_before l c.args.region c.args.index) c.self.view_is

-- the place is small
small : (c : goal.After-result-1) → base_of c.args.self.now c.args.region + c.args.index + gap * c.gaps_before-gaps.result < 3149272505
small c =
    let below = place_in-below c.args.self.now c.args.region c.args.index c.requires in
    let is = place_in-is c.args.self.now c.args.region c.args.index in
    let few = word_count-few c.args.self.now (subst IsWithinLimits c.self.view_is c.self.invariant.limits) in
    omega (arith, below, is, few, gaps c)

-- the start that is read is that of the region
start : (c : goal.After-result-1) → get_or c.self.inside.starts c.from.result 0 ≡ base_of c.args.self.now c.args.region
start c =
    ap (λ (n : ℕ). get_or c.self.inside.starts n 0) (c.from.ensures ∙ c.tag.ensures.tag)
    ∙ ap (λ starts. get_or starts (tag c.args.region) 0) c.self.invariant.begins
    ∙ starts_of-base (layout_of c.self.inside.numbers) c.args.region
    ∙ ap (λ (l : Layout). base_of l c.args.region) c.self.view_is

pub overflow_mul-result : goal.overflow_mul-result
overflow_mul-result c = let few = small c in omega (arith, few)

pub overflow_add-result : goal.overflow_add-result
overflow_add-result c = let few = small c in omega (arith, few)

pub returns-clause-place : goal.returns-clause-place
returns-clause-place c =
    let at = start c in
    let is = place_in-is c.args.self.now c.args.region c.args.index in
    omega (arith, at, is, gaps c)

pub returns-clause-within : goal.returns-clause-within
returns-clause-within c =
    let within = place_in-below c.args.self.now c.args.region c.args.index c.requires in
    let place = returns-clause-place c in
    omega (arith, within, place)

pub returns-clause-alone : goal.returns-clause-alone
returns-clause-alone c other at in_other same =
    place_in-alone c.args.self.now c.args.region other c.args.index at c.requires in_other (same ∙ returns-clause-place c)

pub returns-clause-apart : goal.returns-clause-apart
returns-clause-apart c other at in_other apart =
    subst (λ (place : ℕ). AreApart (place_in c.args.self.now other at) place) (sym (returns-clause-place c))
    (place_in-owners_apart c.args.self.now other c.args.region at c.args.index in_other c.requires apart)
