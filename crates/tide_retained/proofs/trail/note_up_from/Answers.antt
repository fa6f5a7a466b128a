-- One more cell was noted: the one before the last of those that were.
use Rattle.std.proofs.Common.{ℕ, ◌≡◌, ◌+◌, ◌-◌, ◌<◌, length, arith, ap, sym, refl, ◌∙◌, inl, inr, get_or, get_or-set_same, get_or-set_other, length-set}
use Rattle.std.specs.Prelude.{slice_set}
use Rattle.std.proofs.lemmas.Bool.{cases_eq}
use Rattle.tide_retained.specs.Trail.{above, parent_in}
use Rattle.tide_retained.proofs.TrailLaws.{above-add, above-none, above-one}
use Rattle.tide_retained.proofs.trail.note_up_from.Goals as goal

pub loop-left-init : goal.loop-left-init
loop-left-init c =
    let none : c.args.count - c.args.count ≡ 0 = omega arith in
    record {
      few = omega arith;
      same_size = refl;
      next = sym (ap (λ (n : ℕ). above c.args.found.now n c.args.last) none ∙ above-none c.args.found.now c.args.last);
      each = λ k from below. absurd (omega (arith, from, below));
    }

pub loop-left-preserved : goal.loop-left-preserved
loop-left-preserved c =
    let found = c.args.found.now in
    let last = c.args.last in
    let count = c.args.count in
    let left = c.loop-left.left in
    let cells = c.loop-left.cells in
    let few = c.loop-left.invariant.few in
    let next = c.loop-left.invariant.next in
    let some = c.loop-left-test.true in
    let one_more : count - left + 1 ≡ count - (left - 1) = omega (arith, few, some) in
    let within : left - 1 < length cells = (let size = c.loop-left.invariant.same_size in let room = c.requires.room in omega (arith, few, some, size, room)) in
    record {
      few = omega (arith, few);
      same_size = length-set cells (left - 1) c.loop-left.at ∙ c.loop-left.invariant.same_size;
      next = c.parent_of-at.ensures ∙ ap (parent_in found) next ∙ sym (above-one found (above found (count - left) last))
          ∙ sym (above-add found (count - left) 1 last) ∙ ap (λ (n : ℕ). above found n last) one_more;
      each = λ k from below. elim (cases_eq k (left - 1)) [
        | inl same ↦
            let here : count - left ≡ count - 1 - k = omega (arith, same, some, few) in
            ap (λ (j : ℕ). get_or (slice_set cells (left - 1) c.loop-left.at) j 0) same ∙ get_or-set_same cells (left - 1) c.loop-left.at 0 within
            ∙ next ∙ ap (λ (n : ℕ). above found n last) here
        | inr apart ↦ get_or-set_other cells (left - 1) k c.loop-left.at 0 apart ∙ c.loop-left.invariant.each k (omega (arith, from, apart)) below
      ];
    }
