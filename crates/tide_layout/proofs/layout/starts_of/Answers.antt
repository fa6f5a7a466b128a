-- Why `starts_of` meets its contract.
use Rattle.std.proofs.Common.{ℕ, ◌≡◌, ◌+◌, arith, get_or, length, length-set, sum, take, inl, inr, ap, sym, ◌∙◌}
use Rattle.std.proofs.lemmas.Bool.{cases_eq}
use Rattle.std.proofs.lemmas.Grind.{get_or-set_at}
use Rattle.std.proofs.lemmas.List.{get_or-set_other}
use Rattle.std.proofs.lemmas.List.Sums.{sum_by_more}
use Rattle.tide_layout.proofs.layout.starts_of.Goals as goal

pub loop-tag-preserved : goal.loop-tag-preserved
loop-tag-preserved c =
    let tag = c.loop-tag.tag in
    let all : length c.loop-tag.starts ≡ 23 = c.loop-tag.invariant.all in
    let before = c.loop-tag.invariant.each in
    let here = before tag (omega arith) in
    let more = sum_by_more (λ (x : ℕ). x) c.args.rooms.now tag 0 (omega arith) in
    let next : ℕ = get_or c.loop-tag.starts tag 0 + get_or c.args.rooms.now tag 0 in
    record {
      all = length-set c.loop-tag.starts (tag + 1) next ∙ all;
      each = λ k h. elim (cases_eq k (tag + 1)) [
        | inl last ↦ get_or-set_at c.loop-tag.starts (tag + 1) k next 0 last (omega (arith, all))
            ∙ (let now : next ≡ sum (take (tag + 1) c.args.rooms.now) = omega (arith, here, more) in now)
            ∙ ap (λ (n : ℕ). sum (take n c.args.rooms.now)) (sym last)
        | inr other ↦ get_or-set_other c.loop-tag.starts (tag + 1) k next 0 other ∙ before k (omega arith)
      ];
    }
