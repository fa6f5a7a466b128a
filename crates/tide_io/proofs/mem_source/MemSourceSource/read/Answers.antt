-- Answers to the goals of mem_source::MemSourceSource::read.
use Rattle.std.proofs.Common.{◌≡◌, ℕ, ◌+◌, ◌<◌, min, List, [], ◌++◌, length, take, drop, arith, sym, ap, ◌∙◌, take-append-drop, length-drop, drop-drop}
use Rattle.std.proofs.lemmas.List.{take_rest, drop_all}
use Rattle.tide_io.proofs.mem_source.MemSourceSource.read.Goals as goal

-- what came, and what is left of all the bytes, are what was left before
given_and_left : (all left from new : List ℕ) (at n : ℕ) → left ≡ drop at all → from ≡ drop at all → take n new ≡ take n from
    → left ≡ take n new ++ drop (at + n) all
given_and_left all left from new at n same source front =
    same ∙ sym (take-append-drop n (drop at all)) ∙ ap (λ l. take n (drop at all) ++ l) (drop-drop n at all)
    ∙ ap (λ l. l ++ drop (at + n) all) (sym (front ∙ ap (take n) source))

-- nothing came though there was room, so nothing is left
none_left : (all from : List ℕ) (at n most room : ℕ) → from ≡ drop at all → n ≡ min most (min room (length from)) → 0 < most → 0 < room → n ≡ 0
    → drop (at + n) all ≡ []
none_left all from at n most room source count some space none =
    drop_all (at + n) all (omega (arith, length-drop at all, ap length source))

pub returns-clause-bytes : goal.returns-clause-bytes
returns-clause-bytes c =
    let all = c.self.inside.bytes.items in
    let at = c.self.inside.at in
    let left = ap (λ s. s.left) (sym c.self.view_is) in
    let source = take_rest c.deref.result.now at ∙ ap (drop at) c.deref.ensures.value in (
      given_and_left all _ _ c.copy_front-count.new.to at c.copy_front-count.result left source c.copy_front-count.ensures.front,
      λ none _. none_left all _ at _ _ _ source c.copy_front-count.ensures.count (omega arith) c.requires none,
    )
