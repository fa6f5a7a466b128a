-- What a cell holds is entered, and then its group mates, if they weren't.
use Rattle.std.proofs.Common.{◌≡◌, sym, ◌∙◌, ap, true}
use Rattle.tide_retained.specs.declared.search.Found.{Found}
use Rattle.tide_retained.specs.Contents.{group_of}
use Rattle.tide_retained.specs.Searching.{held_entered, is_mated, group_mates_entered}
use Rattle.tide_retained.proofs.VisitLaws.{holds_entered, with_entered_group_mates, with_found_group_mates}
use Rattle.tide_retained.proofs.search.Search.visit.Goals.{else-held-ne0-via-then-held-ne0+else-not-is_mated, else-held-ne0-via-else-held-ne0}
use Rattle.tide_retained.proofs.search.Search.visit.Goals as goal

pub returns-in_ok-enter_group_mates : goal.returns-in_ok-enter_group_mates
returns-in_ok-enter_group_mates c =
    let contents = c.args.contents.now in
    let old = c.args.self.now in
    let held = c.in-Some.held.now in
    let before = c.requires.found.0 in
    let middle = c.enter_held.new.self in
    let members = c.of.result.now in
    let place = c.place_after-place.ensures before c.requires.found.1 in
    let holds = c.in-Some.ensures.some in
    let entered = holds_entered contents old c.args.cell held before c.requires.search holds c.requires.found.1 middle
    (c.in_ok-enter_held.ensures ∙ ap (λ (p : Found). held_entered p old held) place) in
    with_entered_group_mates contents c.args.groups.now members old middle c.args.cell held.group before entered c.requires.groups c.of.ensures (ap group_of holds) c.if-held-ne0.true
    c.enter_group_mates.new.self (c.in_ok-enter_group_mates.ensures ∙ ap (λ (p : Found). group_mates_entered p middle members) place)

pub returns-else-held-ne0 : goal.returns-else-held-ne0
returns-else-held-ne0 c =
    let contents = c.args.contents.now in
    let old = c.args.self.now in
    let held = c.in-Some.held.now in
    let before = c.requires.found.0 in
    let middle = c.enter_held.new.self in
    let place = c.place_after-place.ensures before c.requires.found.1 in
    let holds = c.in-Some.ensures.some in
    let entered = holds_entered contents old c.args.cell held before c.requires.search holds c.requires.found.1 middle
    (c.in_ok-enter_held.ensures ∙ ap (λ (p : Found). held_entered p old held) place) in
    elim c.else-held-ne0.branch [
      | else-held-ne0-via-then-held-ne0+else-not-is_mated w ↦
          let mated : is_mated middle c.args.cell ≡ true = sym w.is_mated.ensures ∙ w.if-not-is_mated.false in
          with_found_group_mates contents old middle c.args.cell before entered (λ group_mate pair. entered.search.group_mates c.args.cell group_mate mated pair)
      | else-held-ne0-via-else-held-ne0 w ↦
          with_found_group_mates contents old middle c.args.cell before entered (λ group_mate pair. absurd (pair.1 (sym pair.0 ∙ ap group_of holds ∙ w.if-held-ne0.false)))
    ]
