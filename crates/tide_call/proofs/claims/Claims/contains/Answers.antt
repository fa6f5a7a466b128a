use Rattle.std.proofs.Common.{rules, ◌≡◌, ◌∙◌, ap, List, ℕ}
use Rattle.tide_model.specs.Numbers.{is_among}
use Rattle.tide_model.proofs.NumberLaws.{list_any-among}
use Rattle.tide_call.proofs.claims.Claims.contains.Goals as goal

pub returns : goal.returns
returns c =
    let cells : c.deref.result.now ≡ c.self.inside.cells.items = search rules in
    rw (← c.self.view_is)
    (c.contains.ensures.value ∙ list_any-among c.deref.result.now c.args.cell ∙ ap (λ (xs : List ℕ). is_among xs c.args.cell) cells)
