use Rattle.std.proofs.Common.{ℕ, ◌≡◌, ap, cond, rules, true, ◌∙◌, Some}
use Rattle.std.specs.HashMap.{get}
use Rattle.std.specs.Prelude.{is_some, nat_eq}
use Rattle.tide_grow_shape.specs.growers.Grown.{known_keys}
use Rattle.tide_grow_shape.proofs.growers_laws.NumberedLaws.{children_linked}
use Rattle.tide_grow_shape.proofs.growers.grower.Grower.link.Goals as goal

pub returns-in-Ok : goal.returns-in-Ok
returns-in-Ok c =
    let known : is_some (known_keys c.args.self.now.known c.args.shape) ≡ true = search rules in
    children_linked c.args.self.now c.args.shape c.args.children.now c.insert.new.self c.in-Some.parent c.in-Some.key c.requires (search rules) known c.in-Some.ensures.some
    (λ q. c.in-Ok.ensures.updates.0 q ∙ ap (λ (n : ℕ). cond (nat_eq n q) (Some c.args.shape) (get nat_eq c.args.children.now q)) c.pair_number.ensures)
