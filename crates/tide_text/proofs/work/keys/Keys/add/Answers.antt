use Rattle.std.proofs.Common.{◌≡◌, ◌∙◌, ◌++◌, [], ◌∷◌, false, ap, sym, arith, if◌then◌else◌}
use Rattle.std.proofs.lemmas.Grind.{common_steps}
use Rattle.tide_text.specs.work.Keys.{is_named}
use Rattle.tide_text.proofs.work_laws.KeyLemmas.{inserted_key}
use Rattle.tide_text.proofs.work.keys.Keys.add.Goals as goal

pub invariant_of-self-in_ok-insert : goal.invariant_of-self-in_ok-insert
invariant_of-self-in_ok-insert c =
    let new : is_named c.args.self.now c.args.name.now ≡ false = grind (arith, common_steps) in
    (inserted_key c.self.inside.names.keys c.insert.new.self.keys c.in_ok-to_vec.field-0 c.args.self.now c.args.name.now c.in_ok-insert.ensures.keys
    (c.in_ok-to_vec.ensures.items_if_clones_equal (λ x y e. e)) c.self.view_is c.self.invariant c.requires.room c.requires.key new).1

pub returns-in_ok-insert : goal.returns-in_ok-insert
returns-in_ok-insert c =
    let new : is_named c.args.self.now c.args.name.now ≡ false = grind (arith, common_steps) in
    (inserted_key c.self.inside.names.keys c.insert.new.self.keys c.in_ok-to_vec.field-0 c.args.self.now c.args.name.now c.in_ok-insert.ensures.keys
    (c.in_ok-to_vec.ensures.items_if_clones_equal (λ x y e. e)) c.self.view_is c.self.invariant c.requires.room c.requires.key new).0
    ∙ ap (λ there. if there then c.args.self.now else c.args.self.now ++ c.args.name.now ∷ []) (sym new)
