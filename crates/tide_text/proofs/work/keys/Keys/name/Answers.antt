use Rattle.std.proofs.Common.{◌≡◌, ◌<◌, ◌∙◌, true, arith, ap, sym, subst, ℕ, List, length, get_or, Vec, Global}
use Rattle.std.proofs.lemmas.Grind.{common_steps}
use Rattle.std.proofs.lemmas.Option.{get_or_from_slice_get}
use Rattle.tide_text.specs.work.Keys.{is_key}
use Rattle.tide_text.proofs.work_laws.SeenLemmas.{All-seen}
use Rattle.tide_text.proofs.work_laws.KeyLemmas.{key_sized}
use Rattle.tide_text.proofs.work.keys.Keys.name.Goals as goal

pub returns-clause-key : goal.returns-clause-key
returns-clause-key c =
    let within : c.args.key < length c.self.inside.names.keys = grind (arith, common_steps) in
    let key = All-seen (λ name. is_key name ≡ true) (λ (v : Vec ℕ Global). v.items) c.self.inside.names.keys c.args.key c.index.result.now within c.self.invariant.each in
    let same : c.as_slice.result.now ≡ (get_or c.self.inside.names.keys c.args.key c.index.result.now).items =
    c.as_slice.ensures.value
    ∙ ap (λ (v : Vec ℕ Global). v.items) (sym (get_or_from_slice_get c.self.inside.names.keys c.args.key c.index.result.now c.index.result.now c.index.ensures)) in
    subst (λ (name : List ℕ). is_key name ≡ true) (sym same) key

pub returns-clause-sized : goal.returns-clause-sized
returns-clause-sized c = key_sized c.as_slice.result.now (returns-clause-key c)
