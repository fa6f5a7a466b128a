-- Answers to the goals of starting::names_of.
use Rattle.std.proofs.Common.{ℕ, ◌<◌, ◌∙◌, ap, arith, length, map, sym, Vec, Global, Some}
use Rattle.tide_run.proofs.running_laws.Copies.{copy_more}
use Rattle.tide_run.proofs.running.starting.names_of.Goals as goal

pub loop-key-preserved : goal.loop-key-preserved
loop-key-preserved c =
    let keys = c.args.load.now.keys in
    let below : c.loop-key.key < length keys = omega (arith, c.loop-key-test.true, c.key_count-key-end.ensures.count) in
    ap (map (λ (name : Vec ℕ Global). name.items)) c.in_ok-append.ensures
    ∙ copy_more (λ (name : Vec ℕ Global). name.items) c.loop-key.names.items c.in_ok-name.name keys c.loop-key.key below c.loop-key.invariant
    (c.key_name.ensures.name ∙ ap Some (sym c.in_ok-name.ensures))
