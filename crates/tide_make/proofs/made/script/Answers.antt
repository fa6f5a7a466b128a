-- Each round puts its own operations behind those before it.
use Rattle.std.proofs.Common.{◌≡◌, ◌∙◌, ◌+◌, ◌++◌, ap, ap₂, sym, rules, arith, List, ℕ}
use Rattle.tide_model.specs.declared.op.Op.{Op}
use Rattle.tide_make.specs.Made.{rounds_of, script_of}
use Rattle.tide_make.specs.Rounds.{next_seed, round_ops, seed_after}
use Rattle.tide_make.proofs.Laws.{rounds_more, seed_more}
use Rattle.tide_make.proofs.made.script.Goals as goal

pub loop-round-init : goal.loop-round-init
unfolding rounds_of seed_after
loop-round-init c = record { ops = search rules; seed = search rules }

pub loop-round-preserved : goal.loop-round-preserved
loop-round-preserved c =
    let round = c.loop-round.round in
    let seed : c.next_seed-seed.result ≡ seed_after c.args.number c.args.mutator (round + 1) =
    c.next_seed-seed.ensures ∙ ap next_seed c.loop-round.invariant.seed ∙ sym (seed_more c.args.number c.args.mutator round) in
    let pushed : c.push_round.new.ops.items ≡ c.loop-round.ops.items ++ round_ops c.args.mutator c.loop-round.round c.next_seed-seed.result = search rules in
    record {
      ops = pushed ∙ ap₂ (λ (before : List Op) (drawn : ℕ). before ++ round_ops c.args.mutator round drawn) c.loop-round.invariant.ops seed
          ∙ sym (rounds_more c.args.number c.args.mutator round);
      seed = seed;
    }

pub returns : goal.returns
unfolding script_of
returns c =
    let all : c.loop-round.round ≡ 4000 = omega (arith, c.loop-round-test.false, c.loop-round.auto.round-end) in
    c.loop-round.invariant.ops ∙ ap (rounds_of c.args.number c.args.mutator) all
