-- Why `after` meets its contract.
use Rattle.std.proofs.Common.{◌+◌, ◌∙◌, sym, refl}
use Rattle.tide_block.proofs.BitLaws.{lowest-shifted, clear-shifted, lowest-not_clear}
use Rattle.tide_block.proofs.bits.after.Goals as goal

pub returns-in_err-steps-clause-none : goal.returns-in_err-steps-clause-none
returns-in_err-steps-clause-none c =
    let zero_above = sym c.in_ok-above.ensures.1 ∙ c.in_err-steps.ensures.none.0 refl in
    (λ _. clear-shifted c.args.word c.args.k zero_above, λ _. rw c.from_residual-in_err-steps.ensures refl)

pub returns-clause-none : goal.returns-clause-none
returns-clause-none c =
    let low = rw c.in_ok-above.ensures.1 at c.in_ok-steps.ensures.lowest in
    let found = lowest-shifted c.args.word c.args.k c.in_ok-steps.steps c.ranges.word.fits low in
    (λ bad. absurd (cc), λ clear. absurd (lowest-not_clear c.args.word c.args.k (c.args.k + c.in_ok-steps.steps) found clear))

pub returns-clause-lowest : goal.returns-clause-lowest
returns-clause-lowest c =
    let low = rw c.in_ok-above.ensures.1 at c.in_ok-steps.ensures.lowest in
    lowest-shifted c.args.word c.args.k c.in_ok-steps.steps c.ranges.word.fits low
