use Rattle.std.proofs.Common.{◌≡◌, ◌∙◌, ap, append_assoc, List, ℕ}
use Rattle.std.specs.Prelude.{◌++◌, codes, decimal}
use Rattle.tide_text.specs.lines.FaultLine.{fault_text}
use Rattle.tide_text.specs.work.FieldNames.{name_of}
use Rattle.tide_text.proofs.lines.line.Line.fault.Goals as goal

pub returns-in-Missing-clause-value : goal.returns-in-Missing-clause-value
unfolding fault_text
returns-in-Missing-clause-value g c =
    rw (c.in-Missing.is, c.text-in-Missing-2.ensures.value, c.text-in-Missing.ensures.value, c.name.ensures.value)
    (append_assoc c.args.self.now (codes "missing field ") (name_of c.in-Missing.field))

-- a text and a number, twice, after what stands there
two_numbers : (before first n second m : List ℕ) →
    before ++ first ++ codes " " ++ n ++ second ++ codes " " ++ m ≡ before ++ (first ++ (codes " " ++ n) ++ second ++ (codes " " ++ m))
two_numbers before first n second m =
    let one = append_assoc (before ++ first) (codes " ") n ∙ append_assoc before first (codes " " ++ n) in
    let both = ap (λ (done : List ℕ). done ++ second) one ∙ append_assoc before (first ++ (codes " " ++ n)) second in
    append_assoc (before ++ first ++ codes " " ++ n ++ second) (codes " ") m ∙ ap (λ (done : List ℕ). done ++ (codes " " ++ m)) both
    ∙ append_assoc before (first ++ (codes " " ++ n) ++ second) (codes " " ++ m)

pub returns-in-BadOp-clause-value : goal.returns-in-BadOp-clause-value
unfolding fault_text
returns-in-BadOp-clause-value g c =
    rw (c.in-BadOp.is, c.operand-in-BadOp.ensures.value, c.text-in-BadOp-2.ensures.value, c.operand.ensures.value, c.text-in-BadOp.ensures.value)
    (two_numbers c.args.self.now (codes "bad op") (decimal c.in-BadOp.at) (codes " of mutator") (decimal c.in-BadOp.mutator))
