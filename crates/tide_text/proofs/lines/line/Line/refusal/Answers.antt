-- Piece by piece: what stands in the line is what stood there and the refusal in words.
use Rattle.std.proofs.Common.{◌≡◌, ◌∙◌, ap, sym, List, ℕ}
use Rattle.std.specs.Prelude.{◌++◌, codes, decimal}
use Rattle.tide_model.specs.declared.op.Refusal.{Refusal}
use Rattle.tide_text.specs.lines.Line.{refusal_text}
use Rattle.tide_text.proofs.lines_laws.PieceLemmas.{Put, number, piece, word}
use Rattle.tide_text.proofs.lines.line.Line.refusal.Goals as goal

-- the pieces are the text of the refusal that was matched
told : (refusal : Refusal) {matched : Refusal} {before now : List ℕ} → matched ≡ refusal → Put before (refusal_text refusal) now → now ≡ before ++ refusal_text matched
told refusal {before = before} is put = put.is ∙ ap (λ (r : Refusal). before ++ refusal_text r) (sym is)

pub returns-in-NotCell-clause-value : goal.returns-in-NotCell-clause-value
unfolding refusal_text
returns-in-NotCell-clause-value g c = told _ c.in-NotCell.is (piece (codes " is no cell") (piece (decimal c.in-NotCell.reg) (word c.args.self.now (codes "r") c.text.ensures.value) c.number.ensures.value) c.text-in-NotCell.ensures.value)

pub returns-in-IsTable-clause-value : goal.returns-in-IsTable-clause-value
unfolding refusal_text
returns-in-IsTable-clause-value g c = told _ c.in-IsTable.is (word c.args.self.now (codes "is a table") c.text-in-IsTable.ensures.value)

pub returns-in-NotTable-clause-value : goal.returns-in-NotTable-clause-value
unfolding refusal_text
returns-in-NotTable-clause-value g c = told _ c.in-NotTable.is (word c.args.self.now (codes "no table") c.text-in-NotTable.ensures.value)

pub returns-in-NoSlot-clause-value : goal.returns-in-NoSlot-clause-value
unfolding refusal_text
returns-in-NoSlot-clause-value g c = told _ c.in-NoSlot.is (number c.in-NoSlot.slot (word c.args.self.now (codes "no slot") c.text-in-NoSlot.ensures.value) c.operand.ensures.value)

pub returns-in-Held-clause-value : goal.returns-in-Held-clause-value
unfolding refusal_text
returns-in-Held-clause-value g c = told _ c.in-Held.is (number c.in-Held.by (word c.args.self.now (codes "held by") c.text-in-Held.ensures.value) c.operand-in-Held.ensures.value)

pub returns-in-NotHeld-clause-value : goal.returns-in-NotHeld-clause-value
unfolding refusal_text
returns-in-NotHeld-clause-value g c = told _ c.in-NotHeld.is (word c.args.self.now (codes "not held") c.text-in-NotHeld.ensures.value)

pub returns-in-Present-clause-value : goal.returns-in-Present-clause-value
unfolding refusal_text
returns-in-Present-clause-value g c = told _ c.in-Present.is (word c.args.self.now (codes "present") c.text-in-Present.ensures.value)

pub returns-in-Absent-clause-value : goal.returns-in-Absent-clause-value
unfolding refusal_text
returns-in-Absent-clause-value g c = told _ c.in-Absent.is (word c.args.self.now (codes "absent") c.text-in-Absent.ensures.value)

pub returns-in-NoShape-clause-value : goal.returns-in-NoShape-clause-value
unfolding refusal_text
returns-in-NoShape-clause-value g c = told _ c.in-NoShape.is (word c.args.self.now (codes "no shape") c.text-in-NoShape.ensures.value)

pub returns-in-PairsFull-clause-value : goal.returns-in-PairsFull-clause-value
unfolding refusal_text
returns-in-PairsFull-clause-value g c = told _ c.in-PairsFull.is (word c.args.self.now (codes "pairs full") c.text-in-PairsFull.ensures.value)

pub returns-in-ClaimsFull-clause-value : goal.returns-in-ClaimsFull-clause-value
unfolding refusal_text
returns-in-ClaimsFull-clause-value g c = told _ c.in-ClaimsFull.is (word c.args.self.now (codes "claims full") c.text-in-ClaimsFull.ensures.value)

pub returns-in-Full-clause-value : goal.returns-in-Full-clause-value
unfolding refusal_text
returns-in-Full-clause-value g c = told _ c.in-Full.is (number c.in-Full.class (word c.args.self.now (codes "full") c.text-in-Full.ensures.value) c.operand-in-Full.ensures.value)
