-- Piece by piece: what stands in the line is what stood there and the pieces so far, which the operation's text is at
-- last.
use Rattle.std.proofs.Common.{◌≡◌, ◌∙◌, ap, sym, List, ℕ}
use Rattle.std.specs.Prelude.{◌++◌, codes}
use Rattle.tide_model.specs.declared.op.Op.{Op}
use Rattle.tide_text.specs.lines.OpText.{op_text}
use Rattle.tide_text.proofs.lines_laws.PieceLemmas.{Put, number, property, register, registers, word}
use Rattle.tide_text.proofs.lines.line.Line.op.Goals as goal

-- the pieces are the text of the operation that was matched
told : (keys : List (List ℕ)) (op : Op) {matched : Op} {before now : List ℕ} → matched ≡ op → Put before (op_text keys op) now → now ≡ before ++ op_text keys matched
told keys op {before = before} is put = put.is ∙ ap (λ (o : Op). before ++ op_text keys o) (sym is)

pub returns-in-Alloc-clause-same_reference : goal.returns-in-Alloc-clause-same_reference
returns-in-Alloc-clause-same_reference g c = c.operand.ensures.same_reference ∙ c.register.ensures.same_reference ∙ c.text.ensures.same_reference

pub returns-in-Alloc-clause-value : goal.returns-in-Alloc-clause-value
unfolding op_text
returns-in-Alloc-clause-value g c = told c.args.keys.now _ c.in-Alloc.is (number c.in-Alloc.class (register c.in-Alloc.dst (word c.args.self.now (codes "alloc") c.text.ensures.value) c.register.ensures.value) c.operand.ensures.value)

pub returns-in-Table-clause-same_reference : goal.returns-in-Table-clause-same_reference
returns-in-Table-clause-same_reference g c = c.register-in-Table.ensures.same_reference ∙ c.text-in-Table.ensures.same_reference

pub returns-in-Table-clause-value : goal.returns-in-Table-clause-value
unfolding op_text
returns-in-Table-clause-value g c = told c.args.keys.now _ c.in-Table.is (register c.in-Table.dst (word c.args.self.now (codes "table") c.text-in-Table.ensures.value) c.register-in-Table.ensures.value)

pub returns-in-Get-clause-same_reference : goal.returns-in-Get-clause-same_reference
returns-in-Get-clause-same_reference g c = c.operand-in-Get.ensures.same_reference ∙ c.registers.ensures.same_reference ∙ c.text-in-Get.ensures.same_reference

pub returns-in-Get-clause-value : goal.returns-in-Get-clause-value
unfolding op_text
returns-in-Get-clause-value g c = told c.args.keys.now _ c.in-Get.is (number c.in-Get.slot (registers c.in-Get.dst c.in-Get.src (word c.args.self.now (codes "get") c.text-in-Get.ensures.value) c.registers.ensures.value) c.operand-in-Get.ensures.value)

pub returns-in-Put-clause-same_reference : goal.returns-in-Put-clause-same_reference
returns-in-Put-clause-same_reference g c = c.register-in-Put-2.ensures.same_reference ∙ c.operand-in-Put.ensures.same_reference ∙ c.register-in-Put.ensures.same_reference ∙ c.text-in-Put.ensures.same_reference

pub returns-in-Put-clause-value : goal.returns-in-Put-clause-value
unfolding op_text
returns-in-Put-clause-value g c = told c.args.keys.now _ c.in-Put.is (register c.in-Put.val (number c.in-Put.slot (register c.in-Put.src (word c.args.self.now (codes "put") c.text-in-Put.ensures.value) c.register-in-Put.ensures.value) c.operand-in-Put.ensures.value) c.register-in-Put-2.ensures.value)

pub returns-in-Move-clause-same_reference : goal.returns-in-Move-clause-same_reference
returns-in-Move-clause-same_reference g c = c.registers-in-Move.ensures.same_reference ∙ c.text-in-Move.ensures.same_reference

pub returns-in-Move-clause-value : goal.returns-in-Move-clause-value
unfolding op_text
returns-in-Move-clause-value g c = told c.args.keys.now _ c.in-Move.is (registers c.in-Move.dst c.in-Move.src (word c.args.self.now (codes "move") c.text-in-Move.ensures.value) c.registers-in-Move.ensures.value)

pub returns-in-Set-clause-same_reference : goal.returns-in-Set-clause-same_reference
returns-in-Set-clause-same_reference g c = c.operand-in-Set.ensures.same_reference ∙ c.register-in-Set.ensures.same_reference ∙ c.text-in-Set.ensures.same_reference

pub returns-in-Set-clause-value : goal.returns-in-Set-clause-value
unfolding op_text
returns-in-Set-clause-value g c = told c.args.keys.now _ c.in-Set.is (number c.in-Set.n (register c.in-Set.dst (word c.args.self.now (codes "set") c.text-in-Set.ensures.value) c.register-in-Set.ensures.value) c.operand-in-Set.ensures.value)

pub returns-in-Drop-clause-same_reference : goal.returns-in-Drop-clause-same_reference
returns-in-Drop-clause-same_reference g c = c.register-in-Drop.ensures.same_reference ∙ c.text-in-Drop.ensures.same_reference

pub returns-in-Drop-clause-value : goal.returns-in-Drop-clause-value
unfolding op_text
returns-in-Drop-clause-value g c = told c.args.keys.now _ c.in-Drop.is (register c.in-Drop.dst (word c.args.self.now (codes "drop") c.text-in-Drop.ensures.value) c.register-in-Drop.ensures.value)

pub returns-in-Claim-clause-same_reference : goal.returns-in-Claim-clause-same_reference
returns-in-Claim-clause-same_reference g c = c.register-in-Claim.ensures.same_reference ∙ c.text-in-Claim.ensures.same_reference

pub returns-in-Claim-clause-value : goal.returns-in-Claim-clause-value
unfolding op_text
returns-in-Claim-clause-value g c = told c.args.keys.now _ c.in-Claim.is (register c.in-Claim.src (word c.args.self.now (codes "claim") c.text-in-Claim.ensures.value) c.register-in-Claim.ensures.value)

pub returns-in-Release-clause-same_reference : goal.returns-in-Release-clause-same_reference
returns-in-Release-clause-same_reference g c = c.register-in-Release.ensures.same_reference ∙ c.text-in-Release.ensures.same_reference

pub returns-in-Release-clause-value : goal.returns-in-Release-clause-value
unfolding op_text
returns-in-Release-clause-value g c = told c.args.keys.now _ c.in-Release.is (register c.in-Release.src (word c.args.self.now (codes "release") c.text-in-Release.ensures.value) c.register-in-Release.ensures.value)

pub returns-in-Unclaim-clause-same_reference : goal.returns-in-Unclaim-clause-same_reference
returns-in-Unclaim-clause-same_reference g c = c.text-in-Unclaim.ensures.same_reference

pub returns-in-Unclaim-clause-value : goal.returns-in-Unclaim-clause-value
unfolding op_text
returns-in-Unclaim-clause-value g c = told c.args.keys.now _ c.in-Unclaim.is (word c.args.self.now (codes "unclaim") c.text-in-Unclaim.ensures.value)

pub returns-in-Add-clause-same_reference : goal.returns-in-Add-clause-same_reference
returns-in-Add-clause-same_reference g c = c.register-in-Add.ensures.same_reference ∙ c.property.ensures.same_reference ∙ c.text-in-Add.ensures.same_reference

pub returns-in-Add-clause-value : goal.returns-in-Add-clause-value
unfolding op_text
returns-in-Add-clause-value g c = told c.args.keys.now _ c.in-Add.is (register c.in-Add.val (property c.args.keys.now c.in-Add.src c.in-Add.key (word c.args.self.now (codes "add") c.text-in-Add.ensures.value) c.property.ensures.value) c.register-in-Add.ensures.value)

pub returns-in-GetProp-clause-same_reference : goal.returns-in-GetProp-clause-same_reference
returns-in-GetProp-clause-same_reference g c = c.property-in-GetProp.ensures.same_reference ∙ c.register-in-GetProp.ensures.same_reference ∙ c.text-in-GetProp.ensures.same_reference

pub returns-in-GetProp-clause-value : goal.returns-in-GetProp-clause-value
unfolding op_text
returns-in-GetProp-clause-value g c = told c.args.keys.now _ c.in-GetProp.is (property c.args.keys.now c.in-GetProp.src c.in-GetProp.key (register c.in-GetProp.dst (word c.args.self.now (codes "getp") c.text-in-GetProp.ensures.value) c.register-in-GetProp.ensures.value) c.property-in-GetProp.ensures.value)

pub returns-in-SetProp-clause-same_reference : goal.returns-in-SetProp-clause-same_reference
returns-in-SetProp-clause-same_reference g c = c.register-in-SetProp.ensures.same_reference ∙ c.property-in-SetProp.ensures.same_reference ∙ c.text-in-SetProp.ensures.same_reference

pub returns-in-SetProp-clause-value : goal.returns-in-SetProp-clause-value
unfolding op_text
returns-in-SetProp-clause-value g c = told c.args.keys.now _ c.in-SetProp.is (register c.in-SetProp.val (property c.args.keys.now c.in-SetProp.src c.in-SetProp.key (word c.args.self.now (codes "setp") c.text-in-SetProp.ensures.value) c.property-in-SetProp.ensures.value) c.register-in-SetProp.ensures.value)

pub returns-in-StrongSet-clause-same_reference : goal.returns-in-StrongSet-clause-same_reference
returns-in-StrongSet-clause-same_reference g c = c.register-in-StrongSet.ensures.same_reference ∙ c.operand-in-StrongSet.ensures.same_reference ∙ c.text-in-StrongSet.ensures.same_reference

pub returns-in-StrongSet-clause-value : goal.returns-in-StrongSet-clause-value
unfolding op_text
returns-in-StrongSet-clause-value g c = told c.args.keys.now _ c.in-StrongSet.is (register c.in-StrongSet.val (number c.in-StrongSet.at (word c.args.self.now (codes "strong") c.text-in-StrongSet.ensures.value) c.operand-in-StrongSet.ensures.value) c.register-in-StrongSet.ensures.value)

pub returns-in-StrongGet-clause-same_reference : goal.returns-in-StrongGet-clause-same_reference
returns-in-StrongGet-clause-same_reference g c = c.operand-in-StrongGet.ensures.same_reference ∙ c.register-in-StrongGet.ensures.same_reference ∙ c.text-in-StrongGet.ensures.same_reference

pub returns-in-StrongGet-clause-value : goal.returns-in-StrongGet-clause-value
unfolding op_text
returns-in-StrongGet-clause-value g c = told c.args.keys.now _ c.in-StrongGet.is (number c.in-StrongGet.at (register c.in-StrongGet.dst (word c.args.self.now (codes "sget") c.text-in-StrongGet.ensures.value) c.register-in-StrongGet.ensures.value) c.operand-in-StrongGet.ensures.value)

pub returns-in-WeakSet-clause-same_reference : goal.returns-in-WeakSet-clause-same_reference
returns-in-WeakSet-clause-same_reference g c = c.register-in-WeakSet.ensures.same_reference ∙ c.operand-in-WeakSet.ensures.same_reference ∙ c.text-in-WeakSet.ensures.same_reference

pub returns-in-WeakSet-clause-value : goal.returns-in-WeakSet-clause-value
unfolding op_text
returns-in-WeakSet-clause-value g c = told c.args.keys.now _ c.in-WeakSet.is (register c.in-WeakSet.val (number c.in-WeakSet.at (word c.args.self.now (codes "weak") c.text-in-WeakSet.ensures.value) c.operand-in-WeakSet.ensures.value) c.register-in-WeakSet.ensures.value)

pub returns-in-WeakGet-clause-same_reference : goal.returns-in-WeakGet-clause-same_reference
returns-in-WeakGet-clause-same_reference g c = c.operand-in-WeakGet.ensures.same_reference ∙ c.register-in-WeakGet.ensures.same_reference ∙ c.text-in-WeakGet.ensures.same_reference

pub returns-in-WeakGet-clause-value : goal.returns-in-WeakGet-clause-value
unfolding op_text
returns-in-WeakGet-clause-value g c = told c.args.keys.now _ c.in-WeakGet.is (number c.in-WeakGet.at (register c.in-WeakGet.dst (word c.args.self.now (codes "wget") c.text-in-WeakGet.ensures.value) c.register-in-WeakGet.ensures.value) c.operand-in-WeakGet.ensures.value)

pub returns-in-PairSet-clause-same_reference : goal.returns-in-PairSet-clause-same_reference
returns-in-PairSet-clause-same_reference g c = c.register-in-PairSet.ensures.same_reference ∙ c.registers-in-PairSet.ensures.same_reference ∙ c.text-in-PairSet.ensures.same_reference

pub returns-in-PairSet-clause-value : goal.returns-in-PairSet-clause-value
unfolding op_text
returns-in-PairSet-clause-value g c = told c.args.keys.now _ c.in-PairSet.is (register c.in-PairSet.val (registers c.in-PairSet.src c.in-PairSet.key (word c.args.self.now (codes "pair") c.text-in-PairSet.ensures.value) c.registers-in-PairSet.ensures.value) c.register-in-PairSet.ensures.value)

pub returns-in-PairGet-clause-same_reference : goal.returns-in-PairGet-clause-same_reference
returns-in-PairGet-clause-same_reference g c = c.registers-in-PairGet.ensures.same_reference ∙ c.register-in-PairGet.ensures.same_reference ∙ c.text-in-PairGet.ensures.same_reference

pub returns-in-PairGet-clause-value : goal.returns-in-PairGet-clause-value
unfolding op_text
returns-in-PairGet-clause-value g c = told c.args.keys.now _ c.in-PairGet.is (registers c.in-PairGet.src c.in-PairGet.key (register c.in-PairGet.dst (word c.args.self.now (codes "pget") c.text-in-PairGet.ensures.value) c.register-in-PairGet.ensures.value) c.registers-in-PairGet.ensures.value)

pub returns-in-PairDel-clause-same_reference : goal.returns-in-PairDel-clause-same_reference
returns-in-PairDel-clause-same_reference g c = c.registers-in-PairDel.ensures.same_reference ∙ c.text-in-PairDel.ensures.same_reference

pub returns-in-PairDel-clause-value : goal.returns-in-PairDel-clause-value
unfolding op_text
returns-in-PairDel-clause-value g c = told c.args.keys.now _ c.in-PairDel.is (registers c.in-PairDel.src c.in-PairDel.key (word c.args.self.now (codes "pdel") c.text-in-PairDel.ensures.value) c.registers-in-PairDel.ensures.value)

pub returns-in-Group-clause-same_reference : goal.returns-in-Group-clause-same_reference
returns-in-Group-clause-same_reference g c = c.operand-in-Group.ensures.same_reference ∙ c.register-in-Group.ensures.same_reference ∙ c.text-in-Group.ensures.same_reference

pub returns-in-Group-clause-value : goal.returns-in-Group-clause-value
unfolding op_text
returns-in-Group-clause-value g c = told c.args.keys.now _ c.in-Group.is (number c.in-Group.n (register c.in-Group.src (word c.args.self.now (codes "group") c.text-in-Group.ensures.value) c.register-in-Group.ensures.value) c.operand-in-Group.ensures.value)

pub returns-in-Collect-clause-same_reference : goal.returns-in-Collect-clause-same_reference
returns-in-Collect-clause-same_reference g c = c.text-in-Collect.ensures.same_reference

pub returns-in-Collect-clause-value : goal.returns-in-Collect-clause-value
unfolding op_text
returns-in-Collect-clause-value g c = told c.args.keys.now _ c.in-Collect.is (word c.args.self.now (codes "collect") c.text-in-Collect.ensures.value)

pub returns-in-Retire-clause-same_reference : goal.returns-in-Retire-clause-same_reference
returns-in-Retire-clause-same_reference g c = c.text-in-Retire.ensures.same_reference

pub returns-in-Retire-clause-value : goal.returns-in-Retire-clause-value
unfolding op_text
returns-in-Retire-clause-value g c = told c.args.keys.now _ c.in-Retire.is (word c.args.self.now (codes "retire") c.text-in-Retire.ensures.value)
