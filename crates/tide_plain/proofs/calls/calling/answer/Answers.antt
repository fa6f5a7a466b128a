-- Each operation is called as it fits, and its call is one of that operation.
use Rattle.std.proofs.Common.{subst, sym, None}
use Rattle.tide_model.specs.declared.op.Op.{Op}
use Rattle.tide_model.specs.Lawful.{FitsLayout}
use Rattle.tide_plain.specs.calls.Calls.{IsCall}
use Rattle.tide_plain.proofs.calls.calling.answer.Goals as goal

pub alloc-requires : goal.alloc-requires
alloc-requires c = record { caller = c.requires.caller; served = subst (FitsLayout c.args.contents.now.layout) c.in-Alloc.is c.requires.fits }

pub returns-in-Alloc : goal.returns-in-Alloc
returns-in-Alloc c = subst (λ (op : Op). IsCall c.args.contents.now c.alloc.new.contents c.args.who op c.alloc.result None) (sym c.in-Alloc.is) c.alloc.ensures

pub table-requires : goal.table-requires
table-requires c = record { caller = c.requires.caller; served = subst (FitsLayout c.args.contents.now.layout) c.in-Table.is c.requires.fits }

pub returns-in-Table : goal.returns-in-Table
returns-in-Table c = subst (λ (op : Op). IsCall c.args.contents.now c.table.new.contents c.args.who op c.table.result None) (sym c.in-Table.is) c.table.ensures

pub get-requires : goal.get-requires
get-requires c = record { caller = c.requires.caller; served = subst (FitsLayout c.args.contents.now.layout) c.in-Get.is c.requires.fits }

pub returns-in-Get : goal.returns-in-Get
returns-in-Get c = subst (λ (op : Op). IsCall c.args.contents.now c.get.new.contents c.args.who op c.get.result None) (sym c.in-Get.is) c.get.ensures

pub put-requires : goal.put-requires
put-requires c = record { caller = c.requires.caller; served = subst (FitsLayout c.args.contents.now.layout) c.in-Put.is c.requires.fits }

pub returns-in-Put : goal.returns-in-Put
returns-in-Put c = subst (λ (op : Op). IsCall c.args.contents.now c.put.new.contents c.args.who op c.put.result None) (sym c.in-Put.is) c.put.ensures

pub move_register-requires : goal.move_register-requires
move_register-requires c = record { caller = c.requires.caller; served = subst (FitsLayout c.args.contents.now.layout) c.in-Move.is c.requires.fits }

pub returns-in-Move : goal.returns-in-Move
returns-in-Move c = subst (λ (op : Op). IsCall c.args.contents.now c.move_register.new.contents c.args.who op c.move_register.result None) (sym c.in-Move.is) c.move_register.ensures

pub set-requires : goal.set-requires
set-requires c = record { caller = c.requires.caller; served = subst (FitsLayout c.args.contents.now.layout) c.in-Set.is c.requires.fits }

pub returns-in-Set : goal.returns-in-Set
returns-in-Set c = subst (λ (op : Op). IsCall c.args.contents.now c.set.new.contents c.args.who op c.set.result None) (sym c.in-Set.is) c.set.ensures

pub drop_register-requires : goal.drop_register-requires
drop_register-requires c = record { caller = c.requires.caller; served = subst (FitsLayout c.args.contents.now.layout) c.in-Drop.is c.requires.fits }

pub returns-in-Drop : goal.returns-in-Drop
returns-in-Drop c = subst (λ (op : Op). IsCall c.args.contents.now c.drop_register.new.contents c.args.who op c.drop_register.result None) (sym c.in-Drop.is) c.drop_register.ensures

pub claim-requires : goal.claim-requires
claim-requires c = record { caller = c.requires.caller; served = subst (FitsLayout c.args.contents.now.layout) c.in-Claim.is c.requires.fits }

pub returns-in-Claim : goal.returns-in-Claim
returns-in-Claim c = subst (λ (op : Op). IsCall c.args.contents.now c.claim.new.contents c.args.who op c.claim.result None) (sym c.in-Claim.is) c.claim.ensures

pub release-requires : goal.release-requires
release-requires c = record { caller = c.requires.caller; served = subst (FitsLayout c.args.contents.now.layout) c.in-Release.is c.requires.fits }

pub returns-in-Release : goal.returns-in-Release
returns-in-Release c = subst (λ (op : Op). IsCall c.args.contents.now c.release.new.contents c.args.who op c.release.result None) (sym c.in-Release.is) c.release.ensures

pub unclaim-requires : goal.unclaim-requires
unclaim-requires c = record { caller = c.requires.caller; served = subst (FitsLayout c.args.contents.now.layout) c.in-Unclaim.is c.requires.fits }

pub returns-in-Unclaim : goal.returns-in-Unclaim
returns-in-Unclaim c = subst (λ (op : Op). IsCall c.args.contents.now c.unclaim.new.contents c.args.who op c.unclaim.result None) (sym c.in-Unclaim.is) c.unclaim.ensures

pub add-requires : goal.add-requires
add-requires c = record { caller = c.requires.caller; served = subst (FitsLayout c.args.contents.now.layout) c.in-Add.is c.requires.fits }

pub returns-in-Add : goal.returns-in-Add
returns-in-Add c = subst (λ (op : Op). IsCall c.args.contents.now c.add.new.contents c.args.who op c.add.result.0 c.add.result.1) (sym c.in-Add.is) c.add.ensures

pub get_property-requires : goal.get_property-requires
get_property-requires c = record { caller = c.requires.caller; served = subst (FitsLayout c.args.contents.now.layout) c.in-GetProp.is c.requires.fits }

pub returns-in-GetProp : goal.returns-in-GetProp
returns-in-GetProp c = subst (λ (op : Op). IsCall c.args.contents.now c.get_property.new.contents c.args.who op c.get_property.result None) (sym c.in-GetProp.is) c.get_property.ensures

pub set_property-requires : goal.set_property-requires
set_property-requires c = record { caller = c.requires.caller; served = subst (FitsLayout c.args.contents.now.layout) c.in-SetProp.is c.requires.fits }

pub returns-in-SetProp : goal.returns-in-SetProp
returns-in-SetProp c = subst (λ (op : Op). IsCall c.args.contents.now c.set_property.new.contents c.args.who op c.set_property.result None) (sym c.in-SetProp.is) c.set_property.ensures

pub strong_set-requires : goal.strong_set-requires
strong_set-requires c = record { caller = c.requires.caller; served = subst (FitsLayout c.args.contents.now.layout) c.in-StrongSet.is c.requires.fits }

pub returns-in-StrongSet : goal.returns-in-StrongSet
returns-in-StrongSet c = subst (λ (op : Op). IsCall c.args.contents.now c.strong_set.new.contents c.args.who op c.strong_set.result None) (sym c.in-StrongSet.is) c.strong_set.ensures

pub strong_get-requires : goal.strong_get-requires
strong_get-requires c = record { caller = c.requires.caller; served = subst (FitsLayout c.args.contents.now.layout) c.in-StrongGet.is c.requires.fits }

pub returns-in-StrongGet : goal.returns-in-StrongGet
returns-in-StrongGet c = subst (λ (op : Op). IsCall c.args.contents.now c.strong_get.new.contents c.args.who op c.strong_get.result None) (sym c.in-StrongGet.is) c.strong_get.ensures

pub weak_set-requires : goal.weak_set-requires
weak_set-requires c = record { caller = c.requires.caller; served = subst (FitsLayout c.args.contents.now.layout) c.in-WeakSet.is c.requires.fits }

pub returns-in-WeakSet : goal.returns-in-WeakSet
returns-in-WeakSet c = subst (λ (op : Op). IsCall c.args.contents.now c.weak_set.new.contents c.args.who op c.weak_set.result None) (sym c.in-WeakSet.is) c.weak_set.ensures

pub weak_get-requires : goal.weak_get-requires
weak_get-requires c = record { caller = c.requires.caller; served = subst (FitsLayout c.args.contents.now.layout) c.in-WeakGet.is c.requires.fits }

pub returns-in-WeakGet : goal.returns-in-WeakGet
returns-in-WeakGet c = subst (λ (op : Op). IsCall c.args.contents.now c.weak_get.new.contents c.args.who op c.weak_get.result None) (sym c.in-WeakGet.is) c.weak_get.ensures

pub pair_set-requires : goal.pair_set-requires
pair_set-requires c = record { caller = c.requires.caller; served = subst (FitsLayout c.args.contents.now.layout) c.in-PairSet.is c.requires.fits }

pub returns-in-PairSet : goal.returns-in-PairSet
returns-in-PairSet c = subst (λ (op : Op). IsCall c.args.contents.now c.pair_set.new.contents c.args.who op c.pair_set.result None) (sym c.in-PairSet.is) c.pair_set.ensures

pub pair_get-requires : goal.pair_get-requires
pair_get-requires c = record { caller = c.requires.caller; served = subst (FitsLayout c.args.contents.now.layout) c.in-PairGet.is c.requires.fits }

pub returns-in-PairGet : goal.returns-in-PairGet
returns-in-PairGet c = subst (λ (op : Op). IsCall c.args.contents.now c.pair_get.new.contents c.args.who op c.pair_get.result None) (sym c.in-PairGet.is) c.pair_get.ensures

pub pair_delete-requires : goal.pair_delete-requires
pair_delete-requires c = record { caller = c.requires.caller; served = subst (FitsLayout c.args.contents.now.layout) c.in-PairDel.is c.requires.fits }

pub returns-in-PairDel : goal.returns-in-PairDel
returns-in-PairDel c = subst (λ (op : Op). IsCall c.args.contents.now c.pair_delete.new.contents c.args.who op c.pair_delete.result None) (sym c.in-PairDel.is) c.pair_delete.ensures

pub group-requires : goal.group-requires
group-requires c = record { caller = c.requires.caller; served = subst (FitsLayout c.args.contents.now.layout) c.in-Group.is c.requires.fits }

pub returns-in-Group : goal.returns-in-Group
returns-in-Group c = subst (λ (op : Op). IsCall c.args.contents.now c.group.new.contents c.args.who op c.group.result None) (sym c.in-Group.is) c.group.ensures

pub retire-requires : goal.retire-requires
retire-requires c = record { caller = c.requires.caller; released = c.requires.released c.in-Retire.is }

pub returns-in-Retire : goal.returns-in-Retire
returns-in-Retire c = subst (λ (op : Op). IsCall c.args.contents.now c.retire.new.contents c.args.who op c.retire.result None) (sym c.in-Retire.is) c.retire.ensures
