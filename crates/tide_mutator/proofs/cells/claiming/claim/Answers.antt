-- Why the step on the claim word makes the call, and the call word tells it.
use Rattle.std.proofs.Common.{refl}
use Rattle.tide_mutator.proofs.cells_laws.ClaimSteps.{looked_by, may_look, may_take, some_claim_read, taken_by}
use Rattle.tide_mutator.proofs.owed_laws.Answering.{answered_by, enters, replied_as, teller, tells}
use Rattle.tide_mutator.proofs.cells.claiming.claim.Goals as goal

pub load_claim-word-requires-clause-may : goal.load_claim-word-requires-clause-may
load_claim-word-requires-clause-may g c =
    enters c.requires.may _ (may_look _ _ _ _ c.args.cell c.args.full c.requires.may.calling
    (c.requires.may.told refl) c.requires.may.planned c.if-full.true)

pub take_claim-word-requires-clause-may : goal.take_claim-word-requires-clause-may
take_claim-word-requires-clause-may g c =
    enters c.requires.may _ (may_take _ _ _ _ c.args.cell c.args.full c.requires.may.calling
    (c.requires.may.told refl) c.requires.may.planned c.if-full.false c.who-who.result c.who-who.ensures)

pub held_or-requires : goal.held_or-requires
held_or-requires g c =
    some_claim_read _ (g.S.HeapShapes.lists c.args.heap.now.key.shapes) _ c.args.call.op c.args.cell c.args.full c.requires.may.calling
    (c.requires.may.told refl) c.requires.may.planned c.load_claim-word.ensures.step.follows.log c.load_claim-word.result
    c.load_claim-word.ensures.step.follows.moment

pub held_or-requires-2 : goal.held_or-requires-2
held_or-requires-2 g c =
    some_claim_read _ (g.S.HeapShapes.lists c.args.heap.now.key.shapes) _ c.args.call.op c.args.cell c.args.full c.requires.may.calling
    (c.requires.may.told refl) c.requires.may.planned c.take_claim-word.ensures.step.follows.log c.take_claim-word.result
    c.take_claim-word.ensures.step.follows.moment

pub store_call-requires-clause-mutator : goal.store_call-requires-clause-mutator
store_call-requires-clause-mutator g c =
    let made = looked_by _ _ _ _ c.args.cell c.args.full c.requires.may.calling (c.requires.may.told refl)
    c.requires.may.planned c.if-full.true c.load_claim-word.result c.load_claim-word.new.self.seat.me.0
    c.load_claim-word.ensures.step.follows in
    teller c.requires.may c.load_claim-word.new.self made.made

pub store_call-requires-clause-may : goal.store_call-requires-clause-may
store_call-requires-clause-may g c =
    let made = looked_by _ _ _ _ c.args.cell c.args.full c.requires.may.calling (c.requires.may.told refl)
    c.requires.may.planned c.if-full.true c.load_claim-word.result c.load_claim-word.new.self.seat.me.0
    c.load_claim-word.ensures.step.follows in
    tells c.requires.may c.load_claim-word.new.self made.made c.load_claim-word.ensures.step.table

pub store_call-requires-2-clause-mutator : goal.store_call-requires-2-clause-mutator
store_call-requires-2-clause-mutator g c =
    let made = taken_by _ _ _ _ c.args.cell c.args.full c.requires.may.calling (c.requires.may.told refl)
    c.requires.may.planned c.if-full.false c.who-who.result c.take_claim-word.result
    c.take_claim-word.new.self.seat.me.0 c.take_claim-word.ensures.step.follows in
    teller c.requires.may c.take_claim-word.new.self made.made

pub store_call-requires-2-clause-may : goal.store_call-requires-2-clause-may
store_call-requires-2-clause-may g c =
    let made = taken_by _ _ _ _ c.args.cell c.args.full c.requires.may.calling (c.requires.may.told refl)
    c.requires.may.planned c.if-full.false c.who-who.result c.take_claim-word.result
    c.take_claim-word.new.self.seat.me.0 c.take_claim-word.ensures.step.follows in
    tells c.requires.may c.take_claim-word.new.self made.made c.take_claim-word.ensures.step.table

pub returns-then-full : goal.returns-then-full
returns-then-full g c =
    let step = c.load_claim-word.ensures.step in
    let made = looked_by _ _ _ _ c.args.cell c.args.full c.requires.may.calling (c.requires.may.told refl)
    c.requires.may.planned c.if-full.true c.load_claim-word.result c.load_claim-word.new.self.seat.me.0
    c.load_claim-word.ensures.step.follows in record {
      answered = replied_as c.held_or.ensures
          (answered_by c.requires.may c.load_claim-word.new.self made.made (step.table, step.seat) c.store_call.ensures.step made.owed made.duty);
    }

pub returns : goal.returns
returns g c =
    let step = c.take_claim-word.ensures.step in
    let made = taken_by _ _ _ _ c.args.cell c.args.full c.requires.may.calling (c.requires.may.told refl)
    c.requires.may.planned c.if-full.false c.who-who.result c.take_claim-word.result
    c.take_claim-word.new.self.seat.me.0 c.take_claim-word.ensures.step.follows in record {
      answered = replied_as c.held_or-2.ensures
          (answered_by c.requires.may c.take_claim-word.new.self made.made (step.table, step.seat) c.store_call-2.ensures.step made.owed made.duty);
    }
