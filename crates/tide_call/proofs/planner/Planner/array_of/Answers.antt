use Rattle.std.proofs.Common.{◌<◌, sym, ◌∙◌, ap, arith, Bool}
use Rattle.std.proofs.lemmas.Bool.{lt-ltb}
use Rattle.std.specs.Bool.{then_some}
use Rattle.tide_model.specs.Layout.{array_count}
use Rattle.tide_call.specs.Callers.{Planner}
use Rattle.tide_call.proofs.action_laws.OwnLaws.{Leaves-own, array-none, array-read, claims-there, is_held, owned-seen}
use Rattle.tide_call.proofs.planner.Planner.array_of.Goals as goal

pub array-requires-clause-claimed : goal.array-requires-clause-claimed
array-requires-clause-claimed g c = claims-there (g.O.OwnRegisters.owns c.args.own.now c.args.context.now) _ c.args.self.now
    c.self.view_is c.requires.known c.args.cell c.requires.claimed c.requires.of_layout

pub returns-in_err-array-clause-array : goal.returns-in_err-array-clause-array
returns-in_err-array-clause-array g c = λ heap state calls.
    let owns = g.O.OwnRegisters.owns c.array.new.self c.args.context.now in
    let caller = c.args.self.now in
    let count = c.arrays-arrays.ensures.count ∙ ap (λ (one : Planner). array_count one.layout) c.self.view_is in
    let few = c.arrays-arrays.ensures.few in
    array-none owns caller heap state calls c.args.cell c.requires.claimed c.requires.of_layout c.array.result
    (c.array.ensures.word heap (owned-seen owns heap _ caller c.self.view_is calls.owned))
    (λ array below is. c.in_err-array.ensures.none array (omega (arith, below, count, few)) is)
    ∙ sym c.from_residual.ensures

pub returns-clause-array : goal.returns-clause-array
returns-clause-array g c = λ heap state calls.
    let owns = g.O.OwnRegisters.owns c.array.new.self c.args.context.now in
    let caller = c.args.self.now in
    let count = c.arrays-arrays.ensures.count ∙ ap (λ (one : Planner). array_count one.layout) c.self.view_is in
    let array = c.in_ok-array.array in
    let is = array-read owns caller heap state calls c.args.cell c.requires.claimed c.requires.of_layout c.array.result array
    (c.array.ensures.word heap (owned-seen owns heap _ caller c.self.view_is calls.owned)) c.in_ok-array.ensures.some in
    let inside = calls.is_caller.arrays c.args.cell array (is_held owns caller heap state calls c.args.cell c.requires.claimed) is in
    let below : array < c.arrays-arrays.result = omega (arith, inside, count) in
    is ∙ sym (c.then_some.ensures ∙ ap (λ (b : Bool). then_some b array) (lt-ltb array c.arrays-arrays.result below))

pub returns-in_err-array-clause-owns : goal.returns-in_err-array-clause-owns
returns-in_err-array-clause-owns g c = Leaves-own (g.O.OwnRegisters.owns c.args.own.now) (g.O.OwnRegisters.owns c.array.new.self)
    c.args.context.now _ c.args.self.now _ _ c.self.view_is c.requires.known c.array.ensures.owns

pub returns-clause-owns : goal.returns-clause-owns
returns-clause-owns g c = Leaves-own (g.O.OwnRegisters.owns c.args.own.now) (g.O.OwnRegisters.owns c.array.new.self)
    c.args.context.now _ c.args.self.now _ _ c.self.view_is c.requires.known c.array.ensures.owns
