use Rattle.std.proofs.lemmas.Option.{slice_get_within}
use Rattle.tide_call.proofs.action_laws.OwnLaws.{Leaves-own, claims-there, owned-seen, shape-read, somewhere, structure-read}
use Rattle.tide_call.proofs.planner.Planner.shape_of.Goals as goal

pub structure-requires-clause-claimed : goal.structure-requires-clause-claimed
structure-requires-clause-claimed g c = claims-there (g.O.OwnRegisters.owns c.args.own.now c.args.context.now) _ c.args.self.now
    c.self.view_is c.requires.known c.args.cell c.requires.claimed c.requires.of_layout

pub returns-in-Some-clause-shape : goal.returns-in-Some-clause-shape
returns-in-Some-clause-shape g c = λ heap state calls.
    let owns = g.O.OwnRegisters.owns c.structure.new.self c.args.context.now in
    let caller = c.args.self.now in
    let owned = owned-seen owns heap _ caller c.self.view_is calls.owned in
    shape-read owns caller heap state calls c.args.cell c.requires.claimed c.requires.of_layout c.structure.result c.in-Some.structure
    (c.structure.ensures.word heap owned) c.in-Some.ensures.structure c.in-Some.ensures.count

pub returns-in-Some-clause-within : goal.returns-in-Some-clause-within
returns-in-Some-clause-within g c = (let (heap, state, calls) = somewhere _ c.args.self.now (Leaves-own (g.O.OwnRegisters.owns c.args.own.now) (g.O.OwnRegisters.owns c.structure.new.self)
    c.args.context.now _ c.args.self.now _ _ c.self.view_is c.requires.known c.structure.ensures.owns).0 in
    slice_get_within c.args.self.now.shapes c.in-Some.structure.shape (state.cells c.args.cell).keys (returns-in-Some-clause-shape g c heap state calls).is_shape)

pub returns-in-None-clause-shape : goal.returns-in-None-clause-shape
returns-in-None-clause-shape g c = λ heap state calls.
    let owns = g.O.OwnRegisters.owns c.structure.new.self c.args.context.now in
    let caller = c.args.self.now in
    let owned = owned-seen owns heap _ caller c.self.view_is calls.owned in
    absurd (c.in-None.ensures.none (structure-read owns caller heap state calls c.args.cell c.requires.claimed c.requires.of_layout
    c.structure.result (c.structure.ensures.word heap owned)))

pub returns-in-None-clause-within : goal.returns-in-None-clause-within
returns-in-None-clause-within g c = (let (heap, state, calls) = somewhere _ c.args.self.now (Leaves-own (g.O.OwnRegisters.owns c.args.own.now) (g.O.OwnRegisters.owns c.structure.new.self)
    c.args.context.now _ c.args.self.now _ _ c.self.view_is c.requires.known c.structure.ensures.owns).0 in
    slice_get_within c.args.self.now.shapes 0 (state.cells c.args.cell).keys (returns-in-None-clause-shape g c heap state calls).is_shape)

pub returns-in-Some-clause-owns : goal.returns-in-Some-clause-owns
returns-in-Some-clause-owns g c = Leaves-own (g.O.OwnRegisters.owns c.args.own.now) (g.O.OwnRegisters.owns c.structure.new.self)
    c.args.context.now _ c.args.self.now _ _ c.self.view_is c.requires.known c.structure.ensures.owns

pub returns-in-None-clause-owns : goal.returns-in-None-clause-owns
returns-in-None-clause-owns g c = Leaves-own (g.O.OwnRegisters.owns c.args.own.now) (g.O.OwnRegisters.owns c.structure.new.self)
    c.args.context.now _ c.args.self.now _ _ c.self.view_is c.requires.known c.structure.ensures.owns
