-- Why a step that its participant may make keeps the rule.
use Rattle.tide_core.specs.declared.machine.act.Act.TheVariants.{Load, Swap, And, Or, Exchange}
use Rattle.tide_heap.proofs.steps_laws.Allowing.{heap_finds, heap_puts}
use Rattle.tide_heap.proofs.steps.acting.act_as.Goals as goal

pub load-requires : goal.load-requires
load-requires g c =
    heap_finds g.S.HeapShapes.lists c.args.heap.now g.J.Intent.layout g.J.Intent.shapes g.J.Intent.kind c.args.seat.now
    c.args.at c.args.act c.requires.own c.requires.layout c.requires.shapes c.requires.role c.requires.may Load
    c.in-Load.is

pub store-requires : goal.store-requires
store-requires g c =
    heap_puts g.S.HeapShapes.lists c.args.heap.now g.J.Intent.layout g.J.Intent.shapes g.J.Intent.kind c.args.seat.now
    c.args.at c.args.act c.requires.own c.requires.layout c.requires.shapes c.requires.role c.requires.may c.in-Store.word
    c.in-Store.is

pub swap-requires : goal.swap-requires
swap-requires g c =
    heap_finds g.S.HeapShapes.lists c.args.heap.now g.J.Intent.layout g.J.Intent.shapes g.J.Intent.kind c.args.seat.now
    c.args.at c.args.act c.requires.own c.requires.layout c.requires.shapes c.requires.role c.requires.may Swap
    c.in-Swap.is

pub fetch_and-requires : goal.fetch_and-requires
fetch_and-requires g c =
    heap_finds g.S.HeapShapes.lists c.args.heap.now g.J.Intent.layout g.J.Intent.shapes g.J.Intent.kind c.args.seat.now
    c.args.at c.args.act c.requires.own c.requires.layout c.requires.shapes c.requires.role c.requires.may (And c.in-And.mask)
    c.in-And.is

pub fetch_or-requires : goal.fetch_or-requires
fetch_or-requires g c =
    heap_finds g.S.HeapShapes.lists c.args.heap.now g.J.Intent.layout g.J.Intent.shapes g.J.Intent.kind c.args.seat.now
    c.args.at c.args.act c.requires.own c.requires.layout c.requires.shapes c.requires.role c.requires.may (Or c.in-Or.mask)
    c.in-Or.is

pub compare_exchange-requires : goal.compare_exchange-requires
compare_exchange-requires g c =
    heap_finds g.S.HeapShapes.lists c.args.heap.now g.J.Intent.layout g.J.Intent.shapes g.J.Intent.kind c.args.seat.now
    c.args.at c.args.act c.requires.own c.requires.layout c.requires.shapes c.requires.role c.requires.may (Exchange c.in-Exchange.old c.in-Exchange.new)
    c.in-Exchange.is
