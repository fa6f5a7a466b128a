-- A load leaves all as it was.
use Rattle.std.proofs.Common.{◌∙◌, ap}
use Rattle.check_threads.proofs.drains_laws.Freezes.{view_same}
use Rattle.tide_table.specs.Shown.{Besides}
use Rattle.check_threads.proofs.drains.freezing.phase_of.Goals as goal

pub returns-clause-view : goal.returns-clause-view
returns-clause-view g c =
    let rest = c.load.ensures.same_rest in
    view_same c.args.frozen.now.collector.now.seat.me.0 c.load.new.self.collector.now.seat.me.0
    (ap (λ (r : Besides). r.whose.view) rest) (ap (λ (r : Besides). r.seen) rest) c.load.ensures.same
    (ap (λ (r : Besides). r.words_at_entry) rest)

pub returns-clause-whose : goal.returns-clause-whose
returns-clause-whose g c = ap (λ (r : Besides). r.whose.borrow) c.load.ensures.same_rest

pub returns-clause-same : goal.returns-clause-same
returns-clause-same g c = ap (λ (r : Besides). r.whose.table_id) c.load.ensures.same_rest

pub returns-clause-layout : goal.returns-clause-layout
returns-clause-layout g c = ap (λ (r : Besides). r.whose.layout) c.load.ensures.same_rest ∙ c.requires.layout

pub returns-clause-shapes : goal.returns-clause-shapes
returns-clause-shapes g c = ap (λ (r : Besides). r.whose.shapes) c.load.ensures.same_rest
