-- Why each step of the growth's call may be made, and what the call leaves.
use Rattle.std.proofs.Common.{ℕ, ◌∙◌, sym, arith, Option}
use Rattle.std.proofs.lemmas.Grind.{get_or-set_at}
use Rattle.std.proofs.lemmas.List.{get_or-set_other}
use Rattle.tide_mutator.proofs.cells_laws.Looking.{counted_still as counted_looked, has_done_before as has_done_looked}
use Rattle.tide_mutator.proofs.owed_laws.Shading.{made_shaded}
use Rattle.tide_mutator.proofs.owed_laws.Telling.{done_by, may_tell, still_mutator, still_runs}
use Rattle.tide_heap.specs.tide_call.declared.action.Addition.{Addition}
use Rattle.tide_mutator.proofs.calls_laws.growth_laws.Calls.{made_replaced, owes_first, owing_replaced, read_loaded, ready_first, ready_loaded}
use Rattle.tide_mutator.proofs.calls_laws.growth_laws.Reading.{counted_still, has_done_before, knows_below, ready_looked}
use Rattle.tide_mutator.proofs.calls_laws.growth_laws.Taking.{full_by, may_load_structure, may_tell_full}
use Rattle.tide_mutator.specs.calls.Growing.{action_of}
use Rattle.tide_mutator.specs.declared.owed.growth.Growth.{Growth}
use Rattle.tide_model.specs.declared.op.Refusal.TheVariants.{Full}
use Rattle.tide_model.specs.declared.op.Reply.TheVariants.{Done, Refused}
use Rattle.tide_model.specs.declared.val.Val.{Val}
use Rattle.tide_mutator.proofs.calls.growing.grow.Goals as goal

pub load_own_structure-old-requires-clause-may : goal.load_own_structure-old-requires-clause-may
load_own_structure-old-requires-clause-may g c =
    let h = c.args.heap.now in record {
      own = c.requires.may.own;
      runs = c.requires.may.calling.runs;
      may = may_load_structure h.key.layout (g.S.HeapShapes.lists h.key.shapes) c.args.pass.now.seat.me.0 c.args.call.op
          (record {
            addition = c.args.addition;
            array = c.args.array;
            class = c.args.class;
            value = c.args.value;
            old = 0;
            next = 0;
          }) c.requires.may.calling c.requires.may.planned;
    }

pub load_elements-words-requires-clause-ready : goal.load_elements-words-requires-clause-ready
load_elements-words-requires-clause-ready g c =
    let h = c.args.heap.now in
    ready_first h.key.layout (g.S.HeapShapes.lists h.key.shapes) c.args.pass.now.seat.me.0
    c.load_own_structure-old.new.self.seat.me.0 c.args.call.op _ c.requires.may.calling c.requires.may.planned c.requires.may.fits
    c.shape_word-next.ensures c.load_own_structure-old.ensures.step.follows

-- the growth that the call makes
abbrev growth_of : Addition → Option ℕ → ℕ → Val → ℕ → ℕ → Growth
growth_of addition array class value old next = record {
  addition = addition;
  array = array;
  class = class;
  value = value;
  old = old;
  next = next;
}

pub allocate_array-requires-clause-ready : goal.allocate_array-requires-clause-ready
allocate_array-requires-clause-ready g c = λ κs outlives.
    let h = c.args.heap.now in
    let layout = h.key.layout in
    let shapes = g.S.HeapShapes.lists h.key.shapes in
    let v = c.args.pass.now.seat.me.0 in
    let first = c.load_own_structure-old.new.self.seat.me.0 in
    let loaded = c.load_elements-words.new.pass.seat.me.0 in
    let growth = growth_of c.args.addition c.args.array c.args.class c.args.value c.load_own_structure-old.result
    c.shape_word-next.result in
    let ready = ready_loaded layout shapes v first loaded c.args.call.op growth c.requires.may.calling c.requires.may.planned
    c.requires.may.fits c.shape_word-next.ensures c.load_own_structure-old.ensures.step.follows
    c.load_elements-words.ensures.read in
    ready

pub store_call-requires-clause-may : goal.store_call-requires-clause-may
store_call-requires-clause-may g c =
    let h = c.args.heap.now in
    let layout = h.key.layout in
    let shapes = g.S.HeapShapes.lists h.key.shapes in
    let v = c.args.pass.now.seat.me.0 in
    let first = c.load_own_structure-old.new.self.seat.me.0 in
    let loaded = c.load_elements-words.new.pass.seat.me.0 in
    let growth = growth_of c.args.addition c.args.array c.args.class c.args.value c.load_own_structure-old.result
    c.shape_word-next.result in
    let ready = ready_loaded layout shapes v first loaded c.args.call.op growth c.requires.may.calling c.requires.may.planned
    c.requires.may.fits c.shape_word-next.ensures c.load_own_structure-old.ensures.step.follows
    c.load_elements-words.ensures.read in
    let read = read_loaded layout shapes v first loaded c.args.call.op growth c.requires.may.calling c.requires.may.planned
    c.requires.may.fits c.shape_word-next.ensures c.load_own_structure-old.ensures.step.follows
    c.load_elements-words.ensures.read in
    let table = c.load_elements-words.ensures.same_pass.0 ∙ c.load_own_structure-old.ensures.step.table ∙ c.requires.may.own in
    let u = c.allocate_array.new.pass.seat.me.0 in
    let looked = c.in_default.ensures.looked in
    let still = ready_looked layout shapes loaded u c.args.call.op growth looked ready in record {
      own = c.allocate_array.ensures.same_pass.0 ∙ table;
      runs = still.calling.runs;
      may = may_tell_full layout shapes u c.args.call.op growth still c.in_default.ensures.searched c.args.call.number
          (counted_looked loaded u looked c.args.call.number (counted_still v loaded read c.args.call.number c.requires.may.counts));
    }

pub returns-in_default : goal.returns-in_default
returns-in_default g c = record {
  answered = record {
    same_pass = (
      c.store_call.ensures.step.1.table
          ∙ c.allocate_array.ensures.same_pass.0
          ∙ c.load_elements-words.ensures.same_pass.0
          ∙ c.load_own_structure-old.ensures.step.table,
      c.store_call.ensures.step.1.seat
          ∙ c.allocate_array.ensures.same_pass.1
          ∙ c.load_elements-words.ensures.same_pass.1
          ∙ c.load_own_structure-old.ensures.step.seat,
    );
    done =
        let h = c.args.heap.now in
        let layout = h.key.layout in
        let shapes = g.S.HeapShapes.lists h.key.shapes in
        let v = c.args.pass.now.seat.me.0 in
        let first = c.load_own_structure-old.new.self.seat.me.0 in
        let loaded = c.load_elements-words.new.pass.seat.me.0 in
        let growth = growth_of c.args.addition c.args.array c.args.class c.args.value c.load_own_structure-old.result
        c.shape_word-next.result in
        let ready = ready_loaded layout shapes v first loaded c.args.call.op growth c.requires.may.calling c.requires.may.planned
        c.requires.may.fits c.shape_word-next.ensures c.load_own_structure-old.ensures.step.follows
        c.load_elements-words.ensures.read in
        let read = read_loaded layout shapes v first loaded c.args.call.op growth c.requires.may.calling c.requires.may.planned
        c.requires.may.fits c.shape_word-next.ensures c.load_own_structure-old.ensures.step.follows
        c.load_elements-words.ensures.read in
        let u = c.allocate_array.new.pass.seat.me.0 in
        let looked = c.in_default.ensures.looked in
        let still = ready_looked layout shapes loaded u c.args.call.op growth looked ready in
        let tell = c.store_call.ensures.step in
        let w = c.store_call.new.self.seat.me.0 in
        has_done_before v loaded read layout c.args.call.op shapes (action_of growth) (Refused (Full c.args.class)) w
        (has_done_looked loaded u looked layout c.args.call.op shapes (action_of growth) (Refused (Full c.args.class)) w
        (full_by layout shapes u c.args.call.op growth still c.in_default.ensures.searched c.args.call.number w (tell.0, tell.1.follows)));
  };
}

pub replace-requires-clause-small : goal.replace-requires-clause-small
replace-requires-clause-small g c = λ κs outlives.
    let h = c.args.heap.now in
    let layout = h.key.layout in
    let shapes = g.S.HeapShapes.lists h.key.shapes in
    let v = c.args.pass.now.seat.me.0 in
    let first = c.load_own_structure-old.new.self.seat.me.0 in
    let loaded = c.load_elements-words.new.pass.seat.me.0 in
    let growth = growth_of c.args.addition c.args.array c.args.class c.args.value c.load_own_structure-old.result
    c.shape_word-next.result in
    let ready = ready_loaded layout shapes v first loaded c.args.call.op growth c.requires.may.calling c.requires.may.planned
    c.requires.may.fits c.shape_word-next.ensures c.load_own_structure-old.ensures.step.follows
    c.load_elements-words.ensures.read in
    ready.small

pub replace-requires-clause-holds : goal.replace-requires-clause-holds
replace-requires-clause-holds g c = λ κs outlives. c.in-Some.ensures.taken.has

pub replace-requires-clause-owes : goal.replace-requires-clause-owes
replace-requires-clause-owes g c = λ κs outlives.
    let h = c.args.heap.now in
    let layout = h.key.layout in
    let shapes = g.S.HeapShapes.lists h.key.shapes in
    let v = c.args.pass.now.seat.me.0 in
    let first = c.load_own_structure-old.new.self.seat.me.0 in
    let loaded = c.load_elements-words.new.pass.seat.me.0 in
    let growth = growth_of c.args.addition c.args.array c.args.class c.args.value c.load_own_structure-old.result
    c.shape_word-next.result in
    let ready = ready_loaded layout shapes v first loaded c.args.call.op growth c.requires.may.calling c.requires.may.planned
    c.requires.may.fits c.shape_word-next.ensures c.load_own_structure-old.ensures.step.follows
    c.load_elements-words.ensures.read in
    let words = c.load_elements-words.result in
    let at = c.from.result in
    let is_at = c.from.ensures in
    let few = c.requires.may.fits.few in
    owes_first layout shapes c.args.call.op growth loaded c.allocate_array.new.pass.seat.me.0 c.in-Some.taken ready.calling
    c.in-Some.ensures.taken _
    (knows_below layout loaded c.args.array words _ c.args.addition.count
    (λ place below. get_or-set_other words at place c.val_word.result 0
    (λ same. absurd (omega (arith, same, is_at, below)))) c.load_elements-words.ensures.knows)
    (get_or-set_at words at c.args.addition.count c.val_word.result 0 (sym is_at) (omega (arith, is_at, few))
    ∙ c.val_word.ensures)

pub write_barrier-requires-clause-owing : goal.write_barrier-requires-clause-owing
write_barrier-requires-clause-owing g c = λ κs outlives.
    let h = c.args.heap.now in
    let layout = h.key.layout in
    let shapes = g.S.HeapShapes.lists h.key.shapes in
    let v = c.args.pass.now.seat.me.0 in
    let first = c.load_own_structure-old.new.self.seat.me.0 in
    let loaded = c.load_elements-words.new.pass.seat.me.0 in
    let growth = growth_of c.args.addition c.args.array c.args.class c.args.value c.load_own_structure-old.result
    c.shape_word-next.result in
    let ready = ready_loaded layout shapes v first loaded c.args.call.op growth c.requires.may.calling c.requires.may.planned
    c.requires.may.fits c.shape_word-next.ensures c.load_own_structure-old.ensures.step.follows
    c.load_elements-words.ensures.read in
    owing_replaced layout shapes c.args.call.op growth loaded c.allocate_array.new.pass.seat.me.0 c.in-Some.taken ready.calling
    c.in-Some.ensures.taken c.replace.new.pass.seat.me.0 c.replace.ensures.replaced

pub store_call-requires-2-clause-mutator : goal.store_call-requires-2-clause-mutator
store_call-requires-2-clause-mutator g c =
    let h = c.args.heap.now in
    let layout = h.key.layout in
    let shapes = g.S.HeapShapes.lists h.key.shapes in
    let v = c.args.pass.now.seat.me.0 in
    let first = c.load_own_structure-old.new.self.seat.me.0 in
    let loaded = c.load_elements-words.new.pass.seat.me.0 in
    let growth = growth_of c.args.addition c.args.array c.args.class c.args.value c.load_own_structure-old.result
    c.shape_word-next.result in
    let ready = ready_loaded layout shapes v first loaded c.args.call.op growth c.requires.may.calling c.requires.may.planned
    c.requires.may.fits c.shape_word-next.ensures c.load_own_structure-old.ensures.step.follows
    c.load_elements-words.ensures.read in
    let u = c.allocate_array.new.pass.seat.me.0 in
    let w = c.replace.new.pass.seat.me.0 in
    let now = c.write_barrier.new.pass.seat.me.0 in
    let made = made_replaced layout shapes c.args.call.op growth loaded u c.in-Some.taken ready.calling
    c.in-Some.ensures.taken w c.replace.ensures.replaced in
    let shaded = made_shaded layout shapes c.args.call.op (action_of growth) Done loaded w now made.made
    c.write_barrier.ensures.shaded in
    still_mutator layout shapes c.args.call.op (action_of growth) Done loaded now ready.calling shaded

pub store_call-requires-2-clause-may : goal.store_call-requires-2-clause-may
store_call-requires-2-clause-may g c =
    let h = c.args.heap.now in
    let layout = h.key.layout in
    let shapes = g.S.HeapShapes.lists h.key.shapes in
    let v = c.args.pass.now.seat.me.0 in
    let first = c.load_own_structure-old.new.self.seat.me.0 in
    let loaded = c.load_elements-words.new.pass.seat.me.0 in
    let growth = growth_of c.args.addition c.args.array c.args.class c.args.value c.load_own_structure-old.result
    c.shape_word-next.result in
    let ready = ready_loaded layout shapes v first loaded c.args.call.op growth c.requires.may.calling c.requires.may.planned
    c.requires.may.fits c.shape_word-next.ensures c.load_own_structure-old.ensures.step.follows
    c.load_elements-words.ensures.read in
    let read = read_loaded layout shapes v first loaded c.args.call.op growth c.requires.may.calling c.requires.may.planned
    c.requires.may.fits c.shape_word-next.ensures c.load_own_structure-old.ensures.step.follows
    c.load_elements-words.ensures.read in
    let table = c.load_elements-words.ensures.same_pass.0 ∙ c.load_own_structure-old.ensures.step.table ∙ c.requires.may.own in
    let u = c.allocate_array.new.pass.seat.me.0 in
    let w = c.replace.new.pass.seat.me.0 in
    let now = c.write_barrier.new.pass.seat.me.0 in
    let made = made_replaced layout shapes c.args.call.op growth loaded u c.in-Some.taken ready.calling
    c.in-Some.ensures.taken w c.replace.ensures.replaced in
    let shaded = made_shaded layout shapes c.args.call.op (action_of growth) Done loaded w now made.made
    c.write_barrier.ensures.shaded in
    record {
      own = c.write_barrier.ensures.same_pass.0 ∙ c.replace.ensures.same_pass.0 ∙ c.allocate_array.ensures.same_pass.0 ∙ table;
      runs = still_runs layout shapes c.args.call.op (action_of growth) Done loaded now ready.calling shaded;
      may = may_tell layout shapes c.args.call.op (action_of growth) Done loaded now ready.calling shaded c.args.call.number
          (counted_still v loaded read c.args.call.number c.requires.may.counts);
    }

pub returns : goal.returns
returns g c = record {
  answered = record {
    same_pass = (
      c.store_call-2.ensures.step.1.table
          ∙ c.write_barrier.ensures.same_pass.0
          ∙ c.replace.ensures.same_pass.0
          ∙ c.allocate_array.ensures.same_pass.0
          ∙ c.load_elements-words.ensures.same_pass.0
          ∙ c.load_own_structure-old.ensures.step.table,
      c.store_call-2.ensures.step.1.seat
          ∙ c.write_barrier.ensures.same_pass.1
          ∙ c.replace.ensures.same_pass.1
          ∙ c.allocate_array.ensures.same_pass.1
          ∙ c.load_elements-words.ensures.same_pass.1
          ∙ c.load_own_structure-old.ensures.step.seat,
    );
    done =
        let h = c.args.heap.now in
        let layout = h.key.layout in
        let shapes = g.S.HeapShapes.lists h.key.shapes in
        let v = c.args.pass.now.seat.me.0 in
        let first = c.load_own_structure-old.new.self.seat.me.0 in
        let loaded = c.load_elements-words.new.pass.seat.me.0 in
        let growth = growth_of c.args.addition c.args.array c.args.class c.args.value c.load_own_structure-old.result
        c.shape_word-next.result in
        let ready = ready_loaded layout shapes v first loaded c.args.call.op growth c.requires.may.calling c.requires.may.planned
        c.requires.may.fits c.shape_word-next.ensures c.load_own_structure-old.ensures.step.follows
        c.load_elements-words.ensures.read in
        let read = read_loaded layout shapes v first loaded c.args.call.op growth c.requires.may.calling c.requires.may.planned
        c.requires.may.fits c.shape_word-next.ensures c.load_own_structure-old.ensures.step.follows
        c.load_elements-words.ensures.read in
        let u = c.allocate_array.new.pass.seat.me.0 in
        let w = c.replace.new.pass.seat.me.0 in
        let now = c.write_barrier.new.pass.seat.me.0 in
        let made = made_replaced layout shapes c.args.call.op growth loaded u c.in-Some.taken ready.calling
        c.in-Some.ensures.taken w c.replace.ensures.replaced in
        let shaded = made_shaded layout shapes c.args.call.op (action_of growth) Done loaded w now made.made
        c.write_barrier.ensures.shaded in
        let tell = c.store_call-2.ensures.step in
        let last = c.store_call-2.new.self.seat.me.0 in
        has_done_before v loaded read layout c.args.call.op shapes (action_of growth) Done last
        (done_by layout shapes c.args.call.op (action_of growth) Done loaded now ready.calling shaded c.args.call.number last
        (tell.0, tell.1.follows) (c.write_barrier.ensures.shaded.owed ∙ made.owed) c.write_barrier.ensures.shaded.duty);
  };
}
