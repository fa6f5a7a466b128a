-- Why the element may be stored, and why the store of the structure makes the call, which then pays the barrier.
use Rattle.std.proofs.Common.{Bool, ◌∙◌, ap, subst, sym}
use Rattle.tide_heap.specs.tide_call.declared.action.Action.TheVariants.{Append}
use Rattle.tide_heap.specs.tide_core.machine.May.{barrier_for}
use Rattle.tide_model.specs.declared.op.Reply.TheVariants.{Done}
use Rattle.tide_mutator.proofs.calls_laws.acting_laws.AppendSteps.{added_by, may_add_stored, may_store_past, stored_runs}
use Rattle.tide_mutator.proofs.owed_laws.Shading.{made_shaded, owing_made}
use Rattle.tide_mutator.proofs.owed_laws.Telling.{done_by, may_tell, still_mutator, still_runs}
use Rattle.tide_mutator.specs.owed.Calling.{Kept}
use Rattle.tide_mutator.specs.owed.Shading.{Owing}
use Rattle.tide_heap.specs.tide_words.forms.ValueWord.{val_word}
use Rattle.tide_mutator.proofs.calls.properties.append.Goals as goal

pub store_element-requires-clause-may : goal.store_element-requires-clause-may
store_element-requires-clause-may g c =
    let h = c.args.heap.now in record {
      own = c.requires.may.own;
      runs = c.requires.may.calling.runs;
      may = may_store_past h.key.layout (g.S.HeapShapes.lists h.key.shapes) c.args.pass.now.seat.me.0 c.args.call.op
          c.args.addition c.args.array c.args.value c.requires.may.fits.element c.requires.may.calling c.requires.may.planned
          c.val_word.result c.val_word.ensures;
    }

pub store_structure-requires-clause-may : goal.store_structure-requires-clause-may
store_structure-requires-clause-may g c =
    let h = c.args.heap.now in
    let shapes = g.S.HeapShapes.lists h.key.shapes in
    let v = c.args.pass.now.seat.me.0 in
    let u = c.store_element.new.self.seat.me.0 in
    let one = c.store_element.ensures.step in record {
      own = one.1.table ∙ c.requires.may.own;
      runs = stored_runs h.key.layout shapes v c.args.call.op c.args.addition c.args.array c.args.value
          c.requires.may.fits.element c.requires.may.calling c.requires.may.planned c.val_word.result c.val_word.ensures u
          (one.0, one.1.follows);
      may = may_add_stored h.key.layout shapes v c.args.call.op c.args.addition c.args.array c.args.value
          c.requires.may.fits.element c.requires.may.calling c.requires.may.planned c.val_word.result c.val_word.ensures u
          (one.0, one.1.follows) c.shape_word.result c.shape_word.ensures;
    }

pub write_barrier-requires-clause-owing : goal.write_barrier-requires-clause-owing
write_barrier-requires-clause-owing g c = λ κs outlives.
    let h = c.args.heap.now in
    let shapes = g.S.HeapShapes.lists h.key.shapes in
    let v = c.args.pass.now.seat.me.0 in
    let u = c.store_structure.new.self.seat.me.0 in
    let one = c.store_element.ensures.step in
    let other = c.store_structure.ensures.step in
    let does = Append c.args.addition c.args.array c.args.value in
    let made = added_by h.key.layout shapes v c.args.call.op c.args.addition c.args.array c.args.value
    c.requires.may.fits.element c.requires.may.calling c.requires.may.planned c.val_word.result c.val_word.ensures
    c.store_element.new.self.seat.me.0 (one.0, one.1.follows) c.shape_word.result c.shape_word.ensures u
    (other.0, other.1.follows) in
    owing_made h.key.layout shapes c.args.call.op does Done v u _ c.requires.may.calling made

pub store_call-requires-clause-mutator : goal.store_call-requires-clause-mutator
store_call-requires-clause-mutator g c =
    let h = c.args.heap.now in
    let shapes = g.S.HeapShapes.lists h.key.shapes in
    let v = c.args.pass.now.seat.me.0 in
    let u = c.store_structure.new.self.seat.me.0 in
    let one = c.store_element.ensures.step in
    let other = c.store_structure.ensures.step in
    let does = Append c.args.addition c.args.array c.args.value in
    let made = added_by h.key.layout shapes v c.args.call.op c.args.addition c.args.array c.args.value
    c.requires.may.fits.element c.requires.may.calling c.requires.may.planned c.val_word.result c.val_word.ensures
    c.store_element.new.self.seat.me.0 (one.0, one.1.follows) c.shape_word.result c.shape_word.ensures u
    (other.0, other.1.follows) in
    let after = made_shaded h.key.layout shapes c.args.call.op does Done v u c.write_barrier.new.pass.seat.me.0 made.made
    c.write_barrier.ensures.shaded in
    still_mutator h.key.layout shapes c.args.call.op does Done v c.write_barrier.new.pass.seat.me.0 c.requires.may.calling after

pub store_call-requires-clause-may : goal.store_call-requires-clause-may
store_call-requires-clause-may g c =
    let h = c.args.heap.now in
    let shapes = g.S.HeapShapes.lists h.key.shapes in
    let v = c.args.pass.now.seat.me.0 in
    let u = c.store_structure.new.self.seat.me.0 in
    let one = c.store_element.ensures.step in
    let other = c.store_structure.ensures.step in
    let does = Append c.args.addition c.args.array c.args.value in
    let made = added_by h.key.layout shapes v c.args.call.op c.args.addition c.args.array c.args.value
    c.requires.may.fits.element c.requires.may.calling c.requires.may.planned c.val_word.result c.val_word.ensures
    c.store_element.new.self.seat.me.0 (one.0, one.1.follows) c.shape_word.result c.shape_word.ensures u
    (other.0, other.1.follows) in
    let after = made_shaded h.key.layout shapes c.args.call.op does Done v u c.write_barrier.new.pass.seat.me.0 made.made
    c.write_barrier.ensures.shaded in record {
      own = c.write_barrier.ensures.same_pass.0 ∙ other.1.table ∙ one.1.table ∙ c.requires.may.own;
      runs = still_runs h.key.layout shapes c.args.call.op does Done v c.write_barrier.new.pass.seat.me.0 c.requires.may.calling
          after;
      may = may_tell h.key.layout shapes c.args.call.op does Done v c.write_barrier.new.pass.seat.me.0 c.requires.may.calling after
          c.args.call.number c.requires.may.counts;
    }

pub returns : goal.returns
returns g c = record {
  answered = record {
    same_pass = search;
    done =
        let tell = c.store_call.ensures.step in
        let h = c.args.heap.now in
        let shapes = g.S.HeapShapes.lists h.key.shapes in
        let v = c.args.pass.now.seat.me.0 in
        let u = c.store_structure.new.self.seat.me.0 in
        let one = c.store_element.ensures.step in
        let other = c.store_structure.ensures.step in
        let does = Append c.args.addition c.args.array c.args.value in
        let made = added_by h.key.layout shapes v c.args.call.op c.args.addition c.args.array c.args.value
        c.requires.may.fits.element c.requires.may.calling c.requires.may.planned c.val_word.result c.val_word.ensures
        c.store_element.new.self.seat.me.0 (one.0, one.1.follows) c.shape_word.result c.shape_word.ensures u
        (other.0, other.1.follows) in
        let after = made_shaded h.key.layout shapes c.args.call.op does Done v u c.write_barrier.new.pass.seat.me.0 made.made
        c.write_barrier.ensures.shaded in
        done_by h.key.layout shapes c.args.call.op does Done v c.write_barrier.new.pass.seat.me.0 c.requires.may.calling after
        c.args.call.number c.store_call.new.self.seat.me.0 (tell.0, tell.1.follows)
        (c.write_barrier.ensures.shaded.owed ∙ made.owed) c.write_barrier.ensures.shaded.duty;
  };
}
