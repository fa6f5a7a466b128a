-- Why a visitor may be made of a newcomer's pass.
use Rattle.std.proofs.Common.{◌∙◌, sym, ap, subst}
use Rattle.tide_heap.specs.tide_core.machine.May.{Rests}
use Rattle.tide_heap.specs.tide_core.declared.machine.view.View.{View}
use Rattle.tide_heap.proofs.Newcomers.{Rests-newcomer}
use Rattle.tide_threads.proofs.marking.CountingVisitor.new.Goals as goal

pub new-requires : goal.new-requires
new-requires c =
    let (who, is) = c.requires.newcomer in record {
      rests = subst Rests (sym is) (Rests-newcomer who);
      parked = ap (λ (v : View). v.runs) is;
      stays = ap (λ (v : View). v.left) is;
      noted = ap (λ (v : View). v.begun) is ∙ sym (ap (λ (v : View). v.period) is);
      empty = c.requires.empty;
    }
