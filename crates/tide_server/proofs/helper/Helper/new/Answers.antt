-- Why a visitor may be made of a newcomer's pass.
use Rattle.std.proofs.Common.{◌∙◌, ap, subst, sym}
use Rattle.tide_posts.proofs.tide_heap.Newcomers.{Rests-newcomer}
use Rattle.tide_posts.specs.tide_heap.tide_core.declared.machine.view.View.{View}
use Rattle.tide_posts.specs.tide_heap.tide_core.machine.May.{Rests}
use Rattle.tide_server.proofs.helper.Helper.new.Goals as goal

pub new-requires : goal.new-requires
new-requires c =
    let (who, is) = c.requires.newcomer in record {
      rests = subst Rests (sym is) (Rests-newcomer who);
      parked = ap (λ (v : View). v.runs) is;
      stays = ap (λ (v : View). v.left) is;
      noted = ap (λ (v : View). v.begun) is ∙ sym (ap (λ (v : View). v.period) is);
      empty = c.requires.empty;
    }
