-- Why a mutator may be made of a newcomer's pass.
use Rattle.std.proofs.Common.{ap, subst, sym}
use Rattle.tide_posts.proofs.tide_heap.Newcomers.{Rests-newcomer}
use Rattle.tide_posts.specs.tide_heap.tide_core.declared.machine.view.View.{View}
use Rattle.tide_posts.specs.tide_heap.tide_core.machine.May.{Rests}
use Rattle.tide_server.proofs.member.Member.new.Goals as goal

pub new-requires : goal.new-requires
new-requires c =
    let is = c.requires.newcomer in record {
      rests = subst Rests (sym is) (Rests-newcomer c.args.seat.place);
      fresh = ap (λ (v : View). v.mine) is;
    }
