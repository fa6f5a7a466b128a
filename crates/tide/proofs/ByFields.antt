-- A member that may make any call, by what its fields tell.
use Rattle.std.proofs.Common.{ap}
use Rattle.std.proofs.Math.Logic.{∥∥₁_elim}
use Rattle.std.specs.Prelude.{is_some}
use Rattle.tide.proofs.OneShare.{StandsIn-prop}
use Rattle.tide.proofs.Retrying.{not_some}
use Rattle.tide.specs.Asking.{IsSettledOf, MayCall, StandsIn}
use Rattle.tide_server.specs.atomic_table.Seated.{TableId}
use Rattle.tide_server.specs.declared.member.Member.{Member}
use Rattle.tide_server.specs.tide_model.Layout.{Layout}
use Rattle.tide_server.specs.tide_model.Script.{retry_of}
use Rattle.tide_server.specs.tide_mutator.calls.Viewed.{view_of}

module _ (layout : Layout) (heap hands : TableId) (m : Member) where
  pub may_call : IsSettledOf layout heap hands m → ∥ StandsIn m ∥₁ → MayCall layout heap hands m
  may_call is stands = record {
    of = record {
      table = is.table;
      seated = is.seated;
      named = is.named;
      is_mutator = is.is_mutator;
      stands = ∥∥₁_elim stands (StandsIn-prop m) (λ (s : StandsIn m). s);
    };
    stays = is.stays;
    settled = not_some (retry_of (view_of m.mutator).who (view_of m.mutator).mine) is.settled;
  }

  pub settled_of : MayCall layout heap hands m → IsSettledOf layout heap hands m
  settled_of may = record {
    table = may.of.table;
    seated = may.of.seated;
    named = may.of.named;
    is_mutator = may.of.is_mutator;
    stays = may.stays;
    settled = ap is_some may.settled;
  }

  pub stands_of : MayCall layout heap hands m → ∥ StandsIn m ∥₁
  stands_of may = ∣ may.of.stands ∣₁
