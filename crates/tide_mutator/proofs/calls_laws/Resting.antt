-- A mutator that begins a part or stops rests still, with the claims and the calls that it had.
use Rattle.std.proofs.Common.{◌≡◌, refl, sym, subst, Bool, true, false, []}
use Rattle.std.specs.Prelude.{◌==◌, if◌then◌else◌}
use Rattle.tide_heap.specs.tide_core.machine.May.{Rests}
use Rattle.tide_heap.specs.tide_core.declared.machine.view.View.{View}
use Rattle.tide_heap.specs.tide_core.machine.kinds.Activate.{begun_view}
use Rattle.tide_heap.specs.tide_core.machine.kinds.Split.{split_view}
use Rattle.tide_heap.specs.tide_core.machine.kinds.StoreStopped.{stopped_view}
use Rattle.tide_mutator.specs.owed.Standing.{claims_of}
use Rattle.tide_heap.specs.Turns.{heard_view}

pub record RestsAsBefore (v u : View) : Type 0 where
  pub rests : Rests v → Rests u
  pub claims : claims_of u ≡ claims_of v
  pub calls : u.calls ≡ v.calls

began : (v t : View) → RestsAsBefore v (begun_view (heard_view v t))
began v t = by_test (heard.begun == heard.ticket)
  where
    heard : View
    heard = heard_view v t

    by_test : (b : Bool) → RestsAsBefore v (if b then record heard { runs = true; round = []; full = []; known = [] }
        else record heard {
          runs = true;
          begun = heard.ticket;
          born = 0;
          visits = 0;
          races = 0;
          round = [];
          full = [];
          known = [];
        })
    by_test true = record {
      rests = λ r. record {
        held = r.held;
        scan = r.scan;
        between = record {
          owed = r.between.owed;
          duty = r.between.duty;
          growth = r.between.growth;
          sweeping = r.between.sweeping;
          calls = r.between.calls;
        };
      };
      claims = refl;
      calls = refl;
    }
    by_test false = record {
      rests = λ r. record {
        held = r.held;
        scan = r.scan;
        between = record {
          owed = r.between.owed;
          duty = r.between.duty;
          growth = r.between.growth;
          sweeping = r.between.sweeping;
          calls = r.between.calls;
        };
      };
      claims = refl;
      calls = refl;
    }

pub rests_begun : (v t u : View) → u ≡ begun_view (heard_view v t) → RestsAsBefore v u
rests_begun v t u is = subst (RestsAsBefore v) (sym is) (began v t)

pub rests_stopped : (v u : View) → u ≡ split_view (stopped_view v) → RestsAsBefore v u
rests_stopped v u is = subst (RestsAsBefore v) (sym is) record {
  rests = λ r. record {
    held = r.held;
    scan = r.scan;
    between = record {
      owed = r.between.owed;
      duty = r.between.duty;
      growth = r.between.growth;
      sweeping = r.between.sweeping;
      calls = r.between.calls;
    };
  };
  claims = refl;
  calls = refl;
}
