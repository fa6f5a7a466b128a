-- How a walk over the children of a shape goes on, and what it finds.
use native.Mathlib.Omega.{arith}
use Rattle.std.proofs.Common.{ℕ, ◌≡◌, ◌≢◌, ◌<◌, ◌≤◌, Bool, true, false, refl, List, Option, None}
use Rattle.std.specs.Prelude.{Contains, IfSome}
use Rattle.tide_grow_shape.specs.transitions.Cells.{IsNumber, last_in}
use Rattle.tide_grow_shape.specs.transitions.Walks.{first_of, Finds, here, there, Includes}
use Rattle.tide_grow_shape.specs.transitions.Sights.{AreSights, LeadsTo, edges_of, seen_edge}
use Rattle.tide_grow_shape.specs.declared.transitions.sight.Sight.{Sight}
use Rattle.tide_grow_shape.specs.declared.transitions.walking.Seen.{Seen}
use Rattle.tide_grow_shape.proofs.transitions_laws.SightLaws.{named_within}

-- so far a walk for the key under the shape came to this cell
pub record Walks (name : List ℕ) (old now : List Sight) (shape key : ℕ) (next : Bool) (of : ℕ) (mine : Option ℕ) : Type 0 where
  pub sights : AreSights name now
  pub more : Includes (edges_of old) (edges_of now)
  pub item : next ≡ true → 0 < of
  pub own : IfSome mine (IsNumber name)
  pub leads : LeadsTo (edges_of now) shape key record { next = next; shape = of }

pub walks_start : (name : List ℕ) (old : List Sight) (shape key : ℕ) → AreSights name old → Walks name old old shape key false shape None
walks_start name old shape key are = record {
  sights = are;
  more = λ e in_e. in_e;
  item = λ no. grind (arith, no);
  own = tt;
  leads = λ more child within f. f;
}

module _ (name : List ℕ) (old now new : List Sight) (shape key : ℕ) (next : Bool) (of : ℕ) (mine : Option ℕ) (w : Walks name old now shape key next of mine)
    (are : AreSights name new) (more : Includes (edges_of now) (edges_of new)) (seen : Seen) (told : Contains (edges_of new) (seen_edge next of seen)) where
  pub walks_found : seen.key ≡ key → seen.parent ≡ shape → Finds (edges_of new) shape key (first_of shape) seen.child
  walks_found by under = w.leads (edges_of new) seen.child more (here (seen_edge next of seen) told refl refl under by)

  pub walks_more : Includes (edges_of old) (edges_of new)
  walks_more e in_e = more e (w.more e in_e)

  pub walks_within : seen.child ≤ last_in name
  walks_within = named_within name new are (seen_edge next of seen) told

  pub walks_step : seen.key ≢ key → (mine' : Option ℕ) → IfSome mine' (IsNumber name) → Walks name old new shape key true seen.child mine'
  walks_step other mine' numbered = record {
    sights = are;
    more = walks_more;
    item = λ yes. let no = are.one.some (seen_edge next of seen) told in grind (arith, no);
    own = numbered;
    leads = λ later child inside f. w.leads later child (λ e in_e. inside e (more e in_e))
        (there (seen_edge next of seen) (inside (seen_edge next of seen) told) refl other f);
  }
