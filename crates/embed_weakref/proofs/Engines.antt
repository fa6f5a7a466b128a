-- What each call of a realm leaves of its part, and why the next part may be opened.
use Rattle.std.proofs.Common.{ℕ, ◌≡◌, ◌+◌, ◌⊎◌, refl, sym, ◌∙◌, ap, subst, arith, inl, inr, Bool, true, false, List, [], ◌∷◌}
use Rattle.std.specs.Prelude.{◌==◌, if◌then◌else◌}
use Rattle.tide.specs.atomic_table.Seated.{TableId}
use Rattle.tide.proofs.Parts.{in_part_kept}
use Rattle.tide.specs.Parts.{HasDoneItsPart}
use Rattle.embed_weakref.specs.Engine.{TakesPart}
use Rattle.tide.specs.tide_heap.Parties.{In, IsParty}
use Rattle.tide.specs.tide_heap.Turns.{noted, visited_of}
use Rattle.tide.specs.tide_core.declared.machine.view.View.{View}
use Rattle.tide.specs.tide_model.Layout.{Layout}
use Rattle.tide.specs.tide_model.Refused.{ShapeLists}
use Rattle.tide.specs.tide_mutator.owed.Calling.{Kept, kept}
use Rattle.tide.specs.tide_table.VisitsTold.{HaveTold, VisitsAreIn, most_visits, unentered}
use Rattle.tide.specs.tide_weakref.Viewed.{jobs_of, view_of}
use Rattle.tide.specs.tide_weakref.Worked.{HasWorked, IsReady}
use Rattle.tide.specs.tide_weakref.declared.realm.Realm.{Realm}

-- calls leave the realm in its part
pub part_kept : (id : TableId) (layout : Layout) (part : ℕ) (old new : Realm) → kept (view_of new) ≡ kept (view_of old) →
    IsReady id layout new → (jobs_of new).scratch ≡ (jobs_of old).scratch → TakesPart id layout part old → TakesPart id layout part new
part_kept id layout part old new same ready scratch is = record {
  in_part = in_part_kept 0 part (view_of old) (view_of new) same ready.running.stays is.in_part;
  unvisited = ap (λ (k : Kept). k.visits) same ∙ is.unvisited;
  ready = ready;
  scratch = scratch ∙ is.scratch;
}

-- so does what it was asked for
pub part_worked : (id : TableId) (layout : Layout) (shapes : ShapeLists) (part : ℕ) (old new : Realm) →
    HasWorked id layout shapes old new → TakesPart id layout part old → TakesPart id layout part new
part_worked id layout shapes part old new worked is =
    part_kept id layout part old new worked.called.kept worked.ready worked.goes_on.scratch is

-- what an only mutator's note tells, which visits nothing
module _ (v t note w : View) (has : HasDoneItsPart 0 t note) (none : note.visits ≡ 0) (took : w ≡ noted v note) where
  pub note_in : v.notes ≡ [] → w.notes ≡ 0 ∷ []
  note_in empty = ap (λ (x : View). x.notes) took ∙ (λ i. has.is i ∷ empty i)

  pub note_unvisited : v.visited ≡ [] → unentered w.visited ≡ 0
  note_unvisited empty = ap (λ (x : View). unentered x.visited) took
      ∙ (λ i. (visited_of v.period note).visits + unentered (empty i))
      ∙ by_test (note.begun == v.period)
    where
      by_test : (b : Bool) → (if b then note.visits else 0) + 0 ≡ 0
      by_test true = omega (arith, none)
      by_test false = refl

-- where there is one mutator and no visitor, all notes are in with its
pub alone_in : (layout : Layout) (notes gone : List ℕ) → layout.mutators ≡ 1 → layout.visitors ≡ 0 → notes ≡ 0 ∷ [] →
    (i : ℕ) → IsParty layout i → In i notes ⊎ In i gone
alone_in layout notes gone one none is i (inl below) = inl (subst (In i) (sym is) (inl (omega (arith, below, one))))
alone_in layout notes gone one none is i (inr (least, most)) = absurd (omega (arith, least, most, none))

-- and no visit is to be entered
pub none_told : (layout : Layout) (v : View) → layout.visitors ≡ 0 → unentered v.visited ≡ 0 → VisitsAreIn layout v
none_told layout v none unvisited = record {
  told = subst (λ (n : ℕ). HaveTold (most_visits v) n v.visited) (sym none) (record {
    each = λ visitor below. absurd (omega (arith, below));
    all = unvisited;
  });
  done = λ some. absurd (omega (arith, some, none));
}
