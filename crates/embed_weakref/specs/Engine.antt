-- A heap between two calls of the realm that runs on it.
use Rattle.std.specs.Prelude.{ℕ, ◌≡◌, []}
use Rattle.tide.specs.atomic_table.Seated.{TableId}
use Rattle.tide.specs.Parts.{IsInPart}
use Rattle.tide.specs.tide_core.declared.machine.view.View.{View}
use Rattle.tide.specs.tide_freeze.declared.books.Books.{Books}
use Rattle.tide.specs.tide_model.Layout.{Layout}
use Rattle.tide.specs.tide_table.Standing.{RunsWith}
use Rattle.tide.specs.tide_weakref.Viewed.{jobs_of, view_of}
use Rattle.tide.specs.tide_weakref.Worked.{IsReady}
use Rattle.tide.specs.tide_weakref.declared.realm.Realm.{Realm}

-- a part runs with its books, no note of it is in, and nobody has told a visit
pub record IsOpen (layout : Layout) (books : Books) (v : View) : Type 0 where
  pub runs : RunsWith layout books v
  pub notes : v.notes ≡ []
  pub visited : v.visited ≡ []

-- the realm's mutator takes part in it, visits no cell, and the realm may be asked; its register is the fourth
pub record TakesPart (id : TableId) (layout : Layout) (part : ℕ) (realm : Realm) : Type 0 where
  pub in_part : IsInPart 0 part (view_of realm)
  pub unvisited : (view_of realm).visits ≡ 0
  pub ready : IsReady id layout realm
  pub scratch : (jobs_of realm).scratch ≡ 3
