-- Weak handles are read one after another until one holds no cell.
use Rattle.std.proofs.Common.{ℕ, zero, suc, ◌≡◌, ◌+◌, arith, refl, sym, ◌∙◌, ap, subst, Bool, true, false, List, [], ◌∷◌, ◌++◌, length, inl, inr, append_assoc}
use Rattle.std.proofs.lemmas.List.Elements.{Contains-push, Contains-push_cases}
use Rattle.std.specs.Option.{is_some}
use Rattle.std.specs.Prelude.{Contains, Option, None, Some, drop, not, slice_get, take}
use Rattle.tide_heap.specs.tide_core.declared.machine.view.View.{View}
use Rattle.tide_model.specs.Layout.{Layout}
use Rattle.tide_model.specs.Prefix.{IsPrefix}
use Rattle.tide_model.specs.declared.entry.Entry.TheVariants.{Call}
use Rattle.tide_model.specs.declared.entry.Event.{Event}
use Rattle.tide_model.specs.declared.op.Op.TheVariants.{WeakGet}
use Rattle.tide_model.specs.declared.op.Reply.TheVariants.{Seen}
use Rattle.tide_model.specs.declared.val.Val.{Val}
use Rattle.tide_model.specs.declared.val.Val.TheVariants.{Empty, Int, Cell}
use Rattle.tide_weakref.proofs.AimLaws.{cell_in_is}
use Rattle.tide_weakref.specs.Delivered.{AllHeldCells, IsFirstGone, WasRead}
use Rattle.tide_weakref.proofs.ClosingLaws.{found_none, spare_before}
use Rattle.tide_weakref.proofs.MadeLaws.{drop_all, made_more}
use Rattle.tide_weakref.proofs.WeakLaws.{contains_got}
use Rattle.tide_weakref.specs.Handles.{IsIn, is_cell}
use Rattle.tide_weakref.specs.Jobs.{Jobs, OthersSpare, handle_of}
use Rattle.tide_weakref.specs.Stepping.{HoldsNow, KeepsTargets, WasLoaded, cell_in}
use Rattle.tide_weakref.specs.Roles.{held_of}
use Rattle.tide_weakref.specs.declared.weak.Role.{Role}
use Rattle.tide_weakref.specs.declared.weak.Role.TheVariants.{Reference, Registration}
use Rattle.tide_weakref.specs.declared.weak.Weak.{Weak}

module _ (v w u : View) where
  -- a handle that was read was read, once more came
  pub read_more : IsPrefix v.mine w.mine → IsPrefix w.mine u.mine → (handle : ℕ) (value : Val) → WasRead v w handle value →
      WasRead v u handle value
  read_more first second handle value read = record {
    event = read.event;
    made = made_more v.mine w.mine u.mine read.event first second read.made;
    register = read.register;
    is = read.is;
  }

  pub held_more : IsPrefix v.mine w.mine → IsPrefix w.mine u.mine → (jobs : Jobs) (some : List Weak) → AllHeldCells v w jobs some →
      AllHeldCells v u jobs some
  held_more first second jobs some all = λ one held token has is.
      let read = all one held token has is in
      (read.0, read_more first second (handle_of jobs one) (Cell read.0) read.1)

  -- the call that reads it
  pub read_now : (layout : Layout) → w.who ≡ v.who → IsPrefix v.mine w.mine → (scratch handle : ℕ) (found : Option ℕ) →
      (loaded : WasLoaded layout w u scratch handle found) → WasRead v u handle loaded.value
  read_now layout same first scratch handle found loaded =
      let event = loaded.read.0 in
      let grown : u.mine ≡ v.mine ++ (first.rest ++ event ∷ []) =
      loaded.read.1 ∙ ap (λ (l : List Event). l ++ event ∷ []) (sym first.joins) ∙ append_assoc v.mine first.rest (event ∷ []) in
      record {
        event = event;
        made = subst (λ (l : List Event). Contains l event)
            (sym (ap (λ (l : List Event). drop (length v.mine) l) grown ∙ drop_all v.mine (first.rest ++ event ∷ [])))
            (Contains-push first.rest event);
        register = scratch;
        is = loaded.read.2 ∙ ap (λ (n : ℕ). Call n (WeakGet scratch handle) (Seen loaded.value)) same;
      }

-- a value in which there is a cell, and one in which there is none
pub some_cell_in : (value : Val) (cell : ℕ) → Some cell ≡ cell_in value → value ≡ Cell cell
some_cell_in value cell is = cell_in_is value cell (sym is)

pub none_in : (value : Val) → None ≡ cell_in value → is_cell value ≡ false
none_in Empty is = refl
none_in (Int n) is = refl
none_in (Cell cell) is = absurd (let e : None ≡ Some cell = is in cc)

-- the first registration whose target is gone is that still, once more came
pub first_gone_more : (layout : Layout) (v w u : View) (jobs : Jobs) (place : ℕ) (one : Weak) (held token : ℕ) →
    IsPrefix v.mine w.mine → IsPrefix w.mine u.mine → IsPrefix w.seen u.seen → w.who ≡ v.who → IsIn jobs.weak (handle_of jobs one) →
    KeepsTargets layout jobs w u → IsFirstGone v w jobs place one held token → IsFirstGone v u jobs place one held token
first_gone_more layout v w u jobs place one held token first second seen same within keeps is = record {
  at = is.at;
  registered = is.registered;
  earlier = held_more v w u first second jobs (take place jobs.uses) is.earlier;
  value = is.value;
  read = read_more v w u first second (handle_of jobs one) is.value is.read;
  holds_none = is.holds_none;
  gone = λ spare. keeps.gone (handle_of jobs one) one.target within (subst (λ (n : ℕ). OthersSpare n jobs u.seen) (sym same) spare)
      (is.gone (spare_before v.who v.who jobs w.seen u.seen refl seen spare));
}

-- one more of them held a cell
pub held_push : (v u : View) (jobs : Jobs) (some : List Weak) (one : Weak) → AllHeldCells v u jobs some →
    ((held token : ℕ) → one.role ≡ Registration held token → (cell : ℕ) × WasRead v u (handle_of jobs one) (Cell cell)) →
    AllHeldCells v u jobs (some ++ one ∷ [])
held_push v u jobs some one all last = λ other held token has is. (elim (Contains-push_cases some one other has) [
  | inl before ↦ all other held token before is
  | inr same ↦
      subst (λ (o : Weak). (cell : ℕ) × WasRead v u (handle_of jobs o) (Cell cell)) same
      (last held token (ap (λ (o : Weak). o.role) same ∙ is))
])

-- those up to a place and the one there are those up to the next place
take_suc : {X : Type 0} (xs : List X) (place : ℕ) (x : X) → slice_get xs place ≡ Some x → take (suc place) xs ≡ take place xs ++ x ∷ []
take_suc [] place x got = absurd (none_got place x got)
  where
    none_got : {Y : Type 0} (n : ℕ) (y : Y) → slice_get [] n ≡ Some y → ⊥
    none_got zero y is = (cc)
    none_got (suc n) y is = (cc)
take_suc (z ∷ xs) zero x got = let same : z ≡ x = cc in ap (λ (y : _). y ∷ []) same
take_suc (z ∷ xs) (suc place) x got = ap (λ (l : List _). z ∷ l) (take_suc xs place x got)

pub take_next : {X : Type 0} (xs : List X) (place : ℕ) (x : X) → slice_get xs place ≡ Some x → take (place + 1) xs ≡ take place xs ++ x ∷ []
take_next xs place x got =
    let next : place + 1 ≡ suc place = omega arith in ap (λ (n : ℕ). take n xs) next ∙ take_suc xs place x got

-- a role of which no held value is told, and one of which some is
module _ (told : Option ℕ) (role : Role) (none : Bool) (is : told ≡ held_of role) (some : is_some told ≡ not none) where
  pub tells_none : none ≡ true → held_of role ≡ None
  tells_none so = by_role role refl
    where
      by_role : (r : Role) → role ≡ r → held_of role ≡ None
      by_role Reference same = ap held_of same
      by_role (Registration held token) same =
          absurd (let e : true ≡ false = sym (ap is_some (is ∙ ap held_of same)) ∙ some ∙ ap not so in cc)

  pub tells_some : none ≡ false → (held : ℕ) × (token : ℕ) × (role ≡ Registration held token)
  tells_some so = by_role role refl
    where
      by_role : (r : Role) → role ≡ r → (held : ℕ) × (token : ℕ) × (role ≡ Registration held token)
      by_role Reference same =
          absurd (let e : false ≡ true = sym (ap is_some (is ∙ ap held_of same)) ∙ some ∙ ap not so in cc)
      by_role (Registration held token) same = (held, token, same)

-- a handle at a place is passed where it is no registration's
pub passed_other : (v w : View) (jobs : Jobs) (place : ℕ) (one : Weak) → slice_get jobs.uses place ≡ Some one →
    held_of one.role ≡ None → AllHeldCells v w jobs (take place jobs.uses) → AllHeldCells v w jobs (take (place + 1) jobs.uses)
passed_other v w jobs place one at none all =
    subst (AllHeldCells v w jobs) (sym (take_next jobs.uses place one at))
    (held_push v w jobs (take place jobs.uses) one all
    (λ held token is. absurd (let e : Some held ≡ None = sym (ap held_of is) ∙ none in cc)))

module _ (layout : Layout) (v w u : View) (jobs : Jobs) (place scratch : ℕ) (one : Weak) (same : w.who ≡ v.who)
    (first : IsPrefix v.mine w.mine) (second : IsPrefix w.mine u.mine) (at : slice_get jobs.uses place ≡ Some one)
    (all : AllHeldCells v w jobs (take place jobs.uses)) where
  -- and where the cell in it was read
  pub passed_held : (cell : ℕ) → WasLoaded layout w u scratch (handle_of jobs one) (Some cell) →
      AllHeldCells v u jobs (take (place + 1) jobs.uses)
  passed_held cell loaded =
      subst (AllHeldCells v u jobs) (sym (take_next jobs.uses place one at))
      (held_push v u jobs (take place jobs.uses) one (held_more v w u first second jobs (take place jobs.uses) all)
      (λ held token is. (
        cell,
        subst (WasRead v u (handle_of jobs one)) (some_cell_in loaded.value cell loaded.found_is)
            (read_now v w u layout same first scratch (handle_of jobs one) (Some cell) loaded),
      )))

  -- the first that holds none is that of a target that is gone
  pub first_is_gone : (held token : ℕ) → one.role ≡ Registration held token →
      (loaded : WasLoaded layout w u scratch (handle_of jobs one) None) → HoldsNow layout u jobs → u.who ≡ v.who →
      IsFirstGone v u jobs place one held token
  first_is_gone held token is loaded holds who = record {
    at = at;
    registered = is;
    earlier = held_more v w u first second jobs (take place jobs.uses) all;
    value = loaded.value;
    read = read_now v w u layout same first scratch (handle_of jobs one) None loaded;
    holds_none = none_in loaded.value loaded.found_is;
    gone = λ spare. found_none layout w u jobs one scratch None holds
        (let got = contains_got jobs.uses place one at in (place, got.0, got.1))
        (subst (λ (n : ℕ). OthersSpare n jobs u.seen) (sym who) spare) loaded refl;
  }
