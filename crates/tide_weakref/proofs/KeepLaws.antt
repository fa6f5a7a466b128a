-- When a cell can be kept, and what is kept then.
use Rattle.std.proofs.Common.{ℕ, ◌≡◌, ◌<◌, ◌≤◌, arith, refl, sym, ◌∙◌, ap, Bool, true, false, List, [], ◌∷◌, ◌++◌, length, inl, inr}
use Rattle.std.proofs.lemmas.Bool.Decides.{leb_tells}
use Rattle.std.proofs.lemmas.Bool.{ltb-false, ltb-true}
use Rattle.std.specs.Prelude.{◌||◌, if◌then◌else◌, nat_lt, not}
use Rattle.tide_model.specs.Numbers.{is_among}
use Rattle.tide_model.specs.declared.op.Refusal.TheVariants.{NotCell as NoCell}
use Rattle.tide_model.specs.declared.op.Reply.{Reply}
use Rattle.tide_model.specs.declared.op.Reply.TheVariants.{Refused}
use Rattle.tide_model.specs.declared.val.Val.{Val}
use Rattle.tide_weakref.specs.Handles.{is_cell}
use Rattle.tide_weakref.specs.Jobs.{Jobs}
use Rattle.tide_weakref.specs.Stepping.{refusal_where_full, refuses_no_cell}
use Rattle.tide_weakref.specs.declared.refused.WeakRefused.TheVariants.{NotCell, RefsFull}
use Rattle.tide_weakref.specs.declared.range.Range16.{Range16}
use Rattle.tide_weakref.specs.Uses.{IsFullFor, keeping}

pub keeping_same : (jobs : Jobs) (cell : ℕ) → is_among jobs.cells cell ≡ true → jobs ≡ keeping jobs cell
keeping_same jobs cell is = ap (λ (b : Bool). record jobs { cells = if b then jobs.cells else jobs.cells ++ cell ∷ [] }) (sym is)

pub keeping_more : (jobs : Jobs) (cell : ℕ) → is_among jobs.cells cell ≡ false →
    (record jobs { cells = jobs.cells ++ cell ∷ [] }) ≡ keeping jobs cell
keeping_more jobs cell is = ap (λ (b : Bool). record jobs { cells = if b then jobs.cells else jobs.cells ++ cell ∷ [] }) (sym is)

pub has_room : (jobs : Jobs) (cell : ℕ) → length jobs.cells ≤ jobs.strong.count → is_among jobs.cells cell ≡ false →
    (IsFullFor jobs cell → ⊥) → length jobs.cells < jobs.strong.count
has_room jobs cell few apart room = elim (leb_tells jobs.strong.count (length jobs.cells)) [
  | inl past ↦ absurd (let h = past.1 in room (omega (arith, few, h), apart))
  | inr below ↦ below.1
]

less_is : (a b : ℕ) → a < b → nat_lt a b ≡ false → ⊥
less_is a b less m = let past = ltb-false a b m in omega (arith, past, less)

-- one kept cell more, as the handles' list has it, or none
pub kept_are : (jobs : Jobs) (strong : Range16) (cells others : List ℕ) → strong ≡ jobs.strong → cells ≡ others →
    record jobs { strong = strong; cells = cells } ≡ record jobs { cells = others }
kept_are jobs strong cells others same_strong same =
    ap (λ (s : Range16). record jobs { strong = s; cells = cells }) same_strong
    ∙ ap (λ (cs : List ℕ). record jobs { cells = cs }) same

pub kept_more : (jobs : Jobs) (strong : Range16) (cells : List ℕ) (cell : ℕ) → strong ≡ jobs.strong →
    cells ≡ jobs.cells ++ cell ∷ [] → record jobs { strong = strong; cells = cells } ≡ record jobs { cells = jobs.cells ++ cell ∷ [] }
kept_more jobs strong cells cell same_strong more = kept_are jobs strong cells (jobs.cells ++ cell ∷ []) same_strong more

-- the test of `may_keep`
pub may_is : (jobs : Jobs) (cell : ℕ) → (is_among jobs.cells cell || nat_lt (length jobs.cells) jobs.strong.count) ≡ true →
    IsFullFor jobs cell → ⊥
may_is jobs cell may full = by_tests (is_among jobs.cells cell) full.1 may
  where
    by_tests : (b : Bool) → b ≡ false → (b || nat_lt (length jobs.cells) jobs.strong.count) ≡ true → ⊥
    by_tests true e m = (cc)
    by_tests false e m = let less = ltb-true (length jobs.cells) jobs.strong.count m in let same = full.0 in omega (arith, less, same)

pub may_not : (jobs : Jobs) (cell : ℕ) → length jobs.cells ≤ jobs.strong.count →
    (is_among jobs.cells cell || nat_lt (length jobs.cells) jobs.strong.count) ≡ false → IsFullFor jobs cell
may_not jobs cell few may = by_tests (is_among jobs.cells cell) refl may
  where
    by_tests : (b : Bool) → is_among jobs.cells cell ≡ b → (b || nat_lt (length jobs.cells) jobs.strong.count) ≡ false → IsFullFor jobs cell
    by_tests true e m = absurd (let f : true ≡ false = m in cc)
    by_tests false e m = (elim (leb_tells jobs.strong.count (length jobs.cells)) [
      | inl past ↦ (let h = past.1 in (omega (arith, few, h), e))
      | inr below ↦ absurd (less_is (length jobs.cells) jobs.strong.count below.1 m)
    ])

-- what the refusal of a slot tells of a register
pub got_is : (value : Val) (reply : Reply) (src : ℕ) → (is_cell value ≡ false → reply ≡ Refused (NoCell src)) →
    (is_cell value ≡ true → (reg : ℕ) → reply ≡ Refused (NoCell reg) → ⊥) → is_cell value ≡ not (refuses_no_cell reply)
got_is value reply src bare cell = by_test (is_cell value) refl
  where
    by_reply : (r : Reply) → ((reg : ℕ) → r ≡ Refused (NoCell reg) → ⊥) → refuses_no_cell r ≡ false
    by_reply (Refused (NoCell register)) never = absurd (never register refl)
    by_reply r never = refl

    by_test : (b : Bool) → is_cell value ≡ b → b ≡ not (refuses_no_cell reply)
    by_test true is = sym (ap not (by_reply reply (cell is)))
    by_test false is = sym (ap (λ (r : Reply). not (refuses_no_cell r)) (bare is))

-- so it is the cause where all weak handles are in use
pub why_no_cell : (value : Val) (src : ℕ) (refuses : Bool) → is_cell value ≡ not refuses →
    (if refuses then NotCell src else RefsFull) ≡ refusal_where_full src value
why_no_cell value src true is = ap (λ (b : Bool). if b then RefsFull else NotCell src) (sym is)
why_no_cell value src false is = ap (λ (b : Bool). if b then RefsFull else NotCell src) (sym is)

pub told_no_cell : (value : Val) (reply : Reply) (src : ℕ) → (is_cell value ≡ false → reply ≡ Refused (NoCell src)) →
    (is_cell value ≡ true → (reg : ℕ) → reply ≡ Refused (NoCell reg) → ⊥) → refuses_no_cell reply ≡ true → is_cell value ≡ false
told_no_cell value reply src bare cell is = got_is value reply src bare cell ∙ ap not is
