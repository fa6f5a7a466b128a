-- The births that views count are those of the history since the part was opened.
use Rattle.std.proofs.Common.{ℕ, zero, suc, ◌≡◌, ◌≢◌, ◌+◌, ◌<◌, ◌≤◌, refl, sym, ◌∙◌, ap, subst, arith, Bool, true, false, List, [], ◌∷◌, ◌++◌, append_assoc, append-nil, inl, inr, Option, None, Some}
use Rattle.std.proofs.lemmas.Bool.{cases_Bool, cases_eq, eq-eqb, ne_eqb}
use Rattle.std.proofs.lemmas.Bool.Decides.{nat_tests}
use Rattle.std.proofs.lemmas.List.Elements.{Contains-append_left, Contains-append_right}
use Rattle.std.proofs.lemmas.List.Sums.{sum_by-append}
use Rattle.std.specs.List.{list_all}
use Rattle.std.specs.Prelude.{Contains, ◌==◌, ◌&&◌, ◌||◌, count_by, if◌then◌else◌}
use Rattle.tide_freeze.proofs.BirthLaws.{born-none, born-push}
use Rattle.tide_freeze.proofs.FewBirths.{HasFewBirths-lawful}
use Rattle.tide_core.proofs.tide_layout.ClassWidths.{count_where-le}
use Rattle.tide_core.proofs.tide_layout.LimitLaws.{few_cells}
use Rattle.tide_core.specs.tide_layout.Limits.{IsWithinLimits}
use Rattle.tide_core.specs.tide_layout.Slots.{total_below}
use Rattle.tide_core.proofs.machine_laws.steps.Frames.{put_here, put_else}
use Rattle.tide_core.specs.machine.Entries.{added}
use Rattle.tide_core.specs.machine.World.{parties}
use Rattle.tide_core.specs.declared.machine.view.View.{View}
use Rattle.tide_core.specs.machine.points.Seen.{HasPartAlone}
use Rattle.tide_model.proofs.Histories.{IsLawful-elim}
use Rattle.tide_model.proofs.NumberLaws.{put_at_elim}
use Rattle.tide_model.proofs.SinceLaws.{since-none, since-push}
use Rattle.tide_model.specs.History.{is_call_of, is_open, state_after}
use Rattle.tide_model.specs.Layout.{Layout, cell_count}
use Rattle.tide_model.specs.Lawful.{IsLawful, Stands}
use Rattle.tide_model.specs.Numbers.{is_among, put_at}
use Rattle.tide_model.specs.Refused.{ShapeLists}
use Rattle.tide_model.specs.Since.{born_since, is_birth, is_born_reply, is_end, is_of_part, since}
use Rattle.tide_model.specs.State.{is_live}
use Rattle.tide_model.specs.declared.entry.Entry.{Entry}
use Rattle.tide_model.specs.declared.entry.Entry.TheVariants.{Call, Begin, Pause, Visits, End, Taken, Sweep, Open}
use Rattle.tide_model.specs.declared.entry.Event.{Event}
use Rattle.tide_heap.specs.Births.{births_in, born_to, is_birth_of, told_births}
use Rattle.tide_heap.specs.Parties.{In}

-- how many cells are born at an entry, or at none
abbrev pub births_at : Option Event → ℕ
births_at None = 0
births_at (Some event) = if is_birth event.entry then 1 else 0

-- the entry is a call of this participant, or has a block taken or swept
abbrev pub is_step_of : ℕ → Entry → Bool
is_step_of who (Taken block) = true
is_step_of who (Sweep block) = true
is_step_of who entry = is_call_of who entry

-- a step of this participant makes the entry, if it makes one
abbrev pub IsOwnEntry : ℕ → Option Event → Type 0
IsOwnEntry who None = Unit {0}
IsOwnEntry who (Some event) = is_step_of who event.entry ≡ true

pub still : (n : ℕ) → n ≡ n + 0
still n = omega arith

-- such an entry opens no part, and is no call of another
pub own_no_open : (who : ℕ) (entry : Entry) → is_step_of who entry ≡ true → is_open entry ≡ false
own_no_open who (Call p o reply) is = refl
own_no_open who (Begin cycle full) is = absurd (cc)
own_no_open who (Pause visits) is = absurd (cc)
own_no_open who (Visits p visits) is = absurd (cc)
own_no_open who (End cycle freed) is = absurd (cc)
own_no_open who (Taken block) is = refl
own_no_open who (Sweep block) is = refl
own_no_open who (Open number run) is = absurd (cc)

not_of_other : (who other : ℕ) (entry : Entry) → is_step_of who entry ≡ true → other ≢ who →
    is_call_of other entry ≡ false
not_of_other who other (Call p o reply) is apart =
    ne_eqb p other (λ e. apart (let same : p ≡ who = grind (arith, nat_tests) in sym e ∙ same))
not_of_other who other (Begin cycle full) is apart = refl
not_of_other who other (Pause visits) is apart = refl
not_of_other who other (Visits p visits) is apart = refl
not_of_other who other (End cycle freed) is apart = refl
not_of_other who other (Taken block) is apart = refl
not_of_other who other (Sweep block) is apart = refl
not_of_other who other (Open number run) is apart = refl

-- the births of a mutator after one more event, which opens no part or opens one
pub born_to-push : (who : ℕ) (log : List Event) (event : Event) → is_open event.entry ≡ false →
    born_to who (log ++ event ∷ []) ≡ born_to who log + (if is_birth_of who event.entry then 1 else 0)
born_to-push who log event no_open =
    let test : Event → Bool = λ e. is_birth_of who e.entry in
    let parts = sum_by-append (λ (e : Event). if test e then 1 else 0) (since is_open log) (event ∷ []) in
    let grown : born_to who (log ++ event ∷ []) ≡ count_by test (since is_open log ++ event ∷ []) =
    ap {A = List Event} (count_by test) (since-push is_open log event no_open) in
    omega (arith, parts, grown)

pub born_to-none : (who : ℕ) (log : List Event) (event : Event) → is_open event.entry ≡ true →
    born_to who (log ++ event ∷ []) ≡ 0
born_to-none who log event opens =
    ap {A = List Event} (count_by (λ e. is_birth_of who e.entry)) (since-none is_open log event opens)

-- an entry that is no call of a mutator is no birth to it
pub born_to-quiet : (who : ℕ) (log : List Event) (event : Event) → is_open event.entry ≡ false →
    is_call_of who event.entry ≡ false → born_to who (log ++ event ∷ []) ≡ born_to who log
born_to-quiet who log event no_open no_call =
    let more = born_to-push who log event no_open in
    let none = ap {B = ℕ} (λ (b : Bool). if b && is_birth event.entry then 1 else 0) no_call in
    omega (arith, more, none)

-- its births are all that the entry has
own_birth : (who : ℕ) (entry : Entry) → is_step_of who entry ≡ true →
    ◌≡◌ {A = ℕ} (if is_birth_of who entry then 1 else 0) (if is_birth entry then 1 else 0)
own_birth who (Call p o reply) is = ap {B = ℕ} (λ (b : Bool). if b && is_born_reply reply then 1 else 0) is
own_birth who (Begin cycle full) is = absurd (cc)
own_birth who (Pause visits) is = absurd (cc)
own_birth who (Visits p visits) is = absurd (cc)
own_birth who (End cycle freed) is = absurd (cc)
own_birth who (Taken block) is = refl
own_birth who (Sweep block) is = refl
own_birth who (Open number run) is = absurd (cc)

born_to-own : (who : ℕ) (log : List Event) (event : Option Event) → IsOwnEntry who event →
    born_to who (added log event) ≡ born_to who log + births_at event
born_to-own who log None own = still (born_to who log)
born_to-own who log (Some event) own =
    let more = born_to-push who log event (own_no_open who event.entry own) in
    let one = own_birth who event.entry own in omega (arith, more, one)

born_to-other : (who other : ℕ) (log : List Event) (event : Option Event) → IsOwnEntry who event → other ≢ who →
    born_to other (added log event) ≡ born_to other log
born_to-other who other log None own apart = refl
born_to-other who other log (Some event) own apart =
    born_to-quiet other log event (own_no_open who event.entry own) (not_of_other who other event.entry own apart)

-- what came since the opening goes on with an event that opens no part
pub start-push : (start log : List Event) (event : Event) → is_open event.entry ≡ false →
    start ++ since is_open log ≡ log → start ++ since is_open (log ++ event ∷ []) ≡ log ++ event ∷ []
start-push start log event no_open was =
    ap (λ (l : List Event). start ++ l) (since-push is_open log event no_open)
    ∙ sym (append_assoc start (since is_open log) (event ∷ [])) ∙ ap (λ (l : List Event). l ++ event ∷ []) was

pub start-added : (who : ℕ) (start log : List Event) (event : Option Event) → IsOwnEntry who event →
    start ++ since is_open log ≡ log → start ++ since is_open (added log event) ≡ added log event
start-added who start log None own was = was
start-added who start log (Some event) own was = start-push start log event (own_no_open who event.entry own) was

pub start-opened : (log : List Event) (event : Event) → is_open event.entry ≡ true →
    (log ++ event ∷ []) ++ since is_open (log ++ event ∷ []) ≡ log ++ event ∷ []
start-opened log event opens = ap (λ (l : List Event). (log ++ event ∷ []) ++ l) (since-none is_open log event opens)
    ∙ append-nil (log ++ event ∷ [])

-- what a step of a participant's changes of its births
pub record Counts (period : ℕ) (v u : View) (event : Option Event) : Type 0 where
  pub own : IsOwnEntry v.who event
  pub births : births_in period u ≡ births_in period v + births_at event

-- one that began in the part counts the births of its entry
pub counts_of : (period : ℕ) (v u : View) (event : Option Event) → IsOwnEntry v.who event → v.begun ≡ period →
    u.begun ≡ v.begun → u.born ≡ v.born + births_at event → Counts period v u event
counts_of period v u event own now same born = record {
  own = own;
  births =
      let before = ap {B = ℕ} (λ (b : Bool). if b then v.born else 0) (eq-eqb v.begun period now) in
      let after = ap {B = ℕ} (λ (b : Bool). if b then u.born else 0) (eq-eqb u.begun period (same ∙ now)) in
      omega (arith, before, after, born);
}

-- the births of all, after a step of one
pub births_added : (period : ℕ) (part : ℕ → View) (log : List Event) (v u : View) (event : Option Event) →
    v ≡ part v.who → Counts period v u event → ((i : ℕ) → births_in period (part i) ≡ born_to i log) →
    (i : ℕ) → births_in period (put_at part v.who u i) ≡ born_to i (added log event)
births_added period part log v u event mine counts each =
    put_at_elim (λ i x. births_in period x ≡ born_to i (added log event)) part v.who u
    (let one = counts.births in let more = born_to-own v.who log event counts.own in let was = each v.who in
    let same = ap (births_in period) mine in omega (arith, one, more, was, same))
    (λ i other. each i ∙ sym (born_to-other v.who i log event counts.own other))

-- sums
pub total_same : (f g : ℕ → ℕ) (n : ℕ) → ((i : ℕ) → i < n → f i ≡ g i) → total_below f n ≡ total_below g n
total_same f g zero same = refl
total_same f g (suc n) same =
    (let before = total_same f g n (λ i below. same i (omega (arith, below))) in let last = same n (omega arith) in
    omega (arith, before, last))

total_more : (f g : ℕ → ℕ) (k x n : ℕ) → k < n → g k ≡ f k + x → ((i : ℕ) → i ≢ k → g i ≡ f i) →
    total_below g n ≡ total_below f n + x
total_more f g k x zero below here others = absurd (omega (arith, below))
total_more f g k x (suc n) below here others = elim (cases_eq n k) [
  | inl same ↦
      let before = total_same g f n (λ i under. others i (λ e. omega (arith, under, e, same))) in
      let last : g n ≡ f n + x = subst (λ (i : ℕ). g i ≡ f i + x) (sym same) here in
      omega (arith, before, last)
  | inr apart ↦
      let before = total_more f g k x n (omega (arith, below, apart)) here others in
      let last = others n apart in omega (arith, before, last)
]

total_adds : (f g h : ℕ → ℕ) (n : ℕ) → ((i : ℕ) → i < n → h i ≡ f i + g i) →
    total_below h n ≡ total_below f n + total_below g n
total_adds f g h zero same = refl
total_adds f g h (suc n) same =
    (let before = total_adds f g h n (λ i below. same i (omega (arith, below))) in let last = same n (omega arith) in
    omega (arith, before, last))

total_zero : (f : ℕ → ℕ) (n : ℕ) → ((i : ℕ) → i < n → f i ≡ 0) → total_below f n ≡ 0
total_zero f zero none = refl
total_zero f (suc n) none =
    (let before = total_zero f n (λ i below. none i (omega (arith, below))) in let last = none n (omega arith) in
    omega (arith, before, last))

-- a list's numbers
pub among_in : (i : ℕ) (xs : List ℕ) → is_among xs i ≡ true → In i xs
among_in i [] is = absurd (cc)
among_in i (x ∷ xs) is = elim (cases_eq i x) [
  | inl e ↦ inl e
  | inr apart ↦ inr (among_in i xs (sym (ap (λ (b : Bool). b || is_among xs i) (ne_eqb i x apart)) ∙ is))
]

or_right : (a b : Bool) → b ≡ true → (a || b) ≡ true
or_right true b is = refl
or_right false b is = is

pub in_among : (i : ℕ) (xs : List ℕ) → In i xs → is_among xs i ≡ true
in_among i [] a = absurd a
in_among i (x ∷ xs) (inl e) = ap (λ (b : Bool). b || is_among xs i) (eq-eqb i x e)
in_among i (x ∷ xs) (inr a) = or_right (i == x) (is_among xs i) (in_among i xs a)

pub not_among : (i : ℕ) (xs : List ℕ) → (In i xs → ⊥) → is_among xs i ≡ false
not_among i xs none = elim (cases_Bool (is_among xs i)) [
  | inl is ↦ absurd (none (among_in i xs is))
  | inr isnt ↦ isnt
]

-- a view that is no noted one's, or counts the same, leaves what the notes tell
pub told_put : (period : ℕ) (part : ℕ → View) (who : ℕ) (u : View) (notes : List ℕ) →
    (In who notes → births_in period u ≡ births_in period (part who)) →
    told_births period (put_at part who u) notes ≡ told_births period part notes
told_put period part who u notes same =
    total_same (λ i. if is_among notes i then births_in period (put_at part who u i) else 0)
    (λ i. if is_among notes i then births_in period (part i) else 0) parties (λ i below. each i)
  where
    here : (b : Bool) → is_among notes who ≡ b →
        (if b then births_in period u else 0) ≡ (if b then births_in period (part who) else 0)
    here true is = same (among_in who notes is)
    here false isnt = refl

    each : (i : ℕ) → (if is_among notes i then births_in period (put_at part who u i) else 0)
        ≡ (if is_among notes i then births_in period (part i) else 0)
    each i = elim (cases_eq i who) [
      | inl e ↦ ap (λ (j : ℕ). if is_among notes j then births_in period (put_at part who u j) else 0) e
          ∙ ap {B = ℕ} (λ (x : View). if is_among notes who then births_in period x else 0) (put_here part who u)
          ∙ here (is_among notes who) refl
          ∙ ap (λ (j : ℕ). if is_among notes j then births_in period (part j) else 0) (sym e)
      | inr other ↦ ap {B = ℕ} (λ (x : View). if is_among notes i then births_in period x else 0) (put_else part who i u other)
    ]

-- one more note tells its births
pub told_more : (period : ℕ) (part : ℕ → View) (who : ℕ) (notes : List ℕ) → who < parties → (In who notes → ⊥) →
    told_births period part (who ∷ notes) ≡ told_births period part notes + births_in period (part who)
told_more period part who notes few out =
    total_more (λ i. if is_among notes i then births_in period (part i) else 0)
    (λ i. if is_among (who ∷ notes) i then births_in period (part i) else 0) who (births_in period (part who)) parties few
    (let now = ap {B = ℕ} (λ (b : Bool). if b || is_among notes who then births_in period (part who) else 0)
    (eq-eqb who who refl) in
    let was = ap {B = ℕ} (λ (b : Bool). if b then births_in period (part who) else 0) (not_among who notes out) in
    omega (arith, now, was))
    (λ i other. ap {B = ℕ} (λ (b : Bool). if b || is_among notes i then births_in period (part i) else 0)
    (ne_eqb i who other))

-- no note tells nothing
pub told_none : (period : ℕ) (part : ℕ → View) → told_births period part [] ≡ 0
told_none period part = total_zero (λ i. 0) parties (λ i below. refl)

-- where those who aren't noted count nothing, the notes tell the births of all
pub told_all : (period : ℕ) (part : ℕ → View) (notes : List ℕ) →
    ((i : ℕ) → (In i notes → ⊥) → births_in period (part i) ≡ 0) →
    told_births period part notes ≡ total_below (λ i. births_in period (part i)) parties
told_all period part notes none =
    total_same (λ i. if is_among notes i then births_in period (part i) else 0) (λ i. births_in period (part i)) parties
    (λ i below. by_test i (is_among notes i) refl)
  where
    by_test : (i : ℕ) (b : Bool) → is_among notes i ≡ b → (if b then births_in period (part i) else 0) ≡ births_in period (part i)
    by_test i true is = refl
    by_test i false isnt =
        sym (none i (λ a. let is = in_among i notes a in let clash : true ≡ false = sym is ∙ isnt in cc))

-- each birth of a lawful history is one of a mutator
each_birth : (entry : Entry) → ((who : ℕ) → is_call_of who entry ≡ true → who < parties) →
    total_below (λ i. if is_birth_of i entry then 1 else 0) parties ≡ (if is_birth entry then 1 else 0)
each_birth (Call who o reply) few =
    let is : (who == who) ≡ true = eq-eqb who who refl in
    let counted = total_more (λ i. 0) (λ i. if is_birth_of i (Call who o reply) then 1 else 0) who
    (if is_born_reply reply then 1 else 0) parties (few who is)
    (let one = ap {B = ℕ} (λ (b : Bool). if b && is_born_reply reply then 1 else 0) is in omega (arith, one))
    (λ i other. ap {B = ℕ} (λ (b : Bool). if b && is_born_reply reply then 1 else 0)
    (ne_eqb who i (λ e. other (sym e)))) in
    let none = total_zero (λ i. 0) parties (λ i below. refl) in omega (arith, counted, none)
each_birth (Begin cycle full) few = total_zero (λ i. 0) parties (λ i below. refl)
each_birth (Pause visits) few = total_zero (λ i. 0) parties (λ i below. refl)
each_birth (Visits who visits) few = total_zero (λ i. 0) parties (λ i below. refl)
each_birth (End cycle freed) few = total_zero (λ i. 0) parties (λ i below. refl)
each_birth (Taken block) few = total_zero (λ i. 0) parties (λ i below. refl)
each_birth (Sweep block) few = total_zero (λ i. 0) parties (λ i below. refl)
each_birth (Open number run) few = total_zero (λ i. 0) parties (λ i below. refl)

stands_few : (layout : Layout) (shapes : ShapeLists) (before : List Event) (entry : Entry) (took : Option ℕ) →
    IsWithinLimits layout → Stands layout shapes before (record { entry = entry; took = took }) → (who : ℕ) →
    is_call_of who entry ≡ true → who < parties
stands_few layout shapes before (Call p o reply) took limits stands who is =
    let same : p ≡ who = grind (arith, nat_tests) in let few = limits.few_mutators in let below = stands.is_mutator in
    omega (arith, same, few, below)
stands_few layout shapes before (Begin cycle full) took limits stands who is = absurd (cc)
stands_few layout shapes before (Pause visits) took limits stands who is = absurd (cc)
stands_few layout shapes before (Visits p visits) took limits stands who is = absurd (cc)
stands_few layout shapes before (End cycle freed) took limits stands who is = absurd (cc)
stands_few layout shapes before (Taken block) took limits stands who is = absurd (cc)
stands_few layout shapes before (Sweep block) took limits stands who is = absurd (cc)
stands_few layout shapes before (Open number run) took limits stands who is = absurd (cc)

-- so the births of all mutators since the part was opened are those of the history
pub born_to_all : (layout : Layout) (shapes : ShapeLists) → IsWithinLimits layout → (log : List Event) →
    IsLawful layout shapes log → total_below (λ i. born_to i log) parties ≡ born_since is_open log
born_to_all layout shapes limits =
    IsLawful-elim layout shapes (λ log. total_below (λ i. born_to i log) parties ≡ born_since is_open log)
    (total_zero (λ i. born_to i []) parties (λ i below. refl))
    (λ before event was stands. elim (cases_Bool (is_open event.entry)) [
      | inl opens ↦ total_zero (λ i. born_to i (before ++ event ∷ [])) parties
          (λ i below. born_to-none i before event opens)
          ∙ sym (born-none is_open before event opens)
      | inr goes_on ↦
          let grown = total_adds (λ i. born_to i before) (λ i. if is_birth_of i event.entry then 1 else 0)
          (λ i. born_to i (before ++ event ∷ [])) parties (λ i below. born_to-push i before event goes_on) in
          let one = each_birth event.entry (stands_few layout shapes before event.entry event.took limits stands) in
          let more = born-push is_open before event goes_on in
          omega (arith, grown, was, one, more)
    ])

-- where each event of a list passes a test, they all do
pub all_pass : (test : Event → Bool) (events : List Event) →
    ((event : Event) → Contains events event → test event ≡ true) → list_all test events ≡ true
all_pass test [] each = refl
all_pass test (event ∷ events) each =
    ap (λ (b : Bool). b && list_all test events) (each event (0, omega arith, refl))
    ∙ all_pass test events (λ e at. each e (Contains-append_right (event ∷ []) events e at))

-- no cycle ends in a part
part_ends_none : (entry : Entry) → is_of_part entry ≡ true → is_end entry ≡ false
part_ends_none (End cycle freed) is = absurd (cc)
part_ends_none _ is = refl

module _ (layout : Layout) (shapes : ShapeLists) (limits : IsWithinLimits layout) where
  -- so no more cells were born since the part was opened than since a cycle ended
  since_end : (log : List Event) → IsLawful layout shapes log → HasPartAlone log →
      born_since is_open log ≤ born_since is_end log
  since_end = IsLawful-elim layout shapes (λ log. HasPartAlone log → born_since is_open log ≤ born_since is_end log)
      (λ alone. omega arith)
      (λ before event was stands alone. elim (cases_Bool (is_open event.entry)) [
        | inl opens ↦ (let none = born-none is_open before event opens in omega (arith, none))
        | inr goes_on ↦
            let joined = since-push is_open before event goes_on in
            let all : (e : Event) → Contains (since is_open before ++ event ∷ []) e → is_of_part e.entry ≡ true =
            λ e at. alone e (subst (λ (l : List Event). Contains l e) (sym joined) at) in
            let of_part = all event
            (Contains-append_right (since is_open before) (event ∷ []) event (0, omega arith, refl)) in
            let earlier = was (λ e at. all e (Contains-append_left (since is_open before) (event ∷ []) e at)) in
            let more = born-push is_open before event goes_on in
            let of_cycle = born-push is_end before event (part_ends_none event.entry of_part) in
            omega (arith, earlier, more, of_cycle)
      ])

  -- so their number is far from 2 to the power of 32
  pub births_few : (log : List Event) → IsLawful layout shapes log → HasPartAlone log → born_since is_open log ≤ 83886080
  births_few log lawful alone =
      let few = since_end log lawful alone in
      let live = (HasFewBirths-lawful layout shapes log limits.five_cell_classes lawful).since_end in
      let cells = count_where-le (λ cell. is_live ((state_after layout log).cells cell).status) (cell_count layout) in
      let most = few_cells layout limits in
      omega (arith, few, live, cells, most)
