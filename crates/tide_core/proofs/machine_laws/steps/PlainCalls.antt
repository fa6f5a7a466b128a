-- A call that leaves all cells and arrays as they were keeps the wave: one on a register, a handle, a claim,
-- or none.
use Rattle.std.proofs.Common.{ℕ, ◌≡◌, ◌≢◌, ◌<◌, ◌≤◌, refl, sym, ap, subst, Bool, true, false, List, [], ◌∷◌, ◌++◌, inl, inr, None, ◌∙◌, ◌⊎◌}
use Rattle.std.proofs.lemmas.Bool.{cases_Bool}
use Rattle.std.specs.Prelude.{Contains, not}
use Rattle.tide_core.specs.wave.FrozenWave.{is_birth_of}
use Rattle.tide_words.specs.tide_layout.declared.region.Region.{Region}
use Rattle.tide_core.proofs.machine_laws.steps.ArraysKept.{arrays_kept}
use Rattle.tide_core.proofs.machine_laws.steps.Calls.{OfState, call_step, is_uncalled}
use Rattle.tide_core.proofs.machine_laws.steps.GrowthsKept.{growth_kept}
use Rattle.tide_core.proofs.machine_laws.steps.ScansKept.{scan_kept}
use Rattle.tide_core.specs.machine.Duties.{OwesColour, StillOwes}
use Rattle.tide_core.specs.machine.Entries.{call_of}
use Rattle.tide_core.specs.machine.Owed.{IsOwnWord, own_register, own_structure, own_array, own_pair, own_element, owed_word, Unsettles}
use Rattle.tide_core.specs.machine.RunningWave.{RunningWave}
use Rattle.tide_core.specs.machine.Scanning.{Place, slot, property, IsStill}
use Rattle.tide_core.specs.machine.Words.{count_of}
use Rattle.tide_core.specs.machine.World.{World, parties, pushes}
use Rattle.tide_core.specs.declared.machine.view.Duty.{Duty}
use Rattle.tide_core.specs.declared.machine.view.Owed.{Owed}
use Rattle.tide_core.specs.declared.machine.view.View.{View}
use Rattle.tide_core.specs.machine.points.Births.{IsHidden}
use Rattle.tide_core.specs.machine.points.Growths.{GrowthKnows}
use Rattle.tide_core.specs.machine.points.Links.{LinkAt}
use Rattle.tide_core.specs.machine.points.Seen.{CallsAreTold}
use Rattle.tide_core.specs.machine.points.SettledWords.{RunningWordsRead}
use Rattle.tide_model.proofs.ReferenceLaws.{RefsAreLive-call, put_at_elim}
use Rattle.tide_model.specs.Applied.{after_call}
use Rattle.tide_model.specs.Cycle.{HasDead, dead_cell, dead_array}
use Rattle.tide_model.specs.History.{state_after}
use Rattle.tide_model.specs.Lawful.{Stands}
use Rattle.tide_model.specs.Layout.{Layout}
use Rattle.tide_model.specs.Numbers.{put_at}
use Rattle.tide_model.specs.References.{IsLive, RefsAreLive}
use Rattle.tide_model.specs.Refused.{ShapeLists}
use Rattle.tide_model.specs.State.{State}
use Rattle.tide_model.specs.declared.entry.Entry.TheVariants.{Call}
use Rattle.tide_model.specs.declared.op.Op.{Op}
use Rattle.tide_model.specs.declared.op.Reply.{Reply}
use Rattle.tide_model.specs.declared.val.Val.{Val}
use Rattle.tide_model.specs.declared.val.Val.TheVariants.{Cell}
use Rattle.tide_words.specs.heap.Heap.{Heap}
use Rattle.tide_words.specs.tide_layout.declared.region.Region.TheVariants as region
use Rattle.tide_core.specs.declared.machine.view.Duty.TheVariants as duty
use Rattle.tide_core.specs.declared.machine.view.Growth.TheVariants as growth

-- the regions that such a call writes
abbrev pub is_changed : Region → Bool
is_changed region.Active = true
is_changed region.Call = true
is_changed region.Registers = true
is_changed region.Strong = true
is_changed region.Weak = true
is_changed region.Claim = true
is_changed _ = false

module _ (layout : Layout) (shapes : ShapeLists) (w : World) (me : ℕ) (inside : me < parties)
    (wave : RunningWave layout shapes w) (runs : (w.part me).runs ≡ true)
    (idle : (w.part me).duty ≡ duty.Nothing) (grows_not : (w.part me).growth ≡ growth.Nothing)
    (op : Op) (reply : Reply) (bears_nothing : (cell : ℕ) → is_birth_of cell (Call me op reply) ≡ false)
    (stands : Stands layout shapes w.log (call_of me op reply None))
    (active : ℕ → Bool) (registers : ℕ → ℕ → Val) (claims : ℕ → List ℕ) (strong weak : ℕ → Val) (calls : ℕ)
    (left : Bool) where
  abbrev state : State
  state = state_after layout w.log

  abbrev after : State
  after = record state { active = active; registers = registers; claims = claims; strong = strong; weak = weak }

  abbrev later : List Owed → View
  later owed = record (w.part me) {
    owed = owed;
    known = [];
    full = [];
    calls = calls;
    left = left;
    seen = w.log ++ call_of me op reply None ∷ [];
    mine = (w.part me).mine ++ call_of me op reply None ∷ [];
  }

  -- what is left to show of such a call
  pub record ShowsPlain (new : Heap) (owed : List Owed) : Type 0 where
    pub becomes : after_call state me op reply None ≡ after
    pub same : (at : Region) (index : ℕ) → is_changed at ≡ false → new at index ≡ w.heap at index
    pub differs : (p : ℕ) (at : Region) (index word : ℕ) → Unsettles (w.part p) at index word → new at index ≡ w.heap at index
    pub words : RunningWordsRead layout shapes new (put_at w.part me (later owed)) after
    pub told : CallsAreTold layout new (put_at w.part me (later owed))
    pub kept : (p : ℕ) (at : Region) (index word : ℕ) → p ≢ me → Contains (w.part p).known (owed_word at index word) →
        new at index ≡ word
    pub claims_else : (p : ℕ) → p ≢ me → claims p ≡ state.claims p
    pub hidden : (p c : ℕ) → p ≢ me → IsLive state c → IsHidden state p c →
        ((who register : ℕ) → who ≢ p → active who ≡ true → registers who register ≡ Cell c → ⊥)
        × ((handle : ℕ) → strong handle ≡ Cell c → ⊥) × ((handle : ℕ) → weak handle ≡ Cell c → ⊥) ×
        ((who : ℕ) → Contains (claims who) c → ⊥)
    pub active_else : (p : ℕ) → p ≢ me → active p ≡ state.active p
    pub left_is : left ≡ not (active me)
    pub leaves : (left ≡ (w.part me).left) ⊎ ((w.part me).sweeping ≡ None)

  module _ (new : Heap) (owed : List Owed) (s : ShowsPlain new owed) where
    own_still : (p : ℕ) (at : Region) (index : ℕ) → p ≢ me → IsOwnWord layout state p at index →
        IsOwnWord layout after p at index
    own_still p _ _ apart (own_register r a b) = own_register r a b
    own_still p _ _ apart (own_structure c at) =
        own_structure c (subst (λ (l : List ℕ). Contains l c) (sym (s.claims_else p apart)) at)
    own_still p _ _ apart (own_array c at) =
        own_array c (subst (λ (l : List ℕ). Contains l c) (sym (s.claims_else p apart)) at)
    own_still p _ _ apart (own_pair t k at one has) =
        own_pair t k (subst (λ (l : List ℕ). Contains l t) (sym (s.claims_else p apart)) at) one has
    own_still p _ _ apart (own_element c a k at is has) =
        own_element c a k (subst (λ (l : List ℕ). Contains l c) (sym (s.claims_else p apart)) at) is has

    link_before : (x : ℕ) (place : Place) (target : ℕ) → LinkAt after x place target → LinkAt state x place target
    link_before x (slot n) target link = link
    link_before x (property n) target link = link

    still_dead : (block : ℕ) → HasDead layout after block → HasDead layout state block
    still_dead block (dead_cell c within of_block is) = dead_cell c within of_block is
    still_dead block (dead_array a within of_block is) = dead_array a within of_block is

    no_colour : (c : ℕ) → OwesColour (w.part me).duty c → ⊥
    no_colour c owes = subst (λ (d : Duty). OwesColour d c) idle owes

    structure : (c : ℕ) → new region.Structure c ≡ w.heap region.Structure c
    structure c = s.same region.Structure c refl

    of_state : OfState layout shapes w.heap w.part w.log me wave op reply None new (later owed) after
    of_state = record {
      words = s.words;
      refs = subst RefsAreLive s.becomes
          (RefsAreLive-call layout shapes state me op reply None wave.refs stands.is_active stands.answers);
      alive = λ x is. is;
      arrays = λ array is. is;
      scans = λ p scan is. scan_kept layout w.heap new state after
          structure (λ c. s.same region.Array c refl) (λ i. s.same region.Elements i refl) (λ c is_live. is_live) scan
          (wave.scans.knows p scan is);
      links = λ x place target link black white. inr (link_before x place target link);
      beyond = λ marks x n target link past. inr (link, subst (λ (word : ℕ). count_of word ≤ n) (structure x) past);
      awaited = λ c owes. absurd (no_colour c owes);
      growth = subst (GrowthKnows new after me (later owed)) (sym grows_not) tt;
      growths = λ p apart. growth_kept w.heap new state after p (w.part p) (w.part p) (λ c mine.
          s.same region.Structure c refl) (λ c mine. s.same region.Array c refl)
          (λ c. subst (λ (l : List ℕ). Contains l c) (sym (s.claims_else p apart))) (λ c a mine is. is)
          (λ c x o. o) (λ c x o. o) (λ i x o. o)
          (w.part p).growth (wave.growths.knows p);
      owns = λ p at index apart. own_still p at index apart;
      hidden = λ p c apart alive h. let now = s.hidden p c apart alive h in record {
        registers = now.0;
        strong = now.1;
        weak = now.2;
        claims = now.3;
        paired = h.paired;
        linked = λ x place link. h.linked x place (link_before x place c link);
        blank = λ place target link. h.blank place target (link_before c place target link);
      };
      stands = arrays_kept layout w.heap new state after structure (λ c. s.same region.Array c refl) (λ i.
          s.same region.Elements i refl) (λ array. refl) (λ c array alive is.
          (alive, refl, refl, refl)) (λ c alive none. inl alive) wave.arrays;
      inactive = put_at_elim (λ p u. u.left ≡ not (active p)) w.part me (later owed) s.left_is
          (λ p apart. wave.left p ∙ ap not (sym (s.active_else p apart)));
      dead = λ block has. still_dead block has;
    }

    pub plain_call : RunningWave layout shapes (record {
      heap = new;
      part = put_at w.part me (later owed);
      log =
          w.log ++ call_of me op reply None ∷ [];
    })
    plain_call = call_step layout shapes w.heap w.part w.log me wave op reply None new (later owed) record {
      inside = inside;
      runs = runs;
      still_runs = runs;
      uncalled = λ at index is. s.same at index (not_changed at is);
      stands = stands;
      who = refl;
      seen = refl;
      mine = refl;
      marks = refl;
      cycle = refl;
      mark_version = refl;
      begun = refl;
      visits = refl;
      stopped = refl;
      period = s.same region.Period 0 refl;
      calls = s.told;
      held = refl;
      round = refl;
      sweeping = refl;
      saw = refl;
      cleared = refl;
      dead_words = λ block. s.same region.Dead block refl;
      differs = s.differs;
      leaves = s.leaves;
      scan = refl;
      known = refl;
      full = refl;
      pushes_none = λ c. (ap (λ (d : Duty). pushes d c) idle, ap (λ (d : Duty). pushes d c) idle);
      grows = λ c g. record { grows = g.grows; owes = g.owes };
      barrier = λ c owes. absurd (subst (λ (d : Duty). StillOwes w.heap d c) idle owes);
      kept = s.kept;
      truer = λ p scan is holds. (
        holds.0,
        elim holds.1 [
          | inl agreed ↦ inl agreed
          | inr still ↦
              inr (subst (IsStill scan.first) (structure scan.cell) still)
        ],
      );
      born_before = λ c owes. no_colour c owes;
      born = λ c born. (let isnt = bears_nothing c in absurd (cc));
      white = λ c owes. absurd (no_colour c owes);
      awaits = λ marks c owes. absurd (no_colour c owes);
      owner = wave.born.owner;
      once = λ c owes. absurd (no_colour c owes);
      once_others = λ p c apart. wave.born.once p c;
      state = subst (OfState layout shapes w.heap w.part w.log me wave op reply None new (later owed))
          (sym s.becomes) of_state;
    }
      where
        not_changed : (at : Region) → is_uncalled at ≡ true → is_changed at ≡ false
        not_changed at is = elim (cases_Bool (is_changed at)) [
          | inl changed ↦ absurd (clash at is changed)
          | inr isnt ↦
              isnt
        ]
          where
            clash : (at : Region) → is_uncalled at ≡ true → is_changed at ≡ true → ⊥
            clash region.Active a b = absurd (cc)
            clash region.Call a b = absurd (cc)
            clash region.Registers a b = absurd (cc)
            clash region.Strong a b = absurd (cc)
            clash region.Weak a b = absurd (cc)
            clash region.Claim a b = absurd (cc)
            clash _ a b = absurd (cc)
