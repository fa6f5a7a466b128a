-- The barrier of a cell in which a reference was stored, step by step.
use Rattle.std.proofs.Common.{ℕ, ◌≡◌, ◌<◌, sym, ◌∙◌, ap, subst, Bool, true, false, []}
use Rattle.std.proofs.lemmas.Bool.{eq-eqb, ne_eqb}
use Rattle.std.specs.Prelude.{if◌then◌else◌}
use Rattle.tide_heap.specs.tide_call.declared.action.Action.{Action}
use Rattle.tide_heap.specs.tide_core.machine.Duties.{GrowsOn}
use Rattle.tide_heap.specs.tide_core.machine.Kind.{LoadColour, PushBit, Regrey, StoreBorn}
use Rattle.tide_heap.specs.tide_core.machine.May.{RunsAsMutator, barrier_for}
use Rattle.tide_heap.specs.tide_core.machine.Words.{is_cell_word}
use Rattle.tide_heap.specs.tide_core.declared.machine.view.Duty.{Duty}
use Rattle.tide_heap.specs.tide_core.declared.machine.view.Duty.TheVariants as duty
use Rattle.tide_heap.specs.tide_core.declared.machine.view.Growth.{Growth}
use Rattle.tide_heap.specs.tide_core.declared.machine.view.View.{View}
use Rattle.tide_heap.specs.tide_core.machine.World.{World}
use Rattle.tide_model.specs.Layout.{Layout, cell_count}
use Rattle.tide_model.specs.Refused.{ShapeLists}
use Rattle.tide_model.specs.declared.op.Op.{Op}
use Rattle.tide_model.specs.declared.op.Reply.{Reply}
use Rattle.tide_mutator.proofs.owed_laws.Telling.{still_mutator, still_runs}
use Rattle.tide_mutator.specs.owed.Calling.{IsCalling, Kept}
use Rattle.tide_mutator.specs.owed.Made.{HasMade, IsMade, Shown, shown}
use Rattle.tide_mutator.specs.owed.Shading.{Owing, HasShaded}
use Rattle.tide_heap.specs.steps.Follows.{Follows, MayStep}
use Rattle.tide_heap.specs.tide_words.declared.forms.colours.Colour.TheVariants.{Black, White}
use Rattle.tide_heap.specs.tide_words.forms.ColourWord.{colour_word, is_black_in}

module _ (layout : Layout) (shapes : ShapeLists) (v : View) (cell : ℕ) where
  runs_there : (d : Duty) → Owing layout v d → (w : World) → w.part v.who ≡ v → RunsAsMutator layout w v.who
  runs_there d owing w is = record { is_mutator = owing.is_mutator; runs = ap (λ (x : View). x.runs) is ∙ owing.runs }

  grows_none : (d : Duty) → Owing layout v d → (w : World) → w.part v.who ≡ v → GrowsOn (w.part v.who).growth cell → ⊥
  grows_none d owing w is grows =
      subst (λ (g : Growth). GrowsOn g cell) (ap (λ (x : View). x.growth) is ∙ owing.growth) grows

  pub may_look : Owing layout v (duty.Barrier cell) → MayStep layout shapes v (LoadColour cell)
  may_look owing w running is = record {
    runner = runs_there (duty.Barrier cell) owing w is;
    owed = ap (λ (x : View). x.duty) is ∙ owing.duty;
    grown = grows_none (duty.Barrier cell) owing w is;
  }

  pub may_regrey : (word cycle : ℕ) → Owing layout v (duty.Regrey cell word) → is_black_in v.mark_version word ≡ true →
      cell < cell_count layout → cycle ≡ v.cycle → MayStep layout shapes v (Regrey cell word cycle)
  may_regrey word cycle owing black within same w running is = record {
    runner = runs_there (duty.Regrey cell word) owing w is;
    owed = ap (λ (x : View). x.duty) is ∙ owing.duty;
    black = ap (λ (x : View). is_black_in x.mark_version word) is ∙ black;
    within = within;
    in_cycle = same ∙ sym (ap (λ (x : View). x.cycle) is);
    grown = grows_none (duty.Regrey cell word) owing w is;
  }

  pub may_push : Owing layout v (duty.Push cell) → MayStep layout shapes v (PushBit cell)
  may_push owing w running is = record {
    runner = runs_there (duty.Push cell) owing w is;
    owed = ap (λ (x : View). x.duty) is ∙ owing.duty;
  }

-- what each step leaves
module _ (layout : Layout) (shapes : ShapeLists) (v u : View) (cell read : ℕ)
    (f : Follows layout shapes (LoadColour cell) v read u) where
  pub looked_black : is_black_in v.mark_version read ≡ true → u.duty ≡ duty.Regrey cell read
  looked_black is = ap (λ (x : View). x.duty) f.view
      ∙ ap (λ (b : Bool). if b then duty.Regrey cell read else duty.Nothing) is

  -- one that didn't find its cell black owes nothing more
  pub looked_shaded : is_black_in v.mark_version read ≡ false → HasShaded v u
  looked_shaded isnt = record {
    shown = ap shown f.view;
    owed = ap (λ (x : View). x.owed) f.view;
    duty = ap (λ (x : View). x.duty) f.view ∙ ap (λ (b : Bool). if b then duty.Regrey cell read else duty.Nothing) isnt;
  }

-- what a mutator owes after a step that leaves what a call shows
pub owing_after : (layout : Layout) (v u : View) (before after : Duty) → Owing layout v before → shown u ≡ shown v →
    u.duty ≡ after → Owing layout u after
owing_after layout v u before after owing same duty = record {
  is_mutator = subst (λ (n : ℕ). n < layout.mutators) (sym (ap (λ (s : Shown). s.kept.who) same)) owing.is_mutator;
  runs = ap (λ (s : Shown). s.kept.runs) same ∙ owing.runs;
  growth = ap (λ (s : Shown). s.kept.growth) same ∙ owing.growth;
  duty = duty;
}

-- a barrier that looked and found its cell black
module _ (layout : Layout) (shapes : ShapeLists) (v u : View) (cell read cycle : ℕ)
    (owing : Owing layout v (duty.Barrier cell)) (f : Follows layout shapes (LoadColour cell) v read u)
    (same_cycle : cycle ≡ v.cycle) (black : is_black_in v.mark_version read ≡ true) where
  pub cycle_still : cycle ≡ u.cycle
  cycle_still = same_cycle ∙ sym (ap (λ (x : View). x.cycle) f.view)

  pub looked_owing : Owing layout u (duty.Regrey cell read)
  looked_owing = owing_after layout v u (duty.Barrier cell) (duty.Regrey cell read) owing (ap shown f.view)
      (looked_black layout shapes v u cell read f black)

  pub may_regrey_it : cell < cell_count layout → MayStep layout shapes u (Regrey cell read cycle)
  may_regrey_it within = may_regrey layout shapes u cell read cycle looked_owing
      (ap (λ (x : View). is_black_in x.mark_version read) f.view ∙ black) within cycle_still

-- a barrier that found its cell black still, and made it grey
module _ (layout : Layout) (shapes : ShapeLists) (v u : View) (cell read cycle word : ℕ)
    (owing : Owing layout v (duty.Regrey cell word)) (f : Follows layout shapes (Regrey cell word cycle) v read u) where
  pub regreyed_owing : read ≡ word → Owing layout u (duty.Push cell)
  regreyed_owing is = owing_after layout v u (duty.Regrey cell word) (duty.Push cell) owing (ap shown f.view)
      (ap (λ (x : View). x.duty) f.view ∙ ap (λ (b : Bool). if b then duty.Push cell else duty.Nothing)
      (eq-eqb read word is))

  -- one that didn't find it so owes no bit
  pub regreyed_shaded : (read ≡ word → ⊥) → HasShaded v u
  regreyed_shaded other = record {
    shown = ap shown f.view;
    owed = ap (λ (x : View). x.owed) f.view;
    duty = ap (λ (x : View). x.duty) f.view ∙ ap (λ (b : Bool). if b then duty.Push cell else duty.Nothing)
        (ne_eqb read word other);
  }

-- a barrier of two steps
pub shaded_after : (v u w : View) → shown u ≡ shown v → u.owed ≡ v.owed → HasShaded u w → HasShaded v w
shaded_after v u w same owed shaded =
    record { shown = shaded.shown ∙ same; owed = shaded.owed ∙ owed; duty = shaded.duty }

-- a cell that was just taken gets the colour that it is born with
pub may_colour : (layout : Layout) (shapes : ShapeLists) (v : View) (cell word : ℕ) → Owing layout v (duty.Born cell) →
    word ≡ colour_word v.cycle (if v.marks then Black else White) → MayStep layout shapes v (StoreBorn cell word)
may_colour layout shapes v cell word owing same w running is = record {
  runner = runs_there layout shapes v cell (duty.Born cell) owing w is;
  owed = ap (λ (x : View). x.duty) is ∙ owing.duty;
  is_word = same ∙ ap (λ (x : View). colour_word x.cycle (if x.marks then Black else White)) (sym is);
}

-- what a store in a cell left: its barrier is owed
module _ (layout : Layout) (v : View) (cell word : ℕ) (owing : Owing layout v (barrier_for cell word)) where
  pub owes_barrier : is_cell_word word ≡ true → Owing layout v (duty.Barrier cell)
  owes_barrier is = record {
    is_mutator = owing.is_mutator;
    runs = owing.runs;
    growth = owing.growth;
    duty = owing.duty ∙ ap (λ (b : Bool). if b then duty.Barrier cell else duty.Nothing) is;
  }

-- a call that owes a barrier, and what it is once that is paid
module _ (layout : Layout) (shapes : ShapeLists) (op : Op) (does : Action) (reply : Reply) (v u : View) where
  pub owing_made : (due : Duty) → IsCalling layout v op → HasMade layout shapes op does reply v u [] due →
      Owing layout u due
  owing_made due calling made = record {
    is_mutator = still_mutator layout shapes op does reply v u calling made.made;
    runs = still_runs layout shapes op does reply v u calling made.made;
    growth = ap (λ (k : Kept). k.growth) made.made.kept ∙ calling.between.growth;
    duty = made.duty;
  }

  pub made_shaded : (after : View) → IsMade layout shapes op does reply v (shown u) → HasShaded u after →
      IsMade layout shapes op does reply v (shown after)
  made_shaded after made shaded =
      subst (λ (s : Shown). IsMade layout shapes op does reply v s) (sym shaded.shown) made
