-- GetProp sees a property of a claimed cell: the wave is kept.
use Rattle.std.proofs.Common.{ℕ, ◌≡◌, ◌<◌, refl, sym, ◌∙◌, ap, subst, Bool, true, false, [], ◌∷◌, length, Option, Some, None}
use Rattle.std.specs.Prelude.{not}
use Rattle.tide_words.specs.tide_layout.Slots.{index_of_element}
use Rattle.tide_words.specs.tide_layout.declared.region.Region.TheVariants as region
use Rattle.tide_core.proofs.machine_laws.kinds.LoadingSeen.{load_seen}
use Rattle.tide_core.proofs.machine_laws.kinds.SeenCalls.{seen_granted}
use Rattle.tide_core.proofs.machine_laws.steps.Loads.{load_same}
use Rattle.tide_core.specs.machine.Kind.{LoadElement}
use Rattle.tide_core.specs.machine.Machine.{stepped}
use Rattle.tide_core.specs.machine.RunningWave.{RunningWave}
use Rattle.tide_core.specs.machine.Scanning.{property}
use Rattle.tide_core.specs.machine.Words.{value_of}
use Rattle.tide_core.specs.machine.World.{World, parties}
use Rattle.tide_core.specs.machine.kinds.StorePrivateElement.{MayLoadElement, SeesProperty}
use Rattle.tide_model.proofs.ReferenceLaws.{place_of-below}
use Rattle.tide_model.specs.Answer.{IsAnswerUnless}
use Rattle.tide_model.specs.Applied.{place_of, property_of}
use Rattle.tide_model.specs.History.{state_after}
use Rattle.tide_model.specs.Layout.{Layout, cell_count}
use Rattle.tide_model.specs.References.{IsLive}
use Rattle.tide_model.specs.Refused.{ShapeLists, refusal_of, refusal_at, first_of, refuse_if, is_table, holds, has_key}
use Rattle.tide_model.specs.State.{State}
use Rattle.tide_model.specs.declared.op.Op.{Op}
use Rattle.tide_model.specs.declared.op.Op.TheVariants.{GetProp}
use Rattle.tide_model.specs.declared.op.Refusal.{Refusal}
use Rattle.tide_model.specs.declared.op.Refusal.TheVariants.{IsTable, NotHeld, Absent}
use Rattle.tide_model.specs.declared.op.Reply.{Reply}
use Rattle.tide_model.specs.declared.op.Reply.TheVariants.{Done, Seen}
use Rattle.tide_model.specs.declared.val.Val.{Val}
use Rattle.tide_words.proofs.heap_laws.ReadingLaws.{live_within}
use Rattle.tide_words.specs.forms.ValueWord.{HasU32}

-- a call that was done, or that saw something, met no refusal
pub unrefused : (layout : Layout) (state : State) (who : ℕ) (op : Op) (reply : Reply) (refused : Option Refusal) →
    ((refusal : Refusal) → reply ≡ Rattle.tide_model.specs.declared.op.Reply.TheVariants.Refused refusal → ⊥) →
    IsAnswerUnless refused layout state who op reply None → refused ≡ None
unrefused layout state who op reply None isnt answer = refl
unrefused layout state who op reply (Some refusal) isnt answer = absurd (isnt refusal answer.1)

-- a property's call that met none found the key
pub found_key : (table held has : Bool) → first_of (refuse_if table IsTable ∷ refuse_if (not held) NotHeld
    ∷ refuse_if (not has) Absent ∷ []) ≡ None → has ≡ true
found_key true held has none = absurd (cc)
found_key false false has none = absurd (cc)
found_key false true true none = refl
found_key false true false none = absurd (cc)

module _ (layout : Layout) (shapes : ShapeLists) (w : World) (me : ℕ) (inside : me < parties)
    (wave : RunningWave layout shapes w) where
  abbrev state : State
  state = state_after layout w.log

  module _ (array place dst src key : ℕ) (s : SeesProperty layout shapes w me array place
      (w.heap region.Elements (index_of_element layout array place)) dst src key) where
    abbrev value : Val
    value = value_of (w.heap region.Elements (index_of_element layout array place))

    abbrev cell : ℕ
    cell = s.own.cell

    abbrev n : ℕ
    n = place_of (state.cells cell).keys key

    alive : IsLive state cell
    alive = wave.refs.claimed me cell s.own.claimed

    within : cell < cell_count layout
    within = live_within layout shapes wave.words.settled state cell wave.words.reads alive

    granted : first_of (refuse_if (is_table layout cell) IsTable ∷ refuse_if (not (holds state me cell)) NotHeld
        ∷ refuse_if (not (has_key state cell key)) Absent ∷ []) ≡ None
    granted = subst (λ (v : Val). refusal_at v src (λ cell. first_of (refuse_if (is_table layout cell) IsTable
        ∷ refuse_if (not (holds state me cell)) NotHeld ∷ refuse_if (not (has_key state cell key)) Absent ∷ [])) ≡ None)
        s.source (unrefused layout state me (GetProp dst src key) (Seen value)
        (refusal_of layout shapes state me (GetProp dst src key)) (λ refusal e. absurd (cc)) s.may.stands.answers)

    below : n < length (state.cells cell).keys
    below = place_of-below (state.cells cell).keys key
        (found_key (is_table layout cell) (holds state me cell) (has_key state cell key) granted)

    is : value ≡ (state.cells cell).properties n
    is = (seen_granted layout state me (GetProp dst src key) value None
        (refusal_of layout shapes state me (GetProp dst src key)) s.may.stands.answers).1
        ∙ ap (λ (v : Val). property_of state v key) s.source

    number : HasU32 ((state.cells cell).properties n)
    number = (let (a, its, has, held) = (wave.words.reads.parts.cells cell within).properties alive n below in
        held.number)

    seen : RunningWave layout shapes (stepped layout shapes w me (LoadElement array place (Some (GetProp dst src key))))
    seen = load_same layout shapes w.heap region.Elements _ _ _
        (load_seen layout shapes w me inside wave s.may.runner.runs s.may.between.duty s.may.between.owed
        s.may.between.growth (GetProp dst src key) dst value s.may.stands (λ t. refl) s.may.stands.fits.0
        (subst HasU32 (sym is) number) (λ p c apart h at. h.linked cell (property n) (alive, below, sym is ∙ at)))

  pub see_property : (array place : ℕ) (op : Op) →
      MayLoadElement layout shapes w me array place (w.heap region.Elements (index_of_element layout array place))
      (Some op) → RunningWave layout shapes (stepped layout shapes w me (LoadElement array place (Some op)))
  see_property array place (GetProp dst src key) may = seen array place dst src key may
  see_property array place _ none = absurd none
