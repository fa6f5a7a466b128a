-- What a scan knows stays known while structures, arrays and elements stay, and live cells are live still.
use Rattle.std.proofs.Common.{ℕ, ◌≡◌, ◌≤◌, sym, ◌∙◌, subst, true}
use Rattle.tide_words.specs.tide_layout.Slots.{index_of_element}
use Rattle.tide_words.specs.tide_layout.declared.region.Region.TheVariants as region
use Rattle.tide_core.specs.machine.Scanning.{IsStill}
use Rattle.tide_core.specs.machine.Words.{count_of, is_nuked}
use Rattle.tide_core.specs.declared.machine.view.Scan.{Scan}
use Rattle.tide_core.specs.machine.points.Scans.{ScanKnows}
use Rattle.tide_model.specs.Layout.{Layout}
use Rattle.tide_model.specs.References.{IsLive}
use Rattle.tide_model.specs.State.{State}
use Rattle.tide_words.specs.heap.Heap.{Heap}

pub scan_kept : (layout : Layout) (old new : Heap) (before after : State) →
    ((c : ℕ) → new region.Structure c ≡ old region.Structure c) → ((c : ℕ) → new region.Array c ≡ old region.Array c) →
    ((index : ℕ) → new region.Elements index ≡ old region.Elements index) →
    ((c : ℕ) → IsLive before c → IsLive after c) → (scan : Scan) → ScanKnows layout old before scan →
    ScanKnows layout new after scan
scan_kept layout old new before after structure array elements alive scan k = record {
  unread = k.unread;
  array_after = k.array_after;
  grows = λ first is. subst (λ (word : ℕ). count_of first ≤ count_of word) (sym (structure scan.cell))
      (k.grows first is);
  nuked = λ first is. subst (λ (word : ℕ). count_of first ≡ count_of word → is_nuked first ≡ true →
      is_nuked word ≡ true) (sym (structure scan.cell)) (k.nuked first is);
  array = λ word is still. array scan.cell ∙ k.array word is (subst (IsStill scan.first) (structure scan.cell) still);
  room = k.room;
  names_live = λ first at place cell is has below names. alive cell
      (k.names_live first at place cell is has below (sym (elements (index_of_element layout at place)) ∙ names));
  agreed = k.agreed;
}
