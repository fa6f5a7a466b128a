-- What a growth knows stays known while the words of its cell, the claim, and what it owes stay.
use Rattle.std.proofs.Common.{ℕ, ◌≡◌, ◌∙◌, Some}
use Rattle.std.specs.Prelude.{Contains}
use Rattle.tide_words.specs.tide_layout.declared.region.Region.TheVariants as region
use Rattle.tide_core.specs.machine.Owed.{Owes}
use Rattle.tide_core.specs.machine.Words.{nuked_word}
use Rattle.tide_core.specs.declared.machine.view.Growth.{Growth}
use Rattle.tide_core.specs.declared.machine.view.Growth.TheVariants as growth
use Rattle.tide_core.specs.declared.machine.view.View.{View}
use Rattle.tide_core.specs.machine.points.Growths.{GrowthKnows, GrowthOn}
use Rattle.tide_model.specs.State.{State}
use Rattle.tide_words.specs.forms.Reference.{array_word}
use Rattle.tide_words.specs.heap.Heap.{Heap}

module _ (old new : Heap) (before after : State) (p : ℕ) (u v : View)
    (structure : (c : ℕ) → Contains (before.claims p) c → new region.Structure c ≡ old region.Structure c)
    (array : (c : ℕ) → Contains (before.claims p) c → new region.Array c ≡ old region.Array c)
    (claims : (c : ℕ) → Contains (before.claims p) c → Contains (after.claims p) c)
    (arrays : (c a : ℕ) → Contains (before.claims p) c → (before.cells c).array ≡ Some a →
    (after.cells c).array ≡ Some a)
    (owes_structure : (c x : ℕ) → Owes u region.Structure c x → Owes v region.Structure c x)
    (owes_array : (c x : ℕ) → Owes u region.Array c x → Owes v region.Array c x)
    (elements : (index x : ℕ) → Owes v region.Elements index x → Owes u region.Elements index x) where
  on : (cell taken from to word : ℕ) → GrowthOn old before p u cell taken from to word →
      GrowthOn new after p v cell taken from to word
  on cell taken from to word g = record {
    claimed = claims cell g.claimed;
    has = arrays cell taken g.claimed g.has;
    stands = structure cell g.claimed ∙ g.stands;
    even = g.even;
    fresh = g.fresh;
    more = g.more;
    owes = owes_structure cell to g.owes;
  }

  pub growth_kept : (g : Growth) → GrowthKnows old before p u g → GrowthKnows new after p v g
  growth_kept growth.Nothing k = tt
  growth_kept (growth.Filling cell taken from to) k =
      (on cell taken from to from k.0, owes_array cell (array_word (Some taken)) k.1)
  growth_kept (growth.Nuked cell taken from to) k = (
    on cell taken from to (nuked_word from) k.0,
    owes_array cell (array_word (Some taken)) k.1,
    λ index x owes. k.2 index x (elements index x owes),
  )
  growth_kept (growth.Stored cell taken from to) k = (
    on cell taken from to (nuked_word from) k.0,
    array cell k.0.claimed ∙ k.1,
    λ index x owes. k.2 index x (elements index x owes),
  )
