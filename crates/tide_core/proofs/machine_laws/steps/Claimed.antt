-- What the words of a cell say that a mutator claims, while it owes nothing.
use Rattle.std.proofs.Common.{ℕ, ◌≡◌, ◌+◌, ◌%◌, ◌<◌, refl, sym, ◌∙◌, ap, subst, arith, List, [], inl, inr, length, Some, false}
use Rattle.std.proofs.lemmas.Bool.{cases_eq, ne_eqb}
use Rattle.std.specs.Prelude.{Contains}
use Rattle.tide_words.specs.tide_layout.declared.region.Region.{Region}
use Rattle.tide_words.specs.tide_layout.declared.region.Region.TheVariants as region
use Rattle.tide_core.proofs.machine_laws.steps.Lists.{nothing_in}
use Rattle.tide_core.proofs.machine_laws.steps.Owning.{own_alone}
use Rattle.tide_core.proofs.machine_laws.steps.SettledNow.{own_now}
use Rattle.tide_core.specs.machine.Owed.{Owes, owed_word, IsOwnWord, own_structure, own_array}
use Rattle.tide_core.specs.machine.RunningWave.{RunningWave}
use Rattle.tide_core.specs.machine.Words.{count_of, is_nuked}
use Rattle.tide_core.specs.machine.World.{World}
use Rattle.tide_core.specs.declared.machine.view.Owed.{Owed}
use Rattle.tide_model.proofs.ClaimLaws.{ClaimsAreOwn-lawful}
use Rattle.tide_model.specs.History.{state_after}
use Rattle.tide_model.specs.Layout.{Layout, cell_count}
use Rattle.tide_model.specs.References.{IsLive}
use Rattle.tide_model.specs.Refused.{ShapeLists}
use Rattle.tide_model.specs.State.{State, is_free}
use Rattle.tide_words.proofs.heap_laws.ReadingLaws.{live_within}
use Rattle.tide_words.specs.forms.Reference.{array_word}

module _ (layout : Layout) (shapes : ShapeLists) (w : World) (me : ℕ) (wave : RunningWave layout shapes w)
    (owes_nothing : (w.part me).owed ≡ []) where
  abbrev state : State
  state = state_after layout w.log

  -- nobody owes a word of its own
  pub unowed : (at : Region) (index : ℕ) → IsOwnWord layout state me at index → (p word : ℕ) →
      Owes (w.part p) at index word → ⊥
  unowed at index own p word owes = elim (cases_eq p me) [
    | inl same ↦ nothing_in (owed_word at index word)
        (subst (λ (l : List Owed). Contains l (owed_word at index word)) owes_nothing
        (subst (λ (q : ℕ). Contains (w.part q).owed (owed_word at index word)) same owes))
    | inr apart ↦ apart (own_alone layout state (ClaimsAreOwn-lawful layout shapes w.log wave.lawful) wave.refs p me at
        at
        index index (wave.words.owns p at index word owes) own refl refl)
  ]

  module _ (cell : ℕ) (claimed : Contains (state.claims me) cell) where
    alive : IsLive state cell
    alive = wave.refs.claimed me cell claimed

    within : cell < cell_count layout
    within = live_within layout shapes wave.words.settled state cell wave.words.reads alive

    -- the structure's word tells the number of the cell's keys, and isn't nuked
    pub count_is : (count_of (w.heap region.Structure cell) ≡ length (state.cells cell).keys)
        × (is_nuked (w.heap region.Structure cell) ≡ false)
    count_is =
        let keys = ((wave.words.reads.parts.cells cell within).taken (ap is_free alive)).keys in
        let word = keys.is_word ∙ sym (wave.words.same region.Structure cell refl
        (unowed region.Structure cell (own_structure cell claimed))
        (own_now layout shapes w wave me region.Structure cell (own_structure cell claimed))) in
        let few = keys.few_keys in (
          omega (arith, word, few),
          ne_eqb (w.heap region.Structure cell % 2) 1 (λ e. omega (arith, word, e)),
        )

    -- the array's word names the cell's array
    pub array_is : (array : ℕ) → (state.cells cell).array ≡ Some array → (named : ℕ) →
        w.heap region.Array cell ≡ named + 1 → named ≡ array
    array_is array its named is =
        let word = ((wave.words.reads.parts.cells cell within).taken (ap is_free alive)).array in
        let told = ap array_word its in
        let same = wave.words.same region.Array cell refl (unowed region.Array cell (own_array cell claimed))
        (own_now layout shapes w wave me region.Array cell (own_array cell claimed)) in
        omega (arith, word, told, same, is)
