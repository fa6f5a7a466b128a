-- A mutator loads a word that it alone may store, and knows it from then on: the wave is kept.
use Rattle.std.proofs.Common.{ℕ, ◌≡◌, ◌<◌, ◌⊎◌, refl, sym, subst, arith, true, List, [], ◌∷◌, inl, inr}
use Rattle.std.proofs.lemmas.Bool.{cases_eq}
use Rattle.std.proofs.lemmas.List.Elements.{Contains-append_cases}
use Rattle.std.specs.Prelude.{Contains}
use Rattle.tide_words.specs.tide_layout.declared.region.Region.{Region}
use Rattle.tide_core.proofs.machine_laws.steps.Frames.{each_put, calls_view, stops_view}
use Rattle.tide_core.proofs.machine_laws.steps.GrowthsKept.{growth_kept}
use Rattle.tide_core.proofs.machine_laws.steps.Lists.{nothing_in, in_one}
use Rattle.tide_core.proofs.machine_laws.steps.Loads.{load_same}
use Rattle.tide_core.proofs.machine_laws.steps.Owning.{own_alone}
use Rattle.tide_core.proofs.machine_laws.steps.Steps.{any_step}
use Rattle.tide_core.proofs.machine_laws.steps.SweepsKept.{sweeps_kept}
use Rattle.tide_core.proofs.machine_laws.steps.Waiting.{left_quiet}
use Rattle.tide_core.proofs.machine_laws.steps.Unsettled.{given_put, own_settled, unsettles_put}
use Rattle.tide_core.specs.machine.Duties.{GrowsAndOwes}
use Rattle.tide_core.specs.machine.Owed.{Owes, owed_word, IsOwnWord}
use Rattle.tide_core.specs.machine.RunningWave.{RunningWave}
use Rattle.tide_core.specs.machine.World.{World, parties}
use Rattle.tide_core.specs.declared.machine.view.Owed.{Owed}
use Rattle.tide_core.specs.declared.machine.view.View.{View}
use Rattle.tide_core.specs.machine.points.Scans.{held, scanned, buffered}
use Rattle.tide_core.specs.machine.points.SettledWords.{RunningWordsRead}
use Rattle.tide_model.proofs.ClaimLaws.{ClaimsAreOwn-lawful}
use Rattle.tide_model.proofs.ReferenceLaws.{put_at_elim}
use Rattle.tide_model.specs.History.{state_after}
use Rattle.tide_model.specs.Layout.{Layout}
use Rattle.tide_model.specs.Numbers.{put_at}
use Rattle.tide_model.specs.Refused.{ShapeLists}
use Rattle.tide_model.specs.State.{State}
use Rattle.tide_words.proofs.heap_laws.Frames.{is_read}
use Rattle.tide_words.specs.heap.Heap.{write}

module _ (layout : Layout) (shapes : ShapeLists) (w : World) (me : ℕ) (inside : me < parties)
    (wave : RunningWave layout shapes w) (runs : (w.part me).runs ≡ true) (owes_nothing : (w.part me).owed ≡ [])
    (at : Region) (index : ℕ) (read : is_read at ≡ true) (own : IsOwnWord layout (state_after layout w.log) me at index)
  where
    abbrev state : State
    state = state_after layout w.log

    abbrev its : Owed
    its = owed_word at index (w.heap at index)

    abbrev later : View
    later = record (w.part me) { known = its ∷ (w.part me).known }

    -- nobody owes the word
    unowed : (p word : ℕ) → Owes (w.part p) at index word → ⊥
    unowed p word owes = elim (cases_eq p me) [
      | inl same ↦ nothing_in (owed_word at index word)
          (subst (λ (l : List Owed). Contains l (owed_word at index word)) owes_nothing
          (subst (λ (q : ℕ). Contains (w.part q).owed (owed_word at index word)) same owes))
      | inr apart ↦ apart (own_alone layout state (ClaimsAreOwn-lawful layout shapes w.log wave.lawful) wave.refs p me
          at at
          index index (wave.words.owns p at index word owes) own refl refl)
    ]

    settled_is : wave.words.settled at index ≡ w.heap at index
    settled_is = sym (wave.words.same at index read unowed (own_settled layout shapes w.heap w.part state wave.words
        wave.sweeps.named wave.refs me at index own))

    -- what is known is this word, or was known
    known_cases : (r : Region) (i x : ℕ) → Contains later.known (owed_word r i x) →
        (its ≡ owed_word r i x) ⊎ Contains (w.part me).known (owed_word r i x)
    known_cases r i x is = elim (Contains-append_cases (its ∷ []) (w.part me).known (owed_word r i x) is) [
      | inl here ↦ inl (in_one its (owed_word r i x) here)
      | inr before ↦ inr before
    ]

    words_after : RunningWordsRead layout shapes w.heap (put_at w.part me later) state
    words_after = record {
      settled = wave.words.settled;
      reads = wave.words.reads;
      same = λ r i is_one free swept. wave.words.same r i is_one (λ p x owes. free p x (back p r i x owes))
          (unsettles_put w.part me later refl r i swept);
      given = given_put wave.words.settled w.part me later refl wave.words.given;
      owed = each_put (λ p u. (r : Region) (i x : ℕ) → Owes u r i x → wave.words.settled r i ≡ x) w.part me later
          (wave.words.owed me) wave.words.owed;
      known = each_put (λ p u. (r : Region) (i x : ℕ) → Contains u.known (owed_word r i x) →
          wave.words.settled r i ≡ x) w.part me later
          (λ r i x is. elim (known_cases r i x is) [
            | inl this ↦ subst (λ (o : Owed). wave.words.settled o.region o.index ≡ o.word) this settled_is
            | inr before ↦ wave.words.known me r i x before
          ]) wave.words.known;
      owns = each_put (λ p u. (r : Region) (i x : ℕ) → Owes u r i x → IsOwnWord layout state p r i) w.part me later
          (wave.words.owns me) wave.words.owns;
    }
      where
        back : (p : ℕ) (r : Region) (i x : ℕ) → Owes (w.part p) r i x → Owes (put_at w.part me later p) r i x
        back = put_at_elim (λ p u. (r : Region) (i x : ℕ) → Owes (w.part p) r i x → Owes u r i x) w.part me later
            (λ r i x o. o) (λ p apart r i x o. o)

    knows_it : RunningWave layout shapes (record { heap = w.heap; part = put_at w.part me later; log = w.log })
    knows_it = any_step layout shapes w.heap w.part w.log me wave w.heap later record {
      inside = inside;
      phase = refl;
      base = refl;
      period = refl;
      words = words_after;
      who = refl;
      seen = inl refl;
      mine = refl;
      knows = λ r i x is. elim (known_cases r i x is) [
        | inl this ↦ subst (λ (o : Owed). (is_read o.region ≡ true) × IsOwnWord layout state me o.region o.index ×
            (w.heap o.region o.index ≡ o.word)) this (read, own, refl)
        | inr before ↦ (
          wave.kept.reads me r i x before,
          wave.kept.owns me r i x before,
          wave.kept.known me r i x before,
        )
      ];
      knows_still = λ p r i x apart is. wave.kept.known p r i x is;
      finds = wave.kept.full me;
      told = λ _. wave.numbers.told me runs;
      begins = wave.numbers.begun me;
      left = refl;
      calls = calls_view layout w.heap w.heap w.part me later refl (λ p. refl) wave.calls;
      stops = stops_view layout w.heap w.heap w.part me later refl (λ p. refl) wave.stops;
      empties = λ is. absurd (cc);
      waits = left_quiet layout w.heap w.heap w.part me later refl refl (λ _ c in_c is. is) (λ c is. is) refl refl refl
          refl
          wave.waits;
      stands = wave.arrays;
      swept = wave.swept;
      sweeps = sweeps_kept layout w.heap w.heap w.part me later w.log refl (λ block. refl) (λ block. refl)
          (λ p r i x un. refl) refl refl refl refl wave.sweeps;
      growth = growth_kept w.heap w.heap state state me (w.part me) later (λ c mine. refl) (λ c mine. refl) (λ c at. at)
          (λ c a mine is. is) (λ c x o. o) (λ c x o. o) (λ i x o. o) (w.part me).growth (wave.growths.knows me);
      growths = λ p apart. wave.growths.knows p;
      colours = wave.colours;
      balance = λ c in_c few. refl;
      rests = λ idle. (wave.rests.held idle me, wave.rests.scans idle me);
      at_hand = λ c at. wave.hands.cells me c (elim at [
        | held is ↦ held is
        | scanned scan is e ↦ scanned scan is e
        | buffered scan is e ↦ buffered scan is e
      ]);
      arrays = λ a scan is. wave.hands.arrays me a scan is;
      scanned = λ scan is. (
        wave.retained.scanned me scan is,
        wave.scans.knows me scan is,
        λ c at holds. wave.retained.buffered me c scan is at holds,
      );
      scans = λ p scan apart is. wave.scans.knows p scan is;
      truer = λ p scan apart is holds. holds;
      black = λ source place target link black white.
          inr (refl, white, λ e. inl (elim e [ inl owes ↦ inl owes | inr answers ↦ inr answers ]));
      stays = λ c is. is;
      recoloured = λ _ c. inl refl;
      aims = λ scan target is. wave.targets.right me scan target is;
      marked = λ c in_c is. inl is;
      born = λ _ c owes. inl owes;
      owes = λ c owes. (owes, wave.born.white me c owes);
      counted = λ _. omega arith;
      beyond = λ marks source n target link past.
          let (p, g) = wave.grows.beyond marks source n target link past in
          elim (cases_eq p me) [
            | inl same ↦ (let mine = subst (λ (q : ℕ). GrowsAndOwes (w.part q) source) same g in
                inl (record { grows = mine.grows; owes = mine.owes }))
            | inr apart ↦ inr (p, apart, g)
          ];
    }

    pub known_load : RunningWave layout shapes
        (record { heap = write w.heap at index (w.heap at index); part = put_at w.part me later; log = w.log })
    known_load = load_same layout shapes w.heap at index (put_at w.part me later) w.log knows_it
