-- The store of an owed register word keeps the wave.
use Rattle.std.proofs.Common.{ℕ, ◌≡◌, ◌≢◌, ◌<◌, ◌⊎◌, ◌==◌, refl, ◌∙◌, ap, subst, arith, Bool, true, false, [], inl, inr, Option, Some, None}
use Rattle.std.proofs.lemmas.Bool.{cases_Bool, cases_eq, eqb-true, and_parts}
use Rattle.std.specs.Prelude.{if◌then◌else◌, ◌&&◌, not}
use Rattle.tide_words.specs.tide_layout.Region.{tag, index_of_register}
use Rattle.tide_words.specs.tide_layout.declared.region.Region.{Region}
use Rattle.tide_core.proofs.machine_laws.steps.ArraysKept.{arrays_kept}
use Rattle.tide_core.proofs.machine_laws.steps.Frames.{calls_view, stops_view}
use Rattle.tide_core.proofs.machine_laws.steps.GrowthsKept.{growth_kept}
use Rattle.tide_core.proofs.machine_laws.steps.Lists.{from_none}
use Rattle.tide_core.proofs.machine_laws.steps.Owning.{own_alone}
use Rattle.tide_core.proofs.machine_laws.steps.Paying.{words_paid, in_filter, filter_was}
use Rattle.tide_core.proofs.machine_laws.steps.ScansKept.{scan_kept}
use Rattle.tide_core.proofs.machine_laws.steps.Steps.{any_step}
use Rattle.tide_core.proofs.machine_laws.steps.SweepsKept.{swept_kept, sweeps_kept}
use Rattle.tide_core.proofs.machine_laws.steps.Waiting.{left_quiet}
use Rattle.tide_core.proofs.machine_laws.steps.SettledNow.{register_now}
use Rattle.tide_core.proofs.machine_laws.steps.Unsettled.{unsettled_write}
use Rattle.tide_core.specs.machine.Duties.{GrowsAndOwes, StillOwes}
use Rattle.tide_core.specs.machine.Owed.{is_at, Owes, IsOwnWord, owed_word, without_word}
use Rattle.tide_core.specs.machine.RunningWave.{RunningWave}
use Rattle.tide_core.specs.machine.Scanning.{Place}
use Rattle.tide_core.specs.machine.World.{World, parties}
use Rattle.tide_core.specs.declared.machine.view.Owed.{Owed}
use Rattle.tide_core.specs.declared.machine.view.Scan.{Scan}
use Rattle.tide_core.specs.declared.machine.view.View.{View}
use Rattle.tide_core.specs.machine.points.Links.{Excuses, ScanExcuses}
use Rattle.tide_core.specs.machine.points.Scans.{held, scanned, buffered}
use Rattle.tide_model.proofs.ClaimLaws.{ClaimsAreOwn-lawful}
use Rattle.tide_model.specs.History.{state_after}
use Rattle.tide_model.specs.Layout.{Layout}
use Rattle.tide_model.specs.Numbers.{put_at}
use Rattle.tide_model.specs.Refused.{ShapeLists}
use Rattle.tide_model.specs.State.{State}
use Rattle.tide_words.specs.heap.Heap.{Heap, write}
use Rattle.tide_words.specs.tide_layout.declared.region.Region.TheVariants as region

module _ (layout : Layout) (shapes : ShapeLists) (w : World) (me : ℕ) (inside : me < parties)
    (wave : RunningWave layout shapes w) (runs : (w.part me).runs ≡ true)
    (register word : ℕ) (owes_it : Owes (w.part me) region.Registers (index_of_register layout me register) word) where
  abbrev state : State
  state = state_after layout w.log

  abbrev idx : ℕ
  idx = index_of_register layout me register

  abbrev new : Heap
  new = write w.heap region.Registers idx word

  abbrev later : View
  later = record (w.part me) { owed = without_word region.Registers idx (w.part me).owed; known = [] }

  own_it : IsOwnWord layout state me region.Registers idx
  own_it = wave.words.owns me region.Registers idx word owes_it

  alone : (p : ℕ) (at : Region) (index : ℕ) → p ≢ me → IsOwnWord layout state p at index →
      new at index ≡ w.heap at index
  alone p at index apart own = elim (cases_Bool ((tag at == tag region.Registers) && (index == idx))) [
    | inl both ↦
        let parts = and_parts (tag at == tag region.Registers) (index == idx) both in
        absurd (apart (own_alone layout state (ClaimsAreOwn-lawful layout shapes w.log wave.lawful) wave.refs p me at
        region.Registers index idx own own_it
        (eqb-true (tag at) (tag region.Registers) parts.0) (eqb-true index idx parts.1)))
    | inr isnt ↦ ap (λ (b : Bool). if b then word else w.heap at index) isnt
  ]

  stays_owed : (at : Region) (index x : ℕ) → is_at region.Registers idx (owed_word at index x) ≡ false →
      Owes (w.part me) at index x → Owes later at index x
  stays_owed at index x other = in_filter (λ (o : Owed). not (is_at region.Registers idx o)) (w.part me).owed
      (owed_word at index x) (ap not other)

  was_owed : (at : Region) (index x : ℕ) → Owes later at index x → Owes (w.part me) at index x
  was_owed at index x owes = (filter_was (λ (o : Owed). not (is_at region.Registers idx o)) (w.part me).owed
      (owed_word at index x) owes).0

  pub pay_register : RunningWave layout shapes (record { heap = new; part = put_at w.part me later; log = w.log })
  pay_register = any_step layout shapes w.heap w.part w.log me wave new later record {
    inside = inside;
    phase = refl;
    base = refl;
    words = words_paid layout shapes w.heap w.part me state wave.words region.Registers idx later (λ r i x at.
        from_none (owed_word r i x) at) refl word owes_it refl;
    who = refl;
    seen = inl refl;
    mine = refl;
    finds = wave.kept.full me;
    period = refl;
    calls = calls_view layout w.heap new w.part me later refl (λ p. refl) wave.calls;
    stops = stops_view layout w.heap new w.part me later refl (λ p. refl) wave.stops;
    told = λ _. wave.numbers.told me runs;
    begins = wave.numbers.begun me;
    left = refl;
    waits = left_quiet layout w.heap new w.part me later refl refl (λ _ c in_c is. is) (λ c is. is) refl refl refl refl
        wave.waits;
    stands = arrays_kept layout w.heap new state state (λ c. refl) (λ c. refl) (λ i. refl) (λ array. refl)
        (λ c array alive is. (alive, refl, refl, refl)) (λ c alive none. inl alive) wave.arrays;
    swept = swept_kept layout w.heap new refl (λ block within. refl) wave.swept;
    sweeps = sweeps_kept layout w.heap new w.part me later w.log refl (λ block. refl) (λ block. refl)
        (unsettled_write w.heap w.part region.Registers idx word (register_now layout shapes w wave idx)) refl refl refl refl
        wave.sweeps;
    empties = λ is. absurd (cc);
    growth = growth_kept w.heap new state state me (w.part me) later (λ c mine. refl) (λ c mine. refl) (λ c at. at)
        (λ c a mine is. is) (λ c x. stays_owed region.Structure c x refl) (λ c x. stays_owed region.Array c x refl)
        (λ i x o. was_owed region.Elements i x o) (w.part me).growth
        (wave.growths.knows me);
    growths = λ p apart. growth_kept w.heap new state state p (w.part p) (w.part p) (λ c mine. refl) (λ c mine. refl)
        (λ c at. at)
        (λ c a mine is. is) (λ c x o. o) (λ c x o. o) (λ i x o. o) (w.part p).growth (wave.growths.knows p);
    knows = λ at index x is. from_none (owed_word at index x) is;
    knows_still = λ p at index x apart is. alone p at index apart (wave.kept.owns p at index x is) ∙
        wave.kept.known p at index x is;
    colours = wave.colours;
    balance = λ c in_c few. refl;
    rests = λ idle. (wave.rests.held idle me, wave.rests.scans idle me);
    at_hand = λ c at. wave.hands.cells me c (elim at [
      | held is ↦ held is
      | scanned scan is e ↦
          scanned scan is e
      | buffered scan is e ↦ buffered scan is e
    ]);
    arrays = λ a scan is. wave.hands.arrays me a scan is;
    scanned = λ scan is. (
      wave.retained.scanned me scan is,
      scan_kept layout w.heap new state state (λ c. refl) (λ c. refl) (λ i. refl) (λ c is_live. is_live) scan
          (wave.scans.knows me scan is),
      λ c at holds. wave.retained.buffered me c scan is at holds,
    );
    scans = λ p scan apart is. scan_kept layout w.heap new state state (λ c. refl) (λ c. refl) (λ i. refl) (λ c is_live.
        is_live) scan
        (wave.scans.knows p scan is);
    truer = λ p scan apart is holds. holds;
    black = λ source place target link black white.
        inr (refl, white, λ e. inl (same_excuse source place target e));
    stays = λ c is. is;
    recoloured = λ _ c. inl refl;
    aims = λ scan target is. wave.targets.right me scan target is;
    marked = λ c in_c is. inl is;
    born = λ _ c owes. inl owes;
    owes = λ c owes. (owes, wave.born.white me c owes);
    counted = λ _. omega arith;
    beyond = λ marks source n target link past.
        let (p, g) = wave.grows.beyond marks source n target link past in
        elim (cases_eq p me) [
          | inl same ↦ (let mine = subst (λ (q : ℕ). GrowsAndOwes (w.part q) source) same g in
              inl (record { grows = mine.grows; owes = mine.owes }))
          | inr apart ↦ inr (p, apart, g)
        ];
  }
    where
      same_excuse : (source : ℕ) (place : Place) (target : ℕ) → Excuses w.heap source place target (w.part me) →
          Excuses new source place target later
      same_excuse source place target e = of_scan (w.part me).scan e
        where
          of_scan : (scan : Option Scan) → StillOwes w.heap (w.part me).duty source ⊎
              ScanExcuses w.heap source place target scan → StillOwes w.heap (w.part me).duty source ⊎
              ScanExcuses new source place target scan
          of_scan scan (inl b) = inl b
          of_scan None (inr x) = inr x
          of_scan (Some scan) (inr x) = inr x
