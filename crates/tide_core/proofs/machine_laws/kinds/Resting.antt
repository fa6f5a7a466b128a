-- A participant that owes and holds nothing stops, learns what a ticket says, or hands out its note.
use Rattle.std.proofs.Common.{ℕ, ◌⊎◌, ◌≡◌, ◌<◌, ◌==◌, refl, sym, ◌∙◌, ap, subst, arith, Bool, true, false, List, [], inl, inr, None, Some}
use Rattle.std.proofs.lemmas.Bool.{cases_eq}
use Rattle.std.specs.Prelude.{Contains, filter, if◌then◌else◌}
use Rattle.tide_words.specs.tide_layout.declared.region.Region.{Region}
use Rattle.tide_core.proofs.machine_laws.steps.Colouring.{unread_write}
use Rattle.tide_core.proofs.machine_laws.steps.Frames.{calls_view, stops_view, each_put, put_here}
use Rattle.tide_core.proofs.machine_laws.steps.Lists.{from_none, nothing_in}
use Rattle.tide_core.proofs.machine_laws.steps.Quiet.{quiet_step}
use Rattle.tide_core.proofs.machine_laws.steps.Steps.{any_step}
use Rattle.tide_core.proofs.machine_laws.steps.StopPlaces.{stop_apart}
use Rattle.tide_core.proofs.machine_laws.steps.SweepsKept.{owed_kept, sweeping_same, sweeps_same, took_kept}
use Rattle.tide_core.proofs.machine_laws.steps.Waiting.{left_quiet}
use Rattle.tide_core.proofs.machine_laws.steps.Unsettled.{given_put, unsettles_put}
use Rattle.tide_core.specs.machine.Duties.{GrowsAndOwes}
use Rattle.tide_core.specs.machine.Kind.{index_of_stopped}
use Rattle.tide_core.specs.machine.May.{Rests}
use Rattle.tide_core.specs.machine.Owed.{Owes, IsOwnWord, owed_word}
use Rattle.tide_core.specs.machine.RunningWave.{RunningWave}
use Rattle.tide_core.specs.machine.World.{IsParty, parties}
use Rattle.tide_core.specs.declared.machine.view.Scan.{Scan}
use Rattle.tide_core.specs.declared.machine.view.View.{View}
use Rattle.tide_core.specs.machine.points.Growths.{GrowthKnows}
use Rattle.tide_core.specs.machine.points.Scans.{held, scanned, buffered}
use Rattle.tide_core.specs.machine.points.SettledWords.{RunningWordsRead}
use Rattle.tide_core.specs.machine.points.Stops.{StopsAreTold}
use Rattle.tide_core.specs.machine.points.Sweeps.{IsTaken, SawStands, SweepStands, Sweeps, SweepsAreRight}
use Rattle.tide_core.specs.declared.machine.view.Saw.{Saw}
use Rattle.tide_core.specs.declared.machine.view.Sweeping.{Sweeping}
use Rattle.tide_core.specs.machine.kinds.Sweep.{IsSweeping}
use Rattle.tide_model.proofs.ReferenceLaws.{put_at_elim}
use Rattle.tide_model.specs.History.{state_after, is_call_of}
use Rattle.tide_model.specs.Layout.{Layout}
use Rattle.tide_model.specs.Numbers.{put_at}
use Rattle.tide_model.specs.Prefix.{IsPrefix}
use Rattle.tide_model.specs.Refused.{ShapeLists}
use Rattle.tide_model.specs.declared.entry.Event.{Event}
use Rattle.tide_sweep.specs.Clearing.{IsCleared}
use Rattle.tide_sweep.specs.declared.port.Cleared.{Cleared}
use Rattle.tide_words.proofs.heap_laws.HeapLaws.{write-same, write-other_index}
use Rattle.tide_words.specs.heap.Heap.{Heap, write}
use Rattle.tide_words.specs.marking.Colours.{running_cycle}
use Rattle.tide_words.specs.tide_layout.declared.region.Region.TheVariants as region

module _ (layout : Layout) (shapes : ShapeLists) (heap : Heap) (part : ℕ → View) (log : List Event) (me : ℕ)
    (inside : me < parties)
    (wave : RunningWave layout shapes (record { heap = heap; part = part; log = log })) (rests : Rests (part me)) where
  none_scans : {X : Type 0} (scan : Scan) → (part me).scan ≡ Some scan → X
  none_scans scan is = (let none = rests.scan in absurd (cc))

  module _ (seen earlier said : List Event) (period ticket run cycle least : ℕ) (marks : Bool) (heard : (seen ≡ (part me).seen) ⊎
      (IsPrefix seen log × (filter (λ event. is_call_of me event.entry) seen ≡ (part me).mine))) where
    abbrev later : View
    later = record (part me) {
      runs = false;
      seen = seen;
      period = period;
      ticket = ticket;
      run = run;
      marks = marks;
      cycle = cycle;
      mark_version = least;
      earlier = earlier;
      told = said;
      known = [];
      full = [];
      saw = None;
      cleared = [];
    }

    words_after : RunningWordsRead layout shapes heap (put_at part me later) (state_after layout log)
    words_after = record {
      settled = wave.words.settled;
      reads = wave.words.reads;
      same = λ at index read free swept. wave.words.same at index read (λ p word owes.
          free p word (put_at_elim (λ p u. (at : Region) (index word : ℕ) → Owes (part p) at index word →
          Owes u at index word) part me later (λ at index word o. o) (λ p apart at index word o.
          o) p at index word owes)) (unsettles_put part me later refl at index swept);
      given = given_put wave.words.settled part me later refl wave.words.given;
      owed = each_put (λ p u. (at : Region) (index word : ℕ) → Owes u at index word →
          wave.words.settled at index ≡ word) part me later (wave.words.owed me) wave.words.owed;
      known = each_put (λ p u. (at : Region) (index word : ℕ) → Contains u.known (owed_word at index word) →
          wave.words.settled at index ≡ word) part me later (λ at index word is.
          absurd (nothing_in (owed_word at index word) is)) wave.words.known;
      owns = each_put (λ p u. (at : Region) (index word : ℕ) → Owes u at index word →
          IsOwnWord layout (state_after layout log) p at index) part me later (wave.words.owns me) wave.words.owns;
    }

    -- it sweeps nothing, and has forgotten what it saw of blocks
    rested : SweepsAreRight layout heap (put_at part me later) log
    rested = record {
      named = record {
        taken = each_put (λ p u. (block : ℕ) → Sweeps u block → IsTaken heap block) part me later
            (λ block s. right.named.taken me block (sweeps_same (part me) later block refl s)) right.named.taken;
        begun = each_put (λ p u. (block : ℕ) → Sweeps u block → 0 < running_cycle heap) part me later
            (λ block s. right.named.begun me block (sweeps_same (part me) later block refl s)) right.named.begun;
        active = each_put (λ p u. (block : ℕ) → Sweeps u block → (p < layout.mutators) × (u.left ≡ false)) part me later
            (λ block s. right.named.active me block (sweeps_same (part me) later block refl s)) right.named.active;
        owner = right.named.owner;
        once = each_put (λ p u. (block : ℕ) → Sweeps u block → right.named.owner block ≡ p) part me later
            (λ block s. right.named.once me block (sweeps_same (part me) later block refl s)) right.named.once;
        named = λ block within is has. let (p, s) = right.named.named block within is has in (
          p,
          put_at_elim (λ p u. IsSweeping (part p) block → IsSweeping u block) part me later
              (sweeping_same later (part me) block refl) (λ p apart s. s) p s,
        );
        stands = each_put (λ p u. (s : Sweeping) → u.sweeping ≡ Some s → SweepStands layout heap s) part me later
            (right.named.stands me) right.named.stands;
        saw = each_put (λ p u. (saw : Saw) → u.saw ≡ Some saw → SawStands layout heap saw) part me later
            (λ saw is. absurd (cc)) right.named.saw;
      };
      told = right.told;
      taken = owed_kept part me later log refl right.taken;
      took = took_kept part me later log refl right.took;
      swept = right.swept;
      cleared = each_put (λ p u. (one : Cleared) → Contains u.cleared one → IsCleared layout log one) part me later
          (λ one is. from_none one is) right.cleared;
    }
      where
        right : SweepsAreRight layout heap part log
        right = wave.sweeps

    -- it doesn't run, whatever it has heard
    pub rest_step : RunningWave layout shapes (record { heap = heap; part = put_at part me later; log = log })
    rest_step = any_step layout shapes heap part log me wave heap later record {
      inside = inside;
      phase = refl;
      base = refl;
      period = refl;
      calls = calls_view layout heap heap part me later refl (λ p. refl) wave.calls;
      stops = stops_view layout heap heap part me later refl (λ p. refl) wave.stops;
      words = words_after;
      who = refl;
      seen = heard;
      mine = refl;
      knows = λ at index word is. absurd (nothing_in (owed_word at index word) is);
      knows_still = λ p at index word apart is. wave.kept.known p at index word is;
      finds = λ block moment word is. absurd (let below = is.1 in omega (arith, below));
      told = λ is. absurd (cc);
      begins = wave.numbers.begun me;
      left = refl;
      waits = left_quiet layout heap heap part me later refl refl (λ _ c in_c is. is) (λ c is. is) refl refl refl refl
          wave.waits;
      stands = wave.arrays;
      swept = wave.swept;
      sweeps = rested;
      empties = λ _. (
        rests.held,
        rests.scan,
        rests.between.owed,
        rests.between.duty,
        rests.between.growth,
        refl,
        refl,
        rests.between.calls,
        rests.between.sweeping,
        refl,
        refl,
      );
      colours = wave.colours;
      balance = λ c in_c few. refl;
      rests = λ idle. (wave.rests.held idle me, wave.rests.scans idle me);
      at_hand = λ c at. wave.hands.cells me c (elim at [
        | held is ↦ held is
        | scanned scan is e ↦
            scanned scan is e
        | buffered scan is e ↦ buffered scan is e
      ]);
      arrays = λ a scan is. none_scans scan is;
      scanned = λ scan is. none_scans scan is;
      growth = subst (GrowthKnows heap (state_after layout log) me later) (sym rests.between.growth) tt;
      growths = λ p apart. wave.growths.knows p;
      scans = λ p scan apart is. wave.scans.knows p scan is;
      truer = λ p scan apart is holds. holds;
      black = λ source place target link black white. inr (refl, white, λ e. inl e);
      stays = λ c is. is;
      recoloured = λ _ c. inl refl;
      aims = λ scan target is. none_scans scan is;
      marked = λ c in_c is. inl is;
      born = λ _ c owes. inl owes;
      owes = λ c owes. (owes, wave.born.white me c owes);
      counted = λ _. omega arith;
      beyond = λ marks source n target link past.
          let (p, g) = wave.grows.beyond marks source n target link past in
          elim (cases_eq p me) [
            | inl same ↦ (let mine = subst (λ (q : ℕ). GrowsAndOwes (part q) source) same g in
                inl (record { grows = mine.grows; owes = mine.owes }))
            | inr apart ↦ inr (p, apart, g)
          ];
    }

  module _ (party : IsParty layout me) (word : ℕ) where
    abbrev pub telling : View
    telling = record (part me) { stopped = word }

    abbrev pub told_heap : Heap
    told_heap = write heap region.Stopped (index_of_stopped layout me) word

    -- its word in Stopped tells its stop
    stops_after : StopsAreTold layout told_heap (put_at part me telling)
    stops_after = put_at_elim (λ p u. IsParty layout p →
        told_heap region.Stopped (index_of_stopped layout p) ≡ u.stopped) part me telling
        (λ _. write-same heap region.Stopped (index_of_stopped layout me) word)
        (λ p apart other. write-other_index heap region.Stopped (index_of_stopped layout me) (index_of_stopped layout p) word
        (stop_apart layout p me other party apart) ∙ wave.stops p other)

    stored : (part me).runs ≡ true →
        RunningWave layout shapes (record { heap = told_heap; part = put_at part me telling; log = log })
    stored runs = quiet_step layout shapes heap part log me wave told_heap telling record {
      inside = inside;
      words = λ at i. unread_write heap region.Stopped (index_of_stopped layout me) word refl at i;
      who = refl;
      seen = refl;
      mine = refl;
      owed = refl;
      known = refl;
      full = refl;
      growth = refl;
      marks = refl;
      cycle = refl;
      mark_version = refl;
      begun = refl;
      period = refl;
      left = refl;
      sweeping = refl;
      saw = refl;
      cleared = refl;
      swept = λ block. refl;
      waits = left_quiet layout heap told_heap part me telling refl refl (λ _ c in_c is. is) (λ c is. is) refl refl refl
          refl wave.waits;
      calls = calls_view layout heap told_heap part me telling refl (λ p. refl) wave.calls;
      stops = stops_after;
      ran = runs;
      runs = runs;
      colours = wave.colours;
      balance = λ c in_c few. refl;
      rests = λ idle. (wave.rests.held idle me, wave.rests.scans idle me);
      at_hand = λ c at. wave.hands.cells me c (elim at [
        | held is ↦ held is
        | scanned scan is e ↦ scanned scan is e
        | buffered scan is e ↦ buffered scan is e
      ]);
      arrays = λ a scan is. none_scans scan is;
      scanned = λ scan is. none_scans scan is;
      black = λ source place target link black white. inr (refl, white, λ e. inl e);
      grows = λ c g. record { grows = g.grows; owes = g.owes };
      stays = λ c is. is;
      recoloured = λ _ c. inl refl;
      aims = λ scan target is. none_scans scan is;
      marked = λ c in_c is. inl is;
      born = λ _ c owes. inl owes;
      owes = λ c owes. (owes, wave.born.white me c owes);
      counted = λ _. omega arith;
    }

-- twice at one place is once
pub put_twice : (part : ℕ → View) (me : ℕ) (v w : View) → put_at (put_at part me v) me w ≡ put_at part me w
put_twice part me v w = λ i p. at p i
  where
    by_test : (b : Bool) (w x y : View) → (if b then w else (if b then x else y)) ≡ (if b then w else y)
    by_test true w x y = refl
    by_test false w x y = refl

    at : (p : ℕ) → put_at (put_at part me v) me w p ≡ put_at part me w p
    at p = by_test (p == me) w v (part p)

-- the store that it has stopped
pub stop : (layout : Layout) (shapes : ShapeLists) (heap : Heap) (part : ℕ → View) (log : List Event) (me : ℕ) →
    me < parties → IsParty layout me →
    RunningWave layout shapes (record { heap = heap; part = part; log = log }) → (part me).runs ≡ true →
    Rests (part me) → (word : ℕ) →
    RunningWave layout shapes (record {
      heap = write heap region.Stopped (index_of_stopped layout me) word;
      part = put_at part me (record (part me) { runs = false; known = []; full = []; saw = None; cleared = []; stopped = word });
      log = log;
    })
stop layout shapes heap part log me inside party wave runs rests word =
    let told : View = record (part me) { stopped = word } in
    let now = put_at part me told in
    let same : now me ≡ told = put_here part me told in
    let once = stored layout shapes heap part log me inside wave rests party word runs in
    let v = now me in
    let rests_so : Rests told = record {
      held = rests.held;
      scan = rests.scan;
      between = record {
        sweeping = rests.between.sweeping;
        owed = rests.between.owed;
        duty = rests.between.duty;
        growth = rests.between.growth;
        calls = rests.between.calls;
      };
    } in
    let after = rest_step layout shapes (write heap region.Stopped (index_of_stopped layout me) word) now log me inside
    once (subst Rests (sym same) rests_so) v.seen v.earlier v.told v.period v.ticket v.run v.cycle v.mark_version v.marks (inl refl) in
    subst (λ (q : ℕ → View). RunningWave layout shapes (record {
      heap = write heap region.Stopped (index_of_stopped layout me) word;
      part = q;
      log = log;
    }))
    (ap (put_at now me) (ap (λ (x : View). record x { runs = false; known = []; full = []; saw = None; cleared = [] }) same)
    ∙ put_twice part me told (record told { runs = false; known = []; full = []; saw = None; cleared = [] })) after
