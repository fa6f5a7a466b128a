-- The kinds of a visitor's scan, of a raced cell and of what is given back keep the wave.
use Rattle.std.proofs.Common.{ℕ, ◌≡◌, ◌+◌, ◌*◌, ◌%◌, ◌<◌, ◌==◌, refl, sym, ◌∙◌, ap, subst, arith, Bool, true, false, ◌∷◌, Option, Some, None}
use Rattle.std.proofs.lemmas.Bool.{eqb-true, eqb-false}
use Rattle.std.specs.Prelude.{Contains, if◌then◌else◌}
use Rattle.tide_words.specs.tide_layout.Slots.{index_of_slot, index_of_element}
use Rattle.tide_core.proofs.machine_laws.kinds.ArrayLoads.{load_array, load_element}
use Rattle.tide_core.proofs.machine_laws.kinds.Blackening.{blacken}
use Rattle.tide_core.proofs.machine_laws.kinds.Publishing.{publish}
use Rattle.tide_core.proofs.machine_laws.kinds.Regreying.{push_race}
use Rattle.tide_core.proofs.machine_laws.kinds.Scanning.{lost_mark, mark_finds_other, marked_one}
use Rattle.tide_core.proofs.machine_laws.kinds.Swapping.{swap_grey}
use Rattle.tide_core.proofs.machine_laws.kinds.UnBlackening.{un_blacken, un_blacken_finds_grey, raced_word}
use Rattle.tide_core.proofs.machine_laws.kinds.VisitorLoads.{load_structure, load_slot, load_target}
use Rattle.tide_core.proofs.machine_laws.steps.BaseBounds.{colours_count}
use Rattle.tide_core.proofs.machine_laws.steps.Loads.{load_same}
use Rattle.tide_core.proofs.machine_laws.steps.Rereading.{agrees, differs}
use Rattle.tide_core.specs.machine.Groups.{is_of_visits}
use Rattle.tide_core.specs.machine.Kind.{Kind, LoadStructure, LoadSlot, LoadAgain, LoadTarget, Mark, UnBlacken, PushRace, Publish, SwapGrey, Blacken, LoadArray, LoadElementOf}
use Rattle.tide_core.specs.machine.Machine.{IsAllowed, stepped}
use Rattle.tide_core.specs.machine.May.{RunsAsVisitor}
use Rattle.tide_core.specs.machine.RunningWave.{RunningWave}
use Rattle.tide_core.specs.machine.Scanning.{in_scan, still_open, read_again, leave_out}
use Rattle.tide_core.specs.machine.Words.{is_nuked}
use Rattle.tide_core.specs.machine.World.{World, parties}
use Rattle.tide_core.specs.declared.machine.view.Duty.{Duty}
use Rattle.tide_core.specs.declared.machine.view.Scan.{Scan}
use Rattle.tide_core.specs.machine.kinds.Blacken.{MayBlacken}
use Rattle.tide_core.specs.machine.kinds.LoadAgain.{MayLoadAgain}
use Rattle.tide_core.specs.machine.kinds.LoadArray.{MayLoadArray}
use Rattle.tide_core.specs.machine.kinds.LoadSlot.{MayLoadSlot, MayLoadElementOf}
use Rattle.tide_core.specs.machine.kinds.LoadStructure.{MayLoadStructure}
use Rattle.tide_core.specs.machine.kinds.LoadTarget.{MayLoadTarget}
use Rattle.tide_core.specs.machine.kinds.Mark.{MayMark}
use Rattle.tide_core.specs.machine.kinds.Publish.{MayPublish}
use Rattle.tide_core.specs.machine.kinds.PushRace.{MayPushRace}
use Rattle.tide_core.specs.machine.kinds.UnBlacken.{MayUnBlacken}
use Rattle.tide_model.specs.Layout.{Layout, class_of, slots_of, block_of_cell}
use Rattle.tide_model.specs.Numbers.{put_at, is_among}
use Rattle.tide_model.specs.Refused.{ShapeLists}
use Rattle.tide_words.specs.declared.forms.colours.Colour.TheVariants.{Grey, Black}
use Rattle.tide_words.specs.forms.ColourWord.{is_black_in, colour_word, is_marked_in, colour_state}
use Rattle.tide_words.specs.heap.Heap.{write}
use Rattle.tide_words.specs.marking.Colours.{is_marking, running_cycle, is_black}
use Rattle.tide_core.specs.machine.Duties.{StillOwes}
use Rattle.tide_words.specs.declared.forms.colours.Colour.{Colour}
use Rattle.tide_words.proofs.marking_laws.ColourLaws.{colour_of-later}
use Rattle.tide_words.specs.marking.Marked.{base_cycle}
use Rattle.tide_words.specs.tide_layout.declared.region.Region.TheVariants as region
use Rattle.tide_core.specs.declared.machine.view.Duty.TheVariants as duty

module _ (layout : Layout) (shapes : ShapeLists) (w : World) (me : ℕ) (inside : me < parties)
    (wave : RunningWave layout shapes w) where
  -- a visitor runs only while a cycle marks, and owes no barrier
  marks_for : RunsAsVisitor layout w me → is_marking w.heap ≡ true
  marks_for runner = sym (wave.numbers.told me runner.runs).0 ∙ runner.marks

  no_barrier : RunsAsVisitor layout w me → (cell : ℕ) → StillOwes w.heap (w.part me).duty cell → ⊥
  no_barrier runner cell owes = subst (λ (d : Duty). StillOwes w.heap d cell) runner.idle owes

  -- what becomes of the view whose scan this is
  in_view : (scan : Scan) → (w.part me).scan ≡ Some scan → (at : _) (index : ℕ) (change : Scan → Option Scan) →
      RunningWave layout shapes (record {
        heap = w.heap;
        part =
            put_at w.part me (record (w.part me) { scan = change scan });
        log = w.log;
      }) →
      RunningWave layout shapes (record {
        heap = write w.heap at index (w.heap at index);
        part = put_at w.part me (record (w.part me) { scan = in_scan (w.part me).scan change });
        log = w.log;
      })
  in_view scan is at index change after = load_same layout shapes w.heap at index _ w.log
      (subst (λ (o : Option Scan). RunningWave layout shapes
      (record {
        heap = w.heap;
        part = put_at w.part me (record (w.part me) { scan = in_scan o change });
        log =
            w.log;
      })) (sym is) after)

  pub structure_loaded : (cell : ℕ) → MayLoadStructure layout w me cell →
      RunningWave layout shapes (stepped layout shapes w me (LoadStructure cell))
  structure_loaded cell may =
      subst (λ (c : ℕ). RunningWave layout shapes (stepped layout shapes w me (LoadStructure c))) may.of_cell
      (in_view may.scan may.is region.Structure may.scan.cell (λ s.
      Some record s {
        first = Some (w.heap region.Structure may.scan.cell);
        raced =
            is_nuked (w.heap region.Structure may.scan.cell);
      })
      (load_structure layout shapes w me inside wave may.runner.runs (marks_for may.runner)
      (no_barrier may.runner) may.scan may.is may.first may.once may.goes_on))

  pub slot_loaded : (cell n : ℕ) → MayLoadSlot layout w me cell n →
      RunningWave layout shapes (stepped layout shapes w me (LoadSlot cell n))
  slot_loaded cell n may =
      subst (λ (c : ℕ). RunningWave layout shapes (stepped layout shapes w me (LoadSlot c n))) may.of_cell
      (in_view may.scan may.is region.Slots (index_of_slot layout may.scan.cell n) _
      (load_slot layout shapes w me inside wave may.runner.runs (marks_for may.runner) (no_barrier may.runner) may.scan
      may.is n may.once
      (subst (λ (c : ℕ). n < slots_of (class_of layout c)) (sym may.of_cell) may.within)))

  pub structure_loaded_again : (cell : ℕ) → MayLoadAgain layout w me cell →
      RunningWave layout shapes (stepped layout shapes w me (LoadAgain cell))
  structure_loaded_again cell may =
      subst (λ (c : ℕ). RunningWave layout shapes (stepped layout shapes w me (LoadAgain c))) may.of_cell
      (in_view may.scan may.is region.Structure may.scan.cell (λ s. read_again read s s.first)
      (subst (λ (f : Option ℕ). RunningWave layout shapes (record {
        heap = w.heap;
        part = put_at w.part me (record (w.part me) { scan = read_again read may.scan f });
        log = w.log;
      })) (sym may.was_read) (by (read == may.first) refl)))
    where
      read : ℕ
      read = w.heap region.Structure may.scan.cell

      all_slots : (n : ℕ) → n < slots_of (class_of layout may.scan.cell) → is_among may.scan.slots n ≡ true
      all_slots n below = may.slots n (subst (λ (c : ℕ). n < slots_of (class_of layout c)) may.of_cell below)

      by : (b : Bool) → (read == may.first) ≡ b → RunningWave layout shapes (record {
        heap = w.heap;
        part = put_at w.part me (record (w.part me) {
          scan =
              if b then still_open (record may.scan { agreed = true }) else Some record may.scan { raced = true };
        });
        log = w.log;
      })
      by true same = agrees layout shapes w me inside wave may.runner.runs (marks_for may.runner)
          (no_barrier may.runner) may.scan may.is may.first may.was_read
          may.whole may.once may.goes_on all_slots may.elements (eqb-true read may.first same)
      by false other = differs layout shapes w me inside wave may.runner.runs (marks_for may.runner)
          (no_barrier may.runner) may.scan may.is may.first may.was_read
          may.whole may.once may.goes_on all_slots may.elements (eqb-false read may.first other)

  pub array_loaded : (cell : ℕ) → MayLoadArray layout w me cell →
      RunningWave layout shapes (stepped layout shapes w me (LoadArray cell))
  array_loaded cell may =
      subst (λ (c : ℕ). RunningWave layout shapes (stepped layout shapes w me (LoadArray c))) may.of_cell
      (in_view may.scan may.is region.Array may.scan.cell (λ s.
      Some record s { array = Some (w.heap region.Array may.scan.cell) })
      (load_array layout shapes w me inside wave may.runner.runs (marks_for may.runner) (no_barrier may.runner) may.scan
      may.is may.once may.array may.read))

  pub element_loaded : (array place : ℕ) → MayLoadElementOf layout w me array place →
      RunningWave layout shapes (stepped layout shapes w me (LoadElementOf array place))
  element_loaded array place may =
      in_view may.scan may.is region.Elements (index_of_element layout array place) _
      (load_element layout shapes w me inside wave may.runner.runs (marks_for may.runner) (no_barrier may.runner)
      may.scan may.is may.once may.first array place may.was_read may.of_array may.within)

  -- a held cell is made black
  pub blackened : (cell cycle : ℕ) → MayBlacken layout w me cell cycle →
      RunningWave layout shapes (stepped layout shapes w me (Blacken cell cycle))
  blackened cell cycle may =
      subst (λ (c : ℕ). RunningWave layout shapes (stepped layout shapes w me (Blacken cell c)))
      (sym (may.in_cycle ∙ (wave.numbers.told me may.runner.runs).1))
      (blacken layout shapes w me inside wave may.runner.runs (marks_for may.runner)
      (may.runner.is_visitor, may.runner.within) may.scans_not cell may.has)

  -- the bit of a raced cell
  pub race_pushed : (cell : ℕ) → MayPushRace w me cell →
      RunningWave layout shapes (stepped layout shapes w me (PushRace cell))
  race_pushed cell may = push_race layout shapes w me inside wave may.runs cell may.owed

  pub published : (block mask : ℕ) → MayPublish layout w me block mask →
      RunningWave layout shapes (stepped layout shapes w me (Publish block mask))
  published block mask may = publish layout shapes w me inside wave may.runner.runs (marks_for may.runner) block mask
      (λ cell in_block set. subst (Contains (w.part me).held) (whole cell in_block)
      (may.held (cell % 64) (omega arith) set))
    where
      whole : (cell : ℕ) → block_of_cell cell ≡ block → 64 * block + cell % 64 ≡ cell
      whole cell in_block = omega (arith, in_block)

  -- a raced cell is made grey again, if it is black still
  pub un_blackened : (cell cycle : ℕ) → MayUnBlacken layout w me cell cycle →
      RunningWave layout shapes (stepped layout shapes w me (UnBlacken cell cycle))
  un_blackened cell cycle may =
      subst (λ (c : ℕ). RunningWave layout shapes (stepped layout shapes w me (UnBlacken cell c)))
      (sym (may.in_cycle ∙ (wave.numbers.told me may.runner.runs).1))
      (subst (λ (c : ℕ). RunningWave layout shapes (stepped layout shapes w me (UnBlacken c (running_cycle w.heap))))
      may.of_cell
      (by (w.heap region.Colour may.scan.cell == colour_word (running_cycle w.heap) Black) refl))
    where
      not_black : (w.heap region.Colour may.scan.cell == colour_word (running_cycle w.heap) Black) ≡ false →
          (b : Bool) → is_black w.heap may.scan.cell ≡ b → is_black w.heap may.scan.cell ≡ false
      not_black other true black = absurd (eqb-false (w.heap region.Colour may.scan.cell)
          (colour_word (running_cycle w.heap) Black) other (raced_word layout shapes w me inside wave
          may.runner.runs (marks_for may.runner) may.runner.idle may.scan may.is may.raced black))
      not_black other false isnt = isnt

      by : (b : Bool) → (w.heap region.Colour may.scan.cell == colour_word (running_cycle w.heap) Black) ≡ b →
          RunningWave layout shapes (record {
            heap = write w.heap region.Colour may.scan.cell
                (if b then colour_word (running_cycle w.heap) Grey else w.heap region.Colour may.scan.cell);
            part = put_at w.part me (record (w.part me) {
              scan = None;
              races = (w.part me).races + 1;
              duty =
                  if b then duty.PushRace may.scan.cell else (w.part me).duty;
            });
            log = w.log;
          })
      by true same = un_blacken layout shapes w me inside wave may.runner.runs (marks_for may.runner) may.runner.idle
          may.scan may.is may.raced
          (ap (is_black_in (base_cycle w.heap)) (eqb-true (w.heap region.Colour may.scan.cell)
          (colour_word (running_cycle w.heap) Black) same) ∙ ap {B = Bool} (λ (colour : Colour). colour_state colour == 0)
          (colour_of-later (base_cycle w.heap) (running_cycle w.heap) Black
          (colours_count layout shapes w wave (marks_for may.runner))))
      by false other = load_same layout shapes w.heap region.Colour may.scan.cell _ w.log
          (un_blacken_finds_grey layout shapes w me inside wave may.runner.runs (marks_for may.runner) may.runner.idle
          may.scan may.is may.raced (not_black other (is_black w.heap may.scan.cell) refl))

  -- a cell that was read and is marked leaves the buffer; else it is the scan's target
  pub target_loaded : (cell : ℕ) → MayLoadTarget layout w me cell →
      RunningWave layout shapes (stepped layout shapes w me (LoadTarget cell))
  target_loaded cell may =
      in_view may.scan may.is region.Colour cell (λ s. if is_marked_in (w.part me).mark_version (w.heap region.Colour cell)
      then still_open (record s { buffer = leave_out cell s.buffer; target = None })
      else Some record s { target = Some record { cell = cell; word = w.heap region.Colour cell } })
      (by (is_marked_in (w.part me).mark_version (w.heap region.Colour cell)) refl)
    where
      by : (b : Bool) → is_marked_in (w.part me).mark_version (w.heap region.Colour cell) ≡ b →
          RunningWave layout shapes (record {
            heap = w.heap;
            part = put_at w.part me (record (w.part me) {
              scan = if b then still_open (record may.scan { buffer = leave_out cell may.scan.buffer; target = None })
                  else Some record may.scan { target = Some record { cell = cell; word = w.heap region.Colour cell } };
            });
            log = w.log;
          })
      by true is = lost_mark layout shapes w me inside wave may.runner.runs (marks_for may.runner) may.scan may.is
          may.agreed cell may.has
          (subst (λ (c : ℕ). is_marked_in c (w.heap region.Colour cell) ≡ true) (wave.numbers.told me may.runner.runs).3
          is)
      by false is = load_target layout shapes w me inside wave may.runner.runs (marks_for may.runner)
          (no_barrier may.runner) may.scan may.is cell may.has

  -- the target is made grey and held, or another one has marked it
  pub target_marked : (cell old cycle : ℕ) → MayMark layout w me cell old cycle →
      RunningWave layout shapes (stepped layout shapes w me (Mark cell old cycle))
  target_marked cell old cycle may =
      subst (λ (o : Option Scan). RunningWave layout shapes (record {
        heap = write w.heap region.Colour cell (if read == old then colour_word cycle Grey else read);
        part = put_at w.part me (record (w.part me) {
          held = if read ==
              old then cell ∷ (w.part me).held else (w.part me).held;
          scan =
              in_scan o (λ s. still_open (record s { buffer = leave_out cell s.buffer; target = None }));
        });
        log = w.log;
      })) (sym may.is) (by (read == old) refl)
    where
      read : ℕ
      read = w.heap region.Colour cell

      same_cycle : cycle ≡ running_cycle w.heap
      same_cycle = may.in_cycle ∙ (wave.numbers.told me may.runner.runs).1

      by : (b : Bool) → (read == old) ≡ b → RunningWave layout shapes (record {
        heap = write w.heap region.Colour cell (if b then colour_word cycle Grey else read);
        part = put_at w.part me (record (w.part me) {
          held = if b then cell ∷ (w.part me).held else (w.part me).held;
          scan = still_open (record may.scan { buffer = leave_out cell may.scan.buffer; target = None });
        });
        log = w.log;
      })
      by true same =
          subst (λ (c : ℕ). RunningWave layout shapes (record {
            heap = write w.heap region.Colour cell (colour_word c Grey);
            part = put_at w.part me (record (w.part me) {
              held = cell ∷ (w.part me).held;
              scan =
                  still_open (record may.scan { buffer = leave_out cell may.scan.buffer; target = None });
            });
            log = w.log;
          })) (sym same_cycle)
          (marked_one layout shapes w me inside wave may.runner.runs (marks_for may.runner) may.scan may.is may.agreed
          cell may.has
          (ap (is_marked_in (base_cycle w.heap)) (eqb-true read old same)
          ∙ subst (λ (c : ℕ). is_marked_in c old ≡ false) (wave.numbers.told me may.runner.runs).3 may.white))
      by false other = load_same layout shapes w.heap region.Colour cell _ w.log
          (mark_finds_other layout shapes w me inside wave may.runner.runs (marks_for may.runner) may.scan may.is
          may.agreed cell may.has
          (record { cell = cell; word = old }) may.target refl (eqb-false read old other))

  -- each of these kinds
  pub visits_kept : (kind : Kind) → is_of_visits kind ≡ true → IsAllowed layout shapes w me kind →
      RunningWave layout shapes (stepped layout shapes w me kind)
  visits_kept (SwapGrey grey block) is may =
      swap_grey layout shapes w me inside wave (marks_for may.runner) block grey may
  visits_kept (Blacken cell cycle) is may = blackened cell cycle may
  visits_kept (LoadStructure cell) is may = structure_loaded cell may
  visits_kept (LoadArray cell) is may = array_loaded cell may
  visits_kept (LoadElementOf array place) is may = element_loaded array place may
  visits_kept (LoadSlot cell n) is may = slot_loaded cell n may
  visits_kept (LoadAgain cell) is may = structure_loaded_again cell may
  visits_kept (LoadTarget cell) is may = target_loaded cell may
  visits_kept (Mark cell old cycle) is may = target_marked cell old cycle may
  visits_kept (UnBlacken cell cycle) is may = un_blackened cell cycle may
  visits_kept (PushRace cell) is may = race_pushed cell may
  visits_kept (Publish block mask) is may = published block mask may
  visits_kept _ is may = absurd (cc)
