-- The barrier's load and exchange, and the bit that it sets, keep the wave, whether a cycle marks or not.
use Rattle.std.proofs.Common.{ℕ, ◌≡◌, ◌+◌, ◌<◌, ◌≤◌, ◌==◌, refl, sym, ◌∙◌, ap, subst, arith, Bool, true, false, inl, inr, true≢false}
use Rattle.std.proofs.lemmas.Bool.{cases_eq, eq-eqb, eqb-true, ne_eqb, eqb-false}
use Rattle.std.specs.Prelude.{if◌then◌else◌, bit_or}
use Rattle.tide_core.proofs.machine_laws.steps.Colouring.{counts_where_black, unread_write, write_same, colours_coloured, black_before_grey, marked_after_grey, marked_before_grey, recoloured_one, grey_after_grey, blackened_le}
use Rattle.tide_core.proofs.machine_laws.steps.Duties.{with_duty, duty_step}
use Rattle.tide_core.proofs.machine_laws.steps.GreyBits.{bit_counted, one_at_most}
use Rattle.tide_core.specs.machine.Duties.{GrowsOn, OwesColour, AwaitsLoad, StillOwes}
use Rattle.tide_core.specs.machine.Kind.{Regrey, PushBit, PushRace, LoadColour}
use Rattle.tide_core.specs.machine.Machine.{stepped}
use Rattle.tide_core.specs.machine.RunningWave.{RunningWave}
use Rattle.tide_core.specs.machine.Words.{bit_of}
use Rattle.tide_core.specs.machine.World.{World, parties, pushes}
use Rattle.tide_core.specs.declared.machine.view.Duty.{Duty}
use Rattle.tide_model.specs.Layout.{Layout, cell_count, block_of_cell}
use Rattle.tide_model.specs.Numbers.{put_at}
use Rattle.tide_model.specs.Refused.{ShapeLists}
use Rattle.tide_words.proofs.marking_laws.ColourLaws.{is_grey-made, is_grey-other, black_is_not_grey, black_is_marked, grey_is_marked, coloured-other}
use Rattle.tide_words.specs.declared.forms.colours.Colour.TheVariants.{Grey}
use Rattle.tide_words.specs.forms.ColourWord.{is_black_in, colour_word}
use Rattle.tide_words.specs.heap.Heap.{Heap, write}
use Rattle.tide_words.specs.marking.Colours.{Counts, coloured, running_cycle, is_grey, is_black, IsBlack}
use Rattle.tide_words.specs.marking.Marked.{base_cycle}
use Rattle.tide_words.specs.marking.Marking.{bits_of}
use Rattle.tide_words.specs.tide_layout.declared.region.Region.TheVariants as region
use Rattle.tide_core.specs.declared.machine.view.Duty.TheVariants as duty

module _ (layout : Layout) (shapes : ShapeLists) (w : World) (me : ℕ) (inside : me < parties)
    (wave : RunningWave layout shapes w) (runs : (w.part me).runs ≡ true) where
  -- what the view's duty was
  was_barrier : (d : Duty) (source : ℕ) → (w.part me).duty ≡ d → StillOwes w.heap (w.part me).duty source →
      StillOwes w.heap d source
  was_barrier d source is = subst (λ (e : Duty). StillOwes w.heap e source) is

  was_awaited : (d : Duty) (source : ℕ) → (w.part me).duty ≡ d → AwaitsLoad (w.part me).duty source → AwaitsLoad d source
  was_awaited d source is = subst (λ (e : Duty). AwaitsLoad e source) is

  was_born : (d : Duty) (cell : ℕ) → (w.part me).duty ≡ d → OwesColour (w.part me).duty cell → OwesColour d cell
  was_born d cell is = subst (λ (e : Duty). OwesColour e cell) is

  -- the word of the cell is still the black one that was loaded, and the cell is made grey
  regreyed : (cell word : ℕ) → (w.part me).duty ≡ duty.Regrey cell word → cell < cell_count layout →
      IsBlack w.heap cell →
      RunningWave layout shapes (record {
        heap = coloured w.heap cell Grey;
        part = put_at w.part me (with_duty (w.part me) (duty.Push cell));
        log = w.log;
      })
  regreyed cell word is within black = duty_step layout shapes w.heap w.part w.log me wave (coloured w.heap cell Grey)
      (duty.Push cell) record {
        inside = inside;
        runs = runs;
        words = λ at index. unread_write w.heap region.Colour cell (colour_word (running_cycle w.heap) Grey) refl at
            index;
        period = refl;
        call_words = λ p. refl;
        stop_words = λ index. refl;
        swept = λ block. refl;
        greys = λ _ other in_other is. grey_after_grey w.heap cell other counts is;
        shared = λ c is. is;
        colours = colours_coloured layout w.heap cell Grey (omega arith) wave.colours;
        balance = λ other in_other few. elim (cases_eq other cell) [
          | inl same ↦
              let none = ap (λ (d : Duty). pushes d other) is in
              let one = ap {B = ℕ} (λ (b : Bool). if b then 1 else 0) (eq-eqb cell other (sym same)) in
              let not_grey = ap {B = ℕ} (λ (b : Bool). if b then 1 else 0) (ap (is_grey w.heap) same ∙
              black_is_not_grey w.heap cell black) in
              let grey = ap {B = ℕ} (λ (b : Bool). if b then 1 else 0) (ap (is_grey (coloured w.heap cell Grey)) same ∙
              is_grey-made w.heap cell counts) in
              omega (arith, none, one, not_grey, grey)
          | inr apart ↦
              let none = ap (λ (d : Duty). pushes d other) is in
              let no_one = ap {B = ℕ} (λ (b : Bool). if b then 1 else 0) (ne_eqb cell other (λ e. apart (sym e))) in
              let grey = ap {B = ℕ} (λ (b : Bool). if b then 1 else 0) (is_grey-other w.heap cell other Grey apart) in
              omega (arith, none, no_one, grey)
        ];
        black = λ source place target link black_now white.
            let before = black_before_grey w.heap cell source counts black_now in
            inr (
              coloured-other w.heap cell source Grey before.0,
              sym (marked_before_grey w.heap cell target counts (black_is_marked w.heap cell black)) ∙ white,
              λ owes. absurd (before.0 (sym (was_barrier (duty.Regrey cell word) source is owes).0)),
            );
        grows = λ other g owes. absurd (was_awaited (duty.Regrey cell word) other is owes);
        stays = λ other. marked_after_grey w.heap cell other counts;
        recoloured = λ _ other.
            recoloured_one w.heap cell other Grey
            (grey_is_marked (coloured w.heap cell Grey) cell (is_grey-made w.heap cell counts));
        marked = λ other in_other now.
            inl (sym (marked_before_grey w.heap cell other counts (black_is_marked w.heap cell black)) ∙ now);
        born = λ _ other owes. absurd (was_born (duty.Regrey cell word) other is owes);
        owes = λ other owes. absurd owes;
        counted = λ marks. blackened_le layout w.heap (coloured w.heap cell Grey) w.log
            (λ other black so. (black_before_grey w.heap cell other counts black).1);
      }
    where
      -- a cell can be black only by a word of a cycle that counts
      counts : Counts w.heap
      counts = counts_where_black layout w.heap cell wave.colours within black

  -- a cell whose word is another by now needs no barrier of this view: it was made grey since its colour was loaded,
  -- and where it is black again, the one that made it so reads it anew
  pub left : (cell word : ℕ) → (w.part me).duty ≡ duty.Regrey cell word →
      (w.heap region.Colour cell == word) ≡ false →
      RunningWave layout shapes (record {
        heap = w.heap;
        part = put_at w.part me (with_duty (w.part me) duty.Nothing);
        log = w.log;
      })
  left cell word is other_word = duty_step layout shapes w.heap w.part w.log me wave w.heap duty.Nothing record {
    inside = inside;
    runs = runs;
    words = λ at index read. refl;
    period = refl;
    call_words = λ p. refl;
    stop_words = λ index. refl;
    swept = λ block. refl;
    greys = λ _ other in_other is. is;
    shared = λ c is. is;
    colours = wave.colours;
    balance = λ other in_other few. (let none = ap (λ (d : Duty). pushes d other) is in omega (arith, none));
    black = λ source place target link black clear.
        inr (
          refl,
          clear,
          λ owes. (let was = was_barrier (duty.Regrey cell word) source is owes in
              absurd (eqb-false (w.heap region.Colour cell) word other_word (ap (w.heap region.Colour) was.0 ∙ was.1))),
        );
    grows = λ other g owes. absurd (was_awaited (duty.Regrey cell word) other is owes);
    stays = λ other is. is;
    recoloured = λ _ other. inl refl;
    marked = λ other in_other is. inl is;
    born = λ _ other owes. absurd (was_born (duty.Regrey cell word) other is owes);
    owes = λ other owes. absurd owes;
    counted = λ marks. omega arith;
  }

  pub regrey : (cell word : ℕ) → (w.part me).duty ≡ duty.Regrey cell word → cell < cell_count layout →
      is_black_in (base_cycle w.heap) word ≡ true →
      RunningWave layout shapes (stepped layout shapes w me (Regrey cell word (w.part me).cycle))
  regrey cell word is within black = by_test (w.heap region.Colour cell == word) refl
    where
      cycle : (w.part me).cycle ≡ running_cycle w.heap
      cycle = (wave.numbers.told me runs).1

      by_test : (test : Bool) → (w.heap region.Colour cell == word) ≡ test →
          RunningWave layout shapes (record {
            heap = write w.heap region.Colour cell
                (if test then colour_word (w.part me).cycle Grey else w.heap region.Colour cell);
            part = put_at w.part me (with_duty (w.part me) (if test then duty.Push cell else duty.Nothing));
            log = w.log;
          })
      by_test true was = subst (λ (c : ℕ).
          RunningWave layout shapes (record {
            heap = write w.heap region.Colour cell (colour_word c Grey);
            part =
                put_at w.part me (with_duty (w.part me) (duty.Push cell));
            log = w.log;
          })) (sym cycle)
          (regreyed cell word is within (ap (is_black_in (base_cycle w.heap)) (eqb-true (w.heap region.Colour cell) word was) ∙ black))
      by_test false was = subst (λ (h : Heap).
          RunningWave layout shapes (record {
            heap = h;
            part = put_at w.part me (with_duty (w.part me) duty.Nothing);
            log = w.log;
          })) (sym (write_same w.heap region.Colour cell))
          (left cell word is was)

  -- the heap with other words where a bit of the cell may be pushed: in that of mutators and in that of races
  abbrev with_bits : ℕ → ℕ → ℕ → Heap
  with_bits cell mutators races = write (write w.heap region.GreyMutator (block_of_cell cell) mutators) region.GreyRace
      (block_of_cell cell) races

  -- a view that owes a push alone, owes nothing once the cell's bit is set in the word of mutators or in that of races
  owed_bit_pushed : (owed : Duty) (new : Heap) (cell mutators races : ℕ) → (w.part me).duty ≡ owed →
      ((other : ℕ) → (pushes owed other ≡ (if cell == other then 1 else 0)) × (StillOwes w.heap owed other → ⊥) ×
      (AwaitsLoad owed other → ⊥) × (OwesColour owed other → ⊥)) →
      with_bits cell mutators races ≡ new →
      ((other : ℕ) → bits_of w.heap other + (if cell == other then 1 else 0) ≤ 1 →
      bits_of new other ≡ bits_of w.heap other + (if cell == other then 1 else 0)) →
      RunningWave layout shapes (record {
        heap = new;
        part = put_at w.part me (with_duty (w.part me) duty.Nothing);
        log = w.log;
      })
  owed_bit_pushed owed new cell mutators races is alone written bits = subst (λ (h : Heap).
      RunningWave layout shapes (record {
        heap = h;
        part = put_at w.part me (with_duty (w.part me) duty.Nothing);
        log = w.log;
      })) written (duty_step layout shapes w.heap w.part w.log me wave (with_bits cell mutators races) duty.Nothing
      record {
        inside = inside;
        runs = runs;
        words = λ at index read.
            unread_write (write w.heap region.GreyMutator (block_of_cell cell) mutators) region.GreyRace
            (block_of_cell cell) races refl at index read
            ∙ unread_write w.heap region.GreyMutator (block_of_cell cell) mutators refl at index read;
        period = refl;
        call_words = λ p. refl;
        stop_words = λ index. refl;
        swept = λ block. refl;
        greys = λ _ other in_other is. is;
        shared = λ c is. is;
        colours = wave.colours;
        balance = λ other in_other few.
            let one = ap (λ (d : Duty). pushes d other) is ∙ (alone other).0 in
            let most = one_at_most (is_grey w.heap other) in
            let more = ap (λ (h : Heap). bits_of h other) written ∙ bits other (omega (arith, one, few, most)) in
            omega (arith, one, more);
        black = λ source place target link black clear.
            inr (refl, clear, λ owes. absurd ((alone source).1 (was_barrier owed source is owes)));
        grows = λ other g owes. absurd ((alone other).2 (was_awaited owed other is owes));
        stays = λ other is. is;
        recoloured = λ _ other. inl refl;
        marked = λ other in_other is. inl is;
        born = λ _ other owes. absurd ((alone other).3 (was_born owed other is owes));
        owes = λ other owes. absurd owes;
        counted = λ marks. omega arith;
      })

  -- the bit of a cell whose push is owed
  pub push_bit : (cell : ℕ) → (w.part me).duty ≡ duty.Push cell →
      RunningWave layout shapes (stepped layout shapes w me (PushBit cell))
  push_bit cell is =
      let word = bit_or (w.heap region.GreyMutator (block_of_cell cell)) (bit_of cell) in
      let new : Heap = write w.heap region.GreyMutator (block_of_cell cell) word in
      owed_bit_pushed (duty.Push cell) new cell word (w.heap region.GreyRace (block_of_cell cell)) is
      (λ other. (refl, λ owes. owes, λ owes. owes, λ owes. owes))
      (write_same new region.GreyRace (block_of_cell cell))
      (λ other few. (let more = bit_counted (w.heap region.GreyMutator) cell other (omega (arith, few)) in
      omega (arith, more)))

  -- the bit of a raced cell whose push is owed
  pub push_race : (cell : ℕ) → (w.part me).duty ≡ duty.PushRace cell →
      RunningWave layout shapes (stepped layout shapes w me (PushRace cell))
  push_race cell is =
      let word = bit_or (w.heap region.GreyRace (block_of_cell cell)) (bit_of cell) in
      owed_bit_pushed (duty.PushRace cell) (write w.heap region.GreyRace (block_of_cell cell) word) cell
      (w.heap region.GreyMutator (block_of_cell cell)) word is
      (λ other. (refl, λ owes. owes, λ owes. owes, λ owes. owes))
      (ap (λ (h : Heap). write h region.GreyRace (block_of_cell cell) word)
      (write_same w.heap region.GreyMutator (block_of_cell cell)))
      (λ other few. (let more = bit_counted (w.heap region.GreyRace) cell other (omega (arith, few)) in
      omega (arith, more)))

  -- the barrier looks at the colour of the cell, once the growth that made it is over
  pub load_colour : (cell : ℕ) → (w.part me).duty ≡ duty.Barrier cell → (GrowsOn (w.part me).growth cell → ⊥) →
      RunningWave layout shapes (stepped layout shapes w me (LoadColour cell))
  load_colour cell is grown = subst (λ (h : Heap).
      RunningWave layout shapes (record {
        heap = h;
        part =
            put_at w.part me (with_duty (w.part me) (if is_black_in (w.part me).mark_version (w.heap region.Colour cell)
            then duty.Regrey cell (w.heap region.Colour cell) else duty.Nothing));
        log =
            w.log;
      })) (sym (write_same w.heap region.Colour cell))
      (subst (λ (b : ℕ). RunningWave layout shapes (record {
        heap = w.heap;
        part = put_at w.part me (with_duty (w.part me) (if is_black_in b (w.heap region.Colour cell)
            then duty.Regrey cell (w.heap region.Colour cell) else duty.Nothing));
        log = w.log;
      })) (sym (wave.numbers.told me runs).3) (by_test (is_black w.heap cell) refl))
    where
      by_test : (test : Bool) → is_black w.heap cell ≡ test →
          RunningWave layout shapes (record {
            heap = w.heap;
            part = put_at w.part me (with_duty (w.part me)
                (if test then duty.Regrey cell (w.heap region.Colour cell) else duty.Nothing));
            log = w.log;
          })
      by_test test was = duty_step layout shapes w.heap w.part w.log me wave w.heap
          (if test then duty.Regrey cell (w.heap region.Colour cell) else duty.Nothing) record {
            inside = inside;
            runs = runs;
            words = λ at index read. refl;
            period = refl;
            call_words = λ p. refl;
            stop_words = λ index. refl;
            swept = λ block. refl;
            greys = λ _ other in_other is. is;
            shared = λ c is. is;
            colours = wave.colours;
            balance = λ other in_other few. (let none = ap (λ (d : Duty). pushes d other) is in let after =
                no_push test other in omega (arith, none, after));
            black = λ source place target link black clear.
                inr (refl, clear, λ owes. still test source was (was_barrier (duty.Barrier cell) source is owes) black);
            grows = λ other g owes.
                absurd (grown (subst (GrowsOn (w.part me).growth) (sym (was_awaited (duty.Barrier cell) other is owes)) g));
            stays = λ other is. is;
            recoloured = λ _ other. inl refl;
            marked = λ other in_other is. inl is;
            born = λ _ other owes. absurd (was_born (duty.Barrier cell) other is owes);
            owes = λ other owes. absurd (no_born test other owes);
            counted = λ marks. omega arith;
          }
        where
          no_push : (b : Bool) (other : ℕ) →
              pushes (if b then duty.Regrey cell (w.heap region.Colour cell) else duty.Nothing) other ≡ 0
          no_push true other = refl
          no_push false other = refl

          no_born : (b : Bool) (other : ℕ) →
              OwesColour (if b then duty.Regrey cell (w.heap region.Colour cell) else duty.Nothing) other → ⊥
          no_born true other owes = owes
          no_born false other owes = owes

          still : (b : Bool) (source : ℕ) → is_black w.heap cell ≡ b → cell ≡ source → IsBlack w.heap source →
              StillOwes w.heap (if b then duty.Regrey cell (w.heap region.Colour cell) else duty.Nothing) source
          still true source so same black = (same, ap (w.heap region.Colour) (sym same))
          still false source isnt same black = absurd (true≢false (sym black ∙ ap (is_black w.heap) (sym same) ∙ isnt))
