-- The colour of a cell that was just taken is stored.
use Rattle.std.proofs.Common.{ℕ, ◌≡◌, ◌<◌, refl, sym, ◌∙◌, ap, subst, arith, Bool, true, false, inl, inr, true≢false}
use Rattle.std.proofs.lemmas.Bool.{cases_eq}
use Rattle.std.specs.Prelude.{if◌then◌else◌, ◌&&◌, not}
use Rattle.tide_core.specs.wave.FrozenWave.{is_born_in_cycle, is_of_visit}
use Rattle.tide_core.proofs.machine_laws.steps.BaseBounds.{colours_count}
use Rattle.tide_core.proofs.machine_laws.steps.Colouring.{unread_write, colours_coloured, recoloured_one, blackened_le}
use Rattle.tide_core.proofs.machine_laws.steps.Duties.{with_duty, duty_step}
use Rattle.tide_core.specs.machine.Duties.{OwesColour, AwaitsLoad, StillOwes}
use Rattle.tide_core.specs.machine.RunningWave.{RunningWave}
use Rattle.tide_core.specs.machine.World.{World, parties, pushes}
use Rattle.tide_core.specs.declared.machine.view.Duty.{Duty}
use Rattle.tide_core.specs.machine.points.Births.{AwaitsColour}
use Rattle.tide_core.specs.machine.points.Links.{LinkAt}
use Rattle.tide_model.specs.History.{state_after}
use Rattle.tide_model.specs.Layout.{Layout}
use Rattle.tide_model.specs.Numbers.{put_at}
use Rattle.tide_model.specs.Refused.{ShapeLists}
use Rattle.tide_words.proofs.marking_laws.ColourLaws.{is_black-made, is_black-other, is_grey-other, is_marked-other, black_is_not_grey, black_is_marked, unmarked_is_neither, grey_is_marked, coloured-other, is_marked-white}
use Rattle.tide_words.specs.declared.forms.colours.Colour.TheVariants.{Black, White}
use Rattle.tide_words.specs.forms.ColourWord.{colour_word}
use Rattle.tide_words.specs.marking.Colours.{Counts, coloured, is_marking, running_cycle, is_grey, IsMarked, IsGrey, IsBlack}
use Rattle.tide_words.specs.marking.Marked.{is_marked}
use Rattle.tide_model.specs.Old.{is_spared}
use Rattle.tide_words.specs.tide_layout.declared.region.Region.TheVariants as region
use Rattle.tide_core.specs.declared.machine.view.Duty.TheVariants as duty

module _ (layout : Layout) (shapes : ShapeLists) (w : World) (me : ℕ) (inside : me < parties)
    (wave : RunningWave layout shapes w) (runs : (w.part me).runs ≡ true) (cell : ℕ)
    (owes : (w.part me).duty ≡ duty.Born cell) where
  mine : OwesColour (w.part me).duty cell
  mine = subst (λ (d : Duty). OwesColour d cell) (sym owes) refl

  was_mine : (other : ℕ) → OwesColour (w.part me).duty other → cell ≡ other
  was_mine other o = subst (λ (d : Duty). OwesColour d other) owes o

  no_barrier : (source : ℕ) → StillOwes w.heap (w.part me).duty source → ⊥
  no_barrier source o = subst (λ (d : Duty). StillOwes w.heap d source) owes o

  none_awaited : (source : ℕ) → AwaitsLoad (w.part me).duty source → ⊥
  none_awaited source o = subst (λ (d : Duty). AwaitsLoad d source) owes o

  -- while a cycle marks the cell is born black
  pub born_black : is_marking w.heap ≡ true →
      RunningWave layout shapes (record {
        heap = coloured w.heap cell Black;
        part =
            put_at w.part me (with_duty (w.part me) duty.Nothing);
        log = w.log;
      })
  born_black marks = duty_step layout shapes w.heap w.part w.log me wave (coloured w.heap cell Black) duty.Nothing
      record {
        inside = inside;
        runs = runs;
        words = λ at index. unread_write w.heap region.Colour cell (colour_word (running_cycle w.heap) Black) refl at
            index;
        period = refl;
        call_words = λ p. refl;
        stop_words = λ index. refl;
        swept = λ block. refl;
        greys = λ _ other in_other is. still_grey other is;
        shared = λ c is. is;
        colours = colours_coloured layout w.heap cell Black (omega arith) wave.colours;
        balance = λ other in_other few.
            let none = ap (λ (d : Duty). pushes d other) owes in
            elim (cases_eq other cell) [
              | inl same ↦
                  let was = ap {B = ℕ} (λ (b : Bool). if b then 1 else 0) (ap (is_grey w.heap) same ∙
                  (unmarked_is_neither w.heap cell a.white).1) in
                  let now = ap {B = ℕ} (λ (b : Bool). if b then 1 else 0)
                  (ap (is_grey (coloured w.heap cell Black)) same ∙
                  black_is_not_grey (coloured w.heap cell Black) cell (is_black-made w.heap cell counts)) in
                  omega (arith, none, was, now)
              | inr apart ↦ (let grey = ap {B = ℕ} (λ (b : Bool). if b then 1 else 0)
                  (is_grey-other w.heap cell other Black apart) in omega (arith, none, grey))
            ];
        black = λ source place target link black white. elim (cases_eq source cell) [
          | inl same ↦ absurd (a.hidden.blank place target
              (subst (λ (c : ℕ). LinkAt (state_after layout w.log) c place target) same link))
          | inr apart ↦ inr (
            coloured-other w.heap cell source Black apart,
            unmarked_before target white,
            λ o.
                absurd (no_barrier source o),
          )
        ];
        grows = λ c g o. absurd (none_awaited c o);
        stays = λ other is. stays other is;
        recoloured = λ _ other.
            recoloured_one w.heap cell other Black
            (black_is_marked (coloured w.heap cell Black) cell (is_black-made w.heap cell counts));
        marked = λ other in_other is. elim (cases_eq other cell) [
          | inl same ↦ inr (marks, subst (OwesColour (w.part me).duty) (sym same) mine)
          | inr apart ↦ inl (sym (is_marked-other w.heap cell other Black apart) ∙ is)
        ];
        born = λ _ other o. inr (subst (IsMarked (coloured w.heap cell Black)) (was_mine other o)
            (black_is_marked (coloured w.heap cell Black) cell (is_black-made w.heap cell counts)));
        owes = λ other o. absurd o;
        counted = λ _. blackened_le layout w.heap (coloured w.heap cell Black) w.log fewer;
      }
    where
      a : AwaitsColour layout w.heap w.log me cell
      a = wave.born.owed marks me cell mine

      counts : Counts w.heap
      counts = colours_count layout shapes w wave marks

      -- a grey cell is another: the one that is born wasn't marked
      still_grey : (other : ℕ) → IsGrey w.heap other → IsGrey (coloured w.heap cell Black) other
      still_grey other is = elim (cases_eq other cell) [
        | inl same ↦ (let white = ap (is_marked w.heap) same ∙ a.white in let marked = grey_is_marked w.heap other is in
            absurd (cc))
        | inr apart ↦ is_grey-other w.heap cell other Black apart ∙ is
      ]

      unmarked_before : (target : ℕ) → is_marked (coloured w.heap cell Black) target ≡ false →
          is_marked w.heap target ≡ false
      unmarked_before target white = elim (cases_eq target cell) [
        | inl same ↦ (let now = subst (IsMarked (coloured w.heap cell Black)) (sym same)
            (black_is_marked (coloured w.heap cell Black) cell (is_black-made w.heap cell counts)) in absurd (cc))
        | inr apart ↦ sym (is_marked-other w.heap cell target Black apart) ∙ white
      ]

      stays : (other : ℕ) → IsMarked w.heap other → IsMarked (coloured w.heap cell Black) other
      stays other is = elim (cases_eq other cell) [
        | inl same ↦ subst (IsMarked (coloured w.heap cell Black)) (sym same)
            (black_is_marked (coloured w.heap cell Black) cell (is_black-made w.heap cell counts))
        | inr apart ↦ is_marked-other w.heap cell other Black apart ∙ is
      ]

      fewer : (other : ℕ) → IsBlack (coloured w.heap cell Black) other → is_of_visit layout w.log other ≡ true → IsBlack w.heap other
      fewer other black so = elim (cases_eq other cell) [
        | inl same ↦
            let new = ap (is_born_in_cycle w.log) same ∙ a.is_new in
            absurd (true≢false (sym so ∙ ap (λ b. not b && not (is_spared layout w.log other)) new))
        | inr apart ↦ sym (is_black-other w.heap cell other Black apart) ∙ black
      ]

  -- where none marks it is born white
  pub born_white : is_marking w.heap ≡ false →
      RunningWave layout shapes (record {
        heap = coloured w.heap cell White;
        part =
            put_at w.part me (with_duty (w.part me) duty.Nothing);
        log = w.log;
      })
  born_white idle = duty_step layout shapes w.heap w.part w.log me wave (coloured w.heap cell White) duty.Nothing
      record {
        inside = inside;
        runs = runs;
        words = λ at index. unread_write w.heap region.Colour cell (colour_word (running_cycle w.heap) White) refl at index;
        period = refl;
        call_words = λ p. refl;
        stop_words = λ index. refl;
        swept = λ block. refl;
        greys = λ marks. absurd (cc);
        shared = λ c is. is;
        colours = colours_coloured layout w.heap cell White (omega arith) wave.colours;
        balance = λ other in_other few.
            let none = ap (λ (d : Duty). pushes d other) owes in
            elim (cases_eq other cell) [
              | inl same ↦
                  let was = ap {B = ℕ} (λ (b : Bool). if b then 1 else 0) (ap (is_grey w.heap) same ∙
                  (unmarked_is_neither w.heap cell white).1) in
                  let now = ap {B = ℕ} (λ (b : Bool). if b then 1 else 0)
                  (ap (is_grey (coloured w.heap cell White)) same ∙
                  (unmarked_is_neither (coloured w.heap cell White) cell (is_marked-white w.heap cell)).1) in
                  omega (arith, none, was, now)
              | inr apart ↦ (let grey = ap {B = ℕ} (λ (b : Bool). if b then 1 else 0)
                  (is_grey-other w.heap cell other White apart) in omega (arith, none, grey))
            ];
        black = λ source place target link black clear. elim (cases_eq source cell) [
          | inl same ↦
              let marked = black_is_marked (coloured w.heap cell White) source black in
              absurd (true≢false (sym marked ∙ ap (is_marked (coloured w.heap cell White)) same ∙ is_marked-white w.heap cell))
          | inr apart ↦ inr (
            coloured-other w.heap cell source White apart,
            sym (same_marked target) ∙ clear,
            λ o. absurd (no_barrier source o),
          )
        ];
        grows = λ c g o. absurd (none_awaited c o);
        stays = λ other is. same_marked other ∙ is;
        recoloured = λ marks. absurd (cc);
        marked = λ other in_other is. inl (sym (same_marked other) ∙ is);
        born = λ marks. absurd (cc);
        owes = λ other o. absurd o;
        counted = λ marks. absurd (cc);
      }
    where
      -- the cell was free, and so not marked
      white : is_marked w.heap cell ≡ false
      white = wave.born.white me cell mine

      same_marked : (other : ℕ) → is_marked (coloured w.heap cell White) other ≡ is_marked w.heap other
      same_marked other = elim (cases_eq other cell) [
        | inl same ↦ ap (is_marked (coloured w.heap cell White)) same ∙ is_marked-white w.heap cell ∙ sym (ap (is_marked w.heap) same ∙ white)
        | inr apart ↦ is_marked-other w.heap cell other White apart
      ]
