-- The run over periods.
use Rattle.std.proofs.Common.{ℕ, zero, suc, ◌≡◌, refl, sym, ◌∙◌, ap, subst, Bool, true, List, [], ◌∷◌, ◌++◌, length, take, append_assoc, take_all, replicate, All, arith}
use Rattle.std.proofs.lemmas.List.{length-map}
use Rattle.std.proofs.lemmas.List.Elements.{All-get_or}
use Rattle.std.proofs.lemmas.List.Sums.{AllPass-from_list_all}
use Rattle.std.proofs.lemmas.Option.{slice_get_within, get_or_from_slice_get}
use Rattle.std.specs.Prelude.{Some, map, slice_get, if◌then◌else◌}
use Rattle.std.specs.List.{list_all}
use Rattle.tide_model.specs.declared.op.Op.{Op}
use Rattle.tide_model.specs.declared.op.Op.TheVariants.{Unclaim, Retire}
use Rattle.tide_model.specs.declared.entry.Event.{Event}
use Rattle.tide_model.specs.Cycle.{live_count}
use Rattle.tide_model.specs.History.{state_after}
use Rattle.tide_model.specs.Pace.{Pace}
use Rattle.tide_model.specs.Periods.{ArePeriods, IsLegal, next_run, one_more}
use Rattle.tide_model.specs.Script.{calls_of}
use Rattle.tide_model.specs.Whole.{IsWhole}
use Rattle.tide_periods.specs.declared.cursor.ScriptCursor.{ScriptCursor}
use Rattle.tide_periods.specs.declared.answered.Answered.{Answered}
use Rattle.tide_report.specs.Ends.{TellsEnds}
use Rattle.tide_report.specs.Reports.{Reported}
use Rattle.tide_periods.specs.Asking.{IsAskedBy, claims_after, scripts_of}
use Rattle.tide_periods.specs.Part.{AreCursors}
use Rattle.tide_periods.specs.Periods.{RanAll, RanPeriod}
use Rattle.tide_periods.specs.Run.{HasRun}
use Rattle.tide_periods.specs.Store.{Setting}
use Rattle.tide_periods.specs.Answered.{pair_of}
use Rattle.tide_periods.specs.Recorded.{IsSettled, Recorded}
use Rattle.tide_periods.proofs.Freezing.{is_over-cursors}

-- one more period
pub ArePeriods-ran : (old new : Recorded) (pace : Pace) (run : ℕ) → RanPeriod old new pace run → ArePeriods pace old.setting.layout old.history → ArePeriods pace new.setting.layout new.history
ArePeriods-ran old new pace run ran periods =
    subst (λ (s : Setting). ArePeriods pace s.layout new.history) (sym ran.same)
    (subst (ArePeriods pace old.setting.layout) (sym ran.history) (one_more old.history ran.period periods ran.stands))

-- all mutators have retired
pub RanAll-over : (recorded : Recorded) (pace : Pace) (cursors : List ScriptCursor) → IsSettled recorded → AreCursors recorded cursors → ArePeriods pace recorded.setting.layout recorded.history →
    list_all (λ cursor. cursor.retired) cursors ≡ true → RanAll recorded pace cursors
RanAll-over recorded pace cursors settled are periods all = record {
  settled = settled;
  cursors' = are;
  scheduled = record { periods = periods; ends = settled.ends; over = sym (is_over-cursors recorded cursors are) ∙ all };
  scripts = scripts;
}
  where
    scripts : (who : ℕ) (cursor : ScriptCursor) → slice_get cursors who ≡ Some cursor → IsWhole recorded.setting.layout recorded.history who cursor.ops.items
    scripts who cursor found =
        let known = are.each who cursor found in
        let here = known.1 in
        let at = here.at in
        let within = slice_get_within cursors who cursor found in
        let retired : cursor.retired ≡ true = subst (λ (c : ScriptCursor). c.retired ≡ true) (get_or_from_slice_get cursors who cursor cursor found)
        (All-get_or (λ (c : ScriptCursor). c.retired ≡ true) cursors who cursor within (AllPass-from_list_all (λ (c : ScriptCursor). c.retired) cursors all)) in
        let done = at.at_end retired in
        let was = here.was_done done in
        let unclaims : at.unclaims ≡ claims_after recorded.setting.layout (take here.moment recorded.history) cursor.who =
        (let given = at.given done in let none = at.released retired in let total = was.claims in omega (arith, given, none, total)) in
        subst (λ (w : ℕ). IsWhole recorded.setting.layout recorded.history w cursor.ops.items) known.0 (record {
          moment = here.moment;
          within = here.in_history;
          done = was.script;
          script = at.is_script
              ∙ ap (λ (r : Bool). (take cursor.done cursor.ops.items ++ replicate at.unclaims Unclaim) ++ (if r then Retire ∷ [] else [])) retired
              ∙ ap (λ (ops : List Op). (ops ++ replicate at.unclaims Unclaim) ++ Retire ∷ [])
              (ap (λ (n : ℕ). take n cursor.ops.items) done ∙ take_all (length cursor.ops.items) cursor.ops.items (omega arith))
              ∙ append_assoc cursor.ops.items (replicate at.unclaims Unclaim) (Retire ∷ [])
              ∙ ap (λ (n : ℕ). cursor.ops.items ++ (replicate n Unclaim ++ Retire ∷ [])) unclaims;
        })

-- what stands at a place of a list that was mapped, before it was
found_before : {X Y : Type 0} (f : X → Y) (xs : List X) (place : ℕ) (y : Y) → slice_get (map f xs) place ≡ Some y →
    (x : X) × (slice_get xs place ≡ Some x) × (f x ≡ y)
found_before f [] place y is = absurd (cc)
found_before f (x ∷ xs) zero y is = (x, refl, (let same : Some (f x) ≡ Some y = is in cc))
found_before f (x ∷ xs) (suc place) y is = found_before f xs place y is

-- what a run leaves, from the mutators when all have retired
pub HasRun-over : (setting : Setting) (pace : Pace) (scripts : List (List Op)) (recorded : Recorded) (cursors : List ScriptCursor) (history : List Event) (report : Reported) (calls : List (List Answered)) (live : ℕ) →
    RanAll recorded pace cursors → recorded.setting ≡ setting → scripts_of cursors ≡ scripts → history ≡ recorded.history → TellsEnds recorded.setting.layout history report → calls ≡ map (λ cursor. cursor.calls.items) cursors →
    live ≡ live_count recorded.setting.layout recorded.state → HasRun setting pace scripts history report calls live
HasRun-over setting pace scripts recorded cursors history report calls live ran same own_scripts is told are living =
    subst (λ (s : Setting). HasRun s pace scripts history report calls live) same (record {
      legal = subst (IsLegal pace recorded.setting.layout recorded.setting.shapes) (sym is) (record { lawful = ran.settled.lawful; scheduled = ran.scheduled });
      told = told;
      whole = λ who ops found.
          let one = found_before (λ (c : ScriptCursor). c.ops.items) cursors who ops (ap (λ (lists : List (List Op)). slice_get lists who) own_scripts ∙ found) in
          subst (λ (h : List Event). IsWhole recorded.setting.layout h who ops) (sym is)
          (subst (IsWhole recorded.setting.layout recorded.history who) one.2 (ran.scripts who one.0 one.1));
      one_each = ap length are ∙ length-map cursors (λ (c : ScriptCursor). c.calls.items) ∙ ran.cursors'.one_each;
      calls_are = λ who own found.
          let one = found_before (λ (c : ScriptCursor). c.calls.items) cursors who own (ap (λ (lists : List (List Answered)). slice_get lists who) (sym are) ∙ found) in
          let known = ran.cursors'.each who one.0 one.1 in
          ap (map pair_of) (sym one.2) ∙ sym known.1.are ∙ ap (λ (w : ℕ). calls_of w recorded.history) known.0 ∙ ap (calls_of who) (sym is);
      asked = λ who ops found.
          let one = found_before (λ (c : ScriptCursor). c.ops.items) cursors who ops (ap (λ (lists : List (List Op)). slice_get lists who) own_scripts ∙ found) in
          let known = ran.cursors'.each who one.0 one.1 in
          subst (λ (o : List Op). All (λ call. IsAskedBy o call.0) (calls_of who history)) one.2
          (subst (All (λ call. IsAskedBy one.0.ops.items call.0))
          (sym known.1.are ∙ ap (λ (w : ℕ). calls_of w recorded.history) known.0 ∙ ap (calls_of who) (sym is)) known.1.asked);
      living = living ∙ ap (live_count recorded.setting.layout) (sym ran.settled.leaves) ∙ ap (λ (h : List Event). live_count recorded.setting.layout (state_after recorded.setting.layout h)) (sym is);
    })

-- before anything happened a part has all calls of a period
pub run_of_nothing : (pace : Pace) (recorded : Recorded) → recorded.history ≡ [] → pace.calls ≡ next_run pace recorded.setting.layout recorded.history
run_of_nothing pace recorded nothing = ap (next_run pace recorded.setting.layout) (sym nothing)
