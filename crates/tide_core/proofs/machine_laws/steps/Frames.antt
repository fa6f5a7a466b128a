-- One law for each point of the wave: what a change of one view has to show for the point to survive it.
use Rattle.std.proofs.Common.{ℕ, zero, suc, ◌≡◌, ◌≢◌, ◌+◌, ◌<◌, ◌≤◌, ◌⊎◌, refl, sym, ◌∙◌, ap, subst, arith, Bool, List, inl, inr}
use Rattle.std.proofs.lemmas.Bool.{eq-eqb, ne_eqb, cases_eq}
use Rattle.std.specs.Prelude.{if◌then◌else◌, filter, ◌%◌, ◌^◌}
use Rattle.tide_words.specs.tide_layout.Slots.{total_below}
use Rattle.tide_core.specs.machine.Kind.{index_of_stopped}
use Rattle.tide_core.specs.machine.World.{IsParty, holds, parties}
use Rattle.tide_core.specs.declared.machine.view.View.{View}
use Rattle.tide_core.specs.machine.points.Holders.{RunningGreyIsHeld}
use Rattle.tide_core.specs.machine.points.Seen.{CallsAreTold, IsKnown}
use Rattle.tide_core.specs.machine.points.Stops.{StopsAreTold}
use Rattle.tide_model.proofs.ReferenceLaws.{put_at_elim}
use Rattle.tide_model.specs.History.{is_call_of}
use Rattle.tide_model.specs.Layout.{Layout, cell_count}
use Rattle.tide_model.specs.Numbers.{put_at}
use Rattle.tide_model.specs.Prefix.{IsPrefix}
use Rattle.tide_model.specs.declared.entry.Event.{Event}
use Rattle.tide_words.specs.heap.Heap.{Heap}
use Rattle.tide_words.specs.marking.Colours.{is_grey}
use Rattle.tide_words.specs.marking.Marking.{bits_of}
use Rattle.tide_words.specs.tide_layout.declared.region.Region.TheVariants as region

-- what held of the stepping view's old value, or is shown of its new one, and held of all others, holds of all
pub each_put : (Q : ℕ → View → Type 0) (part : ℕ → View) (me : ℕ) (w : View) → Q me w → ((p : ℕ) → Q p (part p)) →
    (p : ℕ) → Q p (put_at part me w p)
each_put Q part me w mine each = put_at_elim Q part me w mine (λ p other. each p)

-- one view of the function
pub put_here : (part : ℕ → View) (me : ℕ) (w : View) → put_at part me w me ≡ w
put_here part me w = ap (λ (same : Bool). if same then w else part me) (eq-eqb me me refl)

pub put_else : (part : ℕ → View) (me p : ℕ) (w : View) → p ≢ me → put_at part me w p ≡ part p
put_else part me p w other = ap (λ (same : Bool). if same then w else part p) (ne_eqb p me other)

-- one of several numbers is at most their sum
pub total_below-one : (f : ℕ → ℕ) (k n : ℕ) → k < n → f k ≤ total_below f n
total_below-one f k zero h = absurd (omega arith)
total_below-one f k (suc n) h = elim (cases_eq k n) [
  | inl same ↦ (let at = ap f same in omega (arith, at))
  | inr apart ↦ (let earlier = total_below-one f k n (omega (arith, apart)) in omega (arith, earlier))
]

-- a sum over all views changes by what the one view changes
pub total_below-put : (f : View → ℕ) (part : ℕ → View) (me : ℕ) (w : View) (n : ℕ) → me < n →
    total_below (λ p. f (put_at part me w p)) n + f (part me) ≡ total_below (λ p. f (part p)) n + f w
total_below-put f part me w zero inside = absurd (omega arith)
total_below-put f part me w (suc n) inside = elim (cases_eq me n) [
  | inl same ↦
      let below = others n (omega (arith, same)) in
      let here : f (put_at part me w n) ≡ f w = ap (λ (p : ℕ). f (put_at part me w p)) (sym same) ∙
      ap f (put_here part me w) in
      let old : f (part me) ≡ f (part n) = ap (λ (p : ℕ). f (part p)) same in
      omega (arith, below, here, old)
  | inr apart ↦
      let earlier = total_below-put f part me w n (omega (arith, apart)) in
      let last : f (put_at part me w n) ≡ f (part n) = ap f (put_else part me n w (λ e. apart (sym e))) in
      omega (arith, earlier, last)
]
  where
    others : (m : ℕ) → m ≤ me → total_below (λ p. f (put_at part me w p)) m ≡ total_below (λ p. f (part p)) m
    others zero h = refl
    others (suc m) h =
        let before = others m (omega arith) in
        let last : f (put_at part me w m) ≡ f (part m) = ap f (put_else part me m w (λ e. omega (arith, e))) in
        omega (arith, before, last)

-- what it has seen is as before
pub known_view : (log : List Event) (part : ℕ → View) (me : ℕ) (w : View) → w.who ≡ (part me).who →
    (w.seen ≡ (part me).seen) ⊎ (IsPrefix w.seen log ×
    (filter (λ event. is_call_of me event.entry) w.seen ≡ (part me).mine)) → w.mine ≡ (part me).mine →
    IsKnown log part → IsKnown log (put_at part me w)
known_view log part me w who seen mine known = record {
  who = each_put (λ p u. u.who ≡ p) part me w (who ∙ known.who me) known.who;
  seen = each_put (λ p u. IsPrefix u.seen log) part me w
      (elim seen [
        | inl same ↦ subst (λ (s : List Event). IsPrefix s log) (sym same) (known.seen me)
        | inr more ↦
            more.0
      ]) known.seen;
  own = each_put (λ p u. filter (λ event. is_call_of p event.entry) log ≡ u.mine) part me w (known.own me ∙
      sym mine) known.own;
  told = each_put (λ p u. filter (λ event. is_call_of p event.entry) u.seen ≡ u.mine) part me w
      (elim seen [
        | inl same ↦ ap (filter (λ (event : Event). is_call_of me event.entry)) same ∙ known.told me ∙
            sym mine
        | inr more ↦ more.1 ∙ sym mine
      ]) known.told;
}

-- each grey cell keeps its one holder
pub held_view : (layout : Layout) (old new : Heap) (part : ℕ → View) (me : ℕ) (w : View) → me < parties →
    ((cell : ℕ) → cell < cell_count layout →
    bits_of old cell + holds cell (part me) ≤ (if is_grey old cell then 1 else 0) →
    bits_of new cell + holds cell w + (if is_grey old cell then 1 else 0) ≡ bits_of old cell + holds cell (part me) +
    (if is_grey new cell then 1 else 0)) →
    RunningGreyIsHeld layout old part → RunningGreyIsHeld layout new (put_at part me w)
held_view layout old new part me w inside balance held = record {
  held = λ cell within.
      let once = held.held cell within in
      let sums = total_below-put (holds cell) part me w parties inside in
      let one = total_below-one (λ p. holds cell (part p)) me parties inside in
      let even = balance cell within (omega (arith, once, one)) in
      omega (arith, once, sums, even);
}

-- each call word tells what its view says
pub calls_view : (layout : Layout) (old new : Heap) (part : ℕ → View) (me : ℕ) (w : View) → w.calls ≡ (part me).calls →
    ((p : ℕ) → new region.Call p ≡ old region.Call p) → CallsAreTold layout old part →
    CallsAreTold layout new (put_at part me w)
calls_view layout old new part me w same words told =
    each_put (λ p u. p < layout.mutators → new region.Call p ≡ u.calls % 2 ^ 64) part me w
    (λ within. words me ∙ told me within ∙ ap (λ (n : ℕ). n % 2 ^ 64) (sym same)) (λ p within. words p ∙ told p within)

-- each Stopped word tells what its view says
pub stops_view : (layout : Layout) (old new : Heap) (part : ℕ → View) (me : ℕ) (w : View) →
    w.stopped ≡ (part me).stopped → ((index : ℕ) → new region.Stopped index ≡ old region.Stopped index) →
    StopsAreTold layout old part → StopsAreTold layout new (put_at part me w)
stops_view layout old new part me w same words told =
    each_put (λ p u. IsParty layout p → new region.Stopped (index_of_stopped layout p) ≡ u.stopped) part me w
    (λ party. words (index_of_stopped layout me) ∙ told me party ∙ sym same)
    (λ p party. words (index_of_stopped layout p) ∙ told p party)
