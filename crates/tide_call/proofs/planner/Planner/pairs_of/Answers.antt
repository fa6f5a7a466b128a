use Rattle.std.proofs.Common.{ℕ, ◌+◌, refl, sym, ◌∙◌, ap, arith, inl, inr}
use Rattle.std.proofs.Math.ListN.{length-set}
use Rattle.std.proofs.lemmas.Bool.{cases_eq}
use Rattle.std.proofs.lemmas.List.{get_or-set_other}
use Rattle.std.proofs.lemmas.Grind.{get_or-set_at}
use Rattle.tide_words.specs.tide_layout.Region.{place_of_slot}
use Rattle.tide_words.specs.heap.Reading.{slot_word}
use Rattle.tide_call.specs.Callers.{Planner}
use Rattle.tide_call.proofs.action_laws.OwnLaws.{Leaves-own, claims-there, owned-seen}
use Rattle.tide_call.proofs.action_laws.PairPlaces.{slot_past}
use Rattle.tide_call.proofs.planner.Planner.pairs_of.Goals as goal

pub loop-place-init : goal.loop-place-init
loop-place-init g c = (
  (c.requires.known, (λ heap state calls. calls), refl),
  refl,
  (λ heap state calls place below. absurd (omega (arith, below))),
)

pub pair-requires-clause-known : goal.pair-requires-clause-known
pair-requires-clause-known g c =
    let may = c.loop-place.invariant.0.0 in (
      may.heap,
      owned-seen (g.O.OwnRegisters.owns c.loop-place.own c.args.context.now) may.heap _ c.args.self.now c.self.view_is
          may.owned,
    )

pub pair-requires-clause-claimed : goal.pair-requires-clause-claimed
pair-requires-clause-claimed g c = claims-there (g.O.OwnRegisters.owns c.loop-place.own c.args.context.now) _
    c.args.self.now c.self.view_is c.loop-place.invariant.0.0 c.args.table c.requires.claimed c.requires.of_layout

pub pair-requires-clause-at : goal.pair-requires-clause-at
pair-requires-clause-at g c =
    ap (λ (n : ℕ). n + c.from-past.result) c.slot-first.ensures.place
    ∙ slot_past c.self.inside.layout.now c.args.table c.from-past.result
    ∙ ap (place_of_slot c.self.inside.layout.now c.args.table) c.from-past.ensures

pub loop-place-preserved : goal.loop-place-preserved
loop-place-preserved g c =
    let words = c.loop-place.words in
    let at = c.from-past.result in
    let is_at = c.from-past.ensures in
    let below = c.loop-place-test.true in
    let before = c.loop-place.invariant.0 in
    let whole = c.loop-place.invariant.1 in
    let now = g.O.OwnRegisters.owns c.pair.new.self c.args.context.now in
    let step = Leaves-own (g.O.OwnRegisters.owns c.loop-place.own) (g.O.OwnRegisters.owns c.pair.new.self)
    c.args.context.now _ c.args.self.now _ _ c.self.view_is before.0 c.pair.ensures.owns in (
      (step.0, (λ heap state calls. before.1 heap state (step.1 heap state calls)), step.2 ∙ before.2),
      length-set words at c.pair.result ∙ whole,
      (λ heap state calls place earlier. elim (cases_eq place at) [
        | inl same ↦
            let owned = owned-seen now heap _ c.args.self.now c.self.view_is calls.owned in
            get_or-set_at words at place c.pair.result 0 same (omega (arith, whole, is_at, below))
            ∙ c.pair.ensures.word heap owned
            ∙ ap (λ (caller : Planner). slot_word caller.layout heap c.args.table c.loop-place.place) c.self.view_is
            ∙ ap (slot_word c.args.self.now.layout heap c.args.table) (sym (same ∙ is_at))
        | inr apart ↦
            get_or-set_other words at place c.pair.result 0 apart
            ∙ c.loop-place.invariant.2 heap state (step.1 heap state calls) place (omega (arith, earlier, apart, is_at))
      ]),
    )

pub returns-clause-words : goal.returns-clause-words
returns-clause-words g c = λ heap state calls place below.
    (let done = c.loop-place-test.false in c.loop-place.invariant.2 heap state calls place (omega (arith, done, below)))

pub returns-clause-owns : goal.returns-clause-owns
returns-clause-owns g c = c.loop-place.invariant.0
