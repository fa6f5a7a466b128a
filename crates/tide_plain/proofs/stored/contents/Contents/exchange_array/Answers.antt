use Rattle.std.proofs.Common.{◌<◌, ◌∙◌, refl, sym, ap, subst, arith, length, Some}
use Rattle.std.proofs.lemmas.List.{length-set}
use Rattle.tide_model.specs.Layout.{array_count}
use Rattle.tide_model.specs.State.{State}
use Rattle.tide_plain.specs.stored.Contents.{state_of}
use Rattle.tide_plain.specs.stored.Parts.{parts_of}
use Rattle.tide_plain.specs.stored.Properties.{IsOwnArray}
use Rattle.tide_plain.specs.stored.Stored.{Stored}
use Rattle.tide_plain.proofs.stored_laws.AdditionLaws.{array_below, state_of-exchanged, IsOwnArray-taken}
use Rattle.tide_plain.proofs.stored_laws.StoredLaws.{IsLive-at, IsSound-at, IsStored-cell, MayStand, MayStand-stored, stored_within}
use Rattle.tide_plain.proofs.stored.contents.Contents.exchange_array.Goals as goal

pub exchange-requires-clause-old : goal.exchange-requires-clause-old
exchange-requires-clause-old c =
    let contents = parts_of c.self.inside in
    let live = IsLive-at contents c.args.self.now c.args.cell c.self.view_is c.requires.live in
    let sound = IsSound-at contents c.args.self.now c.self.view_is c.self.invariant c.requires.references in
    array_below contents c.args.cell (length contents.statuses) c.stored-stored.result.now sound live c.stored-stored.ensures c.self.invariant.all_statuses

pub returns-clause-leaves : goal.returns-clause-leaves
returns-clause-leaves c =
    let contents = parts_of c.self.inside in
    let live = IsLive-at contents c.args.self.now c.args.cell c.self.view_is c.requires.live in
    let sound = IsSound-at contents c.args.self.now c.self.view_is c.self.invariant c.requires.references in
    let within = stored_within contents c.args.cell c.self.invariant live in
    let counted = ap (λ (s : Stored). array_count s.layout) c.self.view_is in
    let in_elements : c.args.taken < length contents.elements = omega (arith, c.requires.within, counted, c.self.invariant.all_elements) in
    rw (← c.self.view_is, c.store.ensures)
    (record {
      state = state_of-exchanged contents c.args.cell c.args.taken c.stored-stored.result.now c.exchange.new.self.statuses c.exchange.new.self.elements sound live c.stored-stored.ensures
          within in_elements (ap (λ (s : Stored). (state_of s).arrays c.args.taken) c.self.view_is ∙ c.requires.free) (c.exchange.ensures.elements) c.exchange.ensures.statuses;
      layout = refl;
      shapes = refl;
    })

pub returns-clause-own : goal.returns-clause-own
returns-clause-own c =
    subst (λ (s : State). IsOwnArray s c.args.cell c.args.taken) (sym (returns-clause-leaves c).state)
    (IsOwnArray-taken (state_of c.args.self.now) c.args.cell c.args.taken c.requires.references c.requires.live c.requires.free)

pub invariant_of-self : goal.invariant_of-self
invariant_of-self c =
    let contents = parts_of c.self.inside in
    let live = IsLive-at contents c.args.self.now c.args.cell c.self.view_is c.requires.live in
    let within = stored_within contents c.args.cell c.self.invariant live in
    let may = subst (MayStand contents) (sym c.stored-stored.ensures) (MayStand-stored contents c.args.cell c.self.invariant live) in
    rw c.store.ensures
    (IsStored-cell contents c.args.cell (record c.stored-stored.result.now { array = Some c.args.taken }) contents.are_live c.exchange.new.self.statuses c.exchange.new.self.elements within refl
    c.exchange.ensures.as_many (ap length c.exchange.ensures.elements ∙ length-set contents.elements c.args.taken _) (λ other away. refl)
    (record { shape = may.shape; array = λ some. refl; pairs = may.pairs }) c.self.invariant)
