use Rattle.std.proofs.Common.{◌≡◌, ◌<◌, ◌∙◌, sym, ap, arith, true, length}
use Rattle.std.proofs.lemmas.Bool.{eq-eqb}
use Rattle.std.specs.Prelude.{not}
use Rattle.tide_plain.specs.stored.Contents.{state_of}
use Rattle.tide_plain.specs.stored.Parts.{parts_of}
use Rattle.tide_plain.specs.stored.Stored.{Stored}
use Rattle.tide_shape.proofs.CapacityLaws.{has_room-at}
use Rattle.tide_plain.proofs.stored_laws.PropertyLaws.{keys_are-stored, keys_from-room, own_array}
use Rattle.tide_plain.proofs.stored_laws.StoredLaws.{IsLive-at, IsSound-at}
use Rattle.tide_plain.proofs.stored.contents.Contents.has_room.Goals as goal

pub returns-clause-own : goal.returns-clause-own
returns-clause-own c = λ room.
    let contents = parts_of c.self.inside in
    let live = IsLive-at contents c.args.self.now c.args.cell c.self.view_is c.requires.live in
    let sound = IsSound-at contents c.args.self.now c.self.view_is c.self.invariant c.requires.references in
    let keys = keys_are-stored contents c.args.cell c.stored.result.now live c.stored.ensures in
    let counted : c.count-count.result ≡ length ((state_of contents).cells c.args.cell).keys = c.count-count.ensures ∙ ap length keys in
    let few : c.count-count.result < 64 = omega (arith, counted, ap (λ (s : Stored). length ((state_of s).cells c.args.cell).keys) c.self.view_is, c.requires.fewer) in
    let differs : c.count-count.result ≡ c.capacity.result → ⊥ = λ e.
    let same : not true ≡ true = sym (ap not (eq-eqb c.count-count.result c.capacity.result e)) ∙ room in cc in
    rw (← c.self.view_is)
    (own_array contents c.args.cell sound live (keys_from-room ((state_of contents).cells c.args.cell)
    (has_room-at ((state_of contents).cells c.args.cell) c.count-count.result counted few (λ e. differs (e ∙ sym c.capacity.ensures)))))
