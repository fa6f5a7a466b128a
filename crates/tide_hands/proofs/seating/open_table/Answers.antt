-- Why a new table meets the rule.
use Rattle.std.proofs.Common.{◌≡◌, ℕ, ◌∙◌, ap, arith, replicate}
use Rattle.tide_hands.specs.declared.parcel.Parcel.TheVariants.{Nothing}
use Rattle.tide_hands.proofs.Opening.{opening_of}
use Rattle.tide_hands.proofs.seating.open_table.Goals as goal

pub new-requires : goal.new-requires
new-requires g c =
    let all : c.loop.counter ≡ c.args.count =
    (let most = c.loop.auto.counter-end in let over = c.loop-test.false in omega (arith, most, over)) in
    opening_of g.P.Parcels.ticket_ok g.P.Parcels.note_ok (g.K.Keyed.name c.args.key.now) (g.K.Keyed.count c.args.key.now)
    c.as_slice.result.now c.loop.slots.items
    (c.as_slice.ensures.value ∙ c.in_ok-words.ensures.items_if_clones_equal (λ y e. e)
    ∙ ap (λ (n : ℕ). replicate n 0) c.requires.count)
    (c.loop.invariant ∙ ap (λ (n : ℕ). replicate n Nothing) (all ∙ c.requires.count))
