-- A mutator's register says the same wherever the mutator may stand, as long as it owes nothing.
use Rattle.std.proofs.Common.{ℕ, ◌≡◌, ◌<◌, refl, sym, ◌∙◌, ap, List, []}
use Rattle.tide_heap.specs.tide_layout.Region.{index_of_register}
use Rattle.tide_heap.specs.tide_layout.declared.region.Region.TheVariants.{Registers}
use Rattle.tide_heap.specs.tide_core.machine.Kind.{LoadRegister}
use Rattle.tide_heap.specs.tide_core.machine.Moment.{Moment}
use Rattle.tide_heap.specs.tide_core.machine.Own.{Own}
use Rattle.tide_heap.specs.tide_core.machine.Owed.{own_register}
use Rattle.tide_heap.specs.tide_core.declared.machine.view.View.{View}
use Rattle.tide_model.specs.History.{state_after}
use Rattle.tide_model.specs.Layout.{Layout}
use Rattle.tide_model.specs.Refused.{ShapeLists}
use Rattle.tide_model.specs.declared.entry.Event.{Event}
use Rattle.tide_mutator.proofs.owed_laws.OwnClaims.{own_at}
use Rattle.tide_mutator.proofs.cells_laws.OwnFound.{own_found}
use Rattle.tide_mutator.specs.owed.Standing.{MutatorStandsAt}
use Rattle.tide_heap.specs.steps.Follows.{Follows}
use Rattle.tide_heap.specs.tide_words.forms.ValueWord.{val_word}
use Rattle.tide_heap.specs.tide_words.heap.Heap.{Heap}

pub register_word : (layout : Layout) (shapes : ShapeLists) (v u : View) (heap : Heap) (log : List Event)
    (register read : ℕ) → v.owed ≡ [] → v.who < layout.mutators → register < layout.registers →
    MutatorStandsAt layout shapes v heap log → Follows layout shapes (LoadRegister register) v read u →
    read ≡ heap Registers (index_of_register layout v.who register)
register_word layout shapes v u heap log register read calm mutator within stands f =
    sym (own_found layout shapes v f.log Registers index read refl calm (own_register register mutator within) m)
    ∙ sym (m.reads.roots.registers v.who register mutator within).is_word
    ∙ ap (λ (o : Own). val_word (o.registers register))
    (own_at layout v.who f.log v.mine m.own ∙ sym (own_at layout v.who log v.mine stands.own))
    ∙ (stands.reads.roots.registers v.who register mutator within).is_word
  where
    m : Moment layout shapes v f.log Registers (index_of_register layout v.who register) read
    m = f.moment

    index : ℕ
    index = index_of_register layout v.who register
