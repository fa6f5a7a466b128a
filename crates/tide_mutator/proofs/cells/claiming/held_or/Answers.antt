-- A claim's word that names nobody is 0, and one that names a mutator says who holds the cell.
use Rattle.std.proofs.Common.{ℕ, ◌≡◌, ◌<◌, sym, ◌∙◌, ap, refl, add-one, None, Some, Option}
use Rattle.tide_model.specs.declared.op.Reply.{Reply}
use Rattle.tide_mutator.specs.cells.Claiming.{held_or}
use Rattle.tide_heap.specs.tide_words.forms.Reference.{claim_word}
use Rattle.tide_mutator.proofs.cells.claiming.held_or.Goals as goal

nobody : (otherwise : Reply) (word : ℕ) (holder : Option ℕ) →
    ((number : ℕ) → holder ≡ Some number → number < 4294967296) → word ≡ claim_word holder →
    ((number : ℕ) → number < 4294967296 → claim_word (Some number) ≡ word → ⊥) → otherwise ≡ held_or otherwise word
nobody otherwise word None small is none = ap (held_or otherwise) (sym is)
nobody otherwise word (Some number) small is none = absurd (none number (small number refl) (sym is))

pub returns-in-None : goal.returns-in-None
returns-in-None c = nobody c.args.otherwise c.args.word c.requires.0 c.requires.1 c.requires.2 c.in-None.ensures.none

pub returns-in-Some : goal.returns-in-Some
returns-in-Some c = sym (ap (held_or c.args.otherwise) (add-one _))
    ∙ ap (held_or c.args.otherwise) c.in-Some.ensures.some
