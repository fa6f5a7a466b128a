-- The value of a word.
use Rattle.std.proofs.Common.{ℕ, sym, ◌∙◌, ap, subst}
use Rattle.tide_heap.proofs.tide_core.machine_laws.WordLaws.{value_of_word}
use Rattle.tide_heap.specs.tide_core.machine.Words.{value_of}
use Rattle.tide_model.specs.declared.val.Val.{Val}
use Rattle.tide_heap.specs.tide_words.heap.Reading.{IsValueOf}

-- what a word of a value says is that value
pub value_read : (value : Val) (word : ℕ) → IsValueOf value word → IsValueOf (value_of word) word
value_read value word is =
    subst (λ (v : Val). IsValueOf v word) (sym (ap value_of (sym is.is_word) ∙ value_of_word value)) is
