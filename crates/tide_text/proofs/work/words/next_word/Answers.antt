use Rattle.std.proofs.Common.{◌∙◌, sym}
use Rattle.tide_text.proofs.work_laws.WordLemmas.{no_words, first_words}
use Rattle.tide_text.proofs.work.words.next_word.Goals as goal

pub returns-in_err-begin : goal.returns-in_err-begin
returns-in_err-begin c = rw c.from_residual.ensures (no_words c.args.text.now (sym c.first_word_byte.ensures ∙ c.in_err-begin.was))

pub returns : goal.returns
returns c =
    let text = c.args.text.now in
    let n = c.in_ok-begin.begin in
    let m = c.unwrap_or-end.result in
    rw (c.split_at-2.ensures.front, c.split_at-2.ensures.back, c.split_at.ensures.back)
    (first_words text n m (sym c.first_word_byte.ensures ∙ c.in_ok-begin.was) (rw (← c.split_at.ensures.back, ← c.first_space.ensures) (sym c.unwrap_or-end.ensures)))
