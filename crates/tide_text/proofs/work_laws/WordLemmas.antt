-- The first word of a text, and those after it.
use Rattle.std.proofs.Common.{◌≡◌, ℕ, zero, suc, ◌+◌, ◌<◌, ◌≤◌, Bool, true, List, [], ◌∷◌, length, get_or, take, drop, ltb, filter, unwrap_or, length-take, length-drop, Some, None, refl, ap, ◌∙◌, arith, ⊎_elim}
use Rattle.std.proofs.lemmas.Bool.{cases_lt, lt-ltb, not-false}
use Rattle.std.proofs.lemmas.Bool.Decides.{nat_tests}
use Rattle.std.proofs.lemmas.List.{drop_more, take_all, drop_all}
use Rattle.std.proofs.lemmas.List.Splits.{slice_split_first, slice_split_none}
use Rattle.std.proofs.lemmas.List.Sums.{fails_before_first, passes_at_first}
use Rattle.std.specs.List.{slice_split, position, position_or_len}
use Rattle.tide_text.specs.work.Words.{is_space, is_word_byte, words_in}

-- a space in front parts no words
words_in-space : (c : ℕ) (text : List ℕ) → is_space c ≡ true → words_in (c ∷ text) ≡ words_in text
words_in-space c text here = rw here

-- nor do several
words_in-spaces : (n : ℕ) (text : List ℕ) → ((k : ℕ) → k < n → is_space (get_or text k 0) ≡ true) → words_in text ≡ words_in (drop n text)
words_in-spaces zero text spaces = refl
words_in-spaces (suc n) [] spaces = refl
words_in-spaces (suc n) (c ∷ text) spaces =
    words_in-space c text (spaces 0 (omega arith)) ∙ words_in-spaces n text (λ k below. spaces (suc k) (omega arith))

position_none : (p : ℕ → Bool) (xs : List ℕ) → position p xs ≡ None → length xs ≤ position_or_len p xs
position_none p xs none = grind (arith, nat_tests)

position_some : (p : ℕ → Bool) (xs : List ℕ) (n : ℕ) → position p xs ≡ Some n → (n < length xs) × (n ≡ position_or_len p xs)
position_some p xs n some = (grind (arith, nat_tests), grind (arith, nat_tests))

-- a first word is taken off with what follows it
words_in-word : (text : List ℕ) (n : ℕ) → 0 < n → n < length text → position_or_len is_space text ≡ n
    → words_in text ≡ take n text ∷ words_in (drop n text)
words_in-word text n some within at =
    let ends : is_space (get_or text n 0) ≡ true = rw (← at) (passes_at_first is_space text 0 (omega arith)) in
    let split : slice_split is_space text ≡ take n text ∷ slice_split is_space (drop (n + 1) text) = rw (← at) (slice_split_first is_space text 0 (omega arith)) in
    let rest : words_in (drop n text) ≡ words_in (drop (n + 1) text) = rw (drop_more text n 0 within) (words_in-space (get_or text n 0) (drop (n + 1) text) ends) in
    let long : ltb 0 (length (take n text)) ≡ true = lt-ltb _ _ (omega (arith, length-take n text)) in
    ap (filter (λ part. ltb 0 (length part))) split ∙ rw (rest, long)

-- a text with no space is one word
words_in-one : (text : List ℕ) → 0 < length text → length text ≤ position_or_len is_space text → words_in text ≡ text ∷ []
words_in-one text some at =
    let split : slice_split is_space text ≡ text ∷ [] = slice_split_none is_space text (λ k d within. fails_before_first is_space text k d (omega arith)) in
    let long : ltb 0 (length text) ≡ true = lt-ltb _ _ some in
    ap (filter (λ part. ltb 0 (length part))) split ∙ rw long

-- a text of spaces has no word
pub no_words : (text : List ℕ) → position is_word_byte text ≡ None → words_in text ≡ []
no_words text none =
    let past = position_none is_word_byte text none in
    words_in-spaces (length text) text (λ k below. not-false (is_space (get_or text k 0)) (fails_before_first is_word_byte text k 0 (omega arith)))
    ∙ ap words_in (drop_all (length text) text (omega arith))

-- a text that begins with a letter begins with a word, up to a space or the text's end
word_here : (text : List ℕ) (m : ℕ) → 0 < length text → is_word_byte (get_or text 0 0) ≡ true → unwrap_or (position is_space text) (length text) ≡ m
    → words_in text ≡ take m text ∷ words_in (drop m text)
word_here text m some letter end = ⊎_elim
    (λ within.
    let at : position_or_len is_space text ≡ m = grind (arith, nat_tests) in
    let later : 0 < m = grind (arith, nat_tests, passes_at_first is_space text 0 within) in
    words_in-word text m later (omega arith) at)
    (λ past.
    let at : m ≡ length text = grind (arith, nat_tests) in
    words_in-one text some past ∙ rw (at, take_all (length text) text (omega arith), drop_all (length text) text (omega arith)))
    (cases_lt (position_or_len is_space text) (length text))

-- where a text has a word, its first one ends at the next space or at the text's end
pub first_words : (text : List ℕ) (n m : ℕ) → position is_word_byte text ≡ Some n → unwrap_or (position is_space (drop n text)) (length (drop n text)) ≡ m
    → words_in text ≡ take m (drop n text) ∷ words_in (drop m (drop n text))
first_words text n m begin end =
    let (inside, at) = position_some is_word_byte text n begin in
    let spaces : words_in text ≡ words_in (drop n text) =
    words_in-spaces n text (λ k below. not-false (is_space (get_or text k 0)) (fails_before_first is_word_byte text k 0 (omega arith))) in
    let letter : is_word_byte (get_or text n 0) ≡ true = rw at (passes_at_first is_word_byte text 0 (omega arith)) in
    spaces ∙ word_here (drop n text) m (omega (arith, length-drop n text)) (rw (drop_more text n 0 inside) letter) end
