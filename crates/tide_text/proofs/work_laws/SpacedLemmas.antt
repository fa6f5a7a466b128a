-- Words that stand behind a text, each after a space.
use Rattle.std.proofs.Common.{◌≡◌, ℕ, zero, suc, ◌+◌, ◌-◌, ◌<◌, Bool, true, false, cond, not, ltb, List, [], ◌∷◌, ◌++◌, length, get_or, filter, refl, ap, sym, ◌∙◌, arith, append_assoc, length-append}
use Rattle.std.proofs.lemmas.Bool.{and_parts, lt-ltb}
use Rattle.std.proofs.lemmas.Bool.Decides.{nat_tests}
use Rattle.std.proofs.lemmas.List.{append-nil, get_or_append_left, get_or-append-add}
use Rattle.std.proofs.lemmas.List.Elements.{All-nil, All-cons, All-head, All-tail, filter-append}
use Rattle.std.proofs.lemmas.List.Splits.{length-slice_split, slice_split_none}
use Rattle.std.specs.Prelude.{All}
use Rattle.std.specs.List.{list_all, slice_split, onto_first}
use Rattle.tide_text.specs.work.Words.{is_space, is_word_byte, is_trimmed, words_in}

-- a word has bytes, and no space among them
pub record IsWord (word : List ℕ) : Type 0 where
  pub some : 0 < length word
  pub spaceless : list_all is_word_byte word ≡ true

-- what each byte passes it still passes where another test asks for less
pub list_all-weaker : (p q : ℕ → Bool) → ((byte : ℕ) → p byte ≡ true → q byte ≡ true) → (bytes : List ℕ) → list_all p bytes ≡ true → list_all q bytes ≡ true
list_all-weaker p q less [] all = refl
list_all-weaker p q less (byte ∷ bytes) all =
    let (here, rest) = and_parts (p byte) (list_all p bytes) all in
    rw (less byte here, list_all-weaker p q less bytes rest) refl

letter : (byte : ℕ) → is_word_byte byte ≡ true → is_space byte ≡ false
letter byte is = grind (arith, nat_tests)

spaceless : (word : List ℕ) → list_all is_word_byte word ≡ true → All (λ byte. is_space byte ≡ false) word
spaceless [] all = All-nil (λ byte. is_space byte ≡ false)
spaceless (byte ∷ word) all =
    let (here, rest) = and_parts (is_word_byte byte) (list_all is_word_byte word) all in
    All-cons (λ byte. is_space byte ≡ false) byte word (letter byte here) (spaceless word rest)

-- a word is the one word of its text
pub words_in-word : (word : List ℕ) → IsWord word → words_in word ≡ word ∷ []
words_in-word word is =
    let split : slice_split is_space word ≡ word ∷ [] = slice_split_none is_space word (spaceless word is.spaceless) in
    let long : ltb 0 (length word) ≡ true = lt-ltb _ _ is.some in
    ap (filter (λ part. ltb 0 (length part))) split ∙ rw long refl

onto_first-append : (c : ℕ) (parts more : List (List ℕ)) → 0 < length parts → onto_first c (parts ++ more) ≡ onto_first c parts ++ more
onto_first-append c [] more some = absurd (omega arith)
onto_first-append c (part ∷ parts) more some = refl

-- a text is split at a space between two texts
split_at_space : (text more : List ℕ) → slice_split is_space (text ++ 32 ∷ more) ≡ slice_split is_space text ++ slice_split is_space more
split_at_space [] more = refl
split_at_space (c ∷ text) more = step (is_space c) (split_at_space text more)
  where
    step : (b : Bool) → slice_split is_space (text ++ 32 ∷ more) ≡ slice_split is_space text ++ slice_split is_space more
        → cond b ([] ∷ slice_split is_space (text ++ 32 ∷ more)) (onto_first c (slice_split is_space (text ++ 32 ∷ more)))
        ≡ cond b ([] ∷ slice_split is_space text) (onto_first c (slice_split is_space text)) ++ slice_split is_space more
    step true rest = ap (λ parts. [] ∷ parts) rest
    step false rest =
        ap (onto_first c) rest ∙ onto_first-append c (slice_split is_space text) (slice_split is_space more) (omega (arith, length-slice_split is_space text))

-- a word behind a text and a space is one word more
words_in-behind : (text word : List ℕ) → IsWord word → words_in (text ++ 32 ∷ word) ≡ words_in text ++ word ∷ []
words_in-behind text word is =
    ap (filter (λ part. ltb 0 (length part))) (split_at_space text word)
    ∙ filter-append (λ part. ltb 0 (length part)) (slice_split is_space text) (slice_split is_space word)
    ∙ ap (λ words. words_in text ++ words) (words_in-word word is)

-- a text with words behind it, each after a space
abbrev pub spaced : List ℕ → List (List ℕ) → List ℕ
spaced text [] = text
spaced text (word ∷ words) = spaced (text ++ 32 ∷ word) words

-- these are its words
pub words_in-spaced : (words : List (List ℕ)) (text : List ℕ) → All IsWord words → words_in (spaced text words) ≡ words_in text ++ words
words_in-spaced [] text all = sym (append-nil (words_in text))
words_in-spaced (word ∷ words) text all =
    words_in-spaced words (text ++ 32 ∷ word) (All-tail IsWord word words all)
    ∙ ap (λ before. before ++ words) (words_in-behind text word (All-head IsWord word words all))
    ∙ append_assoc (words_in text) (word ∷ []) words

letter_at : (word : List ℕ) (i : ℕ) → i < length word → list_all is_word_byte word ≡ true → is_space (get_or word i 0) ≡ false
letter_at [] i within all = absurd (omega arith)
letter_at (byte ∷ word) zero within all = letter byte (and_parts (is_word_byte byte) (list_all is_word_byte word) all).0
letter_at (byte ∷ word) (suc i) within all = letter_at word i (omega arith) (and_parts (is_word_byte byte) (list_all is_word_byte word) all).1

-- a text that has bytes, and is trimmed
pub record IsTrimmed (text : List ℕ) : Type 0 where
  pub some : 0 < length text
  pub trimmed : is_trimmed text ≡ true

pub word-trimmed : (word : List ℕ) → IsWord word → IsTrimmed word
word-trimmed word is = record {
  some = is.some;
  trimmed = rw (letter_at word 0 is.some is.spaceless, letter_at word (length word - 1) (omega (arith, is.some)) is.spaceless) refl;
}

trimmed-behind : (text word : List ℕ) → IsTrimmed text → IsWord word → IsTrimmed (text ++ 32 ∷ word)
trimmed-behind text [] is word = absurd (omega (arith, word.some))
trimmed-behind text (c ∷ word) is is_word =
    let all = 32 ∷ c ∷ word in
    let (first, last) = and_parts (not (is_space (get_or text 0 0))) (not (is_space (get_or text (length text - 1) 0))) is.trimmed in
    let before : get_or (text ++ all) 0 0 ≡ get_or text 0 0 = get_or_append_left text all 0 0 is.some in
    let long : length (text ++ all) - 1 ≡ length text + suc (length word) = omega (arith, length-append text all) in
    let behind : get_or (text ++ all) (length text + suc (length word)) 0 ≡ get_or (c ∷ word) (length word) 0 = get_or-append-add text all (suc (length word)) 0 in
    let spaceless : is_space (get_or (c ∷ word) (length word) 0) ≡ false = letter_at (c ∷ word) (length word) (omega arith) is_word.spaceless in
    record {
      some = omega (arith, length-append text all);
      trimmed = rw (long, before, behind, spaceless, first) refl;
    }

-- and a text with words behind it is trimmed too
pub spaced-trimmed : (words : List (List ℕ)) (text : List ℕ) → IsTrimmed text → All IsWord words → IsTrimmed (spaced text words)
spaced-trimmed [] text is all = is
spaced-trimmed (word ∷ words) text is all =
    spaced-trimmed words (text ++ 32 ∷ word) (trimmed-behind text word is (All-head IsWord word words all)) (All-tail IsWord word words all)
