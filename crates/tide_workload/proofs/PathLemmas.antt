-- Reading the words of a path, and numbering its keys.
use Rattle.std.proofs.Common.{◌≡◌, ℕ, zero, suc, ◌+◌, ◌-◌, ◌<◌, ◌≤◌, Bool, true, false, ◌&&◌, nat_lt, nat_le, List, [], ◌∷◌, ◌++◌, length, map, take, get_or, refl, ap, sym, ◌∙◌, arith, append_assoc, ⊎_elim, length-take}
use Rattle.std.proofs.lemmas.Bool.{and_parts, cases_lt}
use Rattle.std.proofs.lemmas.Grind.{common_steps}
use Rattle.std.proofs.lemmas.Bool.Decides.{nat_tests}
use Rattle.std.proofs.lemmas.List.{take_more, take_all, map-append}
use Rattle.std.specs.Prelude.{if◌then◌else◌, Some, None}
use Rattle.std.specs.List.{list_all}
use Rattle.tide_text.specs.work.Keys.{is_key}
use Rattle.tide_workload.specs.Shapes.{are_keys, path_words}
use Rattle.tide_text.specs.work.Words.{is_trimmed, words_in}

-- one more of the first words
taken_more : (done left : List (List ℕ)) (word : List ℕ) (n limit : ℕ) → n < limit
    → done ++ take (limit - n) (word ∷ left) ≡ (done ++ word ∷ []) ++ take (limit - (n + 1)) left
taken_more done left word n limit below =
    let e : limit - n ≡ suc (limit - (n + 1)) = omega arith in
    rw e (sym (append_assoc done (word ∷ []) (take (limit - (n + 1)) left)))

pub words_more : {X : Type 0} (show : X → List ℕ) (done now : List X) (x : X) (n limit : ℕ) (left after all : List (List ℕ))
    → now ≡ done ++ x ∷ [] → left ≡ show x ∷ after → n < limit → map show done ++ take (limit - n) left ≡ take limit all
    → map show now ++ take (limit - (n + 1)) after ≡ take limit all
words_more show done now x n limit left after all pushed first below so_far =
    rw (pushed, map-append) (sym (taken_more (map show done) after (show x) n limit below) ∙ ap (λ (ws : List (List ℕ)). map show done ++ take (limit - n) ws) (sym first) ∙ so_far)

-- where no word is left, those that were taken are all
pub words_end : (front left all : List (List ℕ)) (n : ℕ) → left ≡ [] → front ++ take n left ≡ all → front ≡ all
words_end front left all n none so_far = grind (arith, common_steps)

all_keys_at : {X : Type 0} (show : X → List ℕ) (xs : List X) (i : ℕ) (d : X) → i < length xs → list_all is_key (map show xs) ≡ true
    → is_key (show (get_or xs i d)) ≡ true
all_keys_at show [] i d within all = absurd (omega arith)
all_keys_at show (x ∷ xs) zero d within all = (and_parts (is_key (show x)) (list_all is_key (map show xs)) all).0
all_keys_at show (x ∷ xs) (suc i) d within all = all_keys_at show xs i d (omega arith) (and_parts (is_key (show x)) (list_all is_key (map show xs)) all).1

-- each word of a path is a key
pub key_at : {X : Type 0} (show : X → List ℕ) (xs : List X) (i : ℕ) (d : X) → i < length xs → are_keys (map show xs) ≡ true
    → is_key (show (get_or xs i d)) ≡ true
key_at show xs i d within keys =
    all_keys_at show xs i d within
    (and_parts (nat_lt 0 (length (map show xs)) && nat_le (length (map show xs)) 64) (list_all is_key (map show xs)) keys).1

-- words that are no more than a path's are a path where each is a key
pub are_keys-few : (words : List (List ℕ)) → 0 < length words → length words ≤ 64 → are_keys words ≡ list_all is_key words
are_keys-few words some few = grind (arith, nat_tests)

-- the number of one more key
pub numbers_more : {X : Type 0} (number : List ℕ → ℕ) (show : X → List ℕ) (xs : List X) (i : ℕ) (d : X) → i < length xs
    → map number (map show (take (i + 1) xs)) ≡ map number (map show (take i xs)) ++ number (show (get_or xs i d)) ∷ []
numbers_more number show xs i d within = rw (take_more xs i d within) (simp map-append)

too_many : (words : List (List ℕ)) → 64 < length words → are_keys words ≡ false
too_many words many = grind (arith, nat_tests)

no_path : (trimmed : Bool) (xs ys : List (List ℕ)) → (if trimmed && false then Some xs else None) ≡ (if trimmed && false then Some ys else None)
no_path true xs ys = refl
no_path false xs ys = refl

-- one word more than a path has decides as all words do
pub path_words-first : (text : List ℕ) (first : List (List ℕ)) → first ≡ take 65 (words_in text)
    → (if is_trimmed text && are_keys first then Some first else None) ≡ path_words text
path_words-first text first taken = ⊎_elim
    (λ few. let all : first ≡ words_in text = taken ∙ take_all 65 (words_in text) (omega arith) in rw all)
    (λ many. rw (too_many first (omega (arith, ap length taken, length-take 65 (words_in text))), too_many (words_in text) many) (no_path (is_trimmed text) first (words_in text)))
    (cases_lt (length (words_in text)) 65)

pub path_words-by : (text : List ℕ) (first : List (List ℕ)) (b : Bool) → first ≡ take 65 (words_in text) → b ≡ (is_trimmed text && are_keys first)
    → (if b then Some first else None) ≡ path_words text
path_words-by text first b taken is = rw is (path_words-first text first taken)
