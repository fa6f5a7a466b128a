-- What the arguments of an operation make, told by its words one after another.
use Rattle.std.proofs.Common.{ℕ, ◌≡◌, ◌∙◌, ap, List, Option, None, Some}
use Rattle.std.specs.Prelude.{option_and_then, option_map}
use Rattle.tide_text.specs.work.ReadOp.{one, two, three}
use Rattle.tide_text.specs.work.Words.{one_word, two_words, three_words}

-- one argument: its word isn't there, or names something or nothing
pub one_none : {A O : Type 0} (make : A → O) (first : List ℕ → Option A) (arguments : List (List ℕ)) → None ≡ one_word arguments →
    None ≡ option_map make (one first arguments)
one_none make first arguments none = ap (λ w. option_map make (option_and_then first w)) none

pub one_made : {A O : Type 0} (make : A → O) (first : List ℕ → Option A) (arguments : List (List ℕ)) (u : List ℕ) (a : Option A) →
    Some u ≡ one_word arguments → a ≡ first u → option_map make a ≡ option_map make (one first arguments)
one_made make first arguments u a words is = ap (option_map make) is ∙ ap (λ w. option_map make (option_and_then first w)) words

-- two arguments
module _ {A B O : Type 0} (make : A × B → O) (first : List ℕ → Option A) (second : List ℕ → Option B) (arguments : List (List ℕ)) where
  pub two_none : None ≡ two_words arguments → None ≡ option_map make (two first second arguments)
  two_none none = ap (λ w. option_map make (option_and_then (λ words. option_and_then (λ a. option_and_then (λ b. Some (a, b)) (second words.1)) (first words.0)) w)) none

  pub two_first : (u v : List ℕ) (a : Option A) → Some (u, v) ≡ two_words arguments → a ≡ first u →
      option_map make (option_and_then (λ a. option_and_then (λ b. Some (a, b)) (second v)) a) ≡ option_map make (two first second arguments)
  two_first u v a words is =
      ap (λ o. option_map make (option_and_then (λ a. option_and_then (λ b. Some (a, b)) (second v)) o)) is
      ∙ ap (λ w. option_map make (option_and_then (λ words. option_and_then (λ a. option_and_then (λ b. Some (a, b)) (second words.1)) (first words.0)) w)) words

  pub two_made : (u v : List ℕ) (a : A) (b : Option B) → Some (u, v) ≡ two_words arguments → Some a ≡ first u → b ≡ second v →
      option_map make (option_and_then (λ b. Some (a, b)) b) ≡ option_map make (two first second arguments)
  two_made u v a b words is_a is_b = ap (λ o. option_map make (option_and_then (λ b. Some (a, b)) o)) is_b ∙ two_first u v (Some a) words is_a

-- three arguments
module _ {A B C O : Type 0} (make : A × B × C → O) (first : List ℕ → Option A) (second : List ℕ → Option B) (third : List ℕ → Option C) (arguments : List (List ℕ)) where
  pub three_none : None ≡ three_words arguments → None ≡ option_map make (three first second third arguments)
  three_none none =
      ap (λ w. option_map make (option_and_then (λ words. option_and_then (λ a. option_and_then (λ b. option_and_then (λ c. Some (a, b, c)) (third words.2)) (second words.1)) (first words.0)) w)) none

  pub three_first : (u v w : List ℕ) (a : Option A) → Some (u, v, w) ≡ three_words arguments → a ≡ first u →
      option_map make (option_and_then (λ a. option_and_then (λ b. option_and_then (λ c. Some (a, b, c)) (third w)) (second v)) a) ≡ option_map make (three first second third arguments)
  three_first u v w a words is =
      ap (λ o. option_map make (option_and_then (λ a. option_and_then (λ b. option_and_then (λ c. Some (a, b, c)) (third w)) (second v)) o)) is
      ∙ ap (λ ws. option_map make (option_and_then (λ words. option_and_then (λ a. option_and_then (λ b. option_and_then (λ c. Some (a, b, c)) (third words.2)) (second words.1)) (first words.0)) ws)) words

  pub three_second : (u v w : List ℕ) (a : A) (b : Option B) → Some (u, v, w) ≡ three_words arguments → Some a ≡ first u → b ≡ second v →
      option_map make (option_and_then (λ b. option_and_then (λ c. Some (a, b, c)) (third w)) b) ≡ option_map make (three first second third arguments)
  three_second u v w a b words is_a is_b =
      ap (λ o. option_map make (option_and_then (λ b. option_and_then (λ c. Some (a, b, c)) (third w)) o)) is_b ∙ three_first u v w (Some a) words is_a

  pub three_made : (u v w : List ℕ) (a : A) (b : B) (c : Option C) → Some (u, v, w) ≡ three_words arguments → Some a ≡ first u → Some b ≡ second v → c ≡ third w →
      option_map make (option_and_then (λ c. Some (a, b, c)) c) ≡ option_map make (three first second third arguments)
  three_made u v w a b c words is_a is_b is_c =
      ap (λ o. option_map make (option_and_then (λ c. Some (a, b, c)) o)) is_c ∙ three_second u v w a (Some b) words is_a is_b
