-- The text of each operation is its name with its arguments behind it, and each of them reads as what it was made of.
use Rattle.std.proofs.Common.{◌≡◌, ℕ, ◌<◌, ◌≤◌, ◌^◌, true, ◌&&◌, nat_lt, List, [], ◌∷◌, ◌++◌, length, refl, ◌∙◌, ap, arith, Option, Some}
use Rattle.std.proofs.lemmas.Bool.{and_parts, ltb-true}
use Rattle.std.proofs.lemmas.List.Elements.{All-nil, All-cons}
use Rattle.std.specs.List.{list_all}
use Rattle.std.specs.Prelude.{All, codes, decimal, option_map, slice_index_or}
use Rattle.tide_model.specs.declared.op.Op.{Op}
use Rattle.tide_model.specs.declared.op.Op.TheVariants.{Alloc, Table, Get, Put, Move, Set, Drop, Claim, Release, Unclaim, Add, GetProp, SetProp, StrongSet, StrongGet, WeakSet, WeakGet, PairSet, PairGet, PairDel, Group, Collect, Retire}
use Rattle.tide_text.specs.declared.work.settings.Settings.{Settings}
use Rattle.tide_text.specs.work.OpArguments.{OpArguments, limits_with}
use Rattle.tide_text.specs.work.ReadOp.{register_of, key_of, one, two, three, op_named, property_op_named, handle_op_named, pair_op_named, op_of}
use Rattle.tide_text.specs.work.Words.{is_trimmed, is_word_byte, words_in, number_of, number_below}
use Rattle.tide_text.specs.work.Work.{AreKeys, AreSettings, IsOperation}
use Rattle.tide_text.proofs.work_laws.KeyLemmas.{key-word, position_of_name}
use Rattle.tide_text.proofs.work_laws.NumeralLemmas.{decimal-word, number_of-decimal, number_below-decimal}
use Rattle.tide_text.proofs.work_laws.SpacedLemmas.{IsWord, spaced, spaced-trimmed, words_in-spaced, words_in-word, word-trimmed}
use Rattle.tide_text.specs.lines.OpText.{op_text}
use Rattle.tide_text.specs.ReadBack.{AreReadBack, IsReadBack}

-- a text that is a name with arguments behind it reads as what they name
by_words : (limits : OpArguments) (op : Op) (name : List ℕ) (arguments : List (List ℕ)) → IsWord name → All IsWord arguments
    → op_named limits name arguments ≡ Some op → op_of limits (spaced name arguments) ≡ Some op
by_words limits op name arguments is all named =
    let trimmed : is_trimmed (spaced name arguments) ≡ true = (spaced-trimmed arguments name (word-trimmed name is) all).trimmed in
    let words : words_in (spaced name arguments) ≡ name ∷ arguments =
    words_in-spaced arguments name all ∙ ap (λ first. first ++ arguments) (words_in-word name is) in
    rw (trimmed, words) named

-- an argument: a word that names something
record Reads {A : Type 0} (named : List ℕ → Option A) (text : List ℕ) (a : A) : Type 0 where
  pub word : IsWord text
  pub names : named text ≡ Some a

-- what makes a name of an operation a word
abbrev IsName : List ℕ → Type 0
IsName name = (nat_lt 0 (length name) && list_all is_word_byte name) ≡ true

name-word : (name : List ℕ) → IsName name → IsWord name
name-word name is =
    let (some, spaceless) = and_parts (nat_lt 0 (length name)) (list_all is_word_byte name) is in
    record { some = ltb-true 0 (length name) some; spaceless = spaceless }

-- a text of a name and no argument, or of one, two or three that are read
by_none : (limits : OpArguments) (name : List ℕ) (op : Op) → IsName name → op_named limits name [] ≡ Some op → op_of limits name ≡ Some op
by_none limits name op is named = by_words limits op name [] (name-word name is) (All-nil IsWord) named

by_one : (limits : OpArguments) (name : List ℕ) {A : Type 0} (first : List ℕ → Option A) (make : A → Op) {u : List ℕ} {a : A} → IsName name
    → Reads first u a → op_named limits name (u ∷ []) ≡ option_map make (one first (u ∷ [])) → op_of limits (spaced name (u ∷ [])) ≡ Some (make a)
by_one limits name first make {u} {a} is one named =
    by_words limits (make a) name (u ∷ []) (name-word name is) (All-cons IsWord u [] one.word (All-nil IsWord)) (named ∙ rw one.names refl)

by_two : (limits : OpArguments) (name : List ℕ) {A B : Type 0} (first : List ℕ → Option A) (second : List ℕ → Option B) (make : A × B → Op)
    {u v : List ℕ} {a : A} {b : B} → IsName name → Reads first u a → Reads second v b
    → op_named limits name (u ∷ v ∷ []) ≡ option_map make (two first second (u ∷ v ∷ [])) → op_of limits (spaced name (u ∷ v ∷ [])) ≡ Some (make (a, b))
by_two limits name first second make {u} {v} {a} {b} is one other named =
    by_words limits (make (a, b)) name (u ∷ v ∷ []) (name-word name is) (All-cons IsWord u (v ∷ []) one.word (All-cons IsWord v [] other.word (All-nil IsWord)))
    (named ∙ rw (one.names, other.names) refl)

by_three : (limits : OpArguments) (name : List ℕ) {A B C : Type 0} (first : List ℕ → Option A) (second : List ℕ → Option B) (third : List ℕ → Option C)
    (make : A × B × C → Op) {u v w : List ℕ} {a : A} {b : B} {c : C} → IsName name → Reads first u a → Reads second v b → Reads third w c
    → op_named limits name (u ∷ v ∷ w ∷ []) ≡ option_map make (three first second third (u ∷ v ∷ w ∷ []))
    → op_of limits (spaced name (u ∷ v ∷ w ∷ [])) ≡ Some (make (a, b, c))
by_three limits name first second third make {u} {v} {w} {a} {b} {c} is one other last named =
    by_words limits (make (a, b, c)) name (u ∷ v ∷ w ∷ []) (name-word name is)
    (All-cons IsWord u (v ∷ w ∷ []) one.word (All-cons IsWord v (w ∷ []) other.word (All-cons IsWord w [] last.word (All-nil IsWord))))
    (named ∙ rw (one.names, other.names, last.names) refl)

-- a number that fits 32 bits
number : (n : ℕ) → n < 2 ^ 32 → Reads number_of (decimal n) n
number n small = record { word = decimal-word n small; names = number_of-decimal n small }

-- a number below a limit that fits 32 bits
below : (limit n : ℕ) → limit ≤ 2 ^ 32 → n < limit → Reads (number_below limit) (decimal n) n
below limit n fits within =
    let small : n < 2 ^ 32 = omega arith in
    record { word = decimal-word n small; names = number_below-decimal limit n within small }

-- limits with numbers that fit 32 bits, and keys
record AreNumbered (limits : OpArguments) : Type 0 where
  pub registers : limits.registers ≤ 2 ^ 32
  pub strong : limits.strong ≤ 2 ^ 32
  pub weak : limits.weak ≤ 2 ^ 32
  pub keys : AreKeys limits.keys

module _ (limits : OpArguments) (are : AreNumbered limits) where
  register : (r : ℕ) → r < limits.registers → Reads (register_of limits) (114 ∷ decimal r) r
  register r within =
      let digits = below limits.registers r are.registers within in
      record { word = record { some = omega arith; spaceless = digits.word.spaceless }; names = digits.names }

  key : (k : ℕ) → k < length limits.keys → Reads (key_of limits) (slice_index_or limits.keys k []) k
  key k within = record {
    word = key-word (slice_index_or limits.keys k []) (are.keys.each k [] within);
    names = position_of_name limits.keys k are.keys within;
  }

  strong : (at : ℕ) → at < limits.strong → Reads (number_below limits.strong) (decimal at) at
  strong at within = below limits.strong at are.strong within

  weak : (at : ℕ) → at < limits.weak → Reads (number_below limits.weak) (decimal at) at
  weak at within = below limits.weak at are.weak within

  class : (c : ℕ) → c < 4 → Reads (number_below 4) (decimal c) c
  class c within = below 4 c (omega arith) within

  slot : (s : ℕ) → s < 16 → Reads (number_below 16) (decimal s) s
  slot s within = below 16 s (omega arith) within

  abbrev register_in : List ℕ → Option ℕ
  register_in = register_of limits

  read_back : (op : Op) → IsOperation limits op → IsReadBack limits op
  unfolding op_text op_named property_op_named handle_op_named pair_op_named
  read_back (Alloc dst c) is = by_two limits (codes "alloc") register_in (number_below 4) (λ o. Alloc o.0 o.1) refl (register dst is.0) (class c is.1) refl
  read_back (Table dst) is = by_one limits (codes "table") register_in Table refl (register dst is) refl
  read_back (Get dst src s) is = by_three limits (codes "get") register_in register_in (number_below 16) (λ o. Get o.0 o.1 o.2) refl (register dst is.0) (register src is.1) (slot s is.2) refl
  read_back (Put src s val) is = by_three limits (codes "put") register_in (number_below 16) register_in (λ o. Put o.0 o.1 o.2) refl (register src is.0) (slot s is.1) (register val is.2) refl
  read_back (Move dst src) is = by_two limits (codes "move") register_in register_in (λ o. Move o.0 o.1) refl (register dst is.0) (register src is.1) refl
  read_back (Set dst n) is = by_two limits (codes "set") register_in number_of (λ o. Set o.0 o.1) refl (register dst is.0) (number n is.1) refl
  read_back (Drop dst) is = by_one limits (codes "drop") register_in Drop refl (register dst is) refl
  read_back (Claim src) is = by_one limits (codes "claim") register_in Claim refl (register src is) refl
  read_back (Release src) is = by_one limits (codes "release") register_in Release refl (register src is) refl
  read_back Unclaim is = by_none limits (codes "unclaim") Unclaim refl refl
  read_back (Add src k val) is = by_three limits (codes "add") register_in (key_of limits) register_in (λ o. Add o.0 o.1 o.2) refl (register src is.0) (key k is.1) (register val is.2) refl
  read_back (GetProp dst src k) is = by_three limits (codes "getp") register_in register_in (key_of limits) (λ o. GetProp o.0 o.1 o.2) refl (register dst is.0) (register src is.1) (key k is.2) refl
  read_back (SetProp src k val) is = by_three limits (codes "setp") register_in (key_of limits) register_in (λ o. SetProp o.0 o.1 o.2) refl (register src is.0) (key k is.1) (register val is.2) refl
  read_back (StrongSet at val) is = by_two limits (codes "strong") (number_below limits.strong) register_in (λ o. StrongSet o.0 o.1) refl (strong at is.0) (register val is.1) refl
  read_back (StrongGet dst at) is = by_two limits (codes "sget") register_in (number_below limits.strong) (λ o. StrongGet o.0 o.1) refl (register dst is.0) (strong at is.1) refl
  read_back (WeakSet at val) is = by_two limits (codes "weak") (number_below limits.weak) register_in (λ o. WeakSet o.0 o.1) refl (weak at is.0) (register val is.1) refl
  read_back (WeakGet dst at) is = by_two limits (codes "wget") register_in (number_below limits.weak) (λ o. WeakGet o.0 o.1) refl (register dst is.0) (weak at is.1) refl
  read_back (PairSet src k val) is = by_three limits (codes "pair") register_in register_in register_in (λ o. PairSet o.0 o.1 o.2) refl (register src is.0) (register k is.1) (register val is.2) refl
  read_back (PairGet dst src k) is = by_three limits (codes "pget") register_in register_in register_in (λ o. PairGet o.0 o.1 o.2) refl (register dst is.0) (register src is.1) (register k is.2) refl
  read_back (PairDel src k) is = by_two limits (codes "pdel") register_in register_in (λ o. PairDel o.0 o.1) refl (register src is.0) (register k is.1) refl
  read_back (Group src n) is = by_two limits (codes "group") register_in number_of (λ o. Group o.0 o.1) refl (register src is.0) (number n is.1) refl
  read_back Collect is = by_none limits (codes "collect") Collect refl refl
  read_back Retire is = absurd is

-- a workload's settings and keys are such limits
numbered : (settings : Settings) (keys : List (List ℕ)) → AreSettings settings → AreKeys keys → AreNumbered (limits_with settings keys)
numbered settings keys within are = record {
  registers = omega (arith, within.registers.1);
  strong = omega (arith, within.strong);
  weak = omega (arith, within.weak);
  keys = are;
}

pub texts_read_back : AreReadBack
texts_read_back settings keys op within are is = read_back (limits_with settings keys) (numbered settings keys within are) op is
