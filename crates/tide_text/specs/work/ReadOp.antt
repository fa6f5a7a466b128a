-- The operation that a text is.
use Rattle.std.specs.Prelude.{ℕ, ◌==◌, if◌then◌else◌, List, [], ◌∷◌, Option, Some, None, option_and_then, option_map, position, codes}
use Rattle.std.specs.Str.{bytes_eq}
use Rattle.tide_model.specs.declared.op.Op.{Op}
use Rattle.tide_model.specs.declared.op.Op.TheVariants.{Alloc, Table, Get, Put, Move, Set, Drop, Claim, Release, Unclaim, Add, GetProp, SetProp, StrongSet, StrongGet, WeakSet, WeakGet, PairSet, PairGet, PairDel, Group, Collect}
use Rattle.tide_text.specs.work.OpArguments.{OpArguments}
use Rattle.tide_text.specs.work.Words.{is_trimmed, words_in, one_word, two_words, three_words, number_of, number_below}

infixl 10 ◌>>=◌
-- a step that may give nothing, and then another on what it gave
abbrev pub ◌>>=◌ : {A B : Type 0} → Option A → (A → Option B) → Option B
o >>= f = option_and_then f o

-- the register that a word names: an `r` and a number below the number of registers
abbrev pub register_of : OpArguments → List ℕ → Option ℕ
register_of limits [] = None
register_of limits (first ∷ digits) = if first == 114 then number_below limits.registers digits else None

-- the property key that a word names
abbrev pub key_of : OpArguments → List ℕ → Option ℕ
key_of limits word = position (λ name. bytes_eq name word) limits.keys

-- what the one argument names
abbrev pub one : {A : Type 0} → (List ℕ → Option A) → List (List ℕ) → Option A
one first arguments = one_word arguments >>= first

-- what the two arguments name
abbrev pub two : {A B : Type 0} → (List ℕ → Option A) → (List ℕ → Option B) → List (List ℕ) → Option (A × B)
two first second arguments = do
  words ← two_words arguments
  a ← first words.0
  b ← second words.1
  Some (a, b)

-- what the three arguments name
abbrev pub three : {A B C : Type 0} → (List ℕ → Option A) → (List ℕ → Option B) → (List ℕ → Option C) → List (List ℕ) → Option (A × B × C)
three first second third arguments = do
  words ← three_words arguments
  a ← first words.0
  b ← second words.1
  c ← third words.2
  Some (a, b, c)

-- an operation, where there are no arguments
abbrev pub alone : Op → List (List ℕ) → Option Op
alone op [] = Some op
alone op _ = None

-- the operation on tables or groups of this name
unfoldable pub pair_op_named : OpArguments → List ℕ → List (List ℕ) → Option Op
pair_op_named limits name arguments =
    if bytes_eq name (codes "table") then option_map Table (one (register_of limits) arguments)
    else if bytes_eq name (codes "pair") then option_map (λ o. PairSet o.0 o.1 o.2) (three (register_of limits) (register_of limits) (register_of limits) arguments)
    else if bytes_eq name (codes "pget") then option_map (λ o. PairGet o.0 o.1 o.2) (three (register_of limits) (register_of limits) (register_of limits) arguments)
    else if bytes_eq name (codes "pdel") then option_map (λ o. PairDel o.0 o.1) (two (register_of limits) (register_of limits) arguments)
    else if bytes_eq name (codes "group") then option_map (λ o. Group o.0 o.1) (two (register_of limits) number_of arguments)
    else None

-- the operation on handles of this name, or one on tables or groups
unfoldable pub handle_op_named : OpArguments → List ℕ → List (List ℕ) → Option Op
handle_op_named limits name arguments =
    if bytes_eq name (codes "strong") then option_map (λ o. StrongSet o.0 o.1) (two (number_below limits.strong) (register_of limits) arguments)
    else if bytes_eq name (codes "sget") then option_map (λ o. StrongGet o.0 o.1) (two (register_of limits) (number_below limits.strong) arguments)
    else if bytes_eq name (codes "weak") then option_map (λ o. WeakSet o.0 o.1) (two (number_below limits.weak) (register_of limits) arguments)
    else if bytes_eq name (codes "wget") then option_map (λ o. WeakGet o.0 o.1) (two (register_of limits) (number_below limits.weak) arguments)
    else pair_op_named limits name arguments

-- the operation on claims or properties of this name, or one on handles, tables or groups
unfoldable pub property_op_named : OpArguments → List ℕ → List (List ℕ) → Option Op
property_op_named limits name arguments =
    if bytes_eq name (codes "claim") then option_map Claim (one (register_of limits) arguments)
    else if bytes_eq name (codes "release") then option_map Release (one (register_of limits) arguments)
    else if bytes_eq name (codes "unclaim") then alone Unclaim arguments
    else if bytes_eq name (codes "add") then option_map (λ o. Add o.0 o.1 o.2) (three (register_of limits) (key_of limits) (register_of limits) arguments)
    else if bytes_eq name (codes "getp") then option_map (λ o. GetProp o.0 o.1 o.2) (three (register_of limits) (register_of limits) (key_of limits) arguments)
    else if bytes_eq name (codes "setp") then option_map (λ o. SetProp o.0 o.1 o.2) (three (register_of limits) (key_of limits) (register_of limits) arguments)
    else handle_op_named limits name arguments

-- the operation of this name with these arguments: classes are below 4 and slots below 16
unfoldable pub op_named : OpArguments → List ℕ → List (List ℕ) → Option Op
op_named limits name arguments =
    if bytes_eq name (codes "alloc") then option_map (λ o. Alloc o.0 o.1) (two (register_of limits) (number_below 4) arguments)
    else if bytes_eq name (codes "get") then option_map (λ o. Get o.0 o.1 o.2) (three (register_of limits) (register_of limits) (number_below 16) arguments)
    else if bytes_eq name (codes "put") then option_map (λ o. Put o.0 o.1 o.2) (three (register_of limits) (number_below 16) (register_of limits) arguments)
    else if bytes_eq name (codes "move") then option_map (λ o. Move o.0 o.1) (two (register_of limits) (register_of limits) arguments)
    else if bytes_eq name (codes "set") then option_map (λ o. Set o.0 o.1) (two (register_of limits) number_of arguments)
    else if bytes_eq name (codes "drop") then option_map Drop (one (register_of limits) arguments)
    else if bytes_eq name (codes "collect") then alone Collect arguments
    else property_op_named limits name arguments

-- the operation of these words, of which the first is its name
abbrev pub op_of_words : OpArguments → List (List ℕ) → Option Op
op_of_words limits [] = None
op_of_words limits (name ∷ arguments) = op_named limits name arguments

-- the operation that a text is: words parted by spaces, with none before or after
abbrev pub op_of : OpArguments → List ℕ → Option Op
op_of limits text = if is_trimmed text then op_of_words limits (words_in text) else None
