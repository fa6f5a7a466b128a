-- An operation that a text is has numbers in its limits.
use Rattle.std.proofs.Common.{◌≡◌, ℕ, ◌<◌, ◌^◌, arith, length, ap, refl, subst, ◌∙◌, Bool, true, false, ◌&&◌, List, [], ◌∷◌, Option, Some, None}
use Rattle.std.specs.Prelude.{◌==◌, nat_lt, if◌then◌else◌, option_and_then, option_map, codes}
use Rattle.std.specs.Str.{bytes_eq}
use Rattle.std.specs.Str.Parse.{digits_value}
use Rattle.std.proofs.lemmas.Bool.{ltb-true}
use Rattle.std.proofs.lemmas.Bool.Decides.{nat_tests}
use Rattle.tide_model.specs.declared.op.Op.{Op}
use Rattle.tide_model.specs.declared.op.Op.TheVariants.{Alloc, Table, Get, Put, Move, Set, Drop, Claim, Release, Unclaim, Add, GetProp, SetProp, StrongSet, StrongGet, WeakSet, WeakGet, PairSet, PairGet, PairDel, Group, Collect}
use Rattle.tide_text.specs.work.OpArguments.{OpArguments}
use Rattle.tide_text.specs.work.ReadOp.{register_of, key_of, one, two, three, alone, pair_op_named, handle_op_named, property_op_named, op_named, op_of_words, op_of}
use Rattle.tide_text.specs.work.Words.{is_numeral, number_of, number_below, one_word, two_words, three_words, words_in, is_trimmed}
use Rattle.tide_text.specs.work.Work.{IsOperation}

-- what a step on an option gave came from something
option_step : {A B : Type 0} (o : Option A) (f : A → Option B) (b : B) → option_and_then f o ≡ Some b → (a : A) × (o ≡ Some a) × (f a ≡ Some b)
option_step None f b h = absurd (cc)
option_step (Some a) f b h = (a, refl, h)

-- a number that was read below a limit is below it
below_limit : (limit : ℕ) (word : List ℕ) (n : ℕ) → number_below limit word ≡ Some n → n < limit
below_limit limit word n h =
    let (number, read, given) = option_step (number_of word) (λ m. if nat_lt m limit then Some m else None) n h in
    step (nat_lt number limit) number refl given
  where
    step : (b : Bool) (m : ℕ) → nat_lt m limit ≡ b → (if b then Some m else None) ≡ Some n → n < limit
    step true m is given = let e : m ≡ n = cc in subst (λ (k : ℕ). k < limit) e (ltb-true m limit is)
    step false m is given = absurd (cc)

register_below : (limits : OpArguments) (word : List ℕ) (r : ℕ) → register_of limits word ≡ Some r → r < limits.registers
register_below limits [] r h = absurd (cc)
register_below limits (first ∷ digits) r h = step (first == 114) h
  where
    step : (b : Bool) → (if b then number_below limits.registers digits else None) ≡ Some r → r < limits.registers
    step true given = below_limit limits.registers digits r given
    step false given = absurd (cc)

key_below : (limits : OpArguments) (word : List ℕ) (key : ℕ) → key_of limits word ≡ Some key → key < length limits.keys
key_below limits word key h = grind (arith, nat_tests)

map_step : {A : Type 0} (o : Option A) (make : A → Op) (op : Op) → option_map make o ≡ Some op → (a : A) × (o ≡ Some a) × (make a ≡ op)
map_step None make op h = absurd (cc)
map_step (Some a) make op h = let same : make a ≡ op = cc in (a, refl, same)

-- what a word names is so
abbrev Names : {A : Type 0} → (List ℕ → Option A) → (A → Type 0) → Type 0
Names {A} named IsSo = (word : List ℕ) (a : A) → named word ≡ Some a → IsSo a

-- a number that was read fits 32 bits
number_fits : Names number_of (λ n. n < 2 ^ 32)
number_fits word n h = step (is_numeral word) (nat_lt (digits_value 10 word) (2 ^ 32)) refl h
  where
    step : (numeral small : Bool) → nat_lt (digits_value 10 word) (2 ^ 32) ≡ small → (if numeral && small then Some (digits_value 10 word) else None) ≡ Some n → n < 2 ^ 32
    step true true is given = let e : digits_value 10 word ≡ n = cc in subst (λ (k : ℕ). k < 2 ^ 32) e (ltb-true (digits_value 10 word) (2 ^ 32) is)
    step true false is given = absurd (cc)
    step false small is given = absurd (cc)

-- an operation of one, two or three arguments is as what they name makes it
one_within : {A : Type 0} (Is : Op → Type 0) (P : A → Type 0) (first : List ℕ → Option A) → Names first P
    → (make : A → Op) → ((a : A) → P a → Is (make a)) → (arguments : List (List ℕ)) (op : Op) → option_map make (one first arguments) ≡ Some op → Is op
one_within Is P first p make made arguments op h =
    let (a, e, same) = map_step (one first arguments) make op h in
    let (word, e1, h1) = option_step (one_word arguments) first a e in
    subst Is same (made a (p word a h1))

two_within : {A B : Type 0} (Is : Op → Type 0) (P : A → Type 0) (Q : B → Type 0) (first : List ℕ → Option A) (second : List ℕ → Option B)
    → Names first P → Names second Q → (make : A × B → Op) → ((a : A) (b : B) → P a → Q b → Is (make (a, b)))
    → (arguments : List (List ℕ)) (op : Op) → option_map make (two first second arguments) ≡ Some op → Is op
two_within Is P Q first second p q make made arguments op h =
    let (both, e, same) = map_step (two first second arguments) make op h in
    let (words, e1, h1) = option_step (two_words arguments) (λ words. option_and_then (λ a. option_and_then (λ b. Some (a, b)) (second words.1)) (first words.0)) both e in
    let (a, e2, h2) = option_step (first words.0) (λ a. option_and_then (λ b. Some (a, b)) (second words.1)) both h1 in
    let (b, e3, h3) = option_step (second words.1) (λ b. Some (a, b)) both h2 in
    let these : (a, b) ≡ both = cc in
    subst Is (ap make these ∙ same) (made a b (p words.0 a e2) (q words.1 b e3))

three_within : {A B C : Type 0} (Is : Op → Type 0) (P : A → Type 0) (Q : B → Type 0) (R : C → Type 0)
    (first : List ℕ → Option A) (second : List ℕ → Option B) (third : List ℕ → Option C) → Names first P → Names second Q → Names third R
    → (make : A × B × C → Op) → ((a : A) (b : B) (c : C) → P a → Q b → R c → Is (make (a, b, c)))
    → (arguments : List (List ℕ)) (op : Op) → option_map make (three first second third arguments) ≡ Some op → Is op
three_within Is P Q R first second third p q r make made arguments op h =
    let (all, e, same) = map_step (three first second third arguments) make op h in
    let (words, e1, h1) = option_step (three_words arguments) (λ words. option_and_then (λ a. option_and_then (λ b. option_and_then (λ c. Some (a, b, c)) (third words.2)) (second words.1)) (first words.0)) all e in
    let (a, e2, h2) = option_step (first words.0) (λ a. option_and_then (λ b. option_and_then (λ c. Some (a, b, c)) (third words.2)) (second words.1)) all h1 in
    let (b, e3, h3) = option_step (second words.1) (λ b. option_and_then (λ c. Some (a, b, c)) (third words.2)) all h2 in
    let (c, e4, h4) = option_step (third words.2) (λ c. Some (a, b, c)) all h3 in
    let these : (a, b, c) ≡ all = cc in
    subst Is (ap make these ∙ same) (made a b c (p words.0 a e2) (q words.1 b e3) (r words.2 c e4))

alone_within : (Is : Op → Type 0) (lone : Op) → Is lone → (arguments : List (List ℕ)) (op : Op) → alone lone arguments ≡ Some op → Is op
alone_within Is lone is [] op h = let e : lone ≡ op = cc in subst Is e is
alone_within Is lone is (word ∷ words) op h = absurd (cc)

none_within : (Is : Op → Type 0) (op : Op) → None ≡ Some op → Is op
none_within Is op h = absurd (cc)

module _ (limits : OpArguments) where
  abbrev Is : Op → Type 0
  Is op = IsOperation limits op

  abbrev IsRegister : ℕ → Type 0
  IsRegister r = r < limits.registers

  abbrev IsKey : ℕ → Type 0
  IsKey key = key < length limits.keys

  abbrev IsBelow : ℕ → ℕ → Type 0
  IsBelow most n = n < most

  abbrev Fits : ℕ → Type 0
  Fits n = n < 2 ^ 32

  abbrev register : List ℕ → Option ℕ
  register word = register_of limits word

  pair_within : (name : List ℕ) (arguments : List (List ℕ)) (op : Op) → pair_op_named limits name arguments ≡ Some op → Is op
  unfolding pair_op_named
  pair_within name arguments op h =
      step (bytes_eq name (codes "table")) (bytes_eq name (codes "pair")) (bytes_eq name (codes "pget")) (bytes_eq name (codes "pdel")) (bytes_eq name (codes "group")) h
    where
      step : (table_is pair_is pget_is pdel_is group_is : Bool) →
          (if table_is then option_map Table (one (register_of limits) arguments)
          else if pair_is then option_map (λ o. PairSet o.0 o.1 o.2) (three (register_of limits) (register_of limits) (register_of limits) arguments)
          else if pget_is then option_map (λ o. PairGet o.0 o.1 o.2) (three (register_of limits) (register_of limits) (register_of limits) arguments)
          else if pdel_is then option_map (λ o. PairDel o.0 o.1) (two (register_of limits) (register_of limits) arguments)
          else if group_is then option_map (λ o. Group o.0 o.1) (two (register_of limits) number_of arguments)
          else None) ≡ Some op → Is op
      step true pair_is pget_is pdel_is group_is h = one_within Is IsRegister register (register_below limits) Table (λ r is. is) arguments op h
      step false true pget_is pdel_is group_is h = three_within Is IsRegister IsRegister IsRegister register register register (register_below limits) (register_below limits) (register_below limits) (λ o. PairSet o.0 o.1 o.2) (λ a b c p q r. (p, q, r)) arguments op h
      step false false true pdel_is group_is h = three_within Is IsRegister IsRegister IsRegister register register register (register_below limits) (register_below limits) (register_below limits) (λ o. PairGet o.0 o.1 o.2) (λ a b c p q r. (p, q, r)) arguments op h
      step false false false true group_is h = two_within Is IsRegister IsRegister register register (register_below limits) (register_below limits) (λ o. PairDel o.0 o.1) (λ a b p q. (p, q)) arguments op h
      step false false false false true h = two_within Is IsRegister Fits register number_of (register_below limits) number_fits (λ o. Group o.0 o.1) (λ a b p q. (p, q)) arguments op h
      step false false false false false h = none_within Is op h

  handle_within : (name : List ℕ) (arguments : List (List ℕ)) (op : Op) → handle_op_named limits name arguments ≡ Some op → Is op
  unfolding handle_op_named
  handle_within name arguments op h =
      step (bytes_eq name (codes "strong")) (bytes_eq name (codes "sget")) (bytes_eq name (codes "weak")) (bytes_eq name (codes "wget")) h
    where
      step : (strong_is sget_is weak_is wget_is : Bool) →
          (if strong_is then option_map (λ o. StrongSet o.0 o.1) (two (number_below limits.strong) (register_of limits) arguments)
          else if sget_is then option_map (λ o. StrongGet o.0 o.1) (two (register_of limits) (number_below limits.strong) arguments)
          else if weak_is then option_map (λ o. WeakSet o.0 o.1) (two (number_below limits.weak) (register_of limits) arguments)
          else if wget_is then option_map (λ o. WeakGet o.0 o.1) (two (register_of limits) (number_below limits.weak) arguments)
          else pair_op_named limits name arguments) ≡ Some op → Is op
      step true sget_is weak_is wget_is h = two_within Is (IsBelow limits.strong) IsRegister (number_below limits.strong) register (below_limit limits.strong) (register_below limits) (λ o. StrongSet o.0 o.1) (λ a b p q. (p, q)) arguments op h
      step false true weak_is wget_is h = two_within Is IsRegister (IsBelow limits.strong) register (number_below limits.strong) (register_below limits) (below_limit limits.strong) (λ o. StrongGet o.0 o.1) (λ a b p q. (p, q)) arguments op h
      step false false true wget_is h = two_within Is (IsBelow limits.weak) IsRegister (number_below limits.weak) register (below_limit limits.weak) (register_below limits) (λ o. WeakSet o.0 o.1) (λ a b p q. (p, q)) arguments op h
      step false false false true h = two_within Is IsRegister (IsBelow limits.weak) register (number_below limits.weak) (register_below limits) (below_limit limits.weak) (λ o. WeakGet o.0 o.1) (λ a b p q. (p, q)) arguments op h
      step false false false false h = pair_within name arguments op h

  property_within : (name : List ℕ) (arguments : List (List ℕ)) (op : Op) → property_op_named limits name arguments ≡ Some op → Is op
  unfolding property_op_named
  property_within name arguments op h =
      step (bytes_eq name (codes "claim")) (bytes_eq name (codes "release")) (bytes_eq name (codes "unclaim")) (bytes_eq name (codes "add")) (bytes_eq name (codes "getp")) (bytes_eq name (codes "setp")) h
    where
      step : (claim_is release_is unclaim_is add_is getp_is setp_is : Bool) →
          (if claim_is then option_map Claim (one (register_of limits) arguments)
          else if release_is then option_map Release (one (register_of limits) arguments)
          else if unclaim_is then alone Unclaim arguments
          else if add_is then option_map (λ o. Add o.0 o.1 o.2) (three (register_of limits) (key_of limits) (register_of limits) arguments)
          else if getp_is then option_map (λ o. GetProp o.0 o.1 o.2) (three (register_of limits) (register_of limits) (key_of limits) arguments)
          else if setp_is then option_map (λ o. SetProp o.0 o.1 o.2) (three (register_of limits) (key_of limits) (register_of limits) arguments)
          else handle_op_named limits name arguments) ≡ Some op → Is op
      step true release_is unclaim_is add_is getp_is setp_is h = one_within Is IsRegister register (register_below limits) Claim (λ r is. is) arguments op h
      step false true unclaim_is add_is getp_is setp_is h = one_within Is IsRegister register (register_below limits) Release (λ r is. is) arguments op h
      step false false true add_is getp_is setp_is h = alone_within Is Unclaim tt arguments op h
      step false false false true getp_is setp_is h = three_within Is IsRegister IsKey IsRegister register (key_of limits) register (register_below limits) (key_below limits) (register_below limits) (λ o. Add o.0 o.1 o.2) (λ a b c p q r. (p, q, r)) arguments op h
      step false false false false true setp_is h = three_within Is IsRegister IsRegister IsKey register register (key_of limits) (register_below limits) (register_below limits) (key_below limits) (λ o. GetProp o.0 o.1 o.2) (λ a b c p q r. (p, q, r)) arguments op h
      step false false false false false true h = three_within Is IsRegister IsKey IsRegister register (key_of limits) register (register_below limits) (key_below limits) (register_below limits) (λ o. SetProp o.0 o.1 o.2) (λ a b c p q r. (p, q, r)) arguments op h
      step false false false false false false h = handle_within name arguments op h

  named_within : (name : List ℕ) (arguments : List (List ℕ)) (op : Op) → op_named limits name arguments ≡ Some op → Is op
  unfolding op_named
  named_within name arguments op h =
      step (bytes_eq name (codes "alloc")) (bytes_eq name (codes "get")) (bytes_eq name (codes "put")) (bytes_eq name (codes "move")) (bytes_eq name (codes "set")) (bytes_eq name (codes "drop")) (bytes_eq name (codes "collect")) h
    where
      step : (alloc_is get_is put_is move_is set_is drop_is collect_is : Bool) →
          (if alloc_is then option_map (λ o. Alloc o.0 o.1) (two (register_of limits) (number_below 4) arguments)
          else if get_is then option_map (λ o. Get o.0 o.1 o.2) (three (register_of limits) (register_of limits) (number_below 16) arguments)
          else if put_is then option_map (λ o. Put o.0 o.1 o.2) (three (register_of limits) (number_below 16) (register_of limits) arguments)
          else if move_is then option_map (λ o. Move o.0 o.1) (two (register_of limits) (register_of limits) arguments)
          else if set_is then option_map (λ o. Set o.0 o.1) (two (register_of limits) number_of arguments)
          else if drop_is then option_map Drop (one (register_of limits) arguments)
          else if collect_is then alone Collect arguments
          else property_op_named limits name arguments) ≡ Some op → Is op
      step true get_is put_is move_is set_is drop_is collect_is h = two_within Is IsRegister (IsBelow 4) register (number_below 4) (register_below limits) (below_limit 4) (λ o. Alloc o.0 o.1) (λ a b p q. (p, q)) arguments op h
      step false true put_is move_is set_is drop_is collect_is h = three_within Is IsRegister IsRegister (IsBelow 16) register register (number_below 16) (register_below limits) (register_below limits) (below_limit 16) (λ o. Get o.0 o.1 o.2) (λ a b c p q r. (p, q, r)) arguments op h
      step false false true move_is set_is drop_is collect_is h = three_within Is IsRegister (IsBelow 16) IsRegister register (number_below 16) register (register_below limits) (below_limit 16) (register_below limits) (λ o. Put o.0 o.1 o.2) (λ a b c p q r. (p, q, r)) arguments op h
      step false false false true set_is drop_is collect_is h = two_within Is IsRegister IsRegister register register (register_below limits) (register_below limits) (λ o. Move o.0 o.1) (λ a b p q. (p, q)) arguments op h
      step false false false false true drop_is collect_is h = two_within Is IsRegister Fits register number_of (register_below limits) number_fits (λ o. Set o.0 o.1) (λ a b p q. (p, q)) arguments op h
      step false false false false false true collect_is h = one_within Is IsRegister register (register_below limits) Drop (λ r is. is) arguments op h
      step false false false false false false true h = alone_within Is Collect tt arguments op h
      step false false false false false false false h = property_within name arguments op h

  words_within : (words : List (List ℕ)) (op : Op) → op_of_words limits words ≡ Some op → Is op
  words_within [] op h = none_within Is op h
  words_within (name ∷ arguments) op h = named_within name arguments op h

  -- an operation that a text is
  pub op_within : (text : List ℕ) (op : Op) → op_of limits text ≡ Some op → Is op
  op_within text op h = step (is_trimmed text) h
    where
      step : (b : Bool) → (if b then op_of_words limits (words_in text) else None) ≡ Some op → Is op
      step true h = words_within (words_in text) op h
      step false h = none_within Is op h
