-- Names that are seen as their bytes, where one is among them, and that one more is another key.
use Rattle.std.proofs.Common.{◌≡◌, ◌≢◌, ◌∙◌, ℕ, zero, suc, ◌+◌, ◌<◌, Bool, true, false, cond, if◌then◌else◌, not, ◌||◌, ◌&&◌, nat_lt, nat_le, List, [], ◌∷◌, ◌++◌, length, get_or, map, refl, ap, arith, subst, sym, Vec, Global}
use Rattle.std.proofs.Common.{unwrap_or}
use Rattle.std.proofs.lemmas.List.{length-map, map-append}
use Rattle.std.proofs.lemmas.Bool.Decides.{nat_tests}
use Rattle.std.proofs.lemmas.List.Sums.{prefix_len-le-length}
use Rattle.std.proofs.lemmas.Bool.{and_parts, or_parts, leb-true, lt-ltb, ltb-true}
use Rattle.std.specs.Char.{is_ascii_lowercase}
use Rattle.std.specs.Prelude.{slice_index, Some}
use Rattle.std.proofs.lemmas.Grind.{common_steps}
use Rattle.std.proofs.lemmas.List.Elements.{All-nil, All-push}
use Rattle.std.proofs.lemmas.List.Quantifiers.{all_pairs_push}
use Rattle.std.proofs.lemmas.Slice.Eq.{bytes_eq-Decides}
use Rattle.std.specs.List.{list_all, list_any, position, position_or_len}
use Rattle.std.specs.Cmp.Lexicographic.{nat_list_eq_equiv}
use Rattle.std.specs.Str.{bytes_eq}
use Rattle.indexmap.specs.IndexSet.{insert_key}
use Rattle.tide_text.specs.declared.work.keys.TheConstants.{MAX_KEYS, MAX_KEY_BYTES}
use Rattle.tide_text.proofs.work_laws.SpacedLemmas.{IsWord, list_all-weaker}
use Rattle.tide_text.specs.work.Words.{is_word_byte}
use Rattle.tide_text.specs.work.Keys.{is_key, is_key_byte, is_named}
use Rattle.tide_text.specs.work.Work.{AreKeys, IsBetween}

pub list_any-map : {X Y : Type 0} (p : X → Bool) (show : Y → X) (ys : List Y) → list_any p (map show ys) ≡ list_any (λ y. p (show y)) ys
list_any-map p show [] = refl
list_any-map p show (y ∷ ys) = ap (λ rest. p (show y) || rest) (list_any-map p show ys)

pub position_or_len-map : {X Y : Type 0} (p : X → Bool) (show : Y → X) (ys : List Y)
    → position_or_len p (map show ys) ≡ position_or_len (λ y. p (show y)) ys
position_or_len-map p show [] = refl
position_or_len-map p show (y ∷ ys) = ap (λ rest. cond (not (p (show y))) (1 + rest) 0) (position_or_len-map p show ys)

pub position-map : {X Y : Type 0} (p : X → Bool) (show : Y → X) (ys : List Y) → position p (map show ys) ≡ position (λ y. p (show y)) ys
position-map p show ys = rw (position_or_len-map p show ys, length-map ys show)

-- a word is compared with a name as the name is with the word
turned : (word : List ℕ) → ◌≡◌ {A = List ℕ → Bool} (λ name. bytes_eq word name) (λ name. bytes_eq name word)
turned word = λ i name. nat_list_eq_equiv.symm word name i

-- what a look-up of a word among names, each seen as its bytes, answers of their bytes
pub named_by_bytes : (names : List (Vec ℕ Global)) (word : List ℕ)
    → list_any (λ known. bytes_eq word known.items) names ≡ is_named (map (λ (v : Vec ℕ Global). v.items) names) word
named_by_bytes names word =
    ap (λ (test : List ℕ → Bool). list_any (λ (v : Vec ℕ Global). test v.items) names) (turned word)
    ∙ sym (list_any-map (λ known. bytes_eq known word) (λ (v : Vec ℕ Global). v.items) names)

-- and its place
pub placed_by_bytes : (names : List (Vec ℕ Global)) (word : List ℕ)
    → position (λ known. bytes_eq word known.items) names ≡ position (λ known. bytes_eq known word) (map (λ (v : Vec ℕ Global). v.items) names)
placed_by_bytes names word =
    ap (λ (test : List ℕ → Bool). position (λ (v : Vec ℕ Global). test v.items) names) (turned word)
    ∙ sym (position-map (λ known. bytes_eq known word) (λ (v : Vec ℕ Global). v.items) names)

-- the place of the first that passes, or else how many there are
pub position_or_length : {X : Type 0} (p : X → Bool) (xs : List X) → unwrap_or (position p xs) (length xs) ≡ position_or_len p xs
position_or_length p xs = let bound = prefix_len-le-length (λ x. not (p x)) xs in grind (arith, nat_tests, bound)

unlike : (name word : List ℕ) → bytes_eq name word ≡ false → name ≢ word
unlike name word apart same = grind (arith, bytes_eq-Decides)

-- a word that is none of some names is another than each of them
unnamed : (names : List (List ℕ)) (word : List ℕ) → is_named names word ≡ false → (k : ℕ) (d : List ℕ) → k < length names → get_or names k d ≢ word
unnamed [] word new k d within = absurd (omega arith)
unnamed (name ∷ names) word new zero d within = unlike name word (or_parts (bytes_eq name word) (is_named names word) new).0
unnamed (name ∷ names) word new (suc k) d within = unnamed names word (or_parts (bytes_eq name word) (is_named names word) new).1 k d (omega arith)

pub no_keys : AreKeys []
no_keys = record { few = omega arith; each = All-nil (λ name. is_key name ≡ true); distinct = λ i j d before within. absurd (omega arith) }

-- keys, and a new one behind them
pub one_more_key : (names : List (List ℕ)) (word : List ℕ) → AreKeys names → length names < MAX_KEYS → is_key word ≡ true → is_named names word ≡ false
    → AreKeys (names ++ word ∷ [])
one_more_key names word keys room key new = record {
  few = grind (arith, common_steps);
  each = All-push (λ name. is_key name ≡ true) names word keys.each key;
  distinct = all_pairs_push (λ earlier later. earlier ≢ later) names word keys.distinct (unnamed names word new);
}

-- the same of a set of names that are seen as their bytes, and a copy of the new one
pub inserted_key : (names now : List (Vec ℕ Global)) (copy : Vec ℕ Global) (view : List (List ℕ)) (word : List ℕ)
    → now ≡ insert_key (λ (x y : Vec ℕ Global). bytes_eq x.items y.items) names copy → copy.items ≡ word
    → map (λ (v : Vec ℕ Global). v.items) names ≡ view → AreKeys (map (λ (v : Vec ℕ Global). v.items) names)
    → length view < MAX_KEYS → is_key word ≡ true → is_named view word ≡ false
    → (map (λ (v : Vec ℕ Global). v.items) now ≡ view ++ word ∷ []) × AreKeys (map (λ (v : Vec ℕ Global). v.items) now)
inserted_key names now copy view word inserted same seen keys room key new =
    let apart : list_any (λ (v : Vec ℕ Global). bytes_eq copy.items v.items) names ≡ false =
    named_by_bytes names copy.items ∙ ap (λ word. is_named (map (λ (v : Vec ℕ Global). v.items) names) word) same ∙ ap (λ view. is_named view word) seen ∙ new in
    let pushed : now ≡ names ++ copy ∷ [] = inserted ∙ ap (λ there. if there then names else names ++ copy ∷ []) apart in
    let behind : map (λ (v : Vec ℕ Global). v.items) now ≡ view ++ word ∷ [] = rw (pushed, map-append, seen, same) refl in
    (behind, subst AreKeys (sym behind) (one_more_key view word (subst AreKeys seen keys) room key new))

-- a key has 1 to 16 bytes
pub key_sized : (word : List ℕ) → is_key word ≡ true → IsBetween 1 MAX_KEY_BYTES (length word)
unfolding is_key
key_sized word holds =
    let front = (and_parts ((nat_lt 0 (length word) && nat_le (length word) 16) && is_ascii_lowercase (slice_index word 0)) (list_all is_key_byte word) holds).0 in
    let sized = (and_parts (nat_lt 0 (length word) && nat_le (length word) 16) (is_ascii_lowercase (slice_index word 0)) front).0 in
    let (some, short) = and_parts (nat_lt 0 (length word)) (nat_le (length word) 16) sized in
    (omega (arith, ltb-true 0 (length word) some), leb-true (length word) 16 short)

-- the first that passes is at its place
position_or_len-at : {X : Type 0} (p : X → Bool) (xs : List X) (i : ℕ) (d : X) → i < length xs → p (get_or xs i d) ≡ true
    → ((k : ℕ) → k < i → p (get_or xs k d) ≡ false) → position_or_len p xs ≡ i
position_or_len-at p [] i d within passes before = absurd (omega arith)
position_or_len-at p (x ∷ xs) zero d within passes before = rw passes refl
position_or_len-at p (x ∷ xs) (suc i) d within passes before =
    let rest = position_or_len-at p xs i d (omega arith) passes (λ k below. before (suc k) (omega arith)) in
    rw (before zero (omega arith), rest) (omega arith)

-- the name of a key is at its number
pub position_of_name : (keys : List (List ℕ)) (key : ℕ) → AreKeys keys → key < length keys
    → position (λ name. bytes_eq name (get_or keys key [])) keys ≡ Some key
position_of_name keys key are within =
    let word = get_or keys key [] in
    let same : bytes_eq word word ≡ true = grind (arith, bytes_eq-Decides) in
    let at : position_or_len (λ name. bytes_eq name word) keys ≡ key =
    position_or_len-at (λ name. bytes_eq name word) keys key [] within same (λ k below. other (get_or keys k []) (get_or keys key []) (are.distinct k key [] below within)) in
    rw (at, lt-ltb key (length keys) within) refl
  where
    other : (name word : List ℕ) → name ≢ word → bytes_eq name word ≡ false
    other name word apart = grind (arith, bytes_eq-Decides)

key_byte : (byte : ℕ) → is_key_byte byte ≡ true → is_word_byte byte ≡ true
key_byte byte is = grind (arith, nat_tests)

-- a key is a word
pub key-word : (word : List ℕ) → is_key word ≡ true → IsWord word
unfolding is_key
key-word word key =
    let sized = key_sized word key in
    let all = (and_parts ((nat_lt 0 (length word) && nat_le (length word) 16) && is_ascii_lowercase (slice_index word 0)) (list_all is_key_byte word) key).1 in
    record { some = sized.0; spaceless = list_all-weaker is_key_byte is_word_byte key_byte word all }
