-- No two values have one word, and each word reads as what it is the word of.
use Rattle.std.proofs.Common.{◌≡◌, ◌≢◌, ℕ, zero, suc, sym, ◌∙◌, add-one, ◌+◌, ◌*◌, ◌^◌, ◌<◌, ◌≤◌, refl, ap, arith, Bool, true, false, Option, Some, None}
use Rattle.std.specs.Prelude.{◌||◌, ◌==◌, IfSome, IfNone, if◌then◌else◌}
use Rattle.std.proofs.lemmas.Bool.Decides.{nat_tests}
use Rattle.tide_model.specs.declared.val.Val.{Val}
use Rattle.tide_model.specs.declared.val.Val.TheVariants.{Empty, Int, Cell}
use Rattle.tide_model.specs.State.{idle, marking}
use Rattle.tide_words.specs.declared.forms.colours.Colour.{Colour}
use Rattle.tide_words.specs.declared.forms.colours.Colour.TheVariants.{Black, White, Grey}
use Rattle.tide_words.specs.declared.forms.structure.Structure.{Structure}
use Rattle.tide_words.specs.forms.ColourWord.{colour_state, colour_word, colour_cycle, colour_of, is_marked_in, phase_word, phase_of, cycle_of}
use Rattle.tide_words.specs.forms.PairWord.{pair_word, max_cells, IsPairWord}
use Rattle.tide_words.specs.forms.Reference.{optional_word, optional_of}
use Rattle.tide_words.specs.forms.StructureWord.{structure_word, IsStructureWord}
use Rattle.tide_words.specs.forms.ValueWord.{val_word, HasU32, IsValWord}

-- values
pub same_from_val_word : (v w : Val) → val_word v ≡ val_word w → v ≡ w
same_from_val_word Empty Empty e = refl
same_from_val_word Empty (Int n) e = absurd (omega arith)
same_from_val_word Empty (Cell c) e = absurd (omega arith)
same_from_val_word (Int n) Empty e = absurd (omega arith)
same_from_val_word (Int n) (Int m) e = ap Int (omega arith)
same_from_val_word (Int n) (Cell c) e = absurd (omega arith)
same_from_val_word (Cell c) Empty e = absurd (omega arith)
same_from_val_word (Cell c) (Int m) e = absurd (omega arith)
same_from_val_word (Cell c) (Cell d) e = ap Cell (omega arith)

-- cells of one word are one cell
pub same_cell_from_val_word : (one other : ℕ) → val_word (Cell one) ≡ val_word (Cell other) → one ≡ other
same_cell_from_val_word one other same = omega (arith, same)

-- a value's word leaves room for a key above it
pub val_word-lt : (v : Val) → HasU32 v → val_word v < 2 ^ 34
val_word-lt Empty h = omega arith
val_word-lt (Int n) h = omega arith
val_word-lt (Cell c) h = omega arith

-- what `word_val` answers to the word of a value
pub word_val-reads : (v : Val) (result : Option Val) → HasU32 v
    → IfSome result (λ value. val_word value ≡ val_word v) → IfNone result (¬ IsValWord (val_word v)) → result ≡ Some v
word_val-reads v (Some value) fits some none = ap Some (same_from_val_word value v some)
word_val-reads v None fits some none = absurd (none (v, fits, refl))

-- structures
same_parts : (s c t d : ℕ) (n m : Bool) → c ≤ 64 → d ≤ 64
    → 256 * s + 2 * c + (if n then 1 else 0) ≡ 256 * t + 2 * d + (if m then 1 else 0) → (s ≡ t) × (c ≡ d) × (n ≡ m)
same_parts s c t d true true h g e = (omega arith, omega arith, refl)
same_parts s c t d true false h g e = absurd (omega arith)
same_parts s c t d false true h g e = absurd (omega arith)
same_parts s c t d false false h g e = (omega arith, omega arith, refl)

pub same_from_structure_word : (s t : Structure) → s.count ≤ 64 → t.count ≤ 64 → structure_word s ≡ structure_word t → s ≡ t
same_from_structure_word s t h g e =
    let (shape, count, nuked) = same_parts s.shape s.count t.shape t.count s.nuked t.nuked h g e in
    λ i. record { shape = shape i; count = count i; nuked = nuked i }

-- what `word_structure` answers to the word of a structure
pub word_structure-reads : (s : Structure) (result : Option Structure) → s.shape < 2 ^ 32 → s.count ≤ 64
    → IfSome result (λ structure. structure_word structure ≡ structure_word s) → IfSome result (λ structure. structure.count ≤ 64)
    → IfNone result (¬ IsStructureWord (structure_word s)) → result ≡ Some s
word_structure-reads s (Some t) shape count some within none = ap Some (same_from_structure_word t s within count some)
word_structure-reads s None shape count some within none = absurd (none (s, shape, count, refl))

-- pairs
same_key : (k l a b : ℕ) → a < 2 ^ 34 → b < 2 ^ 34 → 2 ^ 36 * (k + 1) + a ≡ 2 ^ 36 * (l + 1) + b → (k ≡ l) × (a ≡ b)
same_key k l a b h g e = (omega arith, omega arith)

pub same_from_pair_word : (k l : ℕ) (v w : Val) → HasU32 v → HasU32 w → pair_word k v ≡ pair_word l w → (k ≡ l) × (v ≡ w)
same_from_pair_word k l v w h g e =
    let (keys, words) = same_key k l (val_word v) (val_word w) (val_word-lt v h) (val_word-lt w g) e in
    (keys, same_from_val_word v w words)

pub pair_word-pos : (k : ℕ) (v : Val) → 0 < pair_word k v
pair_word-pos k v = omega arith

-- what `word_pair` answers to the word of a pair
pub word_pair-reads : (k : ℕ) (v : Val) (result : Option (ℕ × Val)) → k < max_cells → HasU32 v
    → IfSome result (λ pair. pair_word pair.0 pair.1 ≡ pair_word k v) → IfSome result (λ pair. HasU32 pair.1)
    → IfNone result (¬ IsPairWord (pair_word k v)) → result ≡ Some (k, v)
word_pair-reads k v (Some pair) below fits some has none =
    let (key, value) = same_from_pair_word pair.0 k pair.1 v has fits some in
    ap Some (λ i. (key i, value i))
word_pair-reads k v None below fits some has none = absurd (none (k, v, below, fits, refl))

-- array references and claims, whose words are `array_word` and `claim_word`
pub optional_of-word : (number : Option ℕ) → optional_of (optional_word number) ≡ number
optional_of-word None = refl
optional_of-word (Some number) = rw add-one refl

pub optional_word-of : (word : ℕ) → optional_word (optional_of word) ≡ word
optional_word-of zero = refl
optional_word-of (suc number) = omega arith

pub same_from_optional_word : (one other : Option ℕ) → optional_word one ≡ optional_word other → one ≡ other
same_from_optional_word one other e = sym (optional_of-word one) ∙ ap optional_of e ∙ optional_of-word other

-- colours
pub same_from_colour_word : (c d : ℕ) (a b : Colour) → colour_word c a ≡ colour_word d b → (c ≡ d) × (a ≡ b)
same_from_colour_word c d Black Black e = (omega arith, refl)
same_from_colour_word c d Black White e = absurd (omega arith)
same_from_colour_word c d Black Grey e = absurd (omega arith)
same_from_colour_word c d White Black e = absurd (omega arith)
same_from_colour_word c d White White e = (omega arith, refl)
same_from_colour_word c d White Grey e = absurd (omega arith)
same_from_colour_word c d Grey Black e = absurd (omega arith)
same_from_colour_word c d Grey White e = absurd (omega arith)
same_from_colour_word c d Grey Grey e = (omega arith, refl)

-- a colour's word names the cycle in which its cell got it
pub colour_cycle-of : (cycle : ℕ) (colour : Colour) → colour_cycle (colour_word cycle colour) ≡ cycle
colour_cycle-of cycle Black = omega arith
colour_cycle-of cycle White = omega arith
colour_cycle-of cycle Grey = omega arith

-- a colour of the running cycle reads as itself
pub colour_of-same : (cycle : ℕ) (colour : Colour) → colour_of (colour_word cycle colour) cycle ≡ colour
colour_of-same cycle Black = grind (arith, nat_tests)
colour_of-same cycle White = grind (arith, nat_tests)
colour_of-same cycle Grey = grind (arith, nat_tests)

-- a word of a cycle before that is white, whatever its state is
pub colour_of-older : (word cycle : ℕ) → word < 4 * cycle → colour_of word cycle ≡ White
colour_of-older word cycle older = grind (arith, nat_tests)

-- a colour is marked unless it is white
marked_colour : (colour : Colour) → colour ≢ White → ((colour_state colour == 0) || (colour_state colour == 2)) ≡ true
marked_colour Black coloured = refl
marked_colour White coloured = absurd (coloured refl)
marked_colour Grey coloured = refl

-- a word is marked exactly where it reads as black or grey
pub is_marked_in-white : (cycle word : ℕ) → colour_of word cycle ≡ White → is_marked_in cycle word ≡ false
is_marked_in-white cycle word white = ap (λ (colour : Colour). (colour_state colour == 0) || (colour_state colour == 2)) white

pub is_marked_in-coloured : (cycle word : ℕ) → colour_of word cycle ≢ White → is_marked_in cycle word ≡ true
is_marked_in-coloured cycle word coloured = marked_colour (colour_of word cycle) coloured

-- the phase
pub same_from_phase_word : (c d : ℕ) (a b : Bool) → phase_word c a ≡ phase_word d b → (c ≡ d) × (a ≡ b)
same_from_phase_word c d true true e = (omega arith, refl)
same_from_phase_word c d true false e = absurd (omega arith)
same_from_phase_word c d false true e = absurd (omega arith)
same_from_phase_word c d false false e = (omega arith, refl)

pub cycle_of-phase_word : (cycle : ℕ) (marks : Bool) → cycle_of (phase_word cycle marks) ≡ cycle
cycle_of-phase_word cycle true = omega arith
cycle_of-phase_word cycle false = omega arith

pub phase_of-phase_word : (cycle : ℕ) (marks : Bool) → phase_of (phase_word cycle marks) ≡ (if marks then marking cycle else idle)
phase_of-phase_word cycle true = grind (arith, nat_tests)
phase_of-phase_word cycle false = grind (arith, nat_tests)
