-- The texts that values are.
use Rattle.std.proofs.Common.{◌≡◌, ap, refl, Bool, true, false, ◌&&◌, is_some, ℕ, List, [], ◌∷◌, Option, Some, None, map, Result, Ok, Err}
use Rattle.std.proofs.lemmas.Bool.{and_parts}
use Rattle.std.specs.List.{list_all}
use Rattle.std.specs.Option.{unwrap_or}
use Rattle.toml.specs.Data.{Data, Members, as_str}
use Rattle.toml.specs.View.{view}
use Rattle.toml.specs.declared.value.Value.{Value}
use Rattle.tide_text.specs.declared.work.fault.Fault.{Fault}
use Rattle.tide_text.specs.declared.work.fault.Fault.TheVariants.{Bad}
use Rattle.tide_text.specs.declared.work.field.Field.TheVariants.{Ops}
use Rattle.tide_text.specs.declared.work.workload.TheConstants.{MAX_OPS}
use Rattle.tide_workload.specs.Fields.{required, values_in}
use Rattle.tide_workload.specs.Scripts.{is_text, text_in, text_or_none, texts_of}
use Rattle.tide_workload.specs.Steps.{◌>>=◌, each, good}

-- whether values are all texts
abbrev are_texts : List Value → Bool
are_texts values = list_all (λ (value : Value). is_text (view value)) values

-- the texts that values are
abbrev shown : List Value → List (List ℕ)
shown values = map (λ (value : Value). text_or_none (view value)) values

-- a text and others
with_text : (text : Option (List ℕ)) (rest : Result (List (List ℕ)) Fault) (others : List (List ℕ)) → is_some text ≡ true → rest ≡ Ok others
    → (good Ops text >>= (λ first. rest >>= (λ more. Ok (first ∷ more)))) ≡ Ok (unwrap_or text [] ∷ others)
with_text None rest others is read = absurd (cc)
with_text (Some text) rest others is read = ap (λ r. r >>= (λ more. Ok (text ∷ more))) read

-- no text, or others of which one is none
without_text : (text : Option (List ℕ)) (rest : Result (List (List ℕ)) Fault) (others : Bool) → (is_some text && others) ≡ false
    → (others ≡ false → rest ≡ Err (Bad Ops))
    → (good Ops text >>= (λ first. rest >>= (λ more. Ok (first ∷ more)))) ≡ Err (Bad Ops)
without_text None rest others is read = refl
without_text (Some text) rest others is read = ap (λ r. r >>= (λ more. Ok (text ∷ more))) (read is)

all_read : (values : List Value) → are_texts values ≡ true → each text_in (map view values) ≡ Ok (shown values)
all_read [] all = refl
all_read (value ∷ values) all =
    let (is, others) = and_parts (is_text (view value)) (are_texts values) all in
    with_text (as_str (view value)) (each text_in (map view values)) (shown values) is (all_read values others)

one_refused : (values : List Value) → are_texts values ≡ false → each text_in (map view values) ≡ Err (Bad Ops)
one_refused [] none = absurd (cc)
one_refused (value ∷ values) none =
    without_text (as_str (view value)) (each text_in (map view values)) (are_texts values) none (one_refused values)

-- the texts of a mutator whose values are all texts
pub texts_of-all : (mutator : Members) (value : Data) (values : List Value) → required Ops mutator ≡ Ok value → values_in Ops 0 MAX_OPS value ≡ Ok (map view values)
    → list_all (λ (value : Value). is_text (view value)) values ≡ true
    → texts_of mutator ≡ Ok (map (λ (value : Value). text_or_none (view value)) values)
texts_of-all mutator value values field within all = rw (field, within) (all_read values all)

-- and of one with another value among them
pub texts_of-bad : (mutator : Members) (value : Data) (values : List Value) → required Ops mutator ≡ Ok value → values_in Ops 0 MAX_OPS value ≡ Ok (map view values)
    → list_all (λ (value : Value). is_text (view value)) values ≡ false
    → texts_of mutator ≡ Err (Bad Ops)
texts_of-bad mutator value values field within none = rw (field, within) (one_refused values none)
