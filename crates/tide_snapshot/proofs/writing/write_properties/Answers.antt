-- What is before the properties and then they make the text, and a failed write leaves a part of it.
use Rattle.std.proofs.Common.{◌≡◌, ℕ, ◌<◌, List, [], ◌∷◌, ◌++◌, length, arith, subst, refl}
use Rattle.std.specs.Prelude.{codes}
use Rattle.std.specs.List.{flat_map}
use Rattle.std.proofs.KnownBytes.{Appends-nil}
use Rattle.std.proofs.lemmas.Grind.{common_steps}
use Rattle.std.specs.Io.KnownBytes.{Appends}
use Rattle.tide_io.proofs.ChainLaws.{AppendsPart-grown, OnErr-from, OnErr-then, OnOk-then}
use Rattle.tide_retained.specs.declared.contents.Keyed.{Keyed}
use Rattle.tide_snapshot.specs.Line.{properties_text, property_piece}
use Rattle.tide_snapshot.proofs.writing.write_properties.Goals as goal

some_follow : (names : List (List ℕ)) (properties : List Keyed) → 0 < length properties → properties_text names properties ≡ codes " props" ++ flat_map (property_piece names) properties
unfolding properties_text
some_follow names [] some = absurd (omega arith)
some_follow names (property ∷ properties) some = refl

none_follow : (names : List (List ℕ)) (properties : List Keyed) → length properties ≡ 0 → [] ≡ properties_text names properties
unfolding properties_text
none_follow names [] none = refl
none_follow names (property ∷ properties) none = absurd (omega arith)

pub returns-then-is_empty-clause-whole : goal.returns-then-is_empty-clause-whole
returns-then-is_empty-clause-whole g c =
    let none : length c.args.properties.now ≡ 0 = grind (arith, common_steps) in
    subst (Appends _ _) (none_follow c.args.names.now _ none) (Appends-nil _)

pub returns-in_err-write_all-clause-part : goal.returns-in_err-write_all-clause-part
returns-in_err-write_all-clause-part g c =
    let some : 0 < length c.args.properties.now = grind (arith, common_steps) in
    rw (some_follow c.args.names.now c.args.properties.now some) (OnErr-from c.from_residual.result (AppendsPart-grown _ _ (codes " props") _ c.in_err-write_all.ensures.part))

pub returns-clause-whole : goal.returns-clause-whole
returns-clause-whole g c =
    let some : 0 < length c.args.properties.now = grind (arith, common_steps) in
    rw (some_follow c.args.names.now c.args.properties.now some)
    (OnOk-then _ _ _ (codes " props") _ c.write_each_property.result c.in_ok-write_all.ensures.whole c.write_each_property.ensures.whole)

pub returns-clause-part : goal.returns-clause-part
returns-clause-part g c =
    let some : 0 < length c.args.properties.now = grind (arith, common_steps) in
    rw (some_follow c.args.names.now c.args.properties.now some)
    (OnErr-then _ _ _ (codes " props") _ c.write_each_property.result c.in_ok-write_all.ensures.whole c.write_each_property.ensures.part)
