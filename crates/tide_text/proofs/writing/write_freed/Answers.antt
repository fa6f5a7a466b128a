-- The colon and then the cells make the text, and a failed write leaves a part of it.
use Rattle.std.proofs.Common.{◌≡◌, ℕ, ◌<◌, List, [], ◌∷◌, ◌++◌, length, arith, subst, refl}
use Rattle.std.specs.Prelude.{codes}
use Rattle.std.specs.List.{flat_map}
use Rattle.std.proofs.KnownBytes.{Appends-nil}
use Rattle.std.proofs.lemmas.Grind.{common_steps}
use Rattle.std.specs.Io.KnownBytes.{Appends}
use Rattle.tide_text.specs.lines.Line.{freed_cell_text, freed_text}
use Rattle.tide_io.proofs.ChainLaws.{AppendsPart-grown, OnErr-from, OnErr-then, OnOk-then}
use Rattle.tide_text.proofs.writing.write_freed.Goals as goal

colon_first : (xs : List ℕ) → 0 < length xs → freed_text xs ≡ codes ":" ++ flat_map freed_cell_text xs
unfolding freed_text
colon_first [] some = absurd (omega arith)
colon_first (x ∷ xs) some = refl

none_freed : (xs : List ℕ) → length xs ≡ 0 → [] ≡ freed_text xs
unfolding freed_text
none_freed [] none = refl
none_freed (x ∷ xs) none = absurd (omega arith)

pub returns-then-is_empty-clause-whole : goal.returns-then-is_empty-clause-whole
returns-then-is_empty-clause-whole g c =
    let none : length c.args.freed.now ≡ 0 = grind (arith, common_steps) in
    subst (Appends _ _) (none_freed _ none) (Appends-nil _)

pub returns-in_err-write_all-clause-part : goal.returns-in_err-write_all-clause-part
returns-in_err-write_all-clause-part g c =
    let some : 0 < length c.args.freed.now = grind (arith, common_steps) in
    rw (colon_first c.args.freed.now some) (OnErr-from c.from_residual.result (AppendsPart-grown _ _ (codes ":") _ c.in_err-write_all.ensures.part))

pub returns-clause-whole : goal.returns-clause-whole
returns-clause-whole g c =
    let some : 0 < length c.args.freed.now = grind (arith, common_steps) in
    rw (colon_first c.args.freed.now some) (OnOk-then _ _ _ (codes ":") _ c.write_cells.result c.in_ok-write_all.ensures.whole c.write_cells.ensures.whole)

pub returns-clause-part : goal.returns-clause-part
returns-clause-part g c =
    let some : 0 < length c.args.freed.now = grind (arith, common_steps) in
    rw (colon_first c.args.freed.now some) (OnErr-then _ _ _ (codes ":") _ c.write_cells.result c.in_ok-write_all.ensures.whole c.write_cells.ensures.part)
