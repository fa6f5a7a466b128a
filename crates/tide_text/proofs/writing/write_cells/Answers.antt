-- A cell that was written makes one more of those that were; where its write fails, a part of the cells was written.
use Rattle.std.proofs.Common.{◌≡◌, ℕ, ◌+◌, ◌<◌, List, [], ◌∷◌, ◌++◌, length, take, drop, get_or, arith, subst, sym, ap, ◌∙◌, append-nil, take-append-drop}
use Rattle.std.specs.List.{flat_map}
use Rattle.std.proofs.lemmas.List.{take_more}
use Rattle.std.proofs.lemmas.List.Concat.{flat_map-append}
use Rattle.std.specs.Io.KnownBytes.{Appends}
use Rattle.tide_io.specs.Faults.{AppendsPart}
use Rattle.tide_text.specs.lines.Line.{freed_cell_text}
use Rattle.tide_io.proofs.ChainLaws.{Appends-then, AppendsPart-then, AppendsPart-grown, OnErr-from}
use Rattle.tide_text.proofs.writing.write_cells.Goals as goal

-- the text of the cells
text : List ℕ → List ℕ
text xs = flat_map freed_cell_text xs

one_more : (xs : List ℕ) (i : ℕ) → i < length xs → text (take i xs) ++ freed_cell_text (get_or xs i 0) ≡ text (take (i + 1) xs)
unfolding text
one_more xs i within =
    ap (λ l. text (take i xs) ++ l) (sym (append-nil (freed_cell_text (get_or xs i 0))))
    ∙ sym (flat_map-append freed_cell_text (take i xs) (get_or xs i 0 ∷ []))
    ∙ sym (ap text (take_more xs i 0 within))

all_of_them : (xs : List ℕ) (n : ℕ) → text (take n xs) ++ text (drop n xs) ≡ text xs
unfolding text
all_of_them xs n = sym (flat_map-append freed_cell_text (take n xs) (drop n xs)) ∙ ap text (take-append-drop n xs)

pub returns-in_err-write_cell-clause-part : goal.returns-in_err-write_cell-clause-part
unfolding text
returns-in_err-write_cell-clause-part g c =
    let xs = c.args.cells.now in
    let i = c.loop-id.id-index in
    let more = one_more xs i c.loop-id-test.true in
    let part = AppendsPart-then _ _ _ (text (take i xs)) _ c.loop-id.invariant.written c.in_err-write_cell.ensures.part in
    let grown = AppendsPart-grown _ _ (text (take (i + 1) xs)) (text (drop (i + 1) xs)) (subst (AppendsPart _ _) more part) in
    OnErr-from c.from_residual.result (subst (AppendsPart _ _) (all_of_them xs (i + 1)) grown)

pub loop-id-preserved : goal.loop-id-preserved
unfolding text
loop-id-preserved g c =
    let xs = c.args.cells.now in
    let i = c.loop-id.id-index in
    let more = one_more xs i c.loop-id-test.true in
    record {
      written = subst (Appends _ _) more (Appends-then _ _ _ _ _ c.loop-id.invariant.written c.in_ok-write_cell.ensures.whole);
      later = omega (arith, c.in_ok-write_cell.ensures.cause.later);
    }
