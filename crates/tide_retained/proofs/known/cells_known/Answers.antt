-- One more cell is known, with the keys of its pairs.
use Rattle.std.proofs.Common.{ℕ, sym, ap, subst, arith, inl, inr, length, List, None}
use Rattle.std.specs.Prelude.{Contains}
use Rattle.std.proofs.lemmas.Bool.{cases_eq, cases_lt}
use Rattle.std.proofs.lemmas.List.{get_or_past}
use Rattle.tide_retained.specs.Contents.{held_at, pairs_of}
use Rattle.tide_retained.specs.Holding.{AreKeysBelow}
use Rattle.tide_retained.specs.declared.contents.Keyed.{Keyed}
use Rattle.tide_retained.proofs.known.cells_known.Goals as goal

pub behind_keys-known-requires-clause-few : goal.behind_keys-known-requires-clause-few
behind_keys-known-requires-clause-few c =
    subst (AreKeysBelow 83886080) (sym c.pairs.ensures) (c.requires.few c.loop-cell.cell)

pub behind_keys-known-requires-clause-most : goal.behind_keys-known-requires-clause-most
behind_keys-known-requires-clause-most c = elim c.behind.ensures.one [
  | inl same ↦ (let before = c.loop-cell.invariant.most in omega (arith, before, same))
  | inr next ↦
      let test = c.loop-cell-test.true in
      let few = c.requires.cells in
      omega (arith, next, test, few)
]

pub loop-cell-preserved : goal.loop-cell-preserved
loop-cell-preserved c =
    let at = c.loop-cell.cell in
    let inv = c.loop-cell.invariant in
    let more = c.behind.ensures.least in
    let next = c.behind.ensures.cell in
    let least = c.behind_keys-known.ensures.least in
    let before = inv.least in
    record {
      least = omega (arith, before, more, least);
      cells = omega (arith, next, least);
      keys = λ table below. elim (cases_eq table at) [
        | inl same ↦ subst (λ (n : ℕ). AreKeysBelow c.behind_keys-known.result (pairs_of (held_at c.args.contents.now n))) (sym same)
            (subst (AreKeysBelow c.behind_keys-known.result) c.pairs.ensures c.behind_keys-known.ensures.keys)
        | inr apart ↦ λ entry at_entry. (
            let old = inv.keys table (omega (arith, below, apart)) entry at_entry in omega (arith, old, more, least))
      ];
      most = c.behind_keys-known.ensures.most;
    }

pub returns-clause-cells : goal.returns-clause-cells
returns-clause-cells c =
    let test = c.loop-cell-test.false in
    let end = c.loop-cell.auto.cell-end in
    let known = c.loop-cell.invariant.cells in
    let few = c.requires.cells in
    omega (arith, test, end, known, few)

pub returns-clause-keys : goal.returns-clause-keys
returns-clause-keys c = λ table pair at. elim (cases_lt table (length c.args.contents.now.cells.items)) [
  | inl below ↦
      let test = c.loop-cell-test.false in
      let end = c.loop-cell.auto.cell-end in
      let few = c.requires.cells in
      c.loop-cell.invariant.keys table (omega (arith, below, test, end, few)) pair at
  | inr past ↦ absurd (
      let none = ap pairs_of (get_or_past c.args.contents.now.cells.items table None past) in
      let here = subst (λ (list : List Keyed). Contains list pair) none at in
      let below = here.1 in
      omega (arith, below))
]
