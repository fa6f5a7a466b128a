use Rattle.std.proofs.Common.{◌≡◌, ◌∙◌, sym, ap, subst, None}
use Rattle.std.specs.Prelude.{is_some, slice_set}
use Rattle.tide_model.specs.Applied.{put_cell}
use Rattle.tide_plain.specs.declared.parts.stored_cell.StoredCell.{StoredCell}
use Rattle.tide_plain.specs.stored.Contents.{state_of, stored_at, IsStored}
use Rattle.tide_plain.specs.parts.Pairs.{pairs_of, IsDistinctPairs}
use Rattle.tide_plain.specs.stored.Stored.{Stored}
use Rattle.tide_plain.proofs.stored_laws.PairCells.{pairs_are-stored, state_of-pair}
use Rattle.tide_plain.proofs.parts_laws.PairLaws.{IsDistinctPairs-set, IsSeat-position, lacks-position, pairs_of-lacks, pairs_of-found, pairs_of-removed}
use Rattle.tide_plain.proofs.stored.contents.Contents.delete_pair.Goals as goal

pub set_place-requires-clause-distinct : goal.set_place-requires-clause-distinct
set_place-requires-clause-distinct c =
    let now = c.args.self.now in
    let ok = subst IsStored c.self.view_is c.self.invariant in
    let stored = c.stored.result.now in
    let is : stored ≡ stored_at now c.args.table = c.stored.ensures ∙ ap (λ (s : Stored). stored_at s c.args.table) c.self.view_is in
    let distinct = subst (λ (s : StoredCell). IsDistinctPairs s.pairs) (sym is) (ok.pairs c.args.table c.requires) in
    let seat = IsSeat-position stored.pairs c.args.key c.in-Some.place distinct (sym c.in-Some.ensures.first) in
    subst (λ (s : StoredCell). IsDistinctPairs (slice_set s.pairs c.in-Some.place None)) is
    (IsDistinctPairs-set stored.pairs c.in-Some.place c.args.key None distinct seat (λ pair same. absurd (cc (same))))

pub returns-in-Some-clause-there : goal.returns-in-Some-clause-there
returns-in-Some-clause-there c =
    let now = c.args.self.now in
    let ok = subst IsStored c.self.view_is c.self.invariant in
    let stored = c.stored.result.now in
    let is : stored ≡ stored_at now c.args.table = c.stored.ensures ∙ ap (λ (s : Stored). stored_at s c.args.table) c.self.view_is in
    let found = pairs_of-found stored.pairs c.args.key c.in-Some.place (sym c.in-Some.ensures.first) in
    ap is_some found.1 ∙ sym (ap (λ pairs. is_some (pairs c.args.key)) (pairs_are-stored now c.args.table stored c.requires is))

pub returns-in-Some-clause-leaves : goal.returns-in-Some-clause-leaves
returns-in-Some-clause-leaves c = λ yes.
    let now = c.args.self.now in
    let ok = subst IsStored c.self.view_is c.self.invariant in
    let stored = c.stored.result.now in
    let is : stored ≡ stored_at now c.args.table = c.stored.ensures ∙ ap (λ (s : Stored). stored_at s c.args.table) c.self.view_is in
    let distinct = subst (λ (s : StoredCell). IsDistinctPairs s.pairs) (sym is) (ok.pairs c.args.table c.requires) in
    let seat = IsSeat-position stored.pairs c.args.key c.in-Some.place distinct (sym c.in-Some.ensures.first) in
    record {
      state = c.set_place.ensures.state
          ∙ ap (λ (s : StoredCell). put_cell (state_of now) c.args.table (record ((state_of now).cells c.args.table) { pairs = pairs_of (slice_set s.pairs c.in-Some.place None) })) (sym is)
          ∙ state_of-pair now c.args.table c.args.key stored (slice_set stored.pairs c.in-Some.place None) None c.requires is
          (pairs_of-removed stored.pairs c.in-Some.place c.args.key seat);
      layout = c.set_place.ensures.layout;
      shapes = c.set_place.ensures.shapes;
    }

pub returns-in-None-clause-there : goal.returns-in-None-clause-there
returns-in-None-clause-there c =
    let now = c.args.self.now in
    let ok = subst IsStored c.self.view_is c.self.invariant in
    let stored = c.stored.result.now in
    let is : stored ≡ stored_at now c.args.table = c.stored.ensures ∙ ap (λ (s : Stored). stored_at s c.args.table) c.self.view_is in
    let none = pairs_of-lacks stored.pairs c.args.key (lacks-position stored.pairs c.args.key (sym c.in-None.ensures.first)) in
    sym (ap (λ pairs. is_some (pairs c.args.key)) (pairs_are-stored now c.args.table stored c.requires is) ∙ ap is_some none)
