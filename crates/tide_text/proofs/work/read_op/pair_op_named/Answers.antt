-- The name is the one that its bytes read as, and none of those before.
use Rattle.std.proofs.Common.{arith, rules, ◌≡◌, false, refl}
use Rattle.std.proofs.lemmas.Bool.Decides.{nat_tests}
use Rattle.std.proofs.lemmas.Slice.Eq.{text_from_reads}
use Rattle.std.specs.Prelude.{codes}
use Rattle.std.specs.Str.{bytes_eq}
use Rattle.tide_text.proofs.work_laws.NameLemmas.{name_read}
use Rattle.tide_text.specs.work.ReadOp.{pair_op_named}
use Rattle.tide_text.proofs.work.read_op.pair_op_named.Goals as goal

pub returns-in-table : goal.returns-in-table
unfolding pair_op_named
returns-in-table c =
    let is_table : c.args.name.now ≡ codes "table" = text_from_reads c.args.name.now (codes "table") (search rules) (search rules) in
    rw is_table c.table.ensures

pub returns-in-pair : goal.returns-in-pair
unfolding pair_op_named
returns-in-pair c =
    let is_pair : c.args.name.now ≡ codes "pair" = text_from_reads c.args.name.now (codes "pair") (search rules) (search rules) in
    rw is_pair c.pair_set.ensures

pub returns-in-pget : goal.returns-in-pget
unfolding pair_op_named
returns-in-pget c =
    let is_pget : c.args.name.now ≡ codes "pget" = text_from_reads c.args.name.now (codes "pget") (search rules) (search rules) in
    rw is_pget c.pair_get.ensures

pub returns-in-pdel : goal.returns-in-pdel
unfolding pair_op_named
returns-in-pdel c =
    let is_pdel : c.args.name.now ≡ codes "pdel" = text_from_reads c.args.name.now (codes "pdel") (search rules) (search rules) in
    rw is_pdel c.pair_delete.ensures

pub returns-in-group : goal.returns-in-group
unfolding pair_op_named
returns-in-group c =
    let is_group : c.args.name.now ≡ codes "group" = text_from_reads c.args.name.now (codes "group") (search rules) (search rules) in
    rw is_group c.group.ensures

pub returns-in_default : goal.returns-in_default
unfolding pair_op_named
returns-in_default c =
    let name = c.args.name.now in
    let not_table : bytes_eq name (codes "table") ≡ false = rw (name_read name (codes "table")) (grind (arith, nat_tests)) in
    let not_pair : bytes_eq name (codes "pair") ≡ false = rw (name_read name (codes "pair")) (grind (arith, nat_tests)) in
    let not_pget : bytes_eq name (codes "pget") ≡ false = rw (name_read name (codes "pget")) (grind (arith, nat_tests)) in
    let not_pdel : bytes_eq name (codes "pdel") ≡ false = rw (name_read name (codes "pdel")) (grind (arith, nat_tests)) in
    let not_group : bytes_eq name (codes "group") ≡ false = rw (name_read name (codes "group")) (grind (arith, nat_tests)) in
    rw (not_table, not_pair, not_pget, not_pdel, not_group) refl
