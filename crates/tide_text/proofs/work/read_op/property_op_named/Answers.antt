-- The name is the one that its bytes read as, and none of those before.
use Rattle.std.proofs.Common.{arith, rules, ◌≡◌, false}
use Rattle.std.proofs.lemmas.Bool.Decides.{nat_tests}
use Rattle.std.proofs.lemmas.Slice.Eq.{text_from_reads}
use Rattle.std.specs.Prelude.{codes}
use Rattle.std.specs.Str.{bytes_eq}
use Rattle.tide_text.proofs.work_laws.NameLemmas.{name_read}
use Rattle.tide_text.specs.work.ReadOp.{property_op_named}
use Rattle.tide_text.proofs.work.read_op.property_op_named.Goals as goal

pub returns-in-claim : goal.returns-in-claim
unfolding property_op_named
returns-in-claim c =
    let is_claim : c.args.name.now ≡ codes "claim" = text_from_reads c.args.name.now (codes "claim") (search rules) (search rules) in
    rw is_claim c.claim.ensures

pub returns-in-release : goal.returns-in-release
unfolding property_op_named
returns-in-release c =
    let is_release : c.args.name.now ≡ codes "release" = text_from_reads c.args.name.now (codes "release") (search rules) (search rules) in
    rw is_release c.release.ensures

pub returns-in-unclaim : goal.returns-in-unclaim
unfolding property_op_named
returns-in-unclaim c =
    let is_unclaim : c.args.name.now ≡ codes "unclaim" = text_from_reads c.args.name.now (codes "unclaim") (search rules) (search rules) in
    rw is_unclaim c.alone.ensures

pub returns-in-add : goal.returns-in-add
unfolding property_op_named
returns-in-add c =
    let is_add : c.args.name.now ≡ codes "add" = text_from_reads c.args.name.now (codes "add") (search rules) (search rules) in
    rw is_add c.add.ensures

pub returns-in-getp : goal.returns-in-getp
unfolding property_op_named
returns-in-getp c =
    let is_getp : c.args.name.now ≡ codes "getp" = text_from_reads c.args.name.now (codes "getp") (search rules) (search rules) in
    rw is_getp c.get_property.ensures

pub returns-in-setp : goal.returns-in-setp
unfolding property_op_named
returns-in-setp c =
    let is_setp : c.args.name.now ≡ codes "setp" = text_from_reads c.args.name.now (codes "setp") (search rules) (search rules) in
    rw is_setp c.set_property.ensures

pub returns-in_default : goal.returns-in_default
unfolding property_op_named
returns-in_default c =
    let name = c.args.name.now in
    let not_claim : bytes_eq name (codes "claim") ≡ false = rw (name_read name (codes "claim")) (grind (arith, nat_tests)) in
    let not_release : bytes_eq name (codes "release") ≡ false = rw (name_read name (codes "release")) (grind (arith, nat_tests)) in
    let not_unclaim : bytes_eq name (codes "unclaim") ≡ false = rw (name_read name (codes "unclaim")) (grind (arith, nat_tests)) in
    let not_add : bytes_eq name (codes "add") ≡ false = rw (name_read name (codes "add")) (grind (arith, nat_tests)) in
    let not_getp : bytes_eq name (codes "getp") ≡ false = rw (name_read name (codes "getp")) (grind (arith, nat_tests)) in
    let not_setp : bytes_eq name (codes "setp") ≡ false = rw (name_read name (codes "setp")) (grind (arith, nat_tests)) in
    rw (not_claim, not_release, not_unclaim, not_add, not_getp, not_setp) c.handle_op_named.ensures
