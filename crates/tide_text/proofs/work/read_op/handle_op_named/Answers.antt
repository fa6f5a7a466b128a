-- The name is the one that its bytes read as, and none of those before.
use Rattle.std.proofs.Common.{arith, rules, ◌≡◌, false}
use Rattle.std.proofs.lemmas.Bool.Decides.{nat_tests}
use Rattle.std.proofs.lemmas.Slice.Eq.{text_from_reads}
use Rattle.std.specs.Prelude.{codes}
use Rattle.std.specs.Str.{bytes_eq}
use Rattle.tide_text.proofs.work_laws.NameLemmas.{name_read}
use Rattle.tide_text.specs.work.ReadOp.{handle_op_named}
use Rattle.tide_text.proofs.work.read_op.handle_op_named.Goals as goal

pub returns-in-strong : goal.returns-in-strong
unfolding handle_op_named
returns-in-strong c =
    let is_strong : c.args.name.now ≡ codes "strong" = text_from_reads c.args.name.now (codes "strong") (search rules) (search rules) in
    rw is_strong c.strong_set.ensures

pub returns-in-sget : goal.returns-in-sget
unfolding handle_op_named
returns-in-sget c =
    let is_sget : c.args.name.now ≡ codes "sget" = text_from_reads c.args.name.now (codes "sget") (search rules) (search rules) in
    rw is_sget c.strong_get.ensures

pub returns-in-weak : goal.returns-in-weak
unfolding handle_op_named
returns-in-weak c =
    let is_weak : c.args.name.now ≡ codes "weak" = text_from_reads c.args.name.now (codes "weak") (search rules) (search rules) in
    rw is_weak c.weak_set.ensures

pub returns-in-wget : goal.returns-in-wget
unfolding handle_op_named
returns-in-wget c =
    let is_wget : c.args.name.now ≡ codes "wget" = text_from_reads c.args.name.now (codes "wget") (search rules) (search rules) in
    rw is_wget c.weak_get.ensures

pub returns-in_default : goal.returns-in_default
unfolding handle_op_named
returns-in_default c =
    let name = c.args.name.now in
    let not_strong : bytes_eq name (codes "strong") ≡ false = rw (name_read name (codes "strong")) (grind (arith, nat_tests)) in
    let not_sget : bytes_eq name (codes "sget") ≡ false = rw (name_read name (codes "sget")) (grind (arith, nat_tests)) in
    let not_weak : bytes_eq name (codes "weak") ≡ false = rw (name_read name (codes "weak")) (grind (arith, nat_tests)) in
    let not_wget : bytes_eq name (codes "wget") ≡ false = rw (name_read name (codes "wget")) (grind (arith, nat_tests)) in
    rw (not_strong, not_sget, not_weak, not_wget) c.pair_op_named.ensures
