-- The name is the one that its bytes read as, and none of those before.
use Rattle.std.proofs.Common.{arith, rules, ◌≡◌, false}
use Rattle.std.proofs.lemmas.Bool.Decides.{nat_tests}
use Rattle.std.proofs.lemmas.Slice.Eq.{text_from_reads}
use Rattle.std.specs.Prelude.{codes}
use Rattle.std.specs.Str.{bytes_eq}
use Rattle.tide_text.proofs.work_laws.NameLemmas.{name_read}
use Rattle.tide_text.specs.work.ReadOp.{op_named}
use Rattle.tide_text.proofs.work.read_op.op_named.Goals as goal

pub returns-in-alloc : goal.returns-in-alloc
unfolding op_named
returns-in-alloc c =
    let is_alloc : c.args.name.now ≡ codes "alloc" = text_from_reads c.args.name.now (codes "alloc") (search rules) (search rules) in
    rw is_alloc c.alloc.ensures

pub returns-in-get : goal.returns-in-get
unfolding op_named
returns-in-get c =
    let is_get : c.args.name.now ≡ codes "get" = text_from_reads c.args.name.now (codes "get") (search rules) (search rules) in
    rw is_get c.get.ensures

pub returns-in-put : goal.returns-in-put
unfolding op_named
returns-in-put c =
    let is_put : c.args.name.now ≡ codes "put" = text_from_reads c.args.name.now (codes "put") (search rules) (search rules) in
    rw is_put c.put.ensures

pub returns-in-move : goal.returns-in-move
unfolding op_named
returns-in-move c =
    let is_move : c.args.name.now ≡ codes "move" = text_from_reads c.args.name.now (codes "move") (search rules) (search rules) in
    rw is_move c.move_register.ensures

pub returns-in-set : goal.returns-in-set
unfolding op_named
returns-in-set c =
    let is_set : c.args.name.now ≡ codes "set" = text_from_reads c.args.name.now (codes "set") (search rules) (search rules) in
    rw is_set c.set.ensures

pub returns-in-drop : goal.returns-in-drop
unfolding op_named
returns-in-drop c =
    let is_drop : c.args.name.now ≡ codes "drop" = text_from_reads c.args.name.now (codes "drop") (search rules) (search rules) in
    rw is_drop c.drop_register.ensures

pub returns-in-collect : goal.returns-in-collect
unfolding op_named
returns-in-collect c =
    let is_collect : c.args.name.now ≡ codes "collect" = text_from_reads c.args.name.now (codes "collect") (search rules) (search rules) in
    rw is_collect c.alone.ensures

pub returns-in_default : goal.returns-in_default
unfolding op_named
returns-in_default c =
    let name = c.args.name.now in
    let not_alloc : bytes_eq name (codes "alloc") ≡ false = rw (name_read name (codes "alloc")) (grind (arith, nat_tests)) in
    let not_get : bytes_eq name (codes "get") ≡ false = rw (name_read name (codes "get")) (grind (arith, nat_tests)) in
    let not_put : bytes_eq name (codes "put") ≡ false = rw (name_read name (codes "put")) (grind (arith, nat_tests)) in
    let not_move : bytes_eq name (codes "move") ≡ false = rw (name_read name (codes "move")) (grind (arith, nat_tests)) in
    let not_set : bytes_eq name (codes "set") ≡ false = rw (name_read name (codes "set")) (grind (arith, nat_tests)) in
    let not_drop : bytes_eq name (codes "drop") ≡ false = rw (name_read name (codes "drop")) (grind (arith, nat_tests)) in
    let not_collect : bytes_eq name (codes "collect") ≡ false = rw (name_read name (codes "collect")) (grind (arith, nat_tests)) in
    rw (not_alloc, not_get, not_put, not_move, not_set, not_drop, not_collect) c.property_op_named.ensures
