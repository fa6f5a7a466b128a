-- The claim is a root, if the word is one's.
use Rattle.tide_retained.proofs.OkLaws.{on_ok}
use Rattle.tide_retained.proofs.RootLaws.{claim_named, claim_none}
use Rattle.tide_retained.proofs.roots.push_claim.Goals as goal

pub returns-in-Some : goal.returns-in-Some
returns-in-Some c =
    on_ok c.push_root.result (claim_named c.args.cell c.in-Some.who c.args.word c.args.roots.now.items c.push_root.new.roots.items c.in-Some.ensures.few c.in-Some.ensures.some) c.push_root.ensures

pub returns-in-None : goal.returns-in-None
returns-in-None c = claim_none c.args.cell c.args.word c.args.roots.now.items c.in-None.ensures.none
