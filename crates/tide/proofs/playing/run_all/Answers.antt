-- What each member did is that it answered.
use Rattle.std.proofs.Common.{rules}
use Rattle.tide.proofs.Acting.{acted_so}
use Rattle.tide.specs.Hosts.{HasAnswered, beginning_of}
use Rattle.tide_server.specs.declared.member.Member.{Member}
use Rattle.tide_server.specs.tide_mutator.calls.Viewed.{view_of}
use Rattle.tide.proofs.playing.run_all.Goals as goal

pub returns-clause-acted : goal.returns-clause-acted
returns-clause-acted g c = acted_so _
    (λ (member : Member). HasAnswered g.F.Fn c.args.f.now (beginning_of c.args.standing.now.heap.key.layout
    c.args.standing.now.heap.table.shared.table_id c.args.roots) (view_of member.mutator).who)
    (λ m answer made. search rules) c.args.jobs.items c.play_all.result.1.items c.play_all.ensures.acted
