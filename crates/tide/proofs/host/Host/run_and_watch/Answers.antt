-- Members that have made no call yet may be taken by their threads, and each leaves an answer.
use Rattle.std.proofs.Common.{◌∙◌, ap, arith, subst, sym, List, length}
use Rattle.std.proofs.lemmas.List.{length-map}
use Rattle.std.proofs.lemmas.Slice.Zip.{AllZip-long}
use Rattle.std.specs.List.{AllZip}
use Rattle.tide.proofs.Counting.{counts_all}
use Rattle.tide.proofs.Watching.{told_all}
use Rattle.tide.proofs.Seats.{all_answers, all_are_new, all_left_answers, are_answers, each_is_new, job_of}
use Rattle.tide.specs.Hosts.{HasActed, HasAnswered, beginning_of}
use Rattle.tide.specs.Told.{TellsRun}
use Rattle.tide.specs.Watched.{WasTold}
use Rattle.tide.specs.declared.jobs.Job.{Job}
use Rattle.tide_server.specs.Keepers as keepers
use Rattle.tide_server.specs.declared.member.Member.{Member}
use Rattle.tide_server.specs.tide_heap.tide_core.declared.machine.view.View.{View}
use Rattle.tide_server.specs.tide_heap.tide_freeze.declared.books.Books.{Books}
use Rattle.tide_server.specs.tide_model.Periods.{IsLegal, open_count}
use Rattle.tide_server.specs.tide_model.declared.entry.Event.{Event}
use Rattle.tide_server.specs.tide_mutator.calls.Viewed.{view_of}
use Rattle.tide_server.specs.tide_posts.Schedule.{IsLegalWhere}
use Rattle.tide_server.specs.tide_sched.Paces.{pace_of}
use Rattle.tide_server.specs.tide_sched.declared.pacing.Pacing.{Pacing}
use Rattle.tide_server.specs.tide_shape.Lists.{lists_of}
use Rattle.tide.proofs.host.Host.run_and_watch.Goals as goal

pub run_all-kept-requires-clause-may : goal.run_all-kept-requires-clause-may
run_all-kept-requires-clause-may g c κs within =
    let o = c.args.self.opened in
    let layout = o.standing.heap.key.layout in
    let heap = o.standing.heap.table.shared.table_id in
    let hands = o.standing.hands.shared.table_id in
    each_is_new layout heap hands o.members.items c.in_ok-jobs.jobs.items
    (all_are_new layout heap hands 0 o.members.items c.requires.stands.members) c.in_ok-jobs.ensures

pub answers_of-requires-clause-room : goal.answers_of-requires-clause-room
answers_of-requires-clause-room g c =
    let played = c.run_all-kept.result.1 in
    let members = c.args.self.opened.members in
    let heap = c.args.self.opened.standing.heap in
    let begins = beginning_of heap.key.layout heap.table.shared.table_id c.args.self.roots in
    let acts : Member → g.row.T.Denot → Type 0 =
    λ (member : Member). HasAnswered g.F.Fn c.args.f.now begins (view_of member.mutator).who in
    let long = AllZip-long (HasActed acts) c.in_ok-jobs.jobs.items played.items c.run_all-kept.ensures.acted in
    let count = ap length c.in_ok-jobs.ensures ∙ length-map members.items job_of in
    let all = played.ok.0 in
    let few = members.ok.0 in
    let room = c.in_ok-answers.ensures.capacity in
    omega (arith, long, count, all, few, room)

pub answers_of-requires-clause-each : goal.answers_of-requires-clause-each
answers_of-requires-clause-each g c =
    let heap = c.args.self.opened.standing.heap in
    let begins = beginning_of heap.key.layout heap.table.shared.table_id c.args.self.roots in
    all_left_answers (λ (member : Member). HasAnswered g.F.Fn c.args.f.now begins (view_of member.mutator).who)
    c.in_ok-jobs.jobs.items c.run_all-kept.result.1.items c.run_all-kept.ensures.acted

pub returns-clause-where_early : goal.returns-clause-where_early
returns-clause-where_early g c =
    let key = c.args.self.opened.standing.heap.key in
    let legal = c.finish.ensures.where_early in (
      legal.0,
      c.has_stopped.ensures ∙ legal.1,
      subst (λ (pacing : Pacing). IsLegalWhere (pace_of pacing) key.layout (lists_of key.shapes) legal.0
          c.finish.result.seat.me.0.seen) (ap (λ (b : Books). b.pacing) c.sum_up.ensures.same.1 ∙ c.run_all-kept.ensures.pacing)
          legal.2,
    )

pub returns-clause-legal : goal.returns-clause-legal
returns-clause-legal g c none =
    let key = c.args.self.opened.standing.heap.key in
    subst (λ (pacing : Pacing). IsLegal (pace_of pacing) key.layout (lists_of key.shapes) c.finish.result.seat.me.0.seen)
    (ap (λ (b : Books). b.pacing) c.sum_up.ensures.same.1 ∙ c.run_all-kept.ensures.pacing)
    (c.finish.ensures.legal (sym c.has_stopped.ensures ∙ none))

pub sum_up-requires-clause-counted : goal.sum_up-requires-clause-counted
sum_up-requires-clause-counted g c =
    let o = c.args.self.opened in
    let layout = o.standing.heap.key.layout in
    let first = keepers.view_of o.keeper in
    let kept = c.run_all-kept.result.0 in
    let seen = (keepers.view_of kept.keeper).seen in
    counts_all layout first.start seen first.period (open_count seen) kept.tally c.requires.stands.fresh
    c.requires.stands.first c.run_all-kept.ensures.counted

pub returns-clause-told : goal.returns-clause-told
returns-clause-told g c =
    let layout = c.args.self.opened.standing.heap.key.layout in
    subst (λ (events : List Event). TellsRun layout events c.sum_up.result)
    (sym (c.finish.ensures.history ∙ ap (λ (v : View). v.seen) c.sum_up.ensures.same.0)) c.sum_up.ensures.told

pub returns-clause-watched : goal.returns-clause-watched
returns-clause-watched g c =
    let o = c.args.self.opened in
    let layout = o.standing.heap.key.layout in
    let first = keepers.view_of o.keeper in
    let kept = c.run_all-kept.result.0 in
    let seen = (keepers.view_of kept.keeper).seen in
    subst (λ (events : List Event). WasTold g.W.FnMut layout events c.args.watch kept.watch)
    (sym (c.finish.ensures.history ∙ ap (λ (v : View). v.seen) c.sum_up.ensures.same.0))
    (told_all g.W.FnMut layout first.start first.period c.args.watch seen kept.watch c.requires.stands.fresh
    c.requires.stands.first c.run_all-kept.ensures.watched)

pub returns-clause-all : goal.returns-clause-all
returns-clause-all g c =
    let o = c.args.self.opened in
    let standing = o.standing in
    let begins = beginning_of standing.heap.key.layout standing.heap.table.shared.table_id c.args.self.roots in
    all_answers g.F.Fn c.args.f.now begins standing.heap.key.layout standing.heap.table.shared.table_id
    standing.hands.shared.table_id o.members.items c.in_ok-jobs.jobs.items c.run_all-kept.result.1.items
    c.answers_of.result.items c.in_ok-jobs.ensures c.run_all-kept.ensures.acted c.answers_of.ensures
    ∙ c.requires.stands.count

pub returns-clause-answers : goal.returns-clause-answers
returns-clause-answers g c =
    let o = c.args.self.opened in
    let standing = o.standing in
    let layout = standing.heap.key.layout in
    let begins = beginning_of layout standing.heap.table.shared.table_id c.args.self.roots in
    let acts : Member → g.row.T.Denot → Type 0 =
    λ (member : Member). HasAnswered g.F.Fn c.args.f.now begins (view_of member.mutator).who in
    are_answers g.F.Fn c.args.f.now begins layout standing.heap.table.shared.table_id standing.hands.shared.table_id 0
    o.members.items c.run_all-kept.result.1.items c.answers_of.result.items c.requires.stands.members
    (subst (λ (jobs : List (Job g.row.T.Denot)). AllZip (HasActed acts) jobs c.run_all-kept.result.1.items)
    c.in_ok-jobs.ensures c.run_all-kept.ensures.acted) c.answers_of.ensures
