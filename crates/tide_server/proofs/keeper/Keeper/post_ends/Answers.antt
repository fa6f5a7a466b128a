-- An end was posted at each place so far.
use Rattle.std.proofs.Common.{ℕ, ◌≡◌, ◌↔◌, ◌<◌, ◌≤◌, ◌∷◌, ◌∙◌, ◌⊎◌, Bool, arith, ap, refl, rules, subst}
use Rattle.std.specs.Prelude.{if◌then◌else◌}
use Rattle.tide_posts.specs.Among.{Among}
use Rattle.tide_posts.specs.Name.{Name, places}
use Rattle.tide_posts.specs.tide_hands.declared.view.HandView.{HandView}
use Rattle.tide_server.proofs.Handing.{ahead-more, ends-more, ends-none}
use Rattle.tide_server.proofs.keeper.Keeper.post_ends.Goals as goal

pub loop-place-init : goal.loop-place-init
loop-place-init g c = record {
  of = c.requires.of;
  over = λ less. absurd (
      let start : c.from-mutators.result ≡ c.args.standing.now.heap.key.layout.mutators = search rules in omega (arith, less, start));
  behind = (let start : c.from-mutators.result ≡ c.args.standing.now.heap.key.layout.mutators = search rules in omega (arith, start));
  ends = λ q. let start : c.from-mutators.result ≡ c.args.standing.now.heap.key.layout.mutators = search rules in
      ends-none q c.args.standing.now.heap.key.layout.mutators c.from-mutators.result start c.args.self.now.seat.seat.me.0.ends;
  posted = search rules;
  ahead = λ q later below. c.requires.due q below;
  collector = refl;
  books = refl;
  sums = refl;
  stopped = refl;
}

pub loop-place-preserved : goal.loop-place-preserved
loop-place-preserved g c =
    let so = c.loop-place.invariant in
    let layout = c.args.standing.now.heap.key.layout in
    let place = c.loop-place.place in
    let post = c.post_end.ensures in
    let was = c.loop-place.self.seat.seat.me.0 in
    let now = c.post_end.new.self.seat.me.0 in
    let below : place < places layout = search rules in
    let sure = post.sure (so.ahead place (omega arith) below) in
    let did = post.posted sure in
    let more = did.1 in
    let had = so.posted in
    record {
      of = record {
        table = so.of.table;
        seated = post.same.0 ∙ so.of.seated;
        named = ap (λ (h : HandView Name). h.name) post.kept ∙ so.of.named;
      };
      over = λ less. did.0;
      behind = (let were = so.behind in omega (arith, were));
      ends = λ q. ends-more q layout.mutators place so.behind c.args.self.now.seat.seat.me.0.ends was.ends now.ends
          (post.ends ∙ ap (λ (b : Bool). if b then place ∷ was.ends else was.ends) sure) (so.ends q);
      posted = omega (arith, had, more);
      ahead = ahead-more layout c.args.self.now.left place was.free now.free post.free so.ahead;
      collector = so.collector;
      books = so.books;
      sums = so.sums;
      stopped = so.stopped;
    }

pub returns-clause-ends : goal.returns-clause-ends
returns-clause-ends g c = λ q.
    let layout = c.args.standing.now.heap.key.layout in
    let all : c.loop-place.place ≡ places layout = search rules in
    subst (λ (n : ℕ). Among q c.loop-place.self.seat.seat.me.0.ends
    ↔ (Among q c.args.self.now.seat.seat.me.0.ends ⊎ ((layout.mutators ≤ q) × (q < n)))) all (c.loop-place.invariant.ends q)
