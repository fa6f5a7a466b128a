-- The realm takes part in the open part.
use Rattle.std.proofs.Common.{ℕ, ◌∙◌, sym, ap, subst, arith}
use Rattle.tide.proofs.Parts.{has_begun}
use Rattle.tide.specs.Parts.{IsIdleBefore, IsInPart}
use Rattle.tide.specs.tide_core.declared.machine.view.View.{View}
use Rattle.tide.specs.tide_weakref.Jobs.{Jobs}
use Rattle.tide.specs.tide_weakref.Viewed.{view_of}
use Rattle.embed_weakref.proofs.parts.begin.Goals as goal

pub begin-requires-clause-parked : goal.begin-requires-clause-parked
begin-requires-clause-parked c = c.requires.idle.1.stopped

pub begin-requires-clause-stays : goal.begin-requires-clause-stays
begin-requires-clause-stays c = c.requires.idle.1.stays

pub begin-requires-clause-later : goal.begin-requires-clause-later
begin-requires-clause-later c =
    let last = c.requires.idle.1.period in
    let later = c.requires.idle.2 in
    let heard = ap (λ (x : View). x.period) c.ticket-ticket.ensures.ticket.1 in
    omega (arith, last, later, heard)

pub returns : goal.returns
returns c =
    let v = view_of c.args.realm.now in
    let u = view_of c.begin.new.self in
    let t = c.ticket-ticket.result.seat.me.0 in
    let heard = ap (λ (x : View). x.period) c.ticket-ticket.ensures.ticket.1 in
    let same = ap (λ (x : View). x.period) c.ticket-ticket.ensures.same.2 in
    let begun = has_begun 0 v t u (subst (λ (n : ℕ). IsIdleBefore 0 n v) (sym heard) c.requires.idle) c.begin.ensures.begun in
    let is = c.requires.idle.1.is in
    let some = c.requires.mutator in
    record {
      same = (c.ticket-ticket.ensures.same.0, c.ticket-ticket.ensures.same.2);
      takes_part = record {
        in_part = subst (λ (n : ℕ). IsInPart 0 n u) (heard ∙ sym same) begun.part;
        unvisited = begun.visits;
        ready = c.begin.ensures.ready (omega (arith, is, some)) c.requires.kept;
        scratch = ap (λ (j : Jobs). j.scratch) c.begin.ensures.jobs ∙ c.requires.scratch;
      };
      jobs = c.begin.ensures.jobs;
      fresh = begun.born;
    }
