-- What was read is moved where it belongs.
use Rattle.std.proofs.Common.{inl, inr, refl, subst, sym}
use Rattle.std.specs.Prelude.{Err, Ok, Option, Some}
use Rattle.tide.proofs.Passed.{same_stop}
use Rattle.tide.proofs.Reading.{nothing_moves}
use Rattle.tide.specs.Keyed.{HasMoved}
use Rattle.tide.specs.Threads.{calling_of}
use Rattle.tide_server.specs.tide_model.declared.val.Val.{Val}
use Rattle.tide.proofs.thread.Thread.bring.Goals as goal

pub returns-in_default-clause-moved : goal.returns-in_default-clause-moved
returns-in_default-clause-moved g c =
    nothing_moves (calling_of c.args.self.now) c.args.dst c.args.place c.args.read c.in_default.not-Some

pub returns-then-place-dst-clause-moved : goal.returns-then-place-dst-clause-moved
returns-then-place-dst-clause-moved g c =
    let same = calling_of c.args.self.now in
    subst (λ (read : Option Val). HasMoved same same c.args.dst c.args.place (Ok read) (Ok (Some c.in-Some.val)))
    (sym c.in-Some.is) (inl (c.if-place-dst.true, refl, refl))

pub returns-in_err-set-clause-moved : goal.returns-in_err-set-clause-moved
returns-in_err-set-clause-moved g c =
    let why = c.in_err-set.field-0.0 in
    subst (λ (read : Option Val). HasMoved (calling_of c.args.self.now) (calling_of c.set.new.self) c.args.dst
    c.args.place (Ok read) c.from_residual.result) (sym c.in-Some.is)
    (inr (
      c.if-place-dst.false,
      Err why,
      c.in_err-set.ensures.done,
      same_stop c.from_residual.result why c.from_residual.ensures.1,
    ))

pub returns-clause-moved : goal.returns-clause-moved
returns-clause-moved g c =
    subst (λ (read : Option Val). HasMoved (calling_of c.args.self.now) (calling_of c.set.new.self) c.args.dst
    c.args.place (Ok read) (Ok (Some c.in-Some.val))) (sym c.in-Some.is)
    (inr (c.if-place-dst.false, Ok tt, c.in_ok-set.ensures.done, refl))
