-- What is read is what its calls are answered.
use Rattle.std.proofs.Common.{ℕ, refl, subst, sym}
use Rattle.std.specs.Prelude.{Err, Ok, Option, Result}
use Rattle.tide.proofs.Passed.{same_stop}
use Rattle.tide.proofs.Reading.{reads, reads_nothing}
use Rattle.tide.specs.Keyed.{HasRead}
use Rattle.tide.specs.Threads.{calling_of}
use Rattle.tide.specs.declared.stop.Stop.{Stop}
use Rattle.tide_server.specs.tide_model.declared.op.Op.TheVariants.{GetProp}
use Rattle.tide_server.specs.tide_model.declared.val.Val.{Val}
use Rattle.tide.proofs.thread.Thread.get_key.Goals as goal

pub returns-in_err-call_on-clause-read : goal.returns-in_err-call_on-clause-read
returns-in_err-call_on-clause-read g c =
    let s = c.args.self.now in
    let why = c.in_err-call_on.field-0.0 in
    subst (λ (r : Result (Option Val) Stop). HasRead (λ (place : ℕ). GetProp place c.args.src c.args.key) (calling_of s)
    (calling_of c.call_on.new.self) s.base c.args.dst c.args.src r)
    (sym (same_stop c.from_residual.result why c.from_residual.ensures.1))
    (reads_nothing (λ (place : ℕ). GetProp place c.args.src c.args.key) (calling_of s) (calling_of c.call_on.new.self) s.base
    c.args.dst c.args.src c.place_for-place.result c.place_for-place.ensures (Err why) why c.in_err-call_on.ensures.done
    refl)

pub returns-in_err-read-clause-read : goal.returns-in_err-read-clause-read
returns-in_err-read-clause-read g c =
    let s = c.args.self.now in
    let why = c.in_err-read.field-0.0 in
    subst (λ (r : Result (Option Val) Stop). HasRead (λ (place : ℕ). GetProp place c.args.src c.args.key) (calling_of s)
    (calling_of c.call_on.new.self) s.base c.args.dst c.args.src r)
    (sym (same_stop c.from_residual-in_err-read.result why c.from_residual-in_err-read.ensures.1))
    (reads_nothing (λ (place : ℕ). GetProp place c.args.src c.args.key) (calling_of s) (calling_of c.call_on.new.self) s.base
    c.args.dst c.args.src c.place_for-place.result c.place_for-place.ensures (Ok c.in_ok-call_on.field-0) why
    c.in_ok-call_on.ensures.done (sym c.in_err-read.ensures))

pub returns-clause-read : goal.returns-clause-read
returns-clause-read g c =
    let s = c.args.self.now in
    reads (λ (place : ℕ). GetProp place c.args.src c.args.key) (calling_of s) (calling_of c.call_on.new.self) s.base c.args.dst
    c.args.src c.place_for-place.result c.place_for-place.ensures (calling_of c.bring.new.self) c.in_ok-call_on.field-0
    c.in_ok-read.read c.bring.result c.in_ok-call_on.ensures.done (sym c.in_ok-read.ensures) c.bring.ensures.moved
