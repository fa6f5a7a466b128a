-- One more number is read: it stands behind those so far, which are all that the value's array has at last.
use Rattle.std.proofs.Common.{◌≡◌, ◌≤◌, ◌<◌, ◌+◌, ◌++◌, ◌∷◌, [], List, ◌∙◌, Result, Ok, arith, ap, length, take, add-one, length-set, refl, sym}
use Rattle.std.proofs.lemmas.List.{take_all}
use Rattle.std.proofs.lemmas.List.Elements.{All-nil, All-same}
use Rattle.std.proofs.lemmas.Result.{err_from_is_err_and}
use Rattle.std.proofs.Math.ListN.{set}
use Rattle.std.proofs.Math.Seq.{take-suc-set}
use Rattle.toml.specs.Data.{Data}
use Rattle.toml.specs.View.{view}
use Rattle.tide_text.specs.declared.work.fault.Fault.{Fault}
use Rattle.tide_workload.specs.Fields.{number_in}
use Rattle.tide_workload.specs.Steps.{◌>>=◌, each}
use Rattle.tide_workload.proofs.EachLemmas.{Reads-all, Reads-err, Reads-more, Reads-none, pushed_all}
use Rattle.tide_workload.proofs.fields.five_in.Goals as goal

pub loop-i-preserved : goal.loop-i-preserved
loop-i-preserved c =
    let i = c.loop-i.i in
    let numbers = c.loop-i.numbers in
    let number = c.in_ok-numbers.field-0 in
    let five : length c.in_ok-values.values.now ≡ 5 = omega (arith, c.in_ok-values.ensures.within) in
    let within : i < length c.in_ok-values.values.now = omega arith in
    let here : i < length numbers = omega arith in
    let more : take (i + 1) (set numbers i number) ≡ take i numbers ++ number ∷ [] = rw add-one (take-suc-set numbers i number here) in (
      length-set numbers i number ∙ c.loop-i.invariant.0,
      pushed_all (take i numbers) (take (i + 1) (set numbers i number)) number more (λ n. n ≤ c.args.most) c.loop-i.invariant.1 c.in_ok-numbers.ensures.within,
      rw more (Reads-more (number_in c.args.field 0 c.args.most) view (take i numbers) c.in_ok-values.values.now i c.index-values-i.result number within
          c.index-values-i.is (sym c.in_ok-numbers.ensures.value) c.loop-i.invariant.2),
    )

pub loop-i-init : goal.loop-i-init
loop-i-init c = (refl, All-nil (λ n. n ≤ c.args.most), Reads-none (number_in c.args.field 0 c.args.most) view c.in_ok-values.values.now)

pub returns-in_err-values-clause-value : goal.returns-in_err-values-clause-value
returns-in_err-values-clause-value c =
    let failed = err_from_is_err_and c.from_residual.result c.from_residual.ensures.1 in
    rw (failed.1, failed.2) (ap (λ (values : Result (List Data) Fault). values >>= each (number_in c.args.field 0 c.args.most)) c.in_err-values.ensures.value)

pub returns-in_err-numbers-clause-value : goal.returns-in_err-numbers-clause-value
returns-in_err-numbers-clause-value c =
    let five : length c.in_ok-values.values.now ≡ 5 = omega (arith, c.in_ok-values.ensures.within) in
    let within : c.loop-i.i < length c.in_ok-values.values.now = omega arith in
    let number = number_in c.args.field 0 c.args.most in
    let failed = err_from_is_err_and c.from_residual-in_err-numbers.result c.from_residual-in_err-numbers.ensures.1 in
    rw (failed.1, failed.2)
    (sym (Reads-err number view (take c.loop-i.i c.loop-i.numbers) c.in_ok-values.values.now c.loop-i.i c.index-values-i.result c.in_err-numbers.field-0.0 within
    c.index-values-i.is (sym c.in_err-numbers.ensures.value) c.loop-i.invariant.2)
    ∙ ap (λ (values : Result (List Data) Fault). values >>= each number) c.in_ok-values.ensures.value)

pub returns-clause-value : goal.returns-clause-value
returns-clause-value c =
    let i = c.loop-i.i in
    let numbers = c.loop-i.numbers in
    let five : length c.in_ok-values.values.now ≡ 5 = omega (arith, c.in_ok-values.ensures.within) in
    let past : length c.in_ok-values.values.now ≤ i = omega arith in
    let all : take i numbers ≡ numbers = take_all i numbers (omega arith) in
    let number = number_in c.args.field 0 c.args.most in
    sym (ap Ok all) ∙ sym (Reads-all number view (take i numbers) c.in_ok-values.values.now i past c.loop-i.invariant.2)
    ∙ ap (λ (values : Result (List Data) Fault). values >>= each number) c.in_ok-values.ensures.value

pub returns-clause-within : goal.returns-clause-within
returns-clause-within c =
    let numbers = c.loop-i.numbers in
    let all : take c.loop-i.i numbers ≡ numbers = take_all c.loop-i.i numbers (omega arith) in
    (c.loop-i.invariant.0, All-same (λ n. n ≤ c.args.most) numbers (take c.loop-i.i numbers) (sym all) c.loop-i.invariant.1)
