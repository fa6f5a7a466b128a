-- Answers to the goals of writing::write_all.
use Rattle.std.proofs.Common.{◌≡◌, ℕ, ◌-◌, ◌++◌, List, length, take, drop, Result, Ok, Err, OnErr, arith, sym, ap, ◌∙◌, subst, append_assoc, take-append-drop}
use lib.Seq.{take-append_seam}
use Rattle.std.proofs.lemmas.List.{take_rest}
use Rattle.std.specs.Io.KnownBytes.{Appends}
use Rattle.std.proofs.KnownBytes.{Appends-trans, Appends-kept}
use Rattle.tide_io.specs.Faults.{AppendsPart}
use Rattle.tide_io.proofs.writing.write_all.Goals as goal

-- what holds anyway holds at an `Err`
on_err : {T E P : Type 0} (r : Result T E) → P → OnErr r P
on_err (Ok x) p = tt
on_err (Err e) p = p

-- the front of the rest moves over to what is done
moves_front : (all done rest : List ℕ) (n : ℕ) → all ≡ done ++ rest → all ≡ (done ++ take n rest) ++ take (length rest - n) (drop n rest)
moves_front all done rest n e =
    e ∙ ap (λ l. done ++ l) (sym (take-append-drop n rest)) ∙ sym (append_assoc done (take n rest) (drop n rest))
    ∙ ap (λ l. (done ++ take n rest) ++ l) (sym (take_rest rest n))

pub loop-rest-preserved : goal.loop-rest-preserved
loop-rest-preserved g c =
    let (done, split, appended, later) = c.loop-rest.invariant in
    let rest = c.loop-rest.rest.now in
    let n = c.in_ok-count.count in
    (done ++ take n rest, moves_front _ done rest n split, Appends-trans _ _ _ _ _ appended c.in_ok-count.ensures.bytes, omega (arith, c.in_ok-count.ensures.cause.later))

pub returns-in_err-count-clause-part : goal.returns-in_err-count-clause-part
returns-in_err-count-clause-part g c =
    let (done, split, appended, later) = c.loop-rest.invariant in
    let front = ap (take (length done)) split ∙ take-append_seam done _ in
    let got : AppendsPart (g.K.Sink.held c.args.out.now) (g.K.Sink.held c.write.new.self) c.args.piece.now =
    (length done, subst (Appends _ _) (sym front) (Appends-kept _ _ _ _ appended c.in_err-count.ensures.bytes)) in
    on_err c.from_residual.result got
