-- What was run was asked for and printed; what wasn't run has its cause, which its status tells.
use Rattle.std.proofs.Common.{ℕ, ◌≡◌, ◌∙◌, ap, arith, inl, inr, refl, sym, subst, Err, Option}
use Rattle.std.proofs.KnownBytes.{Keeps-refl}
use Rattle.std.specs.Prelude.{◌⊎◌, IsSomeAnd}
use Rattle.tide_io.specs.Faults.{Rose}
use Rattle.tide_options.specs.Options.{asked_by}
use Rattle.tide_shape.specs.Shapes.{shapes_of_paths}
use Rattle.tide_run.specs.Asked.{Prints, PrintsPart, RanAsked, asks_for_snapshot}
use Rattle.tide_run.specs.Program.{stop_line, stop_status, IsStatus, TellsLine}
use Rattle.tide_run.specs.Runs.{Ran}
use Rattle.tide_run.proofs.Causes.{IsStop, accepts-ran, accepts-stop, bad-stop, made-stop, ran_is_no_stop, ran_neither, ran_status, ran_unless, ran_was_asked, read-stop, refused-stop, refuses-ran, refuses-stop, stop_did_not_run, stop_is_status, told-stop, usage-stop}
use Rattle.tide_run.proofs.Shown.{keys_shown, printed_is_asked}
use Rattle.tide_run.proofs.program.riptide.Goals as goal

pub print-requires-clause-shapes : goal.print-requires-clause-shapes
print-requires-clause-shapes g c =
    keys_shown (asks_for_snapshot (asked_by c.args.words.now)) (shapes_of_paths c.in-Ok.done.load.paths) c.in-Ok.done.outcome c.in-Ok.done.snapshot c.in-Ok.ensures.shown

pub returns-in-Ok : goal.returns-in-Ok
returns-in-Ok g c =
    let asked = asked_by c.args.words.now in
    let left = g.S.Source.left c.args.source.now in
    let new = g.S.Source.left c.attempt.new.source in
    let held = g.K.Sink.held c.args.out.now in
    let printed = g.K.Sink.held c.print.new.out in
    let outcome : Ran = c.in-Ok.done.outcome in
    let status : ℕ = c.print.result.status in
    let ended = c.print.ensures in
    let was = c.in-Ok.ensures in
    record {
      status = ran_status status ended.status;
      ran = λ _. subst (λ (o : Option Ran). IsSomeAnd o (RanAsked asked left new)) (sym ended.outcome) was.ran;
      printed = λ is.
          let (text, whole, appends) = ended.printed is in
          subst (λ (o : Option Ran). IsSomeAnd o (Prints asked held printed)) (sym ended.outcome)
          (text, printed_is_asked asked (shapes_of_paths c.in-Ok.done.load.paths) c.in-Ok.done text was.keys was.prints was.stats was.shown whole, appends);
      printed_part = λ is.
          let (text, whole, appends) = ended.part is in
          subst (λ (o : Option Ran). IsSomeAnd o (PrintsPart asked held printed)) (sym ended.outcome)
          (text, printed_is_asked asked (shapes_of_paths c.in-Ok.done.load.paths) c.in-Ok.done text was.keys was.prints was.stats was.shown whole, appends);
      handed_on = ended.handed_on;
      no_outcome = λ not_whole not_part. absurd (ran_neither status ended.status not_whole not_part);
      nothing_printed = λ not_whole not_part. absurd (ran_neither status ended.status not_whole not_part);
      usage = λ is. absurd (ran_is_no_stop status 2 ended.status is (λ e. omega (arith, e)) (λ e. omega (arith, e)));
      refused = λ none. absurd (ran_was_asked asked left new outcome was.ran none);
      unread = λ is. absurd (ran_is_no_stop status 2 ended.status is (λ e. omega (arith, e)) (λ e. omega (arith, e)));
      bad_input = λ is. absurd (ran_is_no_stop status 3 ended.status is (λ e. omega (arith, e)) (λ e. omega (arith, e)));
      read_fault = λ is. absurd (ran_is_no_stop status 4 ended.status is (λ e. omega (arith, e)) (λ e. omega (arith, e)));
      write_fault = ended.write_fault;
      accepts = accepts-ran status asked left _ _ ended.status ended.write_fault;
      refuses = refuses-ran asked left new outcome _ _ was.ran;
      made = λ _ no_fault. ran_unless status _ ended.status ended.write_fault no_fault;
      unread_made = c.attempt.ensures.unread_made;
      quiet = ended.quiet;
      told = λ not_whole _. ended.told not_whole;
      source_faults = c.attempt.ensures.later;
      out_faults = ended.later_out;
      err_faults = ended.later_err;
    }

pub returns-in-Err : goal.returns-in-Err
returns-in-Err g c =
    let asked = asked_by c.args.words.now in
    let left = g.S.Source.left c.args.source.now in
    let new = g.S.Source.left c.attempt.new.source in
    let stop = c.in-Err.stop in
    let status : ℕ = c.status.result in
    let is_of : status ≡ stop_status stop = c.status.ensures in
    let why = c.in-Err.ensures in
    let Faulty = Rose (g.S.Source.faults c.args.source.now) (g.S.Source.faults c.attempt.new.source) in
    let cause : IsStop asked left new Faulty stop = record {
      usage = λ is. why.usage (ap Err is);
      read_fault = λ is. why.read_fault (ap Err is);
      bad_input = λ fault is. why.bad_input fault (ap Err is);
    } in
    record {
      status = subst IsStatus (sym is_of) (stop_is_status stop);
      ran = λ ran. absurd (stop_did_not_run stop (subst (λ (n : ℕ). (n ≡ 0) ⊎ (n ≡ 5)) is_of ran));
      printed = λ is. absurd (stop_did_not_run stop (inl (sym is_of ∙ is)));
      printed_part = λ is. absurd (stop_did_not_run stop (inr (sym is_of ∙ is)));
      handed_on = λ is. absurd (stop_did_not_run stop (inl (sym is_of ∙ is)));
      no_outcome = λ _ _. refl;
      nothing_printed = λ _ _. Keeps-refl (g.K.Sink.held c.args.out.now);
      usage = λ is. why.usage (ap Err (usage-stop stop (sym is_of ∙ is)));
      refused = λ none. refused-stop stop status is_of (why.words none);
      unread = λ is. why.unread (ap Err (usage-stop stop (sym is_of ∙ is)));
      bad_input = λ is.
          let bad = bad-stop stop (sym is_of ∙ is) in
          let read = why.bad_input bad.0 (ap Err bad.1) in
          (read.0, record { fault = bad.0; refused = read.1; told = subst (TellsLine _ _ _ _) (ap stop_line bad.1) c.tell.ensures });
      read_fault = λ is. why.read_fault (ap Err (read-stop stop (sym is_of ∙ is)));
      write_fault = λ is. absurd (stop_did_not_run stop (inr (sym is_of ∙ is)));
      accepts = accepts-stop stop status asked left new _ _ is_of cause;
      refuses = refuses-stop stop status asked left new _ is_of cause;
      made = λ made _. made-stop stop status asked left new Faulty is_of cause made;
      unread_made = c.attempt.ensures.unread_made;
      quiet = λ is. absurd (stop_did_not_run stop (inl (sym is_of ∙ is)));
      told = λ _ other. subst (TellsLine _ _ _ _) (told-stop stop status is_of other) c.tell.ensures;
      source_faults = c.attempt.ensures.later;
      out_faults = omega arith;
      err_faults = c.tell.ensures.later;
    }
