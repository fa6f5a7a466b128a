-- What was read decides whether it is run or refused.
use Rattle.std.proofs.Common.{ℕ, zero, suc, ◌≡◌, ◌+◌, ◌≤◌, ◌<◌, refl, sym, ◌∙◌, ap, subst, arith, true, false, true≢false, List, [], ◌∷◌, ◌++◌, length, take, inl, inr, Option, None, Some, is_some, Result, Ok, Err}
use Rattle.std.specs.Prelude.{◌⊎◌, IfSome, IsOk, IsErr}
use Rattle.tide_workload.specs.declared.reading.TheConstants.{MAX_BYTES}
use Rattle.tide_workload.specs.Words.{Fault, reads_workload, Work}
use Rattle.tide_run.specs.declared.stop.Stop.{Stop}
use Rattle.tide_run.specs.declared.stop.Stop.TheVariants.{Usage, ReadFault, BadInput, Memory}
use Rattle.tide_options.specs.declared.options.Options.{Options}
use Rattle.tide_run.specs.Asked.{AsksToRead, IsAskedFor, RanAsked, asks_for_made}
use Rattle.tide_run.specs.Runs.{Ran}
use Rattle.tide_run.specs.Program.{input_of, Took, ReadWork, RefusedInput, IsStatus, stop_status, stop_line, status_line}

-- the first bytes of two parts, where the first part is that long or all there is
take_first : (count : ℕ) (xs ys : List ℕ) → length xs ≤ count → (length xs < count → ys ≡ []) → take count (xs ++ ys) ≡ xs
take_first zero [] ys short ends = refl
take_first zero (x ∷ xs) ys short ends = absurd (omega arith)
take_first (suc count) [] ys short ends = ap (take (suc count)) (ends (omega arith))
take_first (suc count) (x ∷ xs) ys short ends = ap (λ (rest : List ℕ). x ∷ rest) (take_first count xs ys (omega arith) (λ less. ends (omega arith)))

-- what was taken is the input
pub took_input : (xs : List ℕ) (new : Option (List ℕ)) (bytes : List ℕ) → Took (Some xs) new bytes → bytes ≡ input_of xs
took_input xs None bytes took = absurd took.consumed
took_input xs (Some ys) bytes took =
    sym (take_first (MAX_BYTES + 1) bytes ys took.few (λ less. took.ended (omega arith))) ∙ ap (take (MAX_BYTES + 1)) (sym took.consumed)

-- input that was read isn't refused
read_work_is_ok : (xs : List ℕ) (new : Option (List ℕ)) (work : Work) → ReadWork (Some xs) new work → IsErr (reads_workload (input_of xs)) → ⊥
read_work_is_ok xs new work read refused =
    let e : reads_workload (input_of xs) ≡ Ok work = ap reads_workload (sym (took_input xs new read.bytes read.took)) ∙ read.reads in
    ok_is_no_err (reads_workload (input_of xs)) work e refused
  where
    ok_is_no_err : (r : Result Work Fault) (w : Work) → r ≡ Ok w → IsErr r → ⊥
    ok_is_no_err r w e is = let h : IsErr {E = Fault} (Ok w) = subst IsErr e is in absurd (cc)

-- and input that was refused is not run
pub refused_input_is_err : (xs : List ℕ) (new : Option (List ℕ)) (fault : Fault) → RefusedInput (Some xs) new fault → IsOk (reads_workload (input_of xs)) → ⊥
refused_input_is_err xs new fault input accepted =
    let e : reads_workload (input_of xs) ≡ Err fault = ap reads_workload (sym (took_input xs new input.bytes input.took)) ∙ input.reads in
    err_is_no_ok (reads_workload (input_of xs)) fault e accepted
  where
    err_is_no_ok : (r : Result Work Fault) (f : Fault) → r ≡ Err f → IsOk r → ⊥
    err_is_no_ok r f e is = let h : IsOk {T = Work} (Err f) = subst IsOk e is in absurd (cc)

-- words don't ask for both, a workload that is read and one that is made
pub not_both : (asked : Option Options) → AsksToRead asked → asks_for_made asked ≡ true → ⊥
not_both None reads made = reads
not_both (Some options) reads made =
    let none : is_some options.make ≡ false = ap is_some reads in
    true≢false (sym made ∙ none)

-- what was run was read, where the words ask for that
was_read : (asked : Option Options) (old new : Option (List ℕ)) (ran : Ran) → RanAsked asked old new ran → AsksToRead asked → (work : Work) × ReadWork old new work
was_read asked old new ran input reads =
    let none : input.options.make ≡ None = subst AsksToRead input.are_asked reads in
    (input.work, subst (λ (number : Option ℕ). IsAskedFor number old new input.work) none input.is_asked_for)

pub refuses-ran : (asked : Option Options) (left new : Option (List ℕ)) (ran : Ran) (B C : Type 0) → RanAsked asked left new ran →
    IfSome left (λ bytes. AsksToRead asked → IsErr (reads_workload (input_of bytes)) → B → C)
refuses-ran asked None new ran B C input = tt
refuses-ran asked (Some xs) new ran B C input = λ reads refused b.
    let read = was_read asked (Some xs) new ran input reads in absurd (read_work_is_ok xs new read.0 read.1 refused)

-- what a program that ran nothing says of what it was asked for: refused words ask for nothing, and only what was read
-- failed or was refused
pub record IsStop (asked : Option Options) (left new : Option (List ℕ)) (Faulty : Type 0) (stop : Stop) : Type 0 where
  pub usage : stop ≡ Usage → asked ≡ None
  pub read_fault : stop ≡ ReadFault → AsksToRead asked × Faulty
  pub bad_input : (fault : Fault) → stop ≡ BadInput fault → AsksToRead asked × RefusedInput left new fault

pub accepts-stop : (stop : Stop) (status : ℕ) (asked : Option Options) (left new : Option (List ℕ)) (Faulty Q : Type 0) → status ≡ stop_status stop →
    IsStop asked left new Faulty stop →
    IfSome left (λ bytes. AsksToRead asked → IsOk (reads_workload (input_of bytes)) → (Faulty → ⊥) → Q → (status ≡ 0) ⊎ (status ≡ 6))
accepts-stop stop status asked None new Faulty Q is why = tt
accepts-stop Usage status asked (Some xs) new Faulty Q is why = λ reads accepted no_fault q. absurd (subst AsksToRead (why.usage refl) reads)
accepts-stop ReadFault status asked (Some xs) new Faulty Q is why = λ reads accepted no_fault q. absurd (no_fault (why.read_fault refl).1)
accepts-stop (BadInput fault) status asked (Some xs) new Faulty Q is why = λ reads accepted no_fault q. absurd (refused_input_is_err xs new fault (why.bad_input fault refl).1 accepted)
accepts-stop Memory status asked (Some xs) new Faulty Q is why = λ reads accepted no_fault q. inr is

pub made-stop : (stop : Stop) (status : ℕ) (asked : Option Options) (left new : Option (List ℕ)) (Faulty : Type 0) → status ≡ stop_status stop →
    IsStop asked left new Faulty stop → asks_for_made asked ≡ true → (status ≡ 0) ⊎ (status ≡ 6)
made-stop Usage status asked left new Faulty is why made = let none : asks_for_made None ≡ true = subst (λ o. asks_for_made o ≡ true) (why.usage refl) made in absurd (cc)
made-stop ReadFault status asked left new Faulty is why made = absurd (not_both asked (why.read_fault refl).0 made)
made-stop (BadInput fault) status asked left new Faulty is why made = absurd (not_both asked (why.bad_input fault refl).0 made)
made-stop Memory status asked left new Faulty is why made = inr is

pub bad-stop : (stop : Stop) → stop_status stop ≡ 3 → (fault : Fault) × (stop ≡ BadInput fault)
bad-stop Usage is = absurd (omega (arith, is))
bad-stop ReadFault is = absurd (omega (arith, is))
bad-stop (BadInput fault) is = (fault, refl)
bad-stop Memory is = absurd (omega (arith, is))

-- the line of a program that ran nothing is that of its status, but for bad input
pub told-stop : (stop : Stop) (status : ℕ) → status ≡ stop_status stop → (status ≡ 3 → ⊥) → stop_line stop ≡ status_line status
told-stop Usage status is other = ap status_line (sym is)
told-stop ReadFault status is other = ap status_line (sym is)
told-stop (BadInput fault) status is other = absurd (other is)
told-stop Memory status is other = ap status_line (sym is)

-- the status of a program that ran something is one of those that there are
pub ran_status : (status : ℕ) → (status ≡ 0) ⊎ (status ≡ 5) → IsStatus status
ran_status status (inl is) = subst IsStatus (sym is) refl
ran_status status (inr is) = subst IsStatus (sym is) refl

-- and none of these
pub ran_neither : (status : ℕ) → (status ≡ 0) ⊎ (status ≡ 5) → (status ≡ 0 → ⊥) → (status ≡ 5 → ⊥) → ⊥
ran_neither status (inl is) not_whole not_part = not_whole is
ran_neither status (inr is) not_whole not_part = not_part is

-- nor that of a program that ran nothing
pub ran_is_no_stop : (status other : ℕ) → (status ≡ 0) ⊎ (status ≡ 5) → status ≡ other → (0 ≡ other → ⊥) → (5 ≡ other → ⊥) → ⊥
ran_is_no_stop status other (inl is) same not_whole not_part = not_whole (sym is ∙ same)
ran_is_no_stop status other (inr is) same not_whole not_part = not_part (sym is ∙ same)

-- what was run was asked for
pub ran_was_asked : (asked : Option Options) (left new : Option (List ℕ)) (ran : Ran) → RanAsked asked left new ran → asked ≡ None → ⊥
ran_was_asked asked left new ran input none = let some = sym none ∙ input.are_asked in absurd (cc)

-- what was run was printed, unless the sink failed
pub ran_unless : (status : ℕ) (Faulty : Type 0) → (status ≡ 0) ⊎ (status ≡ 5) → (status ≡ 5 → Faulty) → (Faulty → ⊥) → (status ≡ 0) ⊎ (status ≡ 6)
ran_unless status Faulty (inl is) why no_fault = inl is
ran_unless status Faulty (inr is) why no_fault = absurd (no_fault (why is))

pub accepts-ran : (status : ℕ) (asked : Option Options) (left : Option (List ℕ)) (Unread Faulty : Type 0) → (status ≡ 0) ⊎ (status ≡ 5) →
    (status ≡ 5 → Faulty) →
    IfSome left (λ bytes. AsksToRead asked → IsOk (reads_workload (input_of bytes)) → (Unread → ⊥) → (Faulty → ⊥) → (status ≡ 0) ⊎ (status ≡ 6))
accepts-ran status asked None Unread Faulty is why = tt
accepts-ran status asked (Some xs) Unread Faulty is why = λ reads accepted read no_fault. ran_unless status Faulty is why no_fault

-- the status of a program that ran nothing is one of those that there are, and not that of a run
pub stop_is_status : (stop : Stop) → IsStatus (stop_status stop)
stop_is_status Usage = refl
stop_is_status ReadFault = refl
stop_is_status (BadInput fault) = refl
stop_is_status Memory = refl

pub stop_did_not_run : (stop : Stop) → (stop_status stop ≡ 0) ⊎ (stop_status stop ≡ 5) → ⊥
stop_did_not_run Usage (inl is) = absurd (omega (arith, is))
stop_did_not_run Usage (inr is) = absurd (omega (arith, is))
stop_did_not_run ReadFault (inl is) = absurd (omega (arith, is))
stop_did_not_run ReadFault (inr is) = absurd (omega (arith, is))
stop_did_not_run (BadInput fault) (inl is) = absurd (omega (arith, is))
stop_did_not_run (BadInput fault) (inr is) = absurd (omega (arith, is))
stop_did_not_run Memory (inl is) = absurd (omega (arith, is))
stop_did_not_run Memory (inr is) = absurd (omega (arith, is))

-- the status tells why nothing was run
pub usage-stop : (stop : Stop) → stop_status stop ≡ 2 → stop ≡ Usage
usage-stop Usage is = refl
usage-stop ReadFault is = absurd (omega (arith, is))
usage-stop (BadInput fault) is = absurd (omega (arith, is))
usage-stop Memory is = absurd (omega (arith, is))

pub read-stop : (stop : Stop) → stop_status stop ≡ 4 → stop ≡ ReadFault
read-stop Usage is = absurd (omega (arith, is))
read-stop ReadFault is = refl
read-stop (BadInput fault) is = absurd (omega (arith, is))
read-stop Memory is = absurd (omega (arith, is))

-- refused words have their status, unless memory ran out
pub refused-stop : (stop : Stop) (status : ℕ) → status ≡ stop_status stop → (stop ≡ Usage) ⊎ (stop ≡ Memory) → (status ≡ 2) ⊎ (status ≡ 6)
refused-stop stop status is (inl usage) = inl (is ∙ ap stop_status usage)
refused-stop stop status is (inr memory) = inr (is ∙ ap stop_status memory)

-- and so has a workload that is refused, unless the source failed
pub refuses-stop : (stop : Stop) (status : ℕ) (asked : Option Options) (left new : Option (List ℕ)) (Faulty : Type 0) → status ≡ stop_status stop →
    IsStop asked left new Faulty stop →
    IfSome left (λ bytes. AsksToRead asked → IsErr (reads_workload (input_of bytes)) → (Faulty → ⊥) → (status ≡ 3) ⊎ (status ≡ 6))
refuses-stop stop status asked None new Faulty is why = tt
refuses-stop Usage status asked (Some xs) new Faulty is why = λ reads refused no_fault. absurd (subst AsksToRead (why.usage refl) reads)
refuses-stop ReadFault status asked (Some xs) new Faulty is why = λ reads refused no_fault. absurd (no_fault (why.read_fault refl).1)
refuses-stop (BadInput fault) status asked (Some xs) new Faulty is why = λ reads refused no_fault. inl is
refuses-stop Memory status asked (Some xs) new Faulty is why = λ reads refused no_fault. inr is
