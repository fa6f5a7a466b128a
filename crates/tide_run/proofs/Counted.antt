-- The replies of all mutators' calls are as many of each kind as those of the history.
use Rattle.std.proofs.Common.{ℕ, zero, suc, ◌≡◌, ◌+◌, ◌<◌, ◌≤◌, ◌∙◌, refl, sym, ap, arith, Bool, true, false, List, [], ◌∷◌, ◌++◌, length, take, get_or, append-nil, add-one, inl, inr, eq-eqb}
use Rattle.std.proofs.lemmas.Bool.{cases_lt, eqb-true, eqb-false}
use Rattle.std.proofs.lemmas.List.{length-append, map-append, take_more}
use Rattle.std.proofs.lemmas.List.Elements.{filter-append}
use Rattle.std.specs.Prelude.{map, filter, ◌==◌, ◌⊎◌, if◌then◌else◌}
use Rattle.tide_model.specs.declared.entry.Entry.{Entry}
use Rattle.tide_model.specs.declared.entry.Entry.TheVariants.{Call, Begin, Pause, Visits, End, Taken, Sweep, Open}
use Rattle.tide_model.specs.declared.entry.Event.{Event}
use Rattle.tide_model.specs.declared.op.Op.{Op}
use Rattle.tide_model.specs.declared.op.Reply.{Reply}
use Rattle.tide_model.specs.Script.{calls_of, own_calls}
use Rattle.tide_periods.specs.Answered.{pair_of}
use Rattle.tide_periods.specs.declared.answered.Answered.{Answered}
use Rattle.tide_workload.specs.Words.{counts_with, replies_in, reply_in}
use Rattle.tide_run.proofs.running_laws.Outsiders.{own_calls-other}

-- a mutator's replies
abbrev pub replies_of : ℕ → List Event → List Reply
replies_of who history = map (λ (call : Op × Reply). call.1) (calls_of who history)

-- as the list of a mutator's calls has them
pub replies_of_calls : (who : ℕ) (history : List Event) (calls : List Answered) → map pair_of calls ≡ calls_of who history →
    map (λ (call : Answered). call.reply) calls ≡ replies_of who history
replies_of_calls who history calls are = names calls ∙ ap (map (λ (call : Op × Reply). call.1)) are
  where
    names : (some : List Answered) → map (λ (call : Answered). call.reply) some ≡ map (λ (call : Op × Reply). call.1) (map pair_of some)
    names [] = refl
    names (call ∷ some) = ap (λ (more : List Reply). call.reply ∷ more) (names some)

-- one call more
pub one_call_more : (calls : List Answered) (i : ℕ) (other : Answered) → i < length calls →
    map (λ (call : Answered). call.reply) (take i calls) ++ (get_or calls i other).reply ∷ [] ≡ map (λ (call : Answered). call.reply) (take (i + 1) calls)
one_call_more calls i other within =
    sym (map-append (λ (call : Answered). call.reply) (take i calls) (get_or calls i other ∷ []))
    ∙ sym (ap (map (λ (call : Answered). call.reply)) (take_more calls i other within))

-- the replies of so many mutators, one mutator after another
abbrev pub replies_below : ℕ → List Event → List Reply
replies_below zero history = []
replies_below (suc count) history = replies_below count history ++ replies_of count history

pub replies_below-more : (count : ℕ) (history : List Event) → replies_below count history ++ replies_of count history ≡ replies_below (count + 1) history
replies_below-more count history = ap (λ (n : ℕ). replies_below n history) (sym (add-one count))

-- a count of replies, which adds up
pub record IsCount (count : List Reply → ℕ) : Type 0 where
  pub none : count [] ≡ 0
  pub both : (these those : List Reply) → count (these ++ those) ≡ count these + count those

-- the replies of so many mutators to an entry
abbrev pub replies_to : ℕ → Entry → List Reply
replies_to zero entry = []
replies_to (suc count) entry = replies_to count entry ++ map (λ (call : Op × Reply). call.1) (own_calls count entry)

own_calls-own : (who w : ℕ) (op : Op) (reply : Reply) → (w == who) ≡ true → own_calls who (Call w op reply) ≡ (op, reply) ∷ []
own_calls-own who w op reply same = ap (λ (b : Bool). if b then (op, reply) ∷ [] else []) same

-- no mutator below this number makes the call
replies_to-above : (count w : ℕ) (op : Op) (reply : Reply) → count ≤ w → replies_to count (Call w op reply) ≡ []
replies_to-above zero w op reply above = refl
replies_to-above (suc count) w op reply above = step (replies_to-above count w op reply (omega arith)) (w == count) refl
  where
    step : replies_to count (Call w op reply) ≡ [] → (same : Bool) → (w == count) ≡ same → replies_to (suc count) (Call w op reply) ≡ []
    step before true e = (let is = eqb-true w count e in absurd (omega (arith, is, above)))
    step before false e =
        ap (λ (calls : List (Op × Reply)). replies_to count (Call w op reply) ++ map (λ (call : Op × Reply). call.1) calls) (own_calls-other count w op reply e)
        ∙ append-nil (replies_to count (Call w op reply)) ∙ before

-- one mutator below this number makes it
replies_to-below : (count w : ℕ) (op : Op) (reply : Reply) → w < count → replies_to count (Call w op reply) ≡ reply ∷ []
replies_to-below zero w op reply below = absurd (omega arith)
replies_to-below (suc count) w op reply below = step (replies_to-below count w op reply) (w == count) refl
  where
    step : (w < count → replies_to count (Call w op reply) ≡ reply ∷ []) → (same : Bool) → (w == count) ≡ same →
        replies_to (suc count) (Call w op reply) ≡ reply ∷ []
    step earlier true e =
        let is = eqb-true w count e in
        ap (λ (before : List Reply). before ++ map (λ (call : Op × Reply). call.1) (own_calls count (Call w op reply)))
        (replies_to-above count w op reply (omega (arith, is)))
        ∙ ap (map (λ (call : Op × Reply). call.1)) (own_calls-own count w op reply e)
    step earlier false e =
        let apart = eqb-false w count e in
        ap (λ (calls : List (Op × Reply)). replies_to count (Call w op reply) ++ map (λ (call : Op × Reply). call.1) calls) (own_calls-other count w op reply e)
        ∙ append-nil (replies_to count (Call w op reply)) ∙ earlier (omega (arith, apart, below))

-- to what is no call nobody has a reply
replies_to-none : (count : ℕ) (entry : Entry) → ((who : ℕ) → own_calls who entry ≡ []) → replies_to count entry ≡ []
replies_to-none zero entry none = refl
replies_to-none (suc count) entry none =
    ap (λ (calls : List (Op × Reply)). replies_to count entry ++ map (λ (call : Op × Reply). call.1) calls) (none count)
    ∙ append-nil (replies_to count entry) ∙ replies_to-none count entry none

-- where nobody above makes the call, the replies of all are the entry's
replies_to-all : (count : ℕ) (entry : Entry) → ((who : ℕ) → count ≤ who → own_calls who entry ≡ []) → replies_to count entry ≡ reply_in entry
replies_to-all count (Call w op reply) none = replies_to-below count w op reply below
  where
    step : (within : (w < count) ⊎ (count ≤ w)) → w < count
    step (inl less) = less
    step (inr past) =
        let clash = sym (own_calls-own w w op reply (eq-eqb w w refl)) ∙ none w past in absurd (cc)

    below : w < count
    below = step (cases_lt w count)
replies_to-all count (Begin cycle full) none = replies_to-none count (Begin cycle full) (λ who. refl)
replies_to-all count (Pause visits) none = replies_to-none count (Pause visits) (λ who. refl)
replies_to-all count (Visits w visits) none = replies_to-none count (Visits w visits) (λ who. refl)
replies_to-all count (End cycle freed) none = replies_to-none count (End cycle freed) (λ who. refl)
replies_to-all count (Taken block) none = replies_to-none count (Taken block) (λ who. refl)
replies_to-all count (Sweep block) none = replies_to-none count (Sweep block) (λ who. refl)
replies_to-all count (Open number run) none = replies_to-none count (Open number run) (λ who. refl)

-- with one event more
replies_below-cons : (count : List Reply → ℕ) → IsCount count → (mutators : ℕ) (event : Event) (events : List Event) →
    count (replies_below mutators (event ∷ events)) ≡ count (replies_to mutators event.entry) + count (replies_below mutators events)
replies_below-cons count is zero event events = (let none = is.none in omega (arith, none))
replies_below-cons count is (suc m) event events =
    let name = λ (call : Op × Reply). call.1 in
    let here = replies_below-cons count is m event events in
    let parts = ap count (ap (λ (own : List Reply). replies_below m (event ∷ events) ++ own) (map-append name (own_calls m event.entry) (calls_of m events))) in
    let all = is.both (replies_below m (event ∷ events)) (map name (own_calls m event.entry) ++ map name (calls_of m events)) in
    let own = is.both (map name (own_calls m event.entry)) (map name (calls_of m events)) in
    let first = is.both (replies_to m event.entry) (map name (own_calls m event.entry)) in
    let rest = is.both (replies_below m events) (map name (calls_of m events)) in
    omega (arith, here, parts, all, own, first, rest)

append-nothing : {X : Type 0} (these those : List X) → these ++ those ≡ [] → (these ≡ []) × (those ≡ [])
append-nothing [] those e = (refl, e)
append-nothing (x ∷ these) those e = absurd (cc)

-- as many as in the history
pub count_below : (count : List Reply → ℕ) → IsCount count → (mutators : ℕ) (history : List Event) → ((who : ℕ) → mutators ≤ who → calls_of who history ≡ []) →
    count (replies_below mutators history) ≡ count (replies_in history)
count_below count is mutators [] none = ap count (nothing mutators)
  where
    nothing : (m : ℕ) → replies_below m [] ≡ []
    nothing zero = refl
    nothing (suc m) = append-nil (replies_below m []) ∙ nothing m
count_below count is mutators (event ∷ events) none =
    let one = λ (who : ℕ) (past : mutators ≤ who). append-nothing (own_calls who event.entry) (calls_of who events) (none who past) in
    let here = replies_below-cons count is mutators event events in
    let first = ap count (replies_to-all mutators event.entry (λ who past. (one who past).0)) in
    let rest = count_below count is mutators events (λ who past. (one who past).1) in
    let all = is.both (reply_in event.entry) (replies_in events) in
    omega (arith, here, first, rest, all)

-- the replies that pass a test are counted
filtered : (passes : Reply → Bool) → IsCount (λ replies. length (filter passes replies))
filtered passes = record {
  none = refl;
  both = λ these those. ap length (filter-append passes these those) ∙ length-append (filter passes these) (filter passes those);
}

-- counts are the same where there are as many replies of each kind
counts_with-same : (mutators live : ℕ) (these those : List Reply) →
    ((count : List Reply → ℕ) → IsCount count → count these ≡ count those) → counts_with mutators these live ≡ counts_with mutators those live
counts_with-same mutators live these those as_many =
    let calls = as_many length (record { none = refl; both = λ xs ys. length-append xs ys }) in
    let born = as_many (λ replies. (counts_with 0 replies 0).born) (filtered _) in
    let ok = as_many (λ replies. (counts_with 0 replies 0).ok) (filtered _) in
    let cell = as_many (λ replies. (counts_with 0 replies 0).cell) (filtered _) in
    let int = as_many (λ replies. (counts_with 0 replies 0).int) (filtered _) in
    let empty = as_many (λ replies. (counts_with 0 replies 0).empty) (filtered _) in
    let asked = as_many (λ replies. (counts_with 0 replies 0).asked) (filtered _) in
    let refused = as_many (λ replies. (counts_with 0 replies 0).refused) (filtered _) in
    cc

-- the replies of all mutators are counted as those of the history
pub counts_below : (mutators : ℕ) (history : List Event) (live : ℕ) → ((who : ℕ) → mutators ≤ who → calls_of who history ≡ []) →
    counts_with mutators (replies_below mutators history) live ≡ counts_with mutators (replies_in history) live
counts_below mutators history live none =
    counts_with-same mutators live (replies_below mutators history) (replies_in history) (λ count is. count_below count is mutators history none)
