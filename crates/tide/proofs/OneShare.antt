-- What a member is between two calls has one proof at most: its part, its share of that, and what it made are those that
-- its own entries tell.
use Rattle.std.proofs.Common.{ℕ, ◌≡◌, ◌+◌, ◌≤◌, sym, ◌∙◌, ap, arith, Bool, true, false, List, [], ◌∷◌, ◌++◌, length}
use Rattle.std.proofs.lemmas.List.{append_cancel_left, append_cancel_right}
use Rattle.std.specs.Coded.{Coded-set, coded_bool, coded_list, coded_ℕ, le_prop}
use Rattle.std.specs.Prelude.{MatchBool, Option, filter, take}
use mathlib.Core.HLevel.{is_prop→PathP}
use Rattle.tide.specs.Asking.{StandsIn}
use Rattle.tide_server.proofs.Openings.{one_opening}
use Rattle.tide_server.specs.AtWork.{IsAtWork, IsParked}
use Rattle.tide_server.specs.declared.member.Member.{Member}
use Rattle.tide_server.specs.tide_heap.tide_core.declared.machine.view.View.{View}
use Rattle.tide_server.specs.tide_model.Each.{Each}
use Rattle.tide_server.specs.tide_model.History.{is_call_of, plain}
use Rattle.tide_server.specs.tide_model.Prefix.{IsPrefix}
use Rattle.tide_server.specs.tide_model.Script.{calls_of, retry_of}
use Rattle.tide_server.specs.tide_model.Share.{HasCallLeft, has_ended}
use Rattle.tide_server.specs.tide_model.contracts.entry.Event.{the_row as event_row}
use Rattle.tide_server.specs.tide_model.contracts.op.Op.{the_row as op_row}
use Rattle.tide_server.specs.tide_model.declared.entry.Entry.TheVariants.{Open}
use Rattle.tide_server.specs.tide_model.declared.entry.Event.{Event}
use Rattle.tide_server.specs.tide_model.declared.op.Op.{Op}
use Rattle.tide_server.specs.tide_model.declared.op.Reply.{Reply}
use Rattle.tide_server.specs.tide_mutator.calls.Viewed.{view_of}
use Rattle.tide_server.specs.tide_posts.Openings.{IsOpening}
use Rattle.tide_server.specs.tide_posts.Shares.{IsSharing}

ℕ-set : IsSet ℕ
ℕ-set = Coded-set coded_ℕ

Bool-set : IsSet Bool
Bool-set = Coded-set coded_bool

events_set : IsSet (List Event)
events_set = Coded-set (coded_list event_row.coded)

op_set : IsSet Op
op_set = Coded-set op_row.coded

-- of which list it is a beginning tells the rest
prefix_prop : (xs ys : List Event) → IsProp (IsPrefix xs ys)
prefix_prop xs ys p q = λ i. record {
  rest = same i;
  joins = is_prop→PathP (λ j. xs ++ same j ≡ ys) (λ j. events_set (xs ++ same j) ys) p.joins q.joins i;
}
  where
    same : p.rest ≡ q.rest
    same = append_cancel_left xs p.rest q.rest (p.joins ∙ sym q.joins)

opening_prop : (number run : ℕ) (told : List Event) → IsProp (IsOpening number run told)
opening_prop number run told p q = λ i. record {
  before = same i;
  is = is_prop→PathP (λ j. told ≡ same j ++ last) (λ j. events_set told (same j ++ last)) p.is q.is i;
  count = ℕ-set _ _ p.count q.count i;
}
  where
    last : List Event
    last = plain (Open number run) ∷ []

    same : p.before ≡ q.before
    same = append_cancel_right p.before q.before last (sym p.is ∙ q.is)

call_left_prop : (run : ℕ) (retry : Option Op) (before : List (Op × Reply)) (call : Op × Reply) →
    IsProp (HasCallLeft run retry before call)
call_left_prop run retry before call p q = λ i. record {
  left = le_prop p.left q.left i;
  goes_on = Bool-set _ _ p.goes_on q.goes_on i;
  retries = λ op is. op_set call.0 op (p.retries op is) (q.retries op is) i;
}

each_prop : (run : ℕ) (retry : Option Op) (calls : List (Op × Reply)) → IsProp (Each (HasCallLeft run retry) calls)
each_prop run retry calls p q = λ i place call at.
    call_left_prop run retry (take place calls) call (p place call at) (q place call at) i

module _ (who number run : ℕ) (seen mine : List Event) (made : ℕ) (ended : Bool) where
  abbrev own : List Event → List Event
  own = filter (λ (event : Event). is_call_of who event.entry)

  sharing_prop : IsProp (IsSharing who number run seen mine made ended)
  sharing_prop p q = λ i. record {
    told = told i;
    opening = is_prop→PathP (λ j. IsOpening number run (told j)) (λ j. opening_prop number run (told j)) p.opening
        q.opening i;
    grows = is_prop→PathP (λ j. IsPrefix (told j) seen) (λ j. prefix_prop (told j) seen) p.grows q.grows i;
    more = more i;
    adds = is_prop→PathP (λ j. mine ≡ own (told j) ++ more j) (λ j. events_set mine (own (told j) ++ more j)) p.adds
        q.adds i;
    each = is_prop→PathP (λ j. Each (HasCallLeft run (retry_of who (told j))) (calls_of who (more j)))
        (λ j. each_prop run (retry_of who (told j)) (calls_of who (more j))) p.each q.each i;
    count = is_prop→PathP (λ j. length (calls_of who (more j)) ≡ made)
        (λ j. ℕ-set (length (calls_of who (more j))) made) p.count q.count i;
    stops = is_prop→PathP (λ j. has_ended (retry_of who (told j)) (calls_of who (more j)) ≡ ended)
        (λ j. Bool-set (has_ended (retry_of who (told j)) (calls_of who (more j))) ended) p.stops q.stops i;
    own = events_set _ _ p.own q.own i;
  }
    where
      told : p.told ≡ q.told
      told = one_opening number run run p.told q.told seen p.opening q.opening p.grows q.grows

      more : p.more ≡ q.more
      more = append_cancel_left (own q.told) p.more q.more
          (ap (λ (h : List Event). own h ++ p.more) (sym told) ∙ sym p.adds ∙ q.adds)

work_prop : (v : View) (left : ℕ) (ended : Bool) → IsProp (IsAtWork v left ended)
work_prop v left ended p q = λ i. record {
  runs = Bool-set _ _ p.runs q.runs i;
  begun = ℕ-set _ _ p.begun q.begun i;
  once = le_prop p.once q.once i;
  made = made i;
  count = is_prop→PathP (λ j. made j + left ≡ v.run) (λ j. ℕ-set (made j + left) v.run) p.count q.count i;
  few = le_prop p.few q.few i;
  sharing = is_prop→PathP (λ j. IsSharing v.who v.ticket v.run v.seen v.mine (made j) ended)
      (λ j. sharing_prop v.who v.ticket v.run v.seen v.mine (made j) ended) p.sharing q.sharing i;
  born = is_prop→PathP (λ j. v.born ≤ made j) (λ j. le_prop) p.born q.born i;
  visits = ℕ-set _ _ p.visits q.visits i;
}
  where
    made : p.made ≡ q.made
    made = let first = p.count in let second = q.count in omega (arith, first, second)

parked_prop : (v : View) → IsProp (IsParked v)
parked_prop v p q = λ i. record {
  rests = Bool-set _ _ p.rests q.rests i;
  begun = le_prop p.begun q.begun i;
  own = events_set _ _ p.own q.own i;
  opens = le_prop p.opens q.opens i;
}

either_prop : (works : Bool) (v : View) (left : ℕ) (ended : Bool) →
    IsProp (MatchBool works (IsAtWork v left ended) (IsParked v))
either_prop true v left ended = work_prop v left ended
either_prop false v left ended = parked_prop v

pub StandsIn-prop : (m : Member) → IsProp (StandsIn m)
StandsIn-prop m = either_prop m.works (view_of m.mutator) m.left m.ended
