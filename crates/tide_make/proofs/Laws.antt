-- The generated workload is within the limits of a workload.
use Rattle.std.proofs.Common.{ℕ, zero, suc, ◌≡◌, ◌+◌, ◌-◌, ◌*◌, ◌/◌, ◌<◌, ◌≤◌, ◌∙◌, refl, sym, ap, subst, arith, Bool, true, false, List, [], ◌∷◌, ◌++◌, length}
use Rattle.std.proofs.lemmas.List.{length-append}
use Rattle.std.proofs.lemmas.List.Elements.{All-nil, All-cons, All-append}
use Rattle.std.proofs.lemmas.Nat.{mod_below}
use Rattle.std.specs.Prelude.{All, ◌==◌, if◌then◌else◌}
use Rattle.tide_model.specs.declared.op.Op.{Op}
use Rattle.tide_model.specs.declared.op.Op.TheVariants.{Alloc, Get, Put, Move, StrongSet}
use Rattle.tide_text.specs.work.OpArguments.{OpArguments, limits_with}
use Rattle.tide_text.specs.work.Work.{AreOperations, AreSettings, IsOperation, IsSized}
use Rattle.tide_make.specs.Made.{rounds_of, script_of, scripts_below, settings}
use Rattle.tide_make.specs.Rounds.{back, handle_of, last_op, linked_register, next_seed, own_register, place_in_chain, round_ops, seed_after}

-- what the operations of a generated workload may name
abbrev pub limits : OpArguments
limits = limits_with settings []

-- what holds of each operation of the five of a round
abbrev IsWithin : Op → Type 0
IsWithin op = IsOperation limits op

register_within : (round : ℕ) → own_register round < 10
register_within round = let below = mod_below round 7 (omega arith) in omega (arith, below)

first_within : (is_first : Bool) → (if is_first then 9 else 0) < 10
first_within true = omega arith
first_within false = omega arith

last_within : (mutator round : ℕ) (is_whole : Bool) → mutator < 4 →
    IsWithin (if is_whole then StrongSet (handle_of mutator round) 0 else Get 8 0 0)
last_within mutator round true small =
    let below = mod_below (round / 50) 64 (omega arith) in
    let handle : handle_of mutator round < 256 = omega (arith, below, small) in
    let register : 0 < 10 = omega arith in
    (handle, register)
last_within mutator round false small =
    let eighth : 8 < 10 = omega arith in
    let register : 0 < 10 = omega arith in
    let slot : 0 < 16 = omega arith in
    (eighth, register, slot)

-- one more of which something holds
one_more : (P : Op → Type 0) (op : Op) (ops : List Op) → P op → All P ops → All P (op ∷ ops)
one_more P op ops one others = All-cons P op ops one others

round_within : (mutator round seed : ℕ) → mutator < 4 → All IsWithin (round_ops mutator round seed)
round_within mutator round seed small =
    let own = own_register round in
    let before = if place_in_chain round == 0 then 9 else 0 in
    let linked = linked_register seed round in
    let last = last_op mutator round in
    let new : IsWithin (Alloc own mutator) = (register_within round, small) in
    let to_before : IsWithin (Put own 0 before) = (register_within round, omega arith, first_within (place_in_chain round == 0)) in
    let moved : IsWithin (Move 0 own) = (omega arith, register_within round) in
    let to_linked : IsWithin (Put 0 1 linked) = (omega arith, omega arith, register_within (round - back seed round)) in
    let ends : IsWithin last = last_within mutator round (place_in_chain round == 49) small in
    one_more IsWithin (Alloc own mutator) (Put own 0 before ∷ Move 0 own ∷ Put 0 1 linked ∷ last ∷ []) new
    (one_more IsWithin (Put own 0 before) (Move 0 own ∷ Put 0 1 linked ∷ last ∷ []) to_before
    (one_more IsWithin (Move 0 own) (Put 0 1 linked ∷ last ∷ []) moved
    (one_more IsWithin (Put 0 1 linked) (last ∷ []) to_linked
    (one_more IsWithin last [] ends (All-nil IsWithin)))))

-- one round more
pub rounds_more : (number mutator round : ℕ) →
    rounds_of number mutator (round + 1) ≡ rounds_of number mutator round ++ round_ops mutator round (seed_after number mutator (round + 1))
unfolding rounds_of
rounds_more number mutator round =
    let next : suc round ≡ round + 1 = omega arith in
    subst (λ (n : ℕ). rounds_of number mutator n ≡ rounds_of number mutator round ++ round_ops mutator round (seed_after number mutator n)) next refl

-- drawn once more
pub seed_more : (number mutator round : ℕ) → seed_after number mutator (round + 1) ≡ next_seed (seed_after number mutator round)
unfolding seed_after
seed_more number mutator round =
    let next : suc round ≡ round + 1 = omega arith in
    subst (λ (n : ℕ). seed_after number mutator n ≡ next_seed (seed_after number mutator round)) next refl

rounds_within : (number mutator rounds : ℕ) → mutator < 4 → All IsWithin (rounds_of number mutator rounds)
unfolding rounds_of
rounds_within number mutator zero small = All-nil IsWithin
rounds_within number mutator (suc round) small =
    All-append IsWithin (rounds_of number mutator round) (round_ops mutator round (seed_after number mutator (suc round)))
    (rounds_within number mutator round small) (round_within mutator round (seed_after number mutator (suc round)) small)

rounds_sized : (number mutator rounds : ℕ) → length (rounds_of number mutator rounds) ≡ rounds * 5
unfolding rounds_of
rounds_sized number mutator zero = refl
rounds_sized number mutator (suc round) =
    let ops = round_ops mutator round (seed_after number mutator (suc round)) in
    let five : length ops ≡ 5 = refl in
    let before = rounds_sized number mutator round in
    length-append (rounds_of number mutator round) ops ∙ omega (arith, five, before)

script_within : (number mutator : ℕ) → mutator < 4 → All IsWithin (script_of number mutator)
unfolding script_of
script_within number mutator small = rounds_within number mutator 4000 small

script_short : (number mutator : ℕ) → length (script_of number mutator) ≤ 65536
unfolding script_of
script_short number mutator = let sized = rounds_sized number mutator 4000 in omega (arith, sized)

-- each of five numbers is at most 64
five_small : (a b c d e : ℕ) → a ≤ 64 → b ≤ 64 → c ≤ 64 → d ≤ 64 → e ≤ 64 → All (λ n. n ≤ 64) (a ∷ b ∷ c ∷ d ∷ e ∷ [])
five_small a b c d e p q r s t =
    let P : ℕ → Type 0 = λ (n : ℕ). n ≤ 64 in
    All-cons P a (b ∷ c ∷ d ∷ e ∷ []) p (All-cons P b (c ∷ d ∷ e ∷ []) q (All-cons P c (d ∷ e ∷ []) r (All-cons P d (e ∷ []) s (All-cons P e [] t (All-nil P)))))

pub settings_within : AreSettings settings
settings_within = record {
  registers = (omega arith, omega arith);
  strong = omega arith;
  weak = omega arith;
  blocks = (refl, five_small 64 64 64 64 0 (omega arith) (omega arith) (omega arith) (omega arith) (omega arith));
  arrays = (refl, five_small 0 0 0 0 0 (omega arith) (omega arith) (omega arith) (omega arith) (omega arith));
  period = (omega arith, omega arith);
  headroom = (omega arith, omega arith);
  trigger = omega arith;
}

-- what holds of the script of each of four mutators
of_each : (P : List Op → Type 0) (number : ℕ) → ((mutator : ℕ) → mutator < 4 → P (script_of number mutator)) → All P (scripts_below number 4)
of_each P number each =
    let script : ℕ → List Op = λ (mutator : ℕ). script_of number mutator in
    All-cons P (script 0) (script 1 ∷ script 2 ∷ script 3 ∷ []) (each 0 (omega arith))
    (All-cons P (script 1) (script 2 ∷ script 3 ∷ []) (each 1 (omega arith))
    (All-cons P (script 2) (script 3 ∷ []) (each 2 (omega arith))
    (All-cons P (script 3) [] (each 3 (omega arith)) (All-nil P))))

pub scripts_sized : (number : ℕ) → IsSized (scripts_below number 4)
scripts_sized number = record {
  some = omega arith;
  few = omega arith;
  short = of_each (λ ops. length ops ≤ 65536) number (λ mutator small. script_short number mutator);
}

pub scripts_within : (number : ℕ) → AreOperations limits (scripts_below number 4)
scripts_within number = of_each (All IsWithin) number (script_within number)
