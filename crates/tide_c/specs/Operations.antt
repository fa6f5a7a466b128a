-- Operations and replies in numbers.
use Rattle.std.specs.Prelude.{ℕ, List, [], ◌∷◌, None, Option, Some, get_or}
use Rattle.tide.specs.tide_model.declared.op.Op.{Op}
use Rattle.tide.specs.tide_model.declared.op.Op.TheVariants.{Add, Alloc, Claim, Collect, Drop, Get, GetProp, Group, Move, PairDel, PairGet, PairSet, Put, Release, Set, SetProp, StrongGet, StrongSet, Table, Unclaim, WeakGet, WeakSet}
use Rattle.tide.specs.tide_model.declared.op.Refusal.{Refusal}
use Rattle.tide.specs.tide_model.declared.op.Refusal.TheVariants.{Absent, ClaimsFull, Full, Held, IsTable, NoShape, NoSlot, NotCell, NotHeld, NotTable, PairsFull, Present}
use Rattle.tide.specs.tide_model.declared.op.Reply.{Reply}
use Rattle.tide.specs.tide_model.declared.op.Reply.TheVariants.{Asked, Born, Done, Refused, Seen}
use Rattle.tide.specs.tide_model.declared.val.Val.{Val}
use Rattle.tide.specs.tide_model.declared.val.Val.TheVariants.{Cell, Empty, Int}
use Rattle.tide_c.specs.declared.operation.Answer.{Answer}
use Rattle.tide_c.specs.declared.operation.Operation.{Operation}

-- what each kind says, in the order of their numbers
abbrev sayings : List (Operation → Option Op)
sayings =
    (λ o. Some (Alloc o.dst o.at)) ∷ (λ o. Some (Table o.dst)) ∷ (λ o. Some (Get o.dst o.src o.at)) ∷
    (λ o. Some (Put o.src o.at o.val)) ∷ (λ o. Some (Move o.dst o.src)) ∷ (λ o. Some (Set o.dst o.number)) ∷
    (λ o. Some (Drop o.dst)) ∷ (λ o. Some (Claim o.src)) ∷ (λ o. Some (Release o.src)) ∷ (λ o. Some Unclaim) ∷
    (λ o. Some (Add o.src o.number o.val)) ∷ (λ o. Some (GetProp o.dst o.src o.number)) ∷
    (λ o. Some (SetProp o.src o.number o.val)) ∷ (λ o. Some (StrongSet o.handle o.val)) ∷
    (λ o. Some (StrongGet o.dst o.handle)) ∷ (λ o. Some (WeakSet o.handle o.val)) ∷
    (λ o. Some (WeakGet o.dst o.handle)) ∷ (λ o. Some (PairSet o.src o.at o.val)) ∷
    (λ o. Some (PairGet o.dst o.src o.at)) ∷ (λ o. Some (PairDel o.src o.at)) ∷
    (λ o. Some (Group o.src o.number)) ∷ (λ o. Some Collect) ∷ []

-- the operation that these numbers say: none where the kind is beyond the last
abbrev pub op_of : Operation → Option Op
op_of o = get_or sayings o.kind (λ other. None) o

-- what a value is, and its number
abbrev pub told_of : Val → ℕ × ℕ
told_of Empty = (0, 0)
told_of (Int n) = (1, n)
told_of (Cell cell) = (2, cell)

-- the cause of a refusal, and its number
abbrev pub cause_of : Refusal → ℕ × ℕ
cause_of (NotCell reg) = (0, reg)
cause_of IsTable = (1, 0)
cause_of NotTable = (2, 0)
cause_of (NoSlot slot) = (3, slot)
cause_of (Held by) = (4, by)
cause_of NotHeld = (5, 0)
cause_of Present = (6, 0)
cause_of Absent = (7, 0)
cause_of NoShape = (8, 0)
cause_of PairsFull = (9, 0)
cause_of ClaimsFull = (10, 0)
cause_of (Full class) = (11, class)

abbrev answer : ℕ → ℕ × ℕ → Answer
answer kind told = record { kind = kind; what = told.0; value = told.1 }

-- a reply in numbers
abbrev pub said : Reply → Answer
said Done = answer 0 (0, 0)
said (Born cell) = answer 1 (2, cell)
said (Seen val) = answer 2 (told_of val)
said Asked = answer 3 (0, 0)
said (Refused refusal) = answer 4 (cause_of refusal)
