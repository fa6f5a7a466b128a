-- What registers hold after a call, as its reply tells.
use Rattle.std.specs.Prelude.{ℕ, List, Option, None, Some, get_or, slice_set}
use Rattle.tide_server.specs.tide_model.declared.op.Op.{Op}
use Rattle.tide_server.specs.tide_model.declared.op.Op.TheVariants.{Alloc, Table, Get, Move, Set, Drop, GetProp, StrongGet, WeakGet, PairGet}
use Rattle.tide_server.specs.tide_model.declared.op.Reply.{Reply}
use Rattle.tide_server.specs.tide_model.declared.op.Reply.TheVariants.{Born, Done, Seen}
use Rattle.tide_server.specs.tide_model.declared.val.Val.{Val}
use Rattle.tide_server.specs.tide_model.declared.val.Val.TheVariants.{Cell, Empty, Int}

-- the register that an operation stores a value in
abbrev pub target_of : Op → Option ℕ
target_of (Alloc dst class) = Some dst
target_of (Table dst) = Some dst
target_of (Get dst src slot) = Some dst
target_of (Move dst src) = Some dst
target_of (Set dst n) = Some dst
target_of (Drop dst) = Some dst
target_of (GetProp dst src key) = Some dst
target_of (StrongGet dst at) = Some dst
target_of (WeakGet dst at) = Some dst
target_of (PairGet dst src key) = Some dst
target_of _ = None

-- the value that an operation stores there that is done, where the register that it names holds this
abbrev pub stored_by : (ℕ → Val) → Op → Option Val
stored_by held (Move dst src) = Some (held src)
stored_by held (Set dst n) = Some (Int n)
stored_by held (Drop dst) = Some Empty
stored_by held _ = None

-- the value that a call leaves there, as its reply tells
abbrev pub left_by : (ℕ → Val) → Op → Reply → Option Val
left_by held op (Born cell) = Some (Cell cell)
left_by held op (Seen val) = Some val
left_by held op Done = stored_by held op
left_by held op _ = None

-- registers of which one may hold a new value
abbrev pub with_value : Option ℕ → Option Val → List Val → List Val
with_value (Some dst) (Some val) told = slice_set told dst val
with_value _ _ told = told

-- what a register holds, as replies told
abbrev pub told_at : List Val → ℕ → Val
told_at told register = get_or told register Empty

-- what registers hold after a call
abbrev pub told_after : Op → Reply → List Val → List Val
told_after op reply told = with_value (target_of op) (left_by (told_at told) op reply) told
