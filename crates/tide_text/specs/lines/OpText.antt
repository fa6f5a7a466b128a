-- The text of an operation.
use Rattle.std.specs.Prelude.{ℕ, ◌<◌, List, [], ◌++◌, length, slice_index_or, codes, decimal}
use Rattle.tide_model.specs.declared.op.Op.{Op}
use Rattle.tide_model.specs.declared.op.Op.TheVariants.{Alloc, Table, Get, Put, Move, Set, Drop, Claim, Release, Unclaim, Add, GetProp, SetProp, StrongSet, StrongGet, WeakSet, WeakGet, PairSet, PairGet, PairDel, Group, Collect, Retire}

-- a register as an operand, after a space
abbrev pub register_operand : ℕ → List ℕ
register_operand r = codes " r" ++ decimal r

-- a number as an operand, after a space
abbrev pub number_operand : ℕ → List ℕ
number_operand n = codes " " ++ decimal n

-- a property key as an operand, by its name after a space
abbrev pub key_operand : List (List ℕ) → ℕ → List ℕ
key_operand keys key = codes " " ++ slice_index_or keys key []

-- an operation's text, as a workload with these names of keys writes it; `retire` is no workload's
unfoldable pub op_text : List (List ℕ) → Op → List ℕ
op_text keys (Alloc dst class) = codes "alloc" ++ register_operand dst ++ number_operand class
op_text keys (Table dst) = codes "table" ++ register_operand dst
op_text keys (Get dst src slot) = codes "get" ++ register_operand dst ++ register_operand src ++ number_operand slot
op_text keys (Put src slot val) = codes "put" ++ register_operand src ++ number_operand slot ++ register_operand val
op_text keys (Move dst src) = codes "move" ++ register_operand dst ++ register_operand src
op_text keys (Set dst n) = codes "set" ++ register_operand dst ++ number_operand n
op_text keys (Drop dst) = codes "drop" ++ register_operand dst
op_text keys (Claim src) = codes "claim" ++ register_operand src
op_text keys (Release src) = codes "release" ++ register_operand src
op_text keys Unclaim = codes "unclaim"
op_text keys (Add src key val) = codes "add" ++ register_operand src ++ key_operand keys key ++ register_operand val
op_text keys (GetProp dst src key) = codes "getp" ++ register_operand dst ++ register_operand src ++ key_operand keys key
op_text keys (SetProp src key val) = codes "setp" ++ register_operand src ++ key_operand keys key ++ register_operand val
op_text keys (StrongSet at val) = codes "strong" ++ number_operand at ++ register_operand val
op_text keys (StrongGet dst at) = codes "sget" ++ register_operand dst ++ number_operand at
op_text keys (WeakSet at val) = codes "weak" ++ number_operand at ++ register_operand val
op_text keys (WeakGet dst at) = codes "wget" ++ register_operand dst ++ number_operand at
op_text keys (PairSet src key val) = codes "pair" ++ register_operand src ++ register_operand key ++ register_operand val
op_text keys (PairGet dst src key) = codes "pget" ++ register_operand dst ++ register_operand src ++ register_operand key
op_text keys (PairDel src key) = codes "pdel" ++ register_operand src ++ register_operand key
op_text keys (Group src n) = codes "group" ++ register_operand src ++ number_operand n
op_text keys Collect = codes "collect"
op_text keys Retire = codes "retire"

-- the operations that have a text under these names of keys: the property key, where there is one, has a name
abbrev pub HasText : List (List ℕ) → Op → Type 0
HasText keys (Add src key val) = key < length keys
HasText keys (GetProp dst src key) = key < length keys
HasText keys (SetProp src key val) = key < length keys
HasText keys op = Unit {0}
