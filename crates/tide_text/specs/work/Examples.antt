-- Examples that tell which texts are operations, which words are numbers and which are keys.
use Rattle.std.specs.Prelude.{◌≡◌, true, false, [], ◌∷◌, codes, Some, None}
use Rattle.tide_model.specs.declared.op.Op.TheVariants.{Alloc, Table, Get, Put, Move, Set, Drop, Claim, Release, Unclaim, Add, GetProp, SetProp, StrongSet, StrongGet, WeakSet, WeakGet, PairSet, PairGet, PairDel, Group, Collect}
use Rattle.tide_text.specs.declared.work.workload.TheConstants.{MAX_MUTATORS, MAX_OPS}
use Rattle.tide_text.specs.work.Keys.{is_key}
use Rattle.tide_text.specs.work.OpArguments.{OpArguments}
use Rattle.tide_text.specs.work.ReadOp.{op_of}
use Rattle.tide_text.specs.work.Words.{words_in, number_of}

-- four registers, two handles of each kind, and the keys `a` and `next`
abbrev pub few : OpArguments
few = record { registers = 4; strong = 2; weak = 2; keys = codes "a" ∷ codes "next" ∷ [] }

-- which texts are operations there
pub record OpTexts : Type 0 where
  pub alloc : op_of few (codes "alloc r0 0") ≡ Some (Alloc 0 0)
  pub last_register : op_of few (codes "alloc r3 3") ≡ Some (Alloc 3 3)
  pub collect : op_of few (codes "collect") ≡ Some Collect
  pub get : op_of few (codes "get r1 r2 15") ≡ Some (Get 1 2 15)
  pub put : op_of few (codes "put r1 0 r2") ≡ Some (Put 1 0 2)
  pub move : op_of few (codes "move r1 r2") ≡ Some (Move 1 2)
  pub set : op_of few (codes "set r1 4294967295") ≡ Some (Set 1 4294967295)
  pub drop : op_of few (codes "drop r3") ≡ Some (Drop 3)
  pub table : op_of few (codes "table r3") ≡ Some (Table 3)
  pub claim : op_of few (codes "claim r1") ≡ Some (Claim 1)
  pub release : op_of few (codes "release r1") ≡ Some (Release 1)
  pub unclaim : op_of few (codes "unclaim") ≡ Some Unclaim
  pub add : op_of few (codes "add r1 a r2") ≡ Some (Add 1 0 2)
  pub getp : op_of few (codes "getp r1 r2 next") ≡ Some (GetProp 1 2 1)
  pub setp : op_of few (codes "setp r1 next r2") ≡ Some (SetProp 1 1 2)
  pub strong : op_of few (codes "strong 1 r2") ≡ Some (StrongSet 1 2)
  pub sget : op_of few (codes "sget r1 0") ≡ Some (StrongGet 1 0)
  pub weak : op_of few (codes "weak 1 r2") ≡ Some (WeakSet 1 2)
  pub wget : op_of few (codes "wget r1 0") ≡ Some (WeakGet 1 0)
  pub pair : op_of few (codes "pair r1 r2 r3") ≡ Some (PairSet 1 2 3)
  pub pget : op_of few (codes "pget r1 r2 r3") ≡ Some (PairGet 1 2 3)
  pub pdel : op_of few (codes "pdel r1 r2") ≡ Some (PairDel 1 2)
  pub group : op_of few (codes "group r1 7") ≡ Some (Group 1 7)
  pub no_third_handle : op_of few (codes "weak 2 r0") ≡ None
  pub no_such_key : op_of few (codes "add r1 b r2") ≡ None
  pub no_slot_sixteen : op_of few (codes "get r1 r2 16") ≡ None
  pub too_large_to_set : op_of few (codes "set r1 4294967296") ≡ None
  pub too_large_a_group : op_of few (codes "group r1 4294967296") ≡ None
  pub put_in_the_order_of_get : op_of few (codes "put r1 r2 0") ≡ None
  pub several_spaces : op_of few (codes "alloc   r1  2") ≡ Some (Alloc 1 2)
  pub leading_zeros : op_of few (codes "alloc r00 0000000001") ≡ Some (Alloc 0 1)
  pub no_fourth_register : op_of few (codes "alloc r4 0") ≡ None
  pub no_class_of_tables : op_of few (codes "alloc r0 4") ≡ None
  pub space_before : op_of few (codes " collect") ≡ None
  pub space_after : op_of few (codes "collect ") ≡ None
  pub other_white_space : op_of few (codes "alloc\tr0 0") ≡ None
  pub eleven_digits : op_of few (codes "alloc r0 00000000001") ≡ None
  pub no_digit : op_of few (codes "alloc r 0") ≡ None
  pub signed : op_of few (codes "alloc r0 +1") ≡ None
  pub too_few : op_of few (codes "alloc r0") ≡ None
  pub too_many : op_of few (codes "collect r0") ≡ None
  pub upper_case : op_of few (codes "Collect") ≡ None
  pub retire : op_of few (codes "retire") ≡ None
  pub empty : op_of few [] ≡ None

-- which words are numbers
pub record Numbers : Type 0 where
  pub largest : number_of (codes "4294967295") ≡ Some 4294967295
  pub too_large : number_of (codes "4294967296") ≡ None
  pub empty : number_of [] ≡ None
  pub words : words_in (codes "  a bc  d ") ≡ codes "a" ∷ codes "bc" ∷ codes "d" ∷ []

-- which words are keys
pub record KeyNames : Type 0 where
  pub longest : is_key (codes "abcdefghijklm_01") ≡ true
  pub too_long : is_key (codes "abcdefghijklm_012") ≡ false
  pub digit_first : is_key (codes "0a") ≡ false
  pub upper_case : is_key (codes "aB") ≡ false

-- the limits that definitions call by name
pub record Limits : Type 0 where
  pub mutators : MAX_MUTATORS ≡ 16
  pub ops : MAX_OPS ≡ 65536
