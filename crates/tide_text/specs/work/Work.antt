-- What a workload is, and the limits of its parts.
use Rattle.std.specs.Prelude.{ℕ, ◌≡◌, ◌≢◌, ◌<◌, ◌≤◌, ◌^◌, true, List, length, All, AllPairs, None}
use Rattle.tide_model.specs.declared.op.Op.{Op}
use Rattle.tide_model.specs.declared.op.Op.TheVariants.{Alloc, Table, Get, Put, Move, Set, Drop, Claim, Release, Unclaim, Add, GetProp, SetProp, StrongSet, StrongGet, WeakSet, WeakGet, PairSet, PairGet, PairDel, Group, Collect, Retire}
use Rattle.tide_shape.specs.Shapes.{first_double, IsPath}
use Rattle.tide_text.specs.declared.work.keys.TheConstants.{MAX_KEYS}
use Rattle.tide_text.specs.declared.work.workload.TheConstants.{MAX_MUTATORS, MAX_OPS}
use Rattle.tide_text.specs.declared.work.settings.Settings.{Settings}
use Rattle.tide_text.specs.work.OpArguments.{OpArguments, limits_with}
use Rattle.tide_text.specs.work.Keys.{is_key}

-- the settings, the names of the property keys by number, the declared paths as numbers of keys, and each mutator's
-- operations in order
pub record Work : Type 0 where
  pub settings : Settings
  pub keys : List (List ℕ)
  pub paths : List (List ℕ)
  pub scripts : List (List Op)

-- a number is from the least to the most
abbrev pub IsBetween : ℕ → ℕ → ℕ → Type 0
IsBetween least most n = (least ≤ n) × (n ≤ most)

-- there are numbers of five classes, each up to the most
abbrev pub AreOfFive : ℕ → List ℕ → Type 0
AreOfFive most numbers = (length numbers ≡ 5) × All (λ n. n ≤ most) numbers

-- the settings are within the limits of their fields
pub record AreSettings (settings : Settings) : Type 0 where
  pub registers : IsBetween 1 16 settings.registers
  pub strong : settings.strong ≤ 256
  pub weak : settings.weak ≤ 256
  pub blocks : AreOfFive 64 settings.blocks
  pub arrays : AreOfFive 64 settings.arrays
  pub period : IsBetween 4 65536 settings.period
  pub headroom : IsBetween 1 1000000 settings.headroom
  pub trigger : settings.trigger ≤ 1000000

-- there are mutators, at most sixteen of them, and each has at most 65,536 operations
pub record IsSized (scripts : List (List Op)) : Type 0 where
  pub some : 1 ≤ length scripts
  pub few : length scripts ≤ MAX_MUTATORS
  pub short : All (λ ops. length ops ≤ MAX_OPS) scripts

-- the names of keys are few, each is a key, and no two are the same
pub record AreKeys (keys : List (List ℕ)) : Type 0 where
  pub few : length keys ≤ MAX_KEYS
  pub each : All (λ name. is_key name ≡ true) keys
  pub distinct : AllPairs (λ earlier later. earlier ≢ later) keys

-- there are at most 64 paths, each of 1 to 64 keys that are among so many, and none names a key twice
pub record ArePaths (keys : ℕ) (paths : List (List ℕ)) : Type 0 where
  pub few : length paths ≤ 64
  pub sized : All IsPath paths
  pub named : All (λ path. All (λ key. key < keys) path) paths
  pub distinct : first_double paths ≡ None

-- the operation is one that a workload may have, with numbers in their limits
abbrev pub IsOperation : OpArguments → Op → Type 0
IsOperation limits (Alloc dst class) = (dst < limits.registers) × (class < 4)
IsOperation limits (Table dst) = dst < limits.registers
IsOperation limits (Get dst src slot) = (dst < limits.registers) × (src < limits.registers) × (slot < 16)
IsOperation limits (Put src slot val) = (src < limits.registers) × (slot < 16) × (val < limits.registers)
IsOperation limits (Move dst src) = (dst < limits.registers) × (src < limits.registers)
IsOperation limits (Set dst n) = (dst < limits.registers) × (n < 2 ^ 32)
IsOperation limits (Drop dst) = dst < limits.registers
IsOperation limits (Claim src) = src < limits.registers
IsOperation limits (Release src) = src < limits.registers
IsOperation limits Unclaim = Unit {0}
IsOperation limits (Add src key val) = (src < limits.registers) × (key < length limits.keys) × (val < limits.registers)
IsOperation limits (GetProp dst src key) = (dst < limits.registers) × (src < limits.registers) × (key < length limits.keys)
IsOperation limits (SetProp src key val) = (src < limits.registers) × (key < length limits.keys) × (val < limits.registers)
IsOperation limits (StrongSet at val) = (at < limits.strong) × (val < limits.registers)
IsOperation limits (StrongGet dst at) = (dst < limits.registers) × (at < limits.strong)
IsOperation limits (WeakSet at val) = (at < limits.weak) × (val < limits.registers)
IsOperation limits (WeakGet dst at) = (dst < limits.registers) × (at < limits.weak)
IsOperation limits (PairSet src key val) = (src < limits.registers) × (key < limits.registers) × (val < limits.registers)
IsOperation limits (PairGet dst src key) = (dst < limits.registers) × (src < limits.registers) × (key < limits.registers)
IsOperation limits (PairDel src key) = (src < limits.registers) × (key < limits.registers)
IsOperation limits (Group src n) = (src < limits.registers) × (n < 2 ^ 32)
IsOperation limits Collect = Unit {0}
IsOperation limits Retire = ⊥

-- each mutator's operations have numbers in their limits
abbrev pub AreOperations : OpArguments → List (List Op) → Type 0
AreOperations limits scripts = All (λ ops. All (IsOperation limits) ops) scripts

-- what a workload's operations may name
abbrev pub limits_of : Work → OpArguments
limits_of work = limits_with work.settings work.keys

-- a workload within its limits
pub record IsWork (work : Work) : Type 0 where
  pub limits : AreSettings work.settings
  pub keys : AreKeys work.keys
  pub paths : ArePaths (length work.keys) work.paths
  pub sized : IsSized work.scripts
  pub operations : AreOperations (limits_of work) work.scripts
