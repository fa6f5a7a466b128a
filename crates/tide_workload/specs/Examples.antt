-- Examples that tell what documents read as, and how the keys of paths are numbered.
use Rattle.std.specs.Prelude.{ℕ, zero, suc, ◌≡◌, List, [], ◌∷◌, ◌++◌, replicate, codes, Some, None, Ok, Err}
use Rattle.tide_model.specs.declared.op.Op.TheVariants.{Alloc, Collect}
use Rattle.tide_text.specs.declared.work.fault.Fault.TheVariants.{NotToml, Missing, Bad, BadOp}
use Rattle.tide_text.specs.declared.work.field.Field.TheVariants.{Registers, Strong, Shapes, Mutator, Other}
use Rattle.tide_workload.specs.declared.reading.TheConstants.{MAX_BYTES}
use Rattle.tide_workload.specs.Reading.{reads_workload}
use Rattle.tide_workload.specs.Shapes.{declared_by, key_names, path_words}

-- how the keys of paths are numbered, and which texts are paths
pub record PathTexts : Type 0 where
  pub first_appearance : key_names ((codes "b" ∷ codes "a" ∷ []) ∷ (codes "a" ∷ codes "c" ∷ codes "b" ∷ []) ∷ []) ≡ codes "b" ∷ codes "a" ∷ codes "c" ∷ []
  pub numbers : declared_by ((codes "b" ∷ codes "a" ∷ []) ∷ (codes "a" ∷ codes "c" ∷ []) ∷ [])
      ≡ Ok (codes "b" ∷ codes "a" ∷ codes "c" ∷ [], (0 ∷ 1 ∷ []) ∷ (1 ∷ 2 ∷ []) ∷ [])
  pub twice : declared_by ((codes "a" ∷ codes "b" ∷ codes "a" ∷ []) ∷ []) ≡ Err (Bad Shapes)
  pub spaced : path_words (codes "a  b") ≡ Some (codes "a" ∷ codes "b" ∷ [])
  pub untrimmed : path_words (codes "a ") ≡ None
  pub empty : path_words [] ≡ None

-- what some documents read as
pub record Documents : Type 0 where
  pub stored : reads_workload (codes "registers = 4\nblocks = [1, 0, 0, 0, 1]\nperiod = 16\nheadroom = 32\n[[mutator]]\nops = [\"alloc r0 0\", \"collect\"]\n") ≡ Ok (record {
    settings = record { registers = 4; strong = 0; weak = 0; blocks = 1 ∷ 0 ∷ 0 ∷ 0 ∷ 1 ∷ []; arrays = 0 ∷ 0 ∷ 0 ∷ 0 ∷ 0 ∷ []; period = 16; headroom = 32; trigger = 0 };
    keys = [];
    paths = [];
    scripts = (Alloc 0 0 ∷ Collect ∷ []) ∷ [];
  })
  pub empty : reads_workload [] ≡ Err (Missing Registers)
  pub no_text : reads_workload (255 ∷ []) ≡ Err NotToml
  pub no_document : reads_workload (codes "registers") ≡ Err NotToml
  pub bad_before_missing : reads_workload (codes "registers = 16\nstrong = 257\n") ≡ Err (Bad Strong)
  pub missing_before_other : reads_workload (codes "a = 1\n") ≡ Err (Missing Registers)
  pub other_before_operations : reads_workload (codes "registers=1\nblocks=[0,0,0,0,0]\nperiod=4\nheadroom=1\na=1\nmutator=[{}]\n") ≡ Err (Bad Other)
  pub operations_last : reads_workload (codes "registers=1\nblocks=[0,0,0,0,0]\nperiod=4\nheadroom=1\nmutator=[{ops=['drop r0','drop r1']}]\n") ≡ Err (BadOp 0 1)
  pub other_before_bad_operation : reads_workload (codes "registers=1\nblocks=[0,0,0,0,0]\nperiod=4\nheadroom=1\nmutator=[{ops=['drop r1'],a=1}]\n") ≡ Err (Bad Other)

-- the bytes of so many mutators that ask for nothing
abbrev pub idle_mutators : ℕ → List ℕ
idle_mutators zero = []
idle_mutators (suc count) = codes "{ops=[]}," ++ idle_mutators count

-- a document of the smallest settings and so many mutators that ask for nothing
abbrev pub idle_document : ℕ → List ℕ
idle_document count = codes "registers=1\nblocks=[0,0,0,0,0]\nperiod=4\nheadroom=1\nmutator=[" ++ idle_mutators count ++ codes "]\n"

-- how many mutators a document may have
pub record MutatorCounts : Type 0 where
  pub none : reads_workload (idle_document 0) ≡ Err (Bad Mutator)
  pub sixteen : reads_workload (idle_document 16) ≡ Ok (record {
    settings = record { registers = 1; strong = 0; weak = 0; blocks = replicate 5 0; arrays = replicate 5 0; period = 4; headroom = 1; trigger = 0 };
    keys = [];
    paths = [];
    scripts = replicate 16 [];
  })
  pub seventeen : reads_workload (idle_document 17) ≡ Err (Bad Mutator)

-- the limit that definitions call by name
pub record Limits : Type 0 where
  pub bytes : MAX_BYTES ≡ 4194304
