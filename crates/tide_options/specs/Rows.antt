-- Command lines, and what they read as.
use Rattle.std.specs.Prelude.{ℕ, ◌≡◌, Bool, true, false, List, [], ◌∷◌, Option, Some, None, codes}
use Rattle.clap.specs.Words.{Text}
use Rattle.tide_options.specs.declared.options.Options.{Options}
use Rattle.tide_options.specs.Options.{reads_options}

-- the options that the words after the program's name ask for
abbrev pub after_name : List Text → Option Options
after_name words = reads_options (codes "riptide" ∷ words)

-- so many visitors, and nothing else
abbrev pub beside : ℕ → Option Options
beside visitors = Some (record { visitors = visitors; plain = false; make = None; snapshot = false; stats = false })

-- no visitors, and so
abbrev pub alone : Bool → Option ℕ → Option Options
alone plain make = Some (record { visitors = 0; plain = plain; make = make; snapshot = false; stats = false })

-- so many visitors, and a snapshot
abbrev pub shown : ℕ → Option Options
shown visitors = Some (record { visitors = visitors; plain = false; make = None; snapshot = true; stats = false })

-- so many visitors, lines of cycles, and a snapshot or none
abbrev pub counted : ℕ → Bool → Option Options
counted visitors snapshot =
    Some (record { visitors = visitors; plain = false; make = None; snapshot = snapshot; stats = true })

-- what some command lines ask for
pub record Asked : Type 0 where
  pub no_word : reads_options [] ≡ alone false None
  pub name : after_name [] ≡ alone false None
  pub no_visitors : after_name (codes "--visitors" ∷ codes "0" ∷ []) ≡ alone false None
  pub a_visitor : after_name (codes "--visitors" ∷ codes "1" ∷ []) ≡ beside 1
  pub most_visitors : after_name (codes "--visitors" ∷ codes "8" ∷ []) ≡ beside 8
  pub with_equals : after_name (codes "--visitors=0" ∷ []) ≡ alone false None
  pub plain : after_name (codes "--plain" ∷ []) ≡ alone true None
  pub made : after_name (codes "--make" ∷ codes "7" ∷ []) ≡ alone false (Some 7)
  pub made_plain : after_name (codes "--make=7" ∷ codes "--plain" ∷ []) ≡ alone true (Some 7)
  pub in_any_order : after_name (codes "--visitors" ∷ codes "0" ∷ codes "--make" ∷ codes "0" ∷ []) ≡ alone false (Some 0)
  pub largest : after_name (codes "--make" ∷ codes "18446744073709551615" ∷ []) ≡ alone false (Some 18446744073709551615)
  pub zeros_and_plus : after_name (codes "--make=+007" ∷ []) ≡ alone false (Some 7)
  pub end_of_options : after_name (codes "--plain" ∷ codes "--" ∷ []) ≡ alone true None
  pub snapshot : after_name (codes "--snapshot" ∷ []) ≡ shown 0
  pub snapshot_beside_visitors : after_name (codes "--snapshot" ∷ codes "--visitors" ∷ codes "2" ∷ []) ≡ shown 2
  pub stats : after_name (codes "--stats" ∷ []) ≡ counted 0 false
  pub stats_beside_visitors : after_name (codes "--visitors" ∷ codes "2" ∷ codes "--stats" ∷ []) ≡ counted 2 false
  pub stats_and_snapshot : after_name (codes "--stats" ∷ codes "--snapshot" ∷ []) ≡ counted 0 true

-- each kind of mistake
pub record Mistaken : Type 0 where
  pub unknown : after_name (codes "--fast" ∷ []) ≡ None
  pub help : after_name (codes "--help" ∷ []) ≡ None
  pub short_help : after_name (codes "-h" ∷ []) ≡ None
  pub abbreviated : after_name (codes "--pla" ∷ []) ≡ None
  pub word : after_name (codes "stored.toml" ∷ []) ≡ None
  pub empty : after_name ([] ∷ []) ≡ None
  pub behind_the_end : after_name (codes "--" ∷ codes "--plain" ∷ []) ≡ None
  pub no_number : after_name (codes "--make" ∷ []) ≡ None
  pub other_number : after_name (codes "--make" ∷ codes "seven" ∷ []) ≡ None
  pub empty_number : after_name (codes "--make=" ∷ []) ≡ None
  pub below_nothing : after_name (codes "--make=-1" ∷ []) ≡ None
  pub too_large : after_name (codes "--make" ∷ codes "18446744073709551616" ∷ []) ≡ None
  pub flag_with_value : after_name (codes "--plain=1" ∷ []) ≡ None
  pub flag_twice : after_name (codes "--plain" ∷ codes "--plain" ∷ []) ≡ None
  pub number_twice : after_name (codes "--make" ∷ codes "1" ∷ codes "--make" ∷ codes "1" ∷ []) ≡ None
  pub nine_visitors : after_name (codes "--visitors" ∷ codes "9" ∷ []) ≡ None
  pub plain_with_visitors : after_name (codes "--plain" ∷ codes "--visitors" ∷ codes "0" ∷ []) ≡ None
  pub snapshot_of_plain : after_name (codes "--plain" ∷ codes "--snapshot" ∷ []) ≡ None
  pub snapshot_of_made : after_name (codes "--snapshot" ∷ codes "--make" ∷ codes "7" ∷ []) ≡ None
  pub snapshot_twice : after_name (codes "--snapshot" ∷ codes "--snapshot" ∷ []) ≡ None
  pub snapshot_with_value : after_name (codes "--snapshot=1" ∷ []) ≡ None
  pub stats_of_plain : after_name (codes "--stats" ∷ codes "--plain" ∷ []) ≡ None
  pub stats_of_made : after_name (codes "--make" ∷ codes "7" ∷ codes "--stats" ∷ []) ≡ None
  pub stats_twice : after_name (codes "--stats" ∷ codes "--stats" ∷ []) ≡ None
  pub stats_with_value : after_name (codes "--stats=1" ∷ []) ≡ None
  pub stats_abbreviated : after_name (codes "--stat" ∷ []) ≡ None
