-- What a keeper's figures count.
use Rattle.std.specs.Prelude.{ℕ, ◌≡◌, ◌+◌, ◌%◌, ◌^◌, List, [], ◌∷◌, length, map, sum}
use Rattle.tide.specs.tide_report.Reports.{Reported}
use Rattle.tide.specs.tide_report.declared.report.CycleLine.{CycleLine}
use Rattle.tide_c.specs.declared.party.Figures.{Figures}

-- no turn was made
abbrev pub none_yet : Figures
none_yet = record { turns = 0; cycles = 0; freed = 0; kept = 0 }

-- how many cells the last of these cycles kept, or the one before them, where there are none
abbrev pub last_kept : ℕ → List CycleLine → ℕ
last_kept before [] = before
last_kept before (line ∷ lines) = last_kept line.kept lines

-- the figures count one turn more, and the cycles that ended in it, modulo 2^64
pub record AddsTurn (told : Reported) (old new : Figures) : Type 0 where
  pub turns : new.turns ≡ (old.turns + 1) % 2 ^ 64
  pub cycles : new.cycles ≡ (old.cycles + length told.cycles) % 2 ^ 64
  pub freed : new.freed ≡ (old.freed + sum (map (λ (line : CycleLine). line.freed) told.cycles)) % 2 ^ 64
  pub kept : new.kept ≡ last_kept old.kept told.cycles
