-- How figures count cycles, one after another.
use Rattle.std.proofs.Common.{ℕ, ◌≡◌, ◌+◌, ◌%◌, ◌^◌, List, [], ◌∷◌, ◌++◌, refl, sym, ap, subst, ◌∙◌, ◌<◌, get_or, length, map, take, arith}
use Rattle.std.proofs.Math.Nat.{mod-add-mod}
use Rattle.std.proofs.lemmas.List.{length_push, map-append, take_more}
use Rattle.std.proofs.lemmas.List.Sums.{sum_by-append}
use Rattle.std.specs.Prelude.{sum}
use Rattle.tide.specs.tide_report.Reports.{Reported}
use Rattle.tide.specs.tide_report.declared.report.CycleLine.{CycleLine}
use Rattle.tide_c.specs.Figures.{AddsTurn, last_kept}
use Rattle.tide_c.specs.declared.party.Figures.{Figures}

abbrev freed_by : List CycleLine → List ℕ
freed_by lines = map (λ (line : CycleLine). line.freed) lines

one_more_freed : (lines : List CycleLine) (line : CycleLine) → sum (freed_by lines) + line.freed ≡ sum (freed_by (lines ++ line ∷ []))
one_more_freed lines line =
    let parts : sum (freed_by (lines ++ line ∷ [])) ≡ sum (freed_by lines) + (0 + line.freed) =
    ap sum (map-append (λ (one : CycleLine). one.freed) lines (line ∷ []))
    ∙ sum_by-append (λ (n : ℕ). n) (freed_by lines) (line.freed ∷ []) in
    omega (arith, parts)

the_last_kept : (before : ℕ) (lines : List CycleLine) (line : CycleLine) → last_kept before (lines ++ line ∷ []) ≡ line.kept
the_last_kept before [] line = refl
the_last_kept before (one ∷ lines) line = the_last_kept one.kept lines line

-- one more cycle is counted
pub adds_line : (told : Reported) (line : CycleLine) (old new : Figures) → AddsTurn told old new →
    AddsTurn (record told { cycles = told.cycles ++ line ∷ [] }) old (record new {
      cycles = (new.cycles + 1) % 2 ^ 64;
      freed = (new.freed + line.freed) % 2 ^ 64;
      kept = line.kept;
    })
adds_line told line old new did = record {
  turns = did.turns;
  cycles = ap (λ (n : ℕ). (n + 1) % 2 ^ 64) did.cycles ∙ mod-add-mod (old.cycles + length told.cycles) (2 ^ 64) 1
      ∙ ap (λ (n : ℕ). n % 2 ^ 64) (let longer = length_push told.cycles line in
      let e : old.cycles + length told.cycles + 1 ≡ old.cycles + length (told.cycles ++ line ∷ []) = omega (arith, longer) in e);
  freed = ap (λ (n : ℕ). (n + line.freed) % 2 ^ 64) did.freed
      ∙ mod-add-mod (old.freed + sum (freed_by told.cycles)) (2 ^ 64) line.freed
      ∙ ap (λ (n : ℕ). n % 2 ^ 64) (let more = one_more_freed told.cycles line in
      let e : old.freed + sum (freed_by told.cycles) + line.freed ≡ old.freed + sum (freed_by (told.cycles ++ line ∷ [])) = omega (arith, more) in e);
  kept = sym (the_last_kept old.kept told.cycles line);
}

-- so it is with the next one of several
pub counts_line : (told : Reported) (lines : List CycleLine) (at : ℕ) (other : CycleLine) (freed kept : ℕ) (old new : Figures) →
    at < length lines → freed ≡ (get_or lines at other).freed → kept ≡ (get_or lines at other).kept →
    AddsTurn (record told { cycles = take at lines }) old new →
    AddsTurn (record told { cycles = take (at + 1) lines }) old (record new {
      cycles = (new.cycles + 1) % 2 ^ 64;
      freed = (new.freed + freed) % 2 ^ 64;
      kept = kept;
    })
counts_line told lines at other freed kept old new low is_freed is_kept did =
    let line = get_or lines at other in
    subst (λ (n : ℕ). AddsTurn (record told { cycles = take (at + 1) lines }) old (record new {
      cycles = (new.cycles + 1) % 2 ^ 64;
      freed = (new.freed + n) % 2 ^ 64;
      kept = kept;
    })) (sym is_freed) (subst (λ (n : ℕ). AddsTurn (record told { cycles = take (at + 1) lines }) old (record new {
      cycles = (new.cycles + 1) % 2 ^ 64;
      freed = (new.freed + line.freed) % 2 ^ 64;
      kept = n;
    })) (sym is_kept) (subst (λ (cycles : List CycleLine). AddsTurn (record told { cycles = cycles }) old (record new {
      cycles = (new.cycles + 1) % 2 ^ 64;
      freed = (new.freed + line.freed) % 2 ^ 64;
      kept = line.kept;
    })) (sym (take_more lines at other low)) (adds_line (record told { cycles = take at lines }) line old new did)))
