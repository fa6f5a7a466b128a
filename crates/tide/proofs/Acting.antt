-- Members that did their jobs, one by one.
use Rattle.std.proofs.Common.{ℕ, suc, ◌≡◌, ◌<◌, ◌∙◌, ap, subst, sym, arith, List, [], ◌∷◌, ◌++◌, append-nil, drop, get_or, length, take, take_all}
use Rattle.std.proofs.lemmas.List.{drop_all}
use Rattle.std.specs.List.{AllZip}
use Rattle.std.specs.Prelude.{IsSomeAnd, None, Option, Some}
use Rattle.tide.specs.Hosts.{HasActed}
use Rattle.tide_server.specs.declared.member.Member.{Member}
use Rattle.tide.specs.declared.jobs.Job.{Job}

-- what holds of the elements at each place of two lists, which are as long, holds of the lists
zip_by_places : {A : Type 0} (R : A → A → Type 0) (xs ys : List A) → length ys ≡ length xs →
    ((k : ℕ) (d : A) → k < length xs → R (get_or xs k d) (get_or ys k d)) → AllZip R xs ys
zip_by_places R [] [] same each = tt
zip_by_places R [] (y ∷ ys) same each = absurd (omega (arith, same))
zip_by_places R (x ∷ xs) [] same each = absurd (omega (arith, same))
zip_by_places R (x ∷ xs) (y ∷ ys) same each =
    (each 0 x (omega arith), zip_by_places R xs ys (omega (arith, same)) (λ k d within. each (suc k) d (omega (arith, within))))

-- so of those that were written back over them
pub zip_written : {A : Type 0} (R : A → A → Type 0) (xs ys : List A) (count : ℕ) → count ≡ length xs →
    length ys ≡ length xs → ((k : ℕ) (d : A) → k < length xs → R (get_or xs k d) (get_or ys k d)) →
    AllZip R xs (take count (ys ++ drop (length ys) xs))
zip_written R xs ys count all same each = subst (AllZip R xs) (sym written) (zip_by_places R xs ys same each)
  where
    written : take count (ys ++ drop (length ys) xs) ≡ ys
    written = ap (λ rest. take count (ys ++ rest)) (drop_all (length ys) xs (omega (arith, same)))
        ∙ ap (take count) (append-nil ys) ∙ take_all count ys (omega (arith, all, same))

module _ {T : Type 0} (acts does : Member → T → Type 0) (so : (m : Member) (answer : T) → acts m answer → does m answer) where
  here : (answer : Option T) (m : Member) → IsSomeAnd answer (acts m) → IsSomeAnd answer (does m)
  here None m has = absurd has
  here (Some x) m has = so m x has

  at : (member : Option Member) (answer : Option T) → IsSomeAnd member (λ m. IsSomeAnd answer (acts m)) →
      IsSomeAnd member (λ m. IsSomeAnd answer (does m))
  at None answer has = absurd has
  at (Some m) answer has = here answer m has

  -- members that acted so acted in any way that this is
  pub acted_so : (old new : List (Job T)) → AllZip (HasActed acts) old new → AllZip (HasActed does) old new
  acted_so [] [] acted = tt
  acted_so [] (y ∷ ys) acted = absurd acted
  acted_so (x ∷ xs) [] acted = absurd acted
  acted_so (x ∷ xs) (y ∷ ys) acted = (at x.member y.answer acted.0, acted_so xs ys acted.1)
