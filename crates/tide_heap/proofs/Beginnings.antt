-- Beginnings of one history.
use Rattle.std.proofs.Common.{◌≡◌, ◌≤◌, List, [], ◌∷◌, ◌++◌, length, sym, refl, ap, ◌∙◌, subst, arith, append-nil, length-append, Bool, true, false}
use Rattle.std.specs.Prelude.{filter, nat_lt, if◌then◌else◌}
use Rattle.std.proofs.lemmas.Bool.Decides.{nat_tests}
use Rattle.std.proofs.lemmas.List.Elements.{filter-append}
use Rattle.tide_model.specs.declared.entry.Event.{Event}
use Rattle.tide_model.specs.Prefix.{IsPrefix, prefix_refl}
use Rattle.tide_heap.specs.Parties.{longer}

-- of two beginnings of one history the shorter begins the longer
shorter : (log a b : List Event) → IsPrefix a log → IsPrefix b log → length a ≤ length b → IsPrefix a b
shorter log [] b p q h = record { rest = b; joins = refl }
shorter log (x ∷ xs) [] p q h = absurd (omega arith)
shorter [] (x ∷ xs) (y ∷ ys) p q h = let e = p.joins in absurd (cc)
shorter (z ∷ zs) (x ∷ xs) (y ∷ ys) p q h =
    let e : x ∷ (xs ++ p.rest) ≡ z ∷ zs = p.joins in let f : y ∷ (ys ++ q.rest) ≡ z ∷ zs = q.joins in
    let t : xs ++ p.rest ≡ zs = (cc) in let t' : ys ++ q.rest ≡ zs = (cc) in let hd : x ≡ y = (cc) in
    let r = shorter zs xs ys (record { rest = p.rest; joins = t }) (record { rest = q.rest; joins = t' }) (omega arith) in record { rest = r.rest; joins = (let g = r.joins in cc) }

pub record IsLonger (log a b l : List Event) : Type 0 where
  pub whole : IsPrefix l log
  pub one : IsPrefix a l
  pub other : IsPrefix b l

longer_is : (log a b : List Event) → IsPrefix a log → IsPrefix b log → (x : Bool) → nat_lt (length a) (length b) ≡ x → IsLonger log a b (if x then b else a)
longer_is log a b p q true e = record { whole = q; one = shorter log a b p q (grind (arith, nat_tests)); other = prefix_refl b }
longer_is log a b p q false e = record { whole = p; one = prefix_refl a; other = shorter log b a q p (grind (arith, nat_tests)) }

pub longer_ok : (log a b : List Event) → IsPrefix a log → IsPrefix b log → IsLonger log a b (longer a b)
longer_ok log a b p q = longer_is log a b p q (nat_lt (length a) (length b)) refl

nothing_more : {X : Type 0} (a r : List X) → length (a ++ r) ≡ length a → a ++ r ≡ a
nothing_more a [] e = append-nil a
nothing_more a (x ∷ r) e = absurd (let more = length-append a (x ∷ r) in omega (arith, e, more))

-- two that begin each other
pub same_lists : {X : Type 0} (a b : List X) → IsPrefix a b → IsPrefix b a → a ≡ b
same_lists a b p q =
    let l = ap length p.joins in let m = ap length q.joins in let n = length-append a p.rest in let o = length-append b q.rest in
    sym (nothing_more a p.rest (omega (arith, l, m, n, o))) ∙ p.joins

prefix_filter : (test : Event → Bool) (a b : List Event) → IsPrefix a b → IsPrefix (filter test a) (filter test b)
prefix_filter test a b p = record { rest = filter test p.rest; joins = sym (filter-append test a p.rest) ∙ ap (filter test) p.joins }

-- what two of them have the same of, so has one between
pub told_between : (test : Event → Bool) (a l log : List Event) (mine : List Event) → IsPrefix a l → IsPrefix l log → filter test a ≡ mine → filter test log ≡ mine → filter test l ≡ mine
told_between test a l log mine p q one other =
    same_lists (filter test l) mine (subst (IsPrefix (filter test l)) other (prefix_filter test l log q)) (subst (λ (m : List Event). IsPrefix m (filter test l)) one (prefix_filter test a l p))
