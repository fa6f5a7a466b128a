-- Which weak handles are in use, by how often each is counted.
use Rattle.std.proofs.Common.{ℕ, zero, suc, ◌≡◌, ◌≢◌, ◌+◌, ◌<◌, ◌≤◌, arith, refl, sym, ◌∙◌, ap, subst, Bool, true, false, List, [], ◌∷◌, ◌++◌, length, inl, inr, append_assoc, append-nil, length-append}
use Rattle.std.proofs.lemmas.Bool.{eq-eqb, ltb-true}
use Rattle.std.proofs.lemmas.List.Elements.{filter-append}
use Rattle.std.proofs.lemmas.List.Sums.{get_or-le-sum_by, sum_by-cons, sum_by_push}
use Rattle.std.proofs.lemmas.Option.{slice_get_cases}
use Rattle.std.specs.List.{remove}
use Rattle.std.specs.Prelude.{◌==◌, Contains, Some, count_by, filter, if◌then◌else◌, not, nat_lt, slice_get, slice_index_or}
use Rattle.tide_weakref.specs.declared.weak.Weak.{Weak}

-- the one that is counted is counted once at least
pub counted : {X : Type 0} (test : X → Bool) (xs : List X) (x : X) → Contains xs x → test x ≡ true → 1 ≤ count_by test xs
counted test xs x has is =
    let one = get_or-le-sum_by (λ (y : _). if test y then 1 else 0) xs has.0 x has.1 in
    let here : ◌≡◌ {A = ℕ} (if test (slice_index_or xs has.0 x) then 1 else 0) 1 =
    ap {B = ℕ} (λ (y : _). if test y then 1 else 0) has.2 ∙ ap {B = ℕ} (λ (b : Bool). if b then 1 else 0) is in
    omega (arith, one, here)

module _ (count : ℕ) (uses : List Weak) (unused : List ℕ)
    (each : (at : ℕ) → count_by (λ (one : Weak). one.at == at) uses + count_by (λ (n : ℕ). n == at) unused
    ≡ (if nat_lt at count then 1 else 0)) where
  -- an unused handle is one of them, and none in use is it
  pub unused_is_fresh : (at : ℕ) → Contains unused at → (at < count) × ((one : Weak) → Contains uses one → one.at ≢ at)
  unused_is_fresh at has =
      let here = counted (λ (n : ℕ). n == at) unused at has (eq-eqb at at refl) in
      let all = each at in (
        below (nat_lt at count) refl here all,
        λ one used same.
            (let there = counted (λ (o : Weak). o.at == at) uses one used (eq-eqb one.at at same) in
            let most = at_most (nat_lt at count) in omega (arith, here, there, all, most)),
      )
    where
      at_most : (b : Bool) → (if b then 1 else 0) ≤ 1
      at_most true = omega arith
      at_most false = omega arith

      below : (b : Bool) → nat_lt at count ≡ b → 1 ≤ count_by (λ (n : ℕ). n == at) unused →
          count_by (λ (one : Weak). one.at == at) uses + count_by (λ (n : ℕ). n == at) unused ≡ (if b then 1 else 0) → at < count
      below true is here all = ltb-true at count is
      below false is here all = absurd (omega (arith, here, all))

-- what stands at a place is in the list
pub contains_got : {X : Type 0} (xs : List X) (place : ℕ) (x : X) → slice_get xs place ≡ Some x →
    (place < length xs) × (slice_index_or xs place x ≡ x)
contains_got xs place x is = elim (slice_get_cases xs place).1 [
  | inl at ↦ let same : at.0 ≡ x = cc in (at.1, subst (λ (y : _). slice_index_or xs place y ≡ y) same at.3)
  | inr past ↦ absurd (let none = past.1 in cc)
]

-- a handle that was unused is in use
pub each_added : (uses : List Weak) (unused rest : List ℕ) (one : Weak) (n at : ℕ) →
    unused ≡ rest ++ one.at ∷ [] →
    count_by (λ (o : Weak). o.at == at) uses + count_by (λ (m : ℕ). m == at) unused ≡ n →
    count_by (λ (o : Weak). o.at == at) (uses ++ one ∷ []) + count_by (λ (m : ℕ). m == at) rest ≡ n
each_added uses unused rest one n at is each =
    let more = sum_by_push (λ (o : Weak). if o.at == at then 1 else 0) uses one in
    let less = ap (count_by (λ (m : ℕ). m == at)) is ∙ sum_by_push (λ (m : ℕ). if m == at then 1 else 0) rest one.at in
    omega (arith, more, less, each)

-- what stands between two parts of a list
pub get_between : {X : Type 0} (xs : List X) (x : X) (ys : List X) → slice_get (xs ++ x ∷ ys) (length xs) ≡ Some x
get_between [] x ys = refl
get_between (z ∷ xs) x ys = get_between xs x ys

pub remove_between : {X : Type 0} (xs : List X) (x : X) (ys : List X) → remove (xs ++ x ∷ ys) (length xs) ≡ xs ++ ys
remove_between [] x ys = refl
remove_between (z ∷ xs) x ys = ap (λ (l : List _). z ∷ l) (remove_between xs x ys)

-- the element that is read at a place stands there
pub got_index : {X : Type 0} (xs : List X) (place : ℕ) (x : X) → place < length xs → x ≡ slice_index_or xs place x → slice_get xs place ≡ Some x
got_index [] place x below is = absurd (omega (arith, below))
got_index (z ∷ xs) zero x below is = ap (λ (y : _). Some y) (sym is)
got_index (z ∷ xs) (suc place) x below is = got_index xs place x (omega (arith, below)) is

-- no more pass a test than there are
count_few : (test : Weak → Bool) (xs : List Weak) → count_by test xs ≤ length xs
count_few test [] = omega arith
count_few test (x ∷ xs) = step (test x) (sum_by-cons (λ (y : Weak). if test y then 1 else 0) x xs) (count_few test xs)
  where
    step : (b : Bool) → count_by test (x ∷ xs) ≡ (if b then 1 else 0) + count_by test xs → count_by test xs ≤ length xs →
        count_by test (x ∷ xs) ≤ length (x ∷ xs)
    step true is few = omega (arith, is, few)
    step false is few = omega (arith, is, few)

-- A pass over a list that takes out what passes a test: of what it has passed the others are left, and the rest still
-- comes.
pub record Passed (test : Weak → Bool) (old now : List Weak) (place count : ℕ) : Type 0 where
  pub done : List Weak
  pub rest : List Weak
  pub was : old ≡ done ++ rest
  pub is : now ≡ filter (λ one. not (test one)) done ++ rest
  pub at : place ≡ length (filter (λ (one : Weak). not (test one)) done)
  pub counted : count ≡ count_by test done

pub passed_none : (test : Weak → Bool) (old : List Weak) → Passed test old old 0 0
passed_none test old = record { done = []; rest = old; was = refl; is = refl; at = refl; counted = refl }

module _ (test : Weak → Bool) (old now : List Weak) (place count : ℕ) (passed : Passed test old now place count) where
  abbrev left : List Weak
  left = filter (λ (one : Weak). not (test one)) passed.done

  -- no more were taken out than there were
  pub passed_few : count ≤ length old
  passed_few =
      let some = count_few test passed.done in
      let counts = passed.counted in
      let long = ap (λ (l : List Weak). length l) passed.was in
      let sum = length-append passed.done passed.rest in
      omega (arith, some, counts, long, sum)

  -- what comes next is the first of the rest
  comes : (x : Weak) → slice_get now place ≡ Some x → (others : List Weak) × (passed.rest ≡ x ∷ others)
  comes x got = by_rest passed.rest refl
    where
      some_same : (a b : Weak) → Some a ≡ Some b → a ≡ b
      some_same a b is = cc

      by_rest : (rest : List Weak) → passed.rest ≡ rest → (others : List Weak) × (passed.rest ≡ x ∷ others)
      by_rest [] none =
          let within = contains_got now place x got in
          let below = within.0 in
          let long = ap (λ (l : List Weak). length l) (passed.is ∙ ap (λ (l : List Weak). left ++ l) none ∙ append-nil left) in
          let here = passed.at in
          absurd (omega (arith, below, long, here))
      by_rest (y ∷ others) some =
          let here : slice_get now place ≡ Some y =
          ap (λ (l : List Weak). slice_get l place) (passed.is ∙ ap (λ (l : List Weak). left ++ l) some)
          ∙ ap (λ (n : ℕ). slice_get (left ++ y ∷ others) n) passed.at ∙ get_between left y others in
          let same : y ≡ x = some_same y x (sym here ∙ got) in
          (others, some ∙ ap (λ (z : Weak). z ∷ others) same)

  -- it is taken out
  pub passed_out : (x : Weak) → slice_get now place ≡ Some x → test x ≡ true → Passed test old (remove now place) place (count + 1)
  passed_out x got takes =
      let next = comes x got in
      let same : filter (λ (one : Weak). not (test one)) (passed.done ++ x ∷ []) ≡ left =
      filter-append (λ (one : Weak). not (test one)) passed.done (x ∷ [])
      ∙ ap (λ (b : Bool). left ++ (if not b then x ∷ [] else [])) takes ∙ append-nil left in
      record {
        done = passed.done ++ x ∷ [];
        rest = next.0;
        was = passed.was ∙ ap (λ (l : List Weak). passed.done ++ l) next.1 ∙ sym (append_assoc passed.done (x ∷ []) next.0);
        is = ap (λ (l : List Weak). remove l place) (passed.is ∙ ap (λ (l : List Weak). left ++ l) next.1)
            ∙ ap (λ (n : ℕ). remove (left ++ x ∷ next.0) n) passed.at ∙ remove_between left x next.0
            ∙ ap (λ (l : List Weak). l ++ next.0) (sym same);
        at = passed.at ∙ ap (λ (l : List Weak). length l) (sym same);
        counted =
            let more = sum_by_push (λ (o : Weak). if test o then 1 else 0) passed.done x in
            let one : ◌≡◌ {A = ℕ} (if test x then 1 else 0) 1 = ap {B = ℕ} (λ (b : Bool). if b then 1 else 0) takes in
            let before = passed.counted in
            omega (arith, more, one, before);
      }

  -- it is left
  pub passed_by : (x : Weak) → slice_get now place ≡ Some x → test x ≡ false → Passed test old now (place + 1) count
  passed_by x got leaves =
      let next = comes x got in
      let same : filter (λ (one : Weak). not (test one)) (passed.done ++ x ∷ []) ≡ left ++ x ∷ [] =
      filter-append (λ (one : Weak). not (test one)) passed.done (x ∷ [])
      ∙ ap (λ (b : Bool). left ++ (if not b then x ∷ [] else [])) leaves in
      record {
        done = passed.done ++ x ∷ [];
        rest = next.0;
        was = passed.was ∙ ap (λ (l : List Weak). passed.done ++ l) next.1 ∙ sym (append_assoc passed.done (x ∷ []) next.0);
        is = passed.is ∙ ap (λ (l : List Weak). left ++ l) next.1 ∙ sym (append_assoc left (x ∷ []) next.0)
            ∙ ap (λ (l : List Weak). l ++ next.0) (sym same);
        at =
            let long = ap (λ (l : List Weak). length l) same in
            let pushed = length-append left (x ∷ []) in
            let before = passed.at in
            omega (arith, long, pushed, before);
        counted =
            let more = sum_by_push (λ (o : Weak). if test o then 1 else 0) passed.done x in
            let none : ◌≡◌ {A = ℕ} (if test x then 1 else 0) 0 = ap {B = ℕ} (λ (b : Bool). if b then 1 else 0) leaves in
            let before = passed.counted in
            omega (arith, more, none, before);
      }

  -- at the end what doesn't pass is left, and what did is counted
  pub passed_all : length now ≤ place →
      (now ≡ filter (λ one. not (test one)) old) × (count ≡ count_by test old)
  passed_all over =
      let none : passed.rest ≡ [] = no_rest passed.rest refl in
      let all : old ≡ passed.done = passed.was ∙ ap (λ (l : List Weak). passed.done ++ l) none ∙ append-nil passed.done in (
        passed.is ∙ ap (λ (l : List Weak). left ++ l) none ∙ append-nil left
            ∙ ap (λ (l : List Weak). filter (λ (one : Weak). not (test one)) l) (sym all),
        passed.counted ∙ ap (λ (l : List Weak). count_by test l) (sym all),
      )
    where
      no_rest : (rest : List Weak) → passed.rest ≡ rest → passed.rest ≡ []
      no_rest [] is = is
      no_rest (y ∷ others) is =
          let long = ap (λ (l : List Weak). length l) (passed.is ∙ ap (λ (l : List Weak). left ++ l) is) in
          let sum = length-append left (y ∷ others) in
          let here = passed.at in
          absurd (omega (arith, over, long, sum, here))

-- a handle in use is one of them
pub used_is_below : (count : ℕ) (uses : List Weak) (unused : List ℕ) (one : Weak) →
    count_by (λ (o : Weak). o.at == one.at) uses + count_by (λ (n : ℕ). n == one.at) unused
    ≡ (if nat_lt one.at count then 1 else 0) → Contains uses one → one.at < count
used_is_below count uses unused one each has =
    by_test (nat_lt one.at count) refl (counted (λ (o : Weak). o.at == one.at) uses one has (eq-eqb one.at one.at refl)) each
  where
    by_test : (b : Bool) → nat_lt one.at count ≡ b → 1 ≤ count_by (λ (o : Weak). o.at == one.at) uses →
        count_by (λ (o : Weak). o.at == one.at) uses + count_by (λ (n : ℕ). n == one.at) unused ≡ (if b then 1 else 0) → one.at < count
    by_test true is some all = ltb-true one.at count is
    by_test false is some all = absurd (omega (arith, some, all))
