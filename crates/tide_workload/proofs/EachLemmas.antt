-- A loop that reads each of some values in order.
use Rattle.std.proofs.Common.{◌≡◌, ℕ, ◌+◌, ◌<◌, ◌≤◌, List, [], ◌∷◌, ◌++◌, length, get_or, map, drop, All, Result, Ok, Err, refl, ap, sym, ◌∙◌, arith, append_assoc, length-append}
use Rattle.std.proofs.lemmas.List.{drop_more, drop_all, append-nil, map-append}
use Rattle.std.proofs.lemmas.List.Elements.{All-push, All-same}
use Rattle.tide_text.specs.declared.work.fault.Fault.{Fault}
use Rattle.tide_workload.specs.Steps.{◌>>=◌, each, each_from}

-- what was read so far, and then what is read of the rest
abbrev pub then_rest : {B : Type 0} → List B → Result (List B) Fault → Result (List B) Fault
then_rest done rest = rest >>= (λ ys. Ok (done ++ ys))

then_nothing : {B : Type 0} (rest : Result (List B) Fault) → then_rest [] rest ≡ rest
then_nothing (Ok ys) = refl
then_nothing (Err fault) = refl

then_one : {B : Type 0} (done : List B) (y : B) (rest : Result (List B) Fault) → then_rest done (rest >>= (λ ys. Ok (y ∷ ys))) ≡ then_rest (done ++ y ∷ []) rest
then_one done y (Ok ys) = ap Ok (sym (append_assoc done (y ∷ []) ys))
then_one done y (Err fault) = refl

module _ {V A B : Type 0} (f : A → Result B Fault) (show : V → A) where
  -- what was read so far and what is left give what all give
  abbrev pub Reads : List B → List V → List V → Type 0
  Reads done left all = then_rest done (each f (map show left)) ≡ each f (map show all)

  pub Reads-none : (all : List V) → Reads [] all all
  Reads-none all = then_nothing (each f (map show all))

  -- the next value is the first of what is left
  next_left : (all : List V) (i : ℕ) (v : V) → i < length all → v ≡ get_or all i v → drop i all ≡ v ∷ drop (i + 1) all
  next_left all i v within here = drop_more all i v within ∙ ap (λ w. w ∷ drop (i + 1) all) (sym here)

  -- what is read of what is left, by what is read of its first
  left_by_first : (all : List V) (i : ℕ) (v : V) (first : Result B Fault) → i < length all → v ≡ get_or all i v → f (show v) ≡ first
      → each f (map show (drop i all)) ≡ (first >>= (λ y. each f (map show (drop (i + 1) all)) >>= (λ ys. Ok (y ∷ ys))))
  left_by_first all i v first within here gave =
      ap (λ vs. each f (map show vs)) (next_left all i v within here)
      ∙ ap (λ r. r >>= (λ y. each f (map show (drop (i + 1) all)) >>= (λ ys. Ok (y ∷ ys)))) gave

  pub Reads-more : (done : List B) (all : List V) (i : ℕ) (v : V) (y : B) → i < length all → v ≡ get_or all i v → f (show v) ≡ Ok y
      → Reads done (drop i all) all → Reads (done ++ y ∷ []) (drop (i + 1) all) all
  Reads-more done all i v y within here gave reads =
      sym (then_one done y (each f (map show (drop (i + 1) all))))
      ∙ ap (then_rest done) (sym (left_by_first all i v (Ok y) within here gave))
      ∙ reads

  pub Reads-err : (done : List B) (all : List V) (i : ℕ) (v : V) (fault : Fault) → i < length all → v ≡ get_or all i v → f (show v) ≡ Err fault
      → Reads done (drop i all) all → each f (map show all) ≡ Err fault
  Reads-err done all i v fault within here gave reads =
      sym reads ∙ ap (then_rest done) (left_by_first all i v (Err fault) within here gave)

  pub Reads-all : (done : List B) (all : List V) (i : ℕ) → length all ≤ i → Reads done (drop i all) all → each f (map show all) ≡ Ok done
  Reads-all done all i past reads =
      sym reads ∙ ap (λ vs. then_rest done (each f (map show vs))) (drop_all i all past) ∙ ap Ok (append-nil done)

module _ {V A B : Type 0} (f : ℕ → A → Result B Fault) (show : V → A) where
  -- what was read so far and what is left from a place on give what all give
  abbrev pub ReadsFrom : List B → ℕ → List V → List V → Type 0
  ReadsFrom done at left all = then_rest done (each_from f at (map show left)) ≡ each_from f 0 (map show all)

  pub ReadsFrom-none : (all : List V) → ReadsFrom [] 0 all all
  ReadsFrom-none all = then_nothing (each_from f 0 (map show all))

  -- what is read of what is left, by what is read of its first
  from_first : (all : List V) (i : ℕ) (v : V) (first : Result B Fault) → i < length all → v ≡ get_or all i v → f i (show v) ≡ first
      → each_from f i (map show (drop i all)) ≡ (first >>= (λ y. each_from f (i + 1) (map show (drop (i + 1) all)) >>= (λ ys. Ok (y ∷ ys))))
  from_first all i v first within here gave =
      ap (λ vs. each_from f i (map show vs)) (drop_more all i v within ∙ ap (λ w. w ∷ drop (i + 1) all) (sym here))
      ∙ ap (λ r. r >>= (λ y. each_from f (i + 1) (map show (drop (i + 1) all)) >>= (λ ys. Ok (y ∷ ys)))) gave

  pub ReadsFrom-more : (done : List B) (all : List V) (i : ℕ) (v : V) (y : B) → i < length all → v ≡ get_or all i v → f i (show v) ≡ Ok y
      → ReadsFrom done i (drop i all) all → ReadsFrom (done ++ y ∷ []) (i + 1) (drop (i + 1) all) all
  ReadsFrom-more done all i v y within here gave reads =
      sym (then_one done y (each_from f (i + 1) (map show (drop (i + 1) all))))
      ∙ ap (then_rest done) (sym (from_first all i v (Ok y) within here gave))
      ∙ reads

  pub ReadsFrom-err : (done : List B) (all : List V) (i : ℕ) (v : V) (fault : Fault) → i < length all → v ≡ get_or all i v → f i (show v) ≡ Err fault
      → ReadsFrom done i (drop i all) all → each_from f 0 (map show all) ≡ Err fault
  ReadsFrom-err done all i v fault within here gave reads =
      sym reads ∙ ap (then_rest done) (from_first all i v (Err fault) within here gave)

  pub ReadsFrom-all : (done : List B) (all : List V) (i : ℕ) → length all ≤ i → ReadsFrom done i (drop i all) all → each_from f 0 (map show all) ≡ Ok done
  ReadsFrom-all done all i past reads =
      sym reads ∙ ap (λ vs. then_rest done (each_from f i (map show vs))) (drop_all i all past) ∙ ap Ok (append-nil done)

module _ {W : Type 0} (done now : List W) (w : W) (pushed : now ≡ done ++ w ∷ []) where
  -- what is put behind those so far is one more of them
  pub pushed_length : (i : ℕ) → length done ≡ i → length now ≡ i + 1
  pushed_length i so_far = omega (arith, ap length pushed, length-append done (w ∷ []))

  pub pushed_all : (P : W → Type 0) → All P done → P w → All P now
  pushed_all P so_far here = All-same P now (done ++ w ∷ []) pushed (All-push P done w so_far here)

  pub Reads-push : {V A B : Type 0} (f : A → Result B Fault) (show : V → A) (shown : W → B) (all : List V) (i : ℕ) (v : V) → i < length all
      → v ≡ get_or all i v → f (show v) ≡ Ok (shown w) → Reads f show (map shown done) (drop i all) all → Reads f show (map shown now) (drop (i + 1) all) all
  Reads-push f show shown all i v within here gave reads =
      rw (pushed, map-append) (Reads-more f show (map shown done) all i v (shown w) within here gave reads)

  pub ReadsFrom-push : {V A B : Type 0} (f : ℕ → A → Result B Fault) (show : V → A) (shown : W → B) (all : List V) (i : ℕ) (v : V) → i < length all
      → v ≡ get_or all i v → f i (show v) ≡ Ok (shown w) → ReadsFrom f show (map shown done) i (drop i all) all
      → ReadsFrom f show (map shown now) (i + 1) (drop (i + 1) all) all
  ReadsFrom-push f show shown all i v within here gave reads =
      rw (pushed, map-append) (ReadsFrom-more f show (map shown done) all i v (shown w) within here gave reads)
