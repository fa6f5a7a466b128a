-- What a move of a word makes of how many tickets were posted at its place, and how many taken.
use Rattle.std.proofs.Common.{ℕ, ◌≡◌, ◌≢◌, ◌+◌, ◌∙◌, Bool, true, false, arith, ap, refl, sym, subst, inl, inr, true≢false}
use Rattle.std.proofs.lemmas.Bool.{and_parts, cases_eq, eqb-true, ne_eqb, or_cases}
use Rattle.std.specs.Prelude.{◌&&◌, ◌||◌, ◌==◌, ◌⊎◌, if◌then◌else◌}
use Rattle.tide_hands.specs.Rule.{is_end, is_keepers, is_move, is_post, is_take, is_ticket_post, lying}

-- how many tickets a move posts, and how many it takes: one or none
abbrev pub posting : ℕ → ℕ → ℕ
posting found word = if is_ticket_post found word then 1 else 0

abbrev pub taking : ℕ → ℕ → ℕ
taking found word = if (found == 1) && (word == 2) then 1 else 0

-- at the keeper's turn no ticket lies there and none is taken, and one lies there after it where it was posted
pub record KeepersMove (found word : ℕ) : Type 0 where
  pub posted : posting found word ≡ lying word
  pub none : taking found word ≡ 0
  pub bare : lying found ≡ 0

-- at a member's turn none is posted, and what lay there is taken or lies there still; an end stays
pub record MembersMove (found word : ℕ) : Type 0 where
  pub none : posting found word ≡ 0
  pub lay : lying found ≡ taking found word + lying word
  pub took : (if is_take found word then 1 else 0) ≡ taking found word
  pub ends : is_end word ≡ true → is_end found ≡ true

never : (a b word : ℕ) → a ≢ b → ((word == a) && (word == b)) ≡ false
never a b word apart = elim (cases_eq word a) [
  | inl same ↦ ap (λ (c : Bool). (word == a) && c) (ne_eqb word b (λ e. apart (sym same ∙ e))) ∙ and_false (word == a)
  | inr other ↦ ap (λ (c : Bool). c && (word == b)) (ne_eqb word a other)
]
  where
    and_false : (c : Bool) → (c && false) ≡ false
    and_false true = refl
    and_false false = refl

at : (P : ℕ → ℕ → Type 0) (found word f w : ℕ) → found ≡ f → word ≡ w → P f w → P found word
at P found word f w is_found is_word p = subst (λ (n : ℕ). P n word) (sym is_found) (subst (P f) (sym is_word) p)

-- the moves there are
abbrev Moves : ℕ → ℕ → Type 0
Moves found word = (found ≡ word) ⊎ (((found ≡ 0) × ((word ≡ 1) ⊎ (word ≡ 4)))
    ⊎ (((found ≡ 2) × (word ≡ 3)) ⊎ (((found ≡ 1) × (word ≡ 2)) ⊎ ((found ≡ 3) × (word ≡ 0)))))

moves_of : (found word : ℕ) → is_move found word ≡ true → Moves found word
moves_of found word moves = elim (or_cases (found == word) (is_post found word || is_take found word) moves) [
  | inl same ↦ inl (eqb-true found word same)
  | inr other ↦ elim (or_cases (is_post found word) (is_take found word) other) [
    | inl post ↦ elim (or_cases ((found == 0) && ((word == 1) || (word == 4))) ((found == 2) && (word == 3)) post) [
      | inl opens ↦
          let parts = and_parts (found == 0) ((word == 1) || (word == 4)) opens in
          inr (inl (
            eqb-true found 0 parts.0,
            elim (or_cases (word == 1) (word == 4) parts.1) [
              | inl one ↦ inl (eqb-true word 1 one)
              | inr four ↦ inr (eqb-true word 4 four)
            ],
          ))
      | inr notes ↦
          let parts = and_parts (found == 2) (word == 3) notes in
          inr (inr (inl (eqb-true found 2 parts.0, eqb-true word 3 parts.1)))
    ]
    | inr take ↦ elim (or_cases ((found == 1) && (word == 2)) ((found == 3) && (word == 0)) take) [
      | inl ticket ↦
          let parts = and_parts (found == 1) (word == 2) ticket in
          inr (inr (inr (inl (eqb-true found 1 parts.0, eqb-true word 2 parts.1))))
      | inr note ↦
          let parts = and_parts (found == 3) (word == 0) note in
          inr (inr (inr (inr (eqb-true found 3 parts.0, eqb-true word 0 parts.1))))
    ]
  ]
]

pub keepers_move : (found word : ℕ) → is_keepers found ≡ true → is_move found word ≡ true → KeepersMove found word
keepers_move found word turn moves = elim (moves_of found word moves) [
  | inl same ↦ elim (or_cases (found == 0) (found == 3) turn) [
    | inl zero ↦ let is = eqb-true found 0 zero in at KeepersMove found word 0 0 is (sym same ∙ is)
        record { posted = refl; none = refl; bare = refl }
    | inr three ↦ let is = eqb-true found 3 three in at KeepersMove found word 3 3 is (sym same ∙ is)
        record { posted = refl; none = refl; bare = refl }
  ]
  | inr (inl opens) ↦ elim opens.1 [
    | inl one ↦ at KeepersMove found word 0 1 opens.0 one record { posted = refl; none = refl; bare = refl }
    | inr four ↦ at KeepersMove found word 0 4 opens.0 four record { posted = refl; none = refl; bare = refl }
  ]
  | inr (inr (inl notes)) ↦ absurd (true≢false (sym turn ∙ ap is_keepers notes.0))
  | inr (inr (inr (inl takes))) ↦ absurd (true≢false (sym turn ∙ ap is_keepers takes.0))
  | inr (inr (inr (inr took))) ↦ at KeepersMove found word 3 0 took.0 took.1
      record { posted = refl; none = refl; bare = refl }
]

pub members_move : (found word : ℕ) → is_keepers found ≡ false → is_move found word ≡ true → MembersMove found word
members_move found word turn moves = elim (moves_of found word moves) [
  | inl same ↦ subst (MembersMove found) same (stays found)
  | inr (inl opens) ↦ absurd (true≢false (sym (ap is_keepers opens.0) ∙ turn))
  | inr (inr (inl notes)) ↦ at MembersMove found word 2 3 notes.0 notes.1
      record { none = refl; lay = refl; took = refl; ends = λ is. absurd (true≢false (sym is)) }
  | inr (inr (inr (inl takes))) ↦ at MembersMove found word 1 2 takes.0 takes.1
      record { none = refl; lay = refl; took = refl; ends = λ is. absurd (true≢false (sym is)) }
  | inr (inr (inr (inr took))) ↦ absurd (true≢false (sym (ap is_keepers took.0) ∙ turn))
]
  where
    stays : (w : ℕ) → MembersMove w w
    stays w = record {
      none = ap {B = ℕ} (λ (b : Bool). if b then 1 else 0) (never 0 1 w (λ e. omega (arith, e)));
      lay = (let none = not_taken in omega (arith, none));
      took = ap {B = ℕ} (λ (b : Bool). if b then 1 else 0)
          ((λ i. never 1 2 w (λ e. omega (arith, e)) i || never 3 0 w (λ e. omega (arith, e)) i)) ∙ sym not_taken;
      ends = λ is. is;
    }
      where
        not_taken : taking w w ≡ 0
        not_taken = ap {B = ℕ} (λ (b : Bool). if b then 1 else 0) (never 1 2 w (λ e. omega (arith, e)))
