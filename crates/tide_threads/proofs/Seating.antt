-- Participants are made one after another.
use Rattle.std.proofs.Common.{ℕ, zero, suc, ◌≡◌, ◌∙◌, refl, sym, ap, List, [], ◌∷◌, ◌++◌, length, inl, inr, ◌⊎◌}
use Rattle.std.specs.Prelude.{Some, slice_get}
use Rattle.tide_periods.specs.declared.cursor.ScriptCursor.{ScriptCursor}

pub length_push : {X : Type 0} (xs : List X) (x : X) → length (xs ++ x ∷ []) ≡ suc (length xs)
length_push [] x = refl
length_push (y ∷ xs) x = ap suc (length_push xs x)

-- what comes right after a list
found_at : {X : Type 0} (xs : List X) (x : X) (ys : List X) → slice_get (xs ++ x ∷ ys) (length xs) ≡ Some x
found_at [] x ys = refl
found_at (y ∷ xs) x ys = found_at xs x ys

-- what stands in a list to which one was added
pub found_pushed : {X : Type 0} (xs : List X) (x : X) (k : ℕ) (y : X) → slice_get (xs ++ x ∷ []) k ≡ Some y →
    (slice_get xs k ≡ Some y) ⊎ ((k ≡ length xs) × (x ≡ y))
found_pushed [] x zero y is = inr (refl, (let e : Some x ≡ Some y = is in cc))
found_pushed [] x (suc k) y is = absurd (cc)
found_pushed (first ∷ xs) x zero y is = inl is
found_pushed (first ∷ xs) x (suc k) y is = elim (found_pushed xs x k y is) [
  | inl old ↦ inl old
  | inr new ↦ inr (ap suc new.0, new.1)
]

-- each cursor has the number of its place
pub number_at : (cursors yielded left : List ScriptCursor) (cursor : ScriptCursor) →
    ((who : ℕ) (k : ScriptCursor) → slice_get cursors who ≡ Some k → k.who ≡ who) → yielded ++ cursor ∷ left ≡ cursors →
    cursor.who ≡ length yielded
number_at cursors yielded left cursor numbers whole =
    numbers (length yielded) cursor (ap (λ (l : List ScriptCursor). slice_get l (length yielded)) (sym whole)
    ∙ found_at yielded cursor left)
