-- A line that is composed piece by piece.
use Rattle.std.proofs.Common.{◌≡◌, ◌∙◌, ap, sym, append_assoc, List, ℕ}
use Rattle.std.specs.Prelude.{◌++◌, codes, decimal}
use Rattle.tide_text.specs.lines.OpText.{key_operand, number_operand, register_operand}

-- these pieces were put behind what stood there
pub record Put (before pieces now : List ℕ) : Type 0 where
  pub is : now ≡ before ++ pieces

pub word : (before text : List ℕ) {now : List ℕ} → now ≡ before ++ text → Put before text now
word before text put = record { is = put }

pub piece : {before pieces now next : List ℕ} (more : List ℕ) → Put before pieces now → next ≡ now ++ more → Put before (pieces ++ more) next
piece {before} {pieces} more put e = record { is = e ∙ ap (λ (line : List ℕ). line ++ more) put.is ∙ append_assoc before pieces more }

pub register : {before pieces now next : List ℕ} (r : ℕ) → Put before pieces now → next ≡ now ++ register_operand r → Put before (pieces ++ register_operand r) next
register r = piece (register_operand r)

pub number : {before pieces now next : List ℕ} (n : ℕ) → Put before pieces now → next ≡ now ++ codes " " ++ decimal n → Put before (pieces ++ number_operand n) next
number {now = now} n put e = piece (number_operand n) put (e ∙ append_assoc now (codes " ") (decimal n))

two : {before pieces now next : List ℕ} (first second : List ℕ) → Put before pieces now → next ≡ now ++ (first ++ second) → Put before (pieces ++ first ++ second) next
two {before} {pieces} first second put e =
    record { is = (piece (first ++ second) put e).is ∙ ap (λ (ps : List ℕ). before ++ ps) (sym (append_assoc pieces first second)) }

pub registers : {before pieces now next : List ℕ} (r s : ℕ) → Put before pieces now → next ≡ now ++ (register_operand r ++ register_operand s)
    → Put before (pieces ++ register_operand r ++ register_operand s) next
registers r s = two (register_operand r) (register_operand s)

pub property : {before pieces now next : List ℕ} (keys : List (List ℕ)) (r key : ℕ) → Put before pieces now → next ≡ now ++ (register_operand r ++ key_operand keys key)
    → Put before (pieces ++ register_operand r ++ key_operand keys key) next
property keys r key = two (register_operand r) (key_operand keys key)
