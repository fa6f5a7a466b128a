-- What handing bytes on leaves of all that was taken.
use Rattle.std.specs.Prelude.{ℕ, ◌+◌, ◌-◌, List, ◌++◌, length, take, drop, Option, None, Some}
use Rattle.std.specs.Io.KnownBytes.{append_known, Appends, Keeps}
use Rattle.std.proofs.Common.{◌∙◌, ap, subst, append_assoc, take-append-drop}
use Rattle.std.proofs.lemmas.List.{drop-drop, take_rest}

-- bytes that go from the front of what waits to the end of what was handed on
pub Keeps-handed_on : (old new : Option (List ℕ)) (count : ℕ) (waiting : List ℕ) → Appends old new (take count waiting) →
    Keeps (append_known old waiting) (append_known new (drop count waiting))
Keeps-handed_on None new count waiting appends = tt
Keeps-handed_on (Some held) None count waiting appends = absurd appends
Keeps-handed_on (Some held) (Some more) count waiting appends =
    ap (λ (front : List ℕ). front ++ drop count waiting) appends ∙ append_assoc held (take count waiting) (drop count waiting)
    ∙ ap (λ (rest : List ℕ). held ++ rest) (take-append-drop count waiting)

-- the same of bytes that wait behind those that were sent
pub Keeps-sent : (old new : Option (List ℕ)) (sent count : ℕ) (bytes : List ℕ) → Appends old new (take count (take (length bytes - sent) (drop sent bytes))) →
    Keeps (append_known old (drop sent bytes)) (append_known new (drop (sent + count) bytes))
Keeps-sent old new sent count bytes appends =
    subst (λ (rest : List ℕ). Keeps (append_known old (drop sent bytes)) (append_known new rest)) (drop-drop count sent bytes)
    (Keeps-handed_on old new count (drop sent bytes) (subst (λ (rest : List ℕ). Appends old new (take count rest)) (take_rest bytes sent) appends))

-- what is held stays, and so does what waits behind it
pub Keeps-waiting : (old new : Option (List ℕ)) (waiting : List ℕ) → Keeps old new → Keeps (append_known old waiting) (append_known new waiting)
Keeps-waiting None new waiting same = tt
Keeps-waiting (Some held) None waiting same = absurd same
Keeps-waiting (Some held) (Some more) waiting same = ap (λ (front : List ℕ). front ++ waiting) same
