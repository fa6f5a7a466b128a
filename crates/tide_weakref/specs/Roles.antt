-- What is wanted of a weak handle's target, and which weak handles in use are meant.
use Rattle.std.specs.Prelude.{ℕ, ◌==◌, Bool, false, Option, None, Some}
use Rattle.tide_weakref.specs.declared.weak.Role.{Role}
use Rattle.tide_weakref.specs.declared.weak.Role.TheVariants.{Reference, Registration}
use Rattle.tide_weakref.specs.declared.weak.Weak.{Weak}
use Rattle.tide_weakref.specs.declared.weak.Chosen.{Chosen}
use Rattle.tide_weakref.specs.declared.weak.Chosen.TheVariants.{Number, Token}

-- the value that is delivered once the target is gone, of a registration
abbrev pub held_of : Role → Option ℕ
held_of Reference = None
held_of (Registration held token) = Some held

-- the role is that of a registration with this token
abbrev pub is_of_token : ℕ → Role → Bool
is_of_token token Reference = false
is_of_token token (Registration held own) = own == token

-- the weak handle is that of a registration with this token
abbrev pub has_token : ℕ → Weak → Bool
has_token token one = is_of_token token one.role

-- the weak handle is one of those that are meant
abbrev pub is_chosen : Chosen → Weak → Bool
is_chosen (Number number) one = one.at == number
is_chosen (Token token) one = has_token token one
