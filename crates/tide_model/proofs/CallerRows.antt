-- What a call adds to what its caller has seen and made.
use Rattle.std.specs.Prelude.{◌≡◌, ◌+◌, refl, List, [], ◌∷◌, length, None}
use Rattle.std.proofs.Common.{arith, ap, ◌∙◌, lit<, length-append}
use Rattle.tide_model.specs.declared.op.Op.TheVariants.{Drop}
use Rattle.tide_model.specs.declared.op.Reply.TheVariants.{Done}
use Rattle.tide_model.specs.declared.entry.Entry.TheVariants.{Call}
use Rattle.tide_model.specs.declared.entry.Event.{Event}
use Rattle.tide_model.specs.Caller.{MakesCall}
use Rattle.tide_model.specs.History.{plain}
use Rattle.tide_model.specs.Lawful.{IsLawful}
use Rattle.tide_model.specs.OperationRows.{shared}
use Rattle.tide_model.specs.Prefix.{prefix_push}
use Rattle.tide_model.specs.Refused.{no_shapes}
use Rattle.tide_model.proofs.Histories.{IsLawful-nil, IsLawful-push}

-- mutator 0 drops a register
abbrev own : Event
own = plain (Call 0 (Drop 0) Done)

-- mutator 1 does
abbrev others : Event
others = plain (Call 1 (Drop 0) Done)

own_is_lawful : IsLawful shared no_shapes (own ∷ [])
own_is_lawful = IsLawful-push shared no_shapes [] own (IsLawful-nil shared no_shapes)
    (record { is_mutator = lit< tt; is_active = refl; fits = lit< tt; answers = refl; room = λ class is. absurd (cc) })

-- a first call is added to what was seen and to what was made
pub call_is_added : MakesCall shared no_shapes 0 (Drop 0) Done [] (own ∷ []) [] (own ∷ [])
call_is_added = record {
  took = None;
  between = [];
  seen = prefix_push [] own;
  lawful = own_is_lawful;
  ends = refl;
  adds = refl;
  were_own = refl;
  are_own = refl;
}

-- a call that adds nothing to what was seen is none, whatever was made
pub repeated_call_is_refused : (mine new_mine : List Event) → MakesCall shared no_shapes 0 (Drop 0) Done (own ∷ []) (own ∷ []) mine new_mine → ⊥
repeated_call_is_refused mine new_mine makes =
    let was : length mine ≡ 1 = ap (λ (l : List Event). length l) makes.were_own in
    let is : length new_mine ≡ 1 = ap (λ (l : List Event). length l) makes.are_own in
    let added : Event = record { entry = Call 0 (Drop 0) Done; took = makes.took } in
    let grown : length new_mine ≡ length mine + 1 = ap (λ (l : List Event). length l) makes.adds ∙ length-append mine (added ∷ []) in
    omega (arith, was, is, grown)

-- another mutator's call between two is seen, and not made
pub call_between_is_seen :
    MakesCall shared no_shapes 0 (Drop 0) Done (own ∷ []) (own ∷ others ∷ own ∷ []) (own ∷ []) (own ∷ own ∷ [])
call_between_is_seen = record {
  took = None;
  between = own ∷ others ∷ [];
  seen = record { rest = others ∷ own ∷ []; joins = refl };
  lawful = lawful;
  ends = refl;
  adds = refl;
  were_own = refl;
  are_own = refl;
}
  where
    lawful : IsLawful shared no_shapes (own ∷ others ∷ own ∷ [])
    lawful = IsLawful-push shared no_shapes (own ∷ others ∷ []) own
        (IsLawful-push shared no_shapes (own ∷ []) others own_is_lawful
        (record { is_mutator = lit< tt; is_active = refl; fits = lit< tt; answers = refl; room = λ class is. absurd (cc) }))
        (record { is_mutator = lit< tt; is_active = refl; fits = lit< tt; answers = refl; room = λ class is. absurd (cc) })

pub call_between_is_not_made :
    MakesCall shared no_shapes 0 (Drop 0) Done (own ∷ []) (own ∷ others ∷ own ∷ []) (own ∷ []) (own ∷ others ∷ own ∷ []) → ⊥
call_between_is_not_made makes = let lengths : 3 ≡ 2 = ap (λ (l : List Event). length l) makes.are_own in omega (arith, lengths)
