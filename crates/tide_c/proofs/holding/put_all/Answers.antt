-- One more party is behind its handle.
use Rattle.std.proofs.Common.{◌<◌, ◌+◌, ◌∙◌, List, [], ◌∷◌, ◌++◌, ap, arith, length, map, sym, subst, take}
use Rattle.std.proofs.lemmas.List.{append_assoc, length-append, length-map, length-set, length_push, map-append, map-set, take_more_set}
use Rattle.std.proofs.lemmas.List.Elements.{All-head, All-tail}
use Rattle.std.specs.Prelude.{All, Option, Some}
use Rattle.std.specs.declared.alloc.Global.{Global}
use Rattle.std.specs.declared.boxed.Box.{Box}
use Rattle.std.specs.Vec.Iter.{into_iter_items}
use Rattle.tide_c.specs.Handles.{values}
use Rattle.tide_c.specs.Opened.{parties_in}
use Rattle.tide_c.specs.Parties.{PartyStands}
use Rattle.tide_c.specs.declared.handle.Handle.{Handle}
use Rattle.tide_c.specs.declared.party.Party.{Party}
use Rattle.tide_c.proofs.holding.put_all.Goals as goal

pub loop-party-preserved : goal.loop-party-preserved
loop-party-preserved c =
    let so = c.loop-party.invariant in let now = c.loop-party.handles in let at = c.loop-party.at in
    let yielded = c.loop-party.yielded in let one = c.in-Some.party in let new = c.put.new.handle in
    let longer = length_push yielded one in let had = so.counted in let rest = c.in-Some.ensures.steps.0 in
    let all = ap length so.all in let parts = length-append yielded (into_iter_items c.loop-party.party-iterator) in let fewer = ap length rest in
    let many = c.requires.many in let long = so.long in let mapped = length-map now (λ (h : Handle). h.value) in
    let low : at < length (values now) = omega (arith, had, all, parts, fewer, many, long, mapped) in
    record {
      counted = omega (arith, longer, had);
      long = length-set now at new ∙ so.long;
      all = append_assoc yielded (one ∷ []) _ ∙ ap (λ (l : List (Box Party Global)). yielded ++ l) (sym rest) ∙ so.all;
      stand = All-tail PartyStands one.value _ (subst (λ (l : List (Box Party Global)). All PartyStands (parties_in l)) rest so.stand);
      put = ap (take (at + 1)) (map-set (λ (h : Handle). h.value) now at new) ∙ take_more_set (values now) at new.value low
          ∙ ap (λ (l : List (Option Party)). l ++ new.value ∷ []) so.put
          ∙ ap (λ (v : Option Party). map Some (parties_in yielded) ++ v ∷ []) c.put.ensures
          ∙ sym (ap (map Some) (map-append (λ (b : Box Party Global). b.value) yielded (one ∷ []))
          ∙ map-append Some (parties_in yielded) (one.value ∷ []));
    }

pub put-requires : goal.put-requires
put-requires c = record {
  stands = All-head PartyStands c.in-Some.party.value _
      (subst (λ (l : List (Box Party Global)). All PartyStands (parties_in l)) c.in-Some.ensures.steps.0 c.loop-party.invariant.stand);
}
