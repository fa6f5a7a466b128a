-- Who may call: an active mutator of a state whose references are live.
use Rattle.std.proofs.Common.{ℕ, ◌≡◌, sym, ◌∙◌, true, inl, inr}
use Rattle.std.proofs.lemmas.Bool.{cases_lt}
use Rattle.tide_model.specs.Layout.{array_count}
use Rattle.tide_model.specs.References.{IsLive}
use Rattle.tide_model.specs.Refused.{holds}
use Rattle.tide_model.proofs.NumberLaws.{contains_from_among}
use Rattle.tide_words.proofs.heap_laws.ReadingLaws.{live_within}
use Rattle.tide_call.specs.Laws.{MutatorsMayCall}

pub mutators_may_call : MutatorsMayCall
mutators_may_call caller heap state is_mutator active claims refs reads = record {
  is_mutator = is_mutator;
  claims = claims;
  live = live;
  cells = λ register cell is. live_within caller.layout caller.shapes heap state cell reads
      (refs.in_registers caller.who register cell active is);
  arrays = λ cell array held is. elim (cases_lt array (array_count caller.layout)) [
    | inl inside ↦ inside
    | inr past ↦ absurd (
        let none = sym (reads.parts.past_arrays array past) ∙ refs.arrays_are_live cell array (live cell held) is in cc)
  ];
  keys = λ table key value held is. live_within caller.layout caller.shapes heap state key reads
      (refs.keys_of_pairs table key value (live table held) is);
}
  where
    live : (cell : ℕ) → holds state caller.who cell ≡ true → IsLive state cell
    live cell held = refs.claimed caller.who cell (contains_from_among (state.claims caller.who) cell held)
