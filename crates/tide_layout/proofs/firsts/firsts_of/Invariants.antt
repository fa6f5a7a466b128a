-- The classes before this one are told.
use Rattle.std.proofs.Common.{ℕ, ◌≡◌, ◌<◌, length}
use Rattle.std.specs.Prelude.{slice_index}
use Rattle.tide_layout.specs.Firsts.{first_id}
use Rattle.tide_layout.specs.Slots.{words_among}
use Rattle.tide_layout.proofs.firsts.firsts_of.Given as goal

abbrev pub invariant-loop-class : goal.invariant-loop-class
invariant-loop-class l = record {
  five_ids : length l.ids ≡ 5;
  five_words : length l.words ≡ 5;
  next : l.next ≡ first_id l.blocks l.class;
  ids : (class : ℕ) → class < l.class → slice_index l.ids class ≡ first_id l.blocks class;
  words : (class : ℕ) → class < l.class → slice_index l.words class ≡ words_among l.blocks l.first (first_id l.blocks class);
}
