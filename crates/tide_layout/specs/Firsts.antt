-- Where each of five classes begins.
use Rattle.std.specs.Prelude.{ℕ, ◌*◌, List, map, sum, take}
use Rattle.std.specs.List.{range_with_len}
use Rattle.tide_layout.specs.declared.firsts.Firsts.{Firsts}
use Rattle.tide_layout.specs.Slots.{words_among}

-- the first id of a class, where each of five has so many blocks
abbrev pub first_id : List ℕ → ℕ → ℕ
first_id blocks class = 64 * sum (take class blocks)

-- the first id of each of five classes from one on, and how many words the ids before it have
unfoldable pub firsts_of : List ℕ → ℕ → Firsts
firsts_of blocks first = record {
  ids = map (first_id blocks) (range_with_len 0 5);
  words = map (λ class. words_among blocks first (first_id blocks class)) (range_with_len 0 5);
}
