-- A heap starts frozen, with words that meet the wave.
use Rattle.std.proofs.Common.{ℕ, suc, ◌≡◌, ◌+◌, ◌<◌, refl, sym, ◌∙◌, ap, subst, arith, List, [], ◌∷◌, ◌++◌, length, replicate, set}
use Rattle.std.proofs.lemmas.List.{get_or-replicate}
use Rattle.atomic_table.specs.Seated.{TableId}
use Rattle.tide_heap.proofs.tide_layout.Places.{place_in-below}
use Rattle.tide_heap.specs.tide_layout.Region.{size_of, word_count, place_in, block_count}
use Rattle.tide_heap.specs.tide_layout.declared.region.Region.{Region}
use Rattle.tide_heap.specs.tide_layout.declared.region.Region.TheVariants.{Active, Base, Free, Stopped}
use Rattle.tide_heap.proofs.tide_core.machine_laws.freezes.Entering.{FrozenWave-of}
use Rattle.tide_heap.proofs.tide_core.machine_laws.freezes.Freezing.{FrozenMachine-first}
use Rattle.tide_heap.specs.tide_core.machine.Frozen.{newcomer, FrozenWith}
use Rattle.tide_heap.specs.tide_core.declared.machine.view.View.{View}
use Rattle.tide_model.specs.Layout.{Layout}
use Rattle.tide_model.specs.Refused.{ShapeLists}
use Rattle.tide_table.proofs.FrozenWords.{FrozenWith-read}
use Rattle.tide_table.specs.Started.{ArePasses, HasFilled, IsStarted, is_but_next}
use Rattle.tide_heap.specs.Turns.{first_view, restored}
use Rattle.tide_heap.specs.declared.steps.pass.Pass.{Pass}
use Rattle.tide_heap.proofs.tide_words.heap_laws.Filling.{IsFilledTo-none, IsFilledTo-more, Reads-empty}
use Rattle.tide_heap.specs.tide_words.heap.EmptyHeap.{empty_heap}
use Rattle.tide_heap.specs.tide_words.heap.Filled.{IsFilledTo}
use Rattle.tide_heap.specs.tide_words.heap.Heap.{Reads, heap_of}

-- a word of a list of zeros
pub zero_word : (layout : Layout) (region : Region) (index : ℕ) → index < size_of layout region →
    heap_of layout (replicate (word_count layout) 0) region index ≡ 0
zero_word layout region index within = get_or-replicate (word_count layout) (place_in layout region index) 0 0
    (place_in-below layout region index within)

pub passes_push : (id : TableId) (first : ℕ) (ps : List Pass) (p : Pass) → ArePasses id first ps → p.seat.table_id ≡ id →
    p.seat.me.0 ≡ newcomer (first + length ps) → ArePasses id first (ps ++ p ∷ [])
passes_push id first [] p all own is = (own, is ∙ ap newcomer (omega arith), tt)
passes_push id first (x ∷ xs) p all own is =
    (all.0, all.1, passes_push id (suc first) xs p all.2 own (is ∙ ap newcomer (omega arith)))

pub next_trans : (u v w : View) → is_but_next u v → is_but_next v w → is_but_next u w
next_trans u v w one other = (other.0, other.1 ∙ ap (λ (x : View). record x { next = other.0 }) one.1)

-- nothing is filled yet
pub filled_none : (layout : Layout) (region : Region) (word : ℕ) (v : View) → HasFilled layout region word 0 v v
filled_none layout region word v =
    record { words = v.words; view = refl; filled = IsFilledTo-none layout region word v.words }

-- one place more is filled
pub filled_more : (layout : Layout) (region : Region) (word count : ℕ) (v w u : View) → length v.words ≡ word_count layout →
    count < size_of layout region → HasFilled layout region word count v w →
    u ≡ restored (place_in layout region count) word w → HasFilled layout region word (count + 1) v u
filled_more layout region word count v w u long within h is = record {
  words = set h.words (place_in layout region count) word;
  view = is ∙ ap (restored (place_in layout region count) word) h.view;
  filled = IsFilledTo-more layout region word count v.words h.words long within h.filled;
}

-- the words of the empty heap meet the wave before anything happened
pub started : (layout : Layout) (shapes : ShapeLists) (zero one two v : View) → HasFilled layout Base 1 1 (first_view layout) zero →
    HasFilled layout Active 1 layout.mutators zero one →
    HasFilled layout Free 18446744073709551615 (block_count layout) one two → is_but_next two v → IsStarted layout shapes v
started layout shapes zero one two v base active free next =
    let words_zero : zero.words ≡ base.words = ap (λ (x : View). x.words) base.view in
    let words_one : one.words ≡ active.words = ap (λ (x : View). x.words) active.view in
    let reads : Reads layout free.words empty_heap = Reads-empty layout (first_view layout).words zero.words one.words free.words refl
    (subst (λ (ws : List ℕ). IsFilledTo layout Base 1 1 (first_view layout).words ws) (sym words_zero) base.filled)
    (subst (λ (ws : List ℕ). IsFilledTo layout Active 1 layout.mutators zero.words ws) (sym words_one) active.filled)
    free.filled in
    let at_first : FrozenWith layout shapes (heap_of layout free.words) [] 0 =
    FrozenWith-read layout shapes free.words empty_heap [] 0 reads (FrozenMachine-first layout shapes).wave in
    subst (IsStarted layout shapes)
    (sym (next.1 ∙ ap (λ (x : View). record x { next = next.0 }) (free.view
    ∙ ap (λ (x : View). record x { words = free.words }) (active.view ∙ ap (λ (x : View). record x { words = active.words }) base.view))))
    record {
      frozen = refl;
      period = refl;
      seen = refl;
      gone = refl;
      births = refl;
      visited = refl;
      long = reads.all_words;
      wave = FrozenWave-of layout shapes (heap_of layout free.words) [] at_first;
      swept = at_first.swept;
      told = at_first.swept_told;
      stopped = λ index within. reads.each Stopped index within ∙ sym (zero_word layout Stopped index within);
      blacks = λ some. absurd (omega (arith, some));
    }
