-- A call that changes no word that is read, and leaves the store as it was, keeps the wave: refusals, and Collect.
use Rattle.std.proofs.Common.{ℕ, ◌≡◌, ◌<◌, ◌+◌, refl, ◌∙◌, ap, subst, true, false, List, [], ◌∷◌, ◌++◌, Option, Some, None, inl}
use Rattle.std.proofs.lemmas.Bool.{ne_eqb}
use Rattle.std.specs.Prelude.{Contains, ◌%◌, ◌^◌, length}
use Rattle.tide_core.specs.wave.FrozenWave.{is_birth_of}
use Rattle.tide_words.proofs.tide_layout.Places.{tag-injective}
use Rattle.tide_words.specs.tide_layout.Region.{tag}
use Rattle.tide_words.specs.tide_layout.declared.region.Region.{Region}
use Rattle.tide_words.specs.tide_layout.declared.region.Region.TheVariants as region
use Rattle.tide_core.proofs.machine_laws.steps.Colouring.{unread_write}
use Rattle.tide_core.proofs.machine_laws.steps.Lists.{nothing_in}
use Rattle.tide_core.proofs.machine_laws.steps.PlainCalls
use Rattle.tide_core.proofs.machine_laws.steps.Unsettled.{given_put, unsettled_read, unsettles_put}
use Rattle.tide_core.specs.machine.Entries.{reply_of_call, refused_or_full, class_taken, call_of}
use Rattle.tide_core.specs.machine.Kind.{StoreCall}
use Rattle.tide_core.specs.machine.Machine.{stepped}
use Rattle.tide_core.specs.machine.May.{MayCall}
use Rattle.tide_core.specs.machine.Owed.{Owes, IsOwnWord, owed_word}
use Rattle.tide_core.specs.machine.RunningWave.{RunningWave}
use Rattle.tide_core.specs.machine.World.{World, parties}
use Rattle.tide_core.specs.declared.machine.view.Owed.{Owed}
use Rattle.tide_core.specs.declared.machine.view.View.{View}
use Rattle.tide_core.specs.machine.kinds.RegisterCall.{MayStoreCall}
use Rattle.tide_core.specs.machine.points.Seen.{CallsAreTold}
use Rattle.tide_core.specs.machine.points.SettledWords.{RunningWordsRead}
use Rattle.tide_model.proofs.ReferenceLaws.{put_at_elim, after_call-refused}
use Rattle.tide_model.specs.Applied.{after_call}
use Rattle.tide_model.specs.History.{state_after}
use Rattle.tide_model.specs.Layout.{Layout}
use Rattle.tide_model.specs.Numbers.{put_at}
use Rattle.tide_model.specs.Refused.{ShapeLists, refusal_of}
use Rattle.tide_model.specs.State.{State}
use Rattle.tide_model.specs.declared.entry.Entry.TheVariants.{Call}
use Rattle.tide_model.specs.declared.op.Op.{Op}
use Rattle.tide_model.specs.declared.op.Op.TheVariants as op
use Rattle.tide_model.specs.declared.op.Refusal.{Refusal}
use Rattle.tide_model.specs.declared.op.Refusal.TheVariants.{Full}
use Rattle.tide_model.specs.declared.op.Reply.{Reply}
use Rattle.tide_words.proofs.heap_laws.Frames.{is_read}
use Rattle.tide_words.proofs.heap_laws.HeapLaws.{write-other_region, write-same, write-other_index}
use Rattle.tide_words.specs.heap.Heap.{Heap, write}

module _ (layout : Layout) (shapes : ShapeLists) (w : World) (me : ℕ) (inside : me < parties)
    (wave : RunningWave layout shapes w)
    (op : Op) (reply : Reply) (may : MayCall layout shapes w me op reply None) (bears_nothing : (cell : ℕ) →
    is_birth_of cell (Call me op reply) ≡ false)
    (becomes : after_call (state_after layout w.log) me op reply None ≡ state_after layout w.log) (calls : ℕ) where
  abbrev state : State
  state = state_after layout w.log

  abbrev later : View
  later = record (w.part me) {
    owed = [];
    known = [];
    full = [];
    calls = calls;
    seen = w.log ++ call_of me op reply None ∷ [];
    mine = (w.part me).mine ++ call_of me op reply None ∷ [];
  }

  module _ (new : Heap) (words : (at : Region) (index : ℕ) → is_read at ≡ true → new at index ≡ w.heap at index)
      (same : (at : Region) (index : ℕ) → PlainCalls.is_changed at ≡ false → new at index ≡ w.heap at index)
      (told : CallsAreTold layout new (put_at w.part me later)) where
    words_after : RunningWordsRead layout shapes new (put_at w.part me later) state
    words_after = record {
      settled = wave.words.settled;
      reads = wave.words.reads;
      same = λ at index read free swept. words at index read ∙
          wave.words.same at index read (λ p x owes. free p x (back p at index x owes))
          (unsettles_put w.part me later refl at index swept);
      given = given_put wave.words.settled w.part me later refl wave.words.given;
      owed = put_at_elim (λ p u. (at : Region) (index x : ℕ) → Owes u at index x →
          wave.words.settled at index ≡ x) w.part me later
          (λ at index x owes. absurd (nothing_in (owed_word at index x) owes)) (λ p apart at index x owes.
          wave.words.owed p at index x owes);
      known = put_at_elim (λ p u. (at : Region) (index x : ℕ) → Contains u.known (owed_word at index x) →
          wave.words.settled at index ≡ x) w.part me later
          (λ at index x is. absurd (nothing_in (owed_word at index x) is)) (λ p apart at index x is.
          wave.words.known p at index x is);
      owns = put_at_elim (λ p u. (at : Region) (index x : ℕ) → Owes u at index x → IsOwnWord layout state p at index)
          w.part me later
          (λ at index x owes. absurd (nothing_in (owed_word at index x) owes)) (λ p apart at index x owes.
          wave.words.owns p at index x owes);
    }
      where
        back : (p : ℕ) (at : Region) (index x : ℕ) → Owes (w.part p) at index x →
            Owes (put_at w.part me later p) at index x
        back = put_at_elim (λ p u. (at : Region) (index x : ℕ) → Owes (w.part p) at index x →
            Owes u at index x) w.part me later
            (λ at index x owes. absurd (nothing_in (owed_word at index x)
            (subst (λ (l : List Owed). Contains l (owed_word at index x)) may.between.owed owes)))
            (λ p apart at index x owes. owes)

    pub leaves_all : RunningWave layout shapes (record {
      heap = new;
      part = put_at w.part me later;
      log =
          w.log ++ call_of me op reply None ∷ [];
    })
    leaves_all = PlainCalls.plain_call layout shapes w me inside wave may.runner.runs may.between.duty
        may.between.growth op reply bears_nothing may.stands
        state.active state.registers state.claims state.strong state.weak calls (w.part me).left new [] record {
          becomes = becomes;
          same = same;
          differs = λ p at index other un. words at index (unsettled_read layout w.heap (w.part p) at index other
              (wave.sweeps.named.stands p) un);
          words = words_after;
          told = told;
          kept = λ p at index x apart is. words at index (wave.kept.reads p at index x is) ∙
              wave.kept.known p at index x is;
          claims_else = λ p apart. refl;
          active_else = λ p apart. refl;
          left_is = wave.left me;
          leaves = inl refl;
          hidden = λ p c apart alive h. (h.registers, h.strong, h.weak, h.claims);
        }

-- a refusal, or the answer to Collect, leaves the store
pub leaves_store : (layout : Layout) (shapes : ShapeLists) (now : State) (who : ℕ) (o : Op) →
    (after_call now who o (reply_of_call layout shapes now who o) None ≡ now)
    × ((cell : ℕ) → is_birth_of cell (Call who o (reply_of_call layout shapes now who o)) ≡ false)
leaves_store layout shapes now who op.Collect = (refl, λ cell. refl)
leaves_store layout shapes now who o = by (refusal_of layout shapes now who o)
  where
    by : (refused : Option Refusal) →
        (after_call now who o (refused_or_full refused (class_taken now who o)) None ≡ now)
        × ((cell : ℕ) → is_birth_of cell (Call who o (refused_or_full refused (class_taken now who o))) ≡ false)
    by (Some refusal) = (after_call-refused now who o refusal None, λ cell. refl)
    by None = (after_call-refused now who o (Full (class_taken now who o)) None, λ cell. refl)

-- a call word is stored, with a call that own words answer
pub store_call : (layout : Layout) (shapes : ShapeLists) (w : World) (me : ℕ) → me < parties →
    RunningWave layout shapes w →
    (word : ℕ) (o : Op) → MayStoreCall layout shapes w me word (Some o) →
    RunningWave layout shapes (stepped layout shapes w me (StoreCall word (Some o)))
store_call layout shapes w me inside wave word o (may, is) =
    let leaves = leaves_store layout shapes (state_after layout w.log) me o in
    leaves_all layout shapes w me inside wave o (reply_of_call layout shapes (state_after layout w.log) me o) may
    leaves.1 leaves.0
    (length (w.part me).mine + 1) (write w.heap region.Call me word)
    (λ at i read. unread_write w.heap region.Call me word refl at i read)
    (λ at i isnt. write-other_region w.heap region.Call at me i word
    (ne_eqb (tag at) (tag region.Call) (λ same. let r = tag-injective at region.Call same in let also =
    ap PlainCalls.is_changed r in absurd (cc))))
    (put_at_elim (λ p u. p < layout.mutators → write w.heap region.Call me word region.Call p ≡ u.calls % 2 ^ 64) w.part
    me _
    (λ within. write-same w.heap region.Call me word ∙ is)
    (λ p apart within. write-other_index w.heap region.Call me p word apart ∙ wave.calls p within))
