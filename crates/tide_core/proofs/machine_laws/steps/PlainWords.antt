-- A call that writes one word of a register, a handle or a claim keeps the wave, by the reading law of its
-- operation.
use Rattle.std.proofs.Common.{ℕ, ◌≡◌, ◌≢◌, ◌<◌, ◌==◌, refl, sym, ◌∙◌, ap, subst, arith, Bool, true, false, List, [], ◌∷◌, ◌++◌, inl, inr, None, ◌⊎◌}
use Rattle.std.proofs.lemmas.Bool.{cases_Bool, eqb-true, ne_eqb, and_parts}
use Rattle.std.specs.Prelude.{Contains, if◌then◌else◌, ◌&&◌, not}
use Rattle.tide_core.specs.wave.FrozenWave.{is_birth_of}
use Rattle.tide_words.proofs.tide_layout.Places.{tag-injective}
use Rattle.tide_words.specs.tide_layout.Region.{tag}
use Rattle.tide_words.specs.tide_layout.declared.region.Region.{Region}
use Rattle.tide_words.specs.tide_layout.declared.region.Region.TheVariants as region
use Rattle.tide_core.proofs.machine_laws.steps.Frames.{calls_view}
use Rattle.tide_core.proofs.machine_laws.steps.Lists.{nothing_in}
use Rattle.tide_core.proofs.machine_laws.steps.PlainCalls
use Rattle.tide_core.proofs.machine_laws.steps.Unsettled.{given_put, unsettled_write, unsettles_put}
use Rattle.tide_core.specs.machine.Entries.{call_of}
use Rattle.tide_core.specs.machine.Owed.{Owes, IsOwnWord, own_register, own_structure, own_array, own_pair, own_element, owed_word, Unsettles}
use Rattle.tide_core.specs.machine.RunningWave.{RunningWave}
use Rattle.tide_core.specs.machine.World.{World, parties}
use Rattle.tide_core.specs.declared.machine.view.Duty.TheVariants as duty
use Rattle.tide_core.specs.declared.machine.view.Growth.TheVariants as growth
use Rattle.tide_core.specs.declared.machine.view.Owed.{Owed}
use Rattle.tide_core.specs.declared.machine.view.View.{View}
use Rattle.tide_core.specs.machine.points.Births.{IsHidden}
use Rattle.tide_core.specs.machine.points.SettledWords.{RunningWordsRead}
use Rattle.tide_model.proofs.ReferenceLaws.{put_at_elim}
use Rattle.tide_model.specs.Applied.{after_call}
use Rattle.tide_model.specs.History.{state_after}
use Rattle.tide_model.specs.Lawful.{Stands}
use Rattle.tide_model.specs.Layout.{Layout}
use Rattle.tide_model.specs.Numbers.{put_at}
use Rattle.tide_model.specs.References.{IsLive}
use Rattle.tide_model.specs.Refused.{ShapeLists}
use Rattle.tide_model.specs.State.{State}
use Rattle.tide_model.specs.declared.entry.Entry.TheVariants.{Call}
use Rattle.tide_model.specs.declared.op.Op.{Op}
use Rattle.tide_model.specs.declared.op.Reply.{Reply}
use Rattle.tide_model.specs.declared.val.Val.{Val}
use Rattle.tide_model.specs.declared.val.Val.TheVariants.{Cell}
use Rattle.tide_words.proofs.heap_laws.HeapLaws.{write-other_region}
use Rattle.tide_words.specs.heap.Heap.{Heap, write}
use Rattle.tide_words.specs.heap.Reading.{ReadsAs}

module _ (layout : Layout) (shapes : ShapeLists) (w : World) (me : ℕ) (inside : me < parties)
    (wave : RunningWave layout shapes w) (runs : (w.part me).runs ≡ true)
    (idle : (w.part me).duty ≡ duty.Nothing) (owes_nothing : (w.part me).owed ≡ [])
    (grows_not : (w.part me).growth ≡ growth.Nothing)
    (op : Op) (reply : Reply) (bears_nothing : (cell : ℕ) → is_birth_of cell (Call me op reply) ≡ false)
    (stands : Stands layout shapes w.log (call_of me op reply None))
    (active : ℕ → Bool) (registers : ℕ → ℕ → Val) (claims : ℕ → List ℕ) (strong weak : ℕ → Val) (left : Bool)
    (there : Region) (idx word : ℕ) where
  abbrev pub state : State
  state = state_after layout w.log

  abbrev pub after : State
  after = record state { active = active; registers = registers; claims = claims; strong = strong; weak = weak }

  abbrev pub new : Heap
  new = write w.heap there idx word

  abbrev pub later : View
  later = record (w.part me) {
    owed = [];
    known = [];
    full = [];
    left = left;
    seen = w.log ++ call_of me op reply None ∷ [];
    mine = (w.part me).mine ++ call_of me op reply None ∷ [];
  }

  pub record ShowsWord : Type 0 where
    pub changes : PlainCalls.is_changed there ≡ true
    pub no_call : (tag region.Call == tag there) ≡ false
    -- no sweep has the word differ
    pub settled : (p other : ℕ) → Unsettles (w.part p) there idx other → ⊥
    pub becomes : after_call state me op reply None ≡ after
    pub reads : ReadsAs layout shapes (write wave.words.settled there idx word) after
    pub alone : (p : ℕ) → p ≢ me → IsOwnWord layout state p there idx → ⊥
    pub claims_else : (p : ℕ) → p ≢ me → claims p ≡ state.claims p
    pub active_else : (p : ℕ) → p ≢ me → active p ≡ state.active p
    pub left_is : left ≡ not (active me)
    pub leaves : (left ≡ (w.part me).left) ⊎ ((w.part me).sweeping ≡ None)
    pub hidden : (p c : ℕ) → p ≢ me → IsLive state c → IsHidden state p c →
        ((who register : ℕ) → who ≢ p → active who ≡ true → registers who register ≡ Cell c → ⊥)
        × ((handle : ℕ) → strong handle ≡ Cell c → ⊥) × ((handle : ℕ) → weak handle ≡ Cell c → ⊥) ×
        ((who : ℕ) → Contains (claims who) c → ⊥)

  module _ (s : ShowsWord) where
    own_same : (h : Heap) (p : ℕ) (at : Region) (index : ℕ) → p ≢ me → IsOwnWord layout state p at index →
        write h there idx word at index ≡ h at index
    own_same h p at index apart own = elim (cases_Bool ((tag at == tag there) && (index == idx))) [
      | inl both ↦
          let parts = and_parts (tag at == tag there) (index == idx) both in
          let r = tag-injective at there (eqb-true (tag at) (tag there) parts.0) in
          let i = eqb-true index idx parts.1 in
          absurd (s.alone p apart (subst (λ (q : Region). IsOwnWord layout state p q idx) r
          (subst (λ (j : ℕ). IsOwnWord layout state p at j) i own)))
      | inr isnt ↦ ap (λ (b : Bool). if b then word else h at index) isnt
    ]

    own_after : (p : ℕ) (at : Region) (index : ℕ) → p ≢ me → IsOwnWord layout state p at index →
        IsOwnWord layout after p at index
    own_after p _ _ apart (own_register r a b) = own_register r a b
    own_after p _ _ apart (own_structure c at) =
        own_structure c (subst (λ (l : List ℕ). Contains l c) (sym (s.claims_else p apart)) at)
    own_after p _ _ apart (own_array c at) =
        own_array c (subst (λ (l : List ℕ). Contains l c) (sym (s.claims_else p apart)) at)
    own_after p _ _ apart (own_pair t k at one has) =
        own_pair t k (subst (λ (l : List ℕ). Contains l t) (sym (s.claims_else p apart)) at) one has
    own_after p _ _ apart (own_element c a k at is has) =
        own_element c a k (subst (λ (l : List ℕ). Contains l c) (sym (s.claims_else p apart)) at) is has

    words_after : RunningWordsRead layout shapes new (put_at w.part me later) after
    words_after = record {
      settled = write wave.words.settled there idx word;
      reads = s.reads;
      same = λ at index read free swept. ap (λ (z : ℕ). if (tag at == tag there) && (index == idx) then word else z)
          (wave.words.same at index read (λ p x owes. free p x (back p at index x owes))
          (unsettles_put w.part me later refl at index swept));
      given = given_put (write wave.words.settled there idx word) w.part me later refl (λ p g is gave.
          write-other_region wave.words.settled there region.Dead idx g.block word
          (ne_eqb (tag region.Dead) (tag there) (λ same. let r = tag-injective region.Dead there same in let also =
          ap PlainCalls.is_changed r in let c = s.changes in absurd (cc))) ∙ wave.words.given p g is gave);
      owed = put_at_elim (λ p u. (at : Region) (index x : ℕ) → Owes u at index x →
          write wave.words.settled there idx word at index ≡ x) w.part me later
          (λ at index x owes. absurd (nothing_in (owed_word at index x) owes)) (λ p apart at index x owes.
          own_same wave.words.settled p at index apart (wave.words.owns p at index x owes) ∙
          wave.words.owed p at index x owes);
      known = put_at_elim (λ p u. (at : Region) (index x : ℕ) → Contains u.known (owed_word at index x) →
          write wave.words.settled there idx word at index ≡ x) w.part me later
          (λ at index x is. absurd (nothing_in (owed_word at index x) is)) (λ p apart at index x is.
          own_same wave.words.settled p at index apart (wave.kept.owns p at index x is) ∙
          wave.words.known p at index x is);
      owns = put_at_elim (λ p u. (at : Region) (index x : ℕ) → Owes u at index x → IsOwnWord layout after p at index)
          w.part me later
          (λ at index x owes. absurd (nothing_in (owed_word at index x) owes)) (λ p apart at index x owes.
          own_after p at index apart (wave.words.owns p at index x owes));
    }
      where
        back : (p : ℕ) (at : Region) (index x : ℕ) → Owes (w.part p) at index x →
            Owes (put_at w.part me later p) at index x
        back = put_at_elim (λ p u. (at : Region) (index x : ℕ) → Owes (w.part p) at index x →
            Owes u at index x) w.part me later
            (λ at index x owes. absurd (let below =
            (subst (λ (l : List Owed). Contains l (owed_word at index x)) owes_nothing owes).1 in
            omega (arith, below))) (λ p apart at index x owes. owes)

    pub plain_word : RunningWave layout shapes (record {
      heap = new;
      part = put_at w.part me later;
      log =
          w.log ++ call_of me op reply None ∷ [];
    })
    plain_word = PlainCalls.plain_call layout shapes w me inside wave runs idle grows_not op reply bears_nothing stands
        active registers claims strong weak (w.part me).calls left new [] record {
          becomes = s.becomes;
          same = λ at index isnt. write-other_region w.heap there at idx index word
              (ne_eqb (tag at) (tag there) (λ same. let r = tag-injective at there same in let also =
              ap PlainCalls.is_changed r in let c = s.changes in absurd (cc)));
          differs = unsettled_write w.heap w.part there idx word s.settled;
          words = words_after;
          kept = λ p at index x apart is. own_same w.heap p at index apart (wave.kept.owns p at index x is) ∙
              wave.kept.known p at index x is;
          told = calls_view layout w.heap new w.part me later refl (λ p.
              write-other_region w.heap there region.Call idx p word s.no_call) wave.calls;
          claims_else = s.claims_else;
          active_else = s.active_else;
          left_is = s.left_is;
          leaves = s.leaves;
          hidden = s.hidden;
        }
