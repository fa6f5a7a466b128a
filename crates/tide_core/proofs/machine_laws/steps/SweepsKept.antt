-- Sweeps stay named while the phase, the swept words and who sweeps stay, and nothing more is dead.
use Rattle.std.proofs.Common.{ℕ, suc, ◌≡◌, ◌<◌, ◌≤◌, ◌⊎◌, refl, sym, ◌∙◌, ap, subst, arith, Bool, true, false, List, [], ◌∷◌, ◌++◌, inl, inr, length, length-append, take, Option, None, Some}
use Rattle.std.proofs.lemmas.Bool.{cases_eq}
use Rattle.std.specs.Prelude.{◌↔◌, Contains, if◌then◌else◌}
use Rattle.tide_words.specs.tide_layout.Region.{block_count}
use Rattle.tide_words.specs.tide_layout.declared.region.Region.{Region}
use Rattle.tide_words.specs.tide_layout.declared.region.Region.TheVariants as region
use Rattle.tide_core.proofs.machine_laws.steps.Frames.{each_put}
use Rattle.tide_core.specs.machine.Owed.{Unsettles, owed_word, unsettled}
use Rattle.tide_core.specs.declared.machine.view.Saw.{Saw}
use Rattle.tide_core.specs.declared.machine.view.Sweeping.{Sweeping}
use Rattle.tide_core.specs.declared.machine.view.View.{View}
use Rattle.tide_core.specs.machine.kinds.Sweep.{IsSweeping}
use Rattle.tide_core.specs.machine.points.Sweeps.{ClearedAreClean, IsTaken, SawStands, SweepStands, Sweeps, SweepsAreNamed, SweepsAreRight, SweepersTook, SweptAreBelow, SweptAreTold, TakenAreOwed}
use Rattle.tide_model.proofs.Cycles.{take-all}
use Rattle.tide_model.proofs.DeadLaws.{DeadIsTaken-push, SweepsTaken-call, SweptWereTaken-push, TakenAreSwept-push, WasTaken-before, WasTaken-push, taken-push}
use Rattle.tide_model.proofs.Histories.{moment_after_last-le, moment_after_last-push, take-append-short}
use Rattle.tide_model.proofs.ReferenceLaws.{put_at_elim}
use Rattle.tide_model.proofs.SinceLaws.{since-push}
use Rattle.tide_model.specs.Cycle.{HasDead}
use Rattle.tide_model.specs.History.{is_open, moment_after_last, state_after}
use Rattle.tide_model.specs.Layout.{Layout}
use Rattle.tide_model.specs.Numbers.{put_at}
use Rattle.tide_model.specs.Room.{DeadIsTaken}
use Rattle.tide_model.specs.Since.{SweepsTaken, SweptWereTaken, WasTaken, is_call, is_end, is_sweep_of, is_taken_of, since}
use Rattle.tide_model.specs.State.{State}
use Rattle.tide_model.specs.declared.entry.Entry.{Entry}
use Rattle.tide_model.specs.declared.entry.Entry.TheVariants.{Call}
use Rattle.tide_model.specs.declared.entry.Event.{Event}
use Rattle.tide_sweep.specs.Clearing.{IsCleared, TellsTook}
use Rattle.tide_sweep.specs.declared.port.Cleared.{Cleared}
use Rattle.tide_words.specs.heap.Heap.{Heap}
use Rattle.tide_words.specs.marking.Colours.{is_marking, running_cycle}

-- what the words of the phase and of a block say of its sweep
pub is_taken : (old new : Heap) (block : ℕ) → new region.Phase 0 ≡ old region.Phase 0 →
    new region.Swept block ≡ old region.Swept block → IsTaken new block → IsTaken old block
is_taken old new block phase word taken = (
  ap (λ (p : ℕ). is_marking (λ at index. p)) (sym phase) ∙ taken.0,
  sym word ∙ taken.1 ∙ ap (λ (p : ℕ). running_cycle (λ at index. p)) phase,
)

pub swept_kept : (layout : Layout) (old new : Heap) → new region.Phase 0 ≡ old region.Phase 0 →
    ((block : ℕ) → block < block_count layout → new region.Swept block ≡ old region.Swept block) →
    SweptAreBelow layout old → SweptAreBelow layout new
swept_kept layout old new phase words below = record {
  last = λ block within. (let w = words block within in let few = below.last block within in
      omega (arith, w, few, running));
  ended = λ marks block within. (let w = words block within in let few = below.ended (sym marking ∙ marks) block within
      in omega (arith, w, few, running));
}
  where
    marking : is_marking new ≡ is_marking old
    marking = ap (λ (p : ℕ). is_marking (λ at index. p)) phase

    running : running_cycle new ≡ running_cycle old
    running = ap (λ (p : ℕ). running_cycle (λ at index. p)) phase

-- the view sweeps what it swept before
pub sweeps_same : (u v : View) (block : ℕ) → v.sweeping ≡ u.sweeping → Sweeps v block → Sweeps u block
sweeps_same u v block same s = record { sweeping = s.sweeping; is = sym same ∙ s.is; of_block = s.of_block }

-- what was zeroed differs until the bits are given
pub unsettles_zeroed : (o : Option Sweeping) (s : Sweeping) (at : Region) (index word : ℕ) → o ≡ Some s → s.given ≡ false →
    Contains s.zeroed (owed_word at index word) → Contains (unsettled o) (owed_word at index word)
unsettles_zeroed o s at index word is ungiven zero =
    subst (λ (x : Option Sweeping). Contains (unsettled x) (owed_word at index word)) (sym is)
    (subst (λ (b : Bool). Contains (if b then owed_word region.Dead s.block 0 ∷ [] else s.zeroed) (owed_word at index word))
    (sym ungiven) zero)

-- the view sweeps the block, and hasn't given its bits, as before
pub sweeping_same : (u v : View) (block : ℕ) → v.sweeping ≡ u.sweeping → IsSweeping v block → IsSweeping u block
sweeping_same u v block same s = record {
  sweeping = s.sweeping;
  is = sym same ∙ s.is;
  of_block = s.of_block;
  ungiven = s.ungiven;
}

-- a sweep stands where its words do
pub stands_kept : (layout : Layout) (old new : Heap) (s : Sweeping) →
    ((block : ℕ) → new region.Dead block ≡ old region.Dead block) →
    (s.given ≡ false → (at : Region) (index word : ℕ) → Contains s.zeroed (owed_word at index word) → new at index ≡ old at index) →
    SweepStands layout old s → SweepStands layout new s
stands_kept layout old new s dead zero was = record {
  within = was.within;
  dead = λ ungiven. dead s.block ∙ was.dead ungiven;
  zeroed = λ ungiven at index word is. (let z = was.zeroed ungiven at index word is in (z.0, zero ungiven at index word is ∙ z.1));
}

-- what was seen of a block, where its words stay or it is taken
pub saw_kept : (layout : Layout) (old new : Heap) (saw : Saw) → (IsTaken old saw.block → IsTaken new saw.block) →
    (new region.Dead saw.block ≡ old region.Dead saw.block) ⊎ IsTaken new saw.block →
    new region.Swept saw.block ≡ old region.Swept saw.block → SawStands layout old saw → SawStands layout new saw
saw_kept layout old new saw taken dead_word swept_word was = record {
  within = was.within;
  dead = elim was.dead [
    | inl stands ↦ elim dead_word [
      | inl same ↦ inl (same ∙ stands)
      | inr now ↦ inr now
    ]
    | inr before ↦ inr (taken before)
  ];
  swept = λ word is. elim (was.swept word is) [
    | inl stands ↦ inl (swept_word ∙ stands)
    | inr before ↦ inr (taken before)
  ];
}

pub named_kept : (layout : Layout) (old new : Heap) (part : ℕ → View) (me : ℕ) (w : View) (before after : State) →
    new region.Phase 0 ≡ old region.Phase 0 → ((block : ℕ) → new region.Swept block ≡ old region.Swept block) →
    ((block : ℕ) → new region.Dead block ≡ old region.Dead block) →
    ((p : ℕ) (at : Region) (index word : ℕ) → Unsettles (part p) at index word → new at index ≡ old at index) →
    w.sweeping ≡ (part me).sweeping → w.saw ≡ (part me).saw →
    (w.left ≡ (part me).left) ⊎ ((part me).sweeping ≡ None) →
    ((block : ℕ) → HasDead layout after block → HasDead layout before block) →
    SweepsAreNamed layout old part before → SweepsAreNamed layout new (put_at part me w) after
named_kept layout old new part me w before after phase words dead_words zero same same_saw leaves dead named = record {
  taken = each_put (λ p u. (block : ℕ) → Sweeps u block → IsTaken new block) part me w
      (λ block s. taken_now block (named.taken me block (sweeps_same (part me) w block same s)))
      (λ p block s. taken_now block (named.taken p block s));
  begun = each_put (λ p u. (block : ℕ) → Sweeps u block → 0 < running_cycle new) part me w
      (λ block s. let some = named.begun me block (sweeps_same (part me) w block same s) in omega (arith, some, running))
      (λ p block s. let some = named.begun p block s in omega (arith, some, running));
  active = each_put (λ p u. (block : ℕ) → Sweeps u block → (p < layout.mutators) × (u.left ≡ false)) part me w
      (λ block s. let was = named.active me block (sweeps_same (part me) w block same s) in (
        was.0,
        elim leaves [
          | inl stays ↦ stays ∙ was.1
          | inr none ↦ absurd (let is = s.is in let other = sym same ∙ is in cc)
        ],
      )) named.active;
  owner = named.owner;
  once = each_put (λ p u. (block : ℕ) → Sweeps u block → named.owner block ≡ p) part me w
      (λ block s. named.once me block (sweeps_same (part me) w block same s)) named.once;
  named = λ block within taken has.
      let (p, s) = named.named block within (is_taken old new block phase (words block) taken) (dead block has) in (
        p,
        put_at_elim (λ p u. IsSweeping (part p) block → IsSweeping u block) part me w
            (sweeping_same w (part me) block (sym same)) (λ p apart s. s) p s,
      );
  stands = each_put (λ p u. (s : Sweeping) → u.sweeping ≡ Some s → SweepStands layout new s) part me w
      (λ s is. still me s (sym same ∙ is)) still;
  saw = each_put (λ p u. (saw : Saw) → u.saw ≡ Some saw → SawStands layout new saw) part me w
      (λ saw is. seen me saw (sym same_saw ∙ is)) seen;
}
  where
    running : running_cycle new ≡ running_cycle old
    running = ap (λ (p : ℕ). running_cycle (λ at index. p)) phase

    taken_now : (block : ℕ) → IsTaken old block → IsTaken new block
    taken_now block = is_taken new old block (sym phase) (sym (words block))

    still : (p : ℕ) (s : Sweeping) → (part p).sweeping ≡ Some s → SweepStands layout new s
    still p s is = stands_kept layout old new s dead_words (λ ungiven at index word has. zero p at index word
        (unsettles_zeroed (part p).sweeping s at index word is ungiven has)) (named.stands p s is)

    seen : (p : ℕ) (saw : Saw) → (part p).saw ≡ Some saw → SawStands layout new saw
    seen p saw is = saw_kept layout old new saw (λ taken. taken_now saw.block taken) (inl (dead_words saw.block))
        (words saw.block) (named.saw p saw is)

-- the words of the phase and of sweeps tell the same
pub told_kept : (layout : Layout) (old new : Heap) (before after : List Event) →
    new region.Phase 0 ≡ old region.Phase 0 →
    ((block : ℕ) → block < block_count layout → new region.Swept block ≡ old region.Swept block) →
    ((block : ℕ) → WasTaken before block ↔ WasTaken after block) → SweptAreTold layout old before → SweptAreTold layout new after
told_kept layout old new before after phase words taken told idle some block within = (
  λ is. (taken block).0 ((was block within).0 (is_taken old new block phase (words block within) is)),
  λ is. is_taken new old block (sym phase) (sym (words block within)) ((was block within).1 ((taken block).1 is)),
)
  where
    was : (b : ℕ) → b < block_count layout → IsTaken old b ↔ WasTaken before b
    was = told (ap (λ (p : ℕ). is_marking (λ at index. p)) (sym phase) ∙ idle)
        (let running : running_cycle new ≡ running_cycle old = ap (λ (p : ℕ). running_cycle (λ at index. p)) phase in
        omega (arith, some, running))

-- who has still to sweep, has still to
pub owed_kept : (part : ℕ → View) (me : ℕ) (w : View) (log : List Event) → w.sweeping ≡ (part me).sweeping →
    TakenAreOwed part log → TakenAreOwed (put_at part me w) log
owed_kept part me w log same owed block = elim (owed block) [
  | inl swept ↦ inl swept
  | inr (p, s) ↦ inr (
    p,
    put_at_elim (λ p u. IsSweeping (part p) block → IsSweeping u block) part me w
        (sweeping_same w (part me) block (sym same)) (λ p apart s. s) p s,
  )
]

-- who sweeps took it in the part, also where the history is longer
pub took_kept : (part : ℕ → View) (me : ℕ) (w : View) (log : List Event) → w.sweeping ≡ (part me).sweeping →
    SweepersTook part log → SweepersTook (put_at part me w) log
took_kept part me w log same took = each_put (λ p u. (block : ℕ) → Sweeps u block →
    0 < moment_after_last (λ e. is_taken_of block e.entry) (since is_open log)) part me w
    (λ block s. took me block (sweeps_same (part me) w block same s)) took

pub took_push : (part : ℕ → View) (log : List Event) (event : Event) → is_open event.entry ≡ false →
    SweepersTook part log → SweepersTook part (log ++ event ∷ [])
took_push part log event stays took p block s =
    subst (λ (l : List Event). 0 < moment_after_last (λ e. is_taken_of block e.entry) l) (sym (since-push is_open log event stays))
    (taken-push (since is_open log) event block (took p block s))

-- each sweep stands behind its taking, also where one more event came
pub behind_push : (log : List Event) (event : Event) → is_open event.entry ≡ false →
    SweptWereTaken (since is_open log) → SweepsTaken (since is_open log) event →
    SweptWereTaken (since is_open (log ++ event ∷ []))
behind_push log event stays each now =
    subst SweptWereTaken (sym (since-push is_open log event stays)) (SweptWereTaken-push (since is_open log) event each now)

pub cleared_kept : (layout : Layout) (part : ℕ → View) (me : ℕ) (w : View) (log : List Event) → w.cleared ≡ (part me).cleared →
    ClearedAreClean layout part log → ClearedAreClean layout (put_at part me w) log
cleared_kept layout part me w log same clean =
    each_put (λ p u. (one : Cleared) → Contains u.cleared one → IsCleared layout log one) part me w
    (λ one is. clean me one (subst (λ (l : List Cleared). Contains l one) same is)) clean

-- a step that makes no entry keeps what is said of sweeps, where it leaves the words of sweeps and its view's
pub sweeps_kept : (layout : Layout) (old new : Heap) (part : ℕ → View) (me : ℕ) (w : View) (log : List Event) →
    new region.Phase 0 ≡ old region.Phase 0 → ((block : ℕ) → new region.Swept block ≡ old region.Swept block) →
    ((block : ℕ) → new region.Dead block ≡ old region.Dead block) →
    ((p : ℕ) (at : Region) (index word : ℕ) → Unsettles (part p) at index word → new at index ≡ old at index) →
    w.sweeping ≡ (part me).sweeping → w.saw ≡ (part me).saw → w.cleared ≡ (part me).cleared → w.left ≡ (part me).left →
    SweepsAreRight layout old part log → SweepsAreRight layout new (put_at part me w) log
sweeps_kept layout old new part me w log phase words dead zero same saw cleared left right = record {
  named = named_kept layout old new part me w (state_after layout log) (state_after layout log) phase words dead zero same saw
      (inl left) (λ block has. has) right.named;
  told = told_kept layout old new log log phase (λ block within. words block) (λ block. (λ is. is, λ is. is)) right.told;
  taken = owed_kept part me w log same right.taken;
  took = took_kept part me w log same right.took;
  swept = right.swept;
  cleared = cleared_kept layout part me w log cleared right.cleared;
}

-- what is cleared stays so when anything but an end comes
pub cleared_push : (layout : Layout) (part : ℕ → View) (log : List Event) (event : Event) → is_end event.entry ≡ false →
    ClearedAreClean layout part log → ClearedAreClean layout part (log ++ event ∷ [])
cleared_push layout part log event no_end clean p one is =
    let was = clean p one is in
    let inside = was.within in
    let size = length-append log (event ∷ []) in record {
      within = omega (arith, inside, size);
      taken = λ later from to. elim (cases_eq later (suc (length log))) [
        | inl last ↦
            let whole : take later (log ++ event ∷ []) ≡ log ++ event ∷ [] =
            ap (λ (n : ℕ). take n (log ++ event ∷ [])) (omega (arith, last, size)) ∙ take-all (log ++ event ∷ []) in
            subst (λ (l : List Event). DeadIsTaken layout l one.block) (sym whole)
            (DeadIsTaken-push layout log event one.block no_end
            (subst (λ (l : List Event). DeadIsTaken layout l one.block) (take-all log)
            (was.taken (length log) inside (omega arith))))
        | inr apart ↦ (let early : later ≤ length log = omega (arith, apart, to, size) in
            subst (λ (l : List Event). DeadIsTaken layout l one.block) (sym (take-append-short log (event ∷ []) later early))
            (was.taken later from early))
      ];
      told = subst (λ (l : List Event). TellsTook layout l one.block one.took)
          (sym (take-append-short log (event ∷ []) one.moment inside)) was.told;
    }

-- a call leaves what is said of sweeps
pub sweeps_called : (layout : Layout) (old new : Heap) (part : ℕ → View) (me : ℕ) (w : View) (log : List Event) (event : Event) →
    is_call event.entry ≡ true →
    new region.Phase 0 ≡ old region.Phase 0 → ((block : ℕ) → new region.Swept block ≡ old region.Swept block) →
    ((block : ℕ) → new region.Dead block ≡ old region.Dead block) →
    ((p : ℕ) (at : Region) (index word : ℕ) → Unsettles (part p) at index word → new at index ≡ old at index) →
    w.sweeping ≡ (part me).sweeping → w.saw ≡ (part me).saw → w.cleared ≡ (part me).cleared →
    (w.left ≡ (part me).left) ⊎ ((part me).sweeping ≡ None) →
    ((block : ℕ) → HasDead layout (state_after layout (log ++ event ∷ [])) block → HasDead layout (state_after layout log) block) →
    SweepsAreRight layout old part log → SweepsAreRight layout new (put_at part me w) (log ++ event ∷ [])
sweeps_called layout old new part me w log event calls phase words dead_words zero same saw cleared leaves dead right = record {
  named = named_kept layout old new part me w (state_after layout log) (state_after layout (log ++ event ∷ [])) phase words
      dead_words zero same saw leaves dead right.named;
  told = told_kept layout old new log (log ++ event ∷ []) phase (λ block within. words block) (λ block. (
    WasTaken-push log event block (ends_none event.entry calls),
    WasTaken-before log event block (takes_none event.entry block calls),
  )) right.told;
  taken = owed_kept part me w (log ++ event ∷ []) same (λ block. elim (right.taken block) [
    | inl swept ↦ inl (subst (λ (l : List Event). moment_after_last (λ e. is_taken_of block e.entry) l
        ≤ moment_after_last (λ e. is_sweep_of block e.entry) l) (sym (since-push is_open log event (opens_none event.entry calls)))
        (TakenAreSwept-push (since is_open log) event block (takes_none event.entry block calls) swept))
    | inr owes ↦ inr owes
  ]);
  took = took_kept part me w (log ++ event ∷ []) same (took_push part log event (opens_none event.entry calls) right.took);
  swept = behind_push log event (opens_none event.entry calls) right.swept (SweepsTaken-call (since is_open log) event calls);
  cleared = cleared_kept layout part me w (log ++ event ∷ []) cleared
      (cleared_push layout part log event (ends_none event.entry calls) right.cleared);
}
  where
    ends_none : (entry : Entry) → is_call entry ≡ true → is_end entry ≡ false
    ends_none (Call who op reply) is = refl
    ends_none _ is = absurd (cc)

    opens_none : (entry : Entry) → is_call entry ≡ true → is_open entry ≡ false
    opens_none (Call who op reply) is = refl
    opens_none _ is = absurd (cc)

    takes_none : (entry : Entry) (block : ℕ) → is_call entry ≡ true → is_taken_of block entry ≡ false
    takes_none (Call who op reply) block is = refl
    takes_none _ block is = absurd (cc)

-- nothing was taken since the event that ended a cycle
pub WasTaken-ended : (history : List Event) (event : Event) (block : ℕ) → is_end event.entry ≡ true →
    WasTaken (history ++ event ∷ []) block → ⊥
WasTaken-ended history event block ends was =
    let last = moment_after_last-push (λ e. is_end e.entry) history event
    ∙ ap (λ (b : Bool). if b then suc (length history) else moment_after_last (λ e. is_end e.entry) history) ends in
    let few = moment_after_last-le (λ e. is_taken_of block e.entry) (history ++ event ∷ []) in
    let size = length-append history (event ∷ []) in
    omega (arith, was, last, few, size)
