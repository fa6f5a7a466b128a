-- The steps of a sweep, as far as blocks and the history go: dead bits are loaded, a block is claimed, and what is said
-- of sweeps after each step.
use Rattle.std.proofs.Common.{ℕ, ◌≡◌, ◌≢◌, ◌+◌, ◌<◌, ◌≤◌, refl, sym, ◌∙◌, ap, subst, arith, Bool, true, false, List, [], ◌∷◌, ◌++◌, inl, inr, Option, Some, None, length, length-append, take}
use Rattle.std.proofs.lemmas.Bool.{cases_eq, eq-eqb, eqb-true, ne_eqb}
use Rattle.std.proofs.lemmas.List.Elements.{Contains-append_cases}
use Rattle.std.specs.Prelude.{Contains, if◌then◌else◌}
use Rattle.tide_words.specs.tide_layout.Region.{block_count, tag}
use Rattle.tide_words.specs.tide_layout.declared.region.Region.{Region}
use Rattle.tide_words.specs.tide_layout.declared.region.Region.TheVariants as region
use Rattle.tide_core.proofs.machine_laws.steps.Frames.{each_put, put_here}
use Rattle.tide_core.proofs.machine_laws.steps.Lists.{nothing_in, in_one}
use Rattle.tide_core.proofs.machine_laws.steps.SweepsKept.{behind_push, cleared_kept, cleared_push, named_kept, owed_kept, sweeping_same, sweeps_same, told_kept, took_kept, took_push}
use Rattle.tide_core.specs.machine.Owed.{IsOwnWord, Knows, Owes, Unsettles, owed_word, unsettled}
use Rattle.tide_core.specs.declared.machine.view.Owed.{Owed}
use Rattle.tide_core.specs.declared.machine.view.Saw.{Saw}
use Rattle.tide_core.specs.declared.machine.view.Sweeping.{Sweeping}
use Rattle.tide_core.specs.declared.machine.view.View.{View}
use Rattle.tide_core.specs.machine.kinds.Sweep.{IsSweeping}
use Rattle.tide_core.specs.machine.points.SettledWords.{RunningWordsRead}
use Rattle.tide_core.specs.machine.points.Sweeps.{ClearedAreClean, IsTaken, SawStands, SweepStands, Sweeps, SweepsAreNamed, SweepsAreRight, SweepersTook, SweptAreTold}
use Rattle.tide_model.proofs.Cycles.{take-all}
use Rattle.tide_model.proofs.DeadLaws.{TakenAreSwept-now, TakenAreSwept-push, WasTaken-before, WasTaken-now, WasTaken-push, taken-now}
use Rattle.tide_model.proofs.Histories.{state_after-push}
use Rattle.tide_model.proofs.ReferenceLaws.{put_at_elim}
use Rattle.tide_model.proofs.SinceLaws.{since-push}
use Rattle.tide_model.specs.History.{is_open, moment_after_last, plain, state_after}
use Rattle.tide_model.specs.Layout.{Layout}
use Rattle.tide_model.specs.Numbers.{put_at}
use Rattle.tide_model.specs.Refused.{ShapeLists}
use Rattle.tide_model.specs.Room.{DeadIsTaken}
use Rattle.tide_model.specs.Since.{WasTaken, is_sweep_of, is_taken_of, since}
use Rattle.tide_model.specs.State.{State}
use Rattle.tide_model.specs.declared.entry.Entry.TheVariants.{Sweep, Taken}
use Rattle.tide_model.specs.declared.entry.Event.{Event}
use Rattle.tide_sweep.specs.Clearing.{IsCleared, TellsTook}
use Rattle.tide_sweep.specs.Zeroed.{IsDeadWord}
use Rattle.tide_sweep.specs.declared.port.Cleared.{Cleared}
use Rattle.tide_sweep.specs.declared.port.Took.{Took}
use Rattle.tide_sweep.specs.declared.port.Took.TheVariants.{Clean, Mine, Other}
use Rattle.tide_words.proofs.heap_laws.Frames.{is_read}
use Rattle.tide_words.proofs.heap_laws.HeapLaws.{write-other_index, write-other_region, write-same}
use Rattle.tide_words.specs.heap.Heap.{Heap, write}
use Rattle.tide_words.specs.marking.Colours.{is_marking, running_cycle}

module _ (layout : Layout) (shapes : ShapeLists) (heap : Heap) (part : ℕ → View) (log : List Event)
    (words : RunningWordsRead layout shapes heap part (state_after layout log)) (right : SweepsAreRight layout heap part log)
    (idle : is_marking heap ≡ false) where
  abbrev state : State
  state = state_after layout log

  -- what an answer tells of the history as it is says that what is dead in the block was taken
  dead_is_taken : (took : Took) (history : List Event) (block : ℕ) → TellsTook layout history block took →
      DeadIsTaken layout history block
  dead_is_taken Mine history block (before, is) has = subst (λ (l : List Event). WasTaken l block) (sym is)
      (WasTaken-now before (plain (Taken block)) block (eq-eqb block block refl))
  dead_is_taken Other history block told has = told
  dead_is_taken Clean history block told has = absurd (told has)

  -- a block that was taken is so in the history
  pub taken_is_told : (block : ℕ) → block < block_count layout → 0 < running_cycle heap →
      heap region.Swept block ≡ running_cycle heap → WasTaken log block
  taken_is_told block within some last = (right.told idle some block within).0 (idle, last)

  -- a block is cleared from the end of a history on
  from_now : (history : List Event) (one : Cleared) → one.moment ≡ length history →
      TellsTook layout history one.block one.took → IsCleared layout history one
  from_now history one at_end told = record {
    within = omega (arith, at_end);
    taken = λ later from to. subst (λ (n : ℕ). DeadIsTaken layout (take n history) one.block)
        (omega (arith, from, to, at_end)) (subst (λ (l : List Event). DeadIsTaken layout l one.block) (sym (take-all history))
        (dead_is_taken one.took history one.block told));
    told = subst (λ (n : ℕ). TellsTook layout (take n history) one.block one.took) (sym at_end)
        (subst (λ (l : List Event). TellsTook layout l one.block one.took) (sym (take-all history)) told);
  }

  -- what a view says to be cleared is so where one more is
  newest : (history : List Event) (w : View) (one : Cleared) (before : List Cleared) → w.cleared ≡ one ∷ before →
      IsCleared layout history one → ((other : Cleared) → Contains before other → IsCleared layout history other) →
      (other : Cleared) → Contains w.cleared other → IsCleared layout history other
  newest history w one before is now earlier other has = elim (Contains-append_cases (one ∷ []) before other
      (subst (λ (l : List Cleared). Contains l other) is has)) [
        | inl here ↦ subst (IsCleared layout history) (in_one one other here) now
        | inr there ↦ earlier other there
      ]

  -- a mutator clears a block, by a load of its word of dead bits or by an exchange that finds it taken
  pub clears : (me : ℕ) (w : View) (block : ℕ) (took : Took) → TellsTook layout log block took →
      w.sweeping ≡ (part me).sweeping → w.saw ≡ (part me).saw → w.left ≡ (part me).left →
      w.cleared ≡ record { block = block; moment = length log; took = took } ∷ (part me).cleared →
      SweepsAreRight layout heap (put_at part me w) log
  clears me w block took tells same saw left is = record {
    named = named_kept layout heap heap part me w state state refl (λ b. refl) (λ b. refl) (λ p r i x un. refl) same saw (inl left)
        (λ b has. has) right.named;
    told = right.told;
    taken = owed_kept part me w log same right.taken;
    took = took_kept part me w log same right.took;
    swept = right.swept;
    cleared = each_put (λ p u. (one : Cleared) → Contains u.cleared one → IsCleared layout log one) part me w
        (newest log w (record { block = block; moment = length log; took = took }) (part me).cleared is
        (from_now log (record { block = block; moment = length log; took = took }) refl tells) (right.cleared me)) right.cleared;
  }

  -- it sees something of a block that stands there: its dead bits, or the cycle that it was taken in last
  pub sees : (me : ℕ) (w : View) (now : Option Saw) → ((one : Saw) → now ≡ Some one → SawStands layout heap one) →
      w.sweeping ≡ (part me).sweeping → w.saw ≡ now → w.left ≡ (part me).left → w.cleared ≡ (part me).cleared →
      SweepsAreRight layout heap (put_at part me w) log
  sees me w now right_now same saw left is = record {
    named = record {
      taken = each_put (λ p u. (b : ℕ) → Sweeps u b → IsTaken heap b) part me w
          (λ b s. right.named.taken me b (sweeps_same (part me) w b same s)) right.named.taken;
      begun = each_put (λ p u. (b : ℕ) → Sweeps u b → 0 < running_cycle heap) part me w
          (λ b s. right.named.begun me b (sweeps_same (part me) w b same s)) right.named.begun;
      active = each_put (λ p u. (b : ℕ) → Sweeps u b → (p < layout.mutators) × (u.left ≡ false)) part me w
          (λ b s. let was = right.named.active me b (sweeps_same (part me) w b same s) in (was.0, left ∙ was.1))
          right.named.active;
      owner = right.named.owner;
      once = each_put (λ p u. (b : ℕ) → Sweeps u b → right.named.owner b ≡ p) part me w
          (λ b s. right.named.once me b (sweeps_same (part me) w b same s)) right.named.once;
      named = λ b is_within taken has. let (p, s) = right.named.named b is_within taken has in (
        p,
        put_at_elim (λ p u. IsSweeping (part p) b → IsSweeping u b) part me w
            (sweeping_same w (part me) b (sym same)) (λ p apart s. s) p s,
      );
      stands = each_put (λ p u. (s : Sweeping) → u.sweeping ≡ Some s → SweepStands layout heap s) part me w
          (λ s has. right.named.stands me s (sym same ∙ has)) right.named.stands;
      saw = each_put (λ p u. (s : Saw) → u.saw ≡ Some s → SawStands layout heap s) part me w
          (λ s has. right_now s (sym saw ∙ has)) right.named.saw;
    };
    told = right.told;
    taken = owed_kept part me w log same right.taken;
    took = took_kept part me w log same right.took;
    swept = right.swept;
    cleared = cleared_kept layout part me w log is right.cleared;
  }

  -- a block is claimed: the history has it taken
  module _ (me : ℕ) (w : View) (block word cycle : ℕ) (within : block < block_count layout) (is_last : cycle ≡ running_cycle heap)
      (lower : heap region.Swept block < cycle) (none : (part me).sweeping ≡ None) (saw : Saw) (is_saw : (part me).saw ≡ Some saw)
      (of_block : saw.block ≡ block) (seen : word ≡ saw.word) (is_mutator : me < layout.mutators) (stays : (part me).left ≡ false)
      (owed : w.owed ≡ (part me).owed) (known : w.known ≡ (part me).known) (same_saw : w.saw ≡ (part me).saw)
      (same_left : w.left ≡ (part me).left)
      (later : w.sweeping ≡ Some (record { block = block; dead = word; given = false; zeroed = [] }))
      (clears_it : w.cleared ≡ record { block = block; moment = length log + 1; took = Mine } ∷ (part me).cleared) where
    abbrev claimed : Heap
    claimed = write heap region.Swept block cycle

    abbrev fresh : Sweeping
    fresh = record { block = block; dead = word; given = false; zeroed = [] }

    abbrev longer : List Event
    longer = log ++ plain (Taken block) ∷ []

    same_state : state_after layout longer ≡ state
    same_state = state_after-push layout log (plain (Taken block))

    untaken : IsTaken heap block → ⊥
    untaken taken = (let is = taken.1 in omega (arith, is, is_last, lower))

    fresh_is : (t : Sweeping) → w.sweeping ≡ Some t → fresh ≡ t
    fresh_is t is = (let one : Some fresh ≡ Some t = sym later ∙ is in cc)

    swept_else : (b : ℕ) → b ≢ block → claimed region.Swept b ≡ heap region.Swept b
    swept_else b apart = write-other_index heap region.Swept block b cycle apart

    taken_now : (b : ℕ) → IsTaken heap b → IsTaken claimed b
    taken_now b taken = elim (cases_eq b block) [
      | inl same ↦ absurd (untaken (subst (IsTaken heap) same taken))
      | inr apart ↦ (taken.0, swept_else b apart ∙ taken.1)
    ]

    taken_then : (b : ℕ) → b ≢ block → IsTaken claimed b → IsTaken heap b
    taken_then b apart taken = (taken.0, sym (swept_else b apart) ∙ taken.1)

    taken_here : IsTaken claimed block
    taken_here = (idle, write-same heap region.Swept block cycle ∙ is_last)

    pub words_claimed : RunningWordsRead layout shapes claimed (put_at part me w) state
    words_claimed = record {
      settled = words.settled;
      reads = words.reads;
      same = λ r i read free swept. write-other_region heap region.Swept r block i cycle
          (ne_eqb (tag r) (tag region.Swept) (λ same. let one = Rattle.tide_words.proofs.tide_layout.Places.tag-injective r region.Swept same in
          let also = ap is_read one in absurd (cc)))
          ∙ words.same r i read (λ p x o. free p x (owed_back p r i x o)) (λ p x un. swept p x (back p r i x un));
      owed = each_put (λ p u. (r : Region) (i x : ℕ) → Owes u r i x → words.settled r i ≡ x) part me w
          (λ r i x o. words.owed me r i x (subst (λ (l : List Owed). Contains l (owed_word r i x)) owed o)) words.owed;
      owns = each_put (λ p u. (r : Region) (i x : ℕ) → Owes u r i x → IsOwnWord layout state p r i) part me w
          (λ r i x o. words.owns me r i x (subst (λ (l : List Owed). Contains l (owed_word r i x)) owed o)) words.owns;
      known = each_put (λ p u. (r : Region) (i x : ℕ) → Knows u r i x → words.settled r i ≡ x) part me w
          (λ r i x o. words.known me r i x (subst (λ (l : List Owed). Contains l (owed_word r i x)) known o)) words.known;
      given = each_put (λ p u. (t : Sweeping) → u.sweeping ≡ Some t → t.given ≡ true → words.settled region.Dead t.block ≡ 0)
          part me w (λ t is gave. absurd (let same = fresh_is t is in let bad : false ≡ true =
          ap (λ (o : Sweeping). o.given) same ∙ gave in cc)) words.given;
    }
      where
        owed_back : (p : ℕ) (r : Region) (i x : ℕ) → Owes (part p) r i x → Owes (put_at part me w p) r i x
        owed_back = put_at_elim (λ p u. (r : Region) (i x : ℕ) → Owes (part p) r i x → Owes u r i x) part me w
            (λ r i x. subst (λ (l : List Owed). Contains l (owed_word r i x)) (sym owed)) (λ p apart r i x o. o)

        back : (p : ℕ) (r : Region) (i x : ℕ) → Unsettles (part p) r i x → Unsettles (put_at part me w p) r i x
        back = put_at_elim (λ p u. (r : Region) (i x : ℕ) → Unsettles (part p) r i x → Unsettles u r i x) part me w
            (λ r i x un. absurd (nothing_in (owed_word r i x)
            (subst (λ (o : Option Sweeping). Contains (unsettled o) (owed_word r i x)) none un))) (λ p apart r i x un. un)

    mine_is : (b : ℕ) → Sweeps w b → block ≡ b
    mine_is b t = ap (λ (o : Sweeping). o.block) (fresh_is t.sweeping t.is) ∙ t.of_block

    else_is : (p b : ℕ) → Sweeps (part p) b → b ≢ block
    else_is p b t same = untaken (subst (IsTaken heap) same (right.named.taken p b t))

    pub named_claimed : SweepsAreNamed layout claimed (put_at part me w) state
    named_claimed = record {
      taken = each_put (λ p u. (b : ℕ) → Sweeps u b → IsTaken claimed b) part me w
          (λ b t. subst (IsTaken claimed) (mine_is b t) taken_here) (λ p b t. taken_now b (right.named.taken p b t));
      begun = each_put (λ p u. (b : ℕ) → Sweeps u b → 0 < running_cycle claimed) part me w
          (λ b t. omega (arith, is_last, lower)) right.named.begun;
      active = each_put (λ p u. (b : ℕ) → Sweeps u b → (p < layout.mutators) × (u.left ≡ false)) part me w
          (λ b t. (is_mutator, same_left ∙ stays)) right.named.active;
      owner = put_at right.named.owner block me;
      once = put_at_elim (λ p u. (b : ℕ) → Sweeps u b → put_at right.named.owner block me b ≡ p) part me w
          (λ b t. ap (λ (x : Bool). if x then me else right.named.owner b) (eq-eqb b block (sym (mine_is b t))))
          (λ p apart b t. ap (λ (x : Bool). if x then me else right.named.owner b) (ne_eqb b block (else_is p b t))
          ∙ right.named.once p b t);
      named = λ b is_within taken has. elim (cases_eq b block) [
        | inl same ↦ (
          me,
          subst (λ (u : View). IsSweeping u b) (sym (put_here part me w)) (record {
            sweeping = fresh;
            is = later;
            of_block = sym same;
            ungiven = refl;
          }),
        )
        | inr apart ↦ (let (p, t) = right.named.named b is_within (taken_then b apart taken) has in (
          p,
          put_at_elim (λ p u. IsSweeping (part p) b → IsSweeping u b) part me w
              (λ t. absurd (let is = t.is in let other = sym none ∙ is in cc)) (λ p other t. t) p t,
        ))
      ];
      stands = put_at_elim (λ p u. (t : Sweeping) → u.sweeping ≡ Some t → SweepStands layout claimed t) part me w
          (λ t is. subst (SweepStands layout claimed) (fresh_is t is) (record {
            within = within;
            dead = λ waits. dead_seen;
            zeroed = λ waits r i x has. absurd (nothing_in (owed_word r i x) has);
          }))
          (λ p apart t is. let was = right.named.stands p t is in record {
            within = was.within;
            dead = was.dead;
            zeroed = λ waits r i x has. let z = was.zeroed waits r i x has in (
              z.0,
              write-other_region heap region.Swept r block i cycle
                  (ne_eqb (tag r) (tag region.Swept) (λ same. let one = Rattle.tide_words.proofs.tide_layout.Places.tag-injective r region.Swept same in
                  absurd (subst (λ (q : Region). IsDeadWord layout t.block t.dead q i) one z.0))) ∙ z.1,
            );
          });
      saw = each_put (λ p u. (x : Saw) → u.saw ≡ Some x → SawStands layout claimed x) part me w
          (λ x has. still me x (sym same_saw ∙ has)) still;
    }
      where
        still : (p : ℕ) (x : Saw) → (part p).saw ≡ Some x → SawStands layout claimed x
        still p x has = let was = right.named.saw p x has in record {
          within = was.within;
          dead = elim was.dead [ inl stands ↦ inl stands | inr taken ↦ inr (taken_now x.block taken) ];
          swept = λ found is. elim (was.swept found is) [
            | inl stands ↦ elim (cases_eq x.block block) [
              | inl same ↦ inr (subst (IsTaken claimed) (sym same) taken_here)
              | inr apart ↦ inl (swept_else x.block apart ∙ stands)
            ]
            | inr taken ↦ inr (taken_now x.block taken)
          ];
        }

        dead_seen : heap region.Dead block ≡ word
        dead_seen = elim (right.named.saw me saw is_saw).dead [
          | inl stands ↦ ap (heap region.Dead) (sym of_block) ∙ stands ∙ sym seen
          | inr taken ↦ absurd (untaken (subst (IsTaken heap) of_block taken))
        ]

    told_claimed : SweptAreTold layout claimed longer
    told_claimed rests some b is_within = elim (cases_eq b block) [
      | inl same ↦ (
        λ taken. WasTaken-now log (plain (Taken block)) b (eq-eqb block b (sym same)),
        λ was. subst (IsTaken claimed) (sym same) taken_here,
      )
      | inr apart ↦ (
        λ taken. WasTaken-push log (plain (Taken block)) b refl ((right.told idle some b is_within).0 (taken_then b apart taken)),
        λ was. taken_now b ((right.told idle some b is_within).1 (WasTaken-before log (plain (Taken block)) b
            (ne_eqb block b (λ e. apart (sym e))) was)),
      )
    ]

    pub right_claimed : SweepsAreRight layout claimed (put_at part me w) longer
    right_claimed = record {
      named = subst (SweepsAreNamed layout claimed (put_at part me w)) (sym same_state) named_claimed;
      told = told_claimed;
      taken = λ b. elim (cases_eq b block) [
        | inl same ↦ inr (
          me,
          subst (λ (u : View). IsSweeping u b) (sym (put_here part me w)) (record {
            sweeping = fresh;
            is = later;
            of_block = sym same;
            ungiven = refl;
          }),
        )
        | inr apart ↦ elim (right.taken b) [
          | inl swept ↦ inl (subst (λ (l : List Event). moment_after_last (λ e. is_taken_of b e.entry) l
              ≤ moment_after_last (λ e. is_sweep_of b e.entry) l) (sym (since-push is_open log (plain (Taken block)) refl))
              (TakenAreSwept-push (since is_open log) (plain (Taken block)) b (ne_eqb block b (λ e. apart (sym e))) swept))
          | inr owes ↦ inr (
            owes.0,
            put_at_elim (λ p u. IsSweeping (part p) b → IsSweeping u b) part me w
                (λ t. absurd (let is = t.is in let other = sym none ∙ is in cc)) (λ p other t. t) owes.0 owes.1,
          )
        ]
      ];
      took = each_put (λ p u. (b : ℕ) → Sweeps u b →
          0 < moment_after_last (λ e. is_taken_of b e.entry) (since is_open longer)) part me w
          (λ b t. subst (λ (l : List Event). 0 < moment_after_last (λ e. is_taken_of b e.entry) l)
          (sym (since-push is_open log (plain (Taken block)) refl))
          (taken-now (since is_open log) (plain (Taken block)) b (eq-eqb block b (mine_is b t))))
          (took_push part log (plain (Taken block)) refl right.took);
      swept = behind_push log (plain (Taken block)) refl right.swept (λ b sweeps. absurd (cc));
      cleared = each_put (λ p u. (one : Cleared) → Contains u.cleared one → IsCleared layout longer one) part me w
          (newest longer w first (part me).cleared clears_it (from_now longer first (sym size) (log, refl)) (earlier me)) earlier;
    }
      where
        earlier : ClearedAreClean layout part longer
        earlier = cleared_push layout part log (plain (Taken block)) refl right.cleared

        size : length longer ≡ length log + 1
        size = length-append log (plain (Taken block) ∷ [])

        first : Cleared
        first = record { block = block; moment = length log + 1; took = Mine }

  -- the bits of a block are given: the history has it swept. What the words and views say is taken as shown
  module _ (me : ℕ) (w : View) (new : Heap) (s : Sweeping) (is : (part me).sweeping ≡ Some s)
      (gave : w.sweeping ≡ Some (record s { given = true })) (phase : new region.Phase 0 ≡ heap region.Phase 0)
      (swept_words : (b : ℕ) → new region.Swept b ≡ heap region.Swept b) (same_cleared : w.cleared ≡ (part me).cleared)
      (named : SweepsAreNamed layout new (put_at part me w) (state_after layout (log ++ plain (Sweep s.block) ∷ []))) where
    pub right_given : SweepsAreRight layout new (put_at part me w) (log ++ plain (Sweep s.block) ∷ [])
    right_given = record {
      named = named;
      told = told_kept layout heap new log (log ++ plain (Sweep s.block) ∷ []) phase (λ b within. swept_words b) (λ b. (
        WasTaken-push log (plain (Sweep s.block)) b refl,
        WasTaken-before log (plain (Sweep s.block)) b refl,
      )) right.told;
      taken = λ b. elim (cases_eq b s.block) [
        | inl same ↦ inl (subst (λ (l : List Event). moment_after_last (λ e. is_taken_of b e.entry) l
            ≤ moment_after_last (λ e. is_sweep_of b e.entry) l) (sym (since-push is_open log (plain (Sweep s.block)) refl))
            (TakenAreSwept-now (since is_open log) (plain (Sweep s.block)) b (eq-eqb s.block b (sym same))))
        | inr apart ↦ elim (right.taken b) [
          | inl swept ↦ inl (subst (λ (l : List Event). moment_after_last (λ e. is_taken_of b e.entry) l
              ≤ moment_after_last (λ e. is_sweep_of b e.entry) l) (sym (since-push is_open log (plain (Sweep s.block)) refl))
              (TakenAreSwept-push (since is_open log) (plain (Sweep s.block)) b refl swept))
          | inr owes ↦ inr (
            owes.0,
            put_at_elim (λ p u. IsSweeping (part p) b → IsSweeping u b) part me w
                (λ t. absurd (let one : Some t.sweeping ≡ Some s = sym t.is ∙ is in let same : t.sweeping ≡ s = cc in
                apart (sym t.of_block ∙ ap (λ (o : Sweeping). o.block) same))) (λ p other t. t) owes.0 owes.1,
          )
        ]
      ];
      took = each_put (λ p u. (b : ℕ) → Sweeps u b →
          0 < moment_after_last (λ e. is_taken_of b e.entry) (since is_open (log ++ plain (Sweep s.block) ∷ []))) part me w
          (λ b t. longer_took me b (still_mine b t)) longer_took;
      swept = behind_push log (plain (Sweep s.block)) refl right.swept (λ b sweeps.
          right.took me b (record { sweeping = s; is = is; of_block = eqb-true s.block b sweeps }));
      cleared = cleared_kept layout part me w (log ++ plain (Sweep s.block) ∷ []) same_cleared
          (cleared_push layout part log (plain (Sweep s.block)) refl right.cleared);
    }
      where
        longer_took : SweepersTook part (log ++ plain (Sweep s.block) ∷ [])
        longer_took = took_push part log (plain (Sweep s.block)) refl right.took

        -- it goes on with the block that it swept
        still_mine : (b : ℕ) → Sweeps w b → Sweeps (part me) b
        still_mine b t =
            let one : Some t.sweeping ≡ Some (record s { given = true }) = sym t.is ∙ gave in
            let same : t.sweeping ≡ record s { given = true } = cc in
            record { sweeping = s; is = is; of_block = sym (ap (λ (o : Sweeping). o.block) same) ∙ t.of_block }

  -- a step that makes no entry, and goes on with its sweep or finishes it
  module _ (me : ℕ) (w : View) (new : Heap) (phase : new region.Phase 0 ≡ heap region.Phase 0)
      (swept_words : (b : ℕ) → new region.Swept b ≡ heap region.Swept b) (same_cleared : w.cleared ≡ (part me).cleared)
      (still : (b : ℕ) → IsSweeping (part me) b → IsSweeping w b)
      (was : (b : ℕ) → Sweeps w b → Sweeps (part me) b)
      (named : SweepsAreNamed layout new (put_at part me w) state) where
    pub right_on : SweepsAreRight layout new (put_at part me w) log
    right_on = record {
      named = named;
      told = told_kept layout heap new log log phase (λ b within. swept_words b) (λ b. (λ was. was, λ was. was)) right.told;
      taken = λ b. elim (right.taken b) [
        | inl swept ↦ inl swept
        | inr owes ↦ inr (
          owes.0,
          put_at_elim (λ p u. IsSweeping (part p) b → IsSweeping u b) part me w (still b)
              (λ p other t. t) owes.0 owes.1,
        )
      ];
      took = each_put (λ p u. (b : ℕ) → Sweeps u b →
          0 < moment_after_last (λ e. is_taken_of b e.entry) (since is_open log)) part me w
          (λ b t. right.took me b (was b t)) right.took;
      swept = right.swept;
      cleared = cleared_kept layout part me w log same_cleared right.cleared;
    }
