-- What a step of a participant has to show of the rule.
use Rattle.std.proofs.Common.{◌≡◌, ℕ, zero, suc, length, ◌+◌, ◌<◌, ◌≤◌, ◌≢◌, ◌⊎◌, List, [], ◌∷◌, ◌++◌, sym, refl, ap, ◌∙◌, inl, inr, subst, arith, Bool, true, false, set, MatchBool}
use Rattle.std.specs.Prelude.{nat_lt, if◌then◌else◌}
use Rattle.std.proofs.lemmas.Bool.{cases_eq, cases_Bool, ne_eqb}
use Rattle.std.proofs.lemmas.Bool.Decides.{nat_tests}
use mathlib.Core.Option.{some, some-injective, some-ne-none}
use lib.ListN.{get_elem?}
use Rattle.atomic_table.proofs.Lists.{at_set}
use Rattle.tide_model.specs.declared.entry.Event.{Event}
use Rattle.tide_model.specs.Layout.{Layout}
use Rattle.tide_model.specs.Numbers.{put_at}
use Rattle.tide_model.specs.Prefix.{IsPrefix, prefix_trans}
use Rattle.tide_model.specs.History.{is_open}
use Rattle.tide_model.specs.Since.{since}
use Rattle.tide_heap.proofs.Births.{told_put}
use Rattle.tide_heap.specs.Births.{births_in, born_to}
use Rattle.tide_model.proofs.NumberLaws.{put_at_elim}
use Rattle.tide_core.specs.declared.machine.view.View.{View}
use Rattle.tide_core.specs.declared.machine.view.Role.{Role}
use Rattle.tide_core.specs.declared.machine.view.Role.TheVariants.{Collector, Member, Note, Ticket, Spent}
use Rattle.tide_core.proofs.machine_laws.steps.Frames.{put_here, put_else}
use Rattle.tide_core.specs.tide_layout.Limits.{IsWithinLimits}
use Rattle.tide_core.specs.machine.World.{parties}
use Rattle.tide_core.specs.machine.points.Marks.{counted_in}
use Rattle.tide_model.specs.History.{state_after}
use Rattle.tide_model.specs.Refused.{ShapeLists}
use Rattle.tide_heap.specs.Parties.{In, IsParty, tally}
use Rattle.tide_heap.specs.Rule.{MemberOk, NoteOk, SeatOkAs, SeatOk, IsFrozen, IsRunning, Mode, Tabled}

-- what held of each view but one holds of all where it holds of that one's new view
pub each_set : (P : ℕ → View → Type 0) (vs : List View) (me : ℕ) (w : View) → P me w → ((j : ℕ) (u : View) → j ≢ me → get_elem? vs j ≡ some u → P j u)
    → (j : ℕ) (u : View) → get_elem? (set vs me w) j ≡ some u → P j u
each_set P vs me w mine others j u e = elim (at_set vs me j w u e) [
  | inl t ↦ subst (λ (x : ℕ × View). P x.0 x.1) (λ i. (sym t.0 i, t.1 i)) mine
  | inr t ↦ others j u t.0 t.1
]

pub party_cases : (layout : Layout) (p : ℕ) → IsParty layout p ⊎ (IsParty layout p → ⊥)
party_cases layout p = elim (cases_Bool (nat_lt p layout.mutators)) [
  | inl is ↦ inl (inl (grind (arith, nat_tests)))
  | inr isnt ↦ elim (cases_Bool (nat_lt p 16)) [
    | inl low ↦ inr (λ party. elim party [ inl below ↦ (let a : ¬ (p < layout.mutators) = (λ h. grind (arith, nat_tests)) in a below) | inr above ↦ (let b : p < 16 = grind (arith, nat_tests) in let c = above.0 in omega (arith, b, c)) ])
    | inr high ↦ elim (cases_Bool (nat_lt p (16 + layout.visitors))) [
      | inl few ↦ (let b : 16 ≤ p = grind (arith, nat_tests) in let c : p < 16 + layout.visitors = grind (arith, nat_tests) in inl (inr (b, c)))
      | inr many ↦ inr (λ party. elim party [ inl below ↦ (let a : ¬ (p < layout.mutators) = (λ h. grind (arith, nat_tests)) in a below) | inr above ↦ (let a : ¬ (p < 16 + layout.visitors) = (λ h. grind (arith, nat_tests)) in a above.1) ])
    ]
  ]
]

-- the participants of a layout within its limits are few
pub few_parties : (layout : Layout) → IsWithinLimits layout → (i : ℕ) → IsParty layout i → i < parties
few_parties layout limits i (inl below) = (let m = limits.few_mutators in omega (arith, m, below))
few_parties layout limits i (inr above) = (let m = limits.few_visitors in let b = above.1 in omega (arith, m, b))

-- what a view knows by its role
pub knows_as : (layout : Layout) (cv : View) (part : ℕ → View) (seat_of note_at : ℕ → ℕ) (log : List Event) (k : ℕ) (u : View) (r : Role) → u.role ≡ r → SeatOk layout cv part seat_of note_at log k u → SeatOkAs layout cv part seat_of note_at log k u r
knows_as layout cv part seat_of note_at log k u r is = subst (SeatOkAs layout cv part seat_of note_at log k u) is

pub known_as : (layout : Layout) (cv : View) (part : ℕ → View) (seat_of note_at : ℕ → ℕ) (log : List Event) (k : ℕ) (u : View) (r : Role) → u.role ≡ r → SeatOkAs layout cv part seat_of note_at log k u r → SeatOk layout cv part seat_of note_at log k u
known_as layout cv part seat_of note_at log k u r is = subst (SeatOkAs layout cv part seat_of note_at log k u) (sym is)

-- a seat of another, after a participant's step
others : (layout : Layout) (cv : View) (part : ℕ → View) (seat_of note_at : ℕ → ℕ) (log log' : List Event) (k me i : ℕ) (u p : View) → seat_of i ≡ me → k ≢ me
    → IsPrefix log log' → ((j : ℕ) (x : View) → NoteOk layout cv (part i) (note_at i) j x → NoteOk layout cv p (note_at i) j x)
    → (r : Role) → SeatOkAs layout cv part seat_of note_at log k u r → SeatOkAs layout cv (put_at part i p) seat_of note_at log' k u r
others layout cv part seat_of note_at log log' k me i u p seat apart grows notes Collector h = h
others layout cv part seat_of note_at log log' k me i u p seat apart grows notes Member h =
    (h.0, h.1, h.2 ∙ sym (put_else part i u.who p (λ e. apart (sym h.3 ∙ (ap seat_of e ∙ seat)))), h.3)
others layout cv part seat_of note_at log log' k me i u p seat apart grows notes Note h = (
  h.0,
  elim (cases_eq u.who i) [
    | inl e ↦ subst (λ (x : View). NoteOk layout cv x (note_at u.who) k u) (sym (ap (put_at part i p) e ∙ put_here part i p))
        (subst (λ (n : ℕ). NoteOk layout cv p n k u) (ap note_at (sym e)) (notes k u (subst (λ (j : ℕ). NoteOk layout cv (part j) (note_at j) k u) e h.1)))
    | inr other ↦ subst (λ (x : View). NoteOk layout cv x (note_at u.who) k u) (sym (put_else part i u.who p other)) h.1
  ],
)
others layout cv part seat_of note_at log log' k me i u p seat apart grows notes Ticket h = record { behind = h.behind; prefix = prefix_trans u.seen log log' h.prefix grows; told = h.told }
others layout cv part seat_of note_at log log' k me i u p seat apart grows notes Spent h = tt

-- a view that is no noted one's, or counts the same, leaves the tally
pub tally_put : (period : ℕ) (part : ℕ → View) (who : ℕ) (u : View) (notes : List ℕ) → (In who notes → counted_in period u ≡ counted_in period (part who)) → tally period (put_at part who u) notes ≡ tally period part notes
tally_put period part who u [] same = refl
tally_put period part who u (i ∷ notes) same =
    let rest = tally_put period part who u notes (λ a. same (inr a)) in
    let first : counted_in period (put_at part who u i) ≡ counted_in period (part i) = elim (cases_eq i who) [
      | inl e ↦ ap (λ (j : ℕ). counted_in period (put_at part who u j)) e ∙ ap (counted_in period) (put_here part who u) ∙ same (inl (sym e)) ∙ ap (λ (j : ℕ). counted_in period (part j)) (sym e)
      | inr apart ↦ ap (counted_in period) (put_else part who i u apart)
    ] in omega (arith, rest, first)

module _ (layout : Layout) (shapes : ShapeLists) (words : List ℕ) (views : List View) (log : List Event) (me : ℕ) (v : View) (k : Tabled layout shapes words views log) (there : get_elem? views me ≡ some v) where
  -- a participant is the part of that number
  pub member : v.role ≡ Member → IsParty layout v.who × (v.who < k.cv.next) × (v ≡ k.part v.who) × (k.seat_of v.who ≡ me)
  member is = knows_as layout k.cv k.part k.seat_of k.note_at log me v Member is (k.each me v there)

  pub member_ok : v.role ≡ Member → MemberOk layout k.cv v v.who
  member_ok is = let b = member is in subst (λ (x : View). MemberOk layout k.cv x v.who) (sym b.2) (k.members v.who b.0)

  pub collects : v.role ≡ Collector → (me ≡ 0) × (v ≡ k.cv)
  collects is = knows_as layout k.cv k.part k.seat_of k.note_at log me v Collector is (k.each me v there)

  -- one whose note isn't in, and who hasn't left, has a heap that isn't frozen
  pub thawed : v.role ≡ Member → (In v.who k.cv.notes → ⊥) → (In v.who k.cv.gone → ⊥) → k.cv.frozen ≡ false
  thawed is not_in not_gone = go k.cv.frozen refl k.mode
    where
      go : (b : Bool) → k.cv.frozen ≡ b → MatchBool b (IsFrozen layout shapes words log k.cv k.part) (IsRunning layout shapes words log k.cv k.part) → b ≡ false
      go false e m = refl
      go true e m = absurd (elim (m.all_in v.who (member is).0) [ inl a ↦ not_in a | inr a ↦ not_gone a ])

  pub running : v.role ≡ Member → v.runs ≡ true → k.cv.frozen ≡ false
  running is act = let ok = member_ok is in thawed is
      (λ a. let later = ok.runs act in let now = (ok.noted a).0 in let few = ok.ticket in omega (arith, later, now, few))
      (λ a. let stopped = (ok.gone a).1 in absurd (cc))

  -- one that may begin again
  pub waking : v.role ≡ Member → v.left ≡ false → v.period < k.cv.period → k.cv.frozen ≡ false
  waking is stays later = let ok = member_ok is in thawed is (λ a. let now = (ok.noted a).0 in omega (arith, later, now)) (λ a. let left = (ok.gone a).0 in absurd (cc))

  pub now_running : k.cv.frozen ≡ false → IsRunning layout shapes words log k.cv k.part
  now_running e = subst (λ b. MatchBool b (IsFrozen layout shapes words log k.cv k.part) (IsRunning layout shapes words log k.cv k.part)) e k.mode

  pub member_stepped : (p : View) (words' : List ℕ) (log' : List Event) → v.role ≡ Member → p.role ≡ Member → p.who ≡ v.who
      → IsPrefix log log' → ((j : ℕ) (x : View) → NoteOk layout k.cv v (k.note_at v.who) j x → NoteOk layout k.cv p (k.note_at v.who) j x) → MemberOk layout k.cv p v.who → (In v.who k.cv.notes → counted_in k.cv.period p ≡ counted_in k.cv.period v)
      → (In v.who k.cv.notes → births_in k.cv.period p ≡ births_in k.cv.period v) → ((i : ℕ) → births_in k.cv.period (put_at k.part v.who p i) ≡ born_to i log') → k.cv.start ++ since is_open log' ≡ log'
      → ((i : ℕ) → (put_at k.part v.who p i).left ≡ true → (state_after layout log').active i ≡ false)
      → ((log' ≡ log) × (log ≡ v.seen → log ≡ p.seen)) ⊎ (log' ≡ p.seen) → Mode layout shapes words' log' k.cv (put_at k.part v.who p)
      → (t : Tabled layout shapes words' (set views me p) log') × (t.cv ≡ k.cv) × (t.note_at ≡ k.note_at)
  member_stepped p words' log' is is' who grows notes ok counts noted_births births start retired tip mode = let b = member is in let i = v.who in (
    record {
      cv = k.cv;
      part = put_at k.part i p;
      seat_of = k.seat_of;
      note_at = k.note_at;
      limits = k.limits;
      empty_shape = k.empty_shape;
      collects = k.collects;
      each = each_set (SeatOk layout k.cv (put_at k.part i p) k.seat_of k.note_at log') views me p
          (known_as layout k.cv (put_at k.part i p) k.seat_of k.note_at log' me p Member is'
          (subst (IsParty layout) (sym who) b.0, (let c = b.1 in omega (arith, who, c)), sym (ap (put_at k.part i p) who ∙ put_here k.part i p), ap k.seat_of who ∙ b.3))
          (λ j u other at. others layout k.cv k.part k.seat_of k.note_at log log' j me i u p b.3 other grows (λ n x h. notes n x (subst (λ (y : View). NoteOk layout k.cv y (k.note_at i) n x) (sym b.2) h)) u.role (k.each j u at));
      fresh = λ j h. let other : j ≢ i = (λ e. let c = b.1 in omega (arith, e, h, c)) in put_else k.part i j p other ∙ k.fresh j h;
      strangers = λ j h. let other : j ≢ i = (λ e. h (subst (IsParty layout) (sym e) b.0)) in put_else k.part i j p other ∙ k.strangers j h;
      members = put_at_elim (λ j u. IsParty layout j → MemberOk layout k.cv u j) k.part i p (λ _. ok) (λ j other l. k.members j l);
      keeps = k.keeps;
      prefix = prefix_trans k.cv.seen log log' k.prefix grows;
      tip = tips tip;
      retired = retired;
      visits_told = tally_put k.cv.period k.part i p k.cv.notes (λ a. counts a ∙ ap (counted_in k.cv.period) b.2) ∙ k.visits_told;
      births = births;
      told = told_put k.cv.period k.part i p k.cv.notes (λ a. noted_births a ∙ ap (births_in k.cv.period) b.2) ∙ k.told;
      start = start;
      mode = mode;
    },
    refl,
    refl,
  )
    where
      tips : ((log' ≡ log) × (log ≡ v.seen → log ≡ p.seen)) ⊎ (log' ≡ p.seen) → (log' ≡ k.cv.seen) ⊎ ((i : ℕ) × IsParty layout i × (log' ≡ (put_at k.part v.who p i).seen))
      tips (inr e) = inr (v.who, (member is).0, e ∙ sym (ap (λ (x : View). x.seen) (put_here k.part v.who p)))
      tips (inl e) = elim k.tip [
        | inl h ↦ inl (e.0 ∙ h)
        | inr h ↦ inr (
          h.0,
          h.1,
          elim (cases_eq h.0 v.who) [
            | inl same ↦ e.0 ∙ e.1 (h.2 ∙ ap (λ (z : ℕ). (k.part z).seen) same ∙ ap (λ (x : View). x.seen) (sym (member is).2)) ∙ ap (λ (x : View). x.seen) (sym (ap (put_at k.part v.who p) same ∙ put_here k.part v.who p))
            | inr other ↦ e.0 ∙ h.2 ∙ ap (λ (x : View). x.seen) (sym (put_else k.part v.who h.0 p other))
          ],
        )
      ]

  pub member_step : (p : View) (words' : List ℕ) (log' : List Event) → v.role ≡ Member → p.role ≡ Member → p.who ≡ v.who
      → IsPrefix log log' → ((j : ℕ) (x : View) → NoteOk layout k.cv v (k.note_at v.who) j x → NoteOk layout k.cv p (k.note_at v.who) j x) → MemberOk layout k.cv p v.who → (In v.who k.cv.notes → counted_in k.cv.period p ≡ counted_in k.cv.period v)
      → (In v.who k.cv.notes → births_in k.cv.period p ≡ births_in k.cv.period v) → ((i : ℕ) → births_in k.cv.period (put_at k.part v.who p i) ≡ born_to i log') → k.cv.start ++ since is_open log' ≡ log'
      → ((i : ℕ) → (put_at k.part v.who p i).left ≡ true → (state_after layout log').active i ≡ false)
      → ((log' ≡ log) × (log ≡ v.seen → log ≡ p.seen)) ⊎ (log' ≡ p.seen) → Mode layout shapes words' log' k.cv (put_at k.part v.who p) → Tabled layout shapes words' (set views me p) log'
  member_step p words' log' is is' who grows notes ok counts noted_births births start retired tip mode =
      (member_stepped p words' log' is is' who grows notes ok counts noted_births births start retired tip mode).0

-- the last of a list
pub at_end : (l : List View) (a b : View) (j : ℕ) → get_elem? (l ++ a ∷ []) j ≡ some b → (get_elem? l j ≡ some b) ⊎ ((j ≡ length l) × (a ≡ b))
at_end [] a b zero e = inr (refl, some-injective a b e)
at_end [] a b (suc j) e = absurd (some-ne-none b (sym e))
at_end (x ∷ xs) a b zero e = inl e
at_end (x ∷ xs) a b (suc j) e = elim (at_end xs a b j e) [ inl h ↦ inl h | inr h ↦ inr (ap suc h.0, h.1) ]

-- a copy of a view for a new seat
appended : (P : ℕ → View → Type 0) (vs : List View) (x : View) → P (length vs) x → ((j : ℕ) (u : View) → get_elem? vs j ≡ some u → P j u) → (j : ℕ) (u : View) → get_elem? (vs ++ x ∷ []) j ≡ some u → P j u
appended P vs x new old j u e = elim (at_end vs x u j e) [ inl h ↦ old j u h | inr h ↦ subst (λ (t : ℕ × View). P t.0 t.1) (λ i. (sym h.0 i, h.1 i)) new ]

-- other seats, and another seat for each note, where each seat is right
pub reseated : (layout : Layout) (shapes : ShapeLists) (words : List ℕ) (views others : List View) (log : List Event) (note_at : ℕ → ℕ) (k : Tabled layout shapes words views log) →
    ((j : ℕ) (u : View) → get_elem? others j ≡ some u → SeatOk layout k.cv k.part k.seat_of note_at log j u) →
    (t : Tabled layout shapes words others log) × (t.cv ≡ k.cv) × (t.part ≡ k.part) × (t.note_at ≡ note_at)
reseated layout shapes words views others log note_at k each = (
  record {
    cv = k.cv;
    part = k.part;
    seat_of = k.seat_of;
    note_at = note_at;
    limits = k.limits;
    empty_shape = k.empty_shape;
    collects = k.collects;
    each = each;
    fresh = k.fresh;
    strangers = k.strangers;
    members = k.members;
    keeps = k.keeps;
    prefix = k.prefix;
    tip = k.tip;
    retired = k.retired;
    visits_told = k.visits_told;
    births = k.births;
    told = k.told;
    start = k.start;
    mode = k.mode;
  },
  refl,
  refl,
  refl,
)

pub add_copy : (layout : Layout) (shapes : ShapeLists) (words : List ℕ) (views : List View) (log : List Event) (x : View) (k : Tabled layout shapes words views log) → SeatOk layout k.cv k.part k.seat_of k.note_at log (length views) x → Tabled layout shapes words (views ++ x ∷ []) log
add_copy layout shapes words views log x k new =
    (reseated layout shapes words views (views ++ x ∷ []) log k.note_at k (appended (SeatOk layout k.cv k.part k.seat_of k.note_at log) views x new k.each)).0

-- a copy that was joined is spent
pub spend : (layout : Layout) (shapes : ShapeLists) (words : List ℕ) (views : List View) (log : List Event) (me : ℕ) (w : View) (k : Tabled layout shapes words views log) → w.role ≡ Spent →
    (t : Tabled layout shapes words (set views me w) log) × (t.part ≡ k.part) × (t.note_at ≡ k.note_at)
spend layout shapes words views log me w k is =
    let t = reseated layout shapes words views (set views me w) log k.note_at k
    (each_set (SeatOk layout k.cv k.part k.seat_of k.note_at log) views me w (known_as layout k.cv k.part k.seat_of k.note_at log me w Spent is tt) (λ j u other at. k.each j u at)) in (t.0, t.2, t.3)

-- one that has no note of the open part out may get another seat for it
pub renote : (layout : Layout) (shapes : ShapeLists) (words : List ℕ) (views : List View) (log : List Event) (who at : ℕ) (k : Tabled layout shapes words views log) → (k.part who).period < k.cv.period →
    (t : Tabled layout shapes words views log) × (t.cv ≡ k.cv) × (t.note_at ≡ put_at k.note_at who at)
renote layout shapes words views log who at k later =
    let t = reseated layout shapes words views views log (put_at k.note_at who at) k (λ j u e. moved j u u.role (k.each j u e)) in (t.0, t.1, t.3)
  where
    number_else : (f : ℕ → ℕ) (i j x : ℕ) → j ≢ i → put_at f i x j ≡ f j
    number_else f i j x other = ap (λ (b : Bool). if b then x else f j) (ne_eqb j i other)

    moved : (j : ℕ) (u : View) (r : Role) → SeatOkAs layout k.cv k.part k.seat_of k.note_at log j u r → SeatOkAs layout k.cv k.part k.seat_of (put_at k.note_at who at) log j u r
    moved j u Collector h = h
    moved j u Member h = h
    moved j u Note h = (
      h.0,
      elim (cases_eq u.who who) [
        | inl e ↦ record {
          behind = h.1.behind;
          now = λ is. absurd (let b = h.1.behind in let l = later in let same : (k.part u.who).period ≡ (k.part who).period = ap (λ (i : ℕ). (k.part i).period) e in omega (arith, b, is, l, same));
          one = λ is. absurd (let b = h.1.behind in let l = later in let same : (k.part u.who).period ≡ (k.part who).period = ap (λ (i : ℕ). (k.part i).period) e in omega (arith, b, is, l, same));
          out = h.1.out;
          began = h.1.began;
          done = h.1.done;
        }
        | inr other ↦ subst (λ (n : ℕ). NoteOk layout k.cv (k.part u.who) n j u) (sym (number_else k.note_at who u.who at other)) h.1
      ],
    )
    moved j u Ticket h = h
    moved j u Spent h = h
