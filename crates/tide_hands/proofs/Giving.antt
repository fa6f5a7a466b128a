-- A store that gives a slot home keeps the rule: the word says what lies there. A member says that there is an end only
-- where it has found one.
use Rattle.std.proofs.Common.{ℕ, suc, pred, ◌≡◌, ◌≢◌, ◌+◌, ◌<◌, ◌≤◌, Bool, true, false, arith, eq-eqb, refl, sym, ◌∙◌, ap, subst, List, [], ◌∷◌, inl, inr, true≢false}
use Rattle.std.proofs.lemmas.Bool.{cases_eq, cases_Bool, eqb-true, ne_eqb, or_cases, or_left, or_right}
use Rattle.std.proofs.lemmas.List.{get_or-set_other, get_or-set_same}
use Rattle.std.specs.Prelude.{slice_index, slice_set, ◌||◌, ◌&&◌, ◌==◌, if◌then◌else◌}
use lib.ListN.{get_elem?, length-set}
use mathlib.Core.Option.{none, some, some-injective}
use Rattle.atomic_table.proofs.Lists.{at_set, set_here, set_else}
use Rattle.atomic_table.specs.Table.{State, step, Allows, gives}
use Rattle.tide_hands.proofs.Free.{among_without}
use Rattle.tide_hands.proofs.Moves.{KeepersMove, MembersMove, keepers_move, members_move, posting, taking}
use Rattle.tide_hands.proofs.Turns.{or_false, same_seat}
use Rattle.tide_hands.specs.declared.parcel.Parcel.{Parcel}
use Rattle.tide_hands.specs.declared.view.HandView.{HandView}
use Rattle.tide_hands.specs.Among.{Among, times, without}
use Rattle.tide_hands.specs.Rule.{is_end, is_keepers, is_move, is_ticket_post, is_turn, lying, resting, round_after, Content, SeatOk, Rule, Gave}

not_keepers : (b : Bool) → (if b then false else true) ≡ true → b ≡ false
not_keepers true is = absurd (true≢false (sym is))
not_keepers false is = refl

-- whose turn it is by a word, the keeper's or a member's
abbrev turn_of : Bool → ℕ → Bool
turn_of keeper word = if keeper then is_keepers word else (if is_keepers word then false else true)

module _ {T N I : Type 0} (ticket_ok : I → ℕ → T → Type 0) (note_ok : I → ℕ → ℕ → N → Bool → Type 0) (name : I) (count : ℕ)
    (slots id place word : ℕ) (me : HandView I) (parcel : Parcel T N) (holds : me.out ≡ suc place)
    (its : me.keeper ≡ false → place ≡ me.place)
    (content : Content ticket_ok note_ok me.name place (round_after place word me) word parcel)
    (moves : is_move me.found word ≡ true) where
  abbrev S : Type 0
  S = State (Parcel T N) (HandView I)

  abbrev R : S → Type 0
  R = Rule ticket_ok note_ok name count

  abbrev Ok : ℕ → Bool → (taken seats : ℕ → ℕ) → List ℕ → ℕ → HandView I → Type 0
  Ok = SeatOk ticket_ok note_ok name count

  abbrev after : HandView I
  after = resting word me

  -- where a ticket is due, once this word is stored at a place
  abbrev free_of : ℕ → Bool → List ℕ
  free_of at is_free = if is_free then at ∷ me.free else without at me.free

  given : (s : S) → R s → place < count → get_elem? s.views id ≡ some me → R record {
    words = slice_set s.words place word;
    homes = slice_set s.homes place (some parcel);
    views = slice_set s.views id after;
  }
  given s r within at = record {
    seats = r.seats;
    next = r.next;
    over = over;
    taken = taken;
    none = none;
    words = length-set s.words place word ∙ r.words;
    homes = length-set s.homes place (some parcel) ∙ r.homes;
    each = λ seat view is. elim (at_set s.views id seat after view is) [
      | inl here ↦ subst (λ (v : HandView I). Ok r.next over taken r.seats words seat v) here.1
          (subst (λ (k : ℕ). Ok r.next over taken r.seats words k after) (sym here.0) mine)
      | inr there ↦ theirs seat view there.0 there.1
    ];
    place = λ q in_q. elim (cases_eq q place) [
      | inl same ↦ inl record {
        parcel = parcel;
        at = ap (get_elem? (slice_set s.homes place (some parcel))) same
            ∙ set_here s.homes place (some parcel) (let h = r.homes in omega (arith, h, within));
        content = subst (λ k. Content ticket_ok note_ok name k (taken k + lying (slice_index words k)) (slice_index words k) parcel)
            (sym same) (subst (λ n. Content ticket_ok note_ok name place (taken place + lying n) n parcel) (sym stored)
            (subst (λ (n : ℕ). Content ticket_ok note_ok name place n word parcel) round
            (subst (λ (n : I). Content ticket_ok note_ok n place (round_after place word me) word parcel) old.named content)));
      }
      | inr other ↦ elim (r.place q in_q) [
        | inl home ↦ inl record {
          parcel = home.parcel;
          at = set_else s.homes place q (some parcel) other ∙ home.at;
          content = subst (λ n. Content ticket_ok note_ok name q (taken q + lying n) n home.parcel) (sym (elsewhere q other))
              (subst (λ n. Content ticket_ok note_ok name q (n + lying (slice_index s.words q)) (slice_index s.words q) home.parcel)
              (sym (taken_else q other)) home.content);
        }
        | inr out ↦ elim (cases_eq out.seat id) [
          | inl same ↦ absurd (not_both out.view q other
              (some-injective out.view me (sym out.is ∙ ap (get_elem? s.views) same ∙ at)) out.out)
          | inr apart ↦ inr record {
            seat = out.seat;
            view = out.view;
            is = set_else s.views id out.seat after apart ∙ out.is;
            out = out.out;
          }
        ]
      ]
    ];
    ended = λ q in_q is. elim (cases_eq q place) [
      | inl same ↦ ending (sym (ap is_end stored) ∙ ap (λ (k : ℕ). is_end (slice_index words k)) (sym same) ∙ is)
      | inr other ↦ or_left r.over (me.keeper && is_end word)
          (r.ended q in_q (sym (ap is_end (elsewhere q other)) ∙ is))
    ];
  }
    where
      words : List ℕ
      words = slice_set s.words place word

      over : Bool
      over = r.over || (me.keeper && is_end word)

      stored : slice_index words place ≡ word
      stored = get_or-set_same s.words place word 0 (let h = r.words in omega (arith, h, within))

      elsewhere : (q : ℕ) → q ≢ place → slice_index words q ≡ slice_index s.words q
      elsewhere q other = get_or-set_other s.words place q word 0 other

      old : Ok r.next r.over r.taken r.seats s.words id me
      old = r.each id me at

      none_out : (q : ℕ) → 0 ≡ suc q → ⊥
      none_out q is = omega (arith, is)

      -- what was found is the word
      found : slice_index s.words place ≡ me.found
      found = sym (old.found place holds)

      turn : is_turn me me.found ≡ true
      turn = sym (ap (is_turn me) found) ∙ (old.own place holds).1

      keepers : me.keeper ≡ true → KeepersMove me.found word
      keepers k = keepers_move me.found word (sym (ap (λ (b : Bool). turn_of b me.found) k) ∙ turn) moves

      members : me.keeper ≡ false → MembersMove me.found word
      members k = members_move me.found word (not_keepers (is_keepers me.found) (sym (ap (λ (b : Bool). turn_of b me.found) k) ∙ turn)) moves

      -- a ticket that was taken is counted at its place
      taken : ℕ → ℕ
      taken q = r.taken q + (if q == place then taking me.found word else 0)

      taken_else : (q : ℕ) → q ≢ place → taken q ≡ r.taken q
      taken_else q other =
          let none = ap {B = ℕ} (λ (b : Bool). if b then taking me.found word else 0) (ne_eqb q place other) in omega (arith, none)

      taken_here : taken place ≡ r.taken place + taking me.found word
      taken_here = ap {B = ℕ} (λ (b : Bool). r.taken place + (if b then taking me.found word else 0)) (eq-eqb place place refl)

      none : (q : ℕ) → r.next ≤ q → taken q ≡ 0
      none q behind = elim (cases_eq q place) [
        | inl same ↦ elim (cases_Bool me.keeper) [
          | inl k ↦
              let zero = (keepers k).none in
              let were = r.none q behind in
              let at = ap taken same ∙ taken_here in
              let here = ap r.taken same in
              omega (arith, at, zero, were, here)
          | inr k ↦ let seated = (old.member k).1 in let mine = its k in absurd (omega (arith, seated, mine, same, behind))
        ]
        | inr other ↦ taken_else q other ∙ r.none q behind
      ]

      -- the number of the last ticket of this place
      round : round_after place word me ≡ taken place + lying word
      round = elim (cases_Bool me.keeper) [
        | inl k ↦
            let at = round_of true k in
            let posted = old.posted k place ∙ ap (λ (w : ℕ). r.taken place + lying w) found in
            let more = (keepers k).posted in
            let zero = (keepers k).none in
            let bare = (keepers k).bare in
            omega (arith, at, posted, more, zero, bare, taken_here)
        | inr k ↦
            let at = round_of false k in
            let took = old.took k ∙ ap r.taken (sym (its k)) in
            let zero = (members k).none in
            let lay = (members k).lay in
            omega (arith, at, took, zero, lay, taken_here)
      ]
        where
          round_of : (b : Bool) → me.keeper ≡ b → round_after place word me
              ≡ (if b then times place me.tickets else me.taken + lying me.found) + posting me.found word
          round_of b k = ap {B = ℕ} (λ (c : Bool). (if c then times place me.tickets else me.taken + lying me.found) + posting me.found word) k

      -- an end that is said was posted
      ending : is_end word ≡ true → over ≡ true
      ending is = elim (cases_Bool me.keeper) [
        | inl k ↦ or_right r.over (me.keeper && is_end word) (ap (λ (b : Bool). b && is_end word) k ∙ is)
        | inr k ↦ or_left r.over (me.keeper && is_end word)
            (r.ended place within (ap is_end found ∙ (members k).ends is))
      ]

      here_free : (word == 0) ≡ true → (q : ℕ) → q ≡ place → (q < count) × (slice_index words q ≡ 0)
      here_free is q same = (
        subst (λ (n : ℕ). n < count) (sym same) within,
        ap (slice_index words) same ∙ stored ∙ eqb-true word 0 is,
      )

      -- the keeper knows of the other places what it knew, and of this one where a ticket is due now
      freed : (b : Bool) → (word == 0) ≡ b → me.keeper ≡ true → (q : ℕ) → Among q (free_of place b) →
          (q < count) × (slice_index words q ≡ 0)
      freed true is k q (inl same) = here_free is q same
      freed true is k q (inr in_it) = elim (cases_eq q place) [
        | inl same ↦ here_free is q same
        | inr other ↦ ((old.free k q in_it).0, elsewhere q other ∙ (old.free k q in_it).1)
      ]
      freed false is k q in_it =
          let there = among_without q place me.free in_it in
          ((old.free k q there.1).0, elsewhere q there.0 ∙ (old.free k q there.1).1)

      -- where the keeper has posted its tickets
      tickets_of : ℕ → Bool → List ℕ
      tickets_of at is_posted = if is_posted then at ∷ me.tickets else me.tickets

      posted_else : (q : ℕ) → q ≢ place → times q after.tickets ≡ times q me.tickets
      posted_else q other = ap (λ (n : ℕ). times q (tickets_of n (is_ticket_post me.found word))) (ap pred holds)
          ∙ by (is_ticket_post me.found word)
        where
          by : (b : Bool) → times q (tickets_of place b) ≡ times q me.tickets
          by true =
              let none = ap {B = ℕ} (λ (b : Bool). if b then 1 else 0) (ne_eqb q place other) in omega (arith, none)
          by false = refl

      posted_here : me.keeper ≡ true → times place after.tickets ≡ taken place + lying (slice_index words place)
      posted_here k =
          let grown = ap (λ (n : ℕ). times place (tickets_of n (is_ticket_post me.found word))) (ap pred holds)
          ∙ by (is_ticket_post me.found word) in
          let posted = old.posted k place ∙ ap (λ (w : ℕ). r.taken place + lying w) found in
          let more = (keepers k).posted in
          let zero = (keepers k).none in
          let bare = (keepers k).bare in
          let now = ap lying stored in
          omega (arith, grown, posted, more, zero, bare, now, taken_here)
        where
          by : (b : Bool) → times place (tickets_of place b) ≡ (if b then 1 else 0) + times place me.tickets
          by true = ap {B = ℕ} (λ (b : Bool). (if b then 1 else 0) + times place me.tickets) (eq-eqb place place refl)
          by false = omega arith

      mine : Ok r.next over taken r.seats words id after
      mine = record {
        named = old.named;
        keeper = λ k. let was = old.keeper k in (
          was.0,
          was.1,
          ap (λ (b : Bool). b || is_end word) was.2
              ∙ ap (λ (b : Bool). r.over || (b && is_end word)) (sym k),
        );
        member = old.member;
        free = λ k q is. freed (word == 0) refl k q (subst (λ (n : ℕ). Among q (free_of n (word == 0))) (ap pred holds) is);
        posted = λ k q. elim (cases_eq q place) [
          | inl same ↦ subst (λ (n : ℕ). times n after.tickets ≡ taken n + lying (slice_index words n)) (sym same) (posted_here k)
          | inr other ↦ posted_else q other ∙ old.posted k q
              ∙ (λ i. sym (taken_else q other) i + lying (sym (elsewhere q other) i))
        ];
        took = λ k.
            let was = old.took k ∙ ap r.taken (sym (its k)) in
            let more = (members k).took in
            let now = ap taken (sym (its k)) in
            omega (arith, was, more, now, taken_here);
        found = λ q is. absurd (none_out q is);
        heard = λ h. elim (or_cases me.over (is_end word) h) [
          | inl before ↦ or_left r.over (me.keeper && is_end word) (old.heard before)
          | inr now ↦ ending now
        ];
        own = λ q is. absurd (none_out q is);
        its = λ q k is. absurd (none_out q is);
        due = λ k is. ap (slice_index words) (sym (its k)) ∙ stored ∙ eqb-true word 2 is;
      }

      theirs : (seat : ℕ) (view : HandView I) → seat ≢ id → get_elem? s.views seat ≡ some view →
          Ok r.next over taken r.seats words seat view
      theirs seat view apart is_at =
          let was = r.each seat view is_at in record {
            named = was.named;
            keeper = λ k. let w = was.keeper k in (w.0, w.1, w.2 ∙ sym (other_keeper w.0));
            member = was.member;
            free = λ k q is. elim (cases_eq q place) [
              | inl same ↦ absurd (apart (same_seat ticket_ok note_ok name count s r seat id place view me is_at at
                  (λ none. absurd (true≢false (sym k ∙ none))) its
                  (ap (λ (b : Bool). turn_of b (slice_index s.words place)) k
                  ∙ ap is_keepers (ap (slice_index s.words) (sym same) ∙ (was.free k q is).1)) (old.own place holds).1))
              | inr other ↦ ((was.free k q is).0, elsewhere q other ∙ (was.free k q is).1)
            ];
            posted = λ k q. elim (cases_eq q place) [
              | inl same ↦
                  let lay = (members (no_keeper (was.keeper k).0)).lay in
                  let now = ap lying (ap (slice_index words) same ∙ stored) in
                  let were = was.posted k q ∙ (λ i. r.taken (same i) + lying ((ap (slice_index s.words) same ∙ found) i)) in
                  let at = ap taken same in
                  omega (arith, lay, now, were, at, taken_here)
              | inr other ↦ was.posted k q ∙ (λ i. sym (taken_else q other) i + lying (sym (elsewhere q other) i))
            ];
            took = λ k. elim (cases_eq view.place place) [
              | inl same ↦ elim (cases_Bool me.keeper) [
                | inl keeps ↦
                    let zero = (keepers keeps).none in
                    let were = was.took k ∙ ap r.taken same in
                    let at = ap taken same in
                    omega (arith, zero, were, at, taken_here)
                | inr plays ↦ absurd (apart (sym (was.member k).2 ∙ ap r.seats (same ∙ its plays) ∙ (old.member plays).2))
              ]
              | inr other ↦ was.took k ∙ sym (taken_else view.place other)
            ];
            found = λ q out. elim (cases_eq q place) [
              | inl same ↦ absurd (apart (same_seat ticket_ok note_ok name count s r seat id place view me is_at at
                  (λ k. sym same ∙ was.its q k out) its
                  (subst (λ k. is_turn view (slice_index s.words k) ≡ true) same (was.own q out).1) (old.own place holds).1))
              | inr other ↦ was.found q out ∙ sym (elsewhere q other)
            ];
            heard = λ h. or_left r.over (me.keeper && is_end word) (was.heard h);
            own = λ q out. elim (cases_eq q place) [
              | inl same ↦ absurd (apart (same_seat ticket_ok note_ok name count s r seat id place view me is_at at
                  (λ k. sym same ∙ was.its q k out) its
                  (subst (λ k. is_turn view (slice_index s.words k) ≡ true) same (was.own q out).1) (old.own place holds).1))
              | inr other ↦ (
                (was.own q out).0,
                subst (λ n. is_turn view n ≡ true) (sym (elsewhere q other)) (was.own q out).1,
              )
            ];
            its = was.its;
            due = λ k is. elim (cases_eq view.place place) [
              | inl same ↦ absurd (apart (same_seat ticket_ok note_ok name count s r seat id place view me is_at at
                  (λ _. sym same) its (its_turn k same (was.due k is)) (old.own place holds).1))
              | inr other ↦ elsewhere view.place other ∙ was.due k is
            ];
          }
        where
          -- where its note is due it is this member's turn
          its_turn : view.keeper ≡ false → view.place ≡ place → slice_index s.words view.place ≡ 2 →
              is_turn view (slice_index s.words place) ≡ true
          its_turn k same two = ap (λ (b : Bool). turn_of b (slice_index s.words place)) k
              ∙ ap (turn_of false) (ap (slice_index s.words) (sym same) ∙ two)

          -- this seat is no keeper's where another one is
          no_keeper : seat ≡ 0 → me.keeper ≡ false
          no_keeper first = elim (cases_Bool me.keeper) [
            | inl k ↦ absurd (apart (first ∙ sym (old.keeper k).0))
            | inr k ↦ k
          ]

          other_keeper : seat ≡ 0 → over ≡ r.over
          other_keeper first = ap (λ (b : Bool). r.over || (b && is_end word)) (no_keeper first) ∙ or_false r.over

      not_both : (v : HandView I) (q : ℕ) → q ≢ place → v ≡ me → v.out ≡ suc q → ⊥
      not_both v q other same out =
          let two : suc place ≡ suc q = sym holds ∙ ap (λ (u : HandView I). u.out) (sym same) ∙ out in
          other (omega (arith, two))

  -- the seat can give
  pub give_allowed : place < slots → Allows R slots id (me, (place, parcel) ∷ []) place (λ _. word)
      (λ _. Gave ticket_ok note_ok name (step slots place word 0 none) (me, (place, parcel) ∷ []) word)
  give_allowed inside = λ s r long at small. (
    after,
    gives,
    tt,
    given s r (let a = r.homes in omega (arith, a, long, inside)) at,
    refl,
  )
