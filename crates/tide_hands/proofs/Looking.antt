-- A look keeps the rule: at the seat's turn it takes the slot, and else it changes nothing.
use Rattle.std.proofs.Common.{ℕ, suc, ◌≡◌, ◌+◌, ◌<◌, Bool, true, false, arith, refl, sym, ◌∙◌, ap, subst, List, [], ◌∷◌, inl, inr}
use Rattle.std.proofs.lemmas.Bool.{cases_eq, cases_Bool, or_cases}
use Rattle.std.proofs.lemmas.List.{set-get_or}
use Rattle.std.specs.Prelude.{slice_index, slice_set, ◌||◌, MatchBool, if◌then◌else◌}
use lib.ListN.{get_elem?, length-set}
use mathlib.Core.Option.{Option, none, some, some-injective}
use Rattle.atomic_table.proofs.Lists.{at_set, set_here, set_else, set_again}
use Rattle.atomic_table.specs.Table.{State, Me, step, Act, Allows, Valid, stepped, carried_after, keeps, takes}
use Rattle.tide_hands.proofs.Lists.{is_there}
use Rattle.tide_hands.proofs.Turns.{keeper_turn, or_false, same_seat}
use Rattle.tide_hands.specs.declared.parcel.Parcel.{Parcel}
use Rattle.tide_hands.specs.declared.view.HandView.{HandView}
use Rattle.tide_hands.specs.Among.{Among, times}
use Rattle.tide_hands.specs.Rule.{is_end, is_turn, holding, lying, round_at, Content, IsOut, SeatOk, Rule, TookSlot, Looked}

module _ {T N I : Type 0} (ticket_ok : I → ℕ → T → Type 0) (note_ok : I → ℕ → ℕ → N → Bool → Type 0) (name : I) (count : ℕ)
    (slots id place : ℕ) (me : HandView I) (idle : me.out ≡ 0) (its : me.keeper ≡ false → place ≡ me.place) where
  abbrev S : Type 0
  S = State (Parcel T N) (HandView I)

  abbrev R : S → Type 0
  R = Rule ticket_ok note_ok name count

  abbrev Ok : ℕ → Bool → (taken seats : ℕ → ℕ) → List ℕ → ℕ → HandView I → Type 0
  Ok = SeatOk ticket_ok note_ok name count

  abbrev after : ℕ → HandView I
  after word = holding place word me

  -- a seat with this view has no slot out
  not_out : (v : HandView I) (q : ℕ) → v ≡ me → v.out ≡ suc q → ⊥
  not_out v q same out =
      let none_out : 0 ≡ suc q = sym idle ∙ ap (λ (u : HandView I). u.out) (sym same) ∙ out in omega (arith, none_out)

  -- the slot is taken at the turn of the seat
  taken : (s : S) → R s → place < count → get_elem? s.views id ≡ some me →
      is_turn me (slice_index s.words place) ≡ true → R record {
        words = s.words;
        homes = slice_set s.homes place none;
        views = slice_set s.views id (after (slice_index s.words place));
      }
  taken s r within at turn = record {
    seats = r.seats;
    next = r.next;
    over = r.over;
    taken = r.taken;
    none = r.none;
    words = r.words;
    homes = length-set s.homes place none ∙ r.homes;
    each = λ seat view is. elim (at_set s.views id seat (after word) view is) [
      | inl here ↦ subst (λ (v : HandView I). Ok r.next r.over r.taken r.seats s.words seat v) here.1
          (subst (λ (k : ℕ). Ok r.next r.over r.taken r.seats s.words k (after word)) (sym here.0) mine)
      | inr there ↦ r.each seat view there.1
    ];
    place = λ q in_q. elim (cases_eq q place) [
      | inl same ↦ inr record {
        seat = id;
        view = after word;
        is = set_here s.views id (after word) (is_there s.views id me at);
        out = ap suc (sym same);
      }
      | inr other ↦ elim (r.place q in_q) [
        | inl home ↦ inl record {
          parcel = home.parcel;
          at = set_else s.homes place q none other ∙ home.at;
          content = home.content;
        }
        | inr out ↦ elim (cases_eq out.seat id) [
          | inl same ↦ absurd (not_out out.view q
              (some-injective out.view me (sym out.is ∙ ap (get_elem? s.views) same ∙ at)) out.out)
          | inr apart ↦ inr record {
            seat = out.seat;
            view = out.view;
            is = set_else s.views id out.seat (after word) apart ∙ out.is;
            out = out.out;
          }
        ]
      ]
    ];
    ended = r.ended;
  }
    where
      word : ℕ
      word = slice_index s.words place

      old : Ok r.next r.over r.taken r.seats s.words id me
      old = r.each id me at

      mine : Ok r.next r.over r.taken r.seats s.words id (after word)
      mine = record {
        named = old.named;
        keeper = λ k. let was = old.keeper k in (
          was.0,
          was.1,
          ap (λ (b : Bool). me.over || b) (keeper_turn me word k turn) ∙ or_false me.over ∙ was.2,
        );
        member = old.member;
        free = old.free;
        posted = old.posted;
        took = old.took;
        found = λ q is. let same : q ≡ place = omega (arith, is) in ap (slice_index s.words) (sym same);
        heard = λ h. elim (or_cases me.over (is_end word) h) [
          | inl before ↦ old.heard before
          | inr now ↦ r.ended place within now
        ];
        own = λ q is. let same : q ≡ place = omega (arith, is) in (
          subst (λ k. k < count) (sym same) within,
          subst (λ k. is_turn me (slice_index s.words k) ≡ true) (sym same) turn,
        );
        its = λ q k is. let same : q ≡ place = omega (arith, is) in same ∙ its k;
        due = old.due;
      }

  -- nothing changes where it isn't its turn
  kept : (s : S) → R s → get_elem? s.views id ≡ some me →
      R record { words = s.words; homes = s.homes; views = slice_set s.views id me }
  kept s r at = subst (λ (vs : List (HandView I)). R record { words = s.words; homes = s.homes; views = vs })
      (sym (set_again s.views id me at)) r

  -- no other seat has the slot at its turn
  never : (s : S) → R s → get_elem? s.views id ≡ some me → IsOut ticket_ok note_ok name s place →
      is_turn me (slice_index s.words place) ≡ true → ⊥
  never s r at out turn =
      let theirs = r.each out.seat out.view out.is in
      let one : out.seat ≡ id = same_seat ticket_ok note_ok name count s r out.seat id place out.view me out.is at
      (λ k. theirs.its place k out.out) its (theirs.own place out.out).1 turn in
      not_out out.view place (some-injective out.view me (sym out.is ∙ ap (get_elem? s.views) one ∙ at)) out.out

  abbrev IsSame : Me (Parcel T N) (HandView I) → Me (Parcel T N) (HandView I) → Type 0
  IsSame a b = a ≡ b

  -- the look of a state, by whose turn it is
  abbrev Does : S → Type 0
  Does s = (w : HandView I) × (a : Act (Parcel T N)) × Valid s.homes [] a
      × R (stepped s place (slice_index s.words place) id [] w a)
      × Looked ticket_ok note_ok me.name (step slots place 0 0 none) (me, []) (slice_index s.words place)
      (w, carried_after [] a)

  -- the words are as they were
  with_words : (s : S) (homes : List (Option (Parcel T N))) (views : List (HandView I)) →
      R record { words = s.words; homes = homes; views = views } →
      R record { words = slice_set s.words place (slice_index s.words place); homes = homes; views = views }
  with_words s homes views r = subst (λ (ws : List ℕ). R record { words = ws; homes = homes; views = views })
      (sym (set-get_or s.words place 0)) r

  -- who owes a note finds that it is due
  finds : (s : S) → R s → get_elem? s.views id ≡ some me → me.keeper ≡ false → me.due ≡ true →
      slice_index s.words place ≡ 2
  finds s r at k due = ap (slice_index s.words) (its k) ∙ (r.each id me at).due k due

  -- a ticket is due where the keeper knows so
  finds_free : (s : S) → R s → get_elem? s.views id ≡ some me → me.keeper ≡ true → Among place me.free →
      slice_index s.words place ≡ 0
  finds_free s r at k is = ((r.each id me at).free k place is).1

  look : (s : S) → R s → place < count → get_elem? s.views id ≡ some me → (b : Bool) →
      is_turn me (slice_index s.words place) ≡ b → Does s
  look s r within at true turn = elim (r.place place within) [
    | inl home ↦ (
      after word,
      takes place home.parcel,
      home.at,
      with_words s (slice_set s.homes place none) (slice_set s.views id (after word)) (taken s r within at turn),
      (
        finds s r at,
        subst (λ (b : Bool). MatchBool b
            (TookSlot ticket_ok note_ok me.name place word (me, []) (after word, (place, home.parcel) ∷ []))
            (IsSame (after word, (place, home.parcel) ∷ []) (me, []))) (sym turn) record {
              parcel = home.parcel;
              content = subst (λ (n : ℕ). Content ticket_ok note_ok me.name place n word home.parcel) (sym round)
                  (subst (λ (n : I). Content ticket_ok note_ok n place (r.taken place + lying word) word home.parcel)
                  (sym (r.each id me at).named) home.content);
              is = refl;
            },
        finds_free s r at,
      ),
    )
    | inr out ↦ absurd (never s r at out turn)
  ]
    where
      word : ℕ
      word = slice_index s.words place

      -- the number of the last ticket of this place
      round : round_at place (holding place word me) ≡ r.taken place + lying word
      round = elim (cases_Bool me.keeper) [
        | inl k ↦ ap (λ (b : Bool). if b then times place me.tickets else me.taken + lying word) k ∙ (r.each id me at).posted k place
        | inr k ↦ ap (λ (b : Bool). if b then times place me.tickets else me.taken + lying word) k
            ∙ ap (λ (n : ℕ). n + lying word) ((r.each id me at).took k ∙ ap r.taken (sym (its k)))
      ]
  look s r within at false turn = (
    me,
    keeps,
    tt,
    with_words s s.homes (slice_set s.views id me) (kept s r at),
    (
      finds s r at,
      subst (λ (b : Bool). MatchBool b
          (TookSlot ticket_ok note_ok me.name place (slice_index s.words place) (me, []) (me, [])) (IsSame (me, []) (me, [])))
          (sym turn) refl,
      finds_free s r at,
    ),
  )

  -- the seat can look
  pub look_allowed : place < slots → Allows R slots id (me, []) place (λ n. n)
      (Looked ticket_ok note_ok me.name (step slots place 0 0 none) (me, []))
  look_allowed inside = λ s r long at small. look s r (let a = r.homes in omega (arith, a, long, inside)) at
      (is_turn me (slice_index s.words place)) refl
