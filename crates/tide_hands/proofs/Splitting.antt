-- The keeper seats a member, and the rule is kept.
use Rattle.std.proofs.Common.{ℕ, suc, ◌≡◌, ◌≢◌, ◌<◌, ◌+◌, Bool, true, arith, cond, refl, sym, ◌∙◌, ap, subst, List, [], ◌∷◌, ◌++◌, length, inl, inr, true≢false, eq-eqb}
use Rattle.std.proofs.lemmas.Bool.{cases_eq, ne_eqb}
use Rattle.std.specs.Prelude.{slice_set, ◌==◌}
use lib.ListN.{get_elem?, length-set}
use mathlib.Core.Option.{some, some-injective}
use Rattle.atomic_table.proofs.Lists.{at_set, set_else, at_longer}
use Rattle.atomic_table.specs.Table.{State, Splits}
use Rattle.tide_hands.proofs.Lists.{at_end}
use Rattle.tide_hands.specs.declared.parcel.Parcel.{Parcel}
use Rattle.tide_hands.specs.declared.view.HandView.{HandView}
use Rattle.tide_hands.specs.Rule.{keeper_after, member_view, SeatOk, Rule}

module _ {T N I : Type 0} (ticket_ok : I → ℕ → T → Type 0) (note_ok : I → ℕ → ℕ → N → Bool → Type 0) (name : I) (count : ℕ)
    (id : ℕ) (me : HandView I) (idle : me.out ≡ 0) (keeps_it : me.keeper ≡ true) (room : me.next < count) where
  abbrev S : Type 0
  S = State (Parcel T N) (HandView I)

  abbrev R : S → Type 0
  R = Rule ticket_ok note_ok name count

  -- where each member's seat is, with the new one
  abbrev seats_after : (s : S) → R s → ℕ → ℕ
  seats_after s r place = cond (place == me.next) (length s.views) (r.seats place)

  abbrev OkAfter : (s : S) → R s → ℕ → HandView I → Type 0
  OkAfter s r = SeatOk ticket_ok note_ok name count (me.next + 1) r.over r.taken (seats_after s r) s.words

  seated : (s : S) → R s → get_elem? s.views id ≡ some me → R record {
    words = s.words;
    homes = s.homes;
    views = slice_set s.views id (keeper_after me) ++ member_view me ∷ [];
  }
  seated s r at = record {
    seats = seats_after s r;
    next = me.next + 1;
    over = r.over;
    taken = r.taken;
    none = λ place behind. r.none place (let next = (old.keeper keeps_it).1 in omega (arith, behind, next));
    words = r.words;
    homes = r.homes;
    each = λ seat view is. elim (at_end left (member_view me) view seat is) [
      | inl old ↦ elim (at_set s.views id seat (keeper_after me) view old) [
        | inl here ↦ subst (λ (v : HandView I). OkAfter s r seat v) here.1
            (subst (λ (k : ℕ). OkAfter s r k (keeper_after me)) (sym here.0) mine)
        | inr there ↦ theirs seat view there.0 there.1
      ]
      | inr new ↦ subst (λ (v : HandView I). OkAfter s r seat v) new.1
          (subst (λ (k : ℕ). OkAfter s r k (member_view me))
          (sym (new.0 ∙ length-set s.views id (keeper_after me))) its_own)
    ];
    place = λ q in_q. elim (r.place q in_q) [
      | inl home ↦ inl record { parcel = home.parcel; at = home.at; content = home.content }
      | inr out ↦ elim (cases_eq out.seat id) [
        | inl same ↦ absurd (not_mine out.view q
            (some-injective out.view me (sym out.is ∙ ap (get_elem? s.views) same ∙ at)) out.out)
        | inr apart ↦ inr record {
          seat = out.seat;
          view = out.view;
          is = at_longer left (member_view me ∷ []) out.seat out.view
              (set_else s.views id out.seat (keeper_after me) apart ∙ out.is);
          out = out.out;
        }
      ]
    ];
    ended = r.ended;
  }
    where
      left : List (HandView I)
      left = slice_set s.views id (keeper_after me)

      old : SeatOk ticket_ok note_ok name count r.next r.over r.taken r.seats s.words id me
      old = r.each id me at

      none_out : (q : ℕ) → 0 ≡ suc q → ⊥
      none_out q is = omega (arith, is)

      not_mine : (v : HandView I) (q : ℕ) → v ≡ me → v.out ≡ suc q → ⊥
      not_mine v q same out = none_out q (sym idle ∙ ap (λ (u : HandView I). u.out) (sym same) ∙ out)

      mine : OkAfter s r id (keeper_after me)
      mine = record {
        named = old.named;
        keeper = λ k. ((old.keeper k).0, refl, (old.keeper k).2);
        member = λ k. absurd (true≢false (sym keeps_it ∙ k));
        free = old.free;
        posted = old.posted;
        took = λ k. absurd (true≢false (sym keeps_it ∙ k));
        found = λ q is. absurd (none_out q (sym idle ∙ is));
        heard = old.heard;
        own = λ q is. absurd (none_out q (sym idle ∙ is));
        its = λ q k is. absurd (none_out q (sym idle ∙ is));
        due = λ k. absurd (true≢false (sym keeps_it ∙ k));
      }

      its_own : OkAfter s r (length s.views) (member_view me)
      its_own = record {
        named = old.named;
        keeper = λ k. absurd (true≢false (sym k));
        member = λ k. (
          room,
          omega arith,
          ap (λ (b : Bool). cond b (length s.views) (r.seats me.next)) (eq-eqb me.next me.next refl),
        );
        free = λ k. absurd (true≢false (sym k));
        posted = λ k. absurd (true≢false (sym k));
        took = λ k. sym (r.none me.next (let next = (old.keeper keeps_it).1 in omega (arith, next)));
        found = λ q is. absurd (none_out q is);
        heard = λ h. absurd (true≢false (sym h));
        own = λ q is. absurd (none_out q is);
        its = λ q k is. absurd (none_out q is);
        due = λ k is. absurd (true≢false (sym is));
      }

      theirs : (seat : ℕ) (view : HandView I) → seat ≢ id → get_elem? s.views seat ≡ some view → OkAfter s r seat view
      theirs seat view apart is =
          let was = r.each seat view is in record {
            named = was.named;
            keeper = λ k. absurd (apart ((was.keeper k).0 ∙ sym (old.keeper keeps_it).0));
            member = λ k.
                let m = was.member k in
                let below : view.place < me.next = subst (λ n. view.place < n) (sym (old.keeper keeps_it).1) m.1 in (
                  m.0,
                  omega (arith, below),
                  ap (λ (b : Bool). cond b (length s.views) (r.seats view.place))
                      (ne_eqb view.place me.next (λ same. let b = below in omega (arith, b, same))) ∙ m.2,
                );
            free = was.free;
            posted = was.posted;
            took = was.took;
            found = was.found;
            heard = was.heard;
            own = was.own;
            its = was.its;
            due = was.due;
          }

  pub split_allowed : Splits R id me (keeper_after me) (member_view me)
  split_allowed = λ s r at. seated s r at
