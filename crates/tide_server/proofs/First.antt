-- A keeper stands once it has opened the first part.
use Rattle.std.proofs.Common.{ℕ, zero, suc, ◌≡◌, ◌+◌, ◌<◌, ◌∙◌, refl, sym, ap, subst, arith, Bool, true, false, not, List, [], ◌∷◌, ◌++◌, get_or, replicate, true≢false}
use Rattle.std.specs.Prelude.{◌||◌, ◌&&◌, if◌then◌else◌, nat_lt}
use Rattle.atomic_table.specs.Seated.{TableId}
use Rattle.tide_model.specs.Freeze.{marks_after}
use Rattle.tide_model.specs.History.{plain}
use Rattle.tide_model.specs.Layout.{Layout}
use Rattle.tide_model.specs.Numbers.{any_below, count_where}
use Rattle.tide_model.specs.Refused.{ShapeLists}
use Rattle.tide_model.specs.declared.entry.Entry.TheVariants.{Open}
use Rattle.tide_model.specs.declared.entry.Event.{Event}
use Rattle.tide_posts.specs.Name.{places}
use Rattle.tide_posts.specs.Among.{Among, times}
use Rattle.tide_posts.specs.Schedule.{no_period}
use Rattle.tide_posts.specs.tide_heap.Parties.{In}
use Rattle.tide_posts.specs.tide_heap.Turns.{opened}
use Rattle.tide_posts.specs.tide_heap.tide_core.declared.machine.view.View.{View}
use Rattle.tide_posts.specs.tide_heap.tide_freeze.Books.{AreBooks}
use Rattle.tide_server.proofs.Tickets.{TicketTells-first}
use Rattle.tide_server.proofs.Freezes.{KeeperStands-opened}
use Rattle.tide_server.specs.Keepers.{AreLeft, HasNoEnd, IsKeeperOf, KeeperStands, has_left, ticket_count, view_of}
use Rattle.tide_server.specs.declared.keeper.Keeper.{Keeper}
use Rattle.tide_table.proofs.Nexts.{HasOpenedNext-first}
use Rattle.tide_table.specs.Started.{IsStarted}
use Rattle.tide_table.proofs.tide_statistics.SumLaws.{HasSummed-opened}
use Rattle.tide_table.specs.tide_statistics.Sums.{HasSummed}

or_true : (b : Bool) → (b || true) ≡ true
or_true true = refl
or_true false = refl

any_true : (n : ℕ) → 0 < n → any_below (λ who. true) n ≡ true
any_true zero some = absurd (omega (arith, some))
any_true (suc n) some = or_true (any_below (λ who. true) n)

-- nobody has left
pub none_left : (n who : ℕ) → get_or (replicate n false) who false ≡ false
none_left zero who = refl
none_left (suc n) zero = refl
none_left (suc n) (suc who) = none_left n who

count_all : (test : ℕ → Bool) (n : ℕ) → ((place : ℕ) → test place ≡ true) → count_where test n ≡ n
count_all test zero all = refl
count_all test (suc n) all =
    let rest = count_all test n all in
    let here = ap {B = ℕ} (λ (b : Bool). if b then 1 else 0) (all n) in
    omega (arith, rest, here)

-- so each participant gets a ticket
pub ticket_count-first : (layout : Layout) (n : ℕ) → ticket_count layout (replicate n false) ≡ places layout
ticket_count-first layout n = count_all (λ place. not (has_left layout (replicate n false) place)) (places layout)
    (λ place. ap (λ (b : Bool). not (nat_lt place layout.mutators && b)) (none_left n place) ∙ no_and (nat_lt place layout.mutators))
  where
    no_and : (b : Bool) → not (b && false) ≡ true
    no_and true = refl
    no_and false = refl

module _ (layout : Layout) (shapes : ShapeLists) (heap hands : TableId) (k : Keeper) (start : View)
    (started : IsStarted layout shapes start) (some : 0 < k.books.pacing.calls)
    (is : view_of k ≡ opened layout k.books.pacing.calls start) where
  abbrev run : ℕ
  run = k.books.pacing.calls

  gone_is : (view_of k).gone ≡ []
  gone_is = ap (λ (v : View). v.gone) is ∙ started.gone

  left_none : AreLeft layout (view_of k) 0 (replicate 16 false)
  left_none = record {
    are = λ who e. nobody who (subst (In who) gone_is e);
    known = λ who below. (
      λ e. absurd (true≢false (sym e ∙ none_left 16 who)),
      λ e. nobody who (subst (In who) gone_is e),
    );
    early = λ who below past e. nobody who (subst (In who) gone_is e);
  }
    where
      nobody : {A : Type 0} (who : ℕ) → In who [] → A
      nobody who e = absurd e

  pub KeeperStands-first : 0 < layout.mutators → AreBooks layout [] k.books → IsKeeperOf layout heap hands k → k.next ≡ 0 →
      k.ended ≡ false → k.left ≡ replicate 16 false → k.early ≡ replicate 16 false → k.stopped ≡ false →
      ((place : ℕ) → has_left layout k.left place ≡ true → Among place k.seat.seat.me.0.free) →
      ((place : ℕ) → place < places layout →
      times place k.seat.seat.me.0.tickets ≡ (if has_left layout k.left place then 0 else 1)) →
      k.seat.seat.me.0.notes ≡ [] → HasNoEnd k → HasSummed [] k.sums → KeeperStands layout heap hands k
  KeeperStands-first many are of next ended left early stopped due tickets notes no_end summed =
      KeeperStands-opened layout heap hands k [] [] of
      (HasOpenedNext-first layout shapes run k.books start (view_of k) started is are).runs
      (subst (λ (h : List Event). HasSummed h k.sums) (sym opens) (HasSummed-opened [] (start.period + 1) run k.sums summed))
      no_period
      stopped (λ who. ap (λ (l : List Bool). get_or l who false) early ∙ none_left 16 who)
      (ap not (any_true layout.mutators many))
      (ap (λ (v : View). v.start) is ∙ (λ i. started.seen i ++ plain (Open (started.period i + 1) run) ∷ []))
      (subst (λ (v : View). v.marks ≡ marks_after layout v.start) (sym is)
      (TicketTells-first layout shapes start run started some).marking)
      (ap (λ (v : View). v.visited) is) (ap (λ (v : View). v.done) is) next ended
      (subst (AreLeft layout (view_of k) 0) (sym left) left_none) due
      (λ place below isnt. tickets place below ∙ ap {B = ℕ} (λ (b : Bool). if b then 0 else 1) isnt ∙ sym first)
      (λ place below isnt. ap (λ (l : List ℕ). times place l + 1) notes ∙ sym first) no_end
    where
      opens : (view_of k).start ≡ plain (Open (start.period + 1) run) ∷ []
      opens = ap (λ (v : View). v.start) is ∙ (λ i. started.seen i ++ plain (Open (start.period + 1) run) ∷ [])

      first : (view_of k).period ≡ 1
      first = ap (λ (v : View). v.period) is ∙ ap (λ (n : ℕ). n + 1) started.period
