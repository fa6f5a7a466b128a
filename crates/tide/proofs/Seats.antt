-- What those may do who have just got a seat, and what is known of the answers that members leave in their jobs.
use Rattle.std.proofs.Common.{ℕ, suc, ◌≡◌, ◌+◌, ◌∙◌, refl, ap, subst, sym, Bool, true, false, true≢false, List, [], ◌∷◌, ◌++◌, length}
use Rattle.std.proofs.lemmas.List.{length-map}
use Rattle.std.proofs.lemmas.List.Elements.{All-cons, All-nil, All-map}
use Rattle.std.proofs.lemmas.Slice.Zip.{AllZip-long}
use Rattle.std.specs.Fn.{Shared}
use Rattle.std.specs.List.{AllZip}
use Rattle.std.specs.Prelude.{All, IsSome, IsSomeAnd, None, Option, Some, get_or, is_some, map}
use denote.Ref.{MutBor}
use Rattle.tide.specs.Asking.{MayCall, Past}
use Rattle.tide.specs.Hosts.{AreAnswers, AreReady, Beginning, HasActed, HasAnswered, HasMember, IsNewMember}
use Rattle.tide.specs.declared.jobs.Job.{Job}
use Rattle.tide.specs.declared.thread.Thread.{Thread}
use Rattle.tide_server.specs.Helpers.{IsHelperOf}
use Rattle.tide_server.specs.Keepers.{KeeperStands, view_of as view_of_keeper}
use Rattle.tide_server.specs.Members.{IsMemberOf}
use Rattle.tide_server.specs.Opened.{AreHelpers, AreMembers}
use Rattle.tide_server.specs.atomic_table.Seated.{TableId}
use Rattle.tide_server.specs.declared.helper.Helper.{Helper}
use Rattle.tide_server.specs.declared.keeper.Keeper.{Keeper}
use Rattle.tide_server.specs.declared.member.Member.{Member}
use Rattle.tide_server.specs.tide_heap.Turns.{open_entry, opened}
use Rattle.tide_server.specs.tide_heap.tide_core.declared.machine.view.View.{View}
use Rattle.tide_server.specs.tide_heap.tide_core.machine.Frozen.{newcomer}
use Rattle.tide_server.specs.tide_model.Layout.{Layout}
use Rattle.tide_server.specs.tide_model.Script.{retry_of}
use Rattle.tide_server.specs.tide_model.declared.entry.Event.{Event}
use Rattle.tide_server.specs.tide_mutator.calls.Viewed.{view_of}
use Rattle.tide_server.specs.tide_report.Ends.{ends_in}

-- a member's job, from which it is to be taken
abbrev pub job_of : {T : Type 0} → Member → Job T
job_of m = record { member = Some m; answer = None }

module _ (layout : Layout) (heap hands : TableId) where
  -- a member that has made no call may make any
  pub first_may_call : (who : ℕ) (m : Member) → IsMemberOf layout heap hands m → view_of m.mutator ≡ newcomer who →
      MayCall layout heap hands m
  first_may_call who m of is = record {
    of = of;
    stays = ap (λ (v : View). v.left) is;
    settled = ap (λ (v : View). retry_of v.who v.mine) is;
  }

  -- so all members of a heap that was just opened are new
  pub all_are_new : (first : ℕ) (ms : List Member) → AreMembers layout heap hands first ms →
      All (IsNewMember layout heap hands) ms
  all_are_new first [] are = All-nil (IsNewMember layout heap hands)
  all_are_new first (m ∷ ms) are = All-cons (IsNewMember layout heap hands) m ms
      (record { may = first_may_call first m are.0 are.1; past = ap past_in are.1 }) (all_are_new (suc first) ms are.2)
    where
      past_in : View → Past
      past_in v = record { seen = v.seen; mine = v.mine }

  -- and its helpers may work
  pub all_may_work : (first : ℕ) (hs : List Helper) → AreHelpers layout heap hands first hs →
      All (IsHelperOf layout heap hands) hs
  all_may_work first [] are = All-nil (IsHelperOf layout heap hands)
  all_may_work first (h ∷ hs) are = All-cons (IsHelperOf layout heap hands) h hs are.0 (all_may_work (suc first) hs are.2)

  -- so all of a heap that was just opened are ready
  pub all_are_ready : (k : Keeper) (ms : List Member) (hs : List Helper) (start : View) (run : ℕ) →
      view_of_keeper k ≡ opened layout run start → start.period ≡ 0 → start.seen ≡ [] → KeeperStands layout heap hands k →
      length ms ≡ layout.mutators → AreMembers layout heap hands 0 ms → AreHelpers layout heap hands 16 hs →
      AreReady layout heap hands k ms hs
  all_are_ready k ms hs start run is zero nothing stands count members helpers = record {
    keeper = stands;
    first = ap (λ (v : View). v.period) is ∙ ap (λ (n : ℕ). n + 1) zero;
    fresh = ap (λ (v : View). ends_in layout v.start) is
        ∙ ap (λ (seen : List Event). ends_in layout (seen ++ open_entry run start ∷ [])) nothing;
    count = count;
    members = members;
    helpers = all_may_work 16 hs helpers;
  }

  -- so is each that is to be taken by its thread
  pub each_is_new : {T : Type 0} (ms : List Member) (jobs : List (Job T)) → All (IsNewMember layout heap hands) ms →
      jobs ≡ map job_of ms → All (HasMember (IsNewMember layout heap hands)) jobs
  each_is_new ms jobs new are = subst (All (HasMember (IsNewMember layout heap hands))) (sym are)
      (All-map (HasMember (IsNewMember layout heap hands)) job_of ms new)

-- all are ready of a heap under another name
pub ready_so : (layout other : Layout) (heap table hands : TableId) (k : Keeper) (ms : List Member) (hs : List Helper) →
    layout ≡ other → heap ≡ table → AreReady layout heap hands k ms hs → AreReady other table hands k ms hs
ready_so layout other heap table hands k ms hs same also ready =
    subst (λ (l : Layout). AreReady l table hands k ms hs) same
    (subst (λ (id : TableId). AreReady layout id hands k ms hs) also ready)

-- what holds of a value is of one that there is
there_is : {A : Type 0} (found : Option A) (P : A → Type 0) → IsSomeAnd found P → is_some found ≡ true
there_is None P has = absurd has
there_is (Some x) P has = refl

module _ {T : Type 0} (acts : Member → T → Type 0) where
  -- whoever acted left an answer
  left_answer : (old new : Job T) → HasActed acts old new → IsSome new.answer
  left_answer old new = by_member old.member
    where
      by_member : (member : Option Member) → IsSomeAnd member (λ m. IsSomeAnd new.answer (acts m)) → IsSome new.answer
      by_member None has = absurd has
      by_member (Some m) has = there_is new.answer (acts m) has

  pub all_left_answers : (jobs played : List (Job T)) → AllZip (HasActed acts) jobs played →
      All (λ (job : Job T). IsSome job.answer) played
  all_left_answers [] [] acted = All-nil (λ (job : Job T). IsSome job.answer)
  all_left_answers [] (p ∷ ps) acted = absurd acted
  all_left_answers (o ∷ os) [] acted = absurd acted
  all_left_answers (o ∷ os) (p ∷ ps) acted =
      All-cons (λ (job : Job T). IsSome job.answer) p ps (left_answer o p acted.0) (all_left_answers os ps acted.1)

-- the first of some values, and the others
first_in : {A : Type 0} → List (Option A) → Option A
first_in xs = get_or xs 0 None

others_in : {A : Type 0} → List A → List A
others_in [] = []
others_in (x ∷ xs) = xs

is_none : {A : Type 0} → List A → Bool
is_none [] = true
is_none (x ∷ xs) = false

module _ {F T : Type 0} (g : Shared F (MutBor Thread × Unit {0}) (T × (MutBor Thread × Unit {0}))) (f : F)
    (begins : Beginning) (layout : Layout) (heap hands : TableId) where
  abbrev acts : Member → T → Type 0
  acts m = HasAnswered g f begins (view_of m.mutator).who

  abbrev answers_of : List (Job T) → List (Option T)
  answers_of = map (λ (job : Job T). job.answer)

  -- the answers that were left in the jobs of members are those of their threads, in the order of their numbers
  pub are_answers : (first : ℕ) (ms : List Member) (played : List (Job T)) (answers : List T) →
      AreMembers layout heap hands first ms → AllZip (HasActed acts) (map job_of ms) played →
      map (λ (answer : T). Some answer) answers ≡ answers_of played → AreAnswers g f begins first answers
  unfolding is_none first_in others_in
  are_answers first [] [] [] are acted same = tt
  are_answers first [] [] (a ∷ more) are acted same = absurd (true≢false (ap is_none (sym same)))
  are_answers first [] (p ∷ ps) answers are acted same = absurd acted
  are_answers first (m ∷ ms) [] answers are acted same = absurd acted
  are_answers first (m ∷ ms) (p ∷ ps) [] are acted same = absurd (true≢false (ap is_none same))
  are_answers first (m ∷ ms) (p ∷ ps) (a ∷ more) are acted same =
      (here, are_answers (suc first) ms ps more are.2 acted.1 (ap others_in same))
    where
      answered : HasAnswered g f begins (view_of m.mutator).who a
      answered = subst (λ (found : Option T). IsSomeAnd found (acts m)) (sym (ap first_in same)) acted.0

      here : HasAnswered g f begins first a
      here = subst (λ (who : ℕ). HasAnswered g f begins who a) (ap (λ (v : View). v.who) are.1) answered

  -- as many as there are members
  pub all_answers : (ms : List Member) (jobs played : List (Job T)) (answers : List T) → jobs ≡ map job_of ms →
      AllZip (HasActed acts) jobs played → map (λ (answer : T). Some answer) answers ≡ answers_of played →
      length answers ≡ length ms
  all_answers ms jobs played answers are acted same =
      sym (length-map answers (λ (answer : T). Some answer)) ∙ ap length same
      ∙ length-map played (λ (job : Job T). job.answer)
      ∙ AllZip-long (HasActed acts) jobs played acted ∙ ap length are ∙ length-map ms job_of
