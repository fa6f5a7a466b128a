-- A host before its run, and what a function answers its threads.
use Rattle.std.specs.Prelude.{ℕ, suc, ◌≡◌, ◌+◌, ◌<◌, All, IsSomeAnd, List, [], ◌∷◌, length, replicate, slice_index_or}
use Rattle.std.specs.Fn.{Shared}
use denote.Ref.{MutBor}
use Rattle.tide.specs.Asking.{MayCall, Past, past_of}
use Rattle.tide.specs.Threads.{Stack, stack_of}
use Rattle.tide.specs.declared.host.Host.{Host}
use Rattle.tide.specs.declared.jobs.Job.{Job}
use Rattle.tide.specs.declared.roots.Roots.{Roots}
use Rattle.tide.specs.declared.sizes.Sizes.{Sizes}
use Rattle.tide.specs.declared.thread.Thread.{Thread}
use Rattle.tide_server.specs.Helpers.{IsHelperOf}
use Rattle.tide_server.specs.Keepers.{KeeperStands, view_of}
use Rattle.tide_server.specs.Opened.{AreMembers}
use Rattle.tide_server.specs.atomic_table.Seated.{TableId}
use Rattle.tide_server.specs.declared.helper.Helper.{Helper}
use Rattle.tide_server.specs.declared.keeper.Keeper.{Keeper}
use Rattle.tide_server.specs.declared.member.Member.{Member}
use Rattle.tide_server.specs.tide_model.Layout.{Layout}
use Rattle.tide_server.specs.tide_model.declared.val.Val.TheVariants.{Empty}
use Rattle.tide_server.specs.tide_mutator.calls.Viewed as calls
use Rattle.tide_server.specs.tide_report.Ends.{ends_in}

-- the first part of a heap is open, in which no cycle ended: its keeper may turn, and all members, which have made no call
-- yet, and all helpers have their seats
pub record AreReady (layout : Layout) (heap hands : TableId) (k : Keeper) (ms : List Member) (hs : List Helper) : Type 0
  where
    pub keeper : KeeperStands layout heap hands k
    pub first : (view_of k).period ≡ 1
    pub fresh : ends_in layout (view_of k).start ≡ []
    pub count : length ms ≡ layout.mutators
    pub members : AreMembers layout heap hands 0 ms
    pub helpers : All (IsHelperOf layout heap hands) hs

-- so those of a host
abbrev pub HostStands : Host → Type 0
HostStands host = AreReady host.opened.standing.heap.key.layout host.opened.standing.heap.table.shared.table_id
    host.opened.standing.hands.shared.table_id host.opened.keeper host.opened.members.items host.opened.helpers.items

-- nothing was seen of a history, and no call made
abbrev pub nothing : Past
nothing = record { seen = []; mine = [] }

-- a member of the heap that has made no call yet, and may make any
pub record IsNewMember (layout : Layout) (heap hands : TableId) (m : Member) : Type 0 where
  pub may : MayCall layout heap hands m
  pub past : past_of m ≡ nothing

-- the empty root stack in some registers
abbrev pub stack_in : Roots → Stack
stack_in roots = record { base = roots.base; top = roots.base; end = roots.end }

-- that of a host of these sizes: behind the registers that the runtime names, and the one for operands
abbrev pub stack_of_sizes : Sizes → Stack
stack_of_sizes sizes = record {
  base = sizes.registers + 1;
  top = sizes.registers + 1;
  end = sizes.registers + 1 + sizes.stack;
}

-- what each thread of a run begins with: its heap's layout, the table of that heap's words, and an empty root stack
pub record Beginning : Type 0 where
  pub layout : Layout
  pub heap : TableId
  pub stack : Stack

abbrev pub beginning_of : Layout → TableId → Roots → Beginning
beginning_of layout heap roots = record { layout = layout; heap = heap; stack = stack_in roots }

-- the thread with this number of a run, which has made no call yet
pub record IsNewThread (begins : Beginning) (who : ℕ) (thread : Thread) : Type 0 where
  pub number : IsSomeAnd thread.own (λ own. (calls.view_of own.member.mutator).who ≡ who)
  pub layout : IsSomeAnd thread.own (λ own. own.standing.now.heap.key.layout ≡ begins.layout)
  pub heap : IsSomeAnd thread.own (λ own. own.standing.now.heap.table.shared.table_id ≡ begins.heap)
  pub past : IsSomeAnd thread.own (λ own. past_of own.member ≡ nothing)
  pub told : thread.told ≡ replicate 250 Empty
  pub stack : stack_of thread ≡ begins.stack

-- a function answered so on the thread with this number of a run
pub record HasAnswered {F T : Type 0} (g : Shared F (MutBor Thread × Unit {0}) (T × (MutBor Thread × Unit {0})))
    (f : F) (begins : Beginning) (number : ℕ) (answer : T) : Type 0 where
  pub before : MutBor Thread
  pub is_new : IsNewThread begins number before.now
  pub after : MutBor Thread
  pub answered : g.post f (before, tt) (answer, (after, tt))

-- it answered so on threads with numbers one after another
abbrev pub AreAnswers : {F T : Type 0} → Shared F (MutBor Thread × Unit {0}) (T × (MutBor Thread × Unit {0})) → F →
    Beginning → ℕ → List T → Type 0
AreAnswers g f begins first [] = Unit {0}
AreAnswers g f begins first (answer ∷ answers) =
    HasAnswered g f begins first answer × AreAnswers g f begins (suc first) answers

-- the member that is to be taken by its thread is one of these
abbrev pub HasMember : {T : Type 0} → (Member → Type 0) → Job T → Type 0
HasMember may job = IsSomeAnd job.member may

-- the member that was to be taken by its thread acted, and left such an answer
abbrev pub HasActed : {T : Type 0} → (Member → T → Type 0) → Job T → Job T → Type 0
HasActed acts old new = IsSomeAnd old.member (λ member. IsSomeAnd new.answer (acts member))

-- those of all of these jobs did
abbrev pub HaveActed : {T : Type 0} → (Member → T → Type 0) → List (Job T) → List (Job T) → Type 0
HaveActed acts old new = (k : ℕ) (d : Job _) → k < length old →
    HasActed acts (slice_index_or old k d) (slice_index_or new k d)
