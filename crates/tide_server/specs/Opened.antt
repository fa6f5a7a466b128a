-- What a standing heap begins with.
use Rattle.std.specs.Prelude.{ℕ, suc, ◌≡◌, List, [], ◌∷◌}
use Rattle.atomic_table.specs.Seated.{TableId}
use Rattle.tide_posts.specs.tide_heap.tide_core.machine.Frozen.{newcomer}
use Rattle.tide_model.specs.Layout.{Layout}
use Rattle.tide_mutator.specs.calls.Viewed.{view_of}
use Rattle.tide_server.specs.Helpers.{IsHelperOf}
use Rattle.tide_server.specs.Members.{IsMemberOf}
use Rattle.tide_server.specs.declared.helper.Helper.{Helper}
use Rattle.tide_server.specs.declared.member.Member.{Member}
use Rattle.tide_visitor.specs.Viewed as visiting

-- members with numbers one after another, who have made no call yet
abbrev pub AreMembers : Layout → TableId → TableId → ℕ → List Member → Type 0
AreMembers layout heap hands first [] = Unit {0}
AreMembers layout heap hands first (m ∷ ms) =
    IsMemberOf layout heap hands m × (view_of m.mutator ≡ newcomer first) × AreMembers layout heap hands (suc first) ms

-- helpers with numbers one after another, who have made no visit yet
abbrev pub AreHelpers : Layout → TableId → TableId → ℕ → List Helper → Type 0
AreHelpers layout heap hands first [] = Unit {0}
AreHelpers layout heap hands first (h ∷ hs) =
    IsHelperOf layout heap hands h × (visiting.view_of h.visitor ≡ newcomer first)
    × AreHelpers layout heap hands (suc first) hs
