-- Which roots were read, a few more at a time.
use Rattle.std.proofs.Common.{ℕ, ◌≡◌, ◌+◌, ◌<◌, ◌≤◌, Bool, true, false, if◌then◌else◌, Some, List, [], ◌∷◌, ◌++◌, refl, sym, ap, ◌∙◌, subst, inl, inr, arith}
use Rattle.std.specs.Prelude.{◌⊎◌, ◌↔◌, Contains}
use Rattle.std.proofs.lemmas.Bool.{cases_Bool, cases_lt}
use Rattle.std.proofs.lemmas.List.Elements.{Contains-append_left, Contains-push, Contains-push_cases}
use Rattle.tide_model.specs.declared.val.Val.{Val}
use Rattle.tide_model.specs.declared.val.Val.TheVariants.{Cell}
use Rattle.tide_model.specs.Layout.{Layout, cell_count}
use Rattle.tide_model.specs.Refused.{ShapeLists}
use Rattle.tide_model.specs.State.{State}
use Rattle.tide_words.specs.tide_layout.declared.region.Region.TheVariants.{Active, Claim as Claimed}
use Rattle.tide_words.specs.forms.Reference.{claim_word}
use Rattle.tide_words.specs.heap.Heap.{Heap}
use Rattle.tide_words.specs.heap.Reading.{ReadsAs}
use Rattle.tide_retained.specs.declared.contents.Rooted.{Rooted}
use Rattle.tide_retained.specs.declared.root.Root.{Root}
use Rattle.tide_retained.specs.declared.root.Root.TheVariants.{Register, Claim, Strong}
use Rattle.tide_retained.specs.Holding.{rooted}
use Rattle.tide_retained.specs.Path.{Holds}
use Rattle.tide_retained.specs.RootsRead.{AddsRoots, AreRootsOf, IsActiveRoot, IsClaimOf, IsClaimRoot, IsClaimWordRoot, IsNamedRoot, IsOwnRoot, IsRegisterRoot, IsStrongRoot}
use Rattle.tide_retained.proofs.ListLaws.{nowhere}

-- none more, where there is none
pub adds_none : (more : Rooted → Type 0) (roots : List Rooted) → ((root : Rooted) → more root → ⊥) → AddsRoots more roots roots
adds_none more roots none root = ((λ at. inl at), (λ given. elim given [ inl at ↦ at | inr is ↦ absurd (none root is) ]))

-- one more
pub adds_one : (more : Rooted → Type 0) (roots : List Rooted) (root : Rooted) → more root → ((other : Rooted) → more other → root ≡ other) → AddsRoots more roots (roots ++ root ∷ [])
adds_one more roots root is alone other = (
  (λ at. elim (Contains-push_cases roots root other at) [ inl old ↦ inl old | inr same ↦ inr (subst more same is) ]),
  (λ given. elim given [
    | inl old ↦ Contains-append_left roots (root ∷ []) other old
    | inr too ↦ subst (Contains (roots ++ root ∷ [])) (alone other too) (Contains-push roots root)
  ]),
)

-- some, and then others
pub adds_both : (first second both : Rooted → Type 0) (one two three : List Rooted) → AddsRoots first one two → AddsRoots second two three →
    ((root : Rooted) → both root ↔ (first root ⊎ second root)) → AddsRoots both one three
adds_both first second both one two three adds later are root = (
  (λ at. elim ((later root).0 at) [
    | inr late ↦ inr ((are root).1 (inr late))
    | inl before ↦ elim ((adds root).0 before) [ inl old ↦ inl old | inr early ↦ inr ((are root).1 (inl early)) ]
  ]),
  (λ given. elim given [
    | inl old ↦ (later root).1 (inl ((adds root).1 (inl old)))
    | inr too ↦ elim ((are root).0 too) [ inl early ↦ (later root).1 (inl ((adds root).1 (inr early))) | inr late ↦ (later root).1 (inr late) ]
  ]),
)

-- the same roots by another name
pub adds_same : (some other : Rooted → Type 0) (one two : List Rooted) → AddsRoots some one two → ((root : Rooted) → some root ↔ other root) → AddsRoots other one two
adds_same some other one two adds are root = (
  (λ at. elim ((adds root).0 at) [ inl old ↦ inl old | inr new ↦ inr ((are root).0 new) ]),
  (λ given. elim given [ inl old ↦ (adds root).1 (inl old) | inr new ↦ (adds root).1 (inr ((are root).1 new)) ]),
)

cell_of : (a b : ℕ) → Cell a ≡ Cell b → a ≡ b
cell_of a b same = cc

-- a root whose value names a cell
pub named_one : (root : Root) (cell : ℕ) (roots : List Rooted) → AddsRoots (IsNamedRoot root (Cell cell)) roots (roots ++ rooted root cell ∷ [])
named_one root cell roots = adds_one (IsNamedRoot root (Cell cell)) roots (rooted root cell) (refl, refl)
    (λ other is. let (of_root, of_value) = is in let same = cell_of cell other.cell of_value in λ i. record { root = sym of_root i; cell = same i })

-- or none
pub named_none : (root : Root) (value : Val) (roots : List Rooted) → ((cell : ℕ) → value ≡ Cell cell → ⊥) → AddsRoots (IsNamedRoot root value) roots roots
named_none root value roots none = adds_none (IsNamedRoot root value) roots (λ other is. none other.cell is.1)

-- one more register
pub one_more_register : (state : State) (who register : ℕ) (one two three : List Rooted) → AddsRoots (IsRegisterRoot state who register) one two →
    AddsRoots (IsNamedRoot (Register who register) (state.registers who register)) two three → AddsRoots (IsRegisterRoot state who (register + 1)) one three
one_more_register state who register one two three adds later =
    adds_both (IsRegisterRoot state who register) (IsNamedRoot (Register who register) (state.registers who register)) (IsRegisterRoot state who (register + 1)) one two three adds later (λ root. (
      (λ is. (let (k, below, of_root, holds) = is in elim (cases_lt k register) [
        | inl early ↦ inl (k, early, of_root, holds)
        | inr last ↦ (let this : k ≡ register = omega (arith, below, last) in
            inr (of_root ∙ ap (Register who) this, ap (state.registers who) (sym this) ∙ holds))
      ])),
      (λ given. elim given [
        | inl early ↦ (early.0, (let below = early.1 in omega (arith, below)), early.2, early.3)
        | inr (of_root, holds) ↦ (register, omega arith, of_root, holds)
      ]),
    ))

-- one more mutator
pub one_more_mutator : (layout : Layout) (state : State) (who : ℕ) (one two three : List Rooted) → AddsRoots (IsActiveRoot layout state who) one two →
    AddsRoots (IsOwnRoot layout state who) two three → AddsRoots (IsActiveRoot layout state (who + 1)) one three
one_more_mutator layout state who one two three adds later =
    adds_both (IsActiveRoot layout state who) (IsOwnRoot layout state who) (IsActiveRoot layout state (who + 1)) one two three adds later (λ root. (
      (λ is. (let (k, below, (active, holds)) = is in elim (cases_lt k who) [
        | inl early ↦ inl (k, early, (active, holds))
        | inr last ↦ (let this : k ≡ who = omega (arith, below, last) in
            inr (ap state.active (sym this) ∙ active, subst (λ (n : ℕ). IsRegisterRoot state n layout.registers root) this holds))
      ])),
      (λ given. elim given [
        | inl early ↦ (early.0, (let below = early.1 in omega (arith, below)), early.2)
        | inr own ↦ (who, omega arith, own)
      ]),
    ))

-- one more handle
pub one_more_handle : (state : State) (handle : ℕ) (one two three : List Rooted) → AddsRoots (IsStrongRoot state handle) one two →
    AddsRoots (IsNamedRoot (Strong handle) (state.strong handle)) two three → AddsRoots (IsStrongRoot state (handle + 1)) one three
one_more_handle state handle one two three adds later =
    adds_both (IsStrongRoot state handle) (IsNamedRoot (Strong handle) (state.strong handle)) (IsStrongRoot state (handle + 1)) one two three adds later (λ root. (
      (λ is. (let (k, below, of_root, holds) = is in elim (cases_lt k handle) [
        | inl early ↦ inl (k, early, of_root, holds)
        | inr last ↦ (let this : k ≡ handle = omega (arith, below, last) in
            inr (of_root ∙ ap Strong this, ap state.strong (sym this) ∙ holds))
      ])),
      (λ given. elim given [
        | inl early ↦ (early.0, (let below = early.1 in omega (arith, below)), early.2, early.3)
        | inr (of_root, holds) ↦ (handle, omega arith, of_root, holds)
      ]),
    ))

-- one more cell, by who claims it
pub one_more_claim : (state : State) (cell : ℕ) (one two three : List Rooted) → AddsRoots (IsClaimRoot state cell) one two →
    AddsRoots (IsClaimOf state cell) two three → AddsRoots (IsClaimRoot state (cell + 1)) one three
one_more_claim state cell one two three adds later =
    adds_both (IsClaimRoot state cell) (IsClaimOf state cell) (IsClaimRoot state (cell + 1)) one two three adds later (λ root. (
      (λ is. (let (who, of_root, claims, below) = is in elim (cases_lt root.cell cell) [
        | inl early ↦ inl (who, of_root, claims, early)
        | inr last ↦ (let this : root.cell ≡ cell = omega (arith, below, last) in inr (who, of_root, subst (Contains (state.claims who)) this claims, this))
      ])),
      (λ given. elim given [
        | inl (who, of_root, claims, early) ↦ (who, of_root, claims, omega (arith, early))
        | inr (who, of_root, claims, same) ↦ (who, of_root, subst (Contains (state.claims who)) (sym same) claims, omega (arith, same))
      ]),
    ))

-- the word of a mutator tells whether it is active
own_by_word : (layout : Layout) (shapes : ShapeLists) (heap : Heap) (state : State) (who : ℕ) → ReadsAs layout shapes heap state → who < layout.mutators → (active : Bool) → state.active who ≡ active →
    heap Active who ≡ (if active then 1 else 0)
own_by_word layout shapes heap state who reads within active is = reads.roots.active who within ∙ ap (λ (b : Bool). if b then 1 else 0) is

pub active_one : (layout : Layout) (shapes : ShapeLists) (heap : Heap) (state : State) (who : ℕ) (one two : List Rooted) → ReadsAs layout shapes heap state → who < layout.mutators → heap Active who ≡ 1 →
    AddsRoots (IsRegisterRoot state who layout.registers) one two → AddsRoots (IsOwnRoot layout state who) one two
active_one layout shapes heap state who one two reads within word adds =
    adds_same (IsRegisterRoot state who layout.registers) (IsOwnRoot layout state who) one two adds (λ root. ((λ is. (active, is)), (λ own. own.1)))
  where
    active : state.active who ≡ true
    active = elim (cases_Bool (state.active who)) [
      | inl is ↦ is
      | inr not ↦ (let zero = own_by_word layout shapes heap state who reads within false not in absurd (omega (arith, word, zero)))
    ]

pub active_none : (layout : Layout) (shapes : ShapeLists) (heap : Heap) (state : State) (who : ℕ) (roots : List Rooted) → ReadsAs layout shapes heap state → who < layout.mutators → (heap Active who ≡ 1 → ⊥) →
    AddsRoots (IsOwnRoot layout state who) roots roots
active_none layout shapes heap state who roots reads within word =
    adds_none (IsOwnRoot layout state who) roots (λ root own. word (own_by_word layout shapes heap state who reads within true own.0))

-- a claim's word
pub claim_named : (cell who word : ℕ) (one two : List Rooted) → who < 256 → claim_word (Some who) ≡ word → AddsRoots (IsNamedRoot (Claim who) (Cell cell)) one two → AddsRoots (IsClaimWordRoot cell word) one two
claim_named cell who word one two few is adds = adds_same (IsNamedRoot (Claim who) (Cell cell)) (IsClaimWordRoot cell word) one two adds (λ root. (
  (λ (of_root, value). (who, few, of_root, is, sym (cell_of cell root.cell value))),
  (λ (whose, _, of_root, also, here). (
    of_root ∙ ap Claim (let same : whose ≡ who = omega (arith, is, also) in same),
    ap Cell (sym here),
  )),
))

pub claim_none : (cell word : ℕ) (roots : List Rooted) → ((who : ℕ) → who < 256 → claim_word (Some who) ≡ word → ⊥) → AddsRoots (IsClaimWordRoot cell word) roots roots
claim_none cell word roots none = adds_none (IsClaimWordRoot cell word) roots (λ root (who, few, _, is, _). none who few is)

-- it tells whose the cell is
pub claim_by_word : (layout : Layout) (shapes : ShapeLists) (heap : Heap) (state : State) (cell : ℕ) (one two : List Rooted) → ReadsAs layout shapes heap state → cell < cell_count layout →
    layout.mutators ≤ 256 → AddsRoots (IsClaimWordRoot cell (heap Claimed cell)) one two → AddsRoots (IsClaimOf state cell) one two
claim_by_word layout shapes heap state cell one two reads within few adds =
    adds_same (IsClaimWordRoot cell (heap Claimed cell)) (IsClaimOf state cell) one two adds (λ root. (
      (λ (who, _, of_root, word, here). (who, of_root, (reads.parts.claims.named cell who within).0 (sym word), here)),
      (λ (who, of_root, claims, here). (
        who,
        elim (cases_lt who layout.mutators) [
          | inl below ↦ omega (arith, below, few)
          | inr past ↦ absurd (nowhere cell (subst (λ (l : List ℕ). Contains l cell) (reads.parts.past_claims who past) claims))
        ],
        of_root,
        sym ((reads.parts.claims.named cell who within).1 claims),
        here,
      )),
    ))

-- all of them are the roots of the state
pub all_roots : (layout : Layout) (shapes : ShapeLists) (heap : Heap) (state : State) (one two three : List Rooted) → ReadsAs layout shapes heap state →
    AddsRoots (IsActiveRoot layout state layout.mutators) [] one → AddsRoots (IsClaimRoot state (cell_count layout)) one two → AddsRoots (IsStrongRoot state layout.strong) two three →
    AreRootsOf state three
all_roots layout shapes heap state one two three reads registers claims handles root cell = (from_list root, to_list root)
  where
    from_list : (root : Root) → Contains three (rooted root cell) → Holds state root cell
    from_list root at = elim ((handles (rooted root cell)).0 at) [
      | inr (handle, below, of_root, holds) ↦ subst (λ (r : Root). Holds state r cell) (sym of_root) holds
      | inl before ↦ elim ((claims (rooted root cell)).0 before) [
        | inr (who, of_root, claimed, below) ↦ subst (λ (r : Root). Holds state r cell) (sym of_root) claimed
        | inl first ↦ elim ((registers (rooted root cell)).0 first) [
          | inr (who, below, (active, (register, within, of_root, holds))) ↦ subst (λ (r : Root). Holds state r cell) (sym of_root) (active, holds)
          | inl none ↦ absurd (nowhere (rooted root cell) none)
        ]
      ]
    ]

    late : (root : Root) → Contains two (rooted root cell) → Contains three (rooted root cell)
    late root at = (handles (rooted root cell)).1 (inl at)

    to_list : (root : Root) → Holds state root cell → Contains three (rooted root cell)
    to_list (Register who register) (active, holds) =
        let root = rooted (Register who register) cell in
        late (Register who register) ((claims root).1 (inl ((registers root).1 (inr (
          who,
          elim (cases_lt who layout.mutators) [ inl below ↦ below | inr past ↦ (let none = reads.roots.past_registers who register (inl past) in absurd (cc)) ],
          (
            active,
            (
              register,
              elim (cases_lt register layout.registers) [ inl below ↦ below | inr past ↦ (let none = reads.roots.past_registers who register (inr past) in absurd (cc)) ],
              refl,
              holds,
            ),
          ),
        )))))
    to_list (Claim who) claimed =
        late (Claim who) ((claims (rooted (Claim who) cell)).1 (inr (who, refl, claimed, reads.parts.claimed who cell claimed)))
    to_list (Strong handle) holds =
        (handles (rooted (Strong handle) cell)).1 (inr (handle, elim (cases_lt handle layout.strong) [ inl below ↦ below | inr past ↦ (let none = reads.roots.past_strong handle past in absurd (cc)) ], refl, holds))
