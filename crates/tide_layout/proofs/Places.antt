-- Each word has a place of its own: below the number of words, shared with no other, and apart from those of other
-- owners.
use Rattle.std.proofs.Common.{ℕ, zero, suc, ◌≡◌, ◌+◌, ◌*◌, ◌/◌, ◌<◌, ◌≤◌, refl, sym, ◌∙◌, ap, subst, arith, false, length, get_or, take, inl, inr, sum_by}
use Rattle.std.proofs.lemmas.Bool.{and_from, and_left, and_right, cases_eq, cases_order, eq-eqb, eqb-false, ne_eqb}
use Rattle.std.proofs.lemmas.List.{get_or-take, length-take, take-take}
use Rattle.std.proofs.lemmas.List.Sums.{sum_by_more_le}
use Rattle.std.proofs.lemmas.Nat.{div_below, le-div}
use Rattle.std.proofs.Math.Nat.{div-mul-le_self, div-zero, le_trans}
use Rattle.std.specs.Prelude.{◌≢◌, ◌==◌, ◌&&◌, ◌⊎◌, None, Some, unwrap_or}
use Rattle.tide_model.specs.Layout.{Layout}
use Rattle.tide_layout.specs.declared.region.Region.{Region}
use Rattle.tide_layout.specs.declared.region.Region.TheVariants.{Period, Phase, Base, Active, Call, Stopped, Registers, Strong, Weak, Colour, Structure, Array, Claim, Group, Slots, Elements, Free, Dead, GreyShared, GreyMutator, GreyRace, Swept}
use Rattle.tide_layout.specs.Region.{regions, tag, size_of, owner_of, owners_in, gap, gaps_before, room_of, base_of, word_count, place_in, AreApart}

-- a region stands at its tag among all regions
pub get_or-regions : (region : Region) → get_or regions (tag region) Period ≡ region
get_or-regions Period = refl
get_or-regions Phase = refl
get_or-regions Base = refl
get_or-regions Active = refl
get_or-regions Call = refl
get_or-regions Stopped = refl
get_or-regions Registers = refl
get_or-regions Strong = refl
get_or-regions Weak = refl
get_or-regions Colour = refl
get_or-regions Structure = refl
get_or-regions Array = refl
get_or-regions Claim = refl
get_or-regions Group = refl
get_or-regions Slots = refl
get_or-regions Elements = refl
get_or-regions Free = refl
get_or-regions Dead = refl
get_or-regions GreyShared = refl
get_or-regions GreyMutator = refl
get_or-regions GreyRace = refl
get_or-regions Swept = refl

-- there are 22 regions
pub tag-below : (region : Region) → tag region < 22
tag-below Period = omega arith
tag-below Phase = omega arith
tag-below Base = omega arith
tag-below Active = omega arith
tag-below Call = omega arith
tag-below Stopped = omega arith
tag-below Registers = omega arith
tag-below Strong = omega arith
tag-below Weak = omega arith
tag-below Colour = omega arith
tag-below Structure = omega arith
tag-below Array = omega arith
tag-below Claim = omega arith
tag-below Group = omega arith
tag-below Slots = omega arith
tag-below Elements = omega arith
tag-below Free = omega arith
tag-below Dead = omega arith
tag-below GreyShared = omega arith
tag-below GreyMutator = omega arith
tag-below GreyRace = omega arith
tag-below Swept = omega arith

-- two regions of one tag are one region
pub tag-injective : (one other : Region) → tag one ≡ tag other → one ≡ other
tag-injective one other same =
    sym (get_or-regions one) ∙ ap (λ (t : ℕ). get_or regions t Period) same ∙ get_or-regions other

-- whose a word is, by the number of its owner
numbered : (one later : ℕ) → one ≤ later → (Some one ≡ Some later) ⊎ (one < later)
numbered one later before = elim (cases_eq one later) [
  | inl same ↦ inl (ap Some same)
  | inr apart ↦ inr (omega (arith, before, apart))
]

-- an item of rows is in one of them
row_before : (width index rows : ℕ) → index < rows * width → index / width ≤ rows
row_before zero index rows within = (let none = div-zero index in omega (arith, none))
row_before (suc width) index rows within = (let below = div_below index (suc width) rows (omega arith) within in omega (arith, below))

-- a part of a larger number isn't larger, whatever the parts
div-le : (one later parts : ℕ) → one ≤ later → one / parts ≤ later / parts
div-le one later zero before = (let none = div-zero one in omega (arith, none))
div-le one later (suc parts) before = le-div (one / suc parts) later (suc parts) (omega arith) (le_trans (div-mul-le_self one (suc parts)) before)

-- a later word of a region has the same owner or a later one
pub owner_of-later : (layout : Layout) (region : Region) (one later : ℕ) → one ≤ later →
    (owner_of layout region one ≡ owner_of layout region later) ⊎ (gaps_before layout region one < gaps_before layout region later)
owner_of-later layout Active one later before = numbered one later before
owner_of-later layout Call one later before = numbered one later before
owner_of-later layout Stopped one later before = numbered one later before
owner_of-later layout Registers one later before = numbered (one / layout.registers) (later / layout.registers) (div-le one later layout.registers before)
owner_of-later layout Period one later before = inl refl
owner_of-later layout Phase one later before = inl refl
owner_of-later layout Base one later before = inl refl
owner_of-later layout Strong one later before = inl refl
owner_of-later layout Weak one later before = inl refl
owner_of-later layout Colour one later before = inl refl
owner_of-later layout Structure one later before = inl refl
owner_of-later layout Array one later before = inl refl
owner_of-later layout Claim one later before = inl refl
owner_of-later layout Group one later before = inl refl
owner_of-later layout Slots one later before = inl refl
owner_of-later layout Elements one later before = inl refl
owner_of-later layout Free one later before = inl refl
owner_of-later layout Dead one later before = inl refl
owner_of-later layout GreyShared one later before = inl refl
owner_of-later layout GreyMutator one later before = inl refl
owner_of-later layout GreyRace one later before = inl refl
owner_of-later layout Swept one later before = inl refl

-- a word has at most as many gaps before it as there are owners
pub gaps_before-few : (layout : Layout) (region : Region) (index : ℕ) → index < size_of layout region → gaps_before layout region index ≤ owners_in layout region
gaps_before-few layout Active index within = omega (arith, within)
gaps_before-few layout Call index within = omega (arith, within)
gaps_before-few layout Stopped index within = omega (arith, within)
gaps_before-few layout Registers index within = row_before layout.registers index layout.mutators within
gaps_before-few layout Period index within = omega arith
gaps_before-few layout Phase index within = omega arith
gaps_before-few layout Base index within = omega arith
gaps_before-few layout Strong index within = omega arith
gaps_before-few layout Weak index within = omega arith
gaps_before-few layout Colour index within = omega arith
gaps_before-few layout Structure index within = omega arith
gaps_before-few layout Array index within = omega arith
gaps_before-few layout Claim index within = omega arith
gaps_before-few layout Group index within = omega arith
gaps_before-few layout Slots index within = omega arith
gaps_before-few layout Elements index within = omega arith
gaps_before-few layout Free index within = omega arith
gaps_before-few layout Dead index within = omega arith
gaps_before-few layout GreyShared index within = omega arith
gaps_before-few layout GreyMutator index within = omega arith
gaps_before-few layout GreyRace index within = omega arith
gaps_before-few layout Swept index within = omega arith

-- so does a later word lie later
place_in-later : (layout : Layout) (region : Region) (one later : ℕ) → one < later → place_in layout region one < place_in layout region later
unfolding place_in
place_in-later layout region one later before = elim (owner_of-later layout region one later (omega (arith, before))) [
  | inl same ↦ (let gaps : gaps_before layout region one ≡ gaps_before layout region later = ap (λ owner. unwrap_or owner 0) same in omega (arith, before, gaps))
  | inr more ↦ omega (arith, before, more)
]

-- a region takes its room by the end of the words
pub base_of-end : (layout : Layout) (region : Region) → base_of layout region + room_of layout region ≤ word_count layout
unfolding base_of word_count
base_of-end layout region =
    let within = sum_by_more_le (room_of layout) regions (tag region) Period (tag-below region) in
    subst (λ (r : Region). sum_by (room_of layout) (take (tag region) regions) + room_of layout r ≤ sum_by (room_of layout) regions)
    (get_or-regions region) within

-- and by the start of each later one
pub base_of-later : (layout : Layout) (one later : Region) → tag one < tag later → base_of layout one + room_of layout one ≤ base_of layout later
unfolding base_of
base_of-later layout one later before =
    let below : tag later < 22 = tag-below later in
    let front = take (tag later) regions in
    let inside : tag one < length front = omega (arith, length-take (tag later) regions) in
    let within = sum_by_more_le (room_of layout) front (tag one) Period inside in
    let shorter = take-take (tag one) (tag later) regions (omega arith) in
    let same : get_or front (tag one) Period ≡ one = get_or-take (tag later) regions (tag one) Period before ∙ get_or-regions one in
    let at_front : sum_by (room_of layout) (take (tag one) front) ≡ sum_by (room_of layout) (take (tag one) regions) = ap (sum_by (room_of layout)) shorter in
    let at_one : room_of layout (get_or front (tag one) Period) ≡ room_of layout one = ap (room_of layout) same in
    omega (arith, within, at_front, at_one)

-- the place of a word, as a region's start, an index and gaps
pub place_in-is : (layout : Layout) (region : Region) (index : ℕ) →
    place_in layout region index ≡ base_of layout region + index + gap * gaps_before layout region index
unfolding place_in
place_in-is layout region index = refl

-- no gap lies before a word that is nobody's own
pub place_in-shared : (layout : Layout) (region : Region) (index : ℕ) → owner_of layout region index ≡ None →
    place_in layout region index ≡ base_of layout region + index
unfolding place_in
place_in-shared layout region index shared =
    let none : gaps_before layout region index ≡ 0 = ap (λ owner. unwrap_or owner 0) shared in
    omega (arith, none)

-- a gap lies between a word and the end of its region's room
place_in-inside : (layout : Layout) (region : Region) (index : ℕ) → index < size_of layout region →
    place_in layout region index + gap < base_of layout region + room_of layout region
unfolding place_in
place_in-inside layout region index within = let few = gaps_before-few layout region index within in omega (arith, few, within)

-- a region's start is by the place of each of its words
place_in-behind : (layout : Layout) (region : Region) (index : ℕ) → base_of layout region ≤ place_in layout region index
unfolding place_in
place_in-behind layout region index = omega arith

-- each word's place is below the number of words
pub place_in-below : (layout : Layout) (region : Region) (index : ℕ) → index < size_of layout region → place_in layout region index < word_count layout
place_in-below layout region index within =
    let ends = base_of-end layout region in
    let inside = place_in-inside layout region index within in
    omega (arith, ends, inside)

-- a gap lies between a word of a region and each of a later one
place_in-later_region : (layout : Layout) (one later : Region) (index at : ℕ) → tag one < tag later → index < size_of layout one →
    place_in layout one index + gap < place_in layout later at
place_in-later_region layout one later index at before within =
    let inside = place_in-inside layout one index within in
    let ends = base_of-later layout one later before in
    let begins = place_in-behind layout later at in
    omega (arith, inside, ends, begins)

-- words of different regions lie apart
pub place_in-regions_apart : (layout : Layout) (one other : Region) (index at : ℕ) → tag one ≢ tag other →
    index < size_of layout one → at < size_of layout other → AreApart (place_in layout one index) (place_in layout other at)
place_in-regions_apart layout one other index at apart in_one in_other = elim (cases_order (tag one) (tag other)) [
  | inl equal ↦ absurd (apart equal)
  | inr ordered ↦ elim ordered [
    | inl before ↦ inl (let later = place_in-later_region layout one other index at before in_one in omega (arith, later))
    | inr after ↦ inr (let later = place_in-later_region layout other one at index after in_other in omega (arith, later))
  ]
]

-- so they have different places
pub place_in-other_region : (layout : Layout) (one other : Region) (index at : ℕ) → (tag one == tag other) ≡ false →
    index < size_of layout one → at < size_of layout other → place_in layout one index ≡ place_in layout other at → ⊥
place_in-other_region layout one other index at apart in_one in_other same =
    elim (place_in-regions_apart layout one other index at (eqb-false (tag one) (tag other) apart) in_one in_other) [
      | inl before ↦ absurd (omega (arith, before, same))
      | inr after ↦ absurd (omega (arith, after, same))
    ]

-- words of different indices have different places
pub place_in-other_index : (layout : Layout) (region : Region) (index at : ℕ) → place_in layout region index ≡ place_in layout region at → index ≡ at
place_in-other_index layout region index at same = elim (cases_order index at) [
  | inl equal ↦ equal
  | inr ordered ↦ elim ordered [
    | inl before ↦ (let later = place_in-later layout region index at before in absurd (omega (arith, later, same)))
    | inr after ↦ (let later = place_in-later layout region at index after in absurd (omega (arith, later, same)))
  ]
]

-- words of one region that have different owners lie apart, the earlier one first
owners_apart : (layout : Layout) (region : Region) (one later : ℕ) → one ≤ later → owner_of layout region one ≢ owner_of layout region later →
    place_in layout region one + 8 ≤ place_in layout region later
unfolding place_in
owners_apart layout region one later before apart = elim (owner_of-later layout region one later before) [
  | inl same ↦ absurd (apart same)
  | inr more ↦ omega (arith, before, more)
]

-- words of different owners lie apart, in whatever regions
pub place_in-owners_apart : (layout : Layout) (one other : Region) (index at : ℕ) → index < size_of layout one → at < size_of layout other →
    owner_of layout one index ≢ owner_of layout other at → AreApart (place_in layout one index) (place_in layout other at)
place_in-owners_apart layout one other index at in_one in_other apart = elim (cases_eq (tag one) (tag other)) [
  | inr regions_apart ↦ place_in-regions_apart layout one other index at regions_apart in_one in_other
  | inl equal ↦
      let is_one : other ≡ one = sym (tag-injective one other equal) in
      subst (λ (r : Region). AreApart (place_in layout one index) (place_in layout r at)) (sym is_one)
      (let owners : owner_of layout one index ≢ owner_of layout one at =
      subst (λ (r : Region). owner_of layout one index ≢ owner_of layout r at) is_one apart in
      elim (cases_order index at) [
        | inl same ↦ absurd (owners (ap (owner_of layout one) same))
        | inr ordered ↦ elim ordered [
          | inl before ↦ inl (owners_apart layout one index at (omega (arith, before)) owners)
          | inr after ↦ inr (owners_apart layout one at index (omega (arith, after)) (λ same. owners (sym same)))
        ]
      ])
]

-- no two words share a place
pub place_in-alone : (layout : Layout) (one other : Region) (index at : ℕ) → index < size_of layout one → at < size_of layout other →
    place_in layout other at ≡ place_in layout one index → (other ≡ one) × (at ≡ index)
place_in-alone layout one other index at in_one in_other same = elim (cases_eq (tag other) (tag one)) [
  | inl equal ↦
      let is_one : other ≡ one = tag-injective other one equal in
      (is_one, place_in-other_index layout one at index (ap (λ (r : Region). place_in layout r at) (sym is_one) ∙ same))
  | inr apart ↦ absurd (place_in-other_region layout other one at index (ne_eqb (tag other) (tag one) apart) in_other in_one same)
]

-- two places are equal exactly where region and index are
pub place_in-equal : (layout : Layout) (one other : Region) (index at : ℕ) → index < size_of layout one → at < size_of layout other →
    (place_in layout one index == place_in layout other at) ≡ ((tag one == tag other) && (index == at))
place_in-equal layout one other index at in_one in_other = elim (cases_eq (tag one) (tag other)) [
  | inl regions_same ↦
      let is_one : one ≡ other = tag-injective one other regions_same in
      let same_tag = eq-eqb (tag one) (tag other) regions_same in
      elim (cases_eq index at) [
        | inl same ↦
            eq-eqb (place_in layout one index) (place_in layout other at) (ap (λ (r : Region). place_in layout r index) is_one ∙ ap (place_in layout other) same)
            ∙ sym (and_from (tag one == tag other) (index == at) same_tag (eq-eqb index at same))
        | inr apart ↦
            ne_eqb (place_in layout one index) (place_in layout other at)
            (λ equal. apart (place_in-other_index layout other index at (ap (λ (r : Region). place_in layout r index) (sym is_one) ∙ equal)))
            ∙ sym (and_right (tag one == tag other) (index == at) (ne_eqb index at apart))
      ]
  | inr apart ↦
      ne_eqb (place_in layout one index) (place_in layout other at)
      (place_in-other_region layout one other index at (ne_eqb (tag one) (tag other) apart) in_one in_other)
      ∙ sym (and_left (tag one == tag other) (index == at) (ne_eqb (tag one) (tag other) apart))
]
