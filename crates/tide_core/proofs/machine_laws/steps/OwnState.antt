-- A mutator's registers and claims, and whether it is active, follow from its own calls alone.
use Rattle.std.proofs.Common.{ℕ, ◌≡◌, ◌≢◌, ◌==◌, refl, sym, ◌∙◌, ap, subst, Bool, true, false, List, [], ◌∷◌, ◌++◌, drop}
use Rattle.std.proofs.lemmas.Bool.{eq-eqb, ne_eqb, eqb-true}
use Rattle.std.specs.Prelude.{if◌then◌else◌, filter, not, Option, Some, None}
use Rattle.tide_core.specs.machine.Own.{Own, own_of}
use Rattle.tide_model.specs.Applied.{after_call, put_register, put_slot, put_cell, put_claims, put_pair, put_property, add_property, at_cell}
use Rattle.tide_model.specs.History.{after_event, state_from, state_after, is_call_of, after_entry}
use Rattle.tide_model.specs.Layout.{Layout}
use Rattle.tide_model.specs.Numbers.{put_at}
use Rattle.tide_model.specs.State.{State, empty_state, blank_cell, live}
use Rattle.tide_model.specs.declared.entry.Entry.{Entry}
use Rattle.tide_model.specs.declared.entry.Entry.TheVariants as entry
use Rattle.tide_model.specs.declared.entry.Event.{Event}
use Rattle.tide_model.specs.declared.op.Op.{Op}
use Rattle.tide_model.specs.declared.op.Op.TheVariants.{Alloc, Table, Get, Put, Move, Set, Drop, Claim, Release, Unclaim, Add, GetProp, SetProp, StrongSet, StrongGet, WeakSet, WeakGet, PairSet, PairGet, PairDel, Group, Retire}
use Rattle.tide_model.specs.declared.op.Reply.{Reply}
use Rattle.tide_model.specs.declared.op.Reply.TheVariants.{Done, Born, Seen}
use Rattle.tide_model.specs.declared.val.Val.{Val}
use Rattle.tide_model.specs.declared.val.Val.TheVariants.{Empty, Int, Cell}

abbrev own_register : Own → ℕ → Val → Own
own_register o register value = record o { registers = put_at o.registers register value }

abbrev own_claims : Own → Val → (ℕ → List ℕ) → Own
own_claims o (Cell cell) change = record o { claims = change cell }
own_claims o Empty change = o
own_claims o (Int n) change = o

-- what is a mutator's own after a call of its
abbrev pub own_after : Own → Op → Reply → Own
own_after o (Alloc dst class) (Born cell) = own_register o dst (Cell cell)
own_after o (Table dst) (Born cell) = own_register o dst (Cell cell)
own_after o (Get dst src slot) (Seen value) = own_register o dst value
own_after o (Move dst src) Done = own_register o dst (o.registers src)
own_after o (Set dst n) Done = own_register o dst (Int n)
own_after o (Drop dst) Done = own_register o dst Empty
own_after o (Claim src) Done = own_claims o (o.registers src) (λ cell. o.claims ++ cell ∷ [])
own_after o (Release src) Done =
    own_claims o (o.registers src) (λ cell. filter (λ claimed. not (claimed == cell)) o.claims)
own_after o Unclaim Done = record o { claims = drop 1 o.claims }
own_after o (GetProp dst src key) (Seen value) = own_register o dst value
own_after o (StrongGet dst at) (Seen value) = own_register o dst value
own_after o (WeakGet dst at) (Seen value) = own_register o dst value
own_after o (PairGet dst src key) (Seen value) = own_register o dst value
own_after o Retire Done = record o { active = false }
own_after o op reply = o

-- the place of a function that was put, and another one
put_same : {X : Type 0} (f : ℕ → X) (p : ℕ) (x : X) → put_at f p x p ≡ x
put_same f p x = ap (λ (b : Bool). if b then x else f p) (eq-eqb p p refl)

put_other : {X : Type 0} (f : ℕ → X) (p q : ℕ) (x : X) → p ≢ q → put_at f q x p ≡ f p
put_other f p q x apart = ap (λ (b : Bool). if b then x else f p) (ne_eqb p q apart)

-- what becomes of what is a mutator's own
at_register : (p : ℕ) (s : State) (register : ℕ) (value : Val) →
    own_of p (put_register s p register value) ≡ own_register (own_of p s) register value
at_register p s register value =
    ap (λ (f : ℕ → Val). record { registers = f; claims = s.claims p; active = s.active p })
    (put_same s.registers p (put_at (s.registers p) register value))

same_cell : (p : ℕ) (s : State) (value : Val) (change : ℕ → State) →
    ((cell : ℕ) → own_of p (change cell) ≡ own_of p s) → own_of p (at_cell s value change) ≡ own_of p s
same_cell p s (Cell cell) change same = same cell
same_cell p s Empty change same = refl
same_cell p s (Int n) change same = refl

same_slot : (p : ℕ) (s : State) (source : Val) (slot : ℕ) (value : Val) →
    own_of p (put_slot s source slot value) ≡ own_of p s
same_slot p s (Cell cell) slot value = refl
same_slot p s Empty slot value = refl
same_slot p s (Int n) slot value = refl

at_claims : (p : ℕ) (s : State) (value : Val) (change : ℕ → List ℕ) →
    own_of p (at_cell s value (λ cell. put_claims s p (change cell))) ≡ own_claims (own_of p s) value change
at_claims p s (Cell cell) change =
    ap (λ (l : List ℕ). record { registers = s.registers p; claims = l; active = s.active p })
    (put_same s.claims p (change cell))
at_claims p s Empty change = refl
at_claims p s (Int n) change = refl

-- a call of its own
pub own_call : (p : ℕ) (s : State) (op : Op) (reply : Reply) (took : Option ℕ) →
    own_of p (after_call s p op reply took) ≡ own_after (own_of p s) op reply
own_call p s (Alloc dst class) (Born cell) took = at_register p (put_cell s cell (blank_cell live)) dst (Cell cell)
own_call p s (Table dst) (Born cell) took = at_register p (put_cell s cell (blank_cell live)) dst (Cell cell)
own_call p s (Get dst src slot) (Seen value) took = at_register p s dst value
own_call p s (Put src slot val) Done took = same_slot p s (s.registers p src) slot (s.registers p val)
own_call p s (Move dst src) Done took = at_register p s dst (s.registers p src)
own_call p s (Set dst n) Done took = at_register p s dst (Int n)
own_call p s (Drop dst) Done took = at_register p s dst Empty
own_call p s (Claim src) Done took = at_claims p s (s.registers p src) (λ cell. s.claims p ++ cell ∷ [])
own_call p s (Release src) Done took =
    at_claims p s (s.registers p src) (λ cell. filter (λ claimed. not (claimed == cell)) (s.claims p))
own_call p s Unclaim Done took =
    ap (λ (l : List ℕ). record { registers = s.registers p; claims = l; active = s.active p })
    (put_same s.claims p (drop 1 (s.claims p)))
own_call p s (Add src key val) Done took =
    same_cell p s (s.registers p src) (λ cell. add_property s cell key (s.registers p val) took) (λ cell. refl)
own_call p s (GetProp dst src key) (Seen value) took = at_register p s dst value
own_call p s (SetProp src key val) Done took =
    same_cell p s (s.registers p src) (λ cell. put_property s cell key (s.registers p val)) (λ cell. refl)
own_call p s (StrongSet at val) Done took = refl
own_call p s (StrongGet dst at) (Seen value) took = at_register p s dst value
own_call p s (WeakSet at val) Done took = refl
own_call p s (WeakGet dst at) (Seen value) took = at_register p s dst value
own_call p s (PairSet src key val) Done took =
    same_cell p s (s.registers p src) (λ table.
    at_cell s (s.registers p key) (λ cell. put_pair s table cell (Some (s.registers p val)))) (λ table.
    same_cell p s (s.registers p key) (λ cell. put_pair s table cell (Some (s.registers p val))) (λ cell. refl))
own_call p s (PairGet dst src key) (Seen value) took = at_register p s dst value
own_call p s (PairDel src key) Done took =
    same_cell p s (s.registers p src) (λ table. at_cell s (s.registers p key) (λ cell. put_pair s table cell None))
    (λ table. same_cell p s (s.registers p key) (λ cell. put_pair s table cell None) (λ cell. refl))
own_call p s (Group src n) Done took =
    same_cell p s (s.registers p src) (λ cell. put_cell s cell (record (s.cells cell) { group = n })) (λ cell. refl)
own_call p s Retire Done took = ap (λ (b : Bool). record { registers = s.registers p; claims = s.claims p; active = b })
    (put_same s.active p false)
own_call p s op reply took = refl

-- another's call leaves it
other_register : (p who : ℕ) (s : State) (register : ℕ) (value : Val) → p ≢ who →
    own_of p (put_register s who register value) ≡ own_of p s
other_register p who s register value apart =
    ap (λ (f : ℕ → Val). record { registers = f; claims = s.claims p; active = s.active p })
    (put_other s.registers p who (put_at (s.registers who) register value) apart)

other_claims : (p who : ℕ) (s : State) (value : Val) (change : ℕ → List ℕ) → p ≢ who →
    own_of p (at_cell s value (λ cell. put_claims s who (change cell))) ≡ own_of p s
other_claims p who s value change apart = same_cell p s value (λ cell. put_claims s who (change cell))
    (λ cell. ap (λ (l : List ℕ). record { registers = s.registers p; claims = l; active = s.active p })
    (put_other s.claims p who (change cell) apart))

pub other_call : (p who : ℕ) (s : State) (op : Op) (reply : Reply) (took : Option ℕ) → p ≢ who →
    own_of p (after_call s who op reply took) ≡ own_of p s
other_call p who s (Alloc dst class) (Born cell) took apart =
    other_register p who (put_cell s cell (blank_cell live)) dst (Cell cell) apart
other_call p who s (Table dst) (Born cell) took apart = other_register p who (put_cell s cell (blank_cell live)) dst
    (Cell cell) apart
other_call p who s (Get dst src slot) (Seen value) took apart = other_register p who s dst value apart
other_call p who s (Put src slot val) Done took apart = same_slot p s (s.registers who src) slot (s.registers who val)
other_call p who s (Move dst src) Done took apart = other_register p who s dst (s.registers who src) apart
other_call p who s (Set dst n) Done took apart = other_register p who s dst (Int n) apart
other_call p who s (Drop dst) Done took apart = other_register p who s dst Empty apart
other_call p who s (Claim src) Done took apart = other_claims p who s (s.registers who src) (λ cell.
    s.claims who ++ cell ∷ []) apart
other_call p who s (Release src) Done took apart = other_claims p who s (s.registers who src) (λ cell.
    filter (λ claimed. not (claimed == cell)) (s.claims who)) apart
other_call p who s Unclaim Done took apart =
    ap (λ (l : List ℕ). record { registers = s.registers p; claims = l; active = s.active p })
    (put_other s.claims p who (drop 1 (s.claims who)) apart)
other_call p who s (Add src key val) Done took apart =
    same_cell p s (s.registers who src) (λ cell. add_property s cell key (s.registers who val) took) (λ cell. refl)
other_call p who s (GetProp dst src key) (Seen value) took apart = other_register p who s dst value apart
other_call p who s (SetProp src key val) Done took apart =
    same_cell p s (s.registers who src) (λ cell. put_property s cell key (s.registers who val)) (λ cell. refl)
other_call p who s (StrongSet at val) Done took apart = refl
other_call p who s (WeakSet at val) Done took apart = refl
other_call p who s (StrongGet dst at) (Seen value) took apart = other_register p who s dst value apart
other_call p who s (WeakGet dst at) (Seen value) took apart = other_register p who s dst value apart
other_call p who s (PairSet src key val) Done took apart =
    same_cell p s (s.registers who src) (λ table.
    at_cell s (s.registers who key) (λ cell. put_pair s table cell (Some (s.registers who val)))) (λ table.
    same_cell p s (s.registers who key) (λ cell. put_pair s table cell (Some (s.registers who val))) (λ cell. refl))
other_call p who s (PairGet dst src key) (Seen value) took apart = other_register p who s dst value apart
other_call p who s (PairDel src key) Done took apart =
    same_cell p s (s.registers who src) (λ table. at_cell s (s.registers who key) (λ cell. put_pair s table cell None))
    (λ table. same_cell p s (s.registers who key) (λ cell. put_pair s table cell None) (λ cell. refl))
other_call p who s (Group src n) Done took apart =
    same_cell p s (s.registers who src) (λ cell. put_cell s cell (record (s.cells cell) { group = n })) (λ cell. refl)
other_call p who s Retire Done took apart =
    ap (λ (b : Bool). record { registers = s.registers p; claims = s.claims p; active = b })
    (put_other s.active p who false apart)
other_call p who s op reply took apart = refl

-- an event of another, or of the collector, leaves what is a mutator's own
other_event : (layout : Layout) (p : ℕ) (s : State) (event : Event) (e : Entry) → event.entry ≡ e →
    is_call_of p e ≡ false → own_of p (after_entry layout s e event.took) ≡ own_of p s
other_event layout p s event (entry.Call who op reply) is fails =
    other_call p who s op reply event.took (λ same. (let test = eq-eqb who p (sym same) in absurd (cc)))
other_event layout p s event (entry.Begin cycle full) is fails = refl
other_event layout p s event (entry.Pause visits) is fails = refl
other_event layout p s event (entry.Visits who visits) is fails = refl
other_event layout p s event (entry.End cycle freed) is fails = refl
other_event layout p s event (entry.Taken block) is fails = refl
other_event layout p s event (entry.Sweep block) is fails = refl
other_event layout p s event (entry.Open number run) is fails = refl

-- one's own event does to what is one's own the same in each state
own_event : (layout : Layout) (p : ℕ) (s t : State) (event : Event) (e : Entry) → is_call_of p e ≡ true →
    own_of p s ≡ own_of p t →
    own_of p (after_entry layout s e event.took) ≡ own_of p (after_entry layout t e event.took)
own_event layout p s t event (entry.Call who op reply) is same =
    subst (λ (w : ℕ). own_of p (after_call s w op reply event.took) ≡ own_of p (after_call t w op reply event.took))
    (sym (eqb-true who p is))
    (own_call p s op reply event.took ∙ ap (λ (o : Own). own_after o op reply) same ∙
    sym (own_call p t op reply event.took))
own_event layout p s t event (entry.Begin cycle full) is same = absurd (cc)
own_event layout p s t event (entry.Pause visits) is same = absurd (cc)
own_event layout p s t event (entry.Visits who visits) is same = absurd (cc)
own_event layout p s t event (entry.End cycle freed) is same = absurd (cc)
own_event layout p s t event (entry.Taken block) is same = absurd (cc)
own_event layout p s t event (entry.Sweep block) is same = absurd (cc)
own_event layout p s t event (entry.Open number run) is same = absurd (cc)

own_from : (layout : Layout) (p : ℕ) (s t : State) (log : List Event) → own_of p s ≡ own_of p t →
    own_of p (state_from layout s log) ≡ own_of p (state_from layout t (filter (λ event. is_call_of p event.entry) log))
own_from layout p s t [] same = same
own_from layout p s t (event ∷ log) same =
    by_test (λ s t same. own_from layout p s t log same) (is_call_of p event.entry) refl
  where
    by_test : ((s t : State) → own_of p s ≡ own_of p t →
        own_of p (state_from layout s log) ≡ own_of p
        (state_from layout t (filter (λ event. is_call_of p event.entry) log))) → (b : Bool) →
        is_call_of p event.entry ≡ b → own_of p (state_from layout (after_event layout s event) log) ≡ own_of p
        (state_from layout t (if b then event ∷ filter (λ event. is_call_of p event.entry) log else filter (λ event.
        is_call_of p event.entry) log))
    by_test later true mine = later (after_event layout s event) (after_event layout t event)
        (own_event layout p s t event event.entry mine same)
    by_test later false fails = later (after_event layout s event) t
        (other_event layout p s event event.entry refl fails ∙ same)

-- what is a mutator's own in a state, it is in the state after its own calls alone
pub own_state : (layout : Layout) (p : ℕ) (log : List Event) →
    own_of p (state_after layout log) ≡ own_of p (state_after layout (filter (λ event. is_call_of p event.entry) log))
own_state layout p log = own_from layout p empty_state empty_state log refl
