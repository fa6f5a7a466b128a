-- A block by value: in the machine the allocator's handle and an address, and beside them what a box owns there.
use Rattle.std.proofs.Common.{◌≡◌, ◌&&◌, ℕ, List, [], ◌∷◌, ◌++◌, ap, refl, true, ◌∙◌}
use Rattle.std.proofs.ResultValues.{and_tt}
use Rattle.std.proofs.alloc.Calls.{Al, handle_tells}
use Rattle.std.proofs.cell.Inside.{Good}
use Rattle.std.specs.Box.Ownership.{box_owns}
use Rattle.std.specs.declared.alloc.Allocator.{Ghosts}
use Rattle.tide_c.specs.contracts.block.Block as block
use base.Fml.{Fml}
use base.Logic.{fst∗, never}
use denote.Builtin.{RawPtr}
use denote.Memory.{lone}
use denote.Param.{layout}
use denote.Param.Laws.{Laws}
use denote.RattleType.{RattleType, Valss}
use denote.RawPtr.{Ptr, block_ptr, in_a_block, null_ptr, ptr_val}
use denote.Steps.{nothing, only}
use denote.Struct.Owning.{shape}
use denote.Struct.Struct.{within}
use denote.Struct.Tuple.{Tuple}
use lib.Dec.{T}
use mir.Raw.{raw as bare}
use mir.Syntax.{dnil, impl, tnil}
use mir.Val.{Val, WT, has_ty, of_list, vcons, vnil, vptr, vstruct}
use seplogic.Ra.Ura.{Ura}
use types.Kit.{Goal, Item, Seq, Step, step, ‵, ◌$◌, drop, feq_i, feq_l, fjoin, fpack, fpick, fsplit, move, rewrite}
use types.Logic.{Logic, sem}

-- two words side by side: a block's, or a pair's
abbrev pub pair : Val → Val → Val
pair v w = vstruct (vcons v (vcons w vnil))

module _ (R Z : RattleType) (L : Laws Z) (g : Ghosts Z.Denot) where
  abbrev pub Row : RattleType
  Row = block.the_row R Z g

  -- the allocator, for the steps that read its handle alone
  abbrev handles : Al
  handles = record { row = Z; laws = L; g = g; d = impl [] tnil dnil; drops = impl [] tnil dnil }

  -- what a box owns at this place, by this handle
  abbrev pub Held : Z.Denot → Ptr → R.Denot → Fml
  Held a p x = box_owns (g.dealloc_token a) R p x

  abbrev pub FitsHandle : Val → Type 0
  FitsHandle h = Good (layout Z) h

  pub is_typed : (b o : ℕ) (h : Val) → FitsHandle h → T (has_ty (layout Z) h && true) × WT (pair h (vptr b o))
  is_typed b o h fits = (and_tt (has_ty (layout Z) h) fits.0, (fits.1, (tt, tt)))

  pub is_typed_pair : (b o : ℕ) (h : Val) → FitsHandle h → T (has_ty (layout Z) h && true) × WT (pair (vptr b o) h)
  is_typed_pair b o h fits = (and_tt (has_ty (layout Z) h) fits.0, (tt, (fits.1, tt)))

  module _ {M : Type 1} {𝓤 : Ura M} {𝓛 : Logic 𝓤} {K : Type 0} {Γ : List (Item 𝓤)} {G : Goal 𝓤 𝓛.H} where
    -- nothing lies at null
    pub lies_somewhere : K → (a : Z.Denot) (p : Ptr) (x : R.Denot)
        → ((b o : ℕ) → p ≡ block_ptr b o → Seq K 𝓛 (‵ (Held a (block_ptr b o) x) ∷ Γ) G) → Seq K 𝓛 (‵ (Held a p x) ∷ Γ) G
    lies_somewhere t a p x = in_a_block t p (λ q. Held a q x) (fst∗ 𝓤 (never 𝓤) (sem 𝓛 (g.dealloc_token a (bare (lone R.mir)) null_ptr)))

  module _ {M : Type 1} {𝓤 : Ura M} {𝓛 : Logic 𝓤} {K : Type 0} {Γ : List (Item 𝓤)} {G : Goal 𝓤 𝓛.H} where
    pub block_apart : K → (d : Row.Denot) (vs : List Val)
        → ((b o : ℕ) (h : Val) → d.start ≡ block_ptr b o → vs ≡ pair h (vptr b o) ∷ [] → FitsHandle h
        → Seq K 𝓛 (‵ (Held d.alloc (block_ptr b o) d.value) ∷ ‵ (Z.own_val d.alloc (h ∷ [])) ∷ Γ) G)
        → Seq K 𝓛 (‵ (Row.own_val d vs) ∷ Γ) G
    block_apart t d vs k =
        fsplit t $ fpick t (λ words. fsplit t $ feq_l t (λ is_struct. fsplit t $
        handle_tells handles t d.alloc words.0 (λ h is_handle fits.
        -- [the handle; the address; what the box owned]
        move t (1 ∷ []) $ fsplit t $ feq_l t (λ is_start. drop t $ move t (1 ∷ []) $
        lies_somewhere t d.alloc d.start d.value (λ b o at. k b o h at
        (is_struct ∙ (λ j. vstruct (of_list (is_handle j ++ (is_start j ++ []))) ∷ []) ∙ (λ j. pair h (ptr_val (at j)) ∷ []))
        fits)))))

    pub block_whole : K → (b o : ℕ) (h : Val) (a : Z.Denot) (x : R.Denot)
        → Step K 𝓛 (‵ (Row.own_val (record { alloc = a; start = block_ptr b o; value = x }) (pair h (vptr b o) ∷ [])) ∷ Γ) G
        (‵ (Held a (block_ptr b o) x) ∷ ‵ (Z.own_val a (h ∷ [])) ∷ Γ) G
    block_whole t b o h a x = step (λ go.
        nothing t $ feq_i t (List Val) (vptr b o ∷ []) (vptr b o ∷ []) refl $ fjoin t $ move t (2 ∷ 0 ∷ []) $ fjoin t $
        feq_i t (List Val) (pair h (vptr b o) ∷ []) (pair h (vptr b o) ∷ []) refl $ fjoin t $
        fpack t (Valss (Z ∷ RawPtr ∷ [])) (within (shape (block.the_type R Z g)) (a, (block_ptr b o, tt)) (pair h (vptr b o) ∷ []))
        (h ∷ [], (vptr b o ∷ [], tt)) $ fjoin t $ go)

    -- what the call that takes a box apart answers
    pub pair_apart : K → (r : Ptr × Z.Denot) (u : Val) (a : Z.Denot) → r.1 ≡ a
        → ((h : Val) → u ≡ pair (ptr_val r.0) h → FitsHandle h → Seq K 𝓛 (‵ (Z.own_val a (h ∷ [])) ∷ Γ) G)
        → Seq K 𝓛 (‵ ((Tuple (RawPtr ∷ Z ∷ [])).own_val r (u ∷ [])) ∷ Γ) G
    pair_apart t r u a same k =
        fpick t (λ words. fsplit t $ feq_l t (λ is_pair. fsplit t $ feq_l t (λ is_start. fsplit t $
        rewrite t 0 (λ (s : Z.Denot). ‵ (Z.own_val s words.1.0)) same refl $
        handle_tells handles t a words.1.0 (λ h is_handle fits. move t (1 ∷ []) $ drop t $
        k h (ap only (is_pair ∙ (λ j. vstruct (of_list (is_start j ++ (is_handle j ++ []))) ∷ []))) fits))))
