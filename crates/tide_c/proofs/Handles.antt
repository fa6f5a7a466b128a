-- A handle by value: in the machine an address and a mark, and beside them what stands behind it.
use Rattle.std.proofs.Common.{◌≡◌, ◌∙◌, ℕ, ◌<◌, ◌^◌, List, [], ◌∷◌, ◌++◌, lit<, not, refl, w64}
use Rattle.std.proofs.ResultValues.{and_tt}
use Rattle.std.proofs.alloc.Global.TheLaws as global_laws
use Rattle.std.specs.Box.Ownership.{box_owns}
use Rattle.std.specs.Prelude.{None, Option, Some, suc, zero}
use Rattle.std.specs.contracts.alloc.Global as global
use Rattle.std.specs.contracts.impls.GlobalAllocator.TheImpl.{ghosts}
use Rattle.tide_c.proofs.Blocks as blocks
use Rattle.tide_c.proofs.Blocks.{pair}
use Rattle.tide_c.specs.Owning.{handle_owns, token}
use Rattle.tide_c.specs.Parties.{PartyStands}
use Rattle.tide_c.specs.contracts.handle.Handle as handle
use Rattle.tide_c.specs.contracts.party.Party as party
use base.Fml.{Fml, fex, ftrue}
use base.Logic.{fst∗, never}
use denote.Builtin.{RawPtr, usize}
use denote.Laws.{Is, shows}
use denote.Param.Laws.{Laws}
use denote.Plain.{uint_Makes}
use denote.RattleType.{RattleType, Valss}
use denote.Memory.{lone}
use denote.RawPtr.{Ptr, block_ptr, in_a_block, null_ptr, ptr_val}
use denote.Steps.{nothing, owned, peeks}
use denote.Struct.Owning.{shape}
use denote.Struct.Struct.{within}
use lib.Dec.{T, eqb, eqb→eq}
use mir.Raw.{raw as bare}
use mir.Syntax.{Sym, tcons, tnil, ty_int, ty_ptr, ty_struct}
use mir.Val.{Val, WT, has_ty, of_list, vint, vstruct}
use seplogic.Ra.Ura.{Ura}
use types.Kit.{Goal, Item, Seq, Step, step, ‵, ◌$◌, drop, feq_i, feq_l, fjoin, fpack, fpick, fsplit, rewrite}
use types.Logic.{Logic, sem}

abbrev pub Row : RattleType
Row = handle.the_row

abbrev pub Within : RattleType
Within = party.the_row

-- the allocator of all boxes here
abbrev pub Z : RattleType
Z = global.the_row

abbrev pub LZ : Laws Z
LZ = global_laws.the_row_laws

abbrev pub Apart : RattleType
Apart = blocks.Row Within Z LZ ghosts

-- what a box owns at this place
abbrev pub Behind : Ptr → Within.Denot → Fml
Behind p x = box_owns token Within p x

abbrev pub word : Ptr → ℕ → Val
word p n = pair (ptr_val p) (vint w64 n)

pub is_pointer : (p : Ptr) → T (has_ty ty_ptr (ptr_val p)) × WT (ptr_val p)
is_pointer null_ptr = (tt, record { fits = lit< tt })
is_pointer (block_ptr b o) = (tt, tt)

pub is_handle : (ν : Sym) (p : Ptr) (n : ℕ) → n < 2 ^ 64
    → T (has_ty (ty_struct ν (tcons ty_ptr (tcons (ty_int w64) tnil))) (word p n)) × WT (word p n)
is_handle ν p n below = (and_tt (has_ty ty_ptr (ptr_val p)) (is_pointer p).0, ((is_pointer p).1, (record { fits = below }, tt)))

-- a number that isn't 0 follows another one
follows : (n : ℕ) → T (not (eqb n 0)) → (m : ℕ) × (n ≡ suc m)
follows zero not_zero = absurd not_zero
follows (suc m) not_zero = (m, refl)

abbrev pub Owns : ℕ → Ptr → Option Within.Denot → Fml
Owns n p value = handle_owns Within PartyStands n p value

module _ {M : Type 1} {𝓤 : Ura M} {𝓛 : Logic 𝓤} {K : Type 0} {Γ : List (Item 𝓤)} {G : Goal 𝓤 𝓛.H} where
  pub handle_apart : K → (d : Row.Denot) (vs : List Val)
      → (vs ≡ word d.at d.full ∷ [] → d.full < 2 ^ 64 → Seq K 𝓛 (‵ (Owns d.full d.at d.value) ∷ Γ) G)
      → Seq K 𝓛 (‵ (Row.own_val d vs) ∷ Γ) G
  handle_apart t d vs k =
      fsplit t $ fpick t (λ words. fsplit t $ feq_l t (λ is_struct. fsplit t $ feq_l t (λ is_at. fsplit t $
      peeks t usize (Is usize) (shows 𝓛 usize) d.full words.1.0 (λ is. drop t $ drop t $
      k (is_struct ∙ (λ j. vstruct (of_list (is_at j ++ (is.0 j ++ []))) ∷ [])) is.1))))

  handle_whole : K → (n : ℕ) (p : Ptr) (value : Option Within.Denot) → n < 2 ^ 64
      → Step K 𝓛 (‵ (Row.own_val (record { at = p; full = n; value = value }) (word p n ∷ [])) ∷ Γ) G (‵ (Owns n p value) ∷ Γ) G
  handle_whole t n p value below = step (λ go.
      nothing t $ owned t usize _ (uint_Makes 𝓛 w64) n _ (refl, below) $ fjoin t $
      feq_i t (List Val) (ptr_val p ∷ []) (ptr_val p ∷ []) refl $ fjoin t $
      feq_i t (List Val) (word p n ∷ []) (word p n ∷ []) refl $ fjoin t $
      fpack t (Valss (RawPtr ∷ usize ∷ [])) (within (shape handle.the_type) (p, (n, tt)) (word p n ∷ [])) (ptr_val p ∷ [], (vint w64 n ∷ [], tt)) $
      fjoin t $ go)

module _ {M : Type 1} {𝓤 : Ura M} {𝓛 : Logic 𝓤} {K : Type 0} {Γ : List (Item 𝓤)} {G : Goal 𝓤 𝓛.H} where
  pub empty_handle : K
      → Step K 𝓛 (‵ (Row.own_val (record { at = null_ptr; full = 0; value = None }) (word null_ptr 0 ∷ [])) ∷ Γ) G Γ G
  empty_handle t = step (λ go.
      let none : Option Within.Denot = None in
      nothing t $ fpack t (none ≡ None) (λ _. ftrue) refl $ handle_whole t 0 null_ptr None (lit< tt) $ go)

  pub full_handle : K → (p : Ptr) (x : Within.Denot) → PartyStands x
      → Step K 𝓛 (‵ (Row.own_val (record { at = p; full = 1; value = Some x }) (word p 1 ∷ [])) ∷ Γ) G
      (‵ (Behind p x) ∷ Γ) G
  full_handle t p x stands = step (λ go.
      fpack t (PartyStands x) (λ _. Behind p x) stands $
      let some : Option Within.Denot = Some x in
      fpack t (some ≡ Some x) (λ _. fex (PartyStands x) (λ _. Behind p x)) refl $
      fpack t Within.Denot (λ y. fex (some ≡ Some y) (λ _. fex (PartyStands y) (λ _. Behind p y))) x $
      handle_whole t 1 p (Some x) (lit< tt) $ go)

  pub when_empty : K → (d : Row.Denot) → T (eqb d.full 0) → (d.value ≡ None → Seq K 𝓛 Γ G)
      → Seq K 𝓛 (‵ (Owns d.full d.at d.value) ∷ Γ) G
  when_empty t d is_zero k =
      rewrite t 0 (λ (m : ℕ). ‵ (Owns m d.at d.value)) (eqb→eq d.full 0 is_zero) refl $ fpick t (λ none. drop t $ k none)

  pub when_full : K → (d : Row.Denot) → T (not (eqb d.full 0))
      → ((x : Within.Denot) (b o : ℕ) → d.value ≡ Some x → PartyStands x → d.at ≡ block_ptr b o
      → Seq K 𝓛 (‵ (Behind (block_ptr b o) x) ∷ Γ) G)
      → Seq K 𝓛 (‵ (Owns d.full d.at d.value) ∷ Γ) G
  when_full t d not_zero k =
      rewrite t 0 (λ (m : ℕ). ‵ (Owns m d.at d.value)) (follows d.full not_zero).1 refl $
      fpick t (λ x. fpick t (λ is. fpick t (λ stands.
      in_a_block t d.at (λ p. Behind p x) (fst∗ 𝓤 (never 𝓤) (sem 𝓛 (token (bare (lone Within.mir)) null_ptr)))
      (λ b o at. k x b o is stands at))))
