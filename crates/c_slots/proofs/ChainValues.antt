-- The machine values of a chain's slot. Assumes `Logic`.
use Rattle.std.proofs.Common.{◌≡◌, ◌≢◌, ℕ, List, [], ◌∷◌, ◌++◌, refl, subst}
use seplogic.Ra.Ura.{Ura}
use mir.Val.{Val, vptr, vstruct, vcons, vnil, of_list}
use types.Logic.{Logic, sem}
use types.Kit.{Item, Goal, Seq, Step, step, ‵, ◌$◌, move, drop, fsplit, fjoin, fpick, fpack, feq_i, feq_l}
use denote.RattleType.{RattleType, Valss}
use denote.Builtin.{RawPtr}
use denote.RawPtr.{Ptr, ptr_val}
use denote.Steps.{nothing}
use denote.Struct.Struct.{within}
use denote.Struct.Owning.{shape}
use Rattle.std.specs.declared.option.Option.{Option}
use Rattle.std.specs.declared.option.Option.TheVariants.{None, Some}
use Rattle.std.specs.contracts.alloc.Global as heap
use Rattle.c_slots.specs.Owns.{chain_owns}
use Rattle.c_slots.specs.declared.chain_slot.Chain.{Chain}
use Rattle.c_slots.specs.contracts.chain_slot.Chain as chain
use Rattle.c_slots.specs.contracts.chain_slot.ChainSlot as slot

abbrev pub Z : RattleType
Z = heap.the_row

abbrev pub R : RattleType
R = chain.the_row

abbrev pub Slot : RattleType
Slot = slot.the_row

abbrev pub alone : Val → Val
alone v = vstruct (vcons v vnil)

pub is_some : (h : Option Chain) → h ≢ None → (x : Chain) × (h ≡ Some x)
is_some None ne = absurd (ne refl)
is_some (Some x) ne = (x, refl)

module _ {M : Type 1} {𝓤 : Ura M} {𝓛 : Logic 𝓤} {K : Type 0} {Γ : List (Item 𝓤)} {G : Goal 𝓤 𝓛.H} where
  pub slot_in : K → (p : Ptr) (h : Option Chain)
      → Step K 𝓛 (‵ (Slot.own_val (record { at = p; held = h }) (alone (ptr_val p) ∷ [])) ∷ Γ) G (‵ (chain_owns p h) ∷ Γ) G
  slot_in t p h = step (λ s. let v : Val = alone (ptr_val p) in
      nothing t $ feq_i t (List Val) (ptr_val p ∷ []) (ptr_val p ∷ []) refl $ fjoin t $ feq_i t (List Val) (v ∷ []) (v ∷ []) refl $ fjoin t $
      fpack t (Valss (RawPtr ∷ [])) (within (shape slot.the_type) (p, tt) (v ∷ [])) (ptr_val p ∷ [], tt) $ fjoin t $ s)

  pub slot_out : K → (d : Slot.Denot) (vs : List Val)
      → (vs ≡ alone (ptr_val d.at) ∷ [] → Seq K 𝓛 (‵ (chain_owns d.at d.held) ∷ Γ) G) → Seq K 𝓛 (‵ (Slot.own_val d vs) ∷ Γ) G
  slot_out t d vs k = fsplit t $ fpick t (λ vss. fsplit t $ feq_l t (λ ev. fsplit t $ feq_l t (λ ep. drop t $
      k (subst (λ (ps : List Val). vs ≡ vstruct (of_list (ps ++ [])) ∷ []) ep ev))))
