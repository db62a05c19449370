-- The machine value of a pointer that is kept, and what it owns at it. Assumes `Logic`.
use Rattle.std.proofs.Common.{◌≡◌, Bool, true, false, List, [], ◌∷◌, ◌++◌, refl, subst}
use seplogic.Ra.Ura.{Ura}
use lib.Dec.{T, lit<}
use mir.Val.{Val, has_ty, WT, vstruct, of_list}
use types.Logic.{Logic}
use types.Kit.{Item, Goal, Seq, Step, step, ‵, ◌$◌, drop, fsplit, fjoin, fpick, fpack, feq_i, feq_l}
use denote.RattleType.{RattleType, Valss}
use denote.Builtin.{RawPtr}
use denote.RawPtr.{Ptr, block_ptr, null_ptr, ptr_val}
use denote.Steps.{nothing}
use denote.Struct.Struct.{within}
use denote.Struct.Owning.{shape}
use Rattle.std.specs.Prelude.{Option, Some, None, IsSome}
use Rattle.capt_c.specs.HandleValue.{owned}
use Rattle.capt_c.specs.declared.handles.HandleValue.{HandleValue}
use Rattle.capt_c.specs.contracts.handles.OwnedPointer as pointer
use Rattle.capt_c.proofs.handles.OwnedPointer.TheLaws.{mir as pointer_mir}

abbrev pub Row : RattleType
Row = pointer.the_row

abbrev pub word : Ptr → Val
word p = vstruct (of_list (ptr_val p ∷ []))

abbrev Off : Bool → Type 0
Off true = ⊥
Off false = Unit {0}

-- what an option that is there holds
pub inside : (m : Option HandleValue) → IsSome m → (x : HandleValue) × (m ≡ Some x)
inside None t = absurd (subst Off t tt)
inside (Some x) t = (x, refl)

pub word_good : (p : Ptr) → T (has_ty pointer_mir (word p)) × WT (word p)
word_good (block_ptr b o) = (tt, (tt, tt))
word_good null_ptr = (tt, (record { fits = lit< tt }, tt))

module _ {M : Type 1} {𝓤 : Ura M} {𝓛 : Logic 𝓤} {K : Type 0} {Γ : List (Item 𝓤)} {G : Goal 𝓤 𝓛.H} where
  pub pointer_in : K → (p : Ptr) (x : Option HandleValue)
      → Step K 𝓛 (‵ (Row.own_val (record { at = p; value = x }) (word p ∷ [])) ∷ Γ) G (‵ (owned p x) ∷ Γ) G
  pointer_in t p x = step (λ s.
      nothing t $ feq_i t (List Val) (ptr_val p ∷ []) (ptr_val p ∷ []) refl $ fjoin t $
      feq_i t (List Val) (word p ∷ []) (word p ∷ []) refl $ fjoin t $
      fpack t (Valss (RawPtr ∷ [])) (within (shape pointer.the_type) (p, tt) (word p ∷ []))
      (ptr_val p ∷ [], tt) $ fjoin t $ s)

  pub pointer_out : K → (d : Row.Denot) (vs : List Val)
      → (vs ≡ word d.at ∷ [] → Seq K 𝓛 (‵ (owned d.at d.value) ∷ Γ) G) → Seq K 𝓛 (‵ (Row.own_val d vs) ∷ Γ) G
  pointer_out t d vs k =
      fsplit t $ fpick t (λ vss. fsplit t $ feq_l t (λ ev. fsplit t $ feq_l t (λ ep. drop t $ k
      (subst (λ (ps : List Val). vs ≡ vstruct (of_list (ps ++ [])) ∷ []) ep ev))))
