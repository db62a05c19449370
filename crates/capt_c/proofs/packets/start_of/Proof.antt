-- `start_of` gives the address of the slice.
use Rattle.std.proofs.Common.{List, [], ◌∷◌, refl, length}
use mir.Syntax.{named}
use mir.Val.{Val, vptr}
use base.Logic.{SProp}
use base.Fml.{ftrue}
use types.Kit.{‵, raw, ◌⊛◌, ◌$◌, ◌∵◌, !, qed, by, keep, split, fjoin, feq_i}
use types.Run.{stop, fld, hop, from, addr, returns, enter}
use types.ByLocal.{alloc_all, pass_all, free_all, look_at, look_in_at, sets}
use types.Part.{sub, whole}
use contract.Running.{tables}
use denote.Exit.{yes}
use denote.RattleType.{owns}
use denote.Builtin.{u8, SliceRefOf}
use denote.Signature.{Slot, types_at, plain}
use denote.Slice.{slice_val, shr_slice_vals, shr_slice_Tells}
use denote.RawPtr.{block_ptr}
use denote.Steps.{nothing}
use denote.Triple.Entry.{alive}
use denote.Triple.Walked.{Stays, stay_dropped, walk_of, Goes-dropped}
use Rattle.std.proofs.raw_atomic.Walks.{proved, leaves}
use Rattle.capt_c.specs.contracts.packets.start_of.{ended, clauses}
use Rattle.capt_c.specs.contracts.packets.start_of.Key.{name as #self}
use Rattle.capt_c.proofs.packets.start_of.Statement.{statement}
use Rattle.capt_c.proofs.packets.start_of.Code as code

abbrev bytes : Slot 1
bytes = SliceRefOf (0 ∷ []) tt (plain (λ _. u8)) (λ _. tt)

pub start_of_spec : {M : Type 1} → statement M
start_of_spec 𝓤 𝓛 𝓜 𝓡 wired =
    let H = 𝓛.H in let 𝓣 = tables 𝓤 H 𝓜 𝓡 𝓡.env in let c = clauses 𝓛 𝓜.mem 𝓡.returns in let fn = code.function in
    let hs : Stays ended.signature.params ended.kept = (stay_dropped bytes yes, tt) in
    proved 𝓛 ended hs c 𝓜 𝓡 (Goes-dropped 𝓛 1 bytes yes (λ κs x f. refl), tt) #self fn (code.unfolded 𝓤 H 𝓜 𝓡 wired)
    (λ κs. (shr_slice_vals, tt)) (λ κs. (shr_slice_Tells (named 0) κs.0 u8, tt)) (λ κs qs bounds a g are.
    let s = a.0 in let b = s.ref_ptr.0 in let o = s.ref_ptr.1 in let z : (walk_of 𝓛 ended hs c).Ghost =
    ((κs, qs, bounds, a, (shr_slice_vals s, tt)), g) in let Post : Val → SProp 𝓤 = (walk_of 𝓛 ended hs c).post z in
    qed 𝓛 ((raw (alive 𝓛 ended.signature κs qs) ⊛ ‵
    (owns (types_at ended.signature.params κs) a (shr_slice_vals s, tt))) ∷ ‵ ftrue ∷ []) ∵ split ! $
    enter ! 𝓣.C 𝓣.Λ fn (slice_val (b, o) (length s.now) ∷ []) Post $ alloc_all !
    (λ l. pass_all ! refl ((tt, (tt, (record { fits = are.0.0.1.0 }, tt))), tt) $
    sets ! (addr ! (from ! (fld ! refl (hop ! (look_in_at ! 1 (sub ! 0 refl (whole !))) (stop !))))) refl (tt, tt) $
    returns ! (look_at ! 0 refl) $ free_all ! refl $ feq_i ! (List Val) (vptr b o ∷ [])
    (vptr b o ∷ []) refl $ nothing ! $ nothing ! $ fjoin ! $
    keep ! (2 ∷ 0 ∷ 1 ∷ 4 ∷ []) $ by ! (leaves 𝓛 ended hs c z (vptr b o) (block_ptr b o) (tt, tt) (tt, tt))))
