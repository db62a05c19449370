-- `nothing` keeps a pointer and owns nothing.
use Rattle.std.proofs.Common.{◌≡◌, [], ◌∷◌, refl}
use mir.Val.{Val}
use base.Logic.{SProp, emp}
use base.Fml.{ftrue}
use types.Kit.{‵, raw, ◌⊛◌, ◌$◌, ◌∵◌, !, qed, by, move, keep, split, fjoin, use0}
use types.Run.{no_more, and_then, returns, enter}
use types.ByLocal.{alloc_all, pass_all, free_all, look_at, get, sets}
use types.Part.{agg}
use contract.Monad.{fact, fact_i}
use contract.Running.{tables}
use denote.Exit.{yes}
use denote.RattleType.{owns}
use denote.Builtin.{RawPtr}
use denote.RawPtr.{Ptr, ptr_val, rawptr_vals, rawptr_Tells, rawptr_Lawful}
use denote.Signature.{types_at, plain}
use denote.Steps.{nothing}
use denote.Triple.Entry.{alive}
use denote.Triple.Walked.{Stays, stay_dropped, walk_of, Goes-dropped}
use Rattle.std.specs.Prelude.{Option, None}
use Rattle.std.proofs.raw_atomic.Walks.{proved, leaves}
use Rattle.capt_c.specs.declared.handles.HandleValue.{HandleValue}
use Rattle.capt_c.proofs.PointerValues.{word, word_good, pointer_in}
use Rattle.capt_c.specs.contracts.handles.OwnedPointer.nothing.{ended, clauses}
use Rattle.capt_c.specs.contracts.handles.OwnedPointer.nothing.Key.{name as #self}
use Rattle.capt_c.proofs.handles.OwnedPointer.nothing.Statement.{statement}
use Rattle.capt_c.proofs.handles.OwnedPointer.nothing.Code as code

pub nothing_spec : {M : Type 1} → statement M
nothing_spec 𝓤 𝓛 𝓜 𝓡 wired =
    let H = 𝓛.H in let 𝓣 = tables 𝓤 H 𝓜 𝓡 𝓡.env in let c = clauses 𝓛 𝓜.mem 𝓡.returns in let fn = code.function in
    let hs : Stays ended.signature.params ended.kept = (stay_dropped (plain (λ _. RawPtr)) yes, tt) in
    proved 𝓛 ended hs c 𝓜 𝓡 (Goes-dropped 𝓛 0 (plain (λ _. RawPtr)) yes (λ κs x f. refl), tt) #self fn
    (code.unfolded 𝓤 𝓛.H 𝓜 𝓡 wired)
    (λ κs. (rawptr_vals, tt)) (λ κs. (rawptr_Tells, tt)) (λ κs qs bounds a g are.
    let p : Ptr = a.0 in let none : Option HandleValue = None in let z : (walk_of 𝓛 ended hs c).Ghost =
    ((κs, qs, bounds, a, (rawptr_vals p, tt)), g) in let Post : Val → SProp 𝓤 = (walk_of 𝓛 ended hs c).post z in
    qed 𝓛 ((raw (alive 𝓛 ended.signature κs qs) ⊛ ‵ (owns (types_at ended.signature.params κs) a (rawptr_vals p, tt)))
    ∷ ‵ ftrue ∷ []) ∵ split ! $
    enter ! 𝓣.C 𝓣.Λ fn (ptr_val p ∷ []) Post $ alloc_all ! (λ l. pass_all ! refl ((rawptr_Lawful 𝓛).typed p _ refl) $
    sets ! (agg ! (and_then ! (get ! refl) (no_more !))) refl (word_good p) $ move ! (2 ∷ []) $ pointer_in ! p none $
    use0 𝓛 (raw (fact 𝓤 ((none ≡ none) × (p ≡ p)))) (fact_i 𝓤 ((none ≡ none) × (p ≡ p)) (emp 𝓤) (refl, refl)) $
    nothing ! $ nothing ! $ fjoin ! $
    returns ! (look_at ! 0 refl) $ free_all ! refl $ keep ! (3 ∷ 0 ∷ 2 ∷ 1 ∷ []) $ by !
    (leaves 𝓛 ended hs c z (word p) (record { at = p; value = none }) (tt, tt) (tt, tt))))
