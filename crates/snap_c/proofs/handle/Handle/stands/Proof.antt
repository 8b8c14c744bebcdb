-- `stands` reads a field, and leaves the handle as it was.
use Rattle.std.proofs.Common.{◌≡◌, List, [], ◌∷◌, refl, sym}
use base.Fraction.{full_share}
use base.Logic.{emp}
use base.Fml.{ftrue, flft}
use mir.Syntax.{named}
use mir.Val.{Val, vbool}
use types.Part.{whole, sub, look_in}
use types.Kit.{‵, raw, ◌⊛◌, ◌$◌, ◌∵◌, !, qed, by, move, keep, split, join, fsplit3, fjoin, fjoin3, rewrite, use0, feq_i}
use types.Run.{stop, fld, load, of_opd, returns, enter}
use types.ByLocal.{alloc_all, pass_all, free_all, look_at, through, sets}
use contract.Monad.{fact, fact_i}
use contract.Running.{tables}
use denote.Laws.{shows}
use denote.Memory.{cell_at}
use denote.Ref.{MutRef, mut_vals, mut_Tells}
use denote.Signature.{plain}
use denote.Steps.{nothing, opens, closes, peeks}
use denote.Triple.Walked.{Stays, stay_ref, walk_of, Goes-ref}
use Rattle.std.proofs.raw_atomic.Walks.{proved, leaves}
use Rattle.snap_c.specs.contracts.handle.Handle.{the_row as R}
use Rattle.snap_c.proofs.handle.Handle.TheLaws.{lowers}
use Rattle.snap_c.specs.contracts.handle.Handle.stands as f
use Rattle.snap_c.specs.contracts.handle.Handle.stands.Key.{name as #self}
use Rattle.snap_c.proofs.handle.Handle.stands.Statement.{statement}
use Rattle.snap_c.proofs.handle.Handle.stands.Code as code

pub stands_spec : {M : Type 1} → statement M
stands_spec 𝓤 𝓛 𝓜 𝓡 wired =
    let H = 𝓛.H in let 𝓣 = tables 𝓤 H 𝓜 𝓡 𝓡.env in let En = f.ended in let c = f.clauses 𝓛 𝓜.mem 𝓡.returns in let fn = code.function in
    let hs : Stays En.signature.params En.kept = (stay_ref (0 ∷ []) tt (plain (λ _. R)), tt) in
    proved 𝓛 En hs c 𝓜 𝓡 (Goes-ref 𝓛 1 0 tt (plain (λ _. R)), tt) #self fn (code.unfolded 𝓤 H 𝓜 𝓡 wired)
    (λ κs. (mut_vals, tt)) (λ κs. (mut_Tells (named 0) κs.0 R, tt)) (λ κs qs bounds a _ are.
    let b = a.0.ref_ptr.0 in let o = a.0.ref_ptr.1 in let h = a.0.now in let vs = mut_vals a.0 in let z : (walk_of 𝓛 En hs c).Ghost = ((κs, qs, bounds, a, (vs, tt)), tt) in
    let Cell = λ (ws : List Val). ‵ (cell_at full_share R.mir ws b o) in
    qed 𝓛 (((‵ (flft κs.0 qs.0) ⊛ ‵ ftrue) ⊛ ‵ ((MutRef (named 0) κs.0 R).own_val a.0 vs) ⊛ ‵ ftrue) ∷ ‵ ftrue ∷ []) ∵
    split ! $ split ! $ move ! (2 ∷ []) $ split ! $ keep ! (0 ∷ 2 ∷ []) $ enter ! _ _ _ _ _ $ alloc_all ! (λ l. pass_all ! refl ((tt, tt), tt) $
    fsplit3 ! $ move ! (1 ∷ 2 ∷ 3 ∷ []) $ opens ! tt R b o (λ us. move ! (1 ∷ []) $ peeks ! R _ (shows 𝓛 R) h us (λ is.
    rewrite ! 1 Cell (lowers.val_is h us is) refl $
    sets ! (of_opd ! (load ! (through ! refl (fld ! refl (stop !))) (look_in ! 1 (sub ! 1 refl (whole !))))) refl (tt, tt) $
    rewrite ! 1 Cell (sym (lowers.val_is h us is)) refl $ move ! (1 ∷ []) $ closes ! tt R h us b o $
    returns ! (look_at ! 0 refl) $ free_all ! refl $
    move ! (3 ∷ 0 ∷ 1 ∷ []) $ fjoin3 ! $ nothing ! $ move ! (1 ∷ 0 ∷ []) $ fjoin ! $ nothing ! $ move ! (2 ∷ 0 ∷ []) $ join ! $
    use0 𝓛 (raw (fact 𝓤 (h ≡ h))) (fact_i 𝓤 (h ≡ h) (emp 𝓤) refl) $ use0 𝓛 (raw (fact 𝓤 (h.stands ≡ h.stands))) (fact_i 𝓤 (h.stands ≡ h.stands) (emp 𝓤) refl) $ join ! $
    feq_i ! (List Val) (vbool h.stands ∷ []) (vbool h.stands ∷ []) refl $ move ! (2 ∷ 3 ∷ 0 ∷ 1 ∷ []) $
    by ! (leaves 𝓛 En hs c z (vbool h.stands) h.stands (h, tt) (tt, tt))))))
