-- `let_go` has the block as a loose box, and hands that on.
use Rattle.std.proofs.Common.{◌≡◌, Bool, true, List, [], ◌∷◌, ◌++◌, refl, sym, ap, ◌∙◌, subst}
use base.Fraction.{full_share}
use base.Logic.{SProp, ent, emp, never, id⊢, fst∗}
use base.Fml.{Lft, ftrue, flft}
use mir.Raw.{raw as bare}
use mir.Val.{Val, vptr, vunit}
use prog.Wp.{WpFn}
use types.Logic.{sem}
use types.Part.{whole, sub, agg}
use types.Kit.{‵, raw, ◌⊛◌, some, later, ◌$◌, ◌∵◌, !, qed, by, move, keep, split, join, fsplit, fjoin, pick, suffices, use0, use1, await, rewrite, feq_i, feq_l}
use types.Run.{stop, fld, of_opd, unit_lit, no_more, and_then, returns, enter}
use types.ByLocal.{alloc_all, pass_all, free_all, look_at, get, get_in, sets, lands_as}
use types.Tokens.{lft_new}
use contract.BorrowLft.{◌⊑◌, ⊑_static}
use contract.Monad.{fact, fact_i}
use contract.Running.{tables}
use denote.Builtin.{unit}
use denote.Exit.{yes}
use denote.Laws.{shows}
use denote.Memory.{lone}
use denote.Param.{layout}
use denote.RattleType.{owns}
use denote.RawPtr.{Ptr, block_ptr, null_ptr, in_a_block}
use denote.Signature.{types_at, plain}
use denote.Steps.{nothing, only, peeks, heard}
use denote.Triple.Call.{calls_at}
use denote.Triple.Clauses.{Lasts, lasts}
use denote.Triple.Spec.{triple_of}
use denote.Triple.Walked.{Stays, stay_dropped, walk_of}
use Rattle.std.proofs.alloc.Calls.{Goes-blank}
use Rattle.std.proofs.alloc.Global.TheLaws.{the_row_laws as global_laws}
use Rattle.std.proofs.raw_atomic.Walks.{proved_at, leaves}
use Rattle.std.specs.contracts.alloc.Global.{the_row as Heap}
use Rattle.std.specs.contracts.impls.GlobalAllocator.TheImpl.{ghosts}
use Rattle.std.specs.Box.Ownership.{box_owns}
use Rattle.snap_c.proofs.Steps.{Good, fm, tells, name_dict, name_laws, both, loose_good, loose_in}
use Rattle.snap_c.specs.Owned.{name_row, held_row, handle_owns}
use Rattle.snap_c.specs.contracts.handle.Handle.{the_row as R}
use Rattle.snap_c.proofs.handle.Handle.TheLaws.{lowers, the_row_laws as handle_laws}
use Rattle.snap_c.specs.contracts.held.let_go as g
use Rattle.snap_c.proofs.held.let_go.Met.{met}
use Rattle.snap_c.specs.contracts.handle.Handle.let_go as f
use Rattle.snap_c.specs.contracts.handle.Handle.let_go.Key.{name as #self}
use Rattle.snap_c.proofs.handle.Handle.let_go.Statement.{statement}
use Rattle.snap_c.proofs.handle.Handle.let_go.Code as code

pub let_go_spec : {M : Type 1} → statement M
let_go_spec 𝓤 𝓛 𝓜 𝓡 wired =
    let H = 𝓛.H in let 𝓣 = tables 𝓤 H 𝓜 𝓡 𝓡.env in let En = f.ended in let c = f.clauses 𝓛 𝓜.mem 𝓡.returns in let fn = code.function in
    let hs : Stays En.signature.params En.kept = (stay_dropped (plain (λ _. R)) yes, (stay_dropped (plain (λ _. Heap)) yes, tt)) in
    proved_at 𝓛 En hs c 𝓜 𝓡 (Goes-blank 𝓛 0 (plain (λ _. R)) yes (λ κs x w. tt), (Goes-blank 𝓛 0 (plain (λ _. Heap)) yes (λ κs x w. tt), tt)) #self fn (code.unfolded 𝓤 H 𝓜 𝓡 wired) (λ z are.
    let h = z.0.3.0 in let a = z.0.3.1.0 in
    let Post : Val → SProp 𝓤 = (walk_of 𝓛 En hs c).post z in let Run : List Val → SProp 𝓤 = λ ws. WpFn 𝓤 H 𝓣.C 𝓣.Λ fn ws Post in
    let Row = held_row h.table in let token = ghosts.dealloc_token h.heap in
    qed 𝓛 ((‵ ftrue ⊛ ‵ (owns (types_at En.signature.params tt) z.0.3 z.0.4)) ∷ raw (fact 𝓤 (h.stands ≡ true)) ∷ []) ∵
    split ! $ move ! (2 ∷ []) $ heard ! (h.stands ≡ true) (λ stands. move ! (1 ∷ []) $ fsplit ! $ move ! (1 ∷ []) $ fsplit ! $ keep ! (0 ∷ 2 ∷ []) $
    tells Heap global_laws ! a z.0.4.1.0 (λ hv ea fa. move ! (1 ∷ []) $ tells R handle_laws ! h z.0.4.0 (λ v ev fits. peeks ! R _ (shows 𝓛 R) h (v ∷ []) (λ is. fsplit ! $ move ! (1 ∷ []) $
    rewrite ! 0 (λ (s : Bool). ‵ (handle_owns s h.heap h.table h.at h.value)) stands refl $
    in_a_block ! h.at (λ p. box_owns token Row p h.value) (fst∗ 𝓤 (never 𝓤) (sem 𝓛 (token (bare (lone (Row.mir))) null_ptr))) (λ b o e. keep ! (0 ∷ 2 ∷ []) $
    let hw : Val = lowers.lowered (record h { at = block_ptr b o }) in
    let word : v ≡ hw = ap only (lowers.val_is h (v ∷ []) is ∙ ap (λ (p : Ptr). lowers.lowered (record h { at = p }) ∷ []) e) in let good = subst (Good (layout R)) word fits in
    suffices ! (Run (hw ∷ hv ∷ [])) (subst (λ (us : List Val). ent 𝓤 (Run (hw ∷ hv ∷ [])) (Run us)) (sym (λ i. (ev ∙ ap (λ (u : Val). u ∷ []) word) i ++ (ea i ++ []))) (id⊢ 𝓤 (Run (hw ∷ hv ∷ [])))) $
    enter ! 𝓣.C 𝓣.Λ fn (hw ∷ hv ∷ []) Post $ alloc_all ! (λ l. pass_all ! refl (good, (fa, tt)) $
    sets ! (of_opd ! (get_in ! (fld ! refl (stop !)) (sub ! 0 refl (whole !)))) refl (tt, tt) $
    sets ! (agg ! (and_then ! (get ! refl) (and_then ! (get ! refl) (no_more !)))) refl (loose_good Row Heap global_laws ghosts b o hv fa) $
    loose_in Row Heap global_laws ghosts ! b o hv a h.value $ lft_new ! tt (λ α. let κ : Lft = α ∷ [] in
    let G = triple_of 𝓛 (g.signature name_row (record { table = h.table }) name_dict) (g.spec name_row (record { table = h.table }) name_dict 𝓛 𝓜.mem 𝓡.returns) in let ended = g.ended name_row (record { table = h.table }) name_dict in
    let y : G.Ghost = (((κ, tt), (full_share, tt), tt, (record { at = block_ptr b o; alloc = a; value = h.value }, tt), (both (vptr b o) hv ∷ [], tt)), tt) in
    nothing ! $ use0 𝓛 (raw (fact 𝓤 (κ ⊑ (name_row).lives))) (fact_i 𝓤 (κ ⊑ (name_row).lives) (emp 𝓤) (⊑_static κ)) $ join ! $
    nothing ! $ move ! (3 ∷ 0 ∷ []) $ fjoin ! $ nothing ! $ move ! (3 ∷ 0 ∷ []) $ join ! $ join ! $ join ! $ use1 𝓛 (raw (G.pre y)) (id⊢ 𝓤 _) $
    calls_at ! (fm 𝓛 𝓜 𝓡) G (met 𝓤 𝓛 𝓜 𝓡 (code.calls-snap_c::held::let_go 𝓡.env wired) name_row name_laws (record { table = h.table }) name_dict (record {})) y (and_then ! (get ! refl) (no_more !)) (λ u.
    use1 𝓛 (later (some (λ (n : Unit {0}). ((‵ (flft κ full_share) ⊛ ‵ ftrue) ⊛ ‵ (unit.own_val n (u ∷ []))) ⊛ some (λ (ls : Lasts ended y.0.0 y.0.3). ‵ (lasts ended y.0.0 y.0.3 ls) ⊛ ‵ ftrue)))) (id⊢ 𝓤 (G.post y u)) $
    await ! tt $ pick ! (λ n. split ! $ split ! $ move ! (1 ∷ []) $ feq_l ! (λ eu. lands_as ! (ap only eu) refl (tt, tt) $ sets ! (of_opd ! (unit_lit !)) refl (tt, tt) $
    returns ! (look_at ! 0 refl) $ free_all ! refl $ keep ! [] $
    nothing ! $ feq_i ! (List Val) (vunit ∷ []) (vunit ∷ []) refl $ nothing ! $ nothing ! $ fjoin ! $ nothing ! $ fjoin ! $ nothing ! $
    by ! (leaves 𝓛 En hs c z vunit tt (tt, (tt, tt)) (tt, (tt, tt))))))))))))))
