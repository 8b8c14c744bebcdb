-- `work` lends what stands behind the pointer for one call.
use Rattle.std.proofs.Common.{◌≡◌, Bool, true, List, [], ◌∷◌, ◌++◌, refl, sym, ap, ◌∙◌, subst}
use base.Fraction.{full_share}
use base.Logic.{SProp, ent, emp, never, id⊢, fst∗}
use base.Fml.{Lft, GName, ftrue, flft, flent}
use base.Share
use mir.Syntax.{named}
use mir.Raw.{raw as bare}
use mir.Val.{Val, vptr}
use prog.Wp.{WpFn}
use types.Logic.{sem}
use types.SemTy.{Body}
use types.Part.{whole, sub, look_in}
use types.Kit.{‵, raw, ◌⊛◌, some, later, at_ret, ◌$◌, ◌∵◌, !, qed, by, move, keep, split, split3, join, fsplit, fsplit3, fjoin, fjoin3, pick, suffices, use0, use1, use2, use3, await, rewrite, feq_i, feq_l}
use types.Run.{stop, fld, addr, load, of_opd, no_more, and_then, first, blocks, exec, returns, enter}
use types.ByLocal.{alloc_all, pass_all, free_all, look_at, get, through, sets, sets_last, lands_as, env}
use types.Tokens.{lft_new, lft_end}
use contract.BorrowLft.{◌⊑◌, ⊑_refl, ⊑_static}
use contract.Monad.{fact, fact_i}
use contract.Running.{tables}
use lib.Dec.{T}
use denote.Exit.{yes, Last, left}
use denote.Param.Mute.{blank}
use denote.Laws.{shows}
use denote.Lend.{lends_ref, ref_back}
use denote.Memory.{cell_at, part_at, mem, lone}
use denote.RattleType.{owns}
use denote.RawPtr.{Ptr, null_ptr, in_a_block}
use denote.Ref.{MutRef, NamedLft}
use denote.Signature.{types_at, plain, named_lft}
use denote.Steps.{nothing, only, opens, closes, peeks, heard}
use denote.Triple.Call.{calls_at}
use denote.Triple.Clauses.{Lasts, lasts}
use denote.Triple.Spec.{triple_of}
use denote.Triple.Walked.{Stays, stay_dropped, stay_ref, walk_of, Goes-ref}
use Rattle.std.proofs.alloc.Calls.{Goes-blank}
use Rattle.std.proofs.alloc.Shapes.{after}
use Rattle.std.proofs.raw_atomic.Walks.{proved_at, leaves}
use Rattle.std.specs.contracts.impls.GlobalAllocator.TheImpl.{ghosts}
use Rattle.std.specs.Box.Ownership.{box_owns}
use Rattle.snap_c.proofs.Steps.{fm, tells, name_dict, name_laws}
use Rattle.snap_c.proofs.held.Work.TheLaws as work_laws
use Rattle.snap_c.proofs.held.Told.TheLaws as told_laws
use Rattle.snap_c.specs.contracts.held.Work as work_type
use Rattle.snap_c.specs.contracts.held.Told as told_type
use Rattle.snap_c.specs.declared.held.Work.{Work}
use Rattle.snap_c.specs.declared.held.Work.TheVariants.{Line, Swap}
use Rattle.snap_c.specs.Held.{Worked}
use Rattle.snap_c.specs.Owned.{name_row, held_row, handle_owns}
use Rattle.snap_c.specs.contracts.handle.Handle.{the_row as R}
use Rattle.snap_c.proofs.handle.Handle.TheLaws.{lowers}
use Rattle.snap_c.specs.contracts.held.Held.work as g
use Rattle.snap_c.proofs.held.Held.work.Met.{met}
use Rattle.snap_c.specs.contracts.handle.Handle.work as f
use Rattle.snap_c.specs.contracts.handle.Handle.work.Key.{name as #self}
use Rattle.snap_c.proofs.handle.Handle.work.Statement.{statement}
use Rattle.snap_c.proofs.handle.Handle.work.Code as code

-- nothing is left of what was to be done
spent : (κ : NamedLft) (x : Work) (w : Last ((work_type.the_row κ).exit yes) x) → T (blank (left ((work_type.the_row κ).exit yes) x w))
spent κ (Line alloc line) w = tt
spent κ (Swap answer) w = tt

pub work_spec : {M : Type 1} → statement M
work_spec 𝓤 𝓛 𝓜 𝓡 wired =
    let H = 𝓛.H in let 𝓣 = tables 𝓤 H 𝓜 𝓡 𝓡.env in let En = f.ended in let c = f.clauses 𝓛 𝓜.mem 𝓡.returns in let fn = code.function in
    let Task = plain (λ (κs : Lft × (Lft × Unit {0})). work_type.the_row (named_lft 2 1 tt κs)) in
    let hs : Stays En.signature.params En.kept = (stay_ref (0 ∷ []) tt (plain (λ _. R)), (stay_dropped Task yes, tt)) in
    proved_at 𝓛 En hs c 𝓜 𝓡 (Goes-ref 𝓛 2 0 tt (plain (λ _. R)), (Goes-blank 𝓛 2 Task yes (λ κs x w. spent (named_lft 2 1 tt κs) x w), tt)) #self fn (code.unfolded 𝓤 H 𝓜 𝓡 wired) (λ z are.
    let κs = z.0.0 in let qs = z.0.1 in let r = z.0.3.0 in let w = z.0.3.1.0 in let h = r.now in let b = r.ref_ptr.0 in let o = r.ref_ptr.1 in
    let WR = work_type.the_row (named_lft 2 1 tt κs) in let OR = told_type.the_row in
    let Post : Val → SProp 𝓤 = (walk_of 𝓛 En hs c).post z in let Run : List Val → SProp 𝓤 = λ ws. WpFn 𝓤 H 𝓣.C 𝓣.Λ fn ws Post in
    let Row = held_row h.table in let token = ghosts.dealloc_token h.heap in
    let toks = ‵ (flft κs.0 qs.0) ⊛ ‵ (flft κs.1.0 qs.1.0) ⊛ ‵ ftrue in
    qed 𝓛 ((toks ⊛ ‵ (owns (types_at En.signature.params κs) z.0.3 z.0.4)) ∷ raw (fact 𝓤 (h.stands ≡ true)) ∷ []) ∵
    split ! $ move ! (2 ∷ []) $ heard ! (h.stands ≡ true) (λ stands. split3 ! $ move ! (3 ∷ []) $ fsplit ! $ move ! (1 ∷ []) $ fsplit ! $ keep ! (0 ∷ 2 ∷ 3 ∷ 4 ∷ []) $
    tells WR (work_laws.the_row_laws (named_lft 2 1 tt κs)) ! w z.0.4.1.0 (λ v ev fits. move ! (1 ∷ []) $ fsplit3 ! $ feq_l ! (λ er.
    suffices ! (Run (vptr b o ∷ v ∷ [])) (subst (λ (us : List Val). ent 𝓤 (Run (vptr b o ∷ v ∷ [])) (Run us)) (sym (λ i. er i ++ (ev i ++ []))) (id⊢ 𝓤 (Run (vptr b o ∷ v ∷ [])))) $
    enter ! 𝓣.C 𝓣.Λ fn (vptr b o ∷ v ∷ []) Post $ alloc_all ! (λ l. pass_all ! refl ((tt, tt), (fits, tt)) $ let Ev = env fn.locals l in
    move ! (0 ∷ 1 ∷ 3 ∷ []) $ opens ! tt R b o (λ us. move ! (1 ∷ []) $ peeks ! R _ (shows 𝓛 R) h us (λ is. fsplit ! $ move ! (1 ∷ []) $
    rewrite ! 0 (λ (s : Bool). ‵ (handle_owns s h.heap h.table h.at h.value)) stands refl $
    in_a_block ! h.at (λ p. box_owns token Row p h.value) (fst∗ 𝓤 (never 𝓤) (sem 𝓛 (token (bare (lone (Row.mir))) null_ptr))) (λ b' o' e'.
    let word = lowers.val_is h us is ∙ ap (λ (p : Ptr). lowers.lowered (record h { at = p }) ∷ []) e' in let Cell = λ (ws : List Val). ‵ (cell_at full_share R.mir ws b o) in
    rewrite ! 2 Cell word refl $
    first ! $ blocks ! $ sets ! (of_opd ! (load ! (through ! refl (fld ! refl (stop !))) (look_in ! 2 (sub ! 0 refl (whole !))))) refl (tt, tt) $
    sets ! (of_opd ! (get ! refl)) refl (tt, tt) $ sets_last ! (addr ! (through ! refl (stop !))) refl (tt, tt) $ exec ! 𝓣.C 𝓣.Λ Ev (after 1 fn.body) (at_ret Ev Post) $
    sets ! (of_opd ! (get ! refl)) refl (tt, tt) $ sets ! (addr ! (through ! refl (stop !))) refl (tt, tt) $ sets ! (of_opd ! (get ! refl)) refl fits $
    fsplit ! $ lft_new ! tt (λ α. let κ : Lft = α ∷ [] in move ! (1 ∷ []) $
    use1 𝓛 (later (some (λ (γ : GName). ‵ ((MutRef (named 0) κ Row).own_val (record { ref_ptr = (b', o'); ghost_name = γ; now = h.value }) (vptr b' o' ∷ [])) ⊛ ‵ (flent κ (Body (mem Row) b' o' γ))))) (lends_ref 𝓛 Row (named 0) κ h.value b' o') $ await ! tt $ pick ! (λ γ. split ! $ move ! (2 ∷ []) $
    use1 𝓛 (‵ (flft κ (Share.left full_share)) ⊛ ‵ (flft κ (Share.right full_share))) (𝓛.lfts.lft_split κ full_share) $ split ! $
    let G = triple_of 𝓛 (g.signature name_row (record { table = h.table }) name_dict) (g.spec name_row (record { table = h.table }) name_dict 𝓛 𝓜.mem 𝓡.returns) in let ended = g.ended name_row (record { table = h.table }) name_dict in
    let y : G.Ghost = (((κ, (κs.1.0, (κ, tt))), (Share.left full_share, (qs.1.0, (Share.right full_share, tt))), (⊑_refl κ, tt), (record { ref_ptr = (b', o'); ghost_name = γ; now = h.value }, (w, tt)), (vptr b' o' ∷ [], (v ∷ [], tt))), tt) in
    nothing ! $ use0 𝓛 (raw (fact 𝓤 (κ ⊑ (name_row).lives))) (fact_i 𝓤 (κ ⊑ (name_row).lives) (emp 𝓤) (⊑_static κ)) $ join ! $
    nothing ! $ move ! (12 ∷ 0 ∷ []) $ fjoin ! $ move ! (4 ∷ 0 ∷ []) $ fjoin ! $ nothing ! $ move ! (4 ∷ 0 ∷ []) $ join ! $ move ! (11 ∷ 0 ∷ []) $ join ! $ move ! (3 ∷ 0 ∷ []) $ join ! $ join ! $ join ! $ use1 𝓛 (raw (G.pre y)) (id⊢ 𝓤 _) $
    calls_at ! (fm 𝓛 𝓜 𝓡) G (met 𝓤 𝓛 𝓜 𝓡 (code.calls-snap_c::held::Held::work 𝓡.env wired) name_row name_laws (record { table = h.table }) name_dict (record {})) y (and_then ! (get ! refl) (and_then ! (get ! refl) (no_more !))) (λ u.
    use1 𝓛 (later (some (λ (told : OR.Denot). ((‵ (flft κ (Share.left full_share)) ⊛ ‵ (flft κs.1.0 qs.1.0) ⊛ ‵ (flft κ (Share.right full_share)) ⊛ ‵ ftrue) ⊛ ‵ (OR.own_val told (u ∷ [])))
    ⊛ some (λ (ls : Lasts ended y.0.0 y.0.3). ‵ (lasts ended y.0.0 y.0.3 ls) ⊛ raw (fact 𝓤 (Worked h.value w ls.0 told)))))) (id⊢ 𝓤 (G.post y u)) $ await ! tt $ pick ! (λ told. split ! $ move ! (1 ∷ []) $ pick ! (λ ls. split ! $ move ! (1 ∷ []) $ heard ! (Worked h.value w ls.0 told) (λ did.
    fsplit ! $ fsplit ! $ move ! (3 ∷ []) $ split ! $ split3 ! $ move ! (2 ∷ []) $ split ! $ move ! (2 ∷ 0 ∷ []) $ use2 𝓛 (‵ (flft κ full_share)) (𝓛.lfts.lft_join κ full_share) $ lft_end ! tt $
    move ! (0 ∷ 7 ∷ 4 ∷ []) $ use3 𝓛 (later (‵ (part_at Row full_share ls.0 b' o'))) (ref_back 𝓛 Row κ γ ls.0 b' o') $ await ! tt $ move ! (0 ∷ 6 ∷ []) $ fjoin ! $
    move ! (3 ∷ []) $ tells OR told_laws.the_row_laws ! told (u ∷ []) (λ v' eu fits'. lands_as ! (ap only eu) refl fits' $ move ! (1 ∷ []) $
    rewrite ! 0 (λ (p : Ptr). ‵ (box_owns token Row p ls.0)) (sym e') refl $ rewrite ! 0 (λ (s : Bool). ‵ (handle_owns s h.heap h.table h.at ls.0)) (sym stands) refl $ rewrite ! 7 Cell (sym word) refl $
    move ! (6 ∷ 0 ∷ []) $ fjoin ! $ move ! (6 ∷ 0 ∷ 7 ∷ 8 ∷ 9 ∷ []) $ closes ! tt R (record h { value = ls.0 }) us b o $
    returns ! (look_at ! 0 refl) $ free_all ! refl $
    feq_i ! (List Val) z.0.4.0 (vptr b o ∷ []) er $ fjoin3 ! $ nothing ! $ nothing ! $ fjoin ! $ move ! (1 ∷ 0 ∷ []) $ fjoin ! $
    nothing ! $ move ! (5 ∷ 0 ∷ []) $ join ! $ move ! (2 ∷ 0 ∷ []) $ join ! $
    use0 𝓛 (raw (fact 𝓤 (h.stands ≡ true))) (fact_i 𝓤 (h.stands ≡ true) (emp 𝓤) stands) $ use0 𝓛 (raw (fact 𝓤 (Worked h.value w ls.0 told))) (fact_i 𝓤 (Worked h.value w ls.0 told) (emp 𝓤) did) $ join ! $
    keep ! (1 ∷ 2 ∷ 3 ∷ 0 ∷ []) $ by ! (leaves 𝓛 En hs c z v' told (record h { value = ls.0 }, (ls.1.0, tt)) (tt, (tt, tt))))))))))))))))))
