-- `opened` hides the name of the store in the handle.
use Rattle.std.proofs.Common.{◌≡◌, true, false, List, [], ◌∷◌, ◌++◌, refl, sym, subst, lit<}
use base.Fraction.{full_share}
use base.Logic.{SProp, ent, emp, id⊢}
use base.Fml.{Lft, ftrue, flft}
use mir.Val.{Val}
use prog.Wp.{WpFn}
use types.Match.{vrt, in_variant}
use types.Part.{whole, sub, agg}
use types.Kit.{‵, raw, ◌⊛◌, some, later, at_ret, ◌$◌, ◌∵◌, !, qed, by, move, keep, drop, split, join, fsplit, fjoin, pick, suffices, use0, use1, await}
use types.Run.{stop, fld, lit, true_lit, false_lit, of_opd, no_more, and_then, first, switches_on, exec, returns, enter}
use types.ByLocal.{alloc_all, pass_all, free_all, look_at, get, get_in, get_tag, sets, sets_last, lands_as, env}
use types.Tokens.{lft_new}
use contract.BorrowLft.{◌⊑◌, ⊑_static}
use contract.Monad.{fact, fact_i}
use contract.Running.{tables}
use denote.Exit.{yes}
use denote.RattleType.{owns}
use denote.RawPtr.{block_ptr, null_ptr}
use denote.Signature.{types_at, plain}
use denote.Steps.{nothing, heard}
use denote.Triple.Call.{calls_at}
use denote.Triple.Clauses.{Lasts, lasts}
use denote.Triple.Spec.{triple_of}
use denote.Triple.Walked.{Stays, stay_dropped, walk_of}
use Rattle.std.proofs.alloc.Calls.{Goes-blank}
use Rattle.std.proofs.alloc.Shapes.{after, head, arm_body}
use Rattle.std.proofs.alloc.Global.TheLaws.{the_row_laws as global_laws}
use Rattle.std.proofs.raw_atomic.Walks.{proved_at, leaves}
use Rattle.std.proofs.ResultValues.{and_tt}
use Rattle.std.specs.Prelude.{IfSome}
use Rattle.std.specs.contracts.alloc.Global.{the_row as Heap}
use Rattle.std.specs.contracts.impls.GlobalAllocator.TheImpl.{ghosts}
use Rattle.std.specs.contracts.option.Option as option
use Rattle.snap_ledger.specs.contracts.halves.NewTable.{the_row as Table}
use Rattle.snap_ledger.proofs.halves.NewTable.TheLaws.{the_row_laws as table_laws}
use Rattle.snap_c.proofs.Steps.{fm, tells, name_dict, name_laws, Loose, loose_good, loose_cases, handle_in, then_runs}
use Rattle.snap_c.specs.Held.{unserved}
use Rattle.snap_c.specs.Owned.{name_row, held_row}
use Rattle.snap_c.specs.declared.handle.Handle.{Handle}
use Rattle.snap_c.proofs.handle.Handle.TheLaws.{lowers}
use Rattle.snap_c.specs.contracts.held.Held.boxed as g
use Rattle.snap_c.proofs.held.Held.boxed.Met.{met}
use Rattle.snap_c.specs.contracts.handle.Handle.opened as f
use Rattle.snap_c.specs.contracts.handle.Handle.opened.Key.{name as #self}
use Rattle.snap_c.proofs.handle.Handle.opened.Statement.{statement}
use Rattle.snap_c.proofs.handle.Handle.opened.Code as code

pub opened_spec : {M : Type 1} → statement M
opened_spec 𝓤 𝓛 𝓜 𝓡 wired =
    let H = 𝓛.H in let 𝓣 = tables 𝓤 H 𝓜 𝓡 𝓡.env in let En = f.ended in let c = f.clauses 𝓛 𝓜.mem 𝓡.returns in let fn = code.function in
    let hs : Stays En.signature.params En.kept = (stay_dropped (plain (λ _. Heap)) yes, (stay_dropped (plain (λ _. Table)) yes, tt)) in
    proved_at 𝓛 En hs c 𝓜 𝓡 (Goes-blank 𝓛 0 (plain (λ _. Heap)) yes (λ κs x w. tt), (Goes-blank 𝓛 0 (plain (λ _. Table)) yes (λ κs x w. tt), tt)) #self fn (code.unfolded 𝓤 H 𝓜 𝓡 wired) (λ z are.
    let a = z.0.3.0 in let t = z.0.3.1.0 in
    let Post : Val → SProp 𝓤 = (walk_of 𝓛 En hs c).post z in let Run : List Val → SProp 𝓤 = λ ws. WpFn 𝓤 H 𝓣.C 𝓣.Λ fn ws Post in
    let Row = held_row t in let LR = Loose Row Heap global_laws ghosts in let Out = option.the_row LR in
    qed 𝓛 ((‵ ftrue ⊛ ‵ (owns (types_at En.signature.params tt) z.0.3 z.0.4)) ∷ ‵ ftrue ∷ []) ∵
    split ! $ move ! (1 ∷ []) $ fsplit ! $ move ! (1 ∷ []) $ fsplit ! $ keep ! (0 ∷ 2 ∷ []) $
    tells Table table_laws ! t z.0.4.1.0 (λ tv et ft. move ! (1 ∷ []) $ tells Heap global_laws ! a z.0.4.0 (λ hv ea fa.
    suffices ! (Run (hv ∷ tv ∷ [])) (subst (λ (us : List Val). ent 𝓤 (Run (hv ∷ tv ∷ [])) (Run us)) (sym (λ i. ea i ++ (et i ++ []))) (id⊢ 𝓤 (Run (hv ∷ tv ∷ [])))) $
    enter ! 𝓣.C 𝓣.Λ fn (hv ∷ tv ∷ []) Post $ alloc_all ! (λ l. pass_all ! refl (fa, (ft, tt)) $ let Ev = env fn.locals l in
    sets ! (of_opd ! (get ! refl)) refl ft $ lft_new ! tt (λ α. let κ : Lft = α ∷ [] in
    let G = triple_of 𝓛 (g.signature name_row (record { table = t }) name_dict) (g.spec name_row (record { table = t }) name_dict 𝓛 𝓜.mem 𝓡.returns) in let ended = g.ended name_row (record { table = t }) name_dict in
    let y : G.Ghost = (((κ, tt), (full_share, tt), tt, (a, (t, tt)), (hv ∷ [], (tv ∷ [], tt))), tt) in
    use0 𝓛 (raw (fact 𝓤 (t ≡ t))) (fact_i 𝓤 (t ≡ t) (emp 𝓤) refl) $ use0 𝓛 (raw (fact 𝓤 (κ ⊑ (name_row).lives))) (fact_i 𝓤 (κ ⊑ (name_row).lives) (emp 𝓤) (⊑_static κ)) $ join ! $
    nothing ! $ move ! (4 ∷ 0 ∷ []) $ fjoin ! $ move ! (3 ∷ 0 ∷ []) $ fjoin ! $ nothing ! $ move ! (3 ∷ 0 ∷ []) $ join ! $ join ! $ join ! $ use1 𝓛 (raw (G.pre y)) (id⊢ 𝓤 _) $
    calls_at ! (fm 𝓛 𝓜 𝓡) G (met 𝓤 𝓛 𝓜 𝓡 (code.calls-snap_c::held::Held::boxed 𝓡.env wired) name_row name_laws (record { table = t }) name_dict (record {})) y (and_then ! (get ! refl) (and_then ! (get ! refl) (no_more !))) (λ u.
    use1 𝓛 (later (some (λ (r : Out.Denot). ((‵ (flft κ full_share) ⊛ ‵ ftrue) ⊛ ‵ (Out.own_val r (u ∷ [])))
    ⊛ some (λ (ls : Lasts ended y.0.0 y.0.3). ‵ (lasts ended y.0.0 y.0.3 ls) ⊛ raw (fact 𝓤 (IfSome r (λ held. held.value ≡ unserved))))))) (id⊢ 𝓤 (G.post y u)) $ await ! tt $ pick ! (λ r.
    split ! $ move ! (1 ∷ []) $ pick ! (λ ls. split ! $ drop ! $ heard ! (IfSome r (λ held. held.value ≡ unserved)) (λ said. split ! $ drop ! $
    loose_cases Row Heap global_laws ghosts ! r u
    (λ er eu. let d : Handle = record { at = null_ptr; stands = false; heap = a; table = t; value = unserved } in
    lands_as ! eu refl (tt, (record { fits = lit< tt }, tt)) $
    first ! $ switches_on ! (get_tag ! (vrt ! refl (fld ! refl (stop !))) (whole !)) $ exec ! 𝓣.C 𝓣.Λ Ev (arm_body 1 (head (after 2 fn.body))) (then_runs 𝓛 𝓣.C 𝓣.Λ Ev (after 3 fn.body) (at_ret Ev Post)) $
    sets_last ! (agg ! (and_then ! (lit ! tt) (and_then ! (false_lit !) (no_more !)))) refl (tt, (record { fits = lit< tt }, (tt, tt))) $ exec ! 𝓣.C 𝓣.Λ Ev (after 3 fn.body) (at_ret Ev Post) $
    sets ! (of_opd ! (get ! refl)) refl (tt, (record { fits = lit< tt }, (tt, tt))) $ returns ! (look_at ! 0 refl) $ free_all ! refl $ keep ! [] $
    use0 𝓛 (raw (fact 𝓤 (d.stands ≡ true → d.value ≡ unserved))) (fact_i 𝓤 (d.stands ≡ true → d.value ≡ unserved) (emp 𝓤) (λ e. refl)) $ nothing ! $ handle_in ! d $
    nothing ! $ nothing ! $ fjoin ! $ nothing ! $ fjoin ! $ nothing ! $ by ! (leaves 𝓛 En hs c z (lowers.lowered d) d (tt, (tt, tt)) (tt, (tt, tt))))
    (λ held b o h er eu fh. let d : Handle = record { at = block_ptr b o; stands = true; heap = held.alloc; table = t; value = held.value } in let typed = loose_good Row Heap global_laws ghosts b o h fh in
    let is : held.value ≡ unserved = subst (λ (q : Out.Denot). IfSome q (λ x. x.value ≡ unserved)) er said in
    lands_as ! eu refl (and_tt _ typed.0, (record { fits = lit< tt }, (typed.1, tt))) $
    first ! $ switches_on ! (get_tag ! (vrt ! refl (fld ! refl (stop !))) (whole !)) $ exec ! 𝓣.C 𝓣.Λ Ev (arm_body 0 (head (after 2 fn.body))) (then_runs 𝓛 𝓣.C 𝓣.Λ Ev (after 3 fn.body) (at_ret Ev Post)) $
    sets ! (of_opd ! (get_in ! (vrt ! refl (fld ! refl (stop !))) (in_variant ! 1 0 refl refl (whole !)))) refl typed $
    sets ! (of_opd ! (get_in ! (fld ! refl (stop !)) (sub ! 0 refl (whole !)))) refl (tt, tt) $ sets ! (of_opd ! (get ! refl)) refl (tt, tt) $
    sets_last ! (agg ! (and_then ! (get ! refl) (and_then ! (true_lit !) (no_more !)))) refl (tt, (tt, (tt, tt))) $ exec ! 𝓣.C 𝓣.Λ Ev (after 3 fn.body) (at_ret Ev Post) $
    sets ! (of_opd ! (get ! refl)) refl (tt, (tt, (tt, tt))) $ returns ! (look_at ! 0 refl) $ free_all ! refl $ keep ! (0 ∷ []) $ handle_in ! d $
    use0 𝓛 (raw (fact 𝓤 (d.stands ≡ true → d.value ≡ unserved))) (fact_i 𝓤 (d.stands ≡ true → d.value ≡ unserved) (emp 𝓤) (λ e. is)) $ move ! (1 ∷ 0 ∷ []) $
    nothing ! $ nothing ! $ fjoin ! $ nothing ! $ fjoin ! $ nothing ! $ by ! (leaves 𝓛 En hs c z (lowers.lowered d) d (tt, (tt, tt)) (tt, (tt, tt)))))))))))))
