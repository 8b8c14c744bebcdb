-- The seat goes into the struct.
use Rattle.atomic_table.proofs.Names.{List, [], ◌∷◌, ◌++◌, refl, Val, vstruct, vcons, vnil, of_list, SProp, emp, fsep, ‵, raw, ◌⊛◌, ◌$◌, ◌∵◌, !, qed, by, move, keep, split, fjoin, fpack, use0, feq_i, of_opd, no_more, and_then, returns, enter, alloc_all, pass_all, free_all, look_at, get, sets, agg, tables, yes, owns, Valss, types_at, plain, nothing, alive, Stays, stay_dropped, walk_of, Goes-dropped, fact, fact_i, ◌≡◌}
use denote.Builtin.{unit}
use Rattle.atomic_table.proofs.Walks.{proved, leaves}
use Rattle.atomic_table.proofs.Fields.{token_val, token_told}
use Rattle.snap_round.specs.contracts.rule.RoundView as view
use Rattle.snap_round.specs.contracts.rest.Resting as rest
use Rattle.snap_round.proofs.Sent.{Seated}
use Rattle.snap_round.specs.contracts.rest.Resting.new.{ended, clauses}
use Rattle.snap_round.specs.contracts.rest.Resting.new.Key.{name as #self}
use Rattle.snap_round.proofs.rest.Resting.new.Statement.{statement}
use Rattle.snap_round.proofs.rest.Resting.new.Code as code

pub new_spec : {M : Type 1} → statement M
new_spec 𝓤 𝓛 𝓜 𝓡 wired =
    let H = 𝓛.H in let 𝓣 = tables 𝓤 H 𝓜 𝓡 𝓡.env in let En = ended in let c = clauses 𝓛 𝓜.mem 𝓡.returns in
    let hs : Stays En.signature.params En.kept = (stay_dropped (plain (λ _. Seated)) yes, tt) in
    proved 𝓛 En hs c 𝓜 𝓡 (Goes-dropped 𝓛 0 (plain (λ _. Seated)) yes (λ κs x f. refl), tt) #self code.function (code.unfolded 𝓤 H 𝓜 𝓡 wired)
    (λ κs. ((λ x. token_val ∷ []), tt)) (λ κs. ((λ x vs so. token_told unit view.the_row vs so.0), tt)) (λ κs qs bounds a gh are.
    let x : Seated.Denot = a.0 in let v : Val = token_val in let u : Val = vstruct (vcons token_val vnil) in
    let r : rest.the_row.Denot = record { seat = x } in let y : (walk_of 𝓛 En hs c).Ghost = ((κs, qs, bounds, a, (v ∷ [], tt)), gh) in let Post : Val → SProp 𝓤 = (walk_of 𝓛 En hs c).post y in
    qed 𝓛 ((raw (alive 𝓛 En.signature κs qs) ⊛ ‵ (owns (types_at En.signature.params κs) a y.0.4)) ∷ raw ((c κs a).requires gh) ∷ []) ∵
    split ! $ keep ! (1 ∷ 0 ∷ []) $ feq_i ! (List Val) (u ∷ []) (u ∷ []) refl $ fjoin ! $
    fpack ! (Valss (Seated ∷ [])) (λ vss. fsep (base.Fml.feq (List Val) (u ∷ []) (vstruct (of_list (vss.0 ++ [])) ∷ [])) (owns (Seated ∷ []) (x, tt) vss)) (v ∷ [], tt) $ nothing ! $ move ! (1 ∷ 0 ∷ []) $ fjoin ! $
    enter ! 𝓣.C 𝓣.Λ code.function (v ∷ []) Post $ alloc_all ! (λ l. pass_all ! refl ((tt, (tt, tt)), tt) $
    sets ! (of_opd ! (get ! refl)) refl (tt, (tt, tt)) $ sets ! (agg ! (and_then ! (get ! refl) (no_more !))) refl (tt, ((tt, tt), tt)) $
    use0 𝓛 (raw (fact 𝓤 (x ≡ x))) (fact_i 𝓤 (x ≡ x) (emp 𝓤) refl) $ nothing ! $ nothing ! $ fjoin ! $
    returns ! (look_at ! 0 refl) $ free_all ! refl $ keep ! (3 ∷ 0 ∷ 2 ∷ 1 ∷ []) $ by ! (leaves 𝓛 En hs c y u r (tt, tt) (tt, tt))))
