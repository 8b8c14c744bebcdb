-- The seat comes out of the struct.
use Rattle.std.proofs.Common.{ap, ◌∙◌}
use Rattle.atomic_table.proofs.Names.{List, [], ◌∷◌, ◌++◌, refl, Val, vstruct, vcons, vnil, of_list, SProp, emp, ‵, raw, ◌⊛◌, ◌$◌, ◌∵◌, !, qed, by, move, keep, drop, split, fsplit, fsplit3, fjoin, fpick, use0, rewrite, stop, fld, of_opd, returns, enter, alloc_all, pass_all, free_all, look_at, get, get_in, sets, sub, whole, tables, yes, owns, types_at, plain, nothing, alive, Stays, stay_dropped, walk_of, fact, fact_i, Is, shows, peeks, ◌≡◌}
use seplogic.Ra.Ura.{Ura}
use base.Logic.{via}
use types.Logic.{Logic}
use denote.Builtin.{unit}
use denote.Exit.{left}
use denote.Triple.Walked.{Goes}
use denote.Param.Mute.{had}
use Rattle.atomic_table.proofs.Walks.{proved, leaves}
use Rattle.atomic_table.proofs.Fields.{token_val, token_told}
use Rattle.snap_round.specs.contracts.rule.RoundView as view
use Rattle.snap_round.specs.contracts.rest.Resting as rest
use Rattle.snap_round.proofs.Sent.{Seated}
use Rattle.snap_round.specs.contracts.rest.Resting.into_seat.{ended, clauses}
use Rattle.snap_round.specs.contracts.rest.Resting.into_seat.Key.{name as #self}
use Rattle.snap_round.proofs.rest.Resting.into_seat.Statement.{statement}
use Rattle.snap_round.proofs.rest.Resting.into_seat.Code as code

-- a struct that is used up leaves nothing
goes : {M : Type 1} {𝓤 : Ura M} (𝓛 : Logic 𝓤) → Goes 𝓛 0 (plain (λ _. rest.the_row)) yes (stay_dropped (plain (λ _. rest.the_row)) yes)
goes {𝓤 = 𝓤} 𝓛 κs x f vs ok = via 𝓤 _ (had 𝓛 (left ((rest.the_row).exit yes) x f) tt) (𝓛.laws.⇛_intro _)

told : (d : rest.the_row.Denot) (vs : List Val) → Is rest.the_row d vs → vs ≡ vstruct (vcons token_val vnil) ∷ []
told d vs so = let is = so.0 in is.1.0 ∙ ap (λ (ws : List Val). vstruct (of_list (ws ++ [])) ∷ []) (token_told unit view.the_row is.0.0 is.1.1.0.0)

pub into_seat_spec : {M : Type 1} → statement M
into_seat_spec 𝓤 𝓛 𝓜 𝓡 wired =
    let H = 𝓛.H in let 𝓣 = tables 𝓤 H 𝓜 𝓡 𝓡.env in let En = ended in let c = clauses 𝓛 𝓜.mem 𝓡.returns in
    let hs : Stays En.signature.params En.kept = (stay_dropped (plain (λ _. rest.the_row)) yes, tt) in
    proved 𝓛 En hs c 𝓜 𝓡 (goes 𝓛, tt) #self code.function (code.unfolded 𝓤 H 𝓜 𝓡 wired)
    (λ κs. ((λ x. vstruct (vcons token_val vnil) ∷ []), tt)) (λ κs. (told, tt)) (λ κs qs bounds a gh are.
    let x : Seated.Denot = a.0.seat in let v : Val = token_val in let u : Val = vstruct (vcons token_val vnil) in
    let y : (walk_of 𝓛 En hs c).Ghost = ((κs, qs, bounds, a, (u ∷ [], tt)), gh) in let Post : Val → SProp 𝓤 = (walk_of 𝓛 En hs c).post y in
    qed 𝓛 ((raw (alive 𝓛 En.signature κs qs) ⊛ ‵ (owns (types_at En.signature.params κs) a y.0.4)) ∷ raw ((c κs a).requires gh) ∷ []) ∵
    split ! $ move ! (1 ∷ []) $ fsplit ! $ fsplit ! $ fpick ! (λ vss. fsplit3 ! $ drop ! $ peeks ! Seated (Is Seated) (shows 𝓛 Seated) x vss.0 (λ so.
    rewrite ! 0 (λ (ws : List Val). ‵ (Seated.own_val x ws)) (token_told unit view.the_row vss.0 so.0) refl $ keep ! (0 ∷ 4 ∷ []) $
    enter ! 𝓣.C 𝓣.Λ code.function (u ∷ []) Post $ alloc_all ! (λ l. pass_all ! refl ((tt, ((tt, tt), tt)), tt) $
    sets ! (of_opd ! (get_in ! (fld ! refl (stop !)) (sub ! 0 refl (whole !)))) refl (tt, (tt, tt)) $ sets ! (of_opd ! (get ! refl)) refl (tt, (tt, tt)) $
    use0 𝓛 (raw (fact 𝓤 (x ≡ x))) (fact_i 𝓤 (x ≡ x) (emp 𝓤) refl) $ nothing ! $ nothing ! $ fjoin ! $
    returns ! (look_at ! 0 refl) $ free_all ! refl $ keep ! (3 ∷ 0 ∷ 2 ∷ 1 ∷ []) $ by ! (leaves 𝓛 En hs c y v x ((tt, tt), tt) (tt, tt))))))
