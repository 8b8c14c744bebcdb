use Rattle.std.specs.Prelude.{slice_get, get_or, false}
use Rattle.std.proofs.Common.{◌≡◌, ◌∷◌, [], List, Some, take, sym, ap, ◌∙◌, subst, arith}
use Rattle.std.proofs.lemmas.List.{take_all}
use Rattle.std.proofs.lemmas.Option.{slice_get-get_or}
use Rattle.snap_call.specs.declared.entry.Entry.{Entry}
use Rattle.snap_call.specs.Journal.{session_entries}
use Rattle.snap_tape.specs.Tapes.{SessionValue}
use Rattle.snap_tape.specs.Sessions.{IsFirstMismatch}
use Rattle.snap_tape.specs.Following.{IsDifference, IsProgress}
use Rattle.snap_tape.specs.declared.mismatch.Progress.{Progress}
use Rattle.snap_tape.proofs.Firsts.{taken_more}
use Rattle.snap_tape.proofs.mismatch.first_followed.Goals as goal

pub loop-place-preserved : goal.loop-place-preserved
loop-place-preserved c journal followed =
    let sessions = c.args.sessions.now in
    let progress = c.args.progress.now in
    let i = c.loop-place.place in
    let s = c.index-sessions-place.result in
    let there : slice_get sessions i ≡ Some s = slice_get-get_or sessions i s c.loop-place-test.true ∙ ap (λ (x : SessionValue). Some x) (sym c.index-sessions-place.is) in
    let start : Progress = record { place = 0; differs = false } in
    let start_at : Progress = get_or progress i start in
    let each = followed.each i s start_at there (slice_get-get_or progress i start (omega (arith, c.loop-place-test.true, c.requires))) in
    let differ = c.end-difference.ensures (session_entries journal s.number) (subst (λ (l : List Entry). IsProgress l (session_entries journal s.number) start_at) (sym c.tape.ensures) each) in
    let one = c.mismatch_at.ensures journal (subst (λ (l : List Entry). IsDifference l (session_entries journal s.number) c.end-difference.result) c.tape.ensures differ) in
    subst (λ (l : List SessionValue). IsFirstMismatch journal l c.earlier-first.result) (sym (taken_more sessions i s c.loop-place-test.true c.index-sessions-place.is))
    (c.earlier-first.ensures journal (take i sessions) (s ∷ []) (c.loop-place.invariant journal followed) one)

pub returns : goal.returns
returns c journal followed =
    subst (λ (l : List SessionValue). IsFirstMismatch journal l c.loop-place.first) (take_all c.loop-place.place c.args.sessions.now c.loop-place-test.false) (c.loop-place.invariant journal followed)
