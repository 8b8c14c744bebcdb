use Rattle.std.specs.Prelude.{slice_get, get_or, false}
use Rattle.std.proofs.Common.{◌≡◌, ◌<◌, ◌++◌, ◌∷◌, [], List, Some, sym, ap, ◌∙◌, subst, length, arith}
use Rattle.std.proofs.lemmas.Option.{slice_get-get_or, slice_get_within}
use Rattle.snap_call.specs.declared.entry.Entry.{Entry}
use Rattle.snap_tape.specs.Tapes.{SessionValue}
use Rattle.snap_tape.specs.Following.{IsProgress, index_in}
use Rattle.snap_tape.specs.declared.mismatch.Progress.{Progress}
use Rattle.snap_tape.proofs.Indexing.{follow_one}
use Rattle.snap_tape.proofs.mismatch.follow_entry.Goals as goal

pub returns-in-Some-clause-followed : goal.returns-in-Some-clause-followed
returns-in-Some-clause-followed c =
    let sessions = c.args.sessions.now in
    let progress = c.args.progress.now in
    let e = c.args.entry.now in
    let k = c.in-Some.index in
    let t = c.index-sessions-index.result in
    let index : index_in c.args.indexes.now e.session ≡ Some k = ap (λ (x : Entry). index_in c.args.indexes.now x.session) (sym c.entry.ensures) ∙ sym c.in-Some.ensures in
    let held : (s : SessionValue) × (slice_get sessions k ≡ Some s) × (s.number ≡ e.session) = c.requires.indexes.held e.session k index in
    let low : k < length sessions = slice_get_within sessions k held.0 held.1 in
    let there : slice_get sessions k ≡ Some t = slice_get-get_or sessions k t low ∙ ap (λ (x : SessionValue). Some x) (sym c.index-sessions-index.is) in
    let start : Progress = record { place = 0; differs = false } in
    let was : Progress = get_or progress k start in
    follow_one sessions c.args.indexes.now progress e k t was c.next.result c.requires.indexes index there (slice_get-get_or progress k start (omega (arith, low, c.requires.size)))
    (λ seen h. subst (λ (l : List Entry). IsProgress l (seen ++ e ∷ []) c.next.result) c.tape.ensures (c.next.ensures seen (subst (λ (l : List Entry). IsProgress l seen was) (sym c.tape.ensures) h)))
