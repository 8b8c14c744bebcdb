use Rattle.std.proofs.Common.{◌≡◌, List, length, map, false, sym, ap, ◌∙◌, subst, arith}
use Rattle.snap_record.specs.Labels.{Bytes}
use Rattle.snap_call.specs.Journal.{Replays}
use Rattle.snap_call.specs.declared.entry.Entry.{Entry}
use Rattle.snap_history.specs.History.{history_page, history_since, last_made}
use Rattle.snap_world.specs.World.{WorldValue}
use Rattle.snap_session.specs.Journal.{journal_entry}
use Rattle.snap_session.proofs.Entries.{few, told_in}
use Rattle.snap_session.proofs.journal.journal_in.Goals as goal

pub history-requires : goal.history-requires
history-requires g c =
    omega (arith, few c.args.world.now c.journal-entries.ensures.replays, ap (λ (l : List Entry). length l) c.journal-entries.ensures.entries, c.last_entry-last.ensures)

pub returns : goal.returns
returns g c =
    let w : WorldValue = c.args.world.now in
    let name : Bytes = c.args.name.now in
    let entries : c.journal-entries.result.now ≡ w.journal = c.journal-entries.ensures.entries in
    told_in w c.args.carried.now c.args.after c.args.most c.args.full name c.in_ok-held.held c.in-Some.charge c.in_ok-infos.infos c.in_ok-told.told
    c.journal-entries.ensures.began c.journal-entries.ensures.replays (sym c.totals.ensures.charge ∙ c.in-Some.is) c.in_ok-held.ensures.shares
    (λ s t good slots shares replays numbered charged.
    c.in_ok-infos.ensures s t good slots (λ none. shares (ap (last_made name) (sym entries) ∙ none)) (subst (λ (l : List Entry). Replays s l t) (sym entries) replays) (numbered ∙ sym c.last_entry-last.ensures) charged
    ∙ ap (λ (l : List Entry). history_page c.args.after c.args.most (history_since name s l)) entries)
    (c.in_ok-told.ensures ∙ ap (map (journal_entry w c.args.carried.now false c.args.full)) c.as_slice.ensures)
