use Rattle.std.proofs.Common.{ℕ, List, sym, subst, Some}
use Rattle.snap_durable.specs.Ended.{disk_ended}
use Rattle.snap_durable.specs.Files.{HasRolled}
use Rattle.snap_durable.specs.Turns.{GivesBack}
use Rattle.snap_durable.proofs.CameLaws.{if_ok}
use Rattle.snap_durable.proofs.FileLaws.{idle_written}
use Rattle.snap_durable.proofs.LeavesLaws.{apart_on, step_leaves}
use Rattle.snap_durable.proofs.RollLaws.{can_come, if_both, if_err, step_of}
use Rattle.snap_durable.proofs.step.begin.Goals as goal

pub returns-in-Err-clause-crash : goal.returns-in-Err-clause-crash
returns-in-Err-clause-crash g c =
    step_leaves c.args.files c.requires.apart (disk_ended c.in-Err.ended) _ _ c.ended_files.ensures.first c.ended_files.ensures.second c.in-Err.ensures.clean c.args.server.now c.in-Err.ensures.grows
    (λ honest gives x may. c.in-Err.ensures.crash honest c.args.roll_to.saved c.requires.can gives x may)

pub replace-requires : goal.replace-requires
replace-requires g c =
    apart_on c.args.files c.in-Ok.rolled.log c.requires.apart (λ honest. (c.in-Ok.ensures.back c.args.roll_to.saved c.requires.can honest).0) c.in-Ok.ensures.longer

pub returns-in-Some-clause-stepped : goal.returns-in-Some-clause-stepped
returns-in-Some-clause-stepped g c =
    let rolled = c.in-Ok.ensures.rolled c.args.roll_to.saved c.requires.can in
    if_ok c.replace.result (λ files apart. step_of c.args.server.now c.begin_round.new.server c.in-Ok.rolled.mark rolled) c.replace.ensures.apart

pub returns-in-Some-clause-stand : goal.returns-in-Some-clause-stand
returns-in-Some-clause-stand g c =
    let v = c.args.server.now in
    let w = c.begin_round.new.server in
    let saved = c.args.roll_to.saved in
    let rolled : HasRolled v w (Some c.in-Some.mark) = subst (HasRolled v w) c.in-Some.is (c.in-Ok.ensures.rolled saved c.requires.can) in
    if_ok c.replace.result (λ files all. λ honest.
    let here = all.0.0 honest in
    let back = c.in-Ok.ensures.back saved c.requires.can here.0 in (
      (back.0, here.1),
      λ stand. record {
        back = subst (λ (t : List ℕ). GivesBack t w) (sym (all.1 honest)) (back.1 stand.back);
        written = all.0.1 honest w (can_come v w c.args.roll_to.line saved c.in-Some.mark c.requires.can rolled);
      },
    )) (if_both _ _ c.replace.result (if_both _ _ c.replace.result c.replace.ensures.clean c.replace.ensures.written) c.replace.ensures.text)

pub returns-in-Some-clause-crash : goal.returns-in-Some-clause-crash
returns-in-Some-clause-crash g c =
    let v = c.args.server.now in
    let w = c.begin_round.new.server in
    let saved = c.args.roll_to.saved in
    if_err c.replace.result (λ ended crash. λ honest.
    let it = crash honest in
    let back = c.in-Ok.ensures.back saved c.requires.can it.0.0 in (
      (back.0, it.0.1),
      λ stand x y one two. (w, step_of v w c.in-Ok.rolled.mark (c.in-Ok.ensures.rolled saved c.requires.can), subst (λ (t : List ℕ). GivesBack t w) (sym (it.1 x y one two)) (back.1 stand.back)),
    )) c.replace.ensures.crash

pub returns-clause-stepped : goal.returns-clause-stepped
returns-clause-stepped g c = step_of c.args.server.now c.begin_round.new.server c.in-Ok.rolled.mark (c.in-Ok.ensures.rolled c.args.roll_to.saved c.requires.can)

pub returns-clause-apart : goal.returns-clause-apart
returns-clause-apart g c =
    apart_on c.args.files c.in-Ok.rolled.log c.requires.apart (λ honest. (c.in-Ok.ensures.back c.args.roll_to.saved c.requires.can honest).0) c.in-Ok.ensures.longer

pub returns-clause-stand : goal.returns-clause-stand
returns-clause-stand g c = λ honest.
    let back = c.in-Ok.ensures.back c.args.roll_to.saved c.requires.can honest.0 in
    ((back.0, honest.1), λ stand. record { back = back.1 stand.back; written = idle_written c.begin_round.new.server c.args.files.beside c.requires.idle })
