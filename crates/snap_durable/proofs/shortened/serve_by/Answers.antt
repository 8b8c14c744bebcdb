use Rattle.std.proofs.Common.{◌≡◌, ◌⊎◌, ◌∙◌, ℕ, List, ap, subst, false}
use Rattle.std.specs.Prelude.{OnOk}
use Rattle.snap_log.specs.Kept.{IsBeforeOrAfter}
use Rattle.snap_log.specs.Log.{text_in}
use Rattle.snap_log.specs.Texts.{log_text}
use Rattle.snap_marks.specs.Sums.{marks_agree}
use Rattle.snap_pair.specs.Pair.{ArePairHonest, lines_in}
use Rattle.snap_pair.specs.Texts.{pair_text}
use Rattle.snap_session.specs.Kept.{KeptValue, counted_anew}
use Rattle.snap_session.specs.Resumed.{resumed_kept}
use Rattle.snap_durable.specs.Logged.{HasStarted, IfDiffers, Starts, disk_unserved}
use Rattle.snap_durable.specs.Served.{IsReplayed}
use Rattle.snap_durable.proofs.FilesServedLaws.{begun_apart, no_difference, refused_files, served_files, served_leaves, stopped_leaves, unread_leaves, unstarted_leaves}
use Rattle.snap_durable.proofs.shortened.serve_by.Goals as goal

pub returns-in-Err-clause-crash : goal.returns-in-Err-clause-crash
returns-in-Err-clause-crash g c = λ honest x y one two.
    unread_leaves c.args.rebases (lines_in c.args.pair) (pair_text x y) (g.R.Read.remaining c.args.input.now) (g.W.Write.contents c.args.output.now) ((c.replay_pair-pair.ensures.lines honest).crash x y one two)

pub returns-in-Err-started-clause-differs : goal.returns-in-Err-started-clause-differs
returns-in-Err-started-clause-differs g c =
    let mid = c.replay_pair-pair.result.pair in
    let begun = c.replay_pair-pair.new.taker in
    let was = subst (λ r. OnOk r (ArePairHonest mid → IsReplayed resumed_kept c.args.resuming (lines_in c.args.pair) begun)) c.in_default.is c.replay_pair-pair.ensures.done in
    refused_files c.args.rebases c.args.pair mid c.split-counting.result c.args.resuming begun c.requires was c.replay_pair-pair.ensures.lines c.split-counting.ensures.same c.split-counting.ensures.counting
    c.in-Err-started.why c.unstarted.result (subst (λ (k : KeptValue). IfDiffers c.in-Err-started.why (λ log sums. (log ≡ c.split-counting.result.counting) × (sums ≡ k.sums) × (marks_agree sums ≡ false))) c.into_server-server.ensures c.in-Err-started.ensures.differs) c.unstarted.ensures.differs

pub returns-in-Err-started-clause-crash : goal.returns-in-Err-started-clause-crash
returns-in-Err-started-clause-crash g c =
    let mid = c.replay_pair-pair.result.pair in
    let begun = c.replay_pair-pair.new.taker in
    let was = subst (λ r. OnOk r (ArePairHonest mid → IsReplayed resumed_kept c.args.resuming (lines_in c.args.pair) begun)) c.in_default.is c.replay_pair-pair.ensures.done in
    let text : List ℕ = text_in c.split-counting.result.counting in
    let disk = disk_unserved c.in-Err-started.why in
    unstarted_leaves c.args.rebases c.args.pair mid c.split-counting.result c.args.resuming begun c.requires was c.replay_pair-pair.ensures.lines c.split-counting.ensures.same c.split-counting.ensures.counting
    c.split-counting.ensures.blank c.split-counting.ensures.filled (g.R.Read.remaining c.args.input.now) (g.W.Write.contents c.args.output.now) disk _ _ c.unstarted.ensures.first c.unstarted.ensures.second c.in-Err-started.ensures.clean
    (λ clean x may. subst (λ (k : KeptValue). (log_text x ≡ text) ⊎ ((start : List ℕ) × Starts c.args.rebases k.sums start × IsBeforeOrAfter text start x)) c.into_server-server.ensures (c.in-Err-started.ensures.crash clean x may))

pub serve_turns-requires : goal.serve_turns-requires
serve_turns-requires g c =
    let mid = c.replay_pair-pair.result.pair in
    let begun = c.replay_pair-pair.new.taker in
    let was = subst (λ r. OnOk r (ArePairHonest mid → IsReplayed resumed_kept c.args.resuming (lines_in c.args.pair) begun)) c.in_default.is c.replay_pair-pair.ensures.done in
    let goes = subst (λ (k : KeptValue). HasStarted c.args.rebases k.sums c.split-counting.result.counting c.in-Ok.log) c.into_server-server.ensures c.in-Ok.ensures.started in
    let counted : c.begin_input.new.self ≡ counted_anew begun = c.begin_input.ensures ∙ ap counted_anew c.into_server-server.ensures in
    begun_apart c.args.rebases c.args.pair mid c.split-counting.result c.args.resuming begun c.requires was c.replay_pair-pair.ensures.lines c.split-counting.ensures.same c.split-counting.ensures.counting
    c.split-counting.ensures.blank c.split-counting.ensures.filled c.begin_input.new.self c.in-Ok.log goes c.in-Ok.ensures.clean counted

pub returns-in-Ok-serve_turns-clause-done : goal.returns-in-Ok-serve_turns-clause-done
returns-in-Ok-serve_turns-clause-done g c =
    let mid = c.replay_pair-pair.result.pair in
    let begun = c.replay_pair-pair.new.taker in
    let was = subst (λ r. OnOk r (ArePairHonest mid → IsReplayed resumed_kept c.args.resuming (lines_in c.args.pair) begun)) c.in_default.is c.replay_pair-pair.ensures.done in
    let goes = subst (λ (k : KeptValue). HasStarted c.args.rebases k.sums c.split-counting.result.counting c.in-Ok.log) c.into_server-server.ensures c.in-Ok.ensures.started in
    let counted : c.begin_input.new.self ≡ counted_anew begun = c.begin_input.ensures ∙ ap counted_anew c.into_server-server.ensures in
    served_files c.args.rebases c.args.pair mid c.split-counting.result c.args.resuming begun c.requires was c.replay_pair-pair.ensures.lines c.split-counting.ensures.same c.split-counting.ensures.counting
    c.split-counting.ensures.blank c.split-counting.ensures.filled c.begin_input.new.self c.in-Ok.log goes c.in-Ok.ensures.clean counted
    c.in-Ok-serve_turns.files c.into_pair.result c.serve_turns.new.server c.into_pair.ensures.clean c.in-Ok-serve_turns.ensures.apart c.into_pair.ensures.lines c.in-Ok-serve_turns.ensures.stand
    (g.R.Read.remaining c.args.input.now) (g.W.Write.contents c.args.output.now) (g.W.Write.contents c.serve_turns.new.output) c.in-Ok-serve_turns.ensures.done

pub returns-in-Ok-serve_turns-clause-crash : goal.returns-in-Ok-serve_turns-clause-crash
returns-in-Ok-serve_turns-clause-crash g c =
    let mid = c.replay_pair-pair.result.pair in
    let begun = c.replay_pair-pair.new.taker in
    let was = subst (λ r. OnOk r (ArePairHonest mid → IsReplayed resumed_kept c.args.resuming (lines_in c.args.pair) begun)) c.in_default.is c.replay_pair-pair.ensures.done in
    let goes = subst (λ (k : KeptValue). HasStarted c.args.rebases k.sums c.split-counting.result.counting c.in-Ok.log) c.into_server-server.ensures c.in-Ok.ensures.started in
    let counted : c.begin_input.new.self ≡ counted_anew begun = c.begin_input.ensures ∙ ap counted_anew c.into_server-server.ensures in
    served_leaves c.args.rebases c.args.pair mid c.split-counting.result c.args.resuming begun c.requires was c.replay_pair-pair.ensures.lines c.split-counting.ensures.same c.split-counting.ensures.counting
    c.split-counting.ensures.blank c.split-counting.ensures.filled c.begin_input.new.self c.in-Ok.log goes c.in-Ok.ensures.clean counted
    c.in-Ok-serve_turns.files c.into_pair.result c.serve_turns.new.server c.into_pair.ensures.clean c.in-Ok-serve_turns.ensures.apart c.into_pair.ensures.lines c.in-Ok-serve_turns.ensures.stand
    (g.R.Read.remaining c.args.input.now) (g.W.Write.contents c.args.output.now) (g.W.Write.contents c.serve_turns.new.output) c.in-Ok-serve_turns.ensures.done

pub returns-clause-differs : goal.returns-clause-differs
returns-clause-differs g c = no_difference c.unserved.result _ c.unserved.ensures.differs

pub returns-clause-crash : goal.returns-clause-crash
returns-clause-crash g c =
    let mid = c.replay_pair-pair.result.pair in
    let begun = c.replay_pair-pair.new.taker in
    let was = subst (λ r. OnOk r (ArePairHonest mid → IsReplayed resumed_kept c.args.resuming (lines_in c.args.pair) begun)) c.in_default.is c.replay_pair-pair.ensures.done in
    let goes = subst (λ (k : KeptValue). HasStarted c.args.rebases k.sums c.split-counting.result.counting c.in-Ok.log) c.into_server-server.ensures c.in-Ok.ensures.started in
    let counted : c.begin_input.new.self ≡ counted_anew begun = c.begin_input.ensures ∙ ap counted_anew c.into_server-server.ensures in
    stopped_leaves c.args.rebases c.args.pair mid c.split-counting.result c.args.resuming begun c.requires was c.replay_pair-pair.ensures.lines c.split-counting.ensures.same c.split-counting.ensures.counting
    c.split-counting.ensures.blank c.split-counting.ensures.filled c.begin_input.new.self c.in-Ok.log goes c.in-Ok.ensures.clean counted
    c.in-Err-serve_turns.ended (g.R.Read.remaining c.args.input.now) (g.W.Write.contents c.args.output.now) (g.W.Write.contents c.serve_turns.new.output) _ _ c.unserved.ensures.first c.unserved.ensures.second c.in-Err-serve_turns.ensures.crash
