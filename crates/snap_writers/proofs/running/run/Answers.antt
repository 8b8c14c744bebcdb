use Rattle.std.proofs.Common.{Ok, Err, subst}
use Rattle.snap_call.specs.declared.refusal.Refusal.{Refusal}
use Rattle.snap_book.specs.declared.charger.ApplyFault.{ApplyFault}
use Rattle.snap_book.specs.declared.charger.ApplyFault.TheVariants.{File, Charge}
use Rattle.snap_book.specs.Charging.{HasAppliedBy}
use Rattle.snap_store.specs.Values.{HasChargedShare, HasRefusedShare}
use Rattle.snap_writers.proofs.Leaving.{left, ran}
use Rattle.snap_writers.proofs.running.run.Goals as goal

pub returns-in-Ok-clause-done : goal.returns-in-Ok-clause-done
returns-in-Ok-clause-done g c = (left c.args.session.now c.apply_by.new.ledger c.args.active.now c.apply_by.new.self c.args.op.now c.args.extra (Ok _) c.in-Ok.ensures).done

pub returns-in-Ok-clause-same : goal.returns-in-Ok-clause-same
returns-in-Ok-clause-same g c = (left c.args.session.now c.apply_by.new.ledger c.args.active.now c.apply_by.new.self c.args.op.now c.args.extra (Ok _) c.in-Ok.ensures).same

pub returns-in-Ok-clause-room : goal.returns-in-Ok-clause-room
returns-in-Ok-clause-room g c = (left c.args.session.now c.apply_by.new.ledger c.args.active.now c.apply_by.new.self c.args.op.now c.args.extra (Ok _) c.in-Ok.ensures).room

pub returns-in-Ok-clause-run : goal.returns-in-Ok-clause-run
returns-in-Ok-clause-run g c = ran c.args.session.now c.apply_by.new.ledger c.args.active.now c.apply_by.new.self c.args.op.now c.args.extra (Ok _) c.in-Ok.ensures

pub returns-in-File-clause-unchanged : goal.returns-in-File-clause-unchanged
returns-in-File-clause-unchanged g c = (left c.args.session.now c.apply_by.new.ledger c.args.active.now c.apply_by.new.self c.args.op.now c.args.extra (Err (File c.in-File.error)) (subst (λ (x : ApplyFault Refusal). HasAppliedBy HasChargedShare HasRefusedShare c.args.session.now c.apply_by.new.ledger c.args.active.now c.apply_by.new.self c.args.op.now c.args.extra (Err x)) c.in-File.is c.in-Err.ensures)).unchanged

pub returns-in-File-clause-same : goal.returns-in-File-clause-same
returns-in-File-clause-same g c = (left c.args.session.now c.apply_by.new.ledger c.args.active.now c.apply_by.new.self c.args.op.now c.args.extra (Err (File c.in-File.error)) (subst (λ (x : ApplyFault Refusal). HasAppliedBy HasChargedShare HasRefusedShare c.args.session.now c.apply_by.new.ledger c.args.active.now c.apply_by.new.self c.args.op.now c.args.extra (Err x)) c.in-File.is c.in-Err.ensures)).same

pub returns-in-File-clause-room : goal.returns-in-File-clause-room
returns-in-File-clause-room g c = (left c.args.session.now c.apply_by.new.ledger c.args.active.now c.apply_by.new.self c.args.op.now c.args.extra (Err (File c.in-File.error)) (subst (λ (x : ApplyFault Refusal). HasAppliedBy HasChargedShare HasRefusedShare c.args.session.now c.apply_by.new.ledger c.args.active.now c.apply_by.new.self c.args.op.now c.args.extra (Err x)) c.in-File.is c.in-Err.ensures)).room

pub returns-in-File-clause-run : goal.returns-in-File-clause-run
returns-in-File-clause-run g c = ran c.args.session.now c.apply_by.new.ledger c.args.active.now c.apply_by.new.self c.args.op.now c.args.extra (Err (File c.in-File.error)) (subst (λ (x : ApplyFault Refusal). HasAppliedBy HasChargedShare HasRefusedShare c.args.session.now c.apply_by.new.ledger c.args.active.now c.apply_by.new.self c.args.op.now c.args.extra (Err x)) c.in-File.is c.in-Err.ensures)

pub returns-in-Charge-clause-unchanged : goal.returns-in-Charge-clause-unchanged
returns-in-Charge-clause-unchanged g c = (left c.args.session.now c.apply_by.new.ledger c.args.active.now c.apply_by.new.self c.args.op.now c.args.extra (Err (Charge c.in-Charge.why)) (subst (λ (x : ApplyFault Refusal). HasAppliedBy HasChargedShare HasRefusedShare c.args.session.now c.apply_by.new.ledger c.args.active.now c.apply_by.new.self c.args.op.now c.args.extra (Err x)) c.in-Charge.is c.in-Err.ensures)).unchanged

pub returns-in-Charge-clause-same : goal.returns-in-Charge-clause-same
returns-in-Charge-clause-same g c = (left c.args.session.now c.apply_by.new.ledger c.args.active.now c.apply_by.new.self c.args.op.now c.args.extra (Err (Charge c.in-Charge.why)) (subst (λ (x : ApplyFault Refusal). HasAppliedBy HasChargedShare HasRefusedShare c.args.session.now c.apply_by.new.ledger c.args.active.now c.apply_by.new.self c.args.op.now c.args.extra (Err x)) c.in-Charge.is c.in-Err.ensures)).same

pub returns-in-Charge-clause-room : goal.returns-in-Charge-clause-room
returns-in-Charge-clause-room g c = (left c.args.session.now c.apply_by.new.ledger c.args.active.now c.apply_by.new.self c.args.op.now c.args.extra (Err (Charge c.in-Charge.why)) (subst (λ (x : ApplyFault Refusal). HasAppliedBy HasChargedShare HasRefusedShare c.args.session.now c.apply_by.new.ledger c.args.active.now c.apply_by.new.self c.args.op.now c.args.extra (Err x)) c.in-Charge.is c.in-Err.ensures)).room

pub returns-in-Charge-clause-run : goal.returns-in-Charge-clause-run
returns-in-Charge-clause-run g c = ran c.args.session.now c.apply_by.new.ledger c.args.active.now c.apply_by.new.self c.args.op.now c.args.extra (Err (Charge c.in-Charge.why)) (subst (λ (x : ApplyFault Refusal). HasAppliedBy HasChargedShare HasRefusedShare c.args.session.now c.apply_by.new.ledger c.args.active.now c.apply_by.new.self c.args.op.now c.args.extra (Err x)) c.in-Charge.is c.in-Err.ensures)
