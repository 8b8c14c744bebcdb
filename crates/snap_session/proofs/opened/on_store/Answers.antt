use Rattle.std.proofs.Common.{◌≡◌, IfOk, sym, ◌∙◌, subst}
use Rattle.snap_script.specs.declared.command.Command.{Command}
use Rattle.snap_script.specs.declared.command.Command.TheVariants as commands
use Rattle.snap_session.specs.Commands.{on_store}
use Rattle.snap_session.proofs.opened.on_store.Goals as goal

pub returns-in-Charge-clause-done : goal.returns-in-Charge-clause-done
returns-in-Charge-clause-done g c =
    subst (λ (m : Command). IfOk c.charge.result (λ answer. on_store (record { world = c.args.world.now }) c.args.n m ≡ (c.charge.new.world, answer)))
    ((λ i. commands.Charge (c.as_str.ensures i) (c.as_str-in-Charge.ensures i) c.in-Charge.need c.in-Charge.want) ∙ sym c.in-Charge.is)
    c.charge.ensures.done

pub returns-in-Commit-clause-done : goal.returns-in-Commit-clause-done
returns-in-Commit-clause-done g c =
    subst (λ (m : Command). IfOk c.commit.result (λ answer. on_store (record { world = c.args.world.now }) c.args.n m ≡ (c.commit.new.world, answer)))
    ((λ i. commands.Commit (c.as_str-in-Commit.ensures i) (c.as_str-in-Commit-2.ensures i) c.in-Commit.name c.in-Commit.lease c.in-Commit.labels) ∙ sym c.in-Commit.is)
    c.commit.ensures.done

pub returns-in-File-clause-done : goal.returns-in-File-clause-done
returns-in-File-clause-done g c =
    subst (λ (m : Command). IfOk c.file.result (λ answer. on_store (record { world = c.args.world.now }) c.args.n m ≡ (c.file.new.world, answer)))
    ((λ i. commands.File (c.as_str-in-File.ensures i) (c.as_str-in-File-2.ensures i) c.in-File.operation c.in-File.extra) ∙ sym c.in-File.is)
    c.file.ensures.done

pub returns-in-Batch-clause-done : goal.returns-in-Batch-clause-done
returns-in-Batch-clause-done g c =
    subst (λ (m : Command). IfOk c.batch.result (λ answer. on_store (record { world = c.args.world.now }) c.args.n m ≡ (c.batch.new.world, answer)))
    ((λ i. commands.Batch (c.as_str-in-Batch.ensures i) (c.as_str-in-Batch-2.ensures i) c.in-Batch.need c.in-Batch.ops c.in-Batch.whole) ∙ sym c.in-Batch.is)
    c.batch.ensures.done
