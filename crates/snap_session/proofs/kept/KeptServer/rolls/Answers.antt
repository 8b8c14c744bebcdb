use Rattle.std.proofs.Common.{◌≡◌, ℕ, Bool, if◌then◌else◌, Result, Ok, Err, IfOk, IsTrue, sym, ap, ◌∙◌, subst}
use Rattle.snap_marks.specs.Marks.{is_mark_line}
use Rattle.snap_script.specs.Lines.{line_of}
use Rattle.snap_script.specs.declared.command.Command.TheVariants.{Roll}
use Rattle.snap_script.specs.declared.line.Line.TheVariants.{Command, Empty}
use Rattle.snap_script.specs.declared.unknown.FieldRule.TheVariants.{KnownAndId}
use Rattle.snap_session.specs.Kept.{IsWholeRoll, KeptValue}
use Rattle.snap_session.proofs.kept.KeptServer.rolls.Goals as goal

-- what the read says, where it is a roll
rolled : {E A B : Type 0} (r : Result Bool E) → (A → B) → IfOk r (λ is. IsTrue is → A) → IfOk r (λ is. IsTrue is → B)
rolled (Ok is) f h = λ yes. f (h yes)
rolled (Err e) f h = tt

pub returns-clause-rolls : goal.returns-clause-rolls
returns-clause-rolls g c = rolled c.reads_roll.result
    (λ read. subst (λ (v : KeptValue). IsWholeRoll v c.args.line.now) c.self.view_is
    (record {
      store = record { world = c.in-Some.world.now };
      stands = c.in-Some.ensures;
      reads = (λ i. if is_mark_line c.args.line.now then Ok Empty else line_of KnownAndId (sym c.is_open-opened.ensures i) c.args.line.now)
          ∙ (read ∙ ap (λ (k : ℕ). Ok (Command 0 (Roll k))) c.most_entries-most.ensures);
    }))
    c.reads_roll.ensures
