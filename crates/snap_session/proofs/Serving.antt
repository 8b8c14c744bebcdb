-- No line ends a server.
use Rattle.std.specs.Prelude.{IfErr, IfSome}
use Rattle.std.proofs.Common.{◌≡◌, ℕ, List, [], ◌∷◌, Option, None, Some, Result, Ok, Err, refl, sym, ◌∙◌}
use Rattle.snap_path.specs.declared.memory.NoMemory.{NoMemory}
use Rattle.snap_lines.specs.Lines.{lines_of}
use Rattle.snap_lines.specs.Transcripts.{Stops, effect_at, transcript, transcript_from}
use Rattle.snap_lines.specs.declared.stop.Stop.{Stop}
use Rattle.snap_lines.specs.declared.stop.Stop.TheVariants.{Line, InputFailed, OutputFailed, OutOfMemory}
use Rattle.snap_lines.proofs.ReadLaws.{reading_not_begun}
use Rattle.snap_session.specs.Service.{HasStoppedServing, ServerValue, idle, served}

-- lines without a limit have no fault
no_fault_from : (lines : List (List ℕ)) (n : ℕ) (s : ServerValue) → (transcript_from served (record { lines = n; left = None; value = s }) lines).fault ≡ None
unfolding effect_at served
no_fault_from [] n s = refl
no_fault_from (line ∷ lines) n s = no_fault_from lines _ _

no_fault : (bytes : List ℕ) → (transcript None served idle bytes).fault ≡ None
unfolding transcript
no_fault bytes = no_fault_from (lines_of bytes) 0 idle

served_on : (bytes : List ℕ) (left : Option (List ℕ)) (stop : Stop) (before after : Option (List ℕ)) → Stops None served idle bytes left stop before after → HasStoppedServing bytes left stop before after
served_on bytes left (Line f) before after h =
    let none : None ≡ Some f = sym (no_fault bytes) ∙ h.0 in
    absurd (cc none)
served_on bytes left InputFailed before after h = h
served_on bytes left OutputFailed before after h = h
served_on bytes left (OutOfMemory want) before after h = h

pub never_at_a_line : (r : Result Unit Stop) (remaining left before after : Option (List ℕ)) → IfErr r (λ stop. IfSome remaining (λ bytes. Stops None served idle bytes left stop before after))
    → IfErr r (λ stop. IfSome remaining (λ bytes. HasStoppedServing bytes left stop before after))
never_at_a_line (Ok done) remaining left before after h = tt
never_at_a_line (Err stop) None left before after h = tt
never_at_a_line (Err stop) (Some bytes) left before after h = served_on bytes left stop before after h

-- nothing was read
pub not_begun : (want : NoMemory) (a d x : Option (List ℕ)) → IfSome a (λ bytes. HasStoppedServing bytes d (OutOfMemory want) x x)
not_begun want None d x = tt
not_begun want (Some bytes) d x = reading_not_begun None served idle want (Some bytes) d x
