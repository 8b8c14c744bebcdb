-- A store that the lines of a saved one make.
use Rattle.std.proofs.Common.{◌≡◌, Option, None, Some, Result, Ok, Err, refl, ap, ◌∙◌, subst}
use Rattle.std.specs.Prelude.{IfOk}
use Rattle.std.specs.Option.{option_map_or}
use Rattle.snap_call.specs.Results.{◌>>=◌}
use Rattle.snap_world.specs.Restored.{SavedWorldValue, put_leases_from, put_snapshots_from, restored}
use Rattle.snap_world.specs.Saved.{finish_answer, open_answer, opened_with}
use Rattle.snap_world.specs.World.{WorldValue}
use Rattle.snap_pieces.specs.declared.field.LineField.{LineField}
use Rattle.snap_pieces.specs.declared.line.Line.{Line}
use Rattle.snap_checkpoint.specs.Lines.{LineGatheringValue, line_put}
use Rattle.snap_script.specs.declared.answer.Answer.TheVariants as answers
use Rattle.snap_script.specs.declared.restore.RestoreRefusal.{RestoreRefusal}
use Rattle.snap_session.specs.Opened.{ScriptValue}
use Rattle.snap_session.specs.Restoring.{begun_again, line_given, line_taken, restored_by, store_restored}

pub if_ok : {X E : Type 0} {P Q : X → Type 0} (r : Result X E) → ((x : X) → P x → Q x) → IfOk r P → IfOk r Q
if_ok (Ok x) f p = f x p
if_ok (Err e) f p = tt

bind_if : {A B E : Type 0} (P : B → Type 0) (r : Result A E) (f : A → Result B E) → ((a : A) → IfOk (f a) P) → IfOk (r >>= f) P
bind_if P (Ok a) f h = h a
bind_if P (Err e) f h = tt

begins : (saved : SavedWorldValue) → IfOk (restored saved) (λ w. w.state ≡ w.opening)
begins saved =
    bind_if _ (open_answer saved.config saved.entries) _ (λ head.
    bind_if _ (put_snapshots_from 0 (opened_with saved.config saved.entries) saved.snapshots) _ (λ put.
    bind_if _ (put_leases_from 0 put.state saved.leases) _ (λ state.
    bind_if _ (finish_answer (record put { state = state }) saved.next_id saved.config.journal) _ (λ end. refl))))

-- the round of a restored world begins where it stands
pub begins_there : (saved : SavedWorldValue) (w : WorldValue) → restored saved ≡ Ok w → w.state ≡ w.opening
begins_there saved w is = subst (λ r. IfOk r (λ w. w.state ≡ w.opening)) is (begins saved)

-- the last line of a saved store
pub restored_at_end : (s : ScriptValue) (r : Result Line LineField) (line : Line) (g : Option LineGatheringValue) (saved : SavedWorldValue) → s.lost ≡ None → r ≡ Ok line → line_put s.gathered line ≡ Ok (g, Some saved)
    → restored_by s r ≡ store_restored (record s { gathered = g }) (begun_again saved)
restored_at_end s r line g saved none is put =
    ap (λ (o : Option RestoreRefusal). option_map_or (λ why. (s, answers.BadRestore why)) o (line_given s r)) none
    ∙ ap (λ l. line_given s l) is
    ∙ ap (λ x. line_taken s x) put
