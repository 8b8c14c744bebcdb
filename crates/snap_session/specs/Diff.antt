-- What the layer of a snapshot changes; cited, through Commands.antt, by the public clauses of `act` and `replay`.
use Rattle.std.specs.Prelude.{ℕ, ◌==◌, if◌then◌else◌, List, [], length, Option, Some, None, Result, Ok, Err}
use Rattle.std.specs.Option.{option_map_or}
use Rattle.snap_path.specs.Text.{Names, is_path, path_names}
use Rattle.snap_layer.specs.Tree.{Tree}
use Rattle.snap_merge.specs.declared.error.FsError.{FsError}
use Rattle.snap_merge.specs.declared.error.FsError.TheVariants.{BadPath}
use Rattle.snap_diff.specs.Changes.{changes, page}
use Rattle.snap_record.specs.Labels.{Bytes}
use Rattle.snap_call.specs.declared.refusal.Refusal.TheVariants.{BadArgument}
use Rattle.snap_call.specs.Forms.{is_page}
use Rattle.snap_world.specs.World.{WorldValue}
use Rattle.snap_world.specs.Stacks.{own_of, stack_of}
use Rattle.snap_script.specs.declared.answer.Answer.{Answer}
use Rattle.snap_script.specs.declared.answer.Answer.TheVariants as answers
use Rattle.snap_session.specs.Found.{found_or_else, refusal_answer}

-- the path that a page begins after: none where the text is empty, an error where it is no path
abbrev pub after_of : Bytes → Result (Option Names) FsError
after_of text = if length text == 0 then Ok None else if is_path text then Ok (Some (path_names text)) else Err BadPath

-- a page of what the layer changes of what those below it show, or the error; without a layer nothing is changed
abbrev pub page_of : ℕ → Option (Tree × List Tree) → Result (Option Names) FsError → Answer
page_of most own after = found_or_else (λ from. answers.Diff (option_map_or (λ o. page from most (changes o.0 o.1)) own [])) answers.Failed after

-- the page of a snapshot's changes after a path, of 1 to 64 of them; a snapshot without a layer of its own is a view
abbrev pub diff : WorldValue → Bytes → Bytes → Bytes → ℕ → Answer
diff w namespace key after most =
    if is_page most
    then option_map_or (λ own. page_of most (Some own) (after_of after)) (own_of w namespace key) (found_or_else (λ layers. page_of most None (after_of after)) refusal_answer (stack_of w namespace key))
    else refusal_answer BadArgument
