-- What a refused operation is about, over the layers that it was refused on.
use Rattle.std.specs.Prelude.{Bool, true, false, List, Option, None, Some}
use Rattle.std.specs.Option.{option_map_or}
use Rattle.snap_path.specs.Text.{Names}
use Rattle.snap_layer.specs.Tree.{Tree}
use Rattle.snap_merge.specs.Walk.{walk_error}
use Rattle.snap_upper.specs.declared.op.Op.{Op}
use Rattle.snap_upper.specs.declared.op.Op.TheVariants as ops
use Rattle.snap_record.specs.Labels.{Bytes}
use Rattle.snap_world.specs.World.{WorldValue}
use Rattle.snap_world.specs.Stacks.{stack_of}
use Rattle.snap_script.specs.declared.answer.Answer.{Answer}
use Rattle.snap_script.specs.declared.answer.Answer.TheVariants as answers
use Rattle.snap_script.specs.declared.fault.Field.{Field}
use Rattle.snap_script.specs.declared.fault.Field.TheVariants as fields
use Rattle.snap_script.specs.declared.refused.Refused.{Refused}
use Rattle.snap_script.specs.declared.refused.Refused.TheVariants as refused
use Rattle.snap_script.specs.About.{about, operation_subjects}
use Rattle.snap_session.specs.Found.{found_or_else}

-- the first of two paths to which the walk fails, if one does: an operation tests both walks before all else (`tests` of snap_upper)
abbrev pub failed_walk : List Tree → Names → Names → Option Field
failed_walk layers from to = option_map_or (λ e. Some fields.From) (walk_error layers from) (option_map_or (λ e. Some fields.To) (walk_error layers to) None)

-- the same of an operation; one with a single path has none
abbrev pub failed_way : List Tree → Op → Option Field
failed_way layers (ops.Link from to) = failed_walk layers from to
failed_way layers (ops.Rename from to) = failed_walk layers from to
failed_way layers op = None

-- the same over the layers of a snapshot, if it shows some
abbrev pub failed_way_in : WorldValue → Bytes → Bytes → Op → Option Field
failed_way_in w namespace key op = found_or_else (λ layers. failed_way layers op) (λ why. None) (stack_of w namespace key)

-- the field of an operation that its refusal is about: of an error of the file the path to which the walk fails, else what the error is about where both walks succeed
abbrev pub about_operation : WorldValue → Bytes → Bytes → Op → Refused → Option Field
about_operation w namespace key op (refused.File error) = option_map_or Some (failed_way_in w namespace key op) (about (operation_subjects op) (refused.File error))
about_operation w namespace key op why = about (operation_subjects op) why

-- ---- what private clauses cite

-- the answer says already what its refusal is about
abbrev pub is_told : Answer → Bool
is_told (answers.Refused why of) = true
is_told (answers.Batch done count share stopped) = true
is_told answer = false
