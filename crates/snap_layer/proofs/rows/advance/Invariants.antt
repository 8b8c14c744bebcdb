use Rattle.std.proofs.Common.{◌≡◌, ◌≤◌, ◌++◌, length}
use Rattle.snap_path.specs.Limits.{most_path_bytes}
use Rattle.snap_path.specs.Text.{Names}
use Rattle.snap_layer.specs.Rows.{Frames, ahead, frames_text}
use Rattle.snap_layer.proofs.rows.advance.Given as goal

-- the frames that are gone had nothing more
abbrev pub invariant-loop-frame : goal.invariant-loop-frame
invariant-loop-frame g l = record {
  ahead : (p : Names) → ahead l.slots p l.frames.items ≡ ahead l.slots p l.initial.frames.items;
  gone : (past : Frames) × (l.initial.frames.items ≡ l.frames.items ++ past);
  room : length l.frames.items ≤ l.frames.capacity;
  capacity : l.frames.capacity ≡ l.initial.frames.capacity;
  text : l.text ≡ frames_text l.frames.items;
  small : l.text ≤ most_path_bytes;
}

abbrev pub decreases-loop-frame : goal.decreases-loop-frame
decreases-loop-frame g l = length l.frames.items
