use Rattle.std.proofs.Common.{◌≡◌, ◌++◌, length}
use Rattle.std.specs.Vec.Iter.{into_iter_items, into_iter_len}
use Rattle.snap_layer.specs.Layers.{IsLayer}
use Rattle.snap_saved.specs.Saved.{saved}
use Rattle.snap_saved.specs.Refusing.{HasLeastNext}
use Rattle.snap_saved.specs.Restored.{put_each, put_file}
use Rattle.snap_saved.proofs.restoring.add_files.Given as goal

-- the first files are there, and with the others all are
abbrev pub invariant-loop-file : goal.invariant-loop-file
invariant-loop-file l = record {
  layer : IsLayer l.layer;
  is : saved l.layer ≡ record (saved l.fn.layer) { files = l.yielded; next = l.layer.next };
  tight : HasLeastNext l.layer;
  files : l.yielded ++ into_iter_items l.file-iterator ≡ l.fn.files.items;
  left : put_each put_file l.place l.layer (into_iter_items l.file-iterator) ≡ put_each put_file 0 l.fn.layer l.fn.files.items;
  count : into_iter_len l.file-iterator ≡ length (into_iter_items l.file-iterator);
  place : l.place ≡ length l.yielded;
}
