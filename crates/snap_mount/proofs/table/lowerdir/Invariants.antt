use Rattle.std.proofs.Common.{◌≡◌, ◌++◌, take, flat_map, codes, string_bytes}
use Rattle.snap_mount.specs.Mounts.{layer_dir}
use Rattle.snap_mount.proofs.table.lowerdir.Given as goal

abbrev pub invariant-loop-id : goal.invariant-loop-id
invariant-loop-id l = string_bytes l.text ≡ codes "lowerdir=" ++ (layer_dir l.root l.fn.first ++ flat_map (λ parent. codes ":" ++ layer_dir l.root parent) (take l.id-index l.rest))
