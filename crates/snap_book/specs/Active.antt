-- What clauses see of a snapshot in its writer's hands.
use Rattle.std.specs.Prelude.{ℕ, List, [], ◌∷◌, Option, Some}
use Rattle.snap_layer.specs.declared.node.Meta.{Meta}
use Rattle.snap_layer.specs.declared.node.Node.{Node}
use Rattle.snap_layer.specs.declared.node.Node.TheVariants.{Dir}
use Rattle.snap_layer.specs.Edits.{root_within}
use Rattle.snap_layer.specs.Tree.{Tree, at}
use Rattle.snap_ledger.specs.States.{ShareState}
use Rattle.snap_record.specs.Labels.{Bytes}

-- an open snapshot: the place of its namespace, its key, the layers below its own, nearest first, its own layer, and its share
pub record ActiveValue : Type 0 where
  pub namespace : ℕ
  pub key : Bytes
  pub lowers : List Tree
  pub layer : Tree
  pub share : ShareState

-- what a directory has besides its kind; nothing, and all else, has the permission bits 755 in octal
abbrev pub meta_of_root : Option Node → Meta
meta_of_root (Some (Dir meta opaque)) = meta
meta_of_root other = record { mode = 493 }

-- what the root of a new layer over these has besides its kind: all that the nearest one's root has, and the permission bits 755 in octal where there is none
abbrev pub root_meta : List Tree → Meta
root_meta [] = record { mode = 493 }
root_meta (layer ∷ layers) = meta_of_root (at layer [])

-- the layer of a new snapshot over these: a root alone, of at most `inodes` inodes
abbrev pub fresh : ℕ → List Tree → Tree
fresh inodes lowers = root_within inodes (root_meta lowers) 1
