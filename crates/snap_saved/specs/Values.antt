-- What a layer is saved as.
use Rattle.std.specs.Prelude.{ℕ, Bool, List}
use Rattle.snap_path.specs.Text.{Names}
use Rattle.snap_layer.specs.declared.node.Meta.{Meta}
use Rattle.snap_layer.specs.declared.node.Body.{Body}
use Rattle.snap_saved.specs.declared.dir.SavedDir.{SavedDir}

-- a file or symlink: its number, its meta and content or its target, and its names
pub record SavedFileValue : Type 0 where
  pub number : ℕ
  pub body : Body
  pub names : List Names

-- the meta and the mark of the root, the other directories, the whiteouts, the files and symlinks, the next number, and the most inodes
pub record SavedValue : Type 0 where
  pub meta : Meta
  pub opaque : Bool
  pub dirs : List SavedDir
  pub whiteouts : List Names
  pub files : List SavedFileValue
  pub next : ℕ
  pub most : ℕ
