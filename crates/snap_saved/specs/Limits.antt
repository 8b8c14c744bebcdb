-- The tests of the limits of what stands in a layer.
use Rattle.std.specs.Prelude.{ℕ, Bool, true, ◌&&◌, nat_le, List, length, Option}
use Rattle.std.specs.Option.{option_map_or}
use Rattle.snap_path.specs.Limits.{most_mode, most_file_bytes, most_sized_bytes}
use Rattle.snap_layer.specs.declared.content.Content.{Content}
use Rattle.snap_layer.specs.declared.content.Content.TheVariants.{Bytes, Sized}
use Rattle.snap_layer.specs.declared.node.Meta.{Meta}
use Rattle.snap_layer.specs.declared.node.Body.{Body}
use Rattle.snap_layer.specs.declared.node.Body.TheVariants.{File, Symlink}
use Rattle.snap_layer.specs.Layers.{is_target}

-- the mode is at most octal 7777
abbrev pub is_meta : Meta → Bool
is_meta meta = nat_le meta.mode most_mode

-- a digest has at most 1024 bytes
abbrev pub is_digest : Option (List ℕ) → Bool
is_digest digest = option_map_or (λ bytes. nat_le (length bytes) 1024) digest true

-- a file may have the content
abbrev pub is_content : Content → Bool
is_content (Bytes bytes) = nat_le (length bytes) most_file_bytes
is_content (Sized size digest) = nat_le size most_sized_bytes && is_digest digest

-- a file or symlink may be this
abbrev pub is_body : Body → Bool
is_body (File meta content) = is_meta meta && is_content content
is_body (Symlink target) = is_target target
