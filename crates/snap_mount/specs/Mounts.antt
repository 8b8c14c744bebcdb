-- How a snapshot is mounted, by its kind and its ancestors.
use Rattle.std.specs.Prelude.{ℕ, ◌==◌, nat_le, not, Bool, false, ◌&&◌, List, [], ◌∷◌, ◌++◌, length, flat_map, codes, decimal}
use Rattle.std.specs.List.{list_any}
use Rattle.snap_record.specs.Labels.{Bytes}
use Rattle.snap_record.specs.declared.kind.Kind.{Kind}
use Rattle.snap_record.specs.declared.kind.Kind.TheVariants as kinds
use Rattle.snap_mount.specs.declared.mount.Mount.{Mount}
use Rattle.snap_mount.specs.declared.mount.MountKind.{MountKind}
use Rattle.snap_mount.specs.declared.mount.MountKind.TheVariants.{Bind, Overlay}

-- `:`, `,`, `\` and NUL
abbrev pub is_mark : ℕ → Bool
is_mark byte = list_any (λ mark. byte == mark) (58 ∷ 44 ∷ 92 ∷ 0 ∷ [])

-- begins with `/`, at most 1024 bytes, none of them a mark of mount options
abbrev pub is_root_text : Bytes → Bool
is_root_text [] = false
is_root_text (byte ∷ bytes) = byte == 47 && nat_le (length (byte ∷ bytes)) 1024 && not (list_any is_mark (byte ∷ bytes))

-- the word for a kind of mount
abbrev pub mount_kind_word : MountKind → Bytes
mount_kind_word Bind = codes "bind"
mount_kind_word Overlay = codes "overlay"

-- the layer directory of an id
abbrev pub layer_dir : Bytes → ℕ → Bytes
layer_dir root id = root ++ codes "/snapshots/" ++ decimal id ++ codes "/fs"

-- the layer directories, nearest first, joined by `:`
abbrev pub lower_dirs : Bytes → List ℕ → Bytes
lower_dirs root [] = []
lower_dirs root (id ∷ ids) = layer_dir root id ++ flat_map (λ parent. codes ":" ++ layer_dir root parent) ids

abbrev pub bind_mount : Bytes → Bytes → Mount
bind_mount dir access = record { kind = Bind; source = dir; options = access ∷ codes "rbind" ∷ [] }

abbrev pub overlay_mount : List Bytes → Mount
overlay_mount options = record { kind = Overlay; source = codes "overlay"; options = options }

-- the options: the work directory beside that of the layer, the layer directory, and the ancestors'
abbrev pub workdir : Bytes → ℕ → Bytes
workdir root id = codes "workdir=" ++ root ++ codes "/snapshots/" ++ decimal id ++ codes "/work"

abbrev pub upperdir : Bytes → ℕ → Bytes
upperdir root id = codes "upperdir=" ++ layer_dir root id

abbrev pub lowerdir : Bytes → List ℕ → Bytes
lowerdir root ids = codes "lowerdir=" ++ lower_dirs root ids

-- the table: own directories, or the ancestors', nearest first; a committed snapshot has no mounts
abbrev pub mounts_of : Bytes → Kind → ℕ → List ℕ → List Mount
mounts_of root kinds.Active id [] = bind_mount (layer_dir root id) (codes "rw") ∷ []
mounts_of root kinds.View id [] = bind_mount (layer_dir root id) (codes "ro") ∷ []
mounts_of root kinds.View id (parent ∷ []) = bind_mount (layer_dir root parent) (codes "ro") ∷ []
mounts_of root kinds.Active id (parent ∷ parents) = overlay_mount (workdir root id ∷ upperdir root id ∷ lowerdir root (parent ∷ parents) ∷ []) ∷ []
mounts_of root kinds.View id (parent ∷ next ∷ parents) = overlay_mount (lowerdir root (parent ∷ next ∷ parents) ∷ []) ∷ []
mounts_of root kinds.Committed id parents = []
