-- A mount as arguments of mount(8).
use Rattle.std.specs.Prelude.{List, [], ◌∷◌, ◌++◌, flat_map, codes}
use Rattle.snap_mount.specs.declared.mount.Mount.{Mount}
use Rattle.snap_record.specs.Labels.{Bytes}
use Rattle.snap_mount.specs.Mounts.{mount_kind_word}

-- the options joined by `,`
abbrev pub joined_options : List Bytes → Bytes
joined_options [] = []
joined_options (option ∷ options) = option ++ flat_map (λ further. codes "," ++ further) options

-- `-t <kind> -o <options> <source>`
abbrev pub mount_line : Mount → Bytes
mount_line mount = codes "-t " ++ mount_kind_word mount.kind ++ codes " -o " ++ joined_options mount.options ++ codes " " ++ mount.source
