-- Which snapshots a filter asks for.
use Rattle.std.specs.Prelude.{Bool, true, false, ◌&&◌, Option, None, List, [], bytes_eq}
use Rattle.std.specs.List.{list_all}
use Rattle.std.specs.Option.{option_map_or}
use Rattle.snap_record.specs.Labels.{Bytes, Label, value_of}
use Rattle.snap_record.specs.declared.info.Info.{Info}
use Rattle.snap_record.specs.declared.kind.Kind.{Kind}
use Rattle.snap_record.specs.declared.kind.Kind.TheVariants.{View, Active, Committed}
use Rattle.snap_record.specs.declared.filter.Filter.{Filter}
use Rattle.snap_record.specs.declared.filter.LabelFilter.{LabelFilter}

-- a text that is given is this one; a part that isn't given asks for nothing
abbrev pub is_text_asked : Option Bytes → Bytes → Bool
is_text_asked part text = option_map_or (bytes_eq text) part true

-- the two kinds are the same
abbrev pub is_same_kind : Kind → Kind → Bool
is_same_kind View View = true
is_same_kind Active Active = true
is_same_kind Committed Committed = true
is_same_kind kind other = false

-- a kind that is given is this one
abbrev pub is_kind_asked : Option Kind → Kind → Bool
is_kind_asked part kind = option_map_or (is_same_kind kind) part true

-- the label is there, with the value that is asked for, if one is
abbrev pub has_label : List Label → LabelFilter → Bool
has_label labels filter = option_map_or (is_text_asked filter.value) (value_of labels filter.key) false

-- the snapshot has every part of the filter (containerd's filters of Snapshotter.Walk, in this form by choice)
abbrev pub is_match : Info → Filter → Bool
is_match info filter =
    is_text_asked filter.name info.name && is_text_asked filter.parent info.parent && is_kind_asked filter.kind info.kind && list_all (has_label info.labels) filter.labels

-- a filter without a part, which asks for all snapshots
abbrev pub no_filter : Filter
no_filter = record { name = None; parent = None; kind = None; labels = [] }
