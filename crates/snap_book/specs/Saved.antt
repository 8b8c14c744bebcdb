-- A saved snapshot that is active, and its layer.
use Rattle.snap_layer.specs.Tree.{Tree}
use Rattle.snap_usage.specs.Counted.{Covers, count_of}
use Rattle.snap_call.specs.declared.saved.SavedContent.{SavedContent}
use Rattle.snap_call.specs.declared.saved.SavedContent.TheVariants.{Active}

-- it is active, and what it is charged covers the layer
abbrev pub IsActiveFor : SavedContent → Tree → Type 0
IsActiveFor (Active slot charged) layer = Covers charged (count_of layer)
IsActiveFor content layer = ⊥
