-- The kinds of a snapshot.
use Rattle.std.specs.Prelude.{ℕ, List, codes}
use Rattle.snap_record.specs.declared.kind.Kind.{Kind}
use Rattle.snap_record.specs.declared.kind.Kind.TheVariants.{View, Active, Committed}

-- the word for a kind
abbrev pub kind_word : Kind → List ℕ
kind_word View = codes "View"
kind_word Active = codes "Active"
kind_word Committed = codes "Committed"
