-- The names in a directory (readdir(3); overlayfs.rst, "readdir").
use Rattle.std.specs.Prelude.{◌≡◌, ℕ, List, [], ◌∷◌, ◌++◌, filter, Option, Some, None, is_some, Result, Ok, Err}
use Rattle.std.specs.BTreeSet.{insert_key}
use Rattle.std.specs.List.{list_any}
use Rattle.std.specs.List.Sorted.{IsStrictlySortedBy}
use Rattle.std.specs.Str.{bytes_eq}
use Rattle.snap_path.specs.Text.{Names}
use Rattle.snap_layer.specs.Rows.{name_cmp}
use Rattle.snap_layer.specs.Tree.{Tree, names_below}
use Rattle.snap_merge.specs.declared.error.FsError.{FsError}
use Rattle.snap_merge.specs.declared.error.FsError.TheVariants.{NotFound, NotDir}
use Rattle.snap_merge.specs.Objects.{Object, dir, seen}
use Rattle.snap_merge.specs.Walk.{walk_error, unless}

-- the names, and these ones at their places in the order, each once
abbrev pub put_names : Names → Names → Names
put_names [] ns = ns
put_names (m ∷ ms) ns = put_names ms (insert_key name_cmp ns m)

-- the names, and those that the layers have in the directory, whiteouts among them
abbrev pub gathered : List Tree → Names → Names → Names
gathered [] p ns = ns
gathered (t ∷ ts) p ns = gathered ts p (put_names (names_below p t.entries) ns)

-- the names in the directory at which something is seen
abbrev pub names : List Tree → Names → Names
names s p = filter (λ n. is_some (seen s (p ++ n ∷ []))) (gathered s p [])

-- the names of what is seen, or why there are none
abbrev pub names_of : List Tree → Names → Option Object → Result Names FsError
names_of s p None = Err NotFound
names_of s p (Some (dir meta)) = Ok (names s p)
names_of s p (Some other) = Err NotDir

-- the walk's error, or the names in the directory, or why there are none
abbrev pub listing : List Tree → Names → Result Names FsError
listing s p = unless (walk_error s p) (names_of s p (seen s p))

-- exactly the names at which something is seen in the directory, each once and in byte order
pub record IsListing (s : List Tree) (p ns : Names) : Type 0 where
  pub exactly : (n : List ℕ) → list_any (bytes_eq n) ns ≡ is_some (seen s (p ++ n ∷ []))
  pub in_order : IsStrictlySortedBy name_cmp ns
