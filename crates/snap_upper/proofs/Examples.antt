-- Operations over a lower layer, computed.
use Rattle.std.proofs.Common.{◌≡◌, ℕ, true, false, List, [], ◌∷◌, Ok, Err, refl}
use Rattle.snap_layer.specs.declared.node.Meta.{Meta}
use Rattle.snap_layer.specs.declared.node.Node.TheVariants.{Dir, File, Whiteout}
use Rattle.snap_layer.specs.declared.content.Content.TheVariants.{Bytes}
use Rattle.snap_layer.specs.declared.node.Body.TheVariants as body_kinds
use Rattle.snap_layer.specs.Tree.{Tree}
use Rattle.snap_layer.specs.Counts.{default_inodes}
use Rattle.snap_layer.specs.Edits.{root_only}
use Rattle.snap_merge.specs.declared.error.FsError.TheVariants.{Exists, IsDir, NotDir, NotFound, Invalid, CrossDevice, NotPermitted}
use Rattle.snap_upper.specs.declared.op.Op.TheVariants as op
use Rattle.snap_upper.specs.After.{after}

-- what a node of the mode has
abbrev meta : ℕ → Meta
meta mode = record { mode = mode }

abbrev d : List ℕ
d = 100 ∷ []

abbrev f : List ℕ
f = 102 ∷ []

abbrev e : List ℕ
e = 101 ∷ []

abbrev g : List ℕ
g = 103 ∷ []

-- /d with mode 448, and in it one file of two bytes with the names f and g
abbrev lower : Tree
lower = record {
  entries = ([], Dir (meta 493) false) ∷ (d ∷ [], Dir (meta 448) false) ∷ (d ∷ f ∷ [], File 7) ∷ (d ∷ g ∷ [], File 7) ∷ [];
  bodies = (7, body_kinds.File (meta 420) (Bytes (104 ∷ 105 ∷ []))) ∷ [];
  next = 8;
  most = default_inodes;
}

abbrev empty : Tree
empty = root_only (meta 493) 1

-- a directory is missing above: it is added with its mode, not opaque
mkdir_below : after (op.Mkdir (d ∷ e ∷ []) 511) empty (lower ∷ []) ≡ Ok (record {
  entries = ([], Dir (meta 493) false) ∷ (d ∷ [], Dir (meta 448) false) ∷ (d ∷ e ∷ [], Dir (meta 511) false) ∷ [];
  bodies = [];
  next = 1;
  most = default_inodes;
})
mkdir_below = refl

-- in place of a whiteout it is opaque
mkdir_over_whiteout : after (op.Mkdir (d ∷ []) 511) (record { entries = ([], Dir (meta 493) false) ∷ (d ∷ [], Whiteout) ∷ []; bodies = []; next = 1; most = default_inodes }) (lower ∷ []) ≡ Ok (record {
  entries = ([], Dir (meta 493) false) ∷ (d ∷ [], Dir (meta 511) true) ∷ [];
  bodies = [];
  next = 1;
  most = default_inodes;
})
mkdir_over_whiteout = refl

-- a lower file is copied up under the next number, and its other name stays below
write_lower : after (op.Write (d ∷ f ∷ []) 3 (33 ∷ [])) empty (lower ∷ []) ≡ Ok (record {
  entries = ([], Dir (meta 493) false) ∷ (d ∷ [], Dir (meta 448) false) ∷ (d ∷ f ∷ [], File 1) ∷ [];
  bodies = (1, body_kinds.File (meta 420) (Bytes (104 ∷ 105 ∷ 0 ∷ 33 ∷ []))) ∷ [];
  next = 2;
  most = default_inodes;
})
write_lower = refl

-- no bytes copy up alone, wherever they are written
write_nothing : after (op.Write (d ∷ f ∷ []) 9 []) empty (lower ∷ []) ≡ Ok (record {
  entries = ([], Dir (meta 493) false) ∷ (d ∷ [], Dir (meta 448) false) ∷ (d ∷ f ∷ [], File 1) ∷ [];
  bodies = (1, body_kinds.File (meta 420) (Bytes (104 ∷ 105 ∷ []))) ∷ [];
  next = 2;
  most = default_inodes;
})
write_nothing = refl

create_seen : after (op.Create (d ∷ g ∷ []) 4096) empty (lower ∷ []) ≡ Err Exists
create_seen = refl

write_to_directory : after (op.Write (d ∷ []) 0 []) empty (lower ∷ []) ≡ Err IsDir
write_to_directory = refl

create_nowhere : after (op.Create (g ∷ f ∷ []) 420) empty (lower ∷ []) ≡ Err NotFound
create_nowhere = refl

-- a lower file moves under the next number, and a whiteout hides its old name
rename_lower : after (op.Rename (d ∷ f ∷ []) (d ∷ e ∷ [])) empty (lower ∷ []) ≡ Ok (record {
  entries = ([], Dir (meta 493) false) ∷ (d ∷ [], Dir (meta 448) false) ∷ (d ∷ e ∷ [], File 1) ∷ (d ∷ f ∷ [], Whiteout) ∷ [];
  bodies = (1, body_kinds.File (meta 420) (Bytes (104 ∷ 105 ∷ []))) ∷ [];
  next = 2;
  most = default_inodes;
})
rename_lower = refl

-- it does so in place of its other name too: below they are two files
rename_to_other_name : after (op.Rename (d ∷ f ∷ []) (d ∷ g ∷ [])) empty (lower ∷ []) ≡ Ok (record {
  entries = ([], Dir (meta 493) false) ∷ (d ∷ [], Dir (meta 448) false) ∷ (d ∷ f ∷ [], Whiteout) ∷ (d ∷ g ∷ [], File 1) ∷ [];
  bodies = (1, body_kinds.File (meta 420) (Bytes (104 ∷ 105 ∷ []))) ∷ [];
  next = 2;
  most = default_inodes;
})
rename_to_other_name = refl

-- a directory is opaque over a lower one
rename_over_whiteout : after (op.Rename (e ∷ []) (d ∷ [])) (record { entries = ([], Dir (meta 493) false) ∷ (d ∷ [], Whiteout) ∷ (e ∷ [], Dir (meta 511) false) ∷ (e ∷ g ∷ [], File 1) ∷ []; bodies = (1, body_kinds.File (meta 420) (Bytes [])) ∷ []; next = 2; most = default_inodes }) (lower ∷ []) ≡ Ok (record {
  entries = ([], Dir (meta 493) false) ∷ (d ∷ [], Dir (meta 511) true) ∷ (d ∷ g ∷ [], File 1) ∷ [];
  bodies = (1, body_kinds.File (meta 420) (Bytes [])) ∷ [];
  next = 2;
  most = default_inodes;
})
rename_over_whiteout = refl

-- two names of one file stay, and the body of a replaced file goes
abbrev upper : Tree
upper = record {
  entries = ([], Dir (meta 493) false) ∷ (e ∷ [], File 1) ∷ (f ∷ [], File 1) ∷ (g ∷ [], File 2) ∷ [];
  bodies = (1, body_kinds.File (meta 420) (Bytes (33 ∷ []))) ∷ (2, body_kinds.File (meta 384) (Bytes [])) ∷ [];
  next = 3;
  most = default_inodes;
}

rename_one_file : after (op.Rename (e ∷ []) (f ∷ [])) upper (lower ∷ []) ≡ Ok upper
rename_one_file = refl

rename_over_file : after (op.Rename (e ∷ []) (g ∷ [])) upper (lower ∷ []) ≡ Ok (record {
  entries = ([], Dir (meta 493) false) ∷ (f ∷ [], File 1) ∷ (g ∷ [], File 1) ∷ [];
  bodies = (1, body_kinds.File (meta 420) (Bytes (33 ∷ []))) ∷ [];
  next = 3;
  most = default_inodes;
})
rename_over_file = refl

rename_merged : after (op.Rename (d ∷ []) (e ∷ [])) empty (lower ∷ []) ≡ Err CrossDevice
rename_merged = refl

rename_into_itself : after (op.Rename (d ∷ []) (d ∷ e ∷ [])) empty (lower ∷ []) ≡ Err Invalid
rename_into_itself = refl

rename_over_directory : after (op.Rename (e ∷ []) (d ∷ [])) upper (lower ∷ []) ≡ Err IsDir
rename_over_directory = refl

rename_the_root : after (op.Rename [] (e ∷ [])) empty (lower ∷ []) ≡ Err Invalid
rename_the_root = refl

-- both names share the copy, and the other name below is another file
link_lower : after (op.Link (d ∷ f ∷ []) (e ∷ [])) empty (lower ∷ []) ≡ Ok (record {
  entries = ([], Dir (meta 493) false) ∷ (d ∷ [], Dir (meta 448) false) ∷ (d ∷ f ∷ [], File 1) ∷ (e ∷ [], File 1) ∷ [];
  bodies = (1, body_kinds.File (meta 420) (Bytes (104 ∷ 105 ∷ []))) ∷ [];
  next = 2;
  most = default_inodes;
})
link_lower = refl

-- the new name takes the place of a whiteout
link_over_whiteout : after (op.Link (e ∷ []) (d ∷ g ∷ [])) (record { entries = ([], Dir (meta 493) false) ∷ (d ∷ [], Dir (meta 448) false) ∷ (d ∷ g ∷ [], Whiteout) ∷ (e ∷ [], File 1) ∷ []; bodies = (1, body_kinds.File (meta 420) (Bytes [])) ∷ []; next = 2; most = default_inodes }) (lower ∷ []) ≡ Ok (record {
  entries = ([], Dir (meta 493) false) ∷ (d ∷ [], Dir (meta 448) false) ∷ (d ∷ g ∷ [], File 1) ∷ (e ∷ [], File 1) ∷ [];
  bodies = (1, body_kinds.File (meta 420) (Bytes [])) ∷ [];
  next = 2;
  most = default_inodes;
})
link_over_whiteout = refl

link_directory : after (op.Link (d ∷ []) (d ∷ g ∷ [])) empty (lower ∷ []) ≡ Err NotPermitted
link_directory = refl

link_to_seen : after (op.Link (d ∷ f ∷ []) (d ∷ g ∷ [])) empty (lower ∷ []) ≡ Err Exists
link_to_seen = refl

-- a lower directory is copied up with the mode that is seen, without what is in it
opaque_lower : after (op.Opaque (d ∷ [])) empty (lower ∷ []) ≡ Ok (record {
  entries = ([], Dir (meta 493) false) ∷ (d ∷ [], Dir (meta 448) true) ∷ [];
  bodies = [];
  next = 1;
  most = default_inodes;
})
opaque_lower = refl

opaque_file : after (op.Opaque (d ∷ f ∷ [])) empty (lower ∷ []) ≡ Err NotDir
opaque_file = refl

opaque_nothing : after (op.Opaque (e ∷ [])) empty (lower ∷ []) ≡ Err NotFound
opaque_nothing = refl

-- a lower directory goes with all that is in it
whiteout_lower : after (op.Whiteout (d ∷ [])) empty (lower ∷ []) ≡ Ok (record {
  entries = ([], Dir (meta 493) false) ∷ (d ∷ [], Whiteout) ∷ [];
  bodies = [];
  next = 1;
  most = default_inodes;
})
whiteout_lower = refl

-- what the upper layer has in it goes too, but for the file that has a name beside it
whiteout_merged : after (op.Whiteout (d ∷ [])) (record { entries = ([], Dir (meta 493) false) ∷ (d ∷ [], Dir (meta 448) false) ∷ (d ∷ f ∷ [], File 1) ∷ (d ∷ g ∷ [], File 2) ∷ (e ∷ [], File 1) ∷ []; bodies = (1, body_kinds.File (meta 420) (Bytes [])) ∷ (2, body_kinds.File (meta 420) (Bytes [])) ∷ []; next = 3; most = default_inodes }) (lower ∷ []) ≡ Ok (record {
  entries = ([], Dir (meta 493) false) ∷ (d ∷ [], Whiteout) ∷ (e ∷ [], File 1) ∷ [];
  bodies = (1, body_kinds.File (meta 420) (Bytes [])) ∷ [];
  next = 3;
  most = default_inodes;
})
whiteout_merged = refl

whiteout_nothing : after (op.Whiteout (e ∷ [])) empty (lower ∷ []) ≡ Err NotFound
whiteout_nothing = refl

whiteout_the_root : after (op.Whiteout []) empty (lower ∷ []) ≡ Err Invalid
whiteout_the_root = refl
