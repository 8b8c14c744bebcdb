-- The first worked example: a directory and a file of 5000 bytes are made in a snapshot without a parent, and it is committed.
use Rattle.std.specs.Prelude.{◌≡◌, ℕ, List, [], ◌∷◌, ◌++◌, replicate, codes, Ok, Err, None}
use Rattle.snap_path.specs.Text.{Names}
use Rattle.snap_layer.specs.Tree.{Tree}
use Rattle.snap_layer.specs.Edits.{root_only}
use Rattle.snap_usage.specs.declared.usage.Usage.{Usage}
use Rattle.snap_upper.specs.declared.op.Op.{Op}
use Rattle.snap_upper.specs.declared.op.Op.TheVariants as ops
use Rattle.snap_upper.specs.After.{Outcome, after}
use Rattle.snap_call.specs.declared.call.Call.TheVariants as calls
use Rattle.snap_call.specs.declared.call.Given.TheVariants.{Nothing, Layer}
use Rattle.snap_call.specs.declared.config.Config.{Config}
use Rattle.snap_call.specs.declared.entry.Entry.{Entry}
use Rattle.snap_call.specs.declared.reply.Reply.TheVariants as replies
use Rattle.snap_call.specs.Journal.{call_entry}
use Rattle.snap_book.specs.Active.{ActiveValue}

-- /etc
abbrev pub etc : Names
etc = codes "etc" ∷ []

-- /etc/hosts
abbrev pub hosts : Names
hosts = codes "etc" ∷ codes "hosts" ∷ []

-- mkdir /etc, with mode 755
abbrev pub mkdir : Op
mkdir = ops.Mkdir etc 493

-- create /etc/hosts, with mode 644
abbrev pub create : Op
create = ops.Create hosts 420

-- write 5000 bytes to /etc/hosts
abbrev pub write : Op
write = ops.Write hosts 0 (replicate 5000 120)

-- the layer of an outcome, or where there is none the other one
abbrev pub layer_or : Outcome → Tree → Tree
layer_or (Ok t) u = t
layer_or (Err e) u = u

-- the layer after an operation
abbrev pub stepped : Op → Tree → Tree
stepped op t = layer_or (after op t []) t

-- the layer after all three
unfoldable pub first_layer : Tree
first_layer = stepped write (stepped create (stepped mkdir (root_only (record { mode = 493 }) 1)))

-- a usage, in blocks of 4096 bytes and inodes
abbrev pub used : ℕ → ℕ → Usage
used blocks inodes = record { blocks = blocks; inodes = inodes }

-- a store of the namespace a with the limit 10/5, and a journal of 100 entries
abbrev pub first_config : Config
first_config = record { root = codes "/r"; namespaces = record { name = codes "a"; limit = used 10 5 } ∷ []; slots = 64; journal = 100; first_id = 1; layer_inodes = 65536; ancestors = 64 }

-- the entry of a charge to an amount
abbrev pub charge_by : ℕ → ℕ → ℕ → Usage → Entry
charge_by n slot id need = call_entry n (calls.Charge slot id need need) Nothing (replies.Charged need)

-- the entries after the prepare: a charge for each operation, and the commit as base
abbrev pub after_prepare : ℕ → ℕ → ℕ → Tree → List Entry
after_prepare n slot id layer = charge_by n slot id (used 2 2) ∷ charge_by n slot id (used 2 3) ∷ charge_by n slot id (used 4 3) ∷ call_entry n (calls.Commit slot id (codes "base") None None) (Layer layer) (replies.Committed id (used 4 3)) ∷ []

-- the whole tape of the round's one session
abbrev pub first_tape : ℕ → ℕ → ℕ → List ℕ → Tree → List Entry
first_tape n slot id chain layer = call_entry n calls.Session Nothing replies.Opened ∷ call_entry n (calls.Prepare (codes "a") (codes "k") [] []) Nothing (replies.Prepared id slot chain) ∷ after_prepare n slot id layer

-- a tape with the three charges behind it
abbrev pub with_charges : ℕ → ℕ → ℕ → List Entry → List Entry
with_charges n slot id tape = ((tape ++ charge_by n slot id (used 2 2) ∷ []) ++ charge_by n slot id (used 2 3) ∷ []) ++ charge_by n slot id (used 4 3) ∷ []

-- the snapshot: of a slot and an id, without lower layers, with this layer and this share
pub record IsAt (slot id : ℕ) (layer : Tree) (share : Usage) (a : ActiveValue) : Type 0 where
  pub slot_is : a.share.slot ≡ slot
  pub id_is : a.share.id ≡ id
  pub lowers : a.lowers ≡ []
  pub layer_is : a.layer ≡ layer
  pub share_is : a.share.usage ≡ share
