-- What is committed at the end of a journal: what was committed at its start, and one snapshot for each granted Commit.
use Rattle.std.specs.Prelude.{◌≡◌, ℕ, zero, suc, ◌+◌, ◌<◌, ◌==◌, if◌then◌else◌, List, [], ◌∷◌}
use Rattle.std.specs.List.{AllByRecursion}
use Rattle.snap_layer.specs.Tree.{Tree}
use Rattle.snap_record.specs.Labels.{Bytes}
use Rattle.snap_record.specs.declared.record.Content.{Content}
use Rattle.snap_record.specs.declared.record.Content.TheVariants as contents
use Rattle.snap_record.specs.declared.record.Record.{Record}
use Rattle.snap_call.specs.declared.call.Call.{Call}
use Rattle.snap_call.specs.declared.call.Call.TheVariants as calls
use Rattle.snap_call.specs.declared.call.Given.{Given}
use Rattle.snap_call.specs.declared.call.Given.TheVariants.{Layer}
use Rattle.snap_call.specs.declared.config.Namespace.{Namespace}
use Rattle.snap_call.specs.declared.entry.Entry.{Entry}
use Rattle.snap_call.specs.declared.reply.Reply.{Reply}
use Rattle.snap_call.specs.declared.reply.Reply.TheVariants.{Prepared, Committed}
use Rattle.snap_call.specs.declared.state.State.{State}
use Rattle.snap_call.specs.State.{name_at}
use Rattle.snap_call.specs.Journal.{session_entries}

-- a committed snapshot: the texts of its namespace, its name and its parent, its id and its layer
pub record Stored : Type 0 where
  pub namespace : Bytes
  pub name : Bytes
  pub parent : Bytes
  pub id : ℕ
  pub layer : Tree

-- what a snapshot was prepared with: the texts of its namespace and its parent
pub record Origin : Type 0 where
  pub namespace : Bytes
  pub parent : Bytes

-- ---- the journals that are spoken of

-- a call that takes no committed snapshot away and leaves the places of the namespaces: any but Remove, Sweep, NamespaceCreate and NamespaceRemove
abbrev pub IsKeeping : Call → Type 0
IsKeeping (calls.Remove namespace key) = ⊥
IsKeeping (calls.Sweep namespace moment) = ⊥
IsKeeping (calls.NamespaceCreate namespace limit) = ⊥
IsKeeping (calls.NamespaceRemove namespace) = ⊥
IsKeeping call = Unit {0}

-- each entry's call is one
abbrev pub AreKeeping : List Entry → Type 0
AreKeeping es = AllByRecursion (λ e. IsKeeping e.call) es

-- ---- what is committed

-- the weight of a record's snapshot, if it is committed, and 0 if not
abbrev pub weight : (Stored → ℕ) → List Namespace → Record → Content → ℕ
weight h ns r (contents.Committed layer usage) = h (record { namespace = name_at r.namespace ns; name = r.key; parent = r.parent; id = r.id; layer = layer })
weight h ns r content = 0

-- these of all records, added up
abbrev pub weights : (Stored → ℕ) → List Namespace → List Record → ℕ
weights h ns [] = 0
weights h ns (r ∷ rs) = weight h ns r r.content + weights h ns rs

-- the committed snapshots of the state, weighed and added up
abbrev pub worth : (Stored → ℕ) → State → ℕ
worth h s = weights h s.namespaces s.records

-- ---- what was granted

-- by the reply: the weight of the snapshot that a granted Commit stores, and 0 of any other reply; it has the namespace and the parent of its id's origin
abbrev pub grant_by : (Stored → ℕ) → (ℕ → Origin) → Reply → Given → ℕ → Bytes → ℕ
grant_by h origin (Committed at usage) (Layer layer) id name = h (record { namespace = (origin id).namespace; name = name; parent = (origin id).parent; id = id; layer = layer })
grant_by h origin reply given id name = 0

-- by the call: 0 of any other than Commit
abbrev pub grant_of : (Stored → ℕ) → (ℕ → Origin) → Call → Given → Reply → ℕ
grant_of h origin (calls.Commit slot id name lease labels) given reply = grant_by h origin reply given id name
grant_of h origin call given reply = 0

-- the snapshots of the granted Commits, weighed and added up
abbrev pub grants : (Stored → ℕ) → (ℕ → Origin) → List Entry → ℕ
grants h origin [] = 0
grants h origin (e ∷ es) = grant_of h origin e.call e.given e.reply + grants h origin es

-- ---- the origin of an id

-- by the reply: where a Prepare is granted, the origin of its id is its namespace and its parent
abbrev pub IsOriginBy : (ℕ → Origin) → Bytes → Bytes → Reply → Type 0
IsOriginBy origin namespace parent (Prepared id slot chain) = origin id ≡ record { namespace = namespace; parent = parent }
IsOriginBy origin namespace parent reply = Unit {0}

-- by the call: nothing of any other than Prepare
abbrev pub IsOrigin : (ℕ → Origin) → Call → Reply → Type 0
IsOrigin origin (calls.Prepare namespace key parent labels) reply = IsOriginBy origin namespace parent reply
IsOrigin origin call reply = Unit {0}

-- so it is of each granted Prepare of the journal
abbrev pub AreOrigins : (ℕ → Origin) → List Entry → Type 0
AreOrigins origin es = AllByRecursion (λ e. IsOrigin origin e.call e.reply) es

-- by the reply: what a Prepare was asked for, where it was granted this id, and the rest's word where not
abbrev pub origin_by : Reply → Bytes → Bytes → ℕ → Origin → Origin
origin_by (Prepared at slot chain) namespace parent id rest = if at == id then record { namespace = namespace; parent = parent } else rest
origin_by reply namespace parent id rest = rest

-- by the call: the rest's word of any other than Prepare
abbrev pub origin_of : Call → Reply → ℕ → Origin → Origin
origin_of (calls.Prepare namespace key parent labels) reply id rest = origin_by reply namespace parent id rest
origin_of call reply id rest = rest

-- the origin of an id as the journal's first granted Prepare of it has it
abbrev pub origin_in : List Entry → ℕ → Origin
origin_in [] id = record { namespace = []; parent = [] }
origin_in (e ∷ es) id = origin_of e.call e.reply id (origin_in es id)

-- ---- the law

-- however snapshots are weighed, the committed ones at the end are those of the start and one for each granted Commit, with its name, its id and its layer, and with the namespace and the parent of the granted Prepare of that id
abbrev pub CommittedLaw : State → List Entry → State → Type 0
CommittedLaw s es t = (origin : ℕ → Origin) → AreOrigins origin es → (h : Stored → ℕ) → worth h t ≡ worth h s + grants h origin es

-- f of each number below n, added up
abbrev pub sum_below : ℕ → (ℕ → ℕ) → ℕ
sum_below zero f = 0
sum_below (suc n) f = sum_below n f + f n

-- each entry is of a session below n
abbrev pub AreBelow : ℕ → List Entry → Type 0
AreBelow n es = AllByRecursion (λ e. e.session < n) es

-- and so by sessions: those of the start, and what the entries of each session were granted
abbrev pub TapesLaw : ℕ → State → List Entry → State → Type 0
TapesLaw n s es t = (origin : ℕ → Origin) → AreOrigins origin es → (h : Stored → ℕ) → worth h t ≡ worth h s + sum_below n (λ k. grants h origin (session_entries es k))
