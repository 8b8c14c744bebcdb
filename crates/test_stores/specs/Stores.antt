-- The states of a store that the witnesses begin with.
use Rattle.std.specs.Prelude.{[], ◌∷◌, codes}
use Rattle.snap_call.specs.declared.call.Call.TheVariants as calls
use Rattle.snap_call.specs.declared.call.Given.TheVariants.{Nothing}
use Rattle.snap_call.specs.declared.config.Config.{Config}
use Rattle.snap_call.specs.declared.state.State.{State}
use Rattle.snap_call.specs.State.{opening}
use Rattle.snap_call.specs.Step.{step}

-- one namespace, a, with 100 blocks and 100 inodes
abbrev pub one_namespace : Config
one_namespace = record { root = codes "/r"; namespaces = record { name = codes "a"; limit = record { blocks = 100; inodes = 100 } } ∷ []; slots = 64; journal = 100; first_id = 1; layer_inodes = 65536; ancestors = 64 }

-- a new store
abbrev pub new_store : State
new_store = opening one_namespace

-- the store after its first call, the view q of nothing
abbrev pub with_view : State
with_view = (step new_store (calls.View (codes "a") (codes "q") [] []) Nothing).0

-- the store after its first call, which has made the namespace b
abbrev pub with_second : State
with_second = (step new_store (calls.NamespaceCreate (codes "b") (record { blocks = 10; inodes = 10 })) Nothing).0

-- that store after its second call, the snapshot k of nothing in b
abbrev pub with_snapshot : State
with_snapshot = (step with_second (calls.Prepare (codes "b") (codes "k") [] []) Nothing).0

-- a new store of one slot
abbrev pub with_one_slot : State
with_one_slot = opening (record one_namespace { slots = 1 })

-- that store after its first call, which has taken the slot: the snapshot k of nothing
abbrev pub with_taken_slot : State
with_taken_slot = (step with_one_slot (calls.Prepare (codes "a") (codes "k") [] []) Nothing).0
