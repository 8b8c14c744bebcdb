-- A worked journal: a session prepares a snapshot in the namespace `a` and commits it as `n`. By the law the store has this one then.
use Rattle.std.proofs.Common.{◌≡◌, ℕ, List, [], ◌∷◌, None, refl, arith}
use Rattle.snap_layer.specs.Edits.{root_only}
use Rattle.snap_layer.specs.Tree.{Tree}
use Rattle.snap_usage.specs.Counted.{count_of}
use Rattle.snap_call.specs.declared.call.Call.TheVariants as calls
use Rattle.snap_call.specs.declared.call.Given.TheVariants.{Nothing, Layer}
use Rattle.snap_call.specs.declared.entry.Entry.{Entry}
use Rattle.snap_call.specs.declared.reply.Reply.TheVariants.{Opened, Prepared, Committed}
use Rattle.snap_call.specs.declared.state.State.{State}
use Rattle.snap_call.specs.Records.{default_slots, lowest_free}
use Rattle.snap_call.specs.State.{opening}
use Rattle.snap_call.specs.Step.{step}
use Rattle.snap_call.specs.Journal.{call_entry, Replays}
use Rattle.snap_grants.specs.Grants.{Stored, worth, origin_in}
use Rattle.snap_grants.proofs.Law.{committed_law}
use Rattle.snap_grants.proofs.Origins.{origins}

abbrev layer : Tree
layer = root_only (record { mode = 493 }) 1

abbrev start : State
start = opening (record { root = 47 ∷ 114 ∷ []; namespaces = record { name = 97 ∷ []; limit = record { blocks = 10; inodes = 10 } } ∷ []; slots = default_slots; journal = 100; first_id = 1; layer_inodes = 65536; ancestors = 64 })

abbrev opened : Entry
opened = call_entry 0 calls.Session Nothing Opened

abbrev made : Entry
made = call_entry 0 (calls.Prepare (97 ∷ []) (107 ∷ []) [] []) Nothing (Prepared 1 0 [])

abbrev stored : Entry
stored = call_entry 0 (calls.Commit 0 1 (110 ∷ []) None None) (Layer layer) (Committed 1 (count_of layer))

abbrev es : List Entry
es = opened ∷ made ∷ stored ∷ []

abbrev end : State
end = (step (step (step start opened.call opened.given).0 made.call made.given).0 stored.call stored.given).0

replays : Replays start es end
unfolding lowest_free
replays = (omega arith, refl, (tt, refl, ((refl, record { blocks = omega arith; inodes = omega arith }), refl, refl)))

pub worked : (h : Stored → ℕ) → worth h end ≡ h (record { namespace = 97 ∷ []; name = 110 ∷ []; parent = []; id = 1; layer = layer })
worked h = let law = committed_law start es end refl (tt, (tt, (tt, tt))) replays (origin_in es) (origins start es end (tt, (tt, (tt, tt))) replays) h in omega (arith, law)
