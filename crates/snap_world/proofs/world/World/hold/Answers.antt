use Rattle.std.proofs.Common.{◌≡◌, List, map, sym, ap, ◌∙◌, subst}
use Rattle.std.specs.List.{AllByRecursion}
use Rattle.snap_call.specs.Saved.{by_id}
use Rattle.snap_call.specs.declared.config.Config.{Config}
use Rattle.snap_call.specs.declared.config.Namespace.{Namespace}
use Rattle.snap_call.specs.declared.state.State.{State}
use Rattle.snap_call.proofs.Lists.{all-map}
use Rattle.snap_world.specs.declared.save.SavedSnapshot.{SavedSnapshot}
use Rattle.snap_world.specs.Held.{held_snapshot}
use Rattle.snap_world.specs.Restored.{restored, saved_config, saved_lease, saved_world}
use Rattle.snap_world.specs.Saved.{IsSoundSnapshot, IsWholeSnapshot}
use Rattle.snap_world.specs.World.{Fits, WorldValue}
use Rattle.snap_world.proofs.BackWorld.{restored_saved}
use Rattle.snap_world.proofs.HeldLaws.{held_saved, sound_held}
use Rattle.snap_world.proofs.Whole.{HasRoot, are_whole, whole_rooted}
use Rattle.snap_world.proofs.world.World.hold.Goals as goal

pub returns-clause-saved : goal.returns-clause-saved
returns-clause-saved g c =
    let w = c.args.self.now in
    let state : c.state-state.result.now ≡ w.state = c.state-state.ensures ∙ ap (λ (v : WorldValue). v.state) c.self.view_is in
    let limit : c.most_entries.result ≡ w.limit = c.most_entries.ensures in
    let config : c.in_ok-saved_config.field-0 ≡ saved_config w.state w.limit = c.in_ok-saved_config.ensures ∙ (λ i. saved_config (state i) (limit i)) in
    let names : c.in_ok-saved_config.field-0.namespaces ≡ w.state.namespaces = ap (λ (k : Config). k.namespaces) config in
    let snapshots : map (held_snapshot c.in_ok-saved_config.field-0.namespaces) c.in_ok-held_snapshots.field-0.items ≡ (saved_world w).snapshots =
    (λ i. map (held_snapshot (names i)) (c.in_ok-held_snapshots.ensures.snapshots i)) ∙ held_saved w.state.namespaces w.hands (by_id w.state.next_id w.state.records) in
    let leases : c.in_ok-saved_leases.field-0.items ≡ map saved_lease w.state.leases = c.in_ok-saved_leases.ensures ∙ ap (map saved_lease) (c.in_ok-copies.ensures ∙ ap (λ (s : State). s.leases) state) in
    λ i. record { config = config i; entries = (state i).entries; next_id = (state i).next_id; snapshots = snapshots i; leases = leases i }

pub returns-clause-whole : goal.returns-clause-whole
returns-clause-whole g c =
    let w = c.args.self.now in
    let ns = w.state.namespaces in
    let held = c.in_ok-held_snapshots.field-0.items in
    let fits : Fits w = subst Fits c.self.view_is c.self.invariant in
    let state : c.state-state.result.now ≡ w.state = c.state-state.ensures ∙ ap (λ (v : WorldValue). v.state) c.self.view_is in
    let limit : c.most_entries.result ≡ w.limit = c.most_entries.ensures in
    let config : c.in_ok-saved_config.field-0 ≡ saved_config w.state w.limit = c.in_ok-saved_config.ensures ∙ (λ i. saved_config (state i) (limit i)) in
    let names : c.in_ok-saved_config.field-0.namespaces ≡ ns = ap (λ (k : Config). k.namespaces) config in
    let same : map (held_snapshot ns) held ≡ (saved_world w).snapshots = ap (map (held_snapshot ns)) c.in_ok-held_snapshots.ensures.snapshots ∙ held_saved ns w.hands (by_id w.state.next_id w.state.records) in
    let sound : AllByRecursion IsSoundSnapshot (saved_world w).snapshots = subst (λ (xs : List SavedSnapshot). AllByRecursion IsSoundSnapshot xs) same (sound_held ns held c.in_ok-held_snapshots.ensures.sound) in
    subst (λ (xs : List SavedSnapshot). AllByRecursion IsWholeSnapshot xs) (sym (ap (λ (l : List Namespace). map (held_snapshot l) held) names ∙ same)) (are_whole w fits sound)

pub returns-clause-back : goal.returns-clause-back
returns-clause-back g c = λ rolls.
    let w = c.args.self.now in
    let ns = w.state.namespaces in
    let held = c.in_ok-held_snapshots.field-0.items in
    let fits : Fits w = subst Fits c.self.view_is c.self.invariant in
    let same : map (held_snapshot ns) held ≡ (saved_world w).snapshots = ap (map (held_snapshot ns)) c.in_ok-held_snapshots.ensures.snapshots ∙ held_saved ns w.hands (by_id w.state.next_id w.state.records) in
    let sound : AllByRecursion IsSoundSnapshot (saved_world w).snapshots = subst (λ (xs : List SavedSnapshot). AllByRecursion IsSoundSnapshot xs) same (sound_held ns held c.in_ok-held_snapshots.ensures.sound) in
    let roots : AllByRecursion (λ (x : SavedSnapshot). HasRoot x.hand) (saved_world w).snapshots = all-map IsWholeSnapshot (λ (x : SavedSnapshot). HasRoot x.hand) whole_rooted (saved_world w).snapshots (are_whole w fits sound) in
    ap restored (returns-clause-saved g c) ∙ restored_saved w fits roots rolls
