-- What is held of a world is what is saved of it.
use Rattle.std.proofs.Common.{◌≡◌, List, [], ◌∷◌, Option, map, refl, ap}
use Rattle.std.specs.List.{AllByRecursion}
use Rattle.snap_record.specs.declared.record.Record.{Record}
use Rattle.snap_call.specs.Saved.{saved_of}
use Rattle.snap_call.specs.declared.config.Namespace.{Namespace}
use Rattle.snap_world.specs.declared.save.HeldSnapshot.{HeldSnapshot}
use Rattle.snap_world.specs.Held.{held_of, held_snapshot}
use Rattle.snap_world.specs.Saved.{IsSoundSnapshot, saved_snapshot}
use Rattle.snap_world.specs.World.{HandValue}

pub held_saved : (ns : List Namespace) (hands : List (Option HandValue)) (rs : List Record) → map (held_snapshot ns) (map (held_of hands) rs) ≡ map (saved_snapshot hands) (map (saved_of ns) rs)
held_saved ns hands [] = refl
held_saved ns hands (r ∷ rs) = ap (λ l. saved_snapshot hands (saved_of ns r) ∷ l) (held_saved ns hands rs)

pub sound_held : (ns : List Namespace) (ss : List HeldSnapshot) → AllByRecursion (λ s. IsSoundSnapshot (held_snapshot ns s)) ss → AllByRecursion IsSoundSnapshot (map (held_snapshot ns) ss)
sound_held ns [] all = tt
sound_held ns (s ∷ ss) all = (all.0, sound_held ns ss all.1)
