-- What is saved of a world is whole.
use Rattle.std.proofs.Common.{ℕ, zero, suc, List, [], ◌∷◌, map, Option, None, Some, refl}
use Rattle.std.specs.Prelude.{filter, IfSome}
use Rattle.std.specs.List.{AllByRecursion}
use Rattle.snap_layer.specs.Layers.{IsLayer}
use Rattle.snap_usage.specs.Counted.{count_of}
use Rattle.snap_ledger.specs.States.{CoversOne}
use Rattle.snap_record.specs.declared.record.Content.{Content}
use Rattle.snap_record.specs.declared.record.Content.TheVariants as contents
use Rattle.snap_record.specs.declared.record.Record.{Record}
use Rattle.snap_lease.proofs.ListLemmas.{all-filter}
use Rattle.snap_call.specs.declared.saved.SavedContent.{SavedContent}
use Rattle.snap_call.specs.declared.saved.SavedContent.TheVariants as saved_kinds
use Rattle.snap_call.specs.Good.{IsFormed}
use Rattle.snap_call.specs.Saved.{by_id, has_id, saved_content, saved_of}
use Rattle.snap_call.proofs.Formed.{texts_parts}
use Rattle.snap_call.proofs.Lists.{all-append}
use Rattle.snap_book.proofs.Rooted.{count_covers_one}
use Rattle.snap_world.specs.declared.restoring.SavedHand.{SavedHand}
use Rattle.snap_world.specs.declared.save.SavedSnapshot.{SavedSnapshot}
use Rattle.snap_world.specs.Restored.{saved_world}
use Rattle.snap_world.specs.Saved.{HasNoOtherHand, IsSoundSnapshot, IsWholeSnapshot, saved_layer, saved_hand, saved_snapshot}
use Rattle.snap_world.specs.World.{Fits, HandValue, WorldValue}

-- the layer of a hand has a root, which takes a block and an inode
abbrev pub HasRoot : Option SavedHand → Type 0
HasRoot hand = IfSome hand (λ h. CoversOne (count_of h.layer))

-- that of a whole one has
pub whole_rooted : (s : SavedSnapshot) → IsWholeSnapshot s → HasRoot s.hand
whole_rooted s whole = by s.saved.content s.hand whole.sound.layer whole.hand
  where
    by : (c : SavedContent) (o : Option SavedHand) → IfSome (saved_layer c o) IsLayer → HasNoOtherHand c o → HasRoot o
    by saved_kinds.View None layer other = tt
    by saved_kinds.View (Some h) layer other = absurd (cc)
    by (saved_kinds.Active slot u) None layer other = tt
    by (saved_kinds.Active slot u) (Some h) layer other = count_covers_one h.layer layer
    by (saved_kinds.Committed t) None layer other = tt
    by (saved_kinds.Committed t) (Some h) layer other = absurd (cc)

no_other : (hands : List (Option HandValue)) (c : Content) → HasNoOtherHand (saved_content c) (saved_hand (saved_content c) hands)
no_other hands (contents.View layers) = refl
no_other hands (contents.Active slot u) = tt
no_other hands (contents.Committed layer usage) = refl

all-by_id : (P : Record → Type 0) (n : ℕ) (rs : List Record) → AllByRecursion P rs → AllByRecursion P (by_id n rs)
unfolding by_id
all-by_id P zero rs all = tt
all-by_id P (suc n) rs all = all-append P (by_id n rs) (filter (has_id n) rs) (all-by_id P n rs all) (all-filter P (has_id n) rs all)

-- what is saved of a world is whole, since its records are well-formed
pub are_whole : (w : WorldValue) → Fits w → AllByRecursion IsSoundSnapshot (saved_world w).snapshots → AllByRecursion IsWholeSnapshot (saved_world w).snapshots
are_whole w fits = each (by_id w.state.next_id w.state.records) (all-by_id (IsFormed w.state.entries) w.state.next_id w.state.records fits.good.formed)
  where
    each : (rs : List Record) → AllByRecursion (IsFormed w.state.entries) rs → AllByRecursion IsSoundSnapshot (map (saved_snapshot w.hands) (map (saved_of w.state.namespaces) rs)) → AllByRecursion IsWholeSnapshot (map (saved_snapshot w.hands) (map (saved_of w.state.namespaces) rs))
    each [] formed sound = tt
    each (r ∷ rs) formed sound = (record { sound = sound.0; labels = (texts_parts w.state.entries r formed.0).2; hand = no_other w.hands r.content }, each rs formed.1 sound.1)
