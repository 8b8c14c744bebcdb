-- A saved snapshot that is active, in its writer's hands again.
use Rattle.std.proofs.Common.{◌≡◌, ℕ, ◌<◌, Some, None, subst, arith}
use Rattle.snap_layer.specs.Tree.{Tree}
use Rattle.snap_usage.specs.Counted.{Covers, count_of}
use Rattle.snap_ledger.specs.States.{ShareState}
use Rattle.snap_call.specs.declared.saved.Saved.{Saved}
use Rattle.snap_call.specs.declared.saved.SavedContent.{SavedContent}
use Rattle.snap_call.specs.declared.saved.SavedContent.TheVariants.{View, Active, Committed}
use Rattle.snap_call.specs.declared.state.State.{State}
use Rattle.snap_call.specs.Good.{Good}
use Rattle.snap_call.specs.Records.{max_slots}
use Rattle.snap_call.specs.Saved.{CanPutBack, HasFreeSlot, content_for, record_of}
use Rattle.snap_call.proofs.Lists.{some_same}
use Rattle.snap_accounts.specs.Saved.{saved_share}
use Rattle.snap_book.specs.Saved.{IsActiveFor}

module _ (s : State) (place : ℕ) (saved : Saved) (layer : Tree) (good : Good s) (can : CanPutBack s (record_of s place saved)) (active : IsActiveFor saved.content layer) where
  -- the same snapshot, with this content
  abbrev holding : SavedContent → Saved
  holding c = record saved { content = c }

  -- it has a share
  pub share_there : saved_share (record_of s place saved) ≡ None → ⊥
  share_there none = by saved.content active none
    where
      by : (c : SavedContent) → IsActiveFor c layer → saved_share (record_of s place (holding c)) ≡ None → ⊥
      by View is e = is
      by (Active slot charged) is e = absurd (cc)
      by (Committed tree) is e = is

  -- whose slot is one of a store, and which covers the layer
  pub share_holds : (share : ShareState) → saved_share (record_of s place saved) ≡ Some share → (share.slot < max_slots) × Covers share.usage (count_of layer)
  share_holds share some = by saved.content active can.slot some
    where
      by : (c : SavedContent) → IsActiveFor c layer → HasFreeSlot s (content_for c place saved.parent s.records) → saved_share (record_of s place (holding c)) ≡ Some share → (share.slot < max_slots) × Covers share.usage (count_of layer)
      by View is free e = absurd is
      by (Active slot charged) is free e =
          let same : record { slot = slot; id = saved.id; usage = charged } ≡ share = some_same _ share e in
          (subst (λ (x : ShareState). x.slot < max_slots) same (omega (arith, free.0, good.few_slots.1)), subst (λ (x : ShareState). Covers x.usage (count_of layer)) same is)
      by (Committed tree) is free e = absurd is
