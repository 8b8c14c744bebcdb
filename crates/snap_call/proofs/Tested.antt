-- A commit by its tests: what holds of each refusal, and of a commit that passes them, holds of every one.
use Rattle.std.proofs.Common.{◌≡◌, ℕ, Bool, true, false, List, Option, Some, refl}
use Rattle.std.specs.Prelude.{if◌then◌else◌}
use Rattle.snap_layer.specs.Tree.{Tree}
use Rattle.snap_record.specs.Labels.{Bytes, Label}
use Rattle.snap_record.specs.declared.record.Record.{Record}
use Rattle.snap_call.specs.declared.refusal.Refusal.{Refusal}
use Rattle.snap_call.specs.declared.refusal.Refusal.TheVariants.{AlreadyExists, BadArgument, NoLease}
use Rattle.snap_call.specs.declared.reply.Reply.{Reply}
use Rattle.snap_call.specs.declared.state.State.{State}
use Rattle.snap_call.specs.Records.{has_key}
use Rattle.snap_call.specs.Step.{are_formed, commit_as, committed, has_named, refused}

by_test : (P : State × Reply → Type 0) (b : Bool) (x y : State × Reply) → (b ≡ true → P x) → (b ≡ false → P y) → P (if b then x else y)
by_test P true x y f g = f refl
by_test P false x y f g = g refl

pub commit_by_tests : (P : State × Reply → Type 0) (s : State) (slot : ℕ) (name : Bytes) (lease : Option Bytes) (labels : Option (List Label)) (layer : Tree) (r : Record)
    → ((why : Refusal) → P (refused s why))
    → (are_formed name lease labels ≡ true → has_key r.namespace name s.records ≡ false → has_named s r.namespace lease ≡ true → P (committed s slot name lease labels layer r))
    → P (commit_as s slot name lease labels layer (Some r))
commit_by_tests P s slot name lease labels layer r refuses commits =
    by_test P (are_formed name lease labels) _ _
    (λ formed. by_test P (has_key r.namespace name s.records) _ _ (λ taken. refuses AlreadyExists)
    (λ free. by_test P (has_named s r.namespace lease) _ _ (λ named. commits formed free named) (λ unnamed. refuses NoLease)))
    (λ malformed. refuses BadArgument)
