-- Operations and changes that take no memory.
use Rattle.std.proofs.Common.{◌≡◌, Bool, false, arith, List, ◌∷◌, Option, Some, None, IsSome, is_some, Result, Ok, Err, IfErr, IsErrAnd, OnErr, refl, sym, ap, subst, ◌∙◌}
use Rattle.std.specs.Prelude.{◌&&◌, not, option_and_then}
use Rattle.snap_path.specs.Memory.{no_memory}
use Rattle.snap_path.specs.Text.{Names}
use Rattle.snap_path.specs.declared.memory.NoMemory.{NoMemory}
use Rattle.snap_usage.specs.declared.usage.Usage.{Usage}
use Rattle.snap_layer.specs.declared.bytes.Edit.{Edit}
use Rattle.snap_layer.specs.declared.content.Content.{Content}
use Rattle.snap_layer.specs.declared.content.Content.TheVariants.{Bytes, Sized}
use Rattle.snap_layer.specs.declared.node.Node.{Node}
use Rattle.snap_layer.specs.declared.node.Node.TheVariants as node
use Rattle.snap_layer.specs.declared.error.LayerError.{LayerError}
use Rattle.snap_layer.specs.declared.error.LayerError.TheVariants as layer_errors
use Rattle.snap_layer.specs.Contents.{edited, Grows}
use Rattle.snap_layer.specs.Counts.{is_within}
use Rattle.snap_layer.specs.Tree.{Tree, at, number_of, IsDirAt}
use Rattle.snap_merge.specs.Errors.{OfLayer}
use Rattle.snap_merge.specs.Objects.{seen, is_shown_dir}
use Rattle.snap_merge.specs.declared.error.FsError.{FsError}
use Rattle.snap_upper.specs.declared.op.Op.{Op}
use Rattle.snap_upper.specs.declared.op.Op.TheVariants.{Mkdir, Create, Put, Write, Truncate, SetMode, Symlink, Link, Unlink, Rmdir, Rename, Opaque, Whiteout}
use Rattle.snap_upper.specs.declared.change.Change.{Change}
use Rattle.snap_upper.specs.After.{Outcome, after, first_error, is_late, lists_names, limited, tests, within_share}
use Rattle.snap_upper.specs.Changes.{IsChange, IsInPlace, outcome}
use Rattle.snap_upper.specs.Memory.{KeepsNoMore, TakesNoMemory}
use Rattle.snap_upper.proofs.Outcomes.{no_bool, limited_full}

-- a value that is there, and isn't
pub no_value : {A : Type 0} (o : Option A) → is_some o ≡ false → IsSome o → ⊥
no_value o none some = no_bool (sym some ∙ none)

-- where a node names a file number, a node stands
pub node_of_number : (o : Option Node) → IsSome (option_and_then number_of o) → IsSome o
node_of_number None h = h
node_of_number (Some n) h = refl

-- and it is no directory
pub number_of_no_dir : (o : Option Node) → IsSome (option_and_then number_of o) → IsDirAt o → ⊥
number_of_no_dir None h dir = dir
number_of_no_dir (Some (node.Dir meta opaque)) h dir = cc
number_of_no_dir (Some (node.File k)) h dir = cc
number_of_no_dir (Some (node.Symlink k)) h dir = cc
number_of_no_dir (Some node.Whiteout) h dir = cc

-- an operation that takes no memory lists no names
pub lists_none : (op : Op) (u : Tree) (ls : List Tree) → TakesNoMemory op u → lists_names op (u ∷ ls) ≡ false
lists_none (Mkdir path mode) u ls h = refl
lists_none (Create path mode) u ls h = refl
lists_none (Put path mode size digest) u ls h = refl
lists_none (Write path offset bytes) u ls h = refl
lists_none (Truncate path size) u ls h = refl
lists_none (SetMode path mode) u ls h = refl
lists_none (Symlink path target) u ls h = refl
lists_none (Link from to) u ls h = refl
lists_none (Unlink path) u ls h = refl
lists_none (Rmdir path) u ls h = absurd h
lists_none (Rename from to) u ls h = ap (λ (b : Bool). not b && is_shown_dir (seen (u ∷ ls) to) && is_late (first_error (tests (Rename from to) (u ∷ ls)))) h
lists_none (Opaque path) u ls h = refl
lists_none (Whiteout path) u ls h = refl

-- an edit that keeps no more bytes makes no file of bytes longer
pub no_growth : (e : Edit) (old : Content) → KeepsNoMore old (edited e old) → Grows e old → ⊥
no_growth e (Bytes old) h grows = omega (arith, h, grows)
no_growth e (Sized size digest) h grows = grows

pub no_error : {A E : Type 0} {P : Type 0} (r : Result A E) → (P → ⊥) → OnErr r P → IfErr r (λ e. ⊥)
no_error (Ok a) never h = tt
no_error (Err e) never h = never h

-- the answer of a change in place is the operation's
pub made_sure : {A : Type 0} (op : Op) (u : Tree) (ls : List Tree) (c : Change) (r : Result A FsError) → IsChange c op u ls → (IsInPlace c u → IfErr r (λ e. outcome c u ls ≡ Err e)) → TakesNoMemory op u → IfErr r (λ e. after op u ls ≡ Err e)
made_sure op u ls c r is sure none = subst (λ (o : Outcome). IfErr r (λ e. o ≡ Err e)) is.same (sure (is.in_place none))

-- an operation that its rule refuses has the rule's error
pub refused_sure : {A : Type 0} (o : Outcome) (x : FsError) (r : Result A FsError) → IsErrAnd r (λ e. e ≡ x) → o ≡ Err x → IfErr r (λ e. o ≡ Err e)
refused_sure o x (Ok a) same is = tt
refused_sure o x (Err y) same is = is ∙ ap (λ (z : FsError). Err z) (sym same)

-- the same within a share
pub within_sure : {A : Type 0} (share : Usage) (o : Outcome) (r : Result A FsError) → IfErr r (λ e. o ≡ Err e) → IfErr r (λ e. within_share share o ≡ Err e)
within_sure share o (Ok a) sure = tt
within_sure share o (Err e) sure = ap (within_share share) sure

-- a whiteout in place of what stands there is refused no memory
pub covered_sure : (x : LayerError) (e : FsError) (u t : Tree) (p : Names) → OfLayer x e → (x ≡ layer_errors.LayerFull → is_within t ≡ false) → (x ≡ layer_errors.OutOfMemory no_memory → at u p ≡ None) → IsSome (at u p) → limited t ≡ Err e
covered_sure layer_errors.LayerFull e u t p of full sure some = limited_full t (full refl) ∙ ap (λ (y : FsError). Err y) (sym of)
covered_sure (layer_errors.OutOfMemory want) e u t p of full sure some = absurd (no_bool (sym some ∙ ap is_some (sure (ap (λ (n : NoMemory). layer_errors.OutOfMemory n) (same_refusal want)))))
  where
    same_refusal : (m : NoMemory) → m ≡ no_memory
    same_refusal m = refl
