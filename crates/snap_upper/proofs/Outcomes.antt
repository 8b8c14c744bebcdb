-- Tests that pass, and outcomes.
use Rattle.std.proofs.Common.{◌≡◌, ◌⊎◌, ℕ, ◌+◌, ◌<◌, ◌≤◌, Bool, true, false, arith, List, ◌∷◌, Option, Some, None, Result, Ok, Err, refl, sym, ap, ◌∙◌, inl, inr}
use Rattle.std.specs.Prelude.{if◌then◌else◌}
use Rattle.std.proofs.lemmas.Bool.Decides.{nat_tests}
use Rattle.snap_path.specs.Limits.{most_number}
use Rattle.snap_path.specs.Memory.{no_memory}
use Rattle.snap_layer.specs.declared.error.LayerError.{LayerError}
use Rattle.snap_layer.specs.declared.error.LayerError.TheVariants as layer_errors
use Rattle.snap_merge.specs.Walk.{unless}
use Rattle.snap_merge.specs.Errors.{OfLayer}
use Rattle.snap_layer.specs.Tree.{Tree}
use Rattle.snap_layer.specs.Counts.{is_within, inode_count, block_count}
use Rattle.snap_layer.specs.Layers.{IsLayer}
use Rattle.snap_layer.proofs.Replacing.{is_within_yes, is_within_many, is_within_last}
use Rattle.snap_usage.specs.declared.usage.Usage.{Usage}
use Rattle.snap_usage.proofs.Joined.{count_of-IsLayer}
use Rattle.snap_merge.specs.declared.error.FsError.{FsError}
use Rattle.snap_merge.specs.declared.error.FsError.TheVariants.{LayerFull, OutOfMemory}
use Rattle.snap_copyup.specs.Places.{IsRefusal}
use Rattle.snap_upper.specs.declared.usage.Planned.{Planned}
use Rattle.snap_upper.specs.declared.op.Op.{Op}
use Rattle.snap_upper.specs.Adding.{IsNext}
use Rattle.snap_upper.specs.After.{Outcome, after, tests, first_error, error_if, limited, next_layer, planned}

pub no_bool : true ≡ false → ⊥
no_bool e = cc

-- ---- tests

pub test_passes : (o : Option FsError) (later : List (Option FsError)) → first_error (o ∷ later) ≡ None → (o ≡ None) × (first_error later ≡ None)
test_passes None later e = (refl, e)
test_passes (Some x) later e = absurd (cc)

pub error_if_passes : (b : Bool) (x : FsError) → error_if b x ≡ None → b ≡ false
error_if_passes true x e = absurd (cc)
error_if_passes false x e = refl

-- ---- outcomes

pub after_passes : (op : Op) (u : Tree) (ls : List Tree) → first_error (tests op (u ∷ ls)) ≡ None → after op u ls ≡ limited (next_layer op u ls)
after_passes op u ls passes = ap (λ o. unless o (limited (next_layer op u ls))) passes

pub limited_fits : (t : Tree) → is_within t ≡ true → limited t ≡ Ok t
limited_fits t fits = ap (λ b. if b then Ok t else Err LayerFull) fits

pub limited_full : (t : Tree) → is_within t ≡ false → limited t ≡ Err LayerFull
limited_full t full = ap (λ b. if b then Ok t else Err LayerFull) full

pub few_from : (t : Tree) → is_within t ≡ true → inode_count t ≤ t.most
few_from t within = grind (arith, nat_tests)

-- a layer is within the limits
pub layer_fits : (t : Tree) → IsLayer t → is_within t ≡ true
layer_fits t ok = is_within_yes t ok.few ok.next.1

-- ---- plans

-- the counts of a layer
pub planned_fits : (t : Tree) (u : Usage) (a : Outcome) → IsLayer t → u.blocks ≡ block_count t → u.inodes ≡ inode_count t → a ≡ limited t → ◌≡◌ {A = Result Planned FsError} (Ok (record { after = u })) (planned a)
planned_fits t u a ok blocks inodes is =
    let counts : ◌≡◌ {A = Usage} u (record { blocks = block_count t; inodes = inode_count t }) = λ i. record { blocks = blocks i; inodes = inodes i } in
    let plan : Usage → Result Planned FsError = λ (x : Usage). Ok (record { after = x }) in
    ap plan (counts ∙ sym (count_of-IsLayer t ok)) ∙ sym (ap planned (is ∙ limited_fits t (layer_fits t ok)))

pub planned_full : (t : Tree) (a : Outcome) → is_within t ≡ false → a ≡ limited t → ◌≡◌ {A = Result Planned FsError} (Err LayerFull) (planned a)
planned_full t a full is = sym (ap planned (is ∙ limited_full t full))

-- the next layer has no file number left, more inodes than a layer may have, or neither
module _ (u t : Tree) (usage : Usage) (numbered : Bool) (next : IsNext u t usage numbered) where
  pub no_number_left : numbered ≡ true → u.next ≡ most_number → ◌≡◌ {A = Result Planned FsError} (Err LayerFull) (planned (limited t))
  no_number_left one last = planned_full t (limited t) (is_within_last t (omega (arith, next.number, ap {B = ℕ} (λ b. if b then 1 else 0) one, last))) refl

  pub too_many : u.most < usage.inodes → ◌≡◌ {A = Result Planned FsError} (Err LayerFull) (planned (limited t))
  too_many many = planned_full t (limited t) (is_within_many t (omega (arith, next.inodes, next.most, many))) refl

  pub next_planned : u.next ≤ most_number → (numbered ≡ true → u.next < most_number) → usage.inodes ≤ u.most → ◌≡◌ {A = Result Planned FsError} (Ok (record { after = usage })) (planned (limited t))
  next_planned low below few =
      let within = is_within_yes t (omega (arith, next.inodes, next.most, few)) (omega (arith, next.number, by numbered below)) in
      planned_fits t usage (limited t) (next.layer within) next.blocks next.inodes refl
    where
      by : (b : Bool) → (b ≡ true → u.next < most_number) → u.next + (if b then 1 else 0) ≤ most_number
      by true below = omega (arith, below refl)
      by false below = omega (arith, low)

-- why a layer was not made is its outcome's error
pub refused : (t : Tree) (e : FsError) → IsRefusal t e → (e ≡ OutOfMemory no_memory) ⊎ (limited t ≡ Err e)
refused t e (inl memory) = inl memory
refused t e (inr full) = inr (limited_full t full.1 ∙ ap (λ (y : FsError). Err y) (sym full.0))

-- the tests that the stack's check has passed
pub stack_passes : (op : Op) (s z : List Tree) → s ≡ z → None ≡ first_error (tests op s) → first_error (tests op z) ≡ None
stack_passes op s z is passes = sym (passes ∙ ap (λ (x : List Tree). first_error (tests op x)) is)

-- why an edit was not made is its outcome's error
pub edit_refused : (x : LayerError) (e : FsError) (t : Tree) → OfLayer x e → (x ≡ layer_errors.LayerFull → is_within t ≡ false) → (e ≡ OutOfMemory no_memory) ⊎ (limited t ≡ Err e)
edit_refused layer_errors.LayerFull e t of full = inr (limited_full t (full refl) ∙ ap (λ (y : FsError). Err y) (sym of))
edit_refused (layer_errors.OutOfMemory want) e t of full = inl of
