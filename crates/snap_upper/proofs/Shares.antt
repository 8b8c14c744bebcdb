-- Operations that may fill a share and no more.
use Rattle.std.proofs.Common.{◌≡◌, ◌⊎◌, inl, inr, ◌↔◌, ◌≤◌, ℕ, Bool, true, false, Result, Ok, Err, IfErr, IsErrOf, refl, sym, ap, subst, ◌∙◌, arith}
use Rattle.std.specs.Prelude.{nat_le, ◌&&◌, if◌then◌else◌}
use Rattle.std.proofs.lemmas.Bool.Decides.{nat_tests}
use Rattle.snap_path.specs.Memory.{no_memory}
use Rattle.snap_layer.specs.Tree.{Tree}
use Rattle.snap_usage.specs.declared.usage.Usage.{Usage}
use Rattle.snap_usage.specs.Counted.{count_of, Covers, covers}
use Rattle.snap_merge.specs.declared.error.FsError.{FsError}
use Rattle.snap_merge.specs.declared.error.FsError.TheVariants.{NeedsCharge, OutOfMemory}
use Rattle.snap_upper.specs.declared.usage.Planned.{Planned}
use Rattle.snap_upper.specs.After.{Outcome, planned, within_share}

-- the count of an answer, or another one
abbrev count_or : Usage → Result Planned FsError → Usage
count_or none (Ok p) = p.after
count_or none (Err x) = none

-- the plan's answer is the outcome's
planned_ok : (o : Outcome) (need : Usage) → planned o ≡ Ok (record { after = need }) → (t : Tree) × (o ≡ Ok t) × (count_of t ≡ need)
planned_ok (Ok t) need e = (t, refl, ap (count_or need) e)
planned_ok (Err x) need e = absurd (cc)

both : (a b : Bool) → (a && b) ≡ true → (a ≡ true) × (b ≡ true)
both true b e = (refl, e)
both false b e = absurd (cc)

at_most : (m n : ℕ) → nat_le m n ≡ true → m ≤ n
at_most m n e = grind (arith, nat_tests)

is_at_most : (m n : ℕ) → m ≤ n → nat_le m n ≡ true
is_at_most m n h = grind (arith, nat_tests)

covers_from : (share need : Usage) → covers share need ≡ true → Covers share need
covers_from share need e =
    let parts = both (nat_le need.blocks share.blocks) (nat_le need.inodes share.inodes) e in
    record { blocks = at_most need.blocks share.blocks parts.0; inodes = at_most need.inodes share.inodes parts.1 }

covers_is : (share need : Usage) → Covers share need → covers share need ≡ true
covers_is share need h = λ i. is_at_most need.blocks share.blocks h.blocks i && is_at_most need.inodes share.inodes h.inodes i

-- the count isn't covered
uncovered : (share : Usage) (t : Tree) → (Covers share (count_of t) → ⊥) → within_share share (Ok t) ≡ Err (NeedsCharge (count_of t))
uncovered share t h = by (covers share (count_of t)) refl
  where
    by : (b : Bool) → covers share (count_of t) ≡ b → (if b then Ok t else Err (NeedsCharge (count_of t))) ≡ Err (NeedsCharge (count_of t))
    by true e = absurd (h (covers_from share (count_of t) e))
    by false e = refl

share_needs : (share : Usage) (o : Outcome) (need : Usage) → planned o ≡ Ok (record { after = need }) → (Covers share need → ⊥) → within_share share o ≡ Err (NeedsCharge need)
share_needs share o need plan h =
    let next = planned_ok o need plan in
    ap (within_share share) next.1 ∙ uncovered share next.0 (λ c. h (subst (Covers share) next.2 c)) ∙ ap (λ (x : Usage). Err (NeedsCharge x)) next.2

-- this count is asked for exactly where it is the next layer's count and the share doesn't cover it
needed : (share : Usage) (o : Outcome) (need : Usage) → (o ≡ Err (NeedsCharge need) → ⊥) → within_share share o ≡ Err (NeedsCharge need) → (planned o ≡ Ok (record { after = need })) × (Covers share need → ⊥)
needed share (Ok t) need never e = by (covers share (count_of t)) refl e
  where
    not_both : (b : Bool) → b ≡ true → b ≡ false → ⊥
    not_both b e f = cc

    by : (b : Bool) → covers share (count_of t) ≡ b → ◌≡◌ {A = Outcome} (if b then Ok t else Err (NeedsCharge (count_of t))) (Err (NeedsCharge need)) → ◌≡◌ {A = Result Planned FsError} (Ok (record { after = count_of t })) (Ok (record { after = need })) × (Covers share need → ⊥)
    by true is e = absurd (cc)
    by false is e =
        let same : count_of t ≡ need = cc in
        (ap (λ (x : Usage). Ok (record { after = x })) same, λ h. not_both (covers share (count_of t)) (covers_is share (count_of t) (subst (Covers share) (sym same) h)) is)
needed share (Err x) need never e = absurd (never e)

pub needs_exactly : {A : Type 0} (share : Usage) (o : Outcome) (r : Result A FsError) (need : Usage) → (o ≡ Err (NeedsCharge need) → ⊥) → IfErr r (λ e. (e ≡ OutOfMemory no_memory) ⊎ (within_share share o ≡ Err e)) → IfErr (within_share share o) (λ e. r ≡ Err e) → IsErrOf r (NeedsCharge need) ↔ ((planned o ≡ Ok (record { after = need })) × (Covers share need → ⊥))
needs_exactly share o r need never error first = (λ asks. needed share o need never (is r error asks), λ h. asked (within_share share o) first (share_needs share o need h.0 h.1))
  where
    asks_for : {A : Type 0} (x : FsError) → ◌≡◌ {A = Result A FsError} (Err x) (Err (NeedsCharge need)) → x ≡ NeedsCharge need
    asks_for x e = cc

    not_memory : (x : FsError) → x ≡ OutOfMemory no_memory → x ≡ NeedsCharge need → ⊥
    not_memory x e f = cc

    is : {A : Type 0} (r : Result A FsError) → IfErr r (λ e. (e ≡ OutOfMemory no_memory) ⊎ (within_share share o ≡ Err e)) → IsErrOf r (NeedsCharge need) → within_share share o ≡ Err (NeedsCharge need)
    is (Ok a) error asks = absurd (cc)
    is (Err x) (inl memory) asks = absurd (not_memory x memory (asks_for x asks))
    is (Err x) (inr within) asks = within ∙ ap (λ (z : FsError). Err z) (asks_for x asks)

    asked : (w : Outcome) → IfErr w (λ e. r ≡ Err e) → w ≡ Err (NeedsCharge need) → IsErrOf r (NeedsCharge need)
    asked (Ok t) first e = absurd (cc)
    asked (Err x) first e = first ∙ ap (λ (z : FsError). Err z) (asks_for x e)
