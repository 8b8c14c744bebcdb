use Rattle.std.proofs.Common.{◌≡◌, ℕ, ◌+◌, ◌-◌, ◌≤◌, ◌<◌, false, List, nat_le, length, if◌then◌else◌, sym, ap, ap₂, ◌∙◌, arith}
use Rattle.std.proofs.lemmas.Bool.Decides.{nat_tests}
use Rattle.snap_record.specs.Labels.{Label, Bytes}
use Rattle.snap_record.specs.Updates.{named_keys, replaces_all, updated, with_named}
use Rattle.snap_record.proofs.UpdateLemmas.{length-with_named}
use Rattle.snap_record.proofs.update.is_short.Goals as goal

-- the count of an update by paths
count : (old given : List Label) (paths : List Bytes) (kept added : ℕ) → replaces_all paths ≡ false → length (with_named old given (named_keys paths)) ≡ kept + added → length (updated old given paths) ≡ kept + added
count old given paths kept added h e = ap (λ b. length (if b then given else with_named old given (named_keys paths))) h ∙ e

within : (n kept added : ℕ) → n ≡ kept + added → kept ≤ 64 → nat_le added (64 - kept) ≡ nat_le n 64
within n kept added e h = grind (arith, nat_tests)

beyond : (n kept added : ℕ) → n ≡ kept + added → 64 < kept → nat_le kept 64 ≡ nat_le n 64
beyond n kept added e h = grind (arith, nat_tests)

pub returns-then-kept-le-MAX_LABELS : goal.returns-then-kept-le-MAX_LABELS
returns-then-kept-le-MAX_LABELS c =
    within _ c.kept_len-kept.result c.added_len-added.result
    (count c.args.labels.now c.args.given.now c.args.paths.now _ _ (sym c.replaces_all.ensures ∙ c.if-replaces_all.false)
    (length-with_named c.args.labels.now c.args.given.now (named_keys c.args.paths.now) c.added_len-added.ensures.distinct
    ∙ sym (ap₂ (λ a b. a + b) c.kept_len-kept.ensures c.added_len-added.ensures.count)))
    c.if-kept-le-MAX_LABELS.true

pub returns-else-kept-le-MAX_LABELS : goal.returns-else-kept-le-MAX_LABELS
returns-else-kept-le-MAX_LABELS c =
    beyond _ c.kept_len-kept.result c.added_len-added.result
    (count c.args.labels.now c.args.given.now c.args.paths.now _ _ (sym c.replaces_all.ensures ∙ c.if-replaces_all.false)
    (length-with_named c.args.labels.now c.args.given.now (named_keys c.args.paths.now) c.added_len-added.ensures.distinct
    ∙ sym (ap₂ (λ a b. a + b) c.kept_len-kept.ensures c.added_len-added.ensures.count)))
    c.if-kept-le-MAX_LABELS.false
