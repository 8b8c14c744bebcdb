use Rattle.std.proofs.Common.{◌+◌, ◌∷◌, ◌++◌, [], List, drop, sym, ap, ◌∙◌}
use Rattle.std.specs.Prelude.{◌&&◌, is_some}
use Rattle.std.proofs.lemmas.List.{at_drop_more}
use Rattle.snap_path.specs.Text.{Names}
use Rattle.snap_layer.specs.Tree.{Tree}
use Rattle.snap_merge.specs.Objects.{seen}
use Rattle.snap_merge.specs.Shares.{has, seen_so_far}
use Rattle.snap_merge.proofs.Sharing.{told_last, told_some}
use Rattle.snap_merge.proofs.names.put_some.Goals as goal

pub returns-then-not-goes_on-clause-some : goal.returns-then-not-goes_on-clause-some
returns-then-not-goes_on-clause-some c = λ n h.
    sym (
    c.in_ok-goes_on.ensures n (seen (drop (c.loop-shared.shared-index + 1) c.args.lowers.now) (c.args.path.now ++ n ∷ []))
    ∙ ap (λ (ks : Names). seen_so_far ks c.loop-shared.gone.keys n (is_some (seen (c.layer.result.now ∷ drop (c.loop-shared.shared-index + 1) c.args.lowers.now) (c.args.path.now ++ n ∷ [])))) c.loop-shared.invariant.0
    ∙ ap (λ (t : Tree). seen_so_far [] c.loop-shared.gone.keys n (is_some (seen (t ∷ drop (c.loop-shared.shared-index + 1) c.args.lowers.now) (c.args.path.now ++ n ∷ [])))) (c.layer.ensures.value ∙ c.shared-item.is)
    ∙ sym (at_drop_more (λ (ts : List Tree). seen_so_far [] c.loop-shared.gone.keys n (is_some (seen ts (c.args.path.now ++ n ∷ [])))) c.args.lowers.now c.loop-shared.shared-index c.shared-item.result c.loop-shared-test.true)
    ∙ c.loop-shared.invariant.1 n
    ) ∙ told_some c.put_layer.new.shown.keys c.put_layer.new.gone.keys n (c.in_ok-goes_on.goes_on && is_some (seen (drop (c.loop-shared.shared-index + 1) c.args.lowers.now) (c.args.path.now ++ n ∷ []))) h

pub returns-then-not-goes_on-clause-none : goal.returns-then-not-goes_on-clause-none
returns-then-not-goes_on-clause-none c = λ e n.
    sym (
    c.in_ok-goes_on.ensures n (seen (drop (c.loop-shared.shared-index + 1) c.args.lowers.now) (c.args.path.now ++ n ∷ []))
    ∙ ap (λ (ks : Names). seen_so_far ks c.loop-shared.gone.keys n (is_some (seen (c.layer.result.now ∷ drop (c.loop-shared.shared-index + 1) c.args.lowers.now) (c.args.path.now ++ n ∷ [])))) c.loop-shared.invariant.0
    ∙ ap (λ (t : Tree). seen_so_far [] c.loop-shared.gone.keys n (is_some (seen (t ∷ drop (c.loop-shared.shared-index + 1) c.args.lowers.now) (c.args.path.now ++ n ∷ [])))) (c.layer.ensures.value ∙ c.shared-item.is)
    ∙ sym (at_drop_more (λ (ts : List Tree). seen_so_far [] c.loop-shared.gone.keys n (is_some (seen ts (c.args.path.now ++ n ∷ [])))) c.args.lowers.now c.loop-shared.shared-index c.shared-item.result c.loop-shared-test.true)
    ∙ c.loop-shared.invariant.1 n
    )
    ∙ ap (λ b. seen_so_far c.put_layer.new.shown.keys c.put_layer.new.gone.keys n (b && is_some (seen (drop (c.loop-shared.shared-index + 1) c.args.lowers.now) (c.args.path.now ++ n ∷ [])))) c.if-not-goes_on.true
    ∙ told_last c.put_layer.new.shown.keys c.put_layer.new.gone.keys n
    ∙ ap (has n) e

pub returns-then-not-is_empty-clause-some : goal.returns-then-not-is_empty-clause-some
returns-then-not-is_empty-clause-some c = λ n h.
    sym (
    c.in_ok-goes_on.ensures n (seen (drop (c.loop-shared.shared-index + 1) c.args.lowers.now) (c.args.path.now ++ n ∷ []))
    ∙ ap (λ (ks : Names). seen_so_far ks c.loop-shared.gone.keys n (is_some (seen (c.layer.result.now ∷ drop (c.loop-shared.shared-index + 1) c.args.lowers.now) (c.args.path.now ++ n ∷ [])))) c.loop-shared.invariant.0
    ∙ ap (λ (t : Tree). seen_so_far [] c.loop-shared.gone.keys n (is_some (seen (t ∷ drop (c.loop-shared.shared-index + 1) c.args.lowers.now) (c.args.path.now ++ n ∷ [])))) (c.layer.ensures.value ∙ c.shared-item.is)
    ∙ sym (at_drop_more (λ (ts : List Tree). seen_so_far [] c.loop-shared.gone.keys n (is_some (seen ts (c.args.path.now ++ n ∷ [])))) c.args.lowers.now c.loop-shared.shared-index c.shared-item.result c.loop-shared-test.true)
    ∙ c.loop-shared.invariant.1 n
    ) ∙ told_some c.put_layer.new.shown.keys c.put_layer.new.gone.keys n (c.in_ok-goes_on.goes_on && is_some (seen (drop (c.loop-shared.shared-index + 1) c.args.lowers.now) (c.args.path.now ++ n ∷ []))) h
