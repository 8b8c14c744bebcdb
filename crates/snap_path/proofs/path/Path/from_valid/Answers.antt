use Rattle.std.proofs.Common.{◌≡◌, drop, refl, sym, ap, ◌∙◌, arith, lit<}
use Rattle.std.proofs.lemmas.Str.{IsCharBoundary-after_ascii}
use Rattle.std.proofs.lemmas.Iterator.Consumers.{YieldsList-turn, YieldsList-end}
use Rattle.std.proofs.lemmas.Iterator.Splits.{YieldsList-from_str_split}
use Rattle.std.specs.Str.Iter.{split_text, split_has_more, split_pattern}
use Rattle.snap_path.specs.Text.{path_names}
use Rattle.snap_path.proofs.Texts.{below_root, passes}
use Rattle.snap_path.proofs.path.Path.from_valid.Goals as goal

pub range_from-requires : goal.range_from-requires
range_from-requires c =
    let below = below_root _ c.requires c.if-text-le1.false in
    let cut = IsCharBoundary-after_ascii c.args.text.now 0 c.utf8.text (omega arith) (omega (arith, below.first)) in
    λ _. cut

pub from_valid-requires : goal.from_valid-requires
from_valid-requires c =
    let below = below_root _ c.requires c.if-text-le1.false in
    let same = c.into_iter-part-iterator.ensures.into_iter_gives in
    let road = YieldsList-from_str_split 47 (drop 1 c.args.text.now) (lit< tt) (ap split_text same ∙ c.split-part-items.ensures.text ∙ c.range_from.ensures.value) (ap split_has_more same ∙ c.split-part-items.ensures.has_more) (ap split_pattern same ∙ c.split-part-items.ensures.pattern) in
    let turn = YieldsList-turn road c.loop-part.yielded _ c.loop-part.yielded_by _ _ c.in-Some.part c.in-Some.is c.next.ensures.steps in
    rw turn.1 (passes _ _ _ (rw below.split at below.path.0) turn.0)

pub invariant_of-result : goal.invariant_of-result
invariant_of-result c =
    let below = below_root _ c.requires c.if-text-le1.false in
    let same = c.into_iter-part-iterator.ensures.into_iter_gives in
    let road = YieldsList-from_str_split 47 (drop 1 c.args.text.now) (lit< tt) (ap split_text same ∙ c.split-part-items.ensures.text ∙ c.range_from.ensures.value) (ap split_has_more same ∙ c.split-part-items.ensures.has_more) (ap split_pattern same ∙ c.split-part-items.ensures.pattern) in
    let end = YieldsList-end road c.loop-part.yielded _ c.loop-part.yielded_by _ _ c.in-None.is c.next.ensures.steps in
    let names : c.loop-part.names.items ≡ path_names c.args.text.now = c.loop-part.invariant ∙ end.0 ∙ sym below.split in
    rw names (c.in_ok-kept.ensures.ok ∙ sym below.below, below.path)

pub returns : goal.returns
returns c =
    let below = below_root _ c.requires c.if-text-le1.false in
    let same = c.into_iter-part-iterator.ensures.into_iter_gives in
    let road = YieldsList-from_str_split 47 (drop 1 c.args.text.now) (lit< tt) (ap split_text same ∙ c.split-part-items.ensures.text ∙ c.range_from.ensures.value) (ap split_has_more same ∙ c.split-part-items.ensures.has_more) (ap split_pattern same ∙ c.split-part-items.ensures.pattern) in
    let end = YieldsList-end road c.loop-part.yielded _ c.loop-part.yielded_by _ _ c.in-None.is c.next.ensures.steps in
    let names : c.loop-part.names.items ≡ path_names c.args.text.now = c.loop-part.invariant ∙ end.0 ∙ sym below.split in
    rw names (refl, below.text)
