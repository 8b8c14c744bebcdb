use Rattle.std.proofs.Common.{◌≡◌, ◌+◌, ◌-◌, ◌≤◌, length, refl, sym, ap, ◌∙◌, arith}
use Rattle.std.specs.List.{list_all}
use Rattle.snap_path.specs.Limits.{most_path_bytes}
use Rattle.snap_path.specs.Text.{text_of}
use Rattle.snap_layer.proofs.Testing.{is_short, short_from, all_short}
use Rattle.snap_layer.proofs.Short.{stays_short, short_inside}
use Rattle.snap_layer.proofs.table.Table.has_short_paths.Goals as goal

pub returns-then-goal-front : goal.returns-then-goal-front
returns-then-goal-front c =
    let shorter : length (text_of c.args.to.now) ≤ length (text_of c.args.from.now) = omega (arith, c.if-goal-front.true, ap length c.as_str-front.ensures.value, ap length c.as_str-goal.ensures.value) in
    ((λ e r some. stays_short c.args.self.now c.requires.layer c.args.from.now c.args.to.now c.requires.from c.requires.to shorter r some), λ fits. refl)

pub returns : goal.returns
returns c =
    let from = c.args.from.now in
    let to = c.args.to.now in
    let most : most_path_bytes + length c.as_str-front.result.now - length c.as_str-goal.result.now ≡ most_path_bytes + length (text_of from) - length (text_of to) = (λ i. most_path_bytes + length (c.as_str-front.ensures.value i) - length (c.as_str-goal.ensures.value i)) in
    let short : c.has_texts_within.result ≡ list_all (is_short from to) c.args.self.now.entries =
    c.has_texts_within.ensures ∙ short_inside from to c.requires.from (omega (arith, c.as_str-goal.ensures.short)) _ most c.args.self.now.entries in (
      (λ e r some. short_from from to c.requires.from c.requires.to c.args.self.now.entries (sym short ∙ e) r some),
      λ fits. short ∙ all_short from to c.requires.from c.requires.to c.args.self.now.entries c.requires.layer.sorted_paths fits,
    )
