use Rattle.std.proofs.Common.{◌≡◌, ◌+◌, ◌-◌, [], Option, Some, sym, ap, ◌∙◌, arith}
use Rattle.snap_layer.specs.Counts.{blocks_of}
use Rattle.snap_layer.specs.declared.node.Body.{Body}
use Rattle.snap_layer.specs.declared.node.Body.TheVariants as body_kinds
use Rattle.snap_layer.specs.Edits.{with_body, with_filled}
use Rattle.snap_layer.specs.Contents.{body_content, edited, size_of}
use Rattle.snap_layer.specs.declared.content.Content.TheVariants.{Bytes}
use Rattle.snap_layer.proofs.Bounds.{content_blocks}
use Rattle.snap_usage.specs.declared.usage.Usage.{Usage}
use Rattle.snap_upper.specs.After.{limited, with_content}
use Rattle.snap_upper.proofs.Outcomes.{planned_fits}
use Rattle.snap_upper.proofs.Writing.{rewrites, few_blocks}
use Rattle.snap_upper.proofs.usage.plan_filling.Goals as goal

pub overflow_sub-after : goal.overflow_sub-after
overflow_sub-after c =
    let ok = c.count-now.ensures.layer in
    let t = c.requires.there in
    let size = t.3 in
    let before = (rewrites c.args.layer.now c.args.number t.0 t.1 (edited c.args.edit t.1) ok t.2 t.5).blocks in
    let none = (rewrites c.args.layer.now c.args.number t.0 t.1 (Bytes []) ok t.2 (omega arith)).blocks in
    omega (arith, c.blocks_of-old.ensures ∙ ap blocks_of size, ap (λ (n : Usage). n.blocks) c.count-now.ensures.bodies, none)

pub overflow_add-after : goal.overflow_add-after
overflow_add-after c =
    let t = c.requires.there in
    let size = t.3 in
    omega (arith, c.blocks_of-new.ensures, c.size.ensures t.1 (sym size) t.4, content_blocks (edited c.args.edit t.1) t.5, ap (λ (n : Usage). n.blocks) c.count-now.ensures.bodies, few_blocks c.args.layer.now c.count-now.ensures.layer)

pub returns : goal.returns
returns c =
    let u = c.args.layer.now in
    let k = c.args.number in
    let ok = c.count-now.ensures.layer in
    let t = c.requires.there in
    let size = t.3 in
    let new = edited c.args.edit t.1 in
    let next = rewrites u k t.0 t.1 new ok t.2 t.5 in
    let none = (rewrites u k t.0 t.1 (Bytes []) ok t.2 (omega arith)).blocks in
    let now = ap (λ (n : Usage). n.blocks) c.count-now.ensures.bodies in
    let before : c.blocks_of-old.result ≡ blocks_of (size_of t.1) = c.blocks_of-old.ensures ∙ ap blocks_of size in
    let then : c.blocks_of-new.result ≡ blocks_of (size_of new) = c.blocks_of-new.ensures ∙ ap blocks_of (c.size.ensures t.1 (sym size) t.4) in
    planned_fits (with_body u k (body_kinds.File t.0 new)) (record { blocks = c.count-now.result.blocks - c.blocks_of-old.result + c.blocks_of-new.result; inodes = c.count-now.result.inodes }) (limited (with_content u (Some k) (edited c.args.edit))) next.layer
    (omega (arith, now, before, then, none, next.blocks)) (ap (λ (n : Usage). n.inodes) c.count-now.ensures.bodies ∙ sym next.inodes)
    (ap limited (ap (λ (o : Option Body). with_filled u k o (edited c.args.edit (body_content o))) t.2))
