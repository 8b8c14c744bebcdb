use Rattle.std.proofs.Common.{◌≡◌, ℕ, Option, Some, refl, sym, ap, subst, ◌∙◌, arith}
use Rattle.snap_layer.specs.declared.node.Body.{Body}
use Rattle.snap_layer.specs.declared.node.Body.TheVariants as body_kinds
use Rattle.snap_layer.specs.Tree.{Tree, body}
use Rattle.snap_layer.specs.Counts.{body_blocks}
use Rattle.snap_layer.specs.Layers.{IsLayer, IsFile}
use Rattle.snap_layer.specs.Edits.{with_body, with_filled, IsRegular}
use Rattle.snap_layer.specs.Contents.{edited, body_content, body_edited, IsShort}
use Rattle.snap_layer.specs.Totals.{IsCounted}
use Rattle.snap_layer.proofs.Bounds.{content_blocks}
use Rattle.snap_layer.proofs.Setting.{file_body}
use Rattle.snap_layer.proofs.Totaling.{counts_body, few_blocks, body_few}
use Rattle.snap_layer.proofs.Contents.{regular_there, file_edited, with_edited, edited_short}
use Rattle.snap_layer.proofs.layer.Layer.edit_content.Goals as goal

pub edit_content-requires-clause-file : goal.edit_content-requires-clause-file
edit_content-requires-clause-file c =
    let u = c.self.inside.table in
    let ok : IsLayer u = c.self.invariant.1 in
    let file = regular_there u ok c.args.number (body u c.args.number) refl (subst (λ (t : Tree). IsRegular (body t c.args.number)) (sym c.self.view_is) c.requires.file) in
    file

pub edit_content-requires-clause-short : goal.edit_content-requires-clause-short
edit_content-requires-clause-short c = subst (λ (t : Tree). IsShort c.args.edit (body_content (body t c.args.number))) (sym c.self.view_is) c.requires.short

pub overflow_sub-self : goal.overflow_sub-self
overflow_sub-self c =
    let u = c.self.inside.table in
    let ok : IsLayer u = c.self.invariant.1 in
    let file = regular_there u ok c.args.number (body u c.args.number) refl (subst (λ (t : Tree). IsRegular (body t c.args.number)) (sym c.self.view_is) c.requires.file) in
    let had = file_body (body u c.args.number) file in
    let b : Body = body_kinds.File had.0 had.1 in
    let low : IsFile (Some b) = subst IsFile had.2 file in
    let short : IsShort c.args.edit had.1 = subst (IsShort c.args.edit) (ap (λ (t : Tree). body_content (body t c.args.number)) (sym c.self.view_is) ∙ ap body_content had.2) c.requires.short in
    let blocks = c.in_ok-freed.ensures.blocks b had.2 in
    let freed : c.in_ok-freed.freed ≡ body_blocks b = ap (λ (p : ℕ × ℕ). p.0) blocks in
    let taken : c.in_ok-freed.taken ≡ body_blocks (body_edited b c.args.edit) = ap (λ (p : ℕ × ℕ). p.1) blocks in
    let few = body_few u ok c.args.number b had.2 in
    omega (arith, c.self.invariant.0.blocks, freed, few)

pub overflow_add-self : goal.overflow_add-self
overflow_add-self c =
    let u = c.self.inside.table in
    let ok : IsLayer u = c.self.invariant.1 in
    let file = regular_there u ok c.args.number (body u c.args.number) refl (subst (λ (t : Tree). IsRegular (body t c.args.number)) (sym c.self.view_is) c.requires.file) in
    let had = file_body (body u c.args.number) file in
    let b : Body = body_kinds.File had.0 had.1 in
    let low : IsFile (Some b) = subst IsFile had.2 file in
    let short : IsShort c.args.edit had.1 = subst (IsShort c.args.edit) (ap (λ (t : Tree). body_content (body t c.args.number)) (sym c.self.view_is) ∙ ap body_content had.2) c.requires.short in
    let blocks = c.in_ok-freed.ensures.blocks b had.2 in
    let freed : c.in_ok-freed.freed ≡ body_blocks b = ap (λ (p : ℕ × ℕ). p.0) blocks in
    let taken : c.in_ok-freed.taken ≡ body_blocks (body_edited b c.args.edit) = ap (λ (p : ℕ × ℕ). p.1) blocks in
    let few = body_few u ok c.args.number b had.2 in
    omega (arith, c.self.invariant.0.blocks, freed, taken, few, content_blocks (edited c.args.edit had.1) (edited_short c.args.edit had.1 short low.1), few_blocks u ok)

pub invariant_of-self-2 : goal.invariant_of-self-2
invariant_of-self-2 c =
    let u = c.self.inside.table in
    let ok : IsLayer u = c.self.invariant.1 in
    let file = regular_there u ok c.args.number (body u c.args.number) refl (subst (λ (t : Tree). IsRegular (body t c.args.number)) (sym c.self.view_is) c.requires.file) in
    let had = file_body (body u c.args.number) file in
    let b : Body = body_kinds.File had.0 had.1 in
    let low : IsFile (Some b) = subst IsFile had.2 file in
    let short : IsShort c.args.edit had.1 = subst (IsShort c.args.edit) (ap (λ (t : Tree). body_content (body t c.args.number)) (sym c.self.view_is) ∙ ap body_content had.2) c.requires.short in
    let blocks = c.in_ok-freed.ensures.blocks b had.2 in
    let freed : c.in_ok-freed.freed ≡ body_blocks b = ap (λ (p : ℕ × ℕ). p.0) blocks in
    let taken : c.in_ok-freed.taken ≡ body_blocks (body_edited b c.args.edit) = ap (λ (p : ℕ × ℕ). p.1) blocks in
    let few = body_few u ok c.args.number b had.2 in
    let is : c.edit_content.new.self ≡ with_body u c.args.number (body_edited b c.args.edit) = c.in_ok-freed.ensures.ok b had.2 in
    let edits = file_edited u ok c.args.number b c.args.edit had.2 low short in
    subst (IsCounted _) (sym is) (counts_body u ok c.args.number b (body_edited b c.args.edit) c.self.inside.totals _ had.2 c.self.invariant.0 refl refl (omega (arith, c.self.invariant.0.blocks, freed, taken, few)), edits.layer)

pub returns-clause-ok : goal.returns-clause-ok
returns-clause-ok c =
    let u = c.self.inside.table in
    let ok : IsLayer u = c.self.invariant.1 in
    let file = regular_there u ok c.args.number (body u c.args.number) refl (subst (λ (t : Tree). IsRegular (body t c.args.number)) (sym c.self.view_is) c.requires.file) in
    let had = file_body (body u c.args.number) file in
    let b : Body = body_kinds.File had.0 had.1 in
    let low : IsFile (Some b) = subst IsFile had.2 file in
    let short : IsShort c.args.edit had.1 = subst (IsShort c.args.edit) (ap (λ (t : Tree). body_content (body t c.args.number)) (sym c.self.view_is) ∙ ap body_content had.2) c.requires.short in
    let is : c.edit_content.new.self ≡ with_body u c.args.number (body_edited b c.args.edit) = c.in_ok-freed.ensures.ok b had.2 in
    is
    ∙ with_edited u c.args.number b c.args.edit low
    ∙ ap (λ (o : Option Body). with_filled u c.args.number o (edited c.args.edit (body_content o))) (sym had.2)
    ∙ ap (λ (t : Tree). with_filled t c.args.number (body t c.args.number) (edited c.args.edit (body_content (body t c.args.number)))) c.self.view_is

pub returns-clause-layer : goal.returns-clause-layer
returns-clause-layer c =
    let u = c.self.inside.table in
    let ok : IsLayer u = c.self.invariant.1 in
    let file = regular_there u ok c.args.number (body u c.args.number) refl (subst (λ (t : Tree). IsRegular (body t c.args.number)) (sym c.self.view_is) c.requires.file) in
    let had = file_body (body u c.args.number) file in
    let b : Body = body_kinds.File had.0 had.1 in
    let low : IsFile (Some b) = subst IsFile had.2 file in
    let short : IsShort c.args.edit had.1 = subst (IsShort c.args.edit) (ap (λ (t : Tree). body_content (body t c.args.number)) (sym c.self.view_is) ∙ ap body_content had.2) c.requires.short in
    let blocks = c.in_ok-freed.ensures.blocks b had.2 in
    let freed : c.in_ok-freed.freed ≡ body_blocks b = ap (λ (p : ℕ × ℕ). p.0) blocks in
    let taken : c.in_ok-freed.taken ≡ body_blocks (body_edited b c.args.edit) = ap (λ (p : ℕ × ℕ). p.1) blocks in
    let few = body_few u ok c.args.number b had.2 in
    let is : c.edit_content.new.self ≡ with_body u c.args.number (body_edited b c.args.edit) = c.in_ok-freed.ensures.ok b had.2 in
    let edits = file_edited u ok c.args.number b c.args.edit had.2 low short in
    subst IsLayer (sym is) edits.layer
