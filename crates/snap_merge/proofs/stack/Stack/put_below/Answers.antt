use Rattle.std.proofs.Common.{◌≡◌, ◌++◌, ◌∷◌, [], List, None, Some, sym, ap, ◌∙◌, append_assoc, append-nil}
use Rattle.snap_merge.specs.declared.taken.Part.{Part}
use Rattle.snap_merge.specs.declared.taken.Part.TheVariants as parts
use Rattle.snap_merge.specs.Taken.{part}
use Rattle.snap_merge.specs.Row.{Row, row, parts_in}
use Rattle.snap_merge.proofs.Parts.{dir_below, none_below, file_below}
use Rattle.snap_merge.proofs.Rows.{parts_row}
use Rattle.snap_merge.proofs.stack.Stack.put_below.Goals as goal

pub returns-in_ok-put_inside-in-Some-Dir : goal.returns-in_ok-put_inside-in-Some-Dir
returns-in_ok-put_inside-in-Some-Dir c =
    let s = c.args.self.now in
    let p = c.args.path.now in
    let is : part 0 s p ≡ Some parts.Dir = sym c.part.ensures ∙ c.in-Some-Dir.is ∙ ap Some c.in-Some-Dir.field-0-is in
    let its : c.as_slice.result.now ≡ row s p = c.as_slice.ensures ∙ c.in_ok-row-in-Some-Dir.ensures ∙ ap (row s) c.names.ensures.names in
    c.in_ok-put_inside-in-Some-Dir.ensures
    ∙ ap (λ (ps : List Part). ps ++ parts_in 2047 c.as_slice.result.now) c.in_ok-push-in-Some-Dir.ensures.items
    ∙ append_assoc c.args.parts.now.items (parts.Dir ∷ []) (parts_in 2047 c.as_slice.result.now)
    ∙ ap (λ (x : Row). c.args.parts.now.items ++ parts.Dir ∷ parts_in 2047 x) its
    ∙ ap (λ (ps : List Part). c.args.parts.now.items ++ parts.Dir ∷ ps) (parts_row 2047 s c.show_are_layers.ensures p)
    ∙ ap (λ (ps : List Part). c.args.parts.now.items ++ ps) (sym (dir_below 2048 s p (λ e. cc) is))

pub returns-in-None : goal.returns-in-None
returns-in-None c =
    let is : part 0 c.args.self.now c.args.path.now ≡ None = sym c.part.ensures ∙ c.in-None.is in
    sym (append-nil c.args.parts.now.items)
    ∙ ap (λ (ps : List Part). c.args.parts.now.items ++ ps) (sym (none_below 2048 c.args.self.now c.args.path.now (λ e. cc) is))

pub returns-in_ok-push-in-Some-File : goal.returns-in_ok-push-in-Some-File
returns-in_ok-push-in-Some-File c =
    let is : part 0 c.args.self.now c.args.path.now ≡ Some (parts.File c.in-Some-File.file) = sym c.part.ensures ∙ c.in-Some-File.is ∙ ap Some c.in-Some-File.field-0-is in
    c.in_ok-push-in-Some-File.ensures.items
    ∙ ap (λ (ps : List Part). c.args.parts.now.items ++ ps) (sym (file_below 2048 c.args.self.now c.args.path.now c.in-Some-File.file (λ e. cc) is))
