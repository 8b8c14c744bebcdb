use Rattle.std.proofs.Common.{◌≡◌, ◌++◌, ◌∷◌, List, Option, sym, ap, ◌∙◌}
use Rattle.std.specs.Option.{option_copied, option_to_list}
use Rattle.std.specs.Borrow.{Bor}
use Rattle.smallvec.specs.SmallVec.{SmallVec}
use Rattle.snap_layer.specs.Tree.{Tree}
use Rattle.snap_layer.specs.Directory.{Directory}
use Rattle.snap_merge.specs.Row.{Row, row}
use Rattle.snap_merge.proofs.Rows.{row_on, row_ends}
use Rattle.snap_merge.proofs.stack.Stack.row.Goals as goal
use Rattle.snap_merge.proofs.stack.Stack.row.Goals.{in-Some+in_ok-goes_on+else-not-goes_on, in_default}

pub returns-then-not-goes_on : goal.returns-then-not-goes_on
returns-then-not-goes_on c =
    let p = c.args.names.now in
    let layers : c.args.self.now ≡ c.in-Some.top.now ∷ c.self.inside.lowers.now = sym c.self.view_is ∙ ap (λ (o : Option (Bor Tree)). option_to_list (option_copied o) ++ c.self.inside.lowers.now) c.in-Some.is in
    row_ends c.new-rows.result.items c.put_layer.new.rows.items c.in-Some.top.now c.self.inside.lowers.now p c.in_ok-goes_on.goes_on c.in_ok-goes_on.ensures.dir c.in_ok-goes_on.ensures.on c.if-not-goes_on.true
    ∙ ap (λ (r : Row). r ++ row (c.in-Some.top.now ∷ c.self.inside.lowers.now) p) c.new-rows.ensures.items
    ∙ ap (λ (s : List Tree). row s p) (sym layers)

pub returns : goal.returns
returns c =
    let p = c.args.names.now in
    elim c.match-self.branch [
      | in-Some+in_ok-goes_on+else-not-goes_on w ↦
          let layers : c.args.self.now ≡ w.in-Some.top.now ∷ c.self.inside.lowers.now = sym c.self.view_is ∙ ap (λ (o : Option (Bor Tree)). option_to_list (option_copied o) ++ c.self.inside.lowers.now) w.in-Some.is in
          c.in_ok-put_layers.ensures
          ∙ ap (λ (r : SmallVec (Option Directory)). r.items ++ row c.self.inside.lowers.now p) w.rows-is
          ∙ row_on c.new-rows.result.items w.put_layer.new.rows.items w.in-Some.top.now c.self.inside.lowers.now p w.in_ok-goes_on.goes_on w.in_ok-goes_on.ensures.dir w.in_ok-goes_on.ensures.on w.if-not-goes_on.false
          ∙ ap (λ (r : Row). r ++ row (w.in-Some.top.now ∷ c.self.inside.lowers.now) p) c.new-rows.ensures.items
          ∙ ap (λ (s : List Tree). row s p) (sym layers)
      | in_default w ↦
          let layers : c.args.self.now ≡ c.self.inside.lowers.now = sym c.self.view_is ∙ ap (λ (o : Option (Bor Tree)). option_to_list (option_copied o) ++ c.self.inside.lowers.now) w.in_default.is in
          c.in_ok-put_layers.ensures
          ∙ ap (λ (r : SmallVec (Option Directory)). r.items ++ row c.self.inside.lowers.now p) w.rows-is
          ∙ ap (λ (r : Row). r ++ row c.self.inside.lowers.now p) c.new-rows.ensures.items
          ∙ ap (λ (s : List Tree). row s p) (sym layers)
    ]
