use Rattle.std.proofs.Common.{◌≡◌, ◌+◌, take, Some, None, IsSome, sym, ap, subst, ◌∙◌, arith}
use Rattle.std.specs.Prelude.{option_and_then}
use Rattle.snap_layer.specs.Tree.{body, number_at, number_of}
use Rattle.snap_layer.specs.Counts.{body_blocks, name_count}
use Rattle.snap_layer.specs.Layers.{IsLayer}
use Rattle.snap_layer.specs.Edits.{without}
use Rattle.snap_layer.proofs.Kept.{has_body}
use Rattle.snap_layer.proofs.Totaling.{last_inodes, last_blocks, other_inodes, other_blocks}
use Rattle.std.specs.List.{sum_by}
use Rattle.std.specs.Map.{values_of}
use Rattle.std.specs.Option.{option_copied}
use Rattle.snap_layer.proofs.Changing.{no_body}
use Rattle.snap_layer.proofs.layer.Layer.last_body.Goals as goal

pub returns-then-link_count-ne1-clause-inodes : goal.returns-then-link_count-ne1-clause-inodes
returns-then-link_count-ne1-clause-inodes c =
    let ok : IsLayer c.args.self.now = c.requires.layer in
    let number : number_at c.args.self.now (take c.args.front c.args.path.now) ≡ Some c.in-Some.number = ap (option_and_then number_of) (sym c.requires.node) ∙ sym c.number_in.ensures ∙ c.in-Some.is in
    let more : name_count c.in-Some.number c.args.self.now.entries ≡ 1 → ⊥ = λ e. omega (arith, c.link_count.ensures, c.if-link_count-ne1.true, e) in
    other_inodes c.args.self.now ok (take c.args.front c.args.path.now) c.in-Some.number number more

pub returns-then-link_count-ne1-clause-blocks : goal.returns-then-link_count-ne1-clause-blocks
returns-then-link_count-ne1-clause-blocks c =
    let ok : IsLayer c.args.self.now = c.requires.layer in
    let number : number_at c.args.self.now (take c.args.front c.args.path.now) ≡ Some c.in-Some.number = ap (option_and_then number_of) (sym c.requires.node) ∙ sym c.number_in.ensures ∙ c.in-Some.is in
    let more : name_count c.in-Some.number c.args.self.now.entries ≡ 1 → ⊥ = λ e. omega (arith, c.link_count.ensures, c.if-link_count-ne1.true, e) in
    other_blocks c.args.self.now ok (take c.args.front c.args.path.now) c.in-Some.number number more

pub returns-in-Some-body-clause-inodes : goal.returns-in-Some-body-clause-inodes
returns-in-Some-body-clause-inodes c =
    let ok : IsLayer c.args.self.now = c.requires.layer in
    let number : number_at c.args.self.now (take c.args.front c.args.path.now) ≡ Some c.in-Some.number = ap (option_and_then number_of) (sym c.requires.node) ∙ sym c.number_in.ensures ∙ c.in-Some.is in
    let one : name_count c.in-Some.number c.args.self.now.entries ≡ 1 = omega (arith, c.link_count.ensures, c.if-link_count-ne1.false) in
    last_inodes c.args.self.now ok (take c.args.front c.args.path.now) c.in-Some.number number one

pub returns-in-Some-body-clause-blocks : goal.returns-in-Some-body-clause-blocks
returns-in-Some-body-clause-blocks c =
    let ok : IsLayer c.args.self.now = c.requires.layer in
    let number : number_at c.args.self.now (take c.args.front c.args.path.now) ≡ Some c.in-Some.number = ap (option_and_then number_of) (sym c.requires.node) ∙ sym c.number_in.ensures ∙ c.in-Some.is in
    let one : name_count c.in-Some.number c.args.self.now.entries ≡ 1 = omega (arith, c.link_count.ensures, c.if-link_count-ne1.false) in
    let is : body c.args.self.now c.in-Some.number ≡ Some c.in-Some-body.body.now = sym c.body.ensures.body ∙ ap option_copied c.in-Some-body.is in
    ap (λ n. sum_by body_blocks (values_of (without c.args.self.now (take c.args.front c.args.path.now)).bodies) + n) c.blocks-in-Some-body.ensures ∙ last_blocks c.args.self.now ok (take c.args.front c.args.path.now) c.in-Some.number number one c.in-Some-body.body.now is

pub returns-in-None-clause-inodes : goal.returns-in-None-clause-inodes
returns-in-None-clause-inodes c =
    let ok : IsLayer c.args.self.now = c.requires.layer in
    let number : number_at c.args.self.now (take c.args.front c.args.path.now) ≡ Some c.in-Some.number = ap (option_and_then number_of) (sym c.requires.node) ∙ sym c.number_in.ensures ∙ c.in-Some.is in
    let gone : body c.args.self.now c.in-Some.number ≡ None = sym c.body.ensures.body ∙ ap option_copied c.in-None.is in
    let some : IsSome (body c.args.self.now c.in-Some.number) = has_body c.args.self.now ok (take c.args.front c.args.path.now) c.in-Some.number number in
    absurd (no_body (subst IsSome gone some))

pub returns-in-None-clause-blocks : goal.returns-in-None-clause-blocks
returns-in-None-clause-blocks c =
    let ok : IsLayer c.args.self.now = c.requires.layer in
    let number : number_at c.args.self.now (take c.args.front c.args.path.now) ≡ Some c.in-Some.number = ap (option_and_then number_of) (sym c.requires.node) ∙ sym c.number_in.ensures ∙ c.in-Some.is in
    let gone : body c.args.self.now c.in-Some.number ≡ None = sym c.body.ensures.body ∙ ap option_copied c.in-None.is in
    let some : IsSome (body c.args.self.now c.in-Some.number) = has_body c.args.self.now ok (take c.args.front c.args.path.now) c.in-Some.number number in
    absurd (no_body (subst IsSome gone some))
