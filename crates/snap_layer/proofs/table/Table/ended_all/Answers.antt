use Rattle.std.proofs.Common.{◌≡◌, ◌+◌, ◌++◌, ◌∷◌, [], ℕ, length, take, refl, sym, ap, ◌∙◌, arith, append_assoc, append-nil, length-append}
use Rattle.std.specs.List.{sum_by}
use Rattle.std.specs.Map.{values_of}
use Rattle.std.proofs.lemmas.List.{take_at}
use Rattle.snap_path.specs.Text.{Names}
use Rattle.snap_layer.specs.declared.node.Node.{Node}
use Rattle.snap_layer.specs.Tree.{Entries, Bodies, at}
use Rattle.snap_layer.specs.Counts.{body_blocks}
use Rattle.snap_layer.specs.Edits.{inside}
use Rattle.snap_layer.specs.Ended.{ended}
use Rattle.snap_layer.specs.Rows.{own}
use Rattle.snap_layer.proofs.Bounds.{blocks_of_bodies}
use Rattle.snap_layer.proofs.Ending.{ended_all, ended_few, ended_light, ended_start, few_among, few_fit, step_blocks, step_inodes}
use Rattle.snap_layer.proofs.table.Table.ended_all.Goals as goal

pub loop-row-init : goal.loop-row-init
loop-row-init c =
    let start = ended_start c.args.self.now c.all_below-rows.ensures.layer in
    ([], c.all_below-rows.ensures.rest, refl, sym (ap (λ (bs : Bodies). length bs) start), sym (ap (λ (bs : Bodies). sum_by body_blocks (values_of bs)) start))

pub overflow_add-many : goal.overflow_add-many
overflow_add-many c =
    let t = c.args.self.now in
    let p = c.args.front.now in
    let so = c.loop-row.invariant in
    let long = few_fit t p (at t p) so.0 c.next.new.self.rest c.next.new.self.path c.in-Some.row.node (so.1 ∙ ap (λ (es : Entries). own p (at t p) ++ (so.0 ++ es)) c.in-Some.ensures.row) in
    omega (arith, so.2, long, c.requires.few, c.ranges.bound.fits)

pub ended_at-file-requires : goal.ended_at-file-requires
ended_at-file-requires c =
    let t = c.args.self.now in
    let p = c.args.front.now in
    let so = c.loop-row.invariant in
    let e : Names × Node = (c.next.new.self.path, c.in-Some.row.node) in
    let post = so.0 ++ e ∷ [] in
    let split : so.0 ++ c.loop-row.rows.rest ≡ post ++ c.next.new.self.rest = ap (λ (es : Entries). so.0 ++ es) c.in-Some.ensures.row ∙ sym (append_assoc so.0 (e ∷ []) c.next.new.self.rest) in
    let taken : take (c.loop-row.many + 1) (so.0 ++ c.loop-row.rows.rest) ≡ post = ap (λ (es : Entries). take (c.loop-row.many + 1) es) split ∙ take_at post c.next.new.self.rest (c.loop-row.many + 1) (omega (arith, length-append so.0 (e ∷ []), so.2)) in
    record { there = (so.0 ++ c.loop-row.rows.rest, c.next.new.self.path, c.next.new.self.rest, so.1, split ∙ ap (λ (es : Entries). es ++ c.next.new.self.rest) (sym taken), so.0, taken) }

pub overflow_add-inodes : goal.overflow_add-inodes
overflow_add-inodes c =
    let t = c.args.self.now in
    let p = c.args.front.now in
    let ok = c.all_below-rows.ensures.layer in
    let so = c.loop-row.invariant in
    let e : Names × Node = (c.next.new.self.path, c.in-Some.row.node) in
    let post = so.0 ++ e ∷ [] in
    let rest = so.0 ++ c.loop-row.rows.rest in
    let split : rest ≡ post ++ c.next.new.self.rest = ap (λ (es : Entries). so.0 ++ es) c.in-Some.ensures.row ∙ sym (append_assoc so.0 (e ∷ []) c.next.new.self.rest) in
    let taken : take (c.loop-row.many + 1) rest ≡ post = ap (λ (es : Entries). take (c.loop-row.many + 1) es) split ∙ take_at post c.next.new.self.rest (c.loop-row.many + 1) (omega (arith, length-append so.0 (e ∷ []), so.2)) in
    let is = c.ended_at-file.ensures rest so.1 ∙ ap (λ (es : Entries). ended t c.in-Some.row.node es) taken in
    let step = step_inodes t ok so.0 c.next.new.self.path c.in-Some.row.node (few_among t ok p c.requires.dir rest so.1 post c.next.new.self.rest split) in
    omega (arith, so.3, step, ap (λ (x : ℕ × ℕ). x.0) is, ended_few t post, ok.few)

pub overflow_add-blocks : goal.overflow_add-blocks
overflow_add-blocks c =
    let t = c.args.self.now in
    let p = c.args.front.now in
    let ok = c.all_below-rows.ensures.layer in
    let so = c.loop-row.invariant in
    let e : Names × Node = (c.next.new.self.path, c.in-Some.row.node) in
    let post = so.0 ++ e ∷ [] in
    let rest = so.0 ++ c.loop-row.rows.rest in
    let split : rest ≡ post ++ c.next.new.self.rest = ap (λ (es : Entries). so.0 ++ es) c.in-Some.ensures.row ∙ sym (append_assoc so.0 (e ∷ []) c.next.new.self.rest) in
    let taken : take (c.loop-row.many + 1) rest ≡ post = ap (λ (es : Entries). take (c.loop-row.many + 1) es) split ∙ take_at post c.next.new.self.rest (c.loop-row.many + 1) (omega (arith, length-append so.0 (e ∷ []), so.2)) in
    let is = c.ended_at-file.ensures rest so.1 ∙ ap (λ (es : Entries). ended t c.in-Some.row.node es) taken in
    let step = step_blocks t ok so.0 c.next.new.self.path c.in-Some.row.node (few_among t ok p c.requires.dir rest so.1 post c.next.new.self.rest split) in
    omega (arith, so.4, step, ap (λ (x : ℕ × ℕ). x.1) is, ended_light t post, blocks_of_bodies t ok, ok.few)

pub loop-row-preserved : goal.loop-row-preserved
loop-row-preserved c =
    let t = c.args.self.now in
    let p = c.args.front.now in
    let ok = c.all_below-rows.ensures.layer in
    let so = c.loop-row.invariant in
    let e : Names × Node = (c.next.new.self.path, c.in-Some.row.node) in
    let post = so.0 ++ e ∷ [] in
    let rest = so.0 ++ c.loop-row.rows.rest in
    let split : rest ≡ post ++ c.next.new.self.rest = ap (λ (es : Entries). so.0 ++ es) c.in-Some.ensures.row ∙ sym (append_assoc so.0 (e ∷ []) c.next.new.self.rest) in
    let taken : take (c.loop-row.many + 1) rest ≡ post = ap (λ (es : Entries). take (c.loop-row.many + 1) es) split ∙ take_at post c.next.new.self.rest (c.loop-row.many + 1) (omega (arith, length-append so.0 (e ∷ []), so.2)) in
    let is = c.ended_at-file.ensures rest so.1 ∙ ap (λ (es : Entries). ended t c.in-Some.row.node es) taken in
    let few = few_among t ok p c.requires.dir rest so.1 post c.next.new.self.rest split in (
      post,
      so.1 ∙ ap (λ (es : Entries). own p (at t p) ++ es) split,
      omega (arith, length-append so.0 (e ∷ []), so.2),
      omega (arith, so.3, step_inodes t ok so.0 c.next.new.self.path c.in-Some.row.node few, ap (λ (x : ℕ × ℕ). x.0) is),
      omega (arith, so.4, step_blocks t ok so.0 c.next.new.self.path c.in-Some.row.node few, ap (λ (x : ℕ × ℕ). x.1) is),
    )

pub returns-clause-inodes : goal.returns-clause-inodes
returns-clause-inodes c =
    let t = c.args.self.now in
    let p = c.args.front.now in
    let so = c.loop-row.invariant in
    let all : inside p t.entries ≡ own p (at t p) ++ so.0 = so.1 ∙ ap (λ (es : Entries). own p (at t p) ++ (so.0 ++ es)) c.in_default.ensures.row ∙ ap (λ (es : Entries). own p (at t p) ++ es) (append-nil so.0) in
    so.3 ∙ ap (λ (bs : Bodies). length bs) (ended_all t c.all_below-rows.ensures.layer p c.requires.dir so.0 all)

pub returns-clause-blocks : goal.returns-clause-blocks
returns-clause-blocks c =
    let t = c.args.self.now in
    let p = c.args.front.now in
    let so = c.loop-row.invariant in
    let all : inside p t.entries ≡ own p (at t p) ++ so.0 = so.1 ∙ ap (λ (es : Entries). own p (at t p) ++ (so.0 ++ es)) c.in_default.ensures.row ∙ ap (λ (es : Entries). own p (at t p) ++ es) (append-nil so.0) in
    so.4 ∙ ap (λ (bs : Bodies). sum_by body_blocks (values_of bs)) (ended_all t c.all_below-rows.ensures.layer p c.requires.dir so.0 all)
