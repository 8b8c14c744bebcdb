use Rattle.std.proofs.Common.{◌≡◌, ◌++◌, ◌∷◌, [], ℕ, List, length, sym, ap, ◌∙◌, arith, append_assoc, append-nil}
use Rattle.std.specs.List.{sum_by}
use Rattle.std.specs.Map.{values_of}
use Rattle.snap_path.specs.Text.{Names}
use Rattle.snap_layer.specs.declared.node.Node.{Node}
use Rattle.snap_layer.specs.Tree.{Entries, Bodies, at}
use Rattle.snap_layer.specs.Counts.{body_blocks}
use Rattle.snap_layer.specs.Edits.{inside}
use Rattle.snap_layer.specs.Ended.{met_of}
use Rattle.snap_layer.specs.Rows.{own}
use Rattle.snap_layer.proofs.Bounds.{blocks_of_bodies}
use Rattle.snap_layer.proofs.Ending.{ended_all, ended_few, ended_light, ended_start, few_among, step_blocks, step_inodes}
use Rattle.snap_layer.proofs.Somes.{match_some, match_none}
use Rattle.snap_layer.proofs.table.Table.ended_rows.Goals as goal

pub loop-rows-init : goal.loop-rows-init
loop-rows-init c =
    let start = ended_start c.args.self.now c.below-rows.ensures.layer in
    ([], c.below-rows.ensures.rest, λ k several. ap (λ (m : List (ℕ × ℕ)). met_of m k) c.new-met.ensures.empty, sym (ap (λ (bs : Bodies). length bs) start), sym (ap (λ (bs : Bodies). sum_by body_blocks (values_of bs)) start))

pub ended_by-requires : goal.ended_by-requires
ended_by-requires c =
    let t = c.args.self.now in
    let p = c.args.front.now in
    let ok = c.below-rows.ensures.layer in
    let so = c.loop-rows.invariant in
    let e : Names × Node = (c.try_next.new.self.path, c.in-Some.row.node) in
    let post = so.0 ++ e ∷ [] in
    let rest = so.0 ++ c.loop-rows.rows.rest in
    let split : rest ≡ post ++ c.try_next.new.self.rest = ap (λ (es : Entries). so.0 ++ es) (match_some _ _ c.in-Some.is c.in_ok-row.ensures.row) ∙ sym (append_assoc so.0 (e ∷ []) c.try_next.new.self.rest) in
    let few = few_among t ok p c.requires rest so.1 post c.try_next.new.self.rest split in
    record { there = (so.0, c.try_next.new.self.path, so.2, few) }

pub overflow_add-inodes : goal.overflow_add-inodes
overflow_add-inodes c =
    let t = c.args.self.now in
    let p = c.args.front.now in
    let ok = c.below-rows.ensures.layer in
    let so = c.loop-rows.invariant in
    let e : Names × Node = (c.try_next.new.self.path, c.in-Some.row.node) in
    let post = so.0 ++ e ∷ [] in
    let rest = so.0 ++ c.loop-rows.rows.rest in
    let split : rest ≡ post ++ c.try_next.new.self.rest = ap (λ (es : Entries). so.0 ++ es) (match_some _ _ c.in-Some.is c.in_ok-row.ensures.row) ∙ sym (append_assoc so.0 (e ∷ []) c.try_next.new.self.rest) in
    let few = few_among t ok p c.requires rest so.1 post c.try_next.new.self.rest split in
    let is = c.in_ok-file.ensures.ended so.0 c.try_next.new.self.path so.2 few in
    omega (arith, so.3, step_inodes t ok so.0 c.try_next.new.self.path c.in-Some.row.node few, ap (λ (x : ℕ × ℕ). x.0) is, ended_few t post, ok.few)

pub overflow_add-blocks : goal.overflow_add-blocks
overflow_add-blocks c =
    let t = c.args.self.now in
    let p = c.args.front.now in
    let ok = c.below-rows.ensures.layer in
    let so = c.loop-rows.invariant in
    let e : Names × Node = (c.try_next.new.self.path, c.in-Some.row.node) in
    let post = so.0 ++ e ∷ [] in
    let rest = so.0 ++ c.loop-rows.rows.rest in
    let split : rest ≡ post ++ c.try_next.new.self.rest = ap (λ (es : Entries). so.0 ++ es) (match_some _ _ c.in-Some.is c.in_ok-row.ensures.row) ∙ sym (append_assoc so.0 (e ∷ []) c.try_next.new.self.rest) in
    let few = few_among t ok p c.requires rest so.1 post c.try_next.new.self.rest split in
    let is = c.in_ok-file.ensures.ended so.0 c.try_next.new.self.path so.2 few in
    omega (arith, so.4, step_blocks t ok so.0 c.try_next.new.self.path c.in-Some.row.node few, ap (λ (x : ℕ × ℕ). x.1) is, ended_light t post, blocks_of_bodies t ok, ok.few)

pub loop-rows-preserved : goal.loop-rows-preserved
loop-rows-preserved c =
    let t = c.args.self.now in
    let p = c.args.front.now in
    let ok = c.below-rows.ensures.layer in
    let so = c.loop-rows.invariant in
    let e : Names × Node = (c.try_next.new.self.path, c.in-Some.row.node) in
    let post = so.0 ++ e ∷ [] in
    let rest = so.0 ++ c.loop-rows.rows.rest in
    let split : rest ≡ post ++ c.try_next.new.self.rest = ap (λ (es : Entries). so.0 ++ es) (match_some _ _ c.in-Some.is c.in_ok-row.ensures.row) ∙ sym (append_assoc so.0 (e ∷ []) c.try_next.new.self.rest) in
    let few = few_among t ok p c.requires rest so.1 post c.try_next.new.self.rest split in
    let is = c.in_ok-file.ensures.ended so.0 c.try_next.new.self.path so.2 few in (
      post,
      so.1 ∙ ap (λ (es : Entries). own p (at t p) ++ es) split,
      c.in_ok-file.ensures.met so.0 c.try_next.new.self.path so.2,
      omega (arith, so.3, step_inodes t ok so.0 c.try_next.new.self.path c.in-Some.row.node few, ap (λ (x : ℕ × ℕ). x.0) is),
      omega (arith, so.4, step_blocks t ok so.0 c.try_next.new.self.path c.in-Some.row.node few, ap (λ (x : ℕ × ℕ). x.1) is),
    )

pub returns-clause-inodes : goal.returns-clause-inodes
returns-clause-inodes c =
    let t = c.args.self.now in
    let p = c.args.front.now in
    let so = c.loop-rows.invariant in
    let all : inside p t.entries ≡ own p (at t p) ++ so.0 = so.1 ∙ ap (λ (es : Entries). own p (at t p) ++ (so.0 ++ es)) (match_none _ _ c.in_default.is c.in_ok-row.ensures.row) ∙ ap (λ (es : Entries). own p (at t p) ++ es) (append-nil so.0) in
    so.3 ∙ ap (λ (bs : Bodies). length bs) (ended_all t c.below-rows.ensures.layer p c.requires so.0 all)

pub returns-clause-blocks : goal.returns-clause-blocks
returns-clause-blocks c =
    let t = c.args.self.now in
    let p = c.args.front.now in
    let so = c.loop-rows.invariant in
    let all : inside p t.entries ≡ own p (at t p) ++ so.0 = so.1 ∙ ap (λ (es : Entries). own p (at t p) ++ (so.0 ++ es)) (match_none _ _ c.in_default.is c.in_ok-row.ensures.row) ∙ ap (λ (es : Entries). own p (at t p) ++ es) (append-nil so.0) in
    so.4 ∙ ap (λ (bs : Bodies). sum_by body_blocks (values_of bs)) (ended_all t c.below-rows.ensures.layer p c.requires so.0 all)
