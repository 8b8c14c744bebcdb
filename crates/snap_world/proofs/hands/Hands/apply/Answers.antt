use Rattle.std.proofs.Common.{◌≡◌, ◌<◌, List, length, Option, None, sym, subst, arith}
use Rattle.std.proofs.lemmas.List.{get_or_read_under}
use Rattle.snap_world.specs.Applied.{Applies}
use Rattle.snap_world.specs.World.{Fits, HandValue, hand_at, with_hand, world_of}
use Rattle.snap_world.proofs.Applying.{place_applied}
use Rattle.snap_world.proofs.hands.Hands.apply.Goals as goal

pub returns-then-place-len : goal.returns-then-place-len
returns-then-place-len g c =
    let hands : List (Option HandValue) = c.self.inside.list.items in
    let b = c.args.book.now in
    let is : hands ≡ c.args.self.now = c.self.view_is in
    let size : c.len.result ≡ length hands = omega (arith, c.len.ensures) in
    let low : c.args.slot < length hands = omega (arith, size, c.if-place-len.true) in
    let at : hand_at c.args.slot hands ≡ c.index_mut.result.now = sym (get_or_read_under hands c.args.slot c.len.result c.index_mut.result.now None c.index_mut.ensures.value c.if-place-len.true size) in
    subst (λ (l : List (Option HandValue)). Applies (world_of b l) c.args.session c.args.slot c.args.id c.args.op.now c.args.extra c.apply_at.result (world_of c.apply_at.new.book (with_hand c.args.slot c.apply_at.new.place hands))) is
    (place_applied b c.apply_at.new.book hands c.args.session c.args.slot c.args.id c.args.op.now c.args.extra c.index_mut.result.now c.apply_at.new.place c.apply_at.result
    (subst (λ (l : List (Option HandValue)). Fits (world_of b l)) (sym is) c.requires) low at c.apply_at.ensures)
