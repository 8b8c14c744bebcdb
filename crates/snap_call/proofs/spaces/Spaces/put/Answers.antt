use Rattle.std.proofs.Common.{◌≡◌, ◌<◌, false, length, ap, sym, subst, ◌∙◌, arith, rules}
use Rattle.snap_record.specs.declared.record.Record.{Record}
use Rattle.snap_call.specs.Records.{has_key, with_record}
use Rattle.snap_call.specs.Spaces.{AreCounted, IsOf, joined_records}
use Rattle.snap_call.proofs.Lengths.{length-joined}
use Rattle.snap_call.proofs.Joined.{counted-grown, added-of, added-absent, put-added, counted-added}
use Rattle.snap_call.proofs.spaces.Spaces.put.Goals as goal

pub insert-requires-clause-of : goal.insert-requires-clause-of
insert-requires-clause-of c =
    let r = c.record.result.now in
    let rss = c.grow.new.spaces.items in
    let o = counted-grown c.args.self.now.list.items rss c.args.self.now.count c.requires.counted c.grow.ensures.from c.grow.ensures.same in
    let lt : r.namespace < length rss = omega (arith, c.in_default.ensures.room, c.grow.new.spaces.ok.0) in
    subst (λ (x : Record). IsOf x.namespace c.index_mut-space.result.now) c.record.ensures
    (added-of rss c.args.self.now.count o r lt c.index_mut-space.result.now c.index_mut-space.ensures.value)

pub insert-requires-clause-absent : goal.insert-requires-clause-absent
insert-requires-clause-absent c =
    let r = c.record.result.now in
    let rss = c.grow.new.spaces.items in
    let o = counted-grown c.args.self.now.list.items rss c.args.self.now.count c.requires.counted c.grow.ensures.from c.grow.ensures.same in
    let lt : r.namespace < length rss = omega (arith, c.in_default.ensures.room, c.grow.new.spaces.ok.0) in
    let new : has_key r.namespace r.key (joined_records c.args.self.now.list.items) ≡ false = ap (λ (x : Record). has_key x.namespace x.key (joined_records c.args.self.now.list.items)) c.record.ensures ∙ c.requires.new in
    subst (λ (x : Record). has_key x.namespace x.key c.index_mut-space.result.now ≡ false) c.record.ensures
    (added-absent rss c.args.self.now.count o r lt c.index_mut-space.result.now c.index_mut-space.ensures.value (ap (has_key r.namespace r.key) c.grow.ensures.same ∙ new))

pub insert-requires-clause-few : goal.insert-requires-clause-few
insert-requires-clause-few c =
    let rss = c.grow.new.spaces.items in
    let place = c.record.result.now.namespace in
    let lt : place < length rss = omega (arith, c.in_default.ensures.room, c.grow.new.spaces.ok.0) in
    omega (arith, ap length c.index_mut-space.ensures.value, length-joined rss place c.index_mut-space.result.now lt, ap length c.grow.ensures.same, c.requires.few)

pub returns-clause-counted : goal.returns-clause-counted
returns-clause-counted c =
    let r = c.record.result.now in
    let rss = c.grow.new.spaces.items in
    let o = counted-grown c.args.self.now.list.items rss c.args.self.now.count c.requires.counted c.grow.ensures.from c.grow.ensures.same in
    let lt : r.namespace < length rss = omega (arith, c.in_default.ensures.room, c.grow.new.spaces.ok.0) in
    let put = c.in_ok-insert.ensures.ok ∙ ap (λ (x : Record). with_record x c.index_mut-space.result.now) (sym c.record.ensures) in
    subst (AreCounted _) (sym (search rules)) (counted-added rss c.args.self.now.count o r lt c.index_mut-space.result.now c.index_mut-space.ensures.value c.insert.new.self put)

pub returns-clause-ok : goal.returns-clause-ok
returns-clause-ok c =
    let r = c.record.result.now in
    let rss = c.grow.new.spaces.items in
    let o = counted-grown c.args.self.now.list.items rss c.args.self.now.count c.requires.counted c.grow.ensures.from c.grow.ensures.same in
    let lt : r.namespace < length rss = omega (arith, c.in_default.ensures.room, c.grow.new.spaces.ok.0) in
    let put = c.in_ok-insert.ensures.ok ∙ ap (λ (x : Record). with_record x c.index_mut-space.result.now) (sym c.record.ensures) in
    put-added rss c.args.self.now.count o r lt c.index_mut-space.result.now c.index_mut-space.ensures.value c.insert.new.self put
    ∙ ap (λ (x : Record). with_record x (joined_records rss)) c.record.ensures ∙ ap (with_record c.args.added) c.grow.ensures.same
