use Rattle.std.proofs.Common.{◌≡◌, ℕ, suc, ◌+◌, map, drop, get_or, sym, ap, ◌∙◌, arith}
use Rattle.serde_json.specs.Data.{put}
use Rattle.snap_json.specs.View.{view, members_with, members_of}
use Rattle.snap_json.proofs.Views.{members_of_insert_entry, members_drop}
use Rattle.snap_json.proofs.value.by_name.Goals as goal

pub loop-member-preserved : goal.loop-member-preserved
loop-member-preserved c =
    let ms = c.args.members.now in
    let n = c.loop-member.member-index in
    let m = c.member-item.result in
    let old = c.loop-member.map.entries in
    let inserted : put (get_or ms n m).0.now (view (get_or ms n m).1) (members_of old) ≡ members_of c.insert.new.self.entries =
    ap (λ m. put m.0.now (view m.1) (members_of old)) (sym c.member-item.is) ∙ sym (ap members_of c.in_ok-insert.ensures.entries ∙ members_of_insert_entry old m.0 _) in
    let next : suc n ≡ n + 1 = omega arith in
    let later = λ (k : ℕ). members_with (put (get_or ms n m).0.now (view (get_or ms n m).1) (members_of old)) (map (λ m. (m.0, view m.1)) (drop k ms)) in
    c.loop-member.invariant ∙ members_drop (members_of old) ms n m (omega (arith, c.loop-member-test.true)) ∙ ap later next ∙ ap (λ found. members_with found (map (λ m. (m.0, view m.1)) (drop (n + 1) ms))) inserted
