use Rattle.std.proofs.Common.{rules, ◌≡◌, ◌∷◌, [], sym, ap, ◌∙◌}
use Rattle.std.specs.Prelude.{if◌then◌else◌}
use Rattle.std.specs.Vec.Iter.{into_iter_items}
use Rattle.snap_path.specs.Text.{Names}
use Rattle.snap_merge.specs.Shares.{has, seen_so_far, is_shown}
use Rattle.snap_merge.proofs.Sharing.{one_more, nil_of}
use Rattle.snap_merge.proofs.names.put_dir.Goals as goal

pub loop-name-preserved : goal.loop-name-preserved
loop-name-preserved c =
    let e : into_iter_items c.loop-name.name-iterator ≡ c.in-Some.name ∷ into_iter_items c.next.new.self = search rules in
    λ n under.
    c.in_ok-put_name.ensures n (if has n (into_iter_items c.next.new.self) then is_shown c.args.dir.now n else under)
    ∙ ap (seen_so_far c.loop-name.shown.keys c.loop-name.gone.keys n) (one_more c.args.dir.now c.in-Some.name (into_iter_items c.next.new.self) c.is_shown_in-is_there.result c.is_shown_in-is_there.ensures n under)
    ∙ ap (λ (ns : Names). seen_so_far c.loop-name.shown.keys c.loop-name.gone.keys n (if has n ns then is_shown c.args.dir.now n else under)) (sym e)
    ∙ c.loop-name.invariant n under

pub returns : goal.returns
returns c =
    let e : into_iter_items c.loop-name.name-iterator ≡ [] = nil_of (into_iter_items c.loop-name.name-iterator) (search rules) in
    λ n under.
    ap (λ (ns : Names). seen_so_far c.loop-name.shown.keys c.loop-name.gone.keys n (if has n ns then is_shown c.args.dir.now n else under)) (sym e)
    ∙ c.loop-name.invariant n under
