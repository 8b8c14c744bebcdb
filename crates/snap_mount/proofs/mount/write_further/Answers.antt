use Rattle.std.proofs.Common.{rules, ◌≡◌, ◌+◌, ◌++◌, codes, flat_map, take, refl}
use Rattle.snap_mount.proofs.Writing.{further_on, written_on, written_as}
use Rattle.snap_mount.proofs.mount.write_further.Goals as goal

pub loop-option-preserved : goal.loop-option-preserved
loop-option-preserved g c = λ flush.
    let so_far = c.loop-option.invariant flush in
    let comma = c.in_ok-write_str.ensures.styled so_far.flush refl in
    let option = c.in_ok-write_str-2.ensures.styled comma.flush refl in
    let more : flat_map (λ option. codes "," ++ option) (take c.loop-option.option-index c.args.options.now) ++ (codes "," ++ c.as_str.result.now) ≡ flat_map (λ option. codes "," ++ option) (take (c.loop-option.option-index + 1) c.args.options.now) = further_on c.args.options.now c.loop-option.option-index c.option-item.result c.as_str.result.now (search rules) c.option-item.is c.as_str.ensures in
    written_as _ _ _ _ _ more (written_on _ _ _ _ _ _ so_far (written_on _ _ _ _ _ _ comma option))
