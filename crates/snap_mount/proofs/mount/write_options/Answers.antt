use Rattle.std.proofs.Common.{◌≡◌, ◌-◌, ◌++◌, codes, drop, take, length, flat_map, refl}
use Rattle.snap_mount.specs.Lines.{joined_options}
use Rattle.snap_mount.proofs.Writing.{joined_on, written_on, written_as}
use Rattle.snap_mount.proofs.mount.write_options.Goals as goal

pub returns-in_ok-write_str-in-len1-up : goal.returns-in_ok-write_str-in-len1-up
returns-in_ok-write_str-in-len1-up g c = λ flush ok.
    let first = c.in_ok-write_str-in-len1-up.ensures.styled flush refl in
    let joined : c.as_str.result.now ++ flat_map (λ option. codes "," ++ option) (take (length c.args.options.now - 1) (drop 1 c.args.options.now)) ≡ joined_options c.args.options.now = joined_on c.args.options.now c.first-item.result c.as_str.result.now c.in-len1-up.len_at_least c.first-item.is c.as_str.ensures in
    written_as _ _ _ _ _ joined (written_on _ _ _ _ _ _ first (c.write_further.ensures first.flush ok))
