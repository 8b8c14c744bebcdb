use Rattle.std.proofs.Common.{sym, subst, ◌≡◌, ◌∷◌}
use Rattle.snap_layer.specs.Walk.{IsVacantAt, view_of}
use Rattle.snap_layer.proofs.Chains.{put_back}
use Rattle.snap_layer.proofs.chain.+put_dirs.Goals as goal

pub returns-in-Err-clause-err : goal.returns-in-Err-clause-err
returns-in-Err-clause-err t c =
    let splits : c.args.names.now ≡ c.in-Some.name.now ∷ c.in-Some.names.now = c.in-Some.ensures.cases.0 in
    put_back c.args.slots.now (view_of c.put_empty.new.slots) c.put_dirs.new.slots c.unlink.new.slots c.try_remove.new.self c.args.dir c.in-Some.name.now c.in_ok-key.key _ _ _
    (subst (IsVacantAt (view_of c.args.slots.now) c.args.dir) splits c.requires.vacant) c.in_ok-key.ensures.ok c.in-Err.ensures.err c.unlink.ensures c.try_remove.ensures.updates
