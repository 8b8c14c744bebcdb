-- An operation whose tests have passed on a layer.
use Rattle.std.specs.Prelude.{◌≡◌, List, Ok}
use Rattle.snap_layer.specs.Layers.{IsLayer}
use Rattle.snap_layer.specs.Tree.{Tree}
use Rattle.snap_upper.specs.declared.op.Op.{Op}
use Rattle.snap_upper.specs.declared.upper.Ready.{Ready}
use Rattle.snap_upper.specs.After.{after, planned}
use Rattle.snap_upper.specs.Changes.{IsChange}

-- it has the operation's change of the layer over these, and the count of the next layer
pub record IsReadyFor (r : Ready) (op : Op) (u : Tree) (lowers : List Tree) : Type 0 where
  pub layer : IsLayer u
  pub change : IsChange r.change op u lowers
  pub next : planned (after op u lowers) ≡ Ok (record { after = r.after })
