-- What the layer of the first example takes.
use Rattle.std.proofs.Common.{◌≡◌, Bool, true, IsTrue, [], Ok, refl, sym, ap}
use Rattle.snap_layer.specs.Tree.{Tree}
use Rattle.snap_usage.specs.Counted.{count_of}
use Rattle.snap_upper.specs.declared.op.Op.{Op}
use Rattle.snap_upper.specs.After.{Outcome, after}
use Rattle.test_stores.specs.FirstExample.{first_layer, layer_or, stepped, used}

pub done_is : (op : Op) (t u : Tree) → after op t [] ≡ Ok u → u ≡ stepped op t
done_is op t u e = sym (ap (λ (o : Outcome). layer_or o t) e)

pub first_count : count_of first_layer ≡ used 4 3
unfolding first_layer
first_count = refl

pub true_is : (b : Bool) → b ≡ true → IsTrue b
true_is b e = e
