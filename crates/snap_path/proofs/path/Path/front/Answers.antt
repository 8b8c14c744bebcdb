use Rattle.std.proofs.Common.{take, drop, sym, take-append-drop}
use Rattle.snap_path.proofs.Texts.{IsPath-front}
use Rattle.snap_path.proofs.path.Path.front.Goals as goal

pub from_names-requires : goal.from_names-requires
from_names-requires c =
    let ns = c.deref.result.now in
    IsPath-front ns (take c.args.names ns) (drop c.args.names ns) (rw c.deref.ensures.value c.self.invariant.1) (sym (take-append-drop c.args.names ns))
