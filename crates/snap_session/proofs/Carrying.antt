-- Where no snapshot is open, none is carried into a round.
use Rattle.std.proofs.Common.{◌≡◌, ℕ, zero, suc, List, [], ◌++◌, refl, ap, ◌∙◌}
use Rattle.snap_record.specs.declared.record.Record.{Record}
use Rattle.snap_call.specs.declared.config.Namespace.{Namespace}
use Rattle.snap_call.specs.declared.state.State.{State}
use Rattle.snap_session.specs.declared.carried.Carried.{Carried}
use Rattle.snap_session.specs.Carried.{carried_below, carried_of}

none_below : (slot : ℕ) (ns : List Namespace) → carried_below slot ns [] ≡ []
none_below zero ns = refl
none_below (suc slot) ns = ap (λ (l : List Carried). l ++ []) (none_below slot ns)

pub none_carried : (s : State) → s.records ≡ [] → carried_of s ≡ []
none_carried s none = ap (λ (rs : List Record). carried_below s.slots s.namespaces rs) none ∙ none_below s.slots s.namespaces
