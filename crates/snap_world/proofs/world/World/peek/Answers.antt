use Rattle.std.proofs.Common.{◌≡◌, false, List, ◌∷◌, Option, Some, IsSome, sym, ap, subst, ◌∙◌}
use Rattle.std.specs.Prelude.{Result, Ok, is_some, not}
use Rattle.std.specs.Option.{option_and_then, option_map}
use Rattle.std.specs.Result.{result_ok}
use Rattle.snap_layer.specs.Tree.{Tree}
use Rattle.snap_usage.specs.declared.usage.Usage.{Usage}
use Rattle.snap_record.specs.Labels.{Bytes}
use Rattle.snap_record.specs.declared.record.Content.{Content}
use Rattle.snap_record.specs.declared.record.Content.TheVariants.{Committed}
use Rattle.snap_record.specs.declared.record.Record.{Record}
use Rattle.snap_call.specs.declared.refusal.Refusal.{Refusal}
use Rattle.snap_call.specs.State.{ancestors, chain_from, is_too_deep, layer_of, layers_of, most_ancestors}
use Rattle.snap_book.specs.Slot.{found_of}
use Rattle.snap_world.specs.World.{Fits, WorldValue}
use Rattle.snap_world.specs.Stacks.{peeked_by}
use Rattle.snap_world.proofs.Standing.{chained}
use Rattle.snap_world.proofs.world.World.peek.Goals as goal

not_deep : (o : Option (List Record)) → IsSome o → not (is_some o) ≡ false
not_deep o all = ap not all

-- the record that was found is a committed one
committed : (rs : List Record) (r : Record) (o : Result Record Refusal) (layer : Tree) (usage : Usage) → o ≡ Ok r → r.content ≡ Committed layer usage → option_and_then (peeked_by rs) (result_ok o) ≡ Some (layer ∷ layers_of (ancestors r.namespace r.parent rs))
committed rs r o layer usage found is =
    ap (λ (p : Result Record Refusal). option_and_then (peeked_by rs) (result_ok p)) found
    ∙ ap (λ (c : Content). option_map (λ (t : Tree). t ∷ layers_of (ancestors r.namespace r.parent rs)) (layer_of c)) is

-- each record has a chain of ancestors
pub chain-requires : goal.chain-requires
chain-requires g c =
    let w = c.args.self.now in
    let fits = subst Fits c.self.view_is c.self.invariant in
    let f = c.in-Ok.found.now in
    let found = ap (λ (x : WorldValue). found_of x.state c.args.namespace.now c.args.key.now) (sym c.self.view_is) ∙ c.in-Ok.ensures.found in
    let records = c.records-records.ensures.records ∙ ap (λ (x : WorldValue). x.state.records) c.self.view_is in
    subst (λ (rs : List Record). is_too_deep most_ancestors f.namespace c.as_str.result.now rs ≡ false) (sym records)
    (subst (λ (p : Bytes). is_too_deep most_ancestors f.namespace p w.state.records ≡ false) (sym c.as_str.ensures)
    (not_deep (chain_from most_ancestors w.state.records f.namespace f.parent) (chained w fits c.args.namespace.now c.args.key.now f found)))

pub returns-in_ok-chain-in-Committed : goal.returns-in_ok-chain-in-Committed
returns-in_ok-chain-in-Committed g c =
    let w = c.args.self.now in
    let f = c.in-Ok.found.now in
    let found = ap (λ (x : WorldValue). found_of x.state c.args.namespace.now c.args.key.now) (sym c.self.view_is) ∙ c.in-Ok.ensures.found in
    let records = c.records-records.ensures.records ∙ ap (λ (x : WorldValue). x.state.records) c.self.view_is in
    let lowers =
    c.in_ok-chain-in-Committed.ensures.layers
    ∙ ap (λ (rs : List Record). layers_of (ancestors f.namespace c.as_str.result.now rs)) records
    ∙ ap (λ (p : Bytes). layers_of (ancestors f.namespace p w.state.records)) c.as_str.ensures in
    ap (λ (t : Tree). Some (t ∷ c.in_ok-chain-in-Committed.chain.layers)) c.layer.ensures.value
    ∙ ap (λ (ts : List Tree). Some (c.in-Committed.layer ∷ ts)) lowers
    ∙ sym (committed w.state.records f (found_of w.state c.args.namespace.now c.args.key.now) c.in-Committed.layer c.in-Committed.usage found c.in-Committed.is)
