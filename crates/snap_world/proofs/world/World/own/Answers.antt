use Rattle.std.proofs.Common.{◌≡◌, false, List, Option, Some, IsSome, sym, ap, subst, ◌∙◌}
use Rattle.std.specs.Prelude.{Result, Ok, is_some, not}
use Rattle.std.specs.Option.{option_and_then, option_map}
use Rattle.std.specs.Result.{result_ok}
use Rattle.snap_layer.specs.Tree.{Tree}
use Rattle.snap_record.specs.Labels.{Bytes}
use Rattle.snap_record.specs.declared.record.Record.{Record}
use Rattle.snap_call.specs.declared.refusal.Refusal.{Refusal}
use Rattle.snap_call.specs.State.{ancestors, chain_from, is_too_deep, layers_of, most_ancestors}
use Rattle.snap_book.specs.Slot.{found_of}
use Rattle.snap_world.specs.World.{Fits, WorldValue}
use Rattle.snap_world.specs.Stacks.{own_stack_by, own_layer}
use Rattle.snap_world.proofs.Standing.{chained}
use Rattle.snap_world.proofs.world.World.own.Goals as goal

not_deep : (o : Option (List Record)) → IsSome o → not (is_some o) ≡ false
not_deep o all = ap not all

-- the record that was found has this layer, if it has one
owned : (w : WorldValue) (r : Record) (o : Result Record Refusal) (layer : Option Tree) → o ≡ Ok r → own_layer w.hands r.content ≡ layer → option_and_then (own_stack_by w) (result_ok o) ≡ option_map (λ t. (t, layers_of (ancestors r.namespace r.parent w.state.records))) layer
owned w r o layer found is = ap (λ (p : Result Record Refusal). option_and_then (own_stack_by w) (result_ok p)) found ∙ ap (option_map (λ t. (t, layers_of (ancestors r.namespace r.parent w.state.records)))) is

-- each record has a chain of ancestors
pub chain-requires : goal.chain-requires
chain-requires g c =
    let w = c.args.self.now in
    let fits = subst Fits c.self.view_is c.self.invariant in
    let f = c.in-Ok.found.now in
    let found = ap (λ (x : WorldValue). found_of x.state c.args.namespace.now c.args.key.now) (sym c.self.view_is) ∙ c.in-Ok.ensures.found in
    let records = c.records.ensures.records ∙ ap (λ (x : WorldValue). x.state.records) c.self.view_is in
    subst (λ (rs : List Record). is_too_deep most_ancestors f.namespace c.as_str.result.now rs ≡ false) (sym records)
    (subst (λ (p : Bytes). is_too_deep most_ancestors f.namespace p w.state.records ≡ false) (sym c.as_str.ensures)
    (not_deep (chain_from most_ancestors w.state.records f.namespace f.parent) (chained w fits c.args.namespace.now c.args.key.now f found)))

pub returns : goal.returns
returns g c =
    let w = c.args.self.now in
    let f = c.in-Ok.found.now in
    let found = ap (λ (x : WorldValue). found_of x.state c.args.namespace.now c.args.key.now) (sym c.self.view_is) ∙ c.in-Ok.ensures.found in
    let records = c.records.ensures.records ∙ ap (λ (x : WorldValue). x.state.records) c.self.view_is in
    let lowers : c.in_ok-chain.chain.layers ≡ layers_of (ancestors f.namespace f.parent w.state.records) =
    c.in_ok-chain.ensures.layers
    ∙ ap (λ (rs : List Record). layers_of (ancestors f.namespace c.as_str.result.now rs)) records
    ∙ ap (λ (p : Bytes). layers_of (ancestors f.namespace p w.state.records)) c.as_str.ensures in
    let layer : own_layer w.hands f.content ≡ Some c.in-Some.layer.now =
    ap (λ (x : WorldValue). own_layer x.hands f.content) (sym c.self.view_is) ∙ sym (c.in-Some.ensures {u = tt}) in
    ap (λ (ts : List Tree). Some (c.in-Some.layer.now, ts)) lowers
    ∙ sym (owned w f (found_of w.state c.args.namespace.now c.args.key.now) (Some c.in-Some.layer.now) found layer)
