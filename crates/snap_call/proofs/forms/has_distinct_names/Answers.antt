use Rattle.std.proofs.Common.{◌≡◌, ℕ, ◌+◌, ◌-◌, ◌<◌, ◌≤◌, Bool, not, ◌&&◌, List, length, take, drop, get_or, suc, sym, ap, ap₂, ◌∙◌, arith, add-one}
use Rattle.std.proofs.Math.ListN.{drop_of_length-le}
use Rattle.std.proofs.Math.Seq.{drop-cons}
use Rattle.std.proofs.lemmas.List.{take_rest}
use Rattle.std.specs.List.{list_any}
use Rattle.snap_record.specs.Labels.{Bytes}
use Rattle.snap_call.specs.declared.config.Namespace.{Namespace}
use Rattle.snap_call.specs.Forms.{have_distinct_names}
use Rattle.snap_call.specs.State.{has_name}
use Rattle.snap_call.proofs.forms.has_distinct_names.Goals as goal

-- one namespace compared with the ones after it
compared : (ns : List Namespace) (i : ℕ) (n : Namespace) (name : Bytes) (b : Bool) → i < length ns → n ≡ get_or ns i n → name ≡ n.name
    → b ≡ list_any (has_name name) (take (length ns - (i + 1)) (drop (i + 1) ns)) → have_distinct_names (drop i ns) ≡ (not b && have_distinct_names (drop (i + 1) ns))
compared ns i n name b lt at named is =
    let tail : drop (suc i) ns ≡ drop (i + 1) ns = ap (λ k. drop k ns) (sym (add-one i)) in
    let same : b ≡ list_any (has_name (get_or ns i n).name) (drop (i + 1) ns) = is ∙ ap₂ (λ name rest. list_any (has_name name) rest) (named ∙ ap (λ (x : Namespace). x.name) at) (take_rest ns (i + 1)) in
    ap have_distinct_names (drop-cons ns i n lt)
    ∙ ap (λ rest. not (list_any (has_name (get_or ns i n).name) rest) && have_distinct_names rest) tail
    ∙ ap (λ b. not b && have_distinct_names (drop (i + 1) ns)) (sym same)

pub loop-place-preserved : goal.loop-place-preserved
loop-place-preserved c =
    let ns = c.args.namespaces.now in
    let i = c.loop-place.place in
    let step : have_distinct_names (drop i ns) ≡ (not c.is_named_in.result && have_distinct_names (drop (i + 1) ns)) =
    compared ns i c.index-namespaces-place.result c.as_str.result.now c.is_named_in.result (omega arith) c.index-namespaces-place.is c.as_str.ensures c.is_named_in.ensures in
    sym (step ∙ ap (λ b. not b && have_distinct_names (drop (i + 1) ns)) c.if-is_named_in.false) ∙ c.loop-place.invariant

pub returns-then-is_named_in : goal.returns-then-is_named_in
returns-then-is_named_in c =
    let ns = c.args.namespaces.now in
    let i = c.loop-place.place in
    let step : have_distinct_names (drop i ns) ≡ (not c.is_named_in.result && have_distinct_names (drop (i + 1) ns)) =
    compared ns i c.index-namespaces-place.result c.as_str.result.now c.is_named_in.result (omega arith) c.index-namespaces-place.is c.as_str.ensures c.is_named_in.ensures in
    sym (step ∙ ap (λ b. not b && have_distinct_names (drop (i + 1) ns)) c.if-is_named_in.true) ∙ c.loop-place.invariant

pub returns : goal.returns
returns c =
    let past : length c.args.namespaces.now ≤ c.loop-place.place = omega arith in
    ap have_distinct_names (sym (drop_of_length-le c.args.namespaces.now past)) ∙ c.loop-place.invariant
