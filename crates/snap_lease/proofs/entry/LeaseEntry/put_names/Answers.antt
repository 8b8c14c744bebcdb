use Rattle.std.proofs.Common.{◌∙◌, ◌≡◌, ◌∷◌, ◌++◌, ◌+◌, ◌||◌, [], List, ap, get_or, map, rules, string_bytes, sym, take, ℕ}
use Rattle.std.proofs.lemmas.List.{map-append, take_more}
use Rattle.snap_lease.specs.Live.{is_among}
use Rattle.snap_lease.proofs.LeaseLemmas.{among_more}
use Rattle.snap_lease.proofs.entry.LeaseEntry.put_names.Goals as goal

pub loop-name-preserved : goal.loop-name-preserved
loop-name-preserved c name =
    let items = c.as_slice-name-items.result.now in
    let i = c.loop-name.name-index in
    let x = c.name-item.result in
    let grown : map string_bytes (take (i + 1) items) ≡ map string_bytes (take i items) ++ string_bytes x ∷ [] =
    ap (map string_bytes) (take_more items i x (search rules)) ∙ map-append string_bytes (take i items) (get_or items i x ∷ []) ∙ ap (λ y. map string_bytes (take i items) ++ string_bytes y ∷ []) (sym c.name-item.is) in
    ap (is_among name) c.in_ok-add.ensures
    ∙ among_more name c.as_str.result.now c.loop-name.set (map string_bytes (take i items)) (is_among name c.args.set.now) (c.loop-name.invariant name)
    ∙ ap (λ (n : List ℕ). is_among name c.args.set.now || is_among name (map string_bytes (take i items) ++ n ∷ [])) c.as_str.ensures.value
    ∙ ap (λ ns. is_among name c.args.set.now || is_among name ns) (sym grown)
