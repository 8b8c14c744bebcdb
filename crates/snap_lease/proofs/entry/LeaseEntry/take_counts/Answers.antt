use Rattle.std.proofs.Common.{◌∙◌, ◌≡◌, ◌-◌, ◌&&◌, ap, bytes_eq, map, rules, string_bytes, subst, sym, take}
use Rattle.std.proofs.lemmas.List.{take_all}
use Rattle.std.specs.List.{IsDistinct}
use Rattle.snap_counts.specs.Counts.{count_within}
use Rattle.snap_lease.specs.Lease.{Lease}
use Rattle.snap_lease.specs.Live.{is_among}
use Rattle.snap_lease.proofs.IndexLemmas.{one_if, uncounted_more}
use Rattle.snap_lease.proofs.entry.LeaseEntry.take_counts.Goals as goal

pub loop-name-preserved : goal.loop-name-preserved
loop-name-preserved c = λ space q.
    let items = c.as_slice-name-items.result.now in
    let i = c.loop-name.name-index in
    let x = c.name-item.result in
    let same : map string_bytes items ≡ c.args.self.now.names = ap (map string_bytes) (c.as_slice-name-items.ensures ∙ c.keys.ensures.rest) ∙ ap (λ (l : Lease). l.names) c.self.view_is in
    uncounted_more string_bytes (bytes_eq space c.as_str-namespace.result.now) q items i x c.as_str.result.now
    (count_within space q c.args.counts.now) (count_within space q c.loop-name.counts) (count_within space q c.take.new.self)
    (subst (IsDistinct bytes_eq) (sym same) c.requires) (search rules) (c.as_str.ensures.value ∙ ap string_bytes c.name-item.is) (c.loop-name.invariant space q) (c.take.ensures space q)

pub returns : goal.returns
returns c = λ space q.
    let items = c.as_slice-name-items.result.now in
    let i = c.loop-name.name-index in
    let names : map string_bytes (take i items) ≡ c.args.self.now.names =
    ap (map string_bytes) (take_all i items c.loop-name-test.false ∙ c.as_slice-name-items.ensures ∙ c.keys.ensures.rest) ∙ ap (λ (l : Lease). l.names) c.self.view_is in
    let namespace : c.as_str-namespace.result.now ≡ c.args.self.now.namespace = c.as_str-namespace.ensures.value ∙ ap (λ (l : Lease). l.namespace) c.self.view_is in
    c.loop-name.invariant space q
    ∙ ap (λ n. count_within space q c.args.counts.now - one_if (bytes_eq space n && is_among q (map string_bytes (take i items)))) namespace
    ∙ ap (λ ns. count_within space q c.args.counts.now - one_if (bytes_eq space c.args.self.now.namespace && is_among q ns)) names
