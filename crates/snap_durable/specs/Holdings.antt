-- What a store has of each namespace; cited by the public clauses of `check_log`, `check_saved` and `Told`.
use Rattle.std.specs.Prelude.{ℕ, ◌==◌, List, Option, None, if◌then◌else◌, codes, count_by, filter, filter_map, length, option_map}
use Rattle.serde_json.specs.Data.{Data, member, object}
use Rattle.snap_usage.specs.declared.usage.Usage.{Usage}
use Rattle.snap_lease.specs.Told.{told_leases}
use Rattle.snap_record.specs.Filters.{is_same_kind}
use Rattle.snap_record.specs.Labels.{Bytes}
use Rattle.snap_record.specs.Records.{kind_of}
use Rattle.snap_record.specs.declared.kind.Kind.{Kind}
use Rattle.snap_record.specs.declared.kind.Kind.TheVariants.{View, Active, Committed}
use Rattle.snap_record.specs.declared.record.Record.{Record}
use Rattle.snap_call.specs.Records.{charge_of}
use Rattle.snap_call.specs.State.{is_taken, limit_at, place_of}
use Rattle.snap_call.specs.declared.config.Namespace.{Namespace}
use Rattle.snap_world.specs.World.{WorldValue}
use Rattle.snap_values.specs.Values.{number_data, only, usage_data}
use Rattle.snap_durable.specs.declared.holding.Contents.{Contents}
use Rattle.snap_durable.specs.declared.holding.Holding.{Holding}

-- the snapshots of the namespace at the place
abbrev pub records_at : ℕ → List Record → List Record
records_at place rs = filter (λ r. r.namespace == place) rs

-- how many snapshots are of this kind
abbrev pub kind_count : Kind → List Record → ℕ
kind_count kind rs = count_by (λ r. is_same_kind (kind_of r.content) kind) rs

-- in numbers, what the store has of the namespace of this name, which stands at the place and is charged this
abbrev pub holding_at : WorldValue → Bytes → ℕ → Usage → Holding
holding_at w name place charged = record {
  charged = charged;
  limit = limit_at place w.state.namespaces;
  committed = kind_count Committed (records_at place w.state.records);
  active = kind_count Active (records_at place w.state.records);
  views = kind_count View (records_at place w.state.records);
  leases = length (told_leases w.state.leases name);
}

-- what is told of a namespace of a store, by its name, its place and its charge
abbrev pub OfNamespace : Type 0 → Type 0
OfNamespace H = WorldValue → Bytes → ℕ → Usage → H

-- a name with what is told of it, if the store has such a namespace
abbrev pub named_holding : {H : Type 0} → OfNamespace H → WorldValue → Bytes → Option (Bytes × H)
named_holding of w name = option_map (λ place. (name, of w name place (charge_of place w.state.records))) (place_of name w.state.namespaces)

-- the same, where a namespace stands there
abbrev pub holding_of_place : {H : Type 0} → OfNamespace H → WorldValue → Namespace → Option (Bytes × H)
holding_of_place of w n = if is_taken n then named_holding of w n.name else None

-- the entries of its round, and its namespaces, in the order of their places
abbrev pub contents_of : {H : Type 0} → OfNamespace H → WorldValue → Contents H
contents_of of w = record { entries = length w.journal; namespaces = filter_map (holding_of_place of w) w.state.namespaces }

-- what a store has of a namespace, as JSON
abbrev pub holding_data : Holding → Data
holding_data h = object
    (member (codes "active") (number_data h.active)
    (member (codes "charged") (usage_data h.charged)
    (member (codes "committed") (number_data h.committed)
    (member (codes "leases") (number_data h.leases)
    (member (codes "limit") (usage_data h.limit)
    (only (codes "views") (number_data h.views)))))))
