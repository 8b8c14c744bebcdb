-- What a sweep keeps true of the state, and what stays as it is.
use Rattle.std.proofs.Common.{◌≡◌, ◌≢◌, ℕ, ◌+◌, ◌<◌, Bool, true, false, true≢false, not, List, Option, Some, None, IsSome, refl, sym, ap, ◌∙◌, subst, arith}
use Rattle.std.specs.List.{AllByRecursion, list_any}
use Rattle.std.specs.Option.{option_map_or}
use Rattle.std.specs.Prelude.{◌==◌, ◌&&◌, bytes_eq, find}
use Rattle.std.proofs.lemmas.Bool.{and_from, and_left, and_parts, and_right, eqb-true, not-false, not_from_false, not_from_true, or_left, or_right}
use Rattle.std.proofs.lemmas.Slice.Eq.{bytes_eq-Decides}
use Rattle.snap_usage.specs.declared.usage.Usage.{Usage}
use Rattle.snap_usage.specs.Counted.{Covers, no_usage}
use Rattle.snap_ledger.specs.States.{plus, minus}
use Rattle.snap_lease.specs.Lease.{Lease, NamesOnce, is_lease, is_of, is_live, does_name}
use Rattle.snap_lease.specs.Leases.{guards, is_guarded_at, has_ended, without_ended}
use Rattle.snap_lease.proofs.ListLemmas.{all-filter, IsDistinct-filter}
use Rattle.snap_record.specs.Labels.{Bytes}
use Rattle.snap_record.specs.declared.record.Content.{Content}
use Rattle.snap_record.specs.declared.record.Content.TheVariants.{View, Active, Committed}
use Rattle.snap_record.specs.declared.record.Record.{Record}
use Rattle.snap_call.specs.declared.config.Namespace.{Namespace}
use Rattle.snap_call.specs.declared.refusal.Refusal.TheVariants.{NoNamespace}
use Rattle.snap_call.specs.declared.state.State.{State}
use Rattle.snap_call.specs.Records.{is_named, is_active, is_committed, has_slot, is_slot, record_at, active_at, committed_at, charge_of, charge_at, open_count, HasLowSlot, AreApart}
use Rattle.snap_call.specs.State.{place_of, limit_at, is_taken_at, ancestors, most_ancestors}
use Rattle.snap_call.specs.Reached.{is_reached, is_swept, swept}
use Rattle.snap_call.specs.Forms.{is_key}
use Rattle.snap_call.specs.Good.{IsFormed, IsShown, Good}
use Rattle.snap_call.specs.Step.{refused, swept_at, sweep_at, sweep}
use Rattle.snap_call.proofs.Lengths.{length-filtered}
use Rattle.snap_call.proofs.Lists.{all-each, all-map, all-both, all-any, all-kept, pairwise-filter, find-all, find-filter, find-passes, committed-parts, committed-from}
use Rattle.snap_call.proofs.InOrder.{own_found, sorted-filter}
use Rattle.snap_call.proofs.Chains.{HasParent, IsRising, NamesStand, chain, OnParent, on_parent, on_parent-map, KeepsFor, AreOn, keeps-ancestors}
use Rattle.snap_call.proofs.Sums.{Covers-plus, charge_of-elsewhere, charge_of-filter, minus-plus, plus-none}
use Rattle.snap_call.proofs.Counts.{open_count-filter}
use Rattle.snap_call.proofs.Formed.{all_next}
use Rattle.snap_call.proofs.Slots.{active_at-filter, charge_at-filter}
use Rattle.snap_call.proofs.Reaching.{IsReached, reached_by, reached-above, root-above}
use Rattle.snap_call.proofs.Keeping.{AreNamed, all_deep, chains_on, covers_gone, good_chains, good_counted, leases_on, parents_on, place_of-below, rising_on, same_name, shown_on, within_after}
use Rattle.snap_call.proofs.Parts.{is_ancestor, unswept}
use Rattle.snap_call.specs.Promised.{IsGuarding, IsUsageCounted}

-- the keys of other namespaces, and those of this one that are reached
abbrev pub Stays : State → Bytes → ℕ → ℕ → ℕ → Bytes → Type 0
Stays s namespace place moment p key = ((p == place) && not (is_reached s namespace place moment key)) ≡ false

past_middle : (a b c : Bool) → (a && c) ≡ false → (a && b && c) ≡ false
past_middle true true c e = e
past_middle true false c e = refl
past_middle false b c e = refl

last_of : (a b c : Bool) → a ≡ true → b ≡ true → (a && b && c) ≡ false → c ≡ false
last_of a b c f g e = sym (ap (λ x. x && b && c) f ∙ ap (λ x. x && c) g) ∙ e

not_true : (b : Bool) → not b ≡ true → b ≡ false
not_true true e = absurd (true≢false (sym e))
not_true false e = refl

in_slot : (k : ℕ) (c : Content) → has_slot k c ≡ true → is_committed c ≡ false
in_slot k (View layers) e = refl
in_slot k (Active slot charged) e = refl
in_slot k (Committed layer usage) e = absurd (true≢false (sym e))

active_not_committed : (c : Content) → is_committed c ≡ true → is_active c ≡ false
active_not_committed (View layers) e = refl
active_not_committed (Active slot charged) e = absurd (true≢false (sym e))
active_not_committed (Committed layer usage) e = refl

module _ (s : State) (namespace : Bytes) (place moment : ℕ) where
  abbrev stays : Record → Bool
  stays r = not (is_swept s namespace place moment r)

  -- ---- what goes

  -- a record that goes is a committed one of the namespace
  swept_parts : (r : Record) → is_swept s namespace place moment r ≡ true → (r.namespace ≡ place) × (is_committed r.content ≡ true)
  swept_parts r is =
      let h = and_parts ((r.namespace == place) && is_committed r.content) (not (is_reached s namespace place moment r.key)) is in
      let k = and_parts (r.namespace == place) (is_committed r.content) h.0 in
      (eqb-true r.namespace place k.0, k.1)

  idle : (r : Record) → stays r ≡ false → is_active r.content ≡ false
  idle r out = active_not_committed r.content (swept_parts r (not-false (is_swept s namespace place moment r) out)).1

  -- no slot changes
  pub open_count-unswept : open_count (unswept s namespace place moment) ≡ open_count s.records
  open_count-unswept = open_count-filter stays idle s.records

  pub active_at-unswept : (k : ℕ) → active_at k (unswept s namespace place moment) ≡ active_at k s.records
  active_at-unswept k = active_at-filter k stays idle s.records

  pub charge_at-unswept : (k : ℕ) → charge_at k (unswept s namespace place moment) ≡ charge_at k s.records
  charge_at-unswept k = charge_at-filter k stays idle s.records

  -- the charge is that of those that stay, and that of those that go
  pub swept_sum : (p : ℕ) → charge_of p s.records ≡ plus (charge_of p (unswept s namespace place moment)) (charge_of p (swept s namespace place moment))
  swept_sum p = charge_of-filter p (is_swept s namespace place moment) s.records

  pub swept_total : charge_of place (unswept s namespace place moment) ≡ minus (charge_of place s.records) (charge_of place (swept s namespace place moment))
  swept_total =
      sym (ap (λ (u : Usage). minus u (charge_of place (swept s namespace place moment))) (swept_sum place) ∙ minus-plus (charge_of place (unswept s namespace place moment)) (charge_of place (swept s namespace place moment)))

  pub swept_covers : Covers (charge_of place s.records) (charge_of place (swept s namespace place moment))
  swept_covers =
      subst (λ (u : Usage). Covers u (charge_of place (swept s namespace place moment))) (sym (swept_sum place)) (Covers-plus (charge_of place (unswept s namespace place moment)) (charge_of place (swept s namespace place moment)))

  pub swept_others : (p : ℕ) → p ≢ place → charge_of p (unswept s namespace place moment) ≡ charge_of p s.records
  swept_others p apart = sym (swept_sum p ∙ ap (plus (charge_of p (unswept s namespace place moment))) none ∙ plus-none (charge_of p (unswept s namespace place moment)))
    where
      none : charge_of p (swept s namespace place moment) ≡ no_usage
      none =
          charge_of-elsewhere p (swept s namespace place moment)
          (all-kept (is_swept s namespace place moment) (λ r. p ≢ r.namespace) s.records
          (all-each (λ r. is_swept s namespace place moment r ≡ true → p ≢ r.namespace) (λ r is same. apart (same ∙ (swept_parts r is).0)) s.records))

  -- ---- what stays

  stays_elsewhere : (p : ℕ) (key : Bytes) → (p == place) ≡ false → Stays s namespace place moment p key
  stays_elsewhere p key other = and_left (p == place) (not (is_reached s namespace place moment key)) other

  stays_reached : (p : ℕ) (key : Bytes) → is_reached s namespace place moment key ≡ true → Stays s namespace place moment p key
  stays_reached p key is = and_right (p == place) (not (is_reached s namespace place moment key)) (not_from_true (is_reached s namespace place moment key) is)

  on_reached : (p : ℕ) (parent : Bytes) → OnParent (IsReached s namespace place moment) place parent → OnParent (Stays s namespace place moment) p parent
  on_reached p parent on = on_parent-map (IsReached s namespace place moment) (Stays s namespace place moment) place p parent (stays_reached p parent) on

  -- a record whose key stays
  record_stays : (p : ℕ) (key : Bytes) (r : Record) → Stays s namespace place moment p key → is_named p key r ≡ true → stays r ≡ true
  record_stays p key r m is =
      let h = and_parts (r.namespace == p) (bytes_eq r.key key) is in
      let own : Stays s namespace place moment r.namespace r.key =
      subst (λ (n : ℕ). Stays s namespace place moment n r.key) (sym (eqb-true r.namespace p h.0)) (subst (λ (k : Bytes). Stays s namespace place moment p k) (sym ((bytes_eq-Decides r.key key).0 h.1)) m) in
      not_from_false (is_swept s namespace place moment r) (past_middle (r.namespace == place) (is_committed r.content) (not (is_reached s namespace place moment r.key)) own)

  -- a snapshot that isn't committed stays
  pub idle-stays : (r : Record) → is_committed r.content ≡ false → is_swept s namespace place moment r ≡ false
  idle-stays r is = and_left ((r.namespace == place) && is_committed r.content) (not (is_reached s namespace place moment r.key)) (and_right (r.namespace == place) (is_committed r.content) is)

  module _ (good : Good s) where
    keeps-unswept : KeepsFor (Stays s namespace place moment) s.records (unswept s namespace place moment)
    keeps-unswept = record {
      same = λ p key r m e.
          let h = committed-parts (record_at p key s.records) r e in
          committed-from (record_at p key (unswept s namespace place moment)) r
          (find-filter stays (is_named p key) s.records r (record_stays p key r m (find-passes (is_named p key) s.records r h.0)) h.0) h.1;
      above = λ p key r m e. by p key r m e (p == place) refl;
    }
      where
        by : (p : ℕ) (key : Bytes) (r : Record) → Stays s namespace place moment p key → committed_at p key s.records ≡ Some r → (b : Bool) → (p == place) ≡ b → OnParent (Stays s namespace place moment) p r.parent
        by p key r m e false other = on_parent (Stays s namespace place moment) p r.parent (stays_elsewhere p r.parent other)
        by p key r m e true own =
            let reached : is_reached s namespace place moment key ≡ true = not-false (is_reached s namespace place moment key) (sym (ap (λ b. b && not (is_reached s namespace place moment key)) own) ∙ m) in
            on_reached p r.parent (reached-above s namespace place moment good key r (subst (λ (n : ℕ). committed_at n key s.records ≡ Some r) (eqb-true p place own) e) reached)

    -- the parent of a record that stays is none, or stays
    on_unswept : (p : Record → Bool) (r : Record) → find p s.records ≡ Some r → is_swept s namespace place moment r ≡ false → OnParent (Stays s namespace place moment) r.namespace r.parent
    on_unswept p r e out = by (r.namespace == place) refl
      where
        used : (b : Bool) → is_committed r.content ≡ b → (r.namespace == place) ≡ true → OnParent (IsReached s namespace place moment) place r.parent
        used false is own = root-above s namespace place moment good p r e own (or_left (not (is_committed r.content)) (is_guarded_at s.leases namespace r.key moment) (not_from_false (is_committed r.content) is))
        used true is own =
            let reached : is_reached s namespace place moment r.key ≡ true =
            not-false (is_reached s namespace place moment r.key) (last_of (r.namespace == place) (is_committed r.content) (not (is_reached s namespace place moment r.key)) own is out) in
            let found : record_at r.namespace r.key s.records ≡ Some r = find-all (λ t. record_at t.namespace t.key s.records ≡ Some t) p s.records r e (own_found s.records good.sorted) in
            reached-above s namespace place moment good r.key r
            (committed-from (record_at place r.key s.records) r (subst (λ (n : ℕ). record_at n r.key s.records ≡ Some r) (eqb-true r.namespace place own) found) is) reached

        by : (b : Bool) → (r.namespace == place) ≡ b → OnParent (Stays s namespace place moment) r.namespace r.parent
        by false other = on_parent (Stays s namespace place moment) r.namespace r.parent (stays_elsewhere r.namespace r.parent other)
        by true own = on_reached r.namespace r.parent (used (is_committed r.content) refl own)

    all_unswept : AreOn (Stays s namespace place moment) (unswept s namespace place moment)
    all_unswept =
        all-kept stays (λ r. OnParent (Stays s namespace place moment) r.namespace r.parent) s.records
        (all-map (λ r. record_at r.namespace r.key s.records ≡ Some r) (λ r. stays r ≡ true → OnParent (Stays s namespace place moment) r.namespace r.parent)
        (λ r e is. on_unswept (is_named r.namespace r.key) r e (not_true (is_swept s namespace place moment r) is)) s.records (own_found s.records good.sorted))

    chained : AllByRecursion (λ r. IsSome (chain s.ancestors s.records r)) (unswept s namespace place moment)
    chained = all-filter (λ r. IsSome (chain s.ancestors s.records r)) stays s.records good.promised.chains

    -- the ancestors of a snapshot that stays are the same
    pub swept-ancestors : (p : Record → Bool) (r : Record) → find p s.records ≡ Some r → is_swept s namespace place moment r ≡ false
        → ancestors r.namespace r.parent (unswept s namespace place moment) ≡ ancestors r.namespace r.parent s.records
    swept-ancestors p r e out =
        keeps-ancestors (Stays s namespace place moment) s.records (unswept s namespace place moment) keeps-unswept r.namespace r.parent (on_unswept p r e out)
        (find-all (λ t. IsSome (chain most_ancestors s.records t)) p s.records r e (good_chains s good))

    pub unswept-ancestors : AllByRecursion (λ r. ancestors r.namespace r.parent (unswept s namespace place moment) ≡ ancestors r.namespace r.parent s.records) (unswept s namespace place moment)
    unswept-ancestors =
        all-map (λ r. OnParent (Stays s namespace place moment) r.namespace r.parent × IsSome (chain most_ancestors s.records r)) (λ r. ancestors r.namespace r.parent (unswept s namespace place moment) ≡ ancestors r.namespace r.parent s.records)
        (λ r h. keeps-ancestors (Stays s namespace place moment) s.records (unswept s namespace place moment) keeps-unswept r.namespace r.parent h.0 h.1)
        (unswept s namespace place moment) (all-both (λ r. OnParent (Stays s namespace place moment) r.namespace r.parent) (λ r. IsSome (chain most_ancestors s.records r)) (unswept s namespace place moment) all_unswept (all_deep s good (unswept s namespace place moment) chained))

    -- those of a snapshot that is active in a slot are the same
    pub active-ancestors : (k : ℕ) (r : Record) → active_at k s.records ≡ Some r → ancestors r.namespace r.parent (unswept s namespace place moment) ≡ ancestors r.namespace r.parent s.records
    active-ancestors k r e = swept-ancestors (is_slot k) r e (idle-stays r (in_slot k r.content (find-passes (is_slot k) s.records r e)))

    -- ---- the leases that stay

    -- a lease of the namespace that is live names snapshots that are reached
    module _ (l : Lease) (member : (p : Lease → Bool) → p l ≡ true → list_any p s.leases ≡ true) (of : is_of namespace l ≡ true) (live : is_live moment l ≡ true) where
      named_reached : (name : Bytes) → IsSome (committed_at place name s.records) → does_name name l ≡ true → is_reached s namespace place moment name ≡ true
      named_reached name some named = by (committed_at place name s.records) refl some
        where
          by : (o : Option Record) → committed_at place name s.records ≡ o → IsSome o → is_reached s namespace place moment name ≡ true
          by None e is = absurd (true≢false (sym is))
          by (Some t) e is =
              let h = committed-parts (record_at place name s.records) t e in
              let own = and_parts (t.namespace == place) (bytes_eq t.key name) (find-passes (is_named place name) s.records t h.0) in
              let key : name ≡ t.key = sym ((bytes_eq-Decides t.key name).0 own.1) in
              let guarded : is_guarded_at s.leases namespace t.key moment ≡ true =
              member (λ m. guards namespace t.key m && is_live moment m)
              (and_from (guards namespace t.key l) (is_live moment l) (and_from (is_of namespace l) (does_name t.key l) of (subst (λ (k : Bytes). does_name k l ≡ true) key named)) live) in
              reached_by s namespace place moment (is_named place name) t h.0 own.0 (or_right (not (is_committed t.content)) (is_guarded_at s.leases namespace t.key moment) guarded)
              name (or_left (bytes_eq t.key name) (is_ancestor s.records name t) own.1)

      names_reached : (p : ℕ) → AllByRecursion (λ name. IsSome (committed_at place name s.records)) l.names → AllByRecursion (Stays s namespace place moment p) l.names
      names_reached p some =
          all-map (λ name. IsSome (committed_at place name s.records) × ((q : Bytes → Bool) → q name ≡ true → list_any q l.names ≡ true)) (Stays s namespace place moment p)
          (λ name h. stays_reached p name (named_reached name h.0 (h.1 (bytes_eq name) ((bytes_eq-Decides name name).1 refl))))
          l.names (all-both (λ name. IsSome (committed_at place name s.records)) (λ name. (q : Bytes → Bool) → q name ≡ true → list_any q l.names ≡ true) l.names some (all-any l.names))

    module _ (spaced : place_of namespace s.namespaces ≡ Some place) where
      lease_stays : (l : Lease) → IsGuarding s.namespaces s.records l → ((p : Lease → Bool) → p l ≡ true → list_any p s.leases ≡ true) → has_ended namespace moment l ≡ false
          → AreNamed (Stays s namespace place moment) s.namespaces l
      lease_stays l stand member open_ended p at = by (p == place) refl
        where
          by : (b : Bool) → (p == place) ≡ b → AllByRecursion (Stays s namespace place moment p) l.names
          by false other = all-each (Stays s namespace place moment p) (λ name. stays_elsewhere p name other) l.names
          by true own =
              let here : p ≡ place = eqb-true p place own in
              let same : namespace ≡ l.namespace = same_name namespace l.namespace s.namespaces place spaced (subst (λ (n : ℕ). place_of l.namespace s.namespaces ≡ Some n) here at) in
              let of : is_of namespace l ≡ true = (bytes_eq-Decides namespace l.namespace).1 same in
              let live : is_live moment l ≡ true = not-false (is_live moment l) (sym (ap (λ b. b && not (is_live moment l)) of) ∙ open_ended) in
              let some : AllByRecursion (λ name. IsSome (committed_at p name s.records)) l.names = subst (λ (o : Option ℕ). NamesStand s.records o l.names) at stand in
              names_reached l member of live p (subst (λ (n : ℕ). AllByRecursion (λ name. IsSome (committed_at n name s.records)) l.names) here some)

      all_leases : AllByRecursion (AreNamed (Stays s namespace place moment) s.namespaces) (without_ended s.leases namespace moment)
      all_leases =
          all-kept (λ l. not (has_ended namespace moment l)) (AreNamed (Stays s namespace place moment) s.namespaces) s.leases
          (all-map (λ l. IsGuarding s.namespaces s.records l × ((p : Lease → Bool) → p l ≡ true → list_any p s.leases ≡ true)) (λ l. not (has_ended namespace moment l) ≡ true → AreNamed (Stays s namespace place moment) s.namespaces l)
          (λ l h is. lease_stays l h.0 h.1 (not_true (has_ended namespace moment l) is))
          s.leases (all-both (IsGuarding s.namespaces s.records) (λ l. (p : Lease → Bool) → p l ≡ true → list_any p s.leases ≡ true) s.leases good.promised.leased (all-any s.leases)))

      -- ---- the state after it

      pub good_swept : Good (swept_at s namespace place moment)
      good_swept = record {
        root = good.root;
        promised = record {
          parents = parents_on P rs ts keeps ts on (all-filter (HasParent rs) stays rs good.promised.parents);
          leased = leases_on P rs ts keeps ns ls all_leases (all-filter (IsGuarding ns rs) (λ l. not (has_ended namespace moment l)) s.leases good.promised.leased);
          counted = all-filter (λ t. IsUsageCounted t.content) stays rs good.promised.counted;
          within = within_after ns rs ts place good.promised.within
              (subst (λ (u : Usage). Covers (limit_at place ns) u) (sym swept_total)
              (covers_gone (limit_at place ns) (charge_of place rs) (charge_of place (swept s namespace place moment)) (good.promised.within place (place_of-below namespace ns place spaced))))
              swept_others;
          chains = chains_on P rs ts keeps s.ancestors ts on chained;
        };
        named_once = all-filter NamesOnce (λ l. not (has_ended namespace moment l)) s.leases good.named_once;
        lease_names = all-filter (λ l. is_key l.name ≡ true) (λ l. not (has_ended namespace moment l)) s.leases good.lease_names;
        lease_keys = IsDistinct-filter (λ l. is_lease l.namespace l.name) (λ l. not (has_ended namespace moment l)) s.leases good.lease_keys;
        limits = good.limits;
        short = good.short;
        distinct = good.distinct;
        spaces = good.spaces;
        few_spaces = good.few_spaces;
        placed = all-filter (λ t. is_taken_at t.namespace ns ≡ true) stays rs good.placed;
        sorted = sorted-filter stays rs good.sorted;
        ids = pairwise-filter stays (λ t u. t.id ≢ u.id) rs good.ids;
        numbered = all-filter (λ t. t.id < s.next_id) stays rs good.numbered;
        rising = rising_on P rs ts keeps ts on (all-filter (IsRising rs) stays rs good.rising);
        fewer = omega (arith, length-filtered stays rs, good.fewer);
        formed = all-filter (IsFormed (s.entries + 1)) stays rs (all_next s good);
        few_slots = good.few_slots;
        slots = pairwise-filter stays AreApart rs good.slots;
        open_slots = all-filter (λ t. HasLowSlot s.slots t.content) stays rs good.open_slots;
        shown = shown_on P rs ts keeps ts on (all_deep s good ts chained) (all-filter (λ t. IsShown rs t.namespace t.parent t.content) stays rs good.shown);
        layers = good.layers;
        most = good.most;
      }
        where
          P : ℕ → Bytes → Type 0
          P = Stays s namespace place moment

          ns : List Namespace
          ns = s.namespaces

          ls : List Lease
          ls = without_ended s.leases namespace moment

          rs : List Record
          rs = s.records

          ts : List Record
          ts = unswept s namespace place moment

          keeps : KeepsFor P rs ts
          keeps = keeps-unswept

          on : AreOn P ts
          on = all_unswept

pub good_sweep : (s : State) (namespace : Bytes) (moment : ℕ) → Good s → Good (sweep s namespace moment).0
good_sweep s namespace moment good = by (place_of namespace s.namespaces) refl
  where
    by : (o : Option ℕ) → place_of namespace s.namespaces ≡ o → Good (option_map_or (sweep_at s namespace moment) o (refused s NoNamespace)).0
    by None e = good_counted s good
    by (Some place) e = good_swept s namespace place moment good e
