-- A list of references to records, and the list of these records.
use Rattle.std.proofs.Common.{◌≡◌, ℕ, zero, suc, ◌<◌, ◌≤◌, Bool, true, false, Bor, List, [], ◌∷◌, Option, length, map, get_or, refl, sym, ap, ◌∙◌, subst, arith}
use Rattle.std.proofs.Math.ListN.{get_or-map}
use Rattle.std.proofs.lemmas.List.{length-map}
use Rattle.std.proofs.lemmas.Bool.{and_parts}
use Rattle.std.proofs.lemmas.Bool.Decides.{nat_tests}
use Rattle.std.proofs.lemmas.List.Kept.{IsStrictlySortedBy-filter}
use Rattle.std.specs.List.Sorted.{IsPartitionedBy, IsPartitionPoint, IsStrictlySortedBy}
use Rattle.std.specs.Prelude.{Some, ◌==◌, nat_le}
use Rattle.snap_usage.specs.declared.usage.Usage.{Usage}
use Rattle.snap_record.specs.Labels.{Bytes}
use Rattle.snap_record.specs.declared.record.Record.{Record}
use Rattle.snap_lease.specs.Leases.{is_guarded_at}
use Rattle.snap_lease.specs.Live.{is_among}
use Rattle.snap_lease.specs.Reach.{IsSweepSet}
use Rattle.snap_call.specs.declared.state.State.{State}
use Rattle.snap_call.specs.Good.{Good}
use Rattle.snap_call.specs.Marked.{is_kept, marked, parent_place}
use Rattle.snap_call.specs.Reached.{swept}
use Rattle.snap_call.specs.Records.{record_cmp, charge_of}
use Rattle.snap_call.specs.State.{place_of, limit_at}
use Rattle.snap_call.proofs.Keeping.{place_of-below}
use Rattle.snap_call.proofs.Marks.{planned}
use Rattle.snap_call.proofs.Own.{own, charge-own}

-- the records that are referred to
abbrev pub all_now : List (Bor Record) → List Record
all_now refs = map (λ r. r.now) refs

pub length-now : (refs : List (Bor Record)) → length (all_now refs) ≡ length refs
length-now refs = length-map refs (λ r. r.now)

pub below-now : (refs : List (Bor Record)) (i : ℕ) → i < length refs → i < length (all_now refs)
below-now refs i lt = let e = length-now refs in omega arith

pub lengths-now : (marks : List Bool) (refs : List (Bor Record)) → length marks ≡ length refs → length marks ≡ length (all_now refs)
lengths-now marks refs e = e ∙ sym (length-now refs)

pub at-now : (refs : List (Bor Record)) (i : ℕ) (b : Bor Record) → b ≡ get_or refs i b → b.now ≡ get_or (all_now refs) i b.now
at-now refs i b e = ap (λ (r : Bor Record). r.now) e ∙ sym (get_or-map (λ (r : Bor Record). r.now) refs i b)

pub map-now : {X : Type 0} (f : Record → X) (refs : List (Bor Record)) → map (λ (r : Bor Record). f r.now) refs ≡ map f (all_now refs)
map-now f [] = refl
map-now f (r ∷ refs) = ap (λ l. f r.now ∷ l) (map-now f refs)

holds-now : (P : Record → Type 0) (refs : List (Bor Record)) (k : ℕ) (d : Record) → k < length refs → ((b : Bor Record) → P (get_or refs k b).now) → P (get_or (all_now refs) k d)
holds-now P [] k d lt h = absurd (omega arith)
holds-now P (b ∷ refs) zero d lt h = h b
holds-now P (b ∷ refs) (suc k) d lt h = holds-now P refs k d (omega arith) (λ c. h c)

-- where the one list is parted, so is the other
pub parted-now : (p : Record → Bool) (refs : List (Bor Record)) (i : ℕ) → i ≤ length refs → IsPartitionPoint (λ (r : Bor Record). p r.now ≡ true) (λ (r : Bor Record). p r.now ≡ false) refs i → IsPartitionPoint (λ r. p r ≡ true) (λ r. p r ≡ false) (all_now refs) i
parted-now p refs i within parts = (
  λ k d low below. holds-now (λ r. p r ≡ true) refs k d (omega arith) (λ b. parts.0 k b low below),
  λ k d above lt. holds-now (λ r. p r ≡ false) refs k d (short k lt) (λ b. parts.1 k b above (short k lt)),
)
  where
    short : (k : ℕ) → k < length (all_now refs) → k < length refs
    short k lt = let e = length-now refs in omega arith

pub parted-refs : (p : Record → Bool) (refs : List (Bor Record)) → IsPartitionedBy p (all_now refs) → IsPartitionedBy (λ (r : Bor Record). p r.now) refs
parted-refs p refs parted i j d le lt low =
    let long : j < length (all_now refs) = (let e = length-now refs in omega arith) in
    subst (λ r. p r ≡ true) (get_or-map (λ (r : Bor Record). r.now) refs i d)
    (parted i j d.now le long (subst (λ r. p r ≡ true) (sym (get_or-map (λ (r : Bor Record). r.now) refs j d)) low))

-- what a sweep finds for each
pub parents-now : (place : ℕ) (refs ds : List (Bor Record)) (rs : List Record) (ps qs : List (Option ℕ)) → ds ≡ refs → all_now refs ≡ rs → qs ≡ ps → ps ≡ map (λ (r : Bor Record). parent_place place (all_now ds) r.now) ds → qs ≡ map (parent_place place rs) rs
parents-now place refs ds rs ps qs same are qs_are found =
    qs_are ∙ found ∙ ap (λ (l : List (Bor Record)). map (λ (r : Bor Record). parent_place place (all_now l) r.now) l) same ∙ map-now (parent_place place (all_now refs)) refs ∙ ap (λ (l : List Record). map (parent_place place l) l) are

pub roots-now : (place : ℕ) (names : List Bytes) (refs ds : List (Bor Record)) (rs : List Record) (ps qs : List Bool) → ds ≡ refs → all_now refs ≡ rs → qs ≡ ps → ps ≡ map (λ (r : Bor Record). is_kept place names r.now) ds → qs ≡ map (is_kept place names) rs
roots-now place names refs ds rs ps qs same are qs_are found =
    qs_are ∙ found ∙ ap (λ (l : List (Bor Record)). map (λ (r : Bor Record). is_kept place names r.now) l) same ∙ map-now (is_kept place names) refs ∙ ap (map (is_kept place names)) are

-- the marked records are the swept ones
pub swept-now : (s : State) (namespace : Bytes) (place moment : ℕ) → Good s → (names : List Bytes) (refs ds es fs : List (Bor Record)) (ps qs : List (Option ℕ)) (bs cs ms ns : List Bool)
    → all_now refs ≡ own place s.records → ds ≡ refs → es ≡ refs → fs ≡ refs
    → qs ≡ ps → ps ≡ map (λ (r : Bor Record). parent_place place (all_now ds) r.now) ds
    → cs ≡ bs → bs ≡ map (λ (r : Bor Record). is_kept place names r.now) es
    → ns ≡ ms → ((name : Bytes) → is_among name names ≡ is_guarded_at s.leases namespace name moment) → IsSweepSet qs cs ms
    → marked place (all_now fs) ns ≡ swept s namespace place moment
swept-now s namespace place moment good names refs ds es fs ps qs bs cs ms ns are ds_are es_are fs_are qs_are ps_are cs_are bs_are ns_are guarded set =
    ap (λ (l : List (Bor Record)). marked place (all_now l) ns) fs_are ∙ ap (λ (l : List Record). marked place l ns) are ∙ ap (marked place (own place s.records)) ns_are
    ∙ planned s namespace place moment good names qs cs ms guarded
    (parents-now place refs ds (own place s.records) ps qs ds_are are qs_are ps_are) (roots-now place names refs es (own place s.records) bs cs es_are are cs_are bs_are) set

-- what a sweep finds of the namespace's records: they are in order, and their charge is a number of 64 bits
pub own-sorted : (s : State) (place : ℕ) (refs ds : List (Bor Record)) → Good s → all_now refs ≡ own place s.records → ds ≡ refs → IsStrictlySortedBy record_cmp (all_now ds)
own-sorted s place refs ds good are ds_are =
    subst (IsStrictlySortedBy record_cmp) (sym (ap all_now ds_are ∙ are))
    (IsStrictlySortedBy-filter record_cmp (λ r. r.namespace == place) s.records good.sorted)

pub own-charge : (s : State) (namespace : Bytes) (place : ℕ) (refs ds : List (Bor Record)) → Good s → place_of namespace s.namespaces ≡ Some place → all_now refs ≡ own place s.records → ds ≡ refs
    → ((charge_of place (all_now ds)).blocks < 18446744073709551616) × ((charge_of place (all_now ds)).inodes < 18446744073709551616)
own-charge s namespace place refs ds good named are ds_are =
    let lt = place_of-below namespace s.namespaces place named in
    let most = and_parts (nat_le (limit_at place s.namespaces).blocks 1099511627776) (nat_le (limit_at place s.namespaces).inodes 1099511627776) (good.limits place lt) in
    let within = good.promised.within place lt in
    let blocks = most.0 in
    let inodes = most.1 in
    let low_blocks = within.blocks in
    let low_inodes = within.inodes in
    subst (λ (u : Usage). (u.blocks < 18446744073709551616) × (u.inodes < 18446744073709551616))
    (sym (ap (charge_of place) (ap all_now ds_are ∙ are) ∙ charge-own place s.records))
    (grind (arith, nat_tests, blocks, low_blocks), grind (arith, nat_tests, inodes, low_inodes))
