-- A name, and a place that stands for it in a state: the namespace's own, or one that no namespace has.
use Rattle.std.proofs.Common.{◌≡◌, ◌≢◌, ℕ, zero, suc, ◌+◌, ◌≤◌, List, [], ◌∷◌, length, Bool, true, false, true≢false, cond, Option, Some, None, refl, sym, ap, ◌∙◌, ⊎_elim, arith}
use Rattle.std.proofs.lemmas.Bool.{false_from_ne_true}
use Rattle.std.proofs.lemmas.Bool.Decides.{eqb_tells}
use Rattle.std.proofs.lemmas.Slice.Eq.{bytes_eq-Decides}
use Rattle.std.specs.Option.{is_some, option_map_or}
use Rattle.std.specs.Prelude.{◌==◌, ◌||◌, count_by, nat_lt, if◌then◌else◌, bytes_eq, option_and_then}
use Rattle.snap_usage.specs.declared.usage.Usage.{Usage}
use Rattle.snap_record.specs.Labels.{Bytes}
use Rattle.snap_record.specs.Records.{usage_of}
use Rattle.snap_record.specs.declared.record.Record.{Record}
use Rattle.snap_lease.specs.Leases.{has_leases}
use Rattle.snap_call.specs.declared.call.Call.{Call}
use Rattle.snap_call.specs.declared.call.Call.TheVariants as calls
use Rattle.snap_call.specs.declared.call.Given.{Given}
use Rattle.snap_call.specs.declared.config.Namespace.{Namespace}
use Rattle.snap_call.specs.declared.refusal.Refusal.{Refusal}
use Rattle.snap_call.specs.declared.refusal.Refusal.TheVariants.{BadArgument, NamespaceExists, NoNamespace, NotEmpty, TooManyNamespaces}
use Rattle.snap_call.specs.declared.reply.Reply.{Reply}
use Rattle.snap_call.specs.declared.state.State.{State}
use Rattle.snap_call.specs.Forms.{is_namespace}
use Rattle.snap_call.specs.Good.{Good}
use Rattle.snap_call.specs.Records.{active_at, charge_of, has_records}
use Rattle.snap_call.specs.State.{is_taken, is_taken_at, most_namespaces, place_of, with_namespace, without_namespace}
use Rattle.snap_call.specs.Step.{step, IsAllowed, refused, spacing}
use Rattle.snap_call.specs.Steps.{namespace_create, namespace_remove}
use Rattle.snap_call.proofs.Keeping.{same_name}
use Rattle.snap_call.proofs.Kept.{good_step}
use Rattle.snap_call.proofs.Leasing.{name_at-place, place_of-taken}
use Rattle.snap_call.proofs.Lists.{active_at-all, all-map, none_some, some_same}
use Rattle.snap_call.proofs.Naming.{free-untaken, free_place, place_of-with, place_of-without}
use Rattle.snap_call.proofs.Parts.{namespace_remove_at}
use Rattle.snap_call.proofs.Spacing.{namespace_parts}
use Rattle.snap_call.proofs.Sums.{charge_of-elsewhere}
use Rattle.snap_history.specs.History.{namespace_charge}
use Rattle.snap_history.proofs.Names.{step-names}
use Rattle.snap_history.proofs.Turning.{IsPlaceOf, share_by}

-- what the namespace of this name is charged in a slot
abbrev pub share_named : Bytes → State → Option Record → Option Usage
share_named name s found = option_and_then (λ place. share_by place found) (place_of name s.namespaces)

-- the namespaces, the charge and the shares of the name are those at the place
pub record Stands (name : Bytes) (place : ℕ) (s : State) : Type 0 where
  pub owned : IsPlaceOf name place s
  pub charge : namespace_charge name s ≡ charge_of place s.records
  pub share : (slot : ℕ) → share_named name s (active_at slot s.records) ≡ share_by place (active_at slot s.records)

-- the place that the namespace has
stands_at : (name : Bytes) (place : ℕ) (s : State) → place_of name s.namespaces ≡ Some place → Stands name place s
stands_at name place s named = record {
  owned = owned;
  charge = rw named refl;
  share = λ slot. rw named refl;
}
  where
    owned : IsPlaceOf name place s
    owned namespace at e =
        ⊎_elim
        (λ (h : ((at == place) ≡ true) × (at ≡ place)).
        let same : namespace ≡ name = same_name namespace name s.namespaces place (e ∙ ap (λ (n : ℕ). Some n) h.1) named in
        (bytes_eq-Decides namespace name).1 same ∙ sym h.0)
        (λ (h : ((at == place) ≡ false) × (at ≢ place)).
        false_from_ne_true (bytes_eq namespace name)
        (λ is. h.1 (some_same at place (sym e ∙ ap (λ (n : Bytes). place_of n s.namespaces) ((bytes_eq-Decides namespace name).0 is) ∙ named))) ∙ sym h.0)
        (eqb_tells at place)

-- no namespace stands past the last place, nor where one was taken away
untaken-past : (place : ℕ) (ns : List Namespace) → length ns ≤ place → is_taken_at place ns ≡ false
untaken-past place [] past = refl
untaken-past zero (n ∷ ns) past = absurd (omega (arith, past))
untaken-past (suc place) (n ∷ ns) past = untaken-past place ns (omega (arith, past))

untaken-left : (place : ℕ) (ns : List Namespace) → is_taken_at place (without_namespace place ns) ≡ false
untaken-left place [] = refl
untaken-left zero (n ∷ ns) = refl
untaken-left (suc place) (n ∷ ns) = untaken-left place ns

-- a place where no namespace stands, and none has the name
free-other : (p q : ℕ) (s : State) → is_taken_at p s.namespaces ≡ true → is_taken_at q s.namespaces ≡ false → p ≢ q
free-other p q s taken free same = true≢false (sym taken ∙ ap (λ (n : ℕ). is_taken_at n s.namespaces) same ∙ free)

apart-eqb : (p q : ℕ) → p ≢ q → (p == q) ≡ false
apart-eqb p q apart =
    ⊎_elim
    (λ (h : ((p == q) ≡ true) × (p ≡ q)). absurd (apart h.1))
    (λ (h : ((p == q) ≡ false) × (p ≢ q)). h.0)
    (eqb_tells p q)

stands_free : (name : Bytes) (place : ℕ) (s : State) → Good s → place_of name s.namespaces ≡ None → is_taken_at place s.namespaces ≡ false → Stands name place s
stands_free name place s good unnamed free = record {
  owned = owned;
  charge = rw unnamed (sym (charge_of-elsewhere place s.records (all-map (λ r. is_taken_at r.namespace s.namespaces ≡ true) (λ r. place ≢ r.namespace) (λ r taken same. free-other r.namespace place s taken free (sym same)) s.records good.placed)));
  share = λ slot. rw unnamed (sym (no_share (active_at slot s.records) (λ r stands. active_at-all (λ t. is_taken_at t.namespace s.namespaces ≡ true) slot s.records r stands good.placed)));
}
  where
    owned : IsPlaceOf name place s
    owned namespace at e =
        false_from_ne_true (bytes_eq namespace name)
        (λ is. none_some at (sym unnamed ∙ ap (λ (n : Bytes). place_of n s.namespaces) (sym ((bytes_eq-Decides namespace name).0 is)) ∙ e))
        ∙ sym (apart-eqb at place (free-other at place s (place_of-taken namespace s.namespaces at e) free))

    no_share : (o : Option Record) → ((r : Record) → o ≡ Some r → is_taken_at r.namespace s.namespaces ≡ true) → share_by place o ≡ None
    no_share None h = refl
    no_share (Some r) h = ap (λ (b : Bool). if b then Some (usage_of r.content) else None) (apart-eqb r.namespace place (free-other r.namespace place s (h r refl) free))

-- one place stands for the name in two states, if the name has the same place in both or none
place_in_both : (name : Bytes) (s t : State) → Good s → Good t → place_of name t.namespaces ≡ place_of name s.namespaces → (place : ℕ) × Stands name place s × Stands name place t
place_in_both name s t good sound kept = by (place_of name s.namespaces) refl
  where
    by : (o : Option ℕ) → place_of name s.namespaces ≡ o → (place : ℕ) × Stands name place s × Stands name place t
    by (Some place) e = (place, stands_at name place s e, stands_at name place t (kept ∙ e))
    by None e =
        let above : ℕ = length s.namespaces + length t.namespaces in
        (above, stands_free name above s good e (untaken-past above s.namespaces (omega arith)), stands_free name above t sound (kept ∙ e) (untaken-past above t.namespaces (omega arith)))

-- the place at which a namespace is made
place_made : (name : Bytes) (s : State) (n : Namespace) → Good s → Good (spacing s (with_namespace n s.namespaces)) → is_taken n ≡ true → place_of n.name s.namespaces ≡ None
    → (place : ℕ) × Stands name place s × Stands name place (spacing s (with_namespace n s.namespaces))
place_made name s n good sound taken new = by (bytes_eq name n.name) refl
  where
    t : State
    t = spacing s (with_namespace n s.namespaces)

    kept : place_of name (with_namespace n s.namespaces) ≡ cond (bytes_eq name n.name) (Some (free_place s.namespaces)) (place_of name s.namespaces)
    kept = place_of-with name n s.namespaces taken new

    by : (b : Bool) → bytes_eq name n.name ≡ b → (place : ℕ) × Stands name place s × Stands name place (spacing s (with_namespace n s.namespaces))
    by true same =
        let unnamed : place_of name s.namespaces ≡ None = ap (λ (m : Bytes). place_of m s.namespaces) ((bytes_eq-Decides name n.name).0 same) ∙ new in (
          free_place s.namespaces,
          stands_free name (free_place s.namespaces) s good unnamed (free-untaken s.namespaces),
          stands_at name (free_place s.namespaces) (spacing s (with_namespace n s.namespaces)) (kept ∙ ap (λ b. cond b (Some (free_place s.namespaces)) (place_of name s.namespaces)) same),
        )
    by false differ =
        place_in_both name s (spacing s (with_namespace n s.namespaces)) good sound (kept ∙ ap (λ b. cond b (Some (free_place s.namespaces)) (place_of name s.namespaces)) differ)

-- and that which it leaves
place_left : (name namespace : Bytes) (s : State) (place : ℕ) → Good s → Good (spacing s (without_namespace place s.namespaces)) → place_of namespace s.namespaces ≡ Some place
    → (at : ℕ) × Stands name at s × Stands name at (spacing s (without_namespace place s.namespaces))
place_left name namespace s place good sound named = by (bytes_eq name namespace) refl
  where
    kept : place_of name (without_namespace place s.namespaces) ≡ cond (bytes_eq name namespace) None (place_of name s.namespaces)
    kept =
        place_of-without name s.namespaces place good.distinct (place_of-taken namespace s.namespaces place named)
        ∙ ap (λ (m : Bytes). cond (bytes_eq name m) None (place_of name s.namespaces)) (sym (name_at-place namespace s.namespaces place named))

    by : (b : Bool) → bytes_eq name namespace ≡ b → (at : ℕ) × Stands name at s × Stands name at (spacing s (without_namespace place s.namespaces))
    by true same = (
      place,
      stands_at name place s (ap (λ (m : Bytes). place_of m s.namespaces) ((bytes_eq-Decides name namespace).0 same) ∙ named),
      stands_free name place (spacing s (without_namespace place s.namespaces)) sound (kept ∙ ap (λ b. cond b None (place_of name s.namespaces)) same) (untaken-left place s.namespaces),
    )
    by false differ = place_in_both name s (spacing s (without_namespace place s.namespaces)) good sound (kept ∙ ap (λ b. cond b None (place_of name s.namespaces)) differ)

-- what comes of each test
either_step : (name : Bytes) (s : State) (b : Bool) (x y : State × Reply)
    → (b ≡ true → Good x.0 → (place : ℕ) × Stands name place s × Stands name place x.0) → (b ≡ false → Good y.0 → (place : ℕ) × Stands name place s × Stands name place y.0)
    → Good (if b then x else y).0 → (place : ℕ) × Stands name place s × Stands name place (if b then x else y).0
either_step name s true x y f g sound = f refl sound
either_step name s false x y f g sound = g refl sound

still_there : (name : Bytes) (s : State) (why : Refusal) → Good s → Good (refused s why).0 → (place : ℕ) × Stands name place s × Stands name place (refused s why).0
still_there name s why good sound = place_in_both name s (refused s why).0 good sound refl

place_created : (name : Bytes) (s : State) (namespace : Bytes) (limit : Usage) → Good s → Good (namespace_create s namespace limit).0 → (place : ℕ) × Stands name place s × Stands name place (namespace_create s namespace limit).0
place_created name s namespace limit good =
    let n : Namespace = record { name = namespace; limit = limit } in
    either_step name s (is_namespace n) _ _
    (λ formed. either_step name s (is_some (place_of namespace s.namespaces)) _ _ (λ there. still_there name s NamespaceExists good)
    (λ new. either_step name s (nat_lt (count_by is_taken s.namespaces) most_namespaces) _ _
    (λ room sound. place_made name s n good sound (namespace_parts n formed).0 (unplaced_of (place_of namespace s.namespaces) new))
    (λ full. still_there name s TooManyNamespaces good)))
    (λ bad. still_there name s BadArgument good)
  where
    unplaced_of : (o : Option ℕ) → is_some o ≡ false → o ≡ None
    unplaced_of None e = refl
    unplaced_of (Some at) e = absurd (true≢false e)

place_removed : (name : Bytes) (s : State) (namespace : Bytes) → Good s → Good (namespace_remove s namespace).0 → (place : ℕ) × Stands name place s × Stands name place (namespace_remove s namespace).0
place_removed name s namespace good = by (place_of namespace s.namespaces) refl
  where
    by : (o : Option ℕ) → place_of namespace s.namespaces ≡ o → Good (option_map_or (namespace_remove_at s namespace) o (refused s NoNamespace)).0
        → (place : ℕ) × Stands name place s × Stands name place (option_map_or (namespace_remove_at s namespace) o (refused s NoNamespace)).0
    by None e = still_there name s NoNamespace good
    by (Some place) e =
        either_step name s (has_records place s.records || has_leases s.leases namespace) _ _
        (λ full. still_there name s NotEmpty good) (λ empty sound. place_left name namespace s place good sound e)

-- one place stands for the name before and after each allowed call
pub step-place : (name : Bytes) (s : State) (call : Call) (given : Given) → Good s → IsAllowed s call given → (place : ℕ) × Stands name place s × Stands name place (step s call given).0
step-place name s (calls.NamespaceCreate namespace limit) given good allowed = place_created name s namespace limit good (good_step s (calls.NamespaceCreate namespace limit) given good allowed)
step-place name s (calls.NamespaceRemove namespace) given good allowed = place_removed name s namespace good (good_step s (calls.NamespaceRemove namespace) given good allowed)
step-place name s call given good allowed = place_in_both name s (step s call given).0 good (good_step s call given good allowed) (step-names s call given tt allowed name)
