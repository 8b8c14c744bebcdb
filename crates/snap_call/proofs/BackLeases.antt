-- The leases of a good state, put back into it one after another, are those that it had.
use Rattle.std.proofs.Common.{◌≡◌, ℕ, Bool, true, false, true≢false, List, [], ◌∷◌, ◌++◌, Option, Some, None, IsSome, append_assoc, append-nil, refl, sym, ap, ◌∙◌}
use Rattle.std.specs.List.{AllByRecursion, IsDistinct, list_any}
use Rattle.std.specs.Option.{option_map_or}
use Rattle.std.specs.Prelude.{if◌then◌else◌, ◌&&◌, ◌||◌, bytes_eq, IsSomeAnd, Ok, Err}
use Rattle.std.proofs.lemmas.Bool.{and_from}
use Rattle.std.proofs.lemmas.Slice.Eq.{bytes_eq-Decides}
use Rattle.snap_lease.specs.Lease.{Lease, NamesOnce, does_name, is_lease, with_lease_name}
use Rattle.snap_lease.specs.Leases.{AreDistinct, has_lease, lease_names, with_name_added}
use Rattle.snap_lease.proofs.ListLemmas.{bytes_eq_comm, is_lease_comm, list_any-tail}
use Rattle.snap_record.specs.Labels.{Bytes}
use Rattle.snap_record.specs.declared.record.Record.{Record}
use Rattle.snap_call.specs.declared.refusal.Refusal.TheVariants.{BadArgument, LeaseExists, NoNamespace, NotCommitted, NotFound}
use Rattle.snap_call.specs.declared.state.State.{State}
use Rattle.snap_call.specs.Forms.{is_key}
use Rattle.snap_call.specs.Good.{Good}
use Rattle.snap_call.specs.Promised.{IsGuarding}
use Rattle.snap_call.specs.Records.{committed_at, has_key, is_named}
use Rattle.snap_call.specs.Results.{◌>>=◌}
use Rattle.snap_call.specs.Saved.{tests_answer}
use Rattle.snap_call.specs.SavedLeases.{lease_place, name_answer, put_lease, put_leases, put_lease_name, put_lease_names, with_empty_lease, with_leases}
use Rattle.snap_call.specs.State.{place_of}
use Rattle.snap_call.specs.Step.{must, must_not, tested}
use Rattle.snap_call.proofs.Lists.{all-both, all-each, all-map, any-found, committed_at-is_named, committed_at-record_at}

module _ {X : Type 0} where
  -- no element passes, and neither does a last one more
  list_any-last : (t : X → Bool) (xs : List X) (x : X) → list_any t xs ≡ false → t x ≡ false → list_any t (xs ++ x ∷ []) ≡ false
  list_any-last t [] x none out = ap (λ b. b || false) out
  list_any-last t (y ∷ ys) x none out =
      let both = list_any-tail t y ys none in
      ap (λ b. b || list_any t (ys ++ x ∷ [])) both.0 ∙ list_any-last t ys x both.1 out

-- ---- one more name of the last lease

-- a committed snapshot is one
key_of : (place : ℕ) (name : Bytes) (rs : List Record) → IsSome (committed_at place name rs) → has_key place name rs ≡ true
key_of place name rs is = by (committed_at place name rs) refl is
  where
    by : (o : Option Record) → committed_at place name rs ≡ o → IsSome o → has_key place name rs ≡ true
    by None e some = absurd (true≢false (sym some))
    by (Some r) e some = any-found (is_named place name) (is_named place name) rs r (committed_at-record_at place name rs r e) (committed_at-is_named place name rs r e)

module _ (namespace lease name : Bytes) where
  -- a lease that is not there names nothing
  none_named : (bs : List Lease) → has_lease bs namespace lease ≡ false → lease_names bs namespace lease name ≡ false
  none_named [] new = refl
  none_named (b ∷ bs) new =
      let both = list_any-tail (is_lease namespace lease) b bs new in
      ap (λ c. (c && does_name name b) || lease_names bs namespace lease name) both.0 ∙ none_named bs both.1

  -- the last one gets the name as its last
  added_last : (bs : List Lease) (k : Lease) → has_lease bs namespace lease ≡ false → is_lease namespace lease k ≡ true → does_name name k ≡ false → with_name_added (bs ++ k ∷ []) namespace lease name ≡ bs ++ record k { names = k.names ++ name ∷ [] } ∷ []
  added_last [] k new own out =
      ap (λ b. (if b then with_lease_name name k else k) ∷ []) own
      ∙ ap (λ b. (if b then k else record k { names = k.names ++ name ∷ [] }) ∷ []) out
  added_last (b ∷ bs) k new own out =
      let both = list_any-tail (is_lease namespace lease) b bs new in
      ap (λ c. (if c then with_lease_name name b else b) ∷ with_name_added (bs ++ k ∷ []) namespace lease name) both.0
      ∙ ap (λ ls. b ∷ ls) (added_last bs k both.1 own out)

-- a lease with these names
abbrev named_as : Lease → List Bytes → Lease
named_as l names = record l { names = names }

-- a lease is of its namespace and its name
own : (l : Lease) (names : List Bytes) → is_lease l.namespace l.name (named_as l names) ≡ true
own l names = and_from (bytes_eq l.namespace l.namespace) (bytes_eq l.name l.name) ((bytes_eq-Decides l.namespace l.namespace).1 refl) ((bytes_eq-Decides l.name l.name).1 refl)

module _ (s : State) (bs : List Lease) (place : ℕ) (l : Lease) (new : has_lease bs l.namespace l.name ≡ false) where
  -- the state with the lease as the last one, with these names
  abbrev put_so_far : List Bytes → State
  put_so_far names = with_leases s (bs ++ named_as l names ∷ [])

  one_name : (done : List Bytes) (name : Bytes) → IsSome (committed_at place name s.records) → list_any (bytes_eq name) done ≡ false → put_lease_name (put_so_far done) place l name ≡ Ok (put_so_far (done ++ name ∷ []))
  one_name done name there fresh =
      ap (λ r. r >>= (λ answer. Ok (with_leases s (with_name_added (bs ++ named_as l done ∷ []) l.namespace l.name name)))) passed
      ∙ ap (λ ls. Ok (with_leases s ls)) (added_last l.namespace l.name name bs (named_as l done) new (own l done) fresh)
    where
      apart : lease_names (bs ++ named_as l done ∷ []) l.namespace l.name name ≡ false
      apart =
          list_any-last (λ k. is_lease l.namespace l.name k && does_name name k) bs (named_as l done) (none_named l.namespace l.name name bs new)
          (ap (λ b. b && does_name name (named_as l done)) (own l done) ∙ fresh)

      passed : name_answer (put_so_far done) place l name ≡ Ok tt
      passed = λ i. tests_answer (must (key_of place name s.records there i) NotFound ∷ must (there i) NotCommitted ∷ must_not (apart i) BadArgument ∷ [])

  -- its names, one after another
  names_back : (done names : List Bytes) → AllByRecursion (λ name. IsSome (committed_at place name s.records)) names → AllByRecursion (λ name. list_any (bytes_eq name) done ≡ false) names → IsDistinct bytes_eq names
      → put_lease_names (put_so_far done) place l names ≡ Ok (put_so_far (done ++ names))
  unfolding IsDistinct
  names_back done [] there fresh once = ap (λ names. Ok (put_so_far names)) (sym (append-nil done))
  names_back done (name ∷ names) there fresh once =
      ap (λ r. r >>= (λ t. put_lease_names t place l names)) (one_name done name there.0 fresh.0)
      ∙ names_back (done ++ name ∷ []) names there.1 later once.1
      ∙ ap (λ all. Ok (put_so_far all)) (append_assoc done (name ∷ []) names)
    where
      later : AllByRecursion (λ m. list_any (bytes_eq m) (done ++ name ∷ []) ≡ false) names
      later =
          all-map (λ m. (list_any (bytes_eq m) done ≡ false) × (bytes_eq name m ≡ false)) (λ m. list_any (bytes_eq m) (done ++ name ∷ []) ≡ false)
          (λ m h. list_any-last (bytes_eq m) done name h.0 (bytes_eq_comm m name ∙ h.1)) names
          (all-both (λ m. list_any (bytes_eq m) done ≡ false) (λ m. bytes_eq name m ≡ false) names fresh.1 once.0)

-- ---- one lease more

lease_back : (s : State) (bs : List Lease) (l : Lease) → is_key l.name ≡ true → IsGuarding s.namespaces s.records l → NamesOnce l → has_lease bs l.namespace l.name ≡ false → put_lease (with_leases s bs) l ≡ Ok (with_leases s (bs ++ l ∷ []))
lease_back s bs l key guarding once new = by (place_of l.namespace s.namespaces) refl guarding
  where
    by : (o : Option ℕ) → place_of l.namespace s.namespaces ≡ o → IsSomeAnd o (λ place. AllByRecursion (λ name. IsSome (committed_at place name s.records)) l.names) → put_lease (with_leases s bs) l ≡ Ok (with_leases s (bs ++ l ∷ []))
    by None e h = absurd h
    by (Some place) e there =
        ap (λ r. r >>= (λ p. put_lease_names (with_leases s (with_empty_lease bs l)) p l l.names)) found
        ∙ names_back s bs place l new [] l.names there (all-each (λ name. list_any (bytes_eq name) [] ≡ false) (λ name. refl) l.names) once
      where
        found : lease_place (with_leases s bs) l ≡ Ok place
        found = λ i. tested Err (must (key i) BadArgument ∷ []) (option_map_or (λ p. tested Err (must_not (new i) LeaseExists ∷ []) (Ok p)) (e i) (Err NoNamespace))

leases_back : (s : State) (bs ls : List Lease) → AllByRecursion (λ l. is_key l.name ≡ true) ls → AllByRecursion (IsGuarding s.namespaces s.records) ls → AllByRecursion NamesOnce ls → AllByRecursion (λ l. has_lease bs l.namespace l.name ≡ false) ls → AreDistinct ls
    → put_leases (with_leases s bs) ls ≡ Ok (with_leases s (bs ++ ls))
unfolding IsDistinct
leases_back s bs [] keys guarding once new distinct = ap (λ ls. Ok (with_leases s ls)) (sym (append-nil bs))
leases_back s bs (l ∷ ls) keys guarding once new distinct =
    ap (λ r. r >>= (λ t. put_leases t ls)) (lease_back s bs l keys.0 guarding.0 once.0 new.0)
    ∙ leases_back s (bs ++ l ∷ []) ls keys.1 guarding.1 once.1 later distinct.1
    ∙ ap (λ all. Ok (with_leases s all)) (append_assoc bs (l ∷ []) ls)
  where
    later : AllByRecursion (λ k. has_lease (bs ++ l ∷ []) k.namespace k.name ≡ false) ls
    later =
        all-map (λ k. (has_lease bs k.namespace k.name ≡ false) × (is_lease l.namespace l.name k ≡ false)) (λ k. has_lease (bs ++ l ∷ []) k.namespace k.name ≡ false)
        (λ k h. list_any-last (is_lease k.namespace k.name) bs l h.0 (is_lease_comm k l ∙ h.1)) ls
        (all-both (λ k. has_lease bs k.namespace k.name ≡ false) (λ k. is_lease l.namespace l.name k ≡ false) ls new.1 distinct.0)

-- all leases of a good state
pub put_leases_back : (s : State) → Good s → put_leases (with_leases s []) s.leases ≡ Ok s
put_leases_back s good =
    leases_back s [] s.leases good.lease_names good.promised.leased good.named_once (all-each (λ l. has_lease [] l.namespace l.name ≡ false) (λ l. refl) s.leases) good.lease_keys
