-- A call whose texts are cut makes the same step: a text that is cut is refused before and after.
use Rattle.std.proofs.Common.{◌≡◌, ℕ, zero, suc, ◌+◌, ◌<◌, ◌≤◌, Bool, true, false, true≢false, List, [], ◌∷◌, length, drop, Option, Some, None, ◌⊎◌, inl, inr, refl, sym, ap, ◌∙◌, arith}
use Rattle.std.specs.List.{AllByRecursion, list_all, list_any, find, starts_with}
use Rattle.std.specs.Option.{option_map, option_map_or}
use Rattle.std.specs.Prelude.{if◌then◌else◌, ◌&&◌, ◌||◌, ◌==◌, not, nat_eq, nat_lt, nat_le, count_by, codes, is_some, Err}
use Rattle.std.proofs.lemmas.Bool.{false_from_ne_true}
use Rattle.std.proofs.lemmas.Bool.Decides.{nat_tests}
use Rattle.std.proofs.lemmas.Slice.Eq.{bytes_eq-Decides}
use Rattle.snap_layer.specs.Tree.{Tree}
use Rattle.snap_usage.specs.declared.usage.Usage.{Usage}
use Rattle.snap_record.specs.Cut.{cut, cut_label, cut_path, kept_by_paths, kept_labels, kept_update}
use Rattle.snap_record.specs.Filters.{no_filter}
use Rattle.snap_record.specs.Labels.{Bytes, Label, is_label, are_labels}
use Rattle.snap_record.specs.Updates.{is_update_path, is_well_formed, is_whole, named_key, named_keys, replaces_all, with_named}
use Rattle.snap_record.specs.Records.{info_of, usage_of}
use Rattle.snap_record.specs.declared.filter.Filter.{Filter}
use Rattle.snap_record.specs.declared.record.Record.{Record}
use Rattle.snap_record.proofs.CutLemmas.{cut_within, cut_above}
use Rattle.snap_call.specs.declared.call.Call.{Call}
use Rattle.snap_call.specs.declared.call.Call.TheVariants as calls
use Rattle.snap_call.specs.declared.call.Given.{Given}
use Rattle.snap_call.specs.declared.call.Given.TheVariants.{Nothing, Count, Layer}
use Rattle.snap_call.specs.declared.config.Namespace.{Namespace}
use Rattle.snap_call.specs.declared.refusal.Refusal.TheVariants.{BadArgument, NoNamespace, NamespaceExists, TooManyNamespaces, NotFound, AlreadyExists, NoLease}
use Rattle.snap_call.specs.declared.reply.Reply.{Reply}
use Rattle.snap_call.specs.declared.reply.Reply.TheVariants.{Done, Info, Page, Usage as UsageReply}
use Rattle.snap_call.specs.declared.state.State.{State}
use Rattle.snap_call.specs.Forms.{is_key, is_parent, is_start, is_page, is_limit}
use Rattle.snap_call.specs.Good.{HasShortNames}
use Rattle.snap_call.specs.Kept.{has_namespace, has_snapshot, kept, kept_change, kept_new}
use Rattle.snap_call.specs.Records.{active_at, has_key, is_named, record_at, info_page, with_labels}
use Rattle.snap_call.specs.State.{has_name, is_taken, most_namespaces, place_of, with_namespace}
use Rattle.snap_call.specs.Step.{are_formed, at_record, commit_as, committed, counted, has_named, in_namespace, mounts, place_for, place_on, refused, relabelled_at, spacing, step, sweep_at, unless_refused, update_record}
use Rattle.snap_call.proofs.Parts.{namespace_create_as, namespace_remove_at, lease_add_record, lease_create_at, lease_drop_at, lease_release_at, prepare_at, remove_record, set_limit_at, view_at, commit}
use Rattle.snap_call.proofs.Leasing.{name_is, position-past}
use Rattle.snap_call.proofs.Indexed.{any-found_some}
use Rattle.snap_call.proofs.Lists.{find-passes, found-any}

-- ---- a text that is cut, or stays

-- what is cut stays as it is, or is malformed before and after
abbrev Stays : {A : Type 0} → (A → Bool) → (A → A) → A → Type 0
Stays formed cutter a = (cutter a ≡ a) ⊎ ((formed a ≡ false) × (formed (cutter a) ≡ false))

out_right : (a b : Bool) → b ≡ false → (a && b) ≡ false
out_right false b e = refl
out_right true b e = e

-- two of them, of which both have to be formed
both : {A B : Type 0} (f : A → Bool) (g : B → Bool) (c : A → A) (d : B → B) (a : A) (b : B) → Stays f c a → Stays g d b → Stays {A = A × B} (λ p. f p.0 && g p.1) (λ p. (c p.0, d p.1)) (a, b)
both f g c d a b (inl e) (inl h) = inl (ap (λ x. (x, d b)) e ∙ ap (λ y. (a, y)) h)
both f g c d a b (inr e) h = inr (ap (λ x. x && g b) e.0, ap (λ x. x && g (d b)) e.1)
both f g c d a b (inl e) (inr h) = inr (out_right (f a) (g b) h.0, out_right (f (c a)) (g (d b)) h.1)

-- one of them, with another condition
beside : {A : Type 0} (f : A → Bool) (c : A → A) (a : A) (other : Bool) → Stays f c a → Stays (λ x. f x && other) c a
beside f c a other (inl e) = inl e
beside f c a other (inr e) = inr (ap (λ x. x && other) e.0, ap (λ x. x && other) e.1)

-- one that need not be there
perhaps : {A : Type 0} (f : A → Bool) (c : A → A) → ((a : A) → Stays f c a) → (o : Option A) → Stays (λ x. option_map_or f x true) (option_map c) o
perhaps f c each None = inl refl
perhaps f c each (Some a) = by (each a)
  where
    by : Stays f c a → Stays (λ x. option_map_or f x true) (option_map c) (Some a)
    by (inl e) = inl (ap Some e)
    by (inr e) = inr e

-- what is made of it where it is formed, and else
formed_alike : {A X : Type 0} (f : A → Bool) (c : A → A) (a : A) → Stays f c a → (next : A → X) (x : X) → (if f (c a) then next (c a) else x) ≡ (if f a then next a else x)
formed_alike f c a (inl e) next x = ap (λ y. if f y then next y else x) e
formed_alike f c a (inr e) next x = ap (λ b. if b then next (c a) else x) e.1 ∙ sym (ap (λ b. if b then next a else x) e.0)

-- ---- texts and labels

text_stays : (most : ℕ) (bs : Bytes) → Stays (λ text. nat_le (length text) most) (cut most) bs
text_stays most bs = by (nat_le (length bs) most) refl
  where
    by : (short : Bool) → nat_le (length bs) most ≡ short → Stays (λ text. nat_le (length text) most) (cut most) bs
    by true e = let low : length bs ≤ most = grind (arith, nat_tests) in inl (cut_within most bs low)
    by false e =
        let high : most < length bs = grind (arith, nat_tests) in
        let above : most < length (cut most bs) = cut_above most bs high in
        inr (e, grind (arith, nat_tests))

-- of three conditions the second
out_middle : (a b c : Bool) → b ≡ false → (a && b && c) ≡ false
out_middle false b c e = refl
out_middle true b c e = ap (λ x. x && c) e

key_stays : (key : Bytes) → Stays is_key (cut 1024) key
key_stays key = by (text_stays 1024 key)
  where
    rest : Bytes → Bool
    rest text = not (list_any (λ b. b == 0) text)

    by : Stays (λ text. nat_le (length text) 1024) (cut 1024) key → Stays is_key (cut 1024) key
    by (inl e) = inl e
    by (inr e) = inr (out_middle (nat_le 1 (length key)) (nat_le (length key) 1024) (rest key) e.0, out_middle (nat_le 1 (length (cut 1024 key))) (nat_le (length (cut 1024 key)) 1024) (rest (cut 1024 key)) e.1)

-- a long parent is none
long_parent : (text : Bytes) → nat_le (length text) 1024 ≡ false → is_parent text ≡ false
long_parent [] e = absurd (cc)
long_parent (b ∷ bs) e = out_middle (nat_le 1 (length (b ∷ bs))) (nat_le (length (b ∷ bs)) 1024) (not (list_any (λ x. x == 0) (b ∷ bs))) e

parent_stays : (parent : Bytes) → Stays is_parent (cut 1024) parent
parent_stays parent = by (text_stays 1024 parent)
  where
    by : Stays (λ text. nat_le (length text) 1024) (cut 1024) parent → Stays is_parent (cut 1024) parent
    by (inl e) = inl e
    by (inr e) = inr (long_parent parent e.0, long_parent (cut 1024 parent) e.1)

-- a label that is malformed
label_out : (key value : Bytes) → 4096 < length key + length value → is_label (key, value) ≡ false
label_out key value high = out_right (nat_lt 0 (length key)) (nat_le (length key + length value) 4096) (grind (arith, nat_tests))

malformed_cut : (key value : Bytes) → is_label (key, value) ≡ false → is_label (cut 4096 key, cut 4096 value) ≡ false
malformed_cut key value bad = by (nat_le (length key) 4096) (nat_le (length value) 4096) refl refl
  where
    by : (a b : Bool) → nat_le (length key) 4096 ≡ a → nat_le (length value) 4096 ≡ b → is_label (cut 4096 key, cut 4096 value) ≡ false
    by false b e f =
        let high : 4096 < length key = grind (arith, nat_tests) in
        let above : 4096 < length (cut 4096 key) = cut_above 4096 key high in
        label_out (cut 4096 key) (cut 4096 value) (omega arith)
    by true false e f =
        let high : 4096 < length value = grind (arith, nat_tests) in
        let above : 4096 < length (cut 4096 value) = cut_above 4096 value high in
        label_out (cut 4096 key) (cut 4096 value) (omega arith)
    by true true e f =
        let first : length key ≤ 4096 = grind (arith, nat_tests) in
        let second : length value ≤ 4096 = grind (arith, nat_tests) in
        ap (λ k. is_label (k, cut 4096 value)) (cut_within 4096 key first) ∙ (ap (λ v. is_label (key, v)) (cut_within 4096 value second) ∙ bad)

-- the first that is malformed
malformed_found : {A : Type 0} (f : A → Bool) (xs : List A) (x : A) → find (λ y. not (f y)) xs ≡ Some x → (list_all f xs ≡ false) × (f x ≡ false)
malformed_found f [] x e = absurd (cc)
malformed_found {A} f (y ∷ ys) x e = by (f y) refl (malformed_found f ys x) e
  where
    by : (b : Bool) → f y ≡ b → (find (λ z. not (f z)) ys ≡ Some x → (list_all f ys ≡ false) × (f x ≡ false)) → (if not b then Some y else find (λ z. not (f z)) ys) ≡ Some x → ((b && list_all f ys) ≡ false) × (f x ≡ false)
    by true is rest e = rest e
    by false is rest e = let same : y ≡ x = cc in (refl, ap f (sym same) ∙ is)

none_malformed : {A : Type 0} (f : A → Bool) (xs : List A) → find (λ y. not (f y)) xs ≡ None → list_all f xs ≡ true
none_malformed f [] e = refl
none_malformed {A} f (y ∷ ys) e = by (f y) refl (none_malformed f ys) e
  where
    by : (b : Bool) → f y ≡ b → (find (λ z. not (f z)) ys ≡ None → list_all f ys ≡ true) → (if not b then Some y else find (λ z. not (f z)) ys) ≡ None → (b && list_all f ys) ≡ true
    by true is rest e = rest e
    by false is rest e = absurd (cc)

labels_stay : (labels : List Label) → Stays are_labels kept_labels labels
labels_stay labels = by (find (λ m. not (is_label m)) labels) refl
  where
    by : (o : Option Label) → find (λ m. not (is_label m)) labels ≡ o → (option_map_or cut_label o labels ≡ labels) ⊎ ((are_labels labels ≡ false) × (are_labels (option_map_or cut_label o labels) ≡ false))
    by None e = inl refl
    by (Some l) e =
        let found = malformed_found is_label labels l e in
        inr (ap (λ x. x && nat_le (length labels) 64) found.0, ap (λ x. x && true && true) (malformed_cut l.0 l.1 found.1))

-- malformed labels stay malformed
labels_malformed : (labels : List Label) → list_all is_label labels ≡ false → list_all is_label (kept_labels labels) ≡ false
labels_malformed labels bad = by (find (λ m. not (is_label m)) labels) refl
  where
    by : (o : Option Label) → find (λ m. not (is_label m)) labels ≡ o → list_all is_label (option_map_or cut_label o labels) ≡ false
    by None e = bad
    by (Some l) e = ap (λ x. x && true) (malformed_cut l.0 l.1 (malformed_found is_label labels l e).1)

-- ---- a path of an update, which is cut

starts_alike : (most : ℕ) (bs start : Bytes) → length start ≤ most → starts_with nat_eq (cut most bs) start ≡ starts_with nat_eq bs start
unfolding cut
starts_alike most [] start low = refl
starts_alike most (b ∷ bs) [] low = refl
starts_alike zero (b ∷ bs) (c ∷ cs) low = absurd (omega arith)
starts_alike (suc most) (b ∷ bs) (c ∷ cs) low = ap (λ x. nat_eq c b && x) (starts_alike most bs cs (omega arith))

not_whole : (path : Bytes) → 4103 < length path → is_whole path ≡ false
not_whole path long = false_from_ne_true (is_whole path) (λ same. let e : length path ≡ 6 = ap length ((bytes_eq-Decides path (codes "labels")).0 same) in absurd (omega arith))

named_long : (path : Bytes) → 4103 < length path → is_update_path path ≡ starts_with nat_eq path (codes "labels.")
named_long path long = ap (λ w. w || is_some (named_key path)) (not_whole path long) ∙ by (starts_with nat_eq path (codes "labels.")) (nat_lt 7 (length path)) (grind (arith, nat_tests))
  where
    by : (a b : Bool) → b ≡ true → is_some (if a && b then Some (drop 7 path) else None) ≡ a
    by true b e = ap (λ x. is_some (if x then Some (drop 7 path) else None)) e
    by false b e = refl

path_alike : (path : Bytes) → (is_whole (cut 4103 path) ≡ is_whole path) × (is_update_path (cut 4103 path) ≡ is_update_path path)
path_alike path = by (nat_le (length path) 4103) refl
  where
    by : (b : Bool) → nat_le (length path) 4103 ≡ b → (is_whole (cut 4103 path) ≡ is_whole path) × (is_update_path (cut 4103 path) ≡ is_update_path path)
    by true e =
        let low : length path ≤ 4103 = grind (arith, nat_tests) in
        (ap is_whole (cut_within 4103 path low), ap is_update_path (cut_within 4103 path low))
    by false e =
        let high : 4103 < length path = grind (arith, nat_tests) in
        let above : 4103 < length (cut 4103 path) = cut_above 4103 path high in (
          not_whole (cut 4103 path) above ∙ sym (not_whole path high),
          named_long (cut 4103 path) above ∙ (starts_alike 4103 path (codes "labels.") (omega arith) ∙ sym (named_long path high)),
        )

-- ---- the name of a namespace

unplaced : (name : Bytes) → 255 < length name → (ns : List Namespace) → AllByRecursion (λ n. length n.name ≤ 255) ns → place_of name ns ≡ None
unplaced name long [] short = refl
unplaced name long (n ∷ ns) short = position-past (has_name name) n ns other ∙ ap (option_map (λ k. suc k)) (unplaced name long ns short.1)
  where
    other : has_name name n ≡ false
    other = false_from_ne_true (has_name name n) (λ is. let e : length n.name ≡ length name = ap length (name_is name n is) in let low : length n.name ≤ 255 = short.0 in absurd (omega arith))

name_stays : (s : State) → HasShortNames s → (name : Bytes) → (cut 255 name ≡ name) ⊎ ((place_of name s.namespaces ≡ None) × (place_of (cut 255 name) s.namespaces ≡ None))
name_stays s short name = by (nat_le (length name) 255) refl
  where
    by : (b : Bool) → nat_le (length name) 255 ≡ b → (cut 255 name ≡ name) ⊎ ((place_of name s.namespaces ≡ None) × (place_of (cut 255 name) s.namespaces ≡ None))
    by true e = let low : length name ≤ 255 = grind (arith, nat_tests) in inl (cut_within 255 name low)
    by false e =
        let high : 255 < length name = grind (arith, nat_tests) in
        inr (unplaced name high s.namespaces short, unplaced (cut 255 name) (cut_above 255 name high) s.namespaces short)

-- nothing is there
none_of : {A : Type 0} (o : Option A) → is_some o ≡ false → o ≡ None
none_of None e = refl
none_of (Some a) e = absurd (true≢false e)

-- ---- calls

module _ (s : State) (short : HasShortNames s) where
  same_place : (name : Bytes) → place_of (cut 255 name) s.namespaces ≡ place_of name s.namespaces
  same_place name = by (name_stays s short name)
    where
      by : (cut 255 name ≡ name) ⊎ ((place_of name s.namespaces ≡ None) × (place_of (cut 255 name) s.namespaces ≡ None)) → place_of (cut 255 name) s.namespaces ≡ place_of name s.namespaces
      by (inl e) = ap (λ n. place_of n s.namespaces) e
      by (inr e) = e.1 ∙ sym e.0

  in_same : (name : Bytes) (next : Bytes → ℕ → State × Reply) → in_namespace s (cut 255 name) (next (cut 255 name)) ≡ in_namespace s name (next name)
  in_same name next = by (name_stays s short name)
    where
      by : (cut 255 name ≡ name) ⊎ ((place_of name s.namespaces ≡ None) × (place_of (cut 255 name) s.namespaces ≡ None)) → in_namespace s (cut 255 name) (next (cut 255 name)) ≡ in_namespace s name (next name)
      by (inl e) = ap (λ n. in_namespace s n (next n)) e
      by (inr e) =
          ap (λ o. option_map_or (next (cut 255 name)) o (refused s NoNamespace)) e.1
          ∙ sym (ap (λ o. option_map_or (next name) o (refused s NoNamespace)) e.0)

  -- a call on one key
  on_key : (name key : Bytes) (next : Bytes → Bytes → ℕ → State × Reply)
      → (if is_key (cut 1024 key) then in_namespace s (cut 255 name) (next (cut 255 name) (cut 1024 key)) else refused s BadArgument)
      ≡ (if is_key key then in_namespace s name (next name key) else refused s BadArgument)
  on_key name key next =
      ap (λ x. if is_key (cut 1024 key) then x else refused s BadArgument) (in_same name (λ n. next n (cut 1024 key)))
      ∙ formed_alike is_key (cut 1024) key (key_stays key) (λ k. in_namespace s name (next name k)) (refused s BadArgument)

  -- a call on two
  on_keys : (name lease key : Bytes) (next : Bytes → Bytes → Bytes → ℕ → State × Reply)
      → (if is_key (cut 1024 lease) && is_key (cut 1024 key) then in_namespace s (cut 255 name) (next (cut 255 name) (cut 1024 lease) (cut 1024 key)) else refused s BadArgument)
      ≡ (if is_key lease && is_key key then in_namespace s name (next name lease key) else refused s BadArgument)
  on_keys name lease key next =
      ap (λ x. if is_key (cut 1024 lease) && is_key (cut 1024 key) then x else refused s BadArgument) (in_same name (λ n. next n (cut 1024 lease) (cut 1024 key)))
      ∙ formed_alike {A = Bytes × Bytes} (λ p. is_key p.0 && is_key p.1) (λ p. (cut 1024 p.0, cut 1024 p.1)) (lease, key)
      (both is_key is_key (cut 1024) (cut 1024) lease key (key_stays lease) (key_stays key))
      (λ p. in_namespace s name (next name p.0 p.1)) (refused s BadArgument)

  -- a new snapshot
  made : (name key parent : Bytes) (labels : List Label) (next : Bytes → Bytes → List Label → ℕ → State × Reply)
      → unless_refused s (place_for s (cut 255 name) (cut 1024 key) (cut 1024 parent) (kept_labels labels)) (next (cut 1024 key) (cut 1024 parent) (kept_labels labels))
      ≡ unless_refused s (place_for s name key parent labels) (next key parent labels)
  made name key parent labels next =
      ap (λ o. unless_refused s (if is_key (cut 1024 key) && is_parent (cut 1024 parent) && are_labels (kept_labels labels) then option_map_or (λ place. place_on s.ancestors place (cut 1024 key) (cut 1024 parent) s.records) o (Err NoNamespace) else Err BadArgument) (next (cut 1024 key) (cut 1024 parent) (kept_labels labels))) (same_place name)
      ∙ by (both (λ p. is_key p.0 && is_parent p.1) are_labels (λ p. (cut 1024 p.0, cut 1024 p.1)) kept_labels (key, parent) labels (both is_key is_parent (cut 1024) (cut 1024) key parent (key_stays key) (parent_stays parent)) (labels_stay labels))
    where
      by : Stays {A = (Bytes × Bytes) × List Label} (λ p. is_key p.0.0 && is_parent p.0.1 && are_labels p.1) (λ p. ((cut 1024 p.0.0, cut 1024 p.0.1), kept_labels p.1)) ((key, parent), labels)
          → unless_refused s (place_for s name (cut 1024 key) (cut 1024 parent) (kept_labels labels)) (next (cut 1024 key) (cut 1024 parent) (kept_labels labels))
          ≡ unless_refused s (place_for s name key parent labels) (next key parent labels)
      by (inl e) = ap (λ p. unless_refused s (place_for s name p.0.0 p.0.1 p.1) (next p.0.0 p.0.1 p.1)) e
      by (inr e) =
          ap (λ b. unless_refused s (if b then option_map_or (λ place. place_on s.ancestors place (cut 1024 key) (cut 1024 parent) s.records) (place_of name s.namespaces) (Err NoNamespace) else Err BadArgument) (next (cut 1024 key) (cut 1024 parent) (kept_labels labels))) e.1
          ∙ sym (ap (λ b. unless_refused s (if b then option_map_or (λ place. place_on s.ancestors place key parent s.records) (place_of name s.namespaces) (Err NoNamespace) else Err BadArgument) (next key parent labels)) e.0)

  -- whose labels go without its namespace
  made_new : (name key parent : Bytes) (labels : List Label) (next : Bytes → Bytes → List Label → ℕ → State × Reply)
      → unless_refused s (place_for s (cut 255 name) (cut 1024 key) (cut 1024 parent) (kept_new (has_namespace s name) labels)) (next (cut 1024 key) (cut 1024 parent) (kept_new (has_namespace s name) labels))
      ≡ unless_refused s (place_for s name key parent labels) (next key parent labels)
  made_new name key parent labels next = by (has_namespace s name) (are_labels labels) refl refl
    where
      after : List Label → State × Reply
      after given = unless_refused s (place_for s (cut 255 name) (cut 1024 key) (cut 1024 parent) given) (next (cut 1024 key) (cut 1024 parent) given)

      out : (given : List Label) → place_of name s.namespaces ≡ None → are_labels given ≡ true → unless_refused s (place_for s name key parent given) (next key parent given) ≡ refused s (if is_key key && is_parent parent && true then NoNamespace else BadArgument)
      out given none are =
          ap (λ o. unless_refused s (if is_key key && is_parent parent && are_labels given then option_map_or (λ place. place_on s.ancestors place key parent s.records) o (Err NoNamespace) else Err BadArgument) (next key parent given)) none
          ∙ (ap (λ b. unless_refused s (if is_key key && is_parent parent && b then Err NoNamespace else Err BadArgument) (next key parent given)) are
          ∙ either (is_key key && is_parent parent && true))
        where
          either : (b : Bool) → unless_refused s (if b then Err NoNamespace else Err BadArgument) (next key parent given) ≡ refused s (if b then NoNamespace else BadArgument)
          either true = refl
          either false = refl

      by : (there are : Bool) → has_namespace s name ≡ there → are_labels labels ≡ are → after (if there || not are then kept_labels labels else []) ≡ unless_refused s (place_for s name key parent labels) (next key parent labels)
      by true are e f = made name key parent labels next
      by false false e f = made name key parent labels next
      by false true e f =
          let none : place_of name s.namespaces ≡ None = none_of (place_of name s.namespaces) e in
          made name key parent [] next ∙ (out [] none refl ∙ sym (out labels none f))

  -- a commit
  committed_alike : (slot : ℕ) (name : Bytes) (lease : Option Bytes) (labels : Option (List Label)) (layer : Tree) (o : Option Record)
      → commit_as s slot (cut 1024 name) (option_map (cut 1024) lease) (option_map kept_labels labels) layer o ≡ commit_as s slot name lease labels layer o
  committed_alike slot name lease labels layer None = refl
  committed_alike slot name lease labels layer (Some r) =
      formed_alike {A = (Bytes × Option Bytes) × Option (List Label)} (λ p. are_formed p.0.0 p.0.1 p.1) (λ p. ((cut 1024 p.0.0, option_map (cut 1024) p.0.1), option_map kept_labels p.1)) ((name, lease), labels)
      (both (λ p. is_key p.0 && option_map_or is_key p.1 true) (λ x. option_map_or are_labels x true) (λ p. (cut 1024 p.0, option_map (cut 1024) p.1)) (option_map kept_labels) (name, lease) labels
      (both is_key (λ x. option_map_or is_key x true) (cut 1024) (option_map (cut 1024)) name lease (key_stays name) (perhaps is_key (cut 1024) key_stays lease))
      (perhaps are_labels kept_labels labels_stay labels))
      (λ p. if has_key r.namespace p.0.0 s.records then refused s AlreadyExists else if has_named s r.namespace p.0.1 then committed s slot p.0.0 p.0.1 p.1 layer r else refused s NoLease)
      (refused s BadArgument)

  commit_alike : (slot : ℕ) (name : Bytes) (lease : Option Bytes) (labels : Option (List Label)) (given : Given)
      → commit s slot (cut 1024 name) (option_map (cut 1024) lease) (option_map kept_labels labels) given ≡ commit s slot name lease labels given
  commit_alike slot name lease labels (Layer layer) = committed_alike slot name lease labels layer (active_at slot s.records)
  commit_alike slot name lease labels Nothing = refl
  commit_alike slot name lease labels (Count now) = refl

  -- an update
  abbrev looked : Bytes → Bytes → List Label × List Bytes → State × Reply
  looked name key given = step s (calls.Update name key given.0 given.1) Nothing

  abbrev formed : List Label × List Bytes → Bool
  formed given = is_well_formed given.0 given.1

  malformed : (name key : Bytes) (given : List Label × List Bytes) → formed given ≡ false → looked name key given ≡ refused s BadArgument
  malformed name key given e =
      ap (λ b. if b then at_record s name key (update_record s key given.0 given.1) else refused s BadArgument) (out_right (is_key key) (formed given) e)

  -- of a snapshot that isn't there
  absent : (name key : Bytes) (next : ℕ → Record → State × Reply) → has_snapshot s name key ≡ false → at_record s name key next ≡ in_namespace s name (λ place. refused s NotFound)
  absent name key next none = by (place_of name s.namespaces) none
    where
      by : (o : Option ℕ) → option_map_or (λ place. has_key place key s.records) o false ≡ false → option_map_or (λ place. option_map_or (next place) (record_at place key s.records) (refused s NotFound)) o (refused s NoNamespace) ≡ option_map_or (λ place. refused s NotFound) o (refused s NoNamespace)
      by None e = refl
      by (Some place) e = ap (λ r. option_map_or (next place) r (refused s NotFound)) (none_of (record_at place key s.records) (sym (any-found_some (is_named place key) s.records) ∙ e))

  unsought : (name key : Bytes) (given : List Label × List Bytes) → has_snapshot s name key ≡ false → formed given ≡ true → looked name key given ≡ (if is_key key && true then in_namespace s name (λ place. refused s NotFound) else refused s BadArgument)
  unsought name key given none is =
      ap (λ w. if is_key key && w then at_record s name key (update_record s key given.0 given.1) else refused s BadArgument) is
      ∙ ap (λ x. if is_key key && true then x else refused s BadArgument) (absent name key (update_record s key given.0 given.1) none)

  -- which replaces all
  abbrev whole_at : Bytes → Bytes → List Label → Bool → Bool → List Bytes → State × Reply
  whole_at name key labels paths all named =
      if is_key key && ((list_all is_label labels && paths) && (if all then nat_le (length labels) 64 else true))
      then at_record s name key (λ place r.
      let after = (if all then labels else with_named r.labels labels named) in
      if (list_all is_label labels && paths) && nat_le (length after) 64
      then (relabelled_at s place key after, Info (info_of (with_labels after (s.entries + 1) r)))
      else refused s BadArgument)
      else refused s BadArgument

  replaced : (name key : Bytes) (labels : List Label) (ps qs : List Bytes) → list_all is_update_path ps ≡ list_all is_update_path qs → replaces_all ps ≡ true → replaces_all qs ≡ true → looked name key (labels, ps) ≡ looked name key (labels, qs)
  replaced name key labels ps qs same all both =
      ap (λ b. whole_at name key labels (list_all is_update_path ps) b (named_keys ps)) all
      ∙ (ap (λ f. whole_at name key labels f true (named_keys qs)) same
      ∙ sym (ap (λ b. whole_at name key labels (list_all is_update_path qs) b (named_keys qs)) both))

  -- whose paths are well-formed
  formed_update : (name key : Bytes) (labels : List Label) (paths : List Bytes) → list_all is_update_path paths ≡ true
      → looked name key (if replaces_all paths then (labels, option_map_or cut_path (find is_whole paths) []) else (labels, paths)) ≡ looked name key (labels, paths)
  formed_update name key labels [] each = refl
  formed_update name key labels (p ∷ ps) each = by (list_any is_whole (p ∷ ps)) refl
    where
      paths : List Bytes
      paths = p ∷ ps

      by_found : (o : Option Bytes) → find is_whole paths ≡ o → list_any is_whole paths ≡ true → looked name key (labels, option_map_or cut_path o []) ≡ looked name key (labels, paths)
      by_found None e some = let found = found-any is_whole paths some in absurd (let bad : ◌≡◌ {A = Option Bytes} None (Some found.0) = sym e ∙ found.1 in cc)
      by_found (Some q) e some =
          let whole : is_whole q ≡ true = find-passes is_whole paths q e in
          let form : is_update_path q ≡ true = ap (λ w. w || is_some (named_key q)) whole in
          replaced name key labels (cut_path q) paths
          (ap (λ f. f && true) ((path_alike q).1 ∙ form) ∙ sym each)
          (ap (λ w. w || false) ((path_alike q).0 ∙ whole))
          some

      by : (b : Bool) → list_any is_whole paths ≡ b → looked name key (if b then (labels, option_map_or cut_path (find is_whole paths) []) else (labels, paths)) ≡ looked name key (labels, paths)
      by true e = by_found (find is_whole paths) refl e
      by false e = refl

  kept_alike : (name key : Bytes) (labels : List Label) (paths : List Bytes) → looked name key (kept_update labels paths) ≡ looked name key (labels, paths)
  kept_alike name key labels paths = by (list_all is_label labels) refl
    where
      many : List Label → List Bytes → Bool
      many given named = if replaces_all named then nat_le (length given) 64 else true

      by_path : (o : Option Bytes) → find (λ p. not (is_update_path p)) paths ≡ o
          → looked name key (option_map_or (λ p. ([], cut_path p)) o (if replaces_all paths then (labels, option_map_or cut_path (find is_whole paths) []) else (labels, paths))) ≡ looked name key (labels, paths)
      by_path None e = formed_update name key labels paths (none_malformed is_update_path paths e)
      by_path (Some p) e =
          let found = malformed_found is_update_path paths p e in
          malformed name key ([], cut_path p) (ap (λ f. (true && (f && true)) && many [] (cut_path p)) ((path_alike p).1 ∙ found.1))
          ∙ sym (malformed name key (labels, paths) (ap (λ f. (list_all is_label labels && f) && many labels paths) found.0 ∙ ap (λ f. f && many labels paths) (out_right (list_all is_label labels) false refl)))

      by : (b : Bool) → list_all is_label labels ≡ b → looked name key (if b then kept_by_paths labels paths else (kept_labels labels, [])) ≡ looked name key (labels, paths)
      by true e = by_path (find (λ p. not (is_update_path p)) paths) refl
      by false e =
          malformed name key (kept_labels labels, []) (ap (λ f. (f && true) && nat_le (length (kept_labels labels)) 64) (labels_malformed labels e))
          ∙ sym (malformed name key (labels, paths) (ap (λ f. (f && list_all is_update_path paths) && many labels paths) e))

  change_alike : (name key : Bytes) (labels : List Label) (paths : List Bytes) → looked name key (kept_change (has_snapshot s name key) labels paths) ≡ looked name key (labels, paths)
  change_alike name key labels paths = by (has_snapshot s name key) (is_well_formed labels paths) refl refl
    where
      by : (there formed : Bool) → has_snapshot s name key ≡ there → is_well_formed labels paths ≡ formed → looked name key (if there || not formed then kept_update labels paths else ([], [])) ≡ looked name key (labels, paths)
      by true w e f = kept_alike name key labels paths
      by false false e f = kept_alike name key labels paths
      by false true e f = unsought name key ([], []) e refl ∙ sym (unsought name key (labels, paths) e f)

  updated_alike : (name key : Bytes) (given : List Label × List Bytes) → looked (cut 255 name) (cut 1024 key) given ≡ looked name key given
  updated_alike name key given =
      ap (λ x. if is_key (cut 1024 key) && formed given then x else refused s BadArgument) (in_same name (λ n place. option_map_or (update_record s (cut 1024 key) given.0 given.1 place) (record_at place (cut 1024 key) s.records) (refused s NotFound)))
      ∙ formed_alike (λ k. is_key k && formed given) (cut 1024) key (beside is_key (cut 1024) key (formed given) (key_stays key))
      (λ k. at_record s name k (update_record s k given.0 given.1)) (refused s BadArgument)

  -- a walk
  walked_alike : (name after : Bytes) (most : ℕ) (asked : Filter)
      → step s (calls.Walk (cut 255 name) (cut 1024 after) most asked) Nothing ≡ step s (calls.Walk name after most asked) Nothing
  walked_alike name after most asked =
      ap (λ x. if is_start (cut 1024 after) && is_page most then x else refused s BadArgument) (in_same name (λ n place. (counted s, Page (info_page place (cut 1024 after) most asked s.records))))
      ∙ formed_alike (λ a. is_start a && is_page most) (cut 1024) after (beside is_start (cut 1024) after (is_page most) (text_stays 1024 after))
      (λ a. in_namespace s name (λ place. (counted s, Page (info_page place a most asked s.records)))) (refused s BadArgument)

  -- whose filter isn't looked at
  asked_alike : (name after : Bytes) (most : ℕ) (asked : Filter)
      → step s (calls.Walk name after most (if is_start after && is_page most && has_namespace s name then asked else no_filter)) Nothing ≡ step s (calls.Walk name after most asked) Nothing
  asked_alike name after most asked = by (is_start after && is_page most) (has_namespace s name) refl refl
    where
      paged : Filter → State × Reply
      paged filter = in_namespace s name (λ place. (counted s, Page (info_page place after most filter s.records)))

      out : place_of name s.namespaces ≡ None → (filter : Filter) → paged filter ≡ refused s NoNamespace
      out none filter = ap (λ o. option_map_or (λ place. (counted s, Page (info_page place after most filter s.records))) o (refused s NoNamespace)) none

      by : (b n : Bool) → (is_start after && is_page most) ≡ b → has_namespace s name ≡ n → step s (calls.Walk name after most (if b && n then asked else no_filter)) Nothing ≡ step s (calls.Walk name after most asked) Nothing
      by true true e f = refl
      by true false e f =
          let none : place_of name s.namespaces ≡ None = none_of (place_of name s.namespaces) f in
          ap (λ x. if is_start after && is_page most then x else refused s BadArgument) (out none no_filter ∙ sym (out none asked))
      by false n e f = ap (λ b. if b then paged no_filter else refused s BadArgument) e ∙ sym (ap (λ b. if b then paged asked else refused s BadArgument) e)

  -- a new namespace
  spaced_alike : (name : Bytes) (limit : Usage) → namespace_create_as s (record { name = cut 255 name; limit = limit }) ≡ namespace_create_as s (record { name = name; limit = limit })
  spaced_alike name limit = by (nat_le (length name) 255) refl
    where
      long : (bs : Bytes) → 255 < length bs → namespace_create_as s (record { name = bs; limit = limit }) ≡ refused s BadArgument
      long bs high =
          let over : nat_le (length bs) 255 ≡ false = grind (arith, nat_tests) in
          ap (λ b. if (((nat_le 1 (length bs) && b) && not (list_any (λ x. x == 0) bs)) && is_limit limit) then made_as bs else refused s BadArgument) over
          ∙ by_first (nat_le 1 (length bs))
        where
          made_as : Bytes → State × Reply
          made_as bs = if is_some (place_of bs s.namespaces) then refused s NamespaceExists else if nat_lt (count_by is_taken s.namespaces) most_namespaces then (spacing s (with_namespace (record { name = bs; limit = limit }) s.namespaces), Done) else refused s TooManyNamespaces

          by_first : (b : Bool) → (if (((b && false) && not (list_any (λ x. x == 0) bs)) && is_limit limit) then made_as bs else refused s BadArgument) ≡ refused s BadArgument
          by_first true = refl
          by_first false = refl

      by : (b : Bool) → nat_le (length name) 255 ≡ b → namespace_create_as s (record { name = cut 255 name; limit = limit }) ≡ namespace_create_as s (record { name = name; limit = limit })
      by true e = let low : length name ≤ 255 = grind (arith, nat_tests) in ap (λ n. namespace_create_as s (record { name = n; limit = limit })) (cut_within 255 name low)
      by false e = let high : 255 < length name = grind (arith, nat_tests) in long (cut 255 name) (cut_above 255 name high) ∙ sym (long name high)

  -- each call
  pub step_kept : (call : Call) (given : Given) → step s (kept s call) given ≡ step s call given
  step_kept calls.Session given = refl
  step_kept (calls.Prepare namespace key parent labels) given = made_new namespace key parent labels (prepare_at s)
  step_kept (calls.Charge slot id need want) given = refl
  step_kept (calls.Trim slot id) given = refl
  step_kept (calls.Commit slot id name lease labels) given = commit_alike slot name lease labels given
  step_kept (calls.Discard slot id) given = refl
  step_kept (calls.Stat namespace key) given = on_key namespace key (λ n k place. option_map_or (λ r. (counted s, Info (info_of r))) (record_at place k s.records) (refused s NotFound))
  step_kept (calls.Usage namespace key) given = on_key namespace key (λ n k place. option_map_or (λ r. (counted s, UsageReply (usage_of r.content))) (record_at place k s.records) (refused s NotFound))
  step_kept (calls.Mounts namespace key) given = on_key namespace key (λ n k place. option_map_or (λ r. (counted s, mounts s r)) (record_at place k s.records) (refused s NotFound))
  step_kept (calls.View namespace key parent labels) given = made_new namespace key parent labels (view_at s)
  step_kept (calls.Remove namespace key) given = on_key namespace key (λ n k place. option_map_or (remove_record s n k place) (record_at place k s.records) (refused s NotFound))
  step_kept (calls.Update namespace key labels paths) given =
      updated_alike namespace key (kept_change (has_snapshot s namespace key) labels paths) ∙ change_alike namespace key labels paths
  step_kept (calls.Walk namespace after most asked) given =
      walked_alike namespace after most (if is_start after && is_page most && has_namespace s namespace then asked else no_filter) ∙ asked_alike namespace after most asked
  step_kept (calls.SetLimit namespace limit) given = ap (λ x. if is_limit limit then x else refused s BadArgument) (in_same namespace (λ n. set_limit_at s limit))
  step_kept (calls.NamespaceCreate namespace limit) given = spaced_alike namespace limit
  step_kept (calls.NamespaceRemove namespace) given = in_same namespace (λ n. namespace_remove_at s n)
  step_kept (calls.LeaseCreate namespace lease until) given = on_key namespace lease (λ n l place. lease_create_at s n l until)
  step_kept (calls.LeaseAdd namespace lease name) given = on_keys namespace lease name (λ n l k place. option_map_or (lease_add_record s n l k) (record_at place k s.records) (refused s NotFound))
  step_kept (calls.LeaseDrop namespace lease name) given = on_keys namespace lease name (λ n l k place. lease_drop_at s n l k)
  step_kept (calls.LeaseRelease namespace lease) given = on_key namespace lease (λ n l place. lease_release_at s n l)
  step_kept (calls.Sweep namespace moment) given = in_same namespace (λ n. sweep_at s n moment)
