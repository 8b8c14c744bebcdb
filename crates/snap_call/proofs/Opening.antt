-- What a store can be opened with: a saved one, whose places may be free, with all that a new one can.
use Rattle.std.proofs.Common.{◌≡◌, inl, inr, ◌≤◌, Bool, true, false, List, [], ◌∷◌, length, refl, arith}
use Rattle.std.specs.List.{list_all, list_any}
use Rattle.std.specs.Prelude.{◌&&◌, ◌==◌, nat_le, not}
use Rattle.std.proofs.lemmas.Bool.{and_from, and_parts, eqb-true, not-true, or_cases, or_left}
use Rattle.std.proofs.lemmas.Bool.Decides.{nat_tests}
use Rattle.snap_mount.specs.Mounts.{is_root_text}
use Rattle.snap_call.specs.declared.config.Config.{Config}
use Rattle.snap_call.specs.declared.config.Namespace.{Namespace}
use Rattle.snap_call.specs.Forms.{is_config, is_config_with, is_limit, is_namespace, is_saved_config, is_space, is_text, are_spaces_by, have_distinct_names}
use Rattle.snap_call.specs.Namespaces.{is_taken, most_namespaces}

-- no namespace and no limit
abbrev is_vacant : Namespace → Bool
is_vacant n = not (is_taken n) && (n.limit.blocks == 0) && (n.limit.inodes == 0)

module _ (n : Namespace) (space : is_space n ≡ true) where
  -- its limit is one
  pub space_limit : is_limit n.limit ≡ true
  space_limit = elim (or_cases (is_namespace n) (is_vacant n) space) [
    | inl is ↦ (and_parts (is_text 255 n.name) (is_limit n.limit) is).1
    | inr none ↦ unlimited none
  ]
    where
      unlimited : is_vacant n ≡ true → is_limit n.limit ≡ true
      unlimited none =
          let both = and_parts (not (is_taken n) && (n.limit.blocks == 0)) (n.limit.inodes == 0) none in
          let blocks : n.limit.blocks ≡ 0 = eqb-true n.limit.blocks 0 (and_parts (not (is_taken n)) (n.limit.blocks == 0) both.0).1 in
          let inodes : n.limit.inodes ≡ 0 = eqb-true n.limit.inodes 0 both.1 in
          λ i. nat_le (blocks i) 1099511627776 && nat_le (inodes i) 1099511627776

  -- its name has at most 255 bytes
  pub space_short : length n.name ≤ 255
  space_short = elim (or_cases (is_namespace n) (is_vacant n) space) [
    | inl is ↦ named is
    | inr none ↦ unnamed none
  ]
    where
      named : is_namespace n ≡ true → length n.name ≤ 255
      named is =
          let text = (and_parts (is_text 255 n.name) (is_limit n.limit) is).0 in
          let parts = and_parts (nat_le 1 (length n.name) && nat_le (length n.name) 255) (not (list_any (λ b. b == 0) n.name)) text in
          let low : nat_le (length n.name) 255 ≡ true = (and_parts (nat_le 1 (length n.name)) (nat_le (length n.name) 255) parts.0).1 in
          grind (arith, nat_tests)

      unnamed : is_vacant n ≡ true → length n.name ≤ 255
      unnamed none =
          let both = and_parts (not (is_taken n) && (n.limit.blocks == 0)) (n.limit.inodes == 0) none in
          let out : nat_le 1 (length n.name) ≡ false = not-true (is_taken n) (and_parts (not (is_taken n)) (n.limit.blocks == 0) both.0).0 in
          grind (arith, nat_tests)

-- a namespace can stand at a place
spaces_from : (ns : List Namespace) → list_all is_namespace ns ≡ true → list_all is_space ns ≡ true
spaces_from [] all = refl
spaces_from (n ∷ ns) all =
    let h = and_parts (is_namespace n) (list_all is_namespace ns) all in
    and_from (is_space n) (list_all is_space ns) (or_left (is_namespace n) (is_vacant n) h.0) (spaces_from ns h.1)

-- what is well-formed with one answer on the namespaces is so with another that follows from it
weaker : (a b : Bool) (c : Config) → (a ≡ true → b ≡ true) → is_config_with a c ≡ true → is_config_with b c ≡ true
weaker true true c follows e = e
weaker true false c follows e = absurd (cc (follows refl))
weaker false b c follows e = absurd (never (is_root_text c.root) e)
  where
    never : (root : Bool) → (root && false) ≡ true → ⊥
    never true e = cc
    never false e = cc

pub saved_config : (c : Config) → is_config c ≡ true → is_saved_config c ≡ true
saved_config c = weaker (are_spaces_by is_namespace c.namespaces) (are_spaces_by is_space c.namespaces) c follows
  where
    follows : are_spaces_by is_namespace c.namespaces ≡ true → are_spaces_by is_space c.namespaces ≡ true
    follows e =
        let each = list_all is_namespace c.namespaces in
        let few = nat_le (length c.namespaces) most_namespaces in
        let h = and_parts (each && few) (have_distinct_names c.namespaces) e in
        let formed = and_parts each few h.0 in
        and_from (list_all is_space c.namespaces && few) (have_distinct_names c.namespaces) (and_from (list_all is_space c.namespaces) few (spaces_from c.namespaces formed.0) formed.1) h.1
