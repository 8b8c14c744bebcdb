-- A world that is restored from what is saved of it is that world, rolled.
use Rattle.std.proofs.Common.{◌≡◌, ◌≢◌, ℕ, zero, suc, ◌+◌, ◌<◌, ◌≤◌, ◌^◌, Bool, true, false, true≢false, cond, eqb, List, [], ◌∷◌, ◌++◌, length, map, replicate, Option, None, Some, IsSome, eq-eqb, refl, sym, ap, ◌∙◌, subst, ⊎_elim, arith, length-set}
use Rattle.std.specs.Prelude.{filter, find, max, if◌then◌else◌, nat_le, nat_lt, ◌&&◌, not, Result, Ok, Err}
use Rattle.std.specs.List.{AllByRecursion, list_all}
use Rattle.std.specs.Option.{option_map}
use Rattle.std.specs.Result.{result_and}
use Rattle.std.proofs.lemmas.Bool.{and_from, le-leb, le-ltb, ltb-false}
use Rattle.std.proofs.lemmas.Bool.Decides.{eqb_tells}
use Rattle.std.proofs.lemmas.List.{append-nil, ext_get_or, length-replicate, map-append}
use Rattle.snap_usage.specs.declared.usage.Usage.{Usage}
use Rattle.snap_usage.specs.Counted.{Covers, count_of, covers}
use Rattle.snap_record.specs.Records.{usage_of}
use Rattle.snap_record.specs.declared.record.Content.{Content}
use Rattle.snap_record.specs.declared.record.Content.TheVariants as contents
use Rattle.snap_record.specs.declared.record.Record.{Record}
use Rattle.snap_call.specs.declared.config.Config.{Config}
use Rattle.snap_call.specs.declared.config.ConfigField.{ConfigField}
use Rattle.snap_call.specs.declared.refusal.Refusal.{Refusal}
use Rattle.snap_call.specs.declared.refusal.Refusal.TheVariants.{BadArgument, NumbersSpent}
use Rattle.snap_call.specs.declared.saved.Saved.{Saved}
use Rattle.snap_call.specs.declared.saved.SavedContent.{SavedContent}
use Rattle.snap_call.specs.declared.saved.SavedContent.TheVariants as saved_kinds
use Rattle.snap_call.specs.declared.state.State.{State}
use Rattle.snap_call.specs.Forms.{are_spaces_by, bad_saved_field, config_fields, has_form, is_saved_config, is_slots, is_space}
use Rattle.snap_call.specs.Good.{Good}
use Rattle.snap_call.specs.Records.{active_at, has_slot, is_slot, max_journal, max_slots, most_ancestors, with_record}
use Rattle.snap_call.specs.Results.{◌>>=◌}
use Rattle.snap_call.specs.Saved.{by_id, CanPutBack, has_id, IsChargedOne, saved_content, saved_of, saved_records, tests_answer}
use Rattle.snap_call.specs.State.{ancestors, layers_of, most_namespaces, opening}
use Rattle.snap_call.specs.Step.{must, one}
use Rattle.snap_call.proofs.Back.{can_again, its_forms, its_id, put_next}
use Rattle.snap_call.proofs.BackLeases.{put_leases_back}
use Rattle.snap_call.proofs.Chains.{IsRising, chain, keeps-ancestors}
use Rattle.snap_call.proofs.Joined.{filter-none}
use Rattle.snap_call.proofs.Keeping.{good_chains, good_counters}
use Rattle.snap_call.proofs.Kept.{good_opening}
use Rattle.snap_call.proofs.Lists.{all-both, all-each, all-map, find-all, find-none}
use Rattle.snap_call.proofs.Older.{IsOlder, finds-active, keeps_older, older, older-all, older-more, older-none, older-zero, on_older, one_of_id}
use Rattle.snap_call.proofs.Passing.{Covers-covers}
use Rattle.snap_call.proofs.Saving.{free_slot, good_saved, low_slot}
use Rattle.snap_call.proofs.Slots.{Active-is_slot, active_at-with_record_other, active_at-with_record_own, is_slot-other}
use Rattle.snap_book.specs.Round.{next_round, roll_answer}
use Rattle.snap_world.specs.declared.fault.RestoreFault.TheVariants as faults
use Rattle.snap_world.specs.declared.restoring.SavedHand.{SavedHand}
use Rattle.snap_world.specs.declared.save.SavedSnapshot.{SavedSnapshot}
use Rattle.snap_world.specs.Restored.{put_leases_from, put_snapshots_from, restored, saved_config, saved_world}
use Rattle.snap_world.specs.Round.{reopened}
use Rattle.snap_world.specs.Saved.{RestoringValue, faulted, finish_answer, hand_answer, hands_after, head_answer, open_answer, opened_with, put_snapshot, restored_hand, saved_hand, saved_snapshot}
use Rattle.snap_world.specs.World.{AgreesAt, Fits, HandValue, IsHandOf, WorldValue, hand_at, with_hand}
use Rattle.snap_world.proofs.InTurn.{leases_saved, no_snapshots, one_snapshot, past_end, past_leases, past_open, past_snapshots, snapshots_after}
use Rattle.snap_world.proofs.Opened.{no_hand}
use Rattle.snap_world.proofs.Places.{hand_at-other, hand_at-own}
use Rattle.snap_world.proofs.Whole.{HasRoot}

-- ---- what holds of each saved record holds of each record

module _ {X Y : Type 0} (f : X → Y) (P : Y → Type 0) where
  all-of_map : (xs : List X) → AllByRecursion P (map f xs) → AllByRecursion (λ x. P (f x)) xs
  all-of_map [] all = tt
  all-of_map (x ∷ xs) all = (all.0, all-of_map xs all.1)

module _ (P : Record → Type 0) where
  parts : (xs ys : List Record) → AllByRecursion P (xs ++ ys) → AllByRecursion P xs × AllByRecursion P ys
  parts [] ys all = (tt, all)
  parts (x ∷ xs) ys all = let rest = parts xs ys all.1 in ((all.0, rest.0), rest.1)

  of_this_id : (n : ℕ) (rs : List Record) → AllByRecursion P (filter (has_id n) rs) → AllByRecursion (λ r. r.id ≡ n → P r) rs
  of_this_id n [] all = tt
  of_this_id n (r ∷ rs) all = by (has_id n r) refl (of_this_id n rs) all
    where
      by : (b : Bool) → has_id n r ≡ b → (AllByRecursion P (filter (has_id n) rs) → AllByRecursion (λ t. t.id ≡ n → P t) rs) → AllByRecursion P (cond b (r ∷ filter (has_id n) rs) (filter (has_id n) rs)) → (r.id ≡ n → P r) × AllByRecursion (λ t. t.id ≡ n → P t) rs
      by true is next all = (λ e. all.0, next all.1)
      by false is next all = (λ e. absurd (true≢false (sym (eq-eqb r.id n e) ∙ is)), next all)

  of_ids_below : (n : ℕ) (rs : List Record) → AllByRecursion P (by_id n rs) → AllByRecursion (λ r. r.id < n → P r) rs
  unfolding by_id
  of_ids_below zero rs all = all-each (λ r. r.id < 0 → P r) (λ r low. absurd (omega (arith, low))) rs
  of_ids_below (suc n) rs all =
      let both = parts (by_id n rs) (filter (has_id n) rs) all in
      all-map (λ r. (r.id < n → P r) × (r.id ≡ n → P r)) (λ r. r.id < suc n → P r) by rs
      (all-both (λ r. r.id < n → P r) (λ r. r.id ≡ n → P r) rs (of_ids_below n rs both.0) (of_this_id n rs both.1))
    where
      by : (r : Record) → (r.id < n → P r) × (r.id ≡ n → P r) → r.id < suc n → P r
      by r h low = ⊎_elim (λ (e : (eqb r.id n ≡ true) × (r.id ≡ n)). h.1 e.1) (λ (e : (eqb r.id n ≡ false) × (r.id ≢ n)). let ne : r.id ≢ n = e.1 in h.0 (omega (arith, low, ne))) (eqb_tells r.id n)

-- ---- each active snapshot is charged at least 1/1

module _ (w : WorldValue) (fits : Fits w) where
  -- the layer of the record's hand has a root
  abbrev IsRooted : Record → Type 0
  IsRooted r = HasRoot (saved_hand (saved_content r.content) w.hands)

  -- what a hand is charged covers its layer, and so its root
  hand_charged : (slot : ℕ) (u : Usage) (r : Record) → r.content ≡ contents.Active slot u → (o : Option HandValue) → AgreesAt slot w.state.records o (Some r) → HasRoot (option_map (λ h. record { layer = h.snapshot.layer; sealed = h.sealed }) o) → covers u one ≡ true
  hand_charged slot u r e None is root = absurd is
  hand_charged slot u r e (Some h) is root =
      let same : h.snapshot.share.usage ≡ u = is.usage ∙ ap usage_of e in
      let enough : Covers u (count_of h.snapshot.layer) = subst (λ (x : Usage). Covers x (count_of h.snapshot.layer)) same is.covers in
      Covers-covers u one (record { blocks = omega (arith, enough.blocks, root.blocks); inodes = omega (arith, enough.inodes, root.inodes) })

  charged_one : (r : Record) → IsRooted r → ((slot : ℕ) → is_slot slot r ≡ true → active_at slot w.state.records ≡ Some r) → IsChargedOne r.content
  charged_one r root finds = by r.content refl root
    where
      by : (c : Content) → r.content ≡ c → HasRoot (saved_hand (saved_content c) w.hands) → IsChargedOne c
      by (contents.View layers) e root = tt
      by (contents.Active slot u) e root =
          hand_charged slot u r e (hand_at slot w.hands)
          (subst (λ (o : Option Record). AgreesAt slot w.state.records (hand_at slot w.hands) o) (finds slot (Active-is_slot slot u r e)) (fits.hands slot)) root
      by (contents.Committed layer usage) e root = tt

  all_charged : (ts : List Record) → AllByRecursion IsRooted ts → ((slot : ℕ) → AllByRecursion (λ t. is_slot slot t ≡ true → active_at slot w.state.records ≡ Some t) ts) → AllByRecursion (λ r. IsChargedOne r.content) ts
  all_charged [] root finds = tt
  all_charged (t ∷ ts) root finds = (charged_one t root.0 (λ slot. (finds slot).0), all_charged ts root.1 (λ slot. (finds slot).1))

  are_charged : AllByRecursion (λ snapshot. HasRoot snapshot.hand) (saved_world w).snapshots → AllByRecursion (λ r. IsChargedOne r.content) w.state.records
  are_charged roots = all_charged w.state.records rooted (λ slot. finds-active slot w.state.records fits.good.slots)
    where
      rooted : AllByRecursion IsRooted w.state.records
      rooted =
          all-map (λ r. (r.id < w.state.next_id) × (r.id < w.state.next_id → IsRooted r)) IsRooted (λ r h. h.1 h.0) w.state.records
          (all-both (λ r. r.id < w.state.next_id) (λ r. r.id < w.state.next_id → IsRooted r) w.state.records fits.good.numbered
          (of_ids_below IsRooted w.state.next_id w.state.records
          (all-of_map (saved_of w.state.namespaces) (λ (s : Saved). HasRoot (saved_snapshot w.hands s).hand) (by_id w.state.next_id w.state.records)
          (all-of_map (saved_snapshot w.hands) (λ (x : SavedSnapshot). HasRoot x.hand) (saved_records w.state) roots))))

-- ---- it can be opened

-- what passes each test has none that it fails
none_fails : {X : Type 0} (test : X → Bool) (xs : List X) → list_all test xs ≡ true → find (λ x. not (test x)) xs ≡ None
none_fails test [] all = refl
none_fails test (x ∷ xs) all = by (test x) refl all (none_fails test xs)
  where
    by : (b : Bool) → test x ≡ b → (b && list_all test xs) ≡ true → (list_all test xs ≡ true → find (λ y. not (test y)) xs ≡ None) → find (λ y. not (test y)) (x ∷ xs) ≡ None
    by true is all next = ap (λ b. cond (not b) (Some x) (find (λ y. not (test y)) xs)) is ∙ next all
    by false is all next = absurd (true≢false (sym all))

all_pass : {X : Type 0} (test : X → Bool) (xs : List X) → AllByRecursion (λ x. test x ≡ true) xs → list_all test xs ≡ true
all_pass test [] all = refl
all_pass test (x ∷ xs) all = and_from (test x) (list_all test xs) all.0 (all_pass test xs all.1)

-- the answer of the first two tests of a round
abbrev tests_of_round : Bool → Bool → Result (Unit {0}) Refusal
tests_of_round most spent = if most then Err BadArgument else if spent then Err NumbersSpent else Ok tt

-- what a round that may begin shows
round_begins : (s : State) (journal : ℕ) → roll_answer s journal ≡ Ok tt → (nat_lt max_journal journal ≡ false) × (nat_lt (2 ^ 62) (s.entries + journal) ≡ false)
round_begins s journal e = by (nat_lt max_journal journal) (nat_lt (2 ^ 62) (s.entries + journal)) _ e
  where
    by : (a b : Bool) (o : Result (Unit {0}) Refusal) → ◌≡◌ {A = Result (Unit {0}) Refusal} (result_and (tests_of_round a b) o) (Ok tt) → (a ≡ false) × (b ≡ false)
    by true b o e = absurd (cc)
    by false true o e = absurd (cc)
    by false false o e = (refl, refl)

module _ (w : WorldValue) (good : Good w.state) (rolls : roll_answer w.state w.limit ≡ Ok tt) where
  -- what it is opened with
  abbrev config : Config
  config = saved_config w.state w.limit

  can_open : is_saved_config config ≡ true
  can_open =
      let s = w.state in
      let few : w.limit ≤ max_journal = ltb-false max_journal w.limit (round_begins s w.limit rolls).0 in
      let each : list_all is_space s.namespaces ≡ true = all_pass is_space s.namespaces good.spaces in
      let low : nat_le (length s.namespaces) most_namespaces ≡ true = le-leb (length s.namespaces) most_namespaces good.few_spaces in
      let spaces : are_spaces_by is_space s.namespaces ≡ true = (λ i. each i && low i && good.distinct i) in
      let slots : is_slots s.slots ≡ true = and_from (nat_le 1 s.slots) (nat_le s.slots max_slots) (le-leb 1 s.slots good.few_slots.0) (le-leb s.slots max_slots good.few_slots.1) in
      let journal : nat_le w.limit max_journal ≡ true = le-leb w.limit max_journal few in
      λ i. good.root i && (spaces i && (slots i && (journal i && (true && (good.layers i && (good.most i && true))))))

  opens : open_answer config w.state.entries ≡ Ok tt
  opens =
      let most : w.state.entries + w.limit ≤ 2 ^ 62 = ltb-false (2 ^ 62) (w.state.entries + w.limit) (round_begins w.state w.limit rolls).1 in
      let low : nat_le w.state.entries (2 ^ 62) ≡ true = le-leb w.state.entries (2 ^ 62) (omega (arith, most)) in
      let formed : bad_saved_field config ≡ None = none_fails (has_form (are_spaces_by is_space config.namespaces) config) config_fields can_open in
      ap (λ (o : Option ConfigField). head_answer o w.state.entries) formed ∙ ap (λ b. if b then Ok tt else Err faults.Entries) low

  good_start : Good (record w.state { sessions = 0; records = []; leases = []; next_id = 1 })
  good_start = good_counters (opening config) 0 w.state.entries (omega arith) (good_opening config can_open)

-- ---- the snapshots are put back, each with its hand

-- the hand, where a record is active in its slot
abbrev kept_at : Option Record → Option HandValue → Option HandValue
kept_at None o = None
kept_at (Some r) o = o

-- the hands of the slots that are open in the records are those of these hands, and there are no others
abbrev KeepHands : List Record → List (Option HandValue) → List (Option HandValue) → Type 0
KeepHands rs all hands = (slot : ℕ) → hand_at slot hands ≡ kept_at (active_at slot rs) (hand_at slot all)

-- the state with the snapshots of ids below n alone, whose next one has the id
abbrev with_below : State → ℕ → ℕ → State
with_below s n next = record s { records = older n s.records; leases = []; next_id = next }

module _ (w : WorldValue) (fits : Fits w) (charged : AllByRecursion (λ r. IsChargedOne r.content) w.state.records) where
  -- the state of the round that begins
  abbrev s : State
  s = next_round w.state

  good : Good s
  good = good_counters w.state 0 w.state.entries (omega arith) fits.good

  -- one snapshot more
  module _ (n : ℕ) (r : Record) (found : find (has_id n) s.records ≡ Some r) (next : ℕ) (low : next ≤ n) (hands : List (Option HandValue)) (places : length hands ≡ s.slots) (kept : KeepHands (older n s.records) w.hands hands) where
    can : CanPutBack (with_below s n next) r
    can = can_again s good charged n r found next low

    more : with_record r (older n s.records) ≡ older (suc n) s.records
    more = older-more n s.records r good.ids good.sorted found

    -- the hands with that of its content
    abbrev with_its_hand : SavedContent → List (Option HandValue)
    with_its_hand c = hands_after (older (suc n) s.records) c (saved_hand c w.hands) hands

    -- the content's hand is put back
    record HandPut (c : SavedContent) : Type 0 where
      passed : hand_answer c (saved_hand c w.hands) ≡ Ok tt
      as_many : length (with_its_hand c) ≡ s.slots
      alike : KeepHands (older (suc n) s.records) w.hands (with_its_hand c)

    -- a slot that it isn't in is as before
    other_slot : (k : ℕ) → is_slot k r ≡ false → active_at k (older n s.records) ≡ active_at k (older (suc n) s.records)
    other_slot k out = sym (active_at-with_record_other k r (older n s.records) out) ∙ ap (active_at k) more

    idle : ((k : ℕ) → is_slot k r ≡ false) → KeepHands (older (suc n) s.records) w.hands hands
    idle none k = kept k ∙ ap (λ (o : Option Record). kept_at o (hand_at k w.hands)) (other_slot k (none k))

    -- it is active
    module _ (slot : ℕ) (u : Usage) (e : r.content ≡ contents.Active slot u) (h : HandValue) (at : hand_at slot w.hands ≡ Some h) (is : IsHandOf slot s.records h r) where
      own : is_slot slot r ≡ true
      own = Active-is_slot slot u r e

      there : active_at slot (older (suc n) s.records) ≡ Some r
      there = sym (ap (active_at slot) more) ∙ active_at-with_record_own slot r (older n s.records) own (free_slot (with_below s n next) r can slot own)

      -- its committed ancestors are there
      lowers : layers_of (ancestors r.namespace r.parent (older (suc n) s.records)) ≡ h.snapshot.lowers
      lowers =
          let id : r.id ≡ n = its_id s good charged n r found in
          let rising : IsRising s.records r = find-all (IsRising s.records) (has_id n) s.records r found good.rising in
          let chained : IsSome (chain most_ancestors s.records r) = find-all (λ t. IsSome (chain most_ancestors s.records t)) (has_id n) s.records r found (good_chains s good) in
          ap layers_of
          (keeps-ancestors (IsOlder s.records (suc n)) s.records (older (suc n) s.records) (keeps_older s.records (suc n) good.rising) r.namespace r.parent
          (on_older s.records (suc n) r.namespace r.parent r.id (omega (arith, id)) rising) chained)
          ∙ sym is.lowers

      abbrev its_hand : SavedHand
      its_hand = record { layer = h.snapshot.layer; sealed = h.sealed }

      same_hand : restored_hand (older (suc n) s.records) slot its_hand r ≡ h
      same_hand = λ i. record {
        snapshot = record {
          namespace = sym is.namespace i;
          key = sym is.key i;
          lowers = lowers i;
          layer = h.snapshot.layer;
          share = record { slot = sym is.slot i; id = sym is.id i; usage = sym is.usage i };
        };
        sealed = h.sealed;
      }

      hands_are : with_its_hand (saved_kinds.Active slot u) ≡ with_hand slot (Some h) hands
      hands_are =
          ap (λ (o : Option HandValue). hands_after (older (suc n) s.records) (saved_kinds.Active slot u) (option_map (λ (x : HandValue). record { layer = x.snapshot.layer; sealed = x.sealed }) o) hands) at
          ∙ ap (λ (o : Option Record). with_hand slot (option_map (restored_hand (older (suc n) s.records) slot its_hand) o) hands) there
          ∙ ap (λ (x : HandValue). with_hand slot (Some x) hands) same_hand

      hand_there : hand_at slot (with_hand slot (Some h) hands) ≡ kept_at (active_at slot (older (suc n) s.records)) (hand_at slot w.hands)
      hand_there =
          let inside : slot < s.slots = low_slot (with_below s n next) r can slot own in
          hand_at-own slot (Some h) hands (omega (arith, inside, places)) ∙ sym (λ i. kept_at (there i) (at i))

      kept_with : KeepHands (older (suc n) s.records) w.hands (with_hand slot (Some h) hands)
      kept_with k =
          ⊎_elim
          (λ (x : (eqb k slot ≡ true) × (k ≡ slot)). subst (λ (j : ℕ). hand_at j (with_hand slot (Some h) hands) ≡ kept_at (active_at j (older (suc n) s.records)) (hand_at j w.hands)) (sym x.1) hand_there)
          (λ (x : (eqb k slot ≡ false) × (k ≢ slot)). hand_at-other k slot (Some h) hands x.1 ∙ kept k ∙ ap (λ (o : Option Record). kept_at o (hand_at k w.hands)) (other_slot k (is_slot-other slot k r x.1 own)))
          (eqb_tells k slot)

      covered : covers u (count_of h.snapshot.layer) ≡ true
      covered = Covers-covers u (count_of h.snapshot.layer) (subst (λ (x : Usage). Covers x (count_of h.snapshot.layer)) (is.usage ∙ ap usage_of e) is.covers)

      active_put : HandPut (saved_kinds.Active slot u)
      active_put = record {
        passed =
            ap (λ (o : Option HandValue). hand_answer (saved_kinds.Active slot u) (option_map (λ (x : HandValue). record { layer = x.snapshot.layer; sealed = x.sealed }) o)) at
            ∙ ap (λ b. tests_answer (must b BadArgument ∷ [])) covered;
        as_many = ap length hands_are ∙ length-set hands slot (Some h) ∙ places;
        alike = subst (λ (l : List (Option HandValue)). KeepHands (older (suc n) s.records) w.hands l) (sym hands_are) kept_with;
      }

    at_hand : (slot : ℕ) (u : Usage) → r.content ≡ contents.Active slot u → (o : Option HandValue) → hand_at slot w.hands ≡ o → AgreesAt slot s.records o (Some r) → HandPut (saved_kinds.Active slot u)
    at_hand slot u e None at is = absurd is
    at_hand slot u e (Some h) at is = active_put slot u e h at is

    hand_put : HandPut (saved_content r.content)
    hand_put = by r.content refl
      where
        by : (c : Content) → r.content ≡ c → HandPut (saved_content c)
        by (contents.View layers) e = record { passed = refl; as_many = places; alike = idle (λ k. ap (has_slot k) e) }
        by (contents.Active slot u) e =
            let stands : active_at slot s.records ≡ Some r = find-all (λ t. is_slot slot t ≡ true → active_at slot s.records ≡ Some t) (has_id n) s.records r found (finds-active slot s.records good.slots) (Active-is_slot slot u r e) in
            at_hand slot u e (hand_at slot w.hands) refl (subst (λ (o : Option Record). AgreesAt slot s.records (hand_at slot w.hands) o) stands (fits.hands slot))
        by (contents.Committed layer usage) e = record { passed = refl; as_many = places; alike = idle (λ k. ap (has_slot k) e) }

    -- the value with it
    abbrev with_one : RestoringValue
    with_one = record { state = with_below s (suc n) (r.id + 1); hands = with_its_hand (saved_content r.content) }

    one_back : put_snapshot (record { state = with_below s n next; hands = hands }) (saved_of s.namespaces r) (saved_hand (saved_content r.content) w.hands) ≡ Ok with_one
    one_back =
        ap (λ (o : Result State Refusal). o >>= λ state. hand_answer (saved_content r.content) (saved_hand (saved_content r.content) w.hands) >>= λ answer. Ok (record { state = state; hands = hands_after state.records (saved_content r.content) (saved_hand (saved_content r.content) w.hands) hands }))
        (put_next s good charged n r found next low)
        ∙ ap (λ (o : Result Unit Refusal). o >>= λ answer. Ok with_one) hand_put.passed

    good_one : Good (with_below s n next) → Good (with_below s (suc n) (r.id + 1))
    good_one before = subst (λ (l : List Record). Good (record s { records = l; leases = []; next_id = r.id + 1 })) more (good_saved (with_below s n next) r before can)

  -- the snapshots with ids below n are put back
  record AreBack (start : RestoringValue) (n : ℕ) : Type 0 where
    next : ℕ
    low : next ≤ max n 1
    hands : List (Option HandValue)
    places : length hands ≡ s.slots
    kept : KeepHands (older n s.records) w.hands hands
    good_so_far : Good (with_below s n next)
    put : put_snapshots_from 0 start (map (saved_snapshot w.hands) (map (saved_of s.namespaces) (by_id n s.records))) ≡ Ok (record { state = with_below s n next; hands = hands })

  -- no more of them, where no snapshot has the id
  none_more : (start : RestoringValue) (n : ℕ) → find (has_id n) s.records ≡ None → AreBack start n → AreBack start (suc n)
  unfolding by_id
  none_more start n e before =
      let none = find-none (has_id n) s.records e in
      let same : older n s.records ≡ older (suc n) s.records = sym (older-none n s.records none) in
      let list : by_id n s.records ++ filter (has_id n) s.records ≡ by_id n s.records = ap (λ (l : List Record). by_id n s.records ++ l) (filter-none (has_id n) s.records none) ∙ append-nil (by_id n s.records) in
      record {
        next = before.next;
        low = omega (arith, before.low);
        hands = before.hands;
        places = before.places;
        kept = subst (λ (l : List Record). KeepHands l w.hands before.hands) same before.kept;
        good_so_far = subst (λ (l : List Record). Good (record s { records = l; leases = []; next_id = before.next })) same before.good_so_far;
        put =
            ap (λ (l : List Record). put_snapshots_from 0 start (map (saved_snapshot w.hands) (map (saved_of s.namespaces) l))) list
            ∙ before.put
            ∙ ap (λ (l : List Record). Ok (record { state = record s { records = l; leases = []; next_id = before.next }; hands = before.hands })) same;
      }

  -- one more, where one has it
  one_more : (start : RestoringValue) (n : ℕ) (r : Record) → find (has_id n) s.records ≡ Some r → AreBack start n → AreBack start (suc n)
  unfolding by_id
  one_more start n r e before =
      let first : 1 ≤ r.id = (its_forms s good charged n r e).above in
      let id : r.id ≡ n = its_id s good charged n r e in
      let low : before.next ≤ n = omega (arith, before.low, first, id) in
      let put = hand_put n r e before.next low before.hands before.places before.kept in
      let list : map (saved_snapshot w.hands) (map (saved_of s.namespaces) (by_id n s.records ++ filter (has_id n) s.records)) ≡ map (saved_snapshot w.hands) (map (saved_of s.namespaces) (by_id n s.records)) ++ saved_snapshot w.hands (saved_of s.namespaces r) ∷ [] =
      ap (λ (l : List Record). map (saved_snapshot w.hands) (map (saved_of s.namespaces) (by_id n s.records ++ l))) (one_of_id n s.records r good.ids e)
      ∙ ap (map (saved_snapshot w.hands)) (map-append (saved_of s.namespaces) (by_id n s.records) (r ∷ []))
      ∙ map-append (saved_snapshot w.hands) (map (saved_of s.namespaces) (by_id n s.records)) (saved_of s.namespaces r ∷ []) in
      record {
        next = r.id + 1;
        low = omega (arith, id);
        hands = with_its_hand n r e before.next low before.hands before.places before.kept (saved_content r.content);
        places = put.as_many;
        kept = put.alike;
        good_so_far = good_one n r e before.next low before.hands before.places before.kept before.good_so_far;
        put =
            ap (put_snapshots_from 0 start) list
            ∙ snapshots_after 0 start (record { state = with_below s n before.next; hands = before.hands }) (map (saved_snapshot w.hands) (map (saved_of s.namespaces) (by_id n s.records))) (saved_snapshot w.hands (saved_of s.namespaces r) ∷ [])
            (with_one n r e before.next low before.hands before.places before.kept) before.put
            (λ place. one_snapshot place (record { state = with_below s n before.next; hands = before.hands }) (with_one n r e before.next low before.hands before.places before.kept) (saved_snapshot w.hands (saved_of s.namespaces r)) (one_back n r e before.next low before.hands before.places before.kept));
      }

  are_back : (start : RestoringValue) → AreBack start zero → (n : ℕ) → AreBack start n
  are_back start none zero = none
  are_back start none (suc n) = by (find (has_id n) s.records) refl (are_back start none n)
    where
      by : (o : Option Record) → find (has_id n) s.records ≡ o → AreBack start n → AreBack start (suc n)
      by None e before = none_more start n e before
      by (Some r) e before = one_more start n r e before

  module _ (rolls : roll_answer w.state w.limit ≡ Ok tt) where
    -- before any is put back
    abbrev start : RestoringValue
    start = opened_with (config w fits.good rolls) w.state.entries

    none_back : AreBack start zero
    unfolding by_id
    none_back =
        let none : [] ≡ older 0 s.records = sym (older-zero s.records) in
        record {
          next = 1;
          low = omega arith;
          hands = replicate s.slots None;
          places = length-replicate s.slots None;
          kept = λ slot. no_hand s.slots slot ∙ ap (λ (l : List Record). kept_at (active_at slot l) (hand_at slot w.hands)) none;
          good_so_far = subst (λ (l : List Record). Good (record s { records = l; leases = []; next_id = 1 })) none (good_start w fits.good rolls);
          put = no_snapshots 0 start ∙ ap (λ (l : List Record). Ok (record { state = record s { records = l; leases = []; next_id = 1 }; hands = replicate s.slots None })) none;
        }

    -- all of them
    all_back : AreBack start s.next_id
    all_back = are_back start none_back s.next_id

    all_there : older s.next_id s.records ≡ s.records
    all_there = older-all s.next_id s.records good.numbered

    -- the state with all of them and without leases
    abbrev with_all : ℕ → State
    with_all next = record s { leases = []; next_id = next }

    -- a slot has the hand that it had
    hands_alike : (slot : ℕ) → hand_at slot all_back.hands ≡ hand_at slot w.hands
    hands_alike slot =
        all_back.kept slot
        ∙ ap (λ (l : List Record). kept_at (active_at slot l) (hand_at slot w.hands)) all_there
        ∙ by (active_at slot s.records) (hand_at slot w.hands) (fits.hands slot)
      where
        by : (found : Option Record) (o : Option HandValue) → AgreesAt slot s.records o found → kept_at found o ≡ o
        by None None is = refl
        by None (Some h) is = absurd is
        by (Some r) o is = refl

    hands_same : all_back.hands ≡ w.hands
    hands_same = ext_get_or None all_back.hands w.hands (all_back.places ∙ sym fits.places) (λ slot inside. hands_alike slot)

    -- the value once all are put back
    abbrev with_snapshots : RestoringValue
    with_snapshots = record { state = with_all all_back.next; hands = w.hands }

    snapshots_back : put_snapshots_from 0 start (saved_world w).snapshots ≡ Ok with_snapshots
    snapshots_back = all_back.put ∙ (λ i. Ok (record { state = record s { records = all_there i; leases = []; next_id = all_back.next }; hands = hands_same i }))

    -- and the leases
    good_all : Good (record s { next_id = all_back.next })
    good_all = with_those (subst (λ (l : List Record). Good (record s { records = l; leases = []; next_id = all_back.next })) all_there all_back.good_so_far)
      where
        with_those : Good (with_all all_back.next) → Good (record s { next_id = all_back.next })
        with_those g = record {
          root = g.root;
          promised = record {
            parents = g.promised.parents;
            leased = good.promised.leased;
            counted = g.promised.counted;
            within = g.promised.within;
            chains = g.promised.chains;
          };
          named_once = good.named_once;
          lease_names = good.lease_names;
          lease_keys = good.lease_keys;
          limits = g.limits;
          short = g.short;
          distinct = g.distinct;
          spaces = g.spaces;
          few_spaces = g.few_spaces;
          placed = g.placed;
          sorted = g.sorted;
          ids = g.ids;
          numbered = g.numbered;
          rising = g.rising;
          fewer = g.fewer;
          formed = g.formed;
          few_slots = g.few_slots;
          slots = g.slots;
          open_slots = g.open_slots;
          shown = g.shown;
          layers = g.layers;
          most = g.most;
        }

    leases_back : put_leases_from 0 with_snapshots.state (saved_world w).leases ≡ Ok (record s { next_id = all_back.next })
    leases_back = leases_saved 0 with_snapshots.state (record s { next_id = all_back.next }) w.state.leases (put_leases_back (record s { next_id = all_back.next }) good_all)

    -- the value once all is put back
    abbrev with_leases_too : RestoringValue
    with_leases_too = record { state = record s { next_id = all_back.next }; hands = w.hands }

    ends : finish_answer with_leases_too w.state.next_id w.limit ≡ Ok tt
    ends =
        let fewer : length s.records < s.next_id = good.fewer in
        let low : all_back.next ≤ s.next_id = omega (arith, all_back.low, fewer) in
        ap (λ b. if b then Err faults.NextId else faulted faults.Journal (roll_answer w.state w.limit)) (le-ltb w.state.next_id all_back.next low) ∙ ap (faulted faults.Journal) rolls

    is_back : restored (saved_world w) ≡ Ok (reopened w w.limit)
    is_back =
        past_open (saved_world w) (opens w fits.good rolls)
        ∙ past_snapshots (saved_world w) with_snapshots snapshots_back
        ∙ past_leases (saved_world w) with_snapshots (record s { next_id = all_back.next }) leases_back
        ∙ past_end (saved_world w) with_leases_too ends

-- what is saved of a world, whose hands' layers have roots, is restored as the world that a roll leaves
pub restored_saved : (w : WorldValue) → Fits w → AllByRecursion (λ snapshot. HasRoot snapshot.hand) (saved_world w).snapshots → roll_answer w.state w.limit ≡ Ok tt → restored (saved_world w) ≡ Ok (reopened w w.limit)
restored_saved w fits roots rolls = is_back w fits (are_charged w fits roots) rolls
