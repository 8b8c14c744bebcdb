-- A record that can be put back is put back from what is saved of it.
use Rattle.std.proofs.Common.{◌≡◌, ℕ, Bool, true, false, true≢false, List, [], ◌∷◌, None, Option, Some, IsSome, refl, sym, ap, ◌∙◌}
use Rattle.std.specs.Prelude.{◌&&◌, if◌then◌else◌, nat_le, nat_lt, Result, Ok, Err}
use Rattle.std.specs.List.{AllByRecursion, list_any}
use Rattle.std.specs.Option.{option_map_or}
use Rattle.std.proofs.lemmas.Bool.{and_from, le-leb, lt-ltb}
use Rattle.snap_usage.specs.declared.usage.Usage.{Usage}
use Rattle.snap_usage.specs.Counted.{covers, Covers}
use Rattle.snap_ledger.specs.States.{plus}
use Rattle.snap_record.specs.Labels.{Bytes, are_labels}
use Rattle.snap_record.specs.Records.{usage_of}
use Rattle.snap_record.specs.declared.record.Content.{Content}
use Rattle.snap_record.specs.declared.record.Content.TheVariants as contents
use Rattle.snap_record.specs.declared.record.Record.{Record}
use Rattle.snap_call.specs.declared.refusal.Refusal.{Refusal}
use Rattle.snap_call.specs.declared.refusal.Refusal.TheVariants.{BadArgument, NoNamespace, NotFound, AlreadyExists, NotCommitted, TooDeep, TooManyActives, NumbersSpent}
use Rattle.snap_call.specs.declared.saved.Saved.{Saved}
use Rattle.snap_call.specs.declared.state.State.{State}
use Rattle.snap_call.specs.Forms.{have_distinct_names, is_key, is_parent}
use Rattle.snap_call.specs.Good.{IsShown}
use Rattle.snap_call.specs.Promised.{IsUsageCounted}
use Rattle.snap_call.specs.Records.{charge_of, committed_at, has_key, is_named, is_slot, record_at}
use Rattle.snap_call.specs.Results.{◌>>=◌}
use Rattle.snap_call.specs.Saved.{CanPutBack, HasFreeSlot, charge_for, content_for, numbers_answer, put_back, record_of, room_answer, saved_content, saved_of, slot_answer, with_saved}
use Rattle.snap_call.specs.State.{place_of, limit_at, name_at, is_base, is_present, is_too_deep, over_limit}
use Rattle.snap_call.specs.Step.{Test, must, must_not, tested, one, place_for, place_on}
use Rattle.snap_call.proofs.Leasing.{place_of-name_at}
use Rattle.snap_call.proofs.Lists.{any-found, committed-parts, find-none, find-passes, list_any-none}

-- ---- tests that are passed

-- the test is passed
abbrev pub IsPassed : Test → Type 0
IsPassed (must holds why) = holds ≡ true
IsPassed (must_not holds why) = holds ≡ false

-- what follows where all are
pub tested-passed : {X : Type 0} (by : Refusal → X) (tests : List Test) (next : X) → AllByRecursion IsPassed tests → tested by tests next ≡ next
tested-passed by [] next all = refl
tested-passed by (must holds why ∷ later) next all = ap (λ (b : Bool). if b then tested by later next else by why) all.0 ∙ tested-passed by later next all.1
tested-passed by (must_not holds why ∷ later) next all = ap (λ (b : Bool). if b then by why else tested by later next) all.0 ∙ tested-passed by later next all.1

pub Covers-covers : (a b : Usage) → Covers a b → covers a b ≡ true
Covers-covers a b c = and_from (nat_le b.blocks a.blocks) (nat_le b.inodes a.inodes) (le-leb b.blocks a.blocks c.blocks) (le-leb b.inodes a.inodes c.inodes)

-- a base is present
base-present : (place : ℕ) (parent : Bytes) (rs : List Record) → is_base place parent rs ≡ true → is_present place parent rs ≡ true
base-present place [] rs base = refl
base-present place (b ∷ bs) rs base = by (committed_at place (b ∷ bs) rs) refl base
  where
    by : (o : Option Record) → committed_at place (b ∷ bs) rs ≡ o → IsSome o → has_key place (b ∷ bs) rs ≡ true
    by None e some = absurd (true≢false (sym some))
    by (Some r) e some =
        let found = (committed-parts (record_at place (b ∷ bs) rs) r e).0 in
        any-found (is_named place (b ∷ bs)) (is_named place (b ∷ bs)) rs r found (find-passes (is_named place (b ∷ bs)) rs r found)

-- ---- what is saved of a content, and what it gives

slot-passed : (s : State) (c : Content) → HasFreeSlot s c → slot_answer s (saved_content c) ≡ Ok tt
slot-passed s (contents.View layers) free = refl
slot-passed s (contents.Active slot charged) free =
    tested-passed Err (must (nat_lt slot s.slots) TooManyActives ∷ must_not (list_any (is_slot slot) s.records) TooManyActives ∷ must (covers charged one) BadArgument ∷ []) (Ok tt)
    (lt-ltb slot s.slots free.0, (list_any-none (is_slot slot) s.records (find-none (is_slot slot) s.records free.1), (Covers-covers charged one free.2, tt)))
slot-passed s (contents.Committed layer usage) free = refl

charge-saved : (c : Content) → IsUsageCounted c → charge_for (saved_content c) ≡ usage_of c
charge-saved (contents.View layers) counted = refl
charge-saved (contents.Active slot charged) counted = refl
charge-saved (contents.Committed layer usage) counted = sym counted

content-saved : (c : Content) (place : ℕ) (parent : Bytes) (rs : List Record) → IsShown rs place parent c → IsUsageCounted c → content_for (saved_content c) place parent rs ≡ c
content-saved (contents.View layers) place parent rs shown counted = ap (λ l. contents.View l) (sym shown)
content-saved (contents.Active slot charged) place parent rs shown counted = refl
content-saved (contents.Committed layer usage) place parent rs shown counted = ap (λ (u : Usage). contents.Committed layer u) (sym counted)

-- ---- the record is put back

-- what follows four answers that are no refusals
four_passed : (at : Result ℕ Refusal) (numbers slot : Result Unit Refusal) (room : ℕ → Result Unit Refusal) (after : ℕ → State) (place : ℕ) → at ≡ Ok place → numbers ≡ Ok tt → slot ≡ Ok tt → room place ≡ Ok tt
    → (at >>= λ p. numbers >>= λ n. slot >>= λ s. room p >>= λ r. Ok (after p)) ≡ Ok (after place)
four_passed at numbers slot room after place a b c d =
    ap (λ (o : Result ℕ Refusal). o >>= λ p. numbers >>= λ n. slot >>= λ s. room p >>= λ r. Ok (after p)) a
    ∙ ap (λ (o : Result Unit Refusal). o >>= λ n. slot >>= λ s. room place >>= λ r. Ok (after place)) b
    ∙ ap (λ (o : Result Unit Refusal). o >>= λ s. room place >>= λ r. Ok (after place)) c
    ∙ ap (λ (o : Result Unit Refusal). o >>= λ r. Ok (after place)) d

module _ (s : State) (r : Record) (can : CanPutBack s r) where
  -- what is saved of it passes each test
  place-found : have_distinct_names s.namespaces ≡ true → (is_key r.key && is_parent r.parent && are_labels r.labels) ≡ true → place_for s (name_at r.namespace s.namespaces) r.key r.parent r.labels ≡ Ok r.namespace
  place-found distinct formed =
      tested-passed Err (must (is_key r.key && is_parent r.parent && are_labels r.labels) BadArgument ∷ []) (option_map_or on (place_of (name_at r.namespace s.namespaces) s.namespaces) (Err NoNamespace)) (formed, tt)
      ∙ ap (λ (o : Option ℕ). option_map_or on o (Err NoNamespace)) (place_of-name_at s.namespaces r.namespace distinct can.taken)
      ∙ tested-passed Err
      (must (is_present r.namespace r.parent s.records) NotFound ∷ must_not (has_key r.namespace r.key s.records) AlreadyExists ∷ must (is_base r.namespace r.parent s.records) NotCommitted ∷ must_not (is_too_deep s.ancestors r.namespace r.parent s.records) TooDeep ∷ []) (Ok r.namespace)
      (base-present r.namespace r.parent s.records can.base, (can.new, (can.base, (can.deep, tt))))
    where
      on : ℕ → Result ℕ Refusal
      on place = place_on s.ancestors place r.key r.parent s.records

  numbers-passed : numbers_answer s (saved_of s.namespaces r) ≡ Ok tt
  numbers-passed =
      tested-passed Err (must (nat_le s.next_id r.id) NumbersSpent ∷ must (nat_le 1 r.created && nat_le r.created r.updated && nat_le r.updated s.entries) NumbersSpent ∷ []) (Ok tt)
      (le-leb s.next_id r.id can.above, (and_from (nat_le 1 r.created && nat_le r.created r.updated) (nat_le r.updated s.entries) (and_from (nat_le 1 r.created) (nat_le r.created r.updated) (le-leb 1 r.created can.formed.known.0) (le-leb r.created r.updated can.formed.known.1)) (le-leb r.updated s.entries can.formed.known.2), tt))

  room-passed : room_answer s r.namespace (charge_for (saved_content r.content)) ≡ Ok tt
  room-passed =
      tested-passed Err (must (covers (limit_at r.namespace s.namespaces) (plus (charge_of r.namespace s.records) (charge_for (saved_content r.content)))) (over_limit s r.namespace) ∷ []) (Ok tt)
      (ap (λ (u : Usage). covers (limit_at r.namespace s.namespaces) (plus (charge_of r.namespace s.records) u)) (charge-saved r.content can.counted) ∙ can.fits, tt)

  -- and the record that is made of it is the same
  same_record : record_of s r.namespace (saved_of s.namespaces r) ≡ r
  same_record = ap (λ (c : Content). record r { content = c }) (content-saved r.content r.namespace r.parent s.records can.shown can.counted)

  -- so what is saved of it gives the state with it
  pub put_back-saved : have_distinct_names s.namespaces ≡ true → (is_key r.key && is_parent r.parent && are_labels r.labels) ≡ true → put_back s (saved_of s.namespaces r) ≡ Ok (with_saved s r)
  put_back-saved distinct formed =
      four_passed (place_for s saved.namespace saved.key saved.parent saved.labels) (numbers_answer s saved) (slot_answer s saved.content) (λ place. room_answer s place (charge_for saved.content)) (λ place. with_saved s (record_of s place saved)) r.namespace
      (place-found distinct formed) numbers-passed (slot-passed s r.content can.slot) room-passed
      ∙ ap (λ (t : Record). Ok (with_saved s t)) same_record
    where
      saved : Saved
      saved = saved_of s.namespaces r
