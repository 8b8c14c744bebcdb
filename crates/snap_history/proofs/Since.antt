-- The entries since the namespace of a name was last made.
use Rattle.std.proofs.Common.{◌≡◌, ℕ, zero, suc, ◌+◌, ◌<◌, List, [], ◌∷◌, drop, length, Bool, true, false, true≢false, cond, Option, Some, None, refl, sym, ap, ◌∙◌, subst, arith}
use Rattle.std.proofs.lemmas.Bool.{false_from_ne_true}
use Rattle.std.proofs.lemmas.List.{length-append, length-map}
use Rattle.std.proofs.lemmas.Slice.Eq.{bytes_eq-Decides}
use Rattle.std.specs.Option.{is_some, option_map, option_map_or}
use Rattle.std.specs.Prelude.{◌||◌, bytes_eq, count_by, if◌then◌else◌, nat_lt}
use Rattle.snap_usage.specs.declared.usage.Usage.{Usage}
use Rattle.snap_lease.specs.Leases.{has_leases}
use Rattle.snap_record.specs.Labels.{Bytes}
use Rattle.snap_record.specs.declared.record.Record.{Record}
use Rattle.snap_call.specs.declared.call.Call.{Call}
use Rattle.snap_call.specs.declared.call.Call.TheVariants as calls
use Rattle.snap_call.specs.declared.call.Given.{Given}
use Rattle.snap_call.specs.declared.config.Namespace.{Namespace}
use Rattle.snap_call.specs.declared.entry.Entry.{Entry}
use Rattle.snap_call.specs.declared.refusal.Refusal.TheVariants.{NoNamespace, NotEmpty}
use Rattle.snap_call.specs.declared.reply.Reply.{Reply}
use Rattle.snap_call.specs.declared.reply.Reply.TheVariants as replies
use Rattle.snap_call.specs.declared.state.State.{State}
use Rattle.snap_call.specs.Forms.{is_namespace}
use Rattle.snap_call.specs.Good.{Good}
use Rattle.snap_call.specs.Journal.{Replays}
use Rattle.snap_call.specs.Records.{active_at, has_records}
use Rattle.snap_call.specs.State.{is_taken, most_namespaces, name_at, place_of, with_namespace, without_namespace}
use Rattle.snap_call.specs.Step.{step, IsAllowed, refused, spacing}
use Rattle.snap_call.specs.Steps.{namespace_create, namespace_remove}
use Rattle.snap_call.proofs.AsMany.{step-slots}
use Rattle.snap_call.proofs.Kept.{good_step}
use Rattle.snap_call.proofs.Leasing.{place_of-taken}
use Rattle.snap_call.proofs.Lists.{none_some, some_same}
use Rattle.snap_call.proofs.Naming.{free_place, place_of-with, place_of-without}
use Rattle.snap_call.proofs.Parts.{namespace_remove_at}
use Rattle.snap_call.proofs.Spacing.{namespace_parts}
use Rattle.snap_history.specs.Changes.{no_shares}
use Rattle.snap_history.specs.History.{history, history_since, last_made, makes_by}
use Rattle.snap_history.specs.Open.{namespace_shares, open_below, open_share, share_for, shares_of}
use Rattle.snap_history.specs.declared.info.EntryInfo.{EntryInfo}
use Rattle.snap_history.proofs.Names.{step-names}

-- ---- the place of the last entry that makes it

-- by what the later entries tell, and whether this one makes it
abbrev last_of : Option ℕ → Bool → Option ℕ
last_of later here = option_map_or (λ i. Some (suc i)) later (if here then Some 0 else None)

-- an entry that makes it, and none after it does
made_in : (name : Bytes) (k : ℕ) (es : List Entry) → last_made name (drop k es) ≡ Some 0 → last_made name es ≡ Some k
made_in name zero es is = is
made_in name (suc k) [] is = absurd (none_some 0 is)
made_in name (suc k) (x ∷ es) is = ap (λ (o : Option ℕ). last_of o (makes_by name x.call x.reply)) (made_in name k es is)

next_of : (name : Bytes) (k : ℕ) (es : List Entry) (e : Entry) → drop k es ≡ e ∷ drop (k + 1) es → last_made name (drop (k + 1) es) ≡ None → last_made name (drop k es) ≡ last_of None (makes_by name e.call e.reply)
next_of name k es e here none = ap (last_made name) here ∙ ap (λ (o : Option ℕ). last_of o (makes_by name e.call e.reply)) none

pub made_at : (name : Bytes) (k : ℕ) (es : List Entry) (e : Entry) → drop k es ≡ e ∷ drop (k + 1) es → last_made name (drop (k + 1) es) ≡ None → makes_by name e.call e.reply ≡ true → last_made name es ≡ Some k
made_at name k es e here none makes = made_in name k es (next_of name k es e here none ∙ ap (last_of None) makes)

-- and one that doesn't
pub made_later : (name : Bytes) (k : ℕ) (es : List Entry) (e : Entry) → drop k es ≡ e ∷ drop (k + 1) es → last_made name (drop (k + 1) es) ≡ None → makes_by name e.call e.reply ≡ false → last_made name (drop k es) ≡ None
made_later name k es e here none other = next_of name k es e here none ∙ ap (last_of None) other

-- it is one of the entries
pub made-below : (name : Bytes) (es : List Entry) (k : ℕ) → last_made name es ≡ Some k → k < length es
made-below name [] k is = absurd (none_some k is)
made-below name (e ∷ es) k is = by (made-below name es) (last_made name es) (makes_by name e.call e.reply) refl is
  where
    by : ((j : ℕ) → last_made name es ≡ Some j → j < length es) → (o : Option ℕ) (b : Bool) → last_made name es ≡ o → last_of o b ≡ Some k → k < suc (length es)
    by low (Some j) b later same = (let inside = low j later in let next : suc j ≡ k = some_same (suc j) k same in omega (arith, inside, next))
    by low None true later same = (let first : 0 ≡ k = some_same 0 k same in omega (arith, first))
    by low None false later same = absurd (none_some k same)

-- none among later ones where there is none at all, and the first isn't one
none_after : (name : Bytes) (e : Entry) (es : List Entry) → last_made name (e ∷ es) ≡ None → (last_made name es ≡ None) × (makes_by name e.call e.reply ≡ false)
none_after name e es none = by (last_made name es) (makes_by name e.call e.reply) refl refl none
  where
    by : (o : Option ℕ) (b : Bool) → last_made name es ≡ o → makes_by name e.call e.reply ≡ b → last_of o b ≡ None → (last_made name es ≡ None) × (makes_by name e.call e.reply ≡ false)
    by (Some j) b later here same = absurd (none_some (suc j) (sym same))
    by None true later here same = absurd (none_some 0 (sym same))
    by None false later here same = (later, here)

-- ---- the history

-- all entries where none makes it
pub since_none : (name : Bytes) (s : State) (es : List Entry) → last_made name es ≡ None → history_since name s es ≡ history name s es
since_none name s [] none = refl
since_none name s (e ∷ es) none =
    ap (λ (o : Option ℕ). if is_some o then history_since name (step s e.call e.given).0 es else history name s (e ∷ es)) (none_after name e es none).0

-- one of two, where a call with the reply of either makes the namespace
either_makes : {P : Type 0} (name namespace : Bytes) (limit : Usage) (b : Bool) (x y : State × Reply)
    → (b ≡ true → makes_by name (calls.NamespaceCreate namespace limit) x.1 ≡ true → P) → (b ≡ false → makes_by name (calls.NamespaceCreate namespace limit) y.1 ≡ true → P)
    → makes_by name (calls.NamespaceCreate namespace limit) (if b then x else y).1 ≡ true → P
either_makes name namespace limit true x y f g makes = f refl makes
either_makes name namespace limit false x y f g makes = g refl makes

-- the store doesn't have a namespace that a call makes
created_new : (name : Bytes) (s : State) (namespace : Bytes) (limit : Usage) → makes_by name (calls.NamespaceCreate namespace limit) (namespace_create s namespace limit).1 ≡ true → place_of name s.namespaces ≡ None
created_new name s namespace limit =
    let n : Namespace = record { name = namespace; limit = limit } in
    either_makes name namespace limit (is_namespace n) _ _
    (λ formed. either_makes name namespace limit (is_some (place_of namespace s.namespaces)) _ _ (λ there makes. absurd (true≢false (sym makes)))
    (λ new. either_makes name namespace limit (nat_lt (count_by is_taken s.namespaces) most_namespaces) _ _
    (λ room makes. ap (λ (m : Bytes). place_of m s.namespaces) (sym ((bytes_eq-Decides namespace name).0 makes)) ∙ unplaced_of (place_of namespace s.namespaces) new)
    (λ full makes. absurd (true≢false (sym makes)))))
    (λ bad makes. absurd (true≢false (sym makes)))
  where
    unplaced_of : (o : Option ℕ) → is_some o ≡ false → o ≡ None
    unplaced_of None e = refl
    unplaced_of (Some at) e = absurd (true≢false e)

made_new : (name : Bytes) (s : State) (call : Call) (given : Given) → makes_by name call (step s call given).1 ≡ true → place_of name s.namespaces ≡ None
made_new name s (calls.NamespaceCreate namespace limit) given makes = created_new name s namespace limit makes
made_new name s call given makes = absurd (true≢false (sym makes))

-- the state that the last entry that makes it is called in, and the history from there on
pub record Since (name : Bytes) (s : State) (es : List Entry) (t : State) (first : ℕ) : Type 0 where
  pub opening : State
  pub good : Good opening
  pub replays : Replays opening (drop first es) t
  pub slots : opening.slots ≡ s.slots
  pub unnamed : place_of name opening.namespaces ≡ None
  pub same : history_since name s es ≡ history name opening (drop first es)

pub since_at : (name : Bytes) (s : State) (es : List Entry) (t : State) (first : ℕ) → Good s → Replays s es t → last_made name es ≡ Some first → Since name s es t first
since_at name s [] t first good replays is = absurd (none_some first is)
since_at name s (e ∷ es) t first good replays is =
    by (λ j later. since_at name (step s e.call e.given).0 es t j (good_step s e.call e.given good replays.0) replays.2 later) (last_made name es) (makes_by name e.call e.reply) refl refl is
  where
    after : State
    after = (step s e.call e.given).0

    pick : Option ℕ → List EntryInfo
    pick o = if is_some o then history_since name after es else history name s (e ∷ es)

    later_on : (j : ℕ) → last_made name es ≡ Some j → Since name after es t j → Since name s (e ∷ es) t (suc j)
    later_on j later h = record {
      opening = h.opening;
      good = h.good;
      replays = h.replays;
      slots = h.slots ∙ step-slots s e.call e.given;
      unnamed = h.unnamed;
      same = ap pick later ∙ h.same;
    }

    by : ((j : ℕ) → last_made name es ≡ Some j → Since name after es t j) → (o : Option ℕ) (b : Bool)
        → last_made name es ≡ o → makes_by name e.call e.reply ≡ b → last_of o b ≡ Some first → Since name s (e ∷ es) t first
    by next (Some j) b later here found = subst (λ (k : ℕ). Since name s (e ∷ es) t k) (some_same (suc j) first found) (later_on j later (next j later))
    by next None true later here found =
        subst (λ (k : ℕ). Since name s (e ∷ es) t k) (some_same 0 first found) (record {
          opening = s;
          good = good;
          replays = replays;
          slots = refl;
          unnamed = made_new name s e.call e.given (ap (makes_by name e.call) (sym replays.1) ∙ here);
          same = ap pick later;
        })
    by next None false later here found = absurd (none_some first found)

-- its open snapshots are charged nothing there
pub bare_shares : (name : Bytes) (s : State) → place_of name s.namespaces ≡ None → namespace_shares name s ≡ no_shares s.slots
bare_shares name s unnamed = rw unnamed refl

-- ---- the place of a namespace that no entry makes

-- one of two, where the name stands at the place afterwards
either_stands : {P : Type 0} (name : Bytes) (place : ℕ) (call : Call) (b : Bool) (x y : State × Reply)
    → (b ≡ true → makes_by name call x.1 ≡ false → place_of name x.0.namespaces ≡ Some place → P) → (b ≡ false → makes_by name call y.1 ≡ false → place_of name y.0.namespaces ≡ Some place → P)
    → makes_by name call (if b then x else y).1 ≡ false → place_of name (if b then x else y).0.namespaces ≡ Some place → P
either_stands name place call true x y f g other stands = f refl other stands
either_stands name place call false x y f g other stands = g refl other stands

created_stands : (name : Bytes) (place : ℕ) (s : State) (namespace : Bytes) (limit : Usage) → makes_by name (calls.NamespaceCreate namespace limit) (namespace_create s namespace limit).1 ≡ false
    → place_of name (namespace_create s namespace limit).0.namespaces ≡ Some place → place_of name s.namespaces ≡ Some place
created_stands name place s namespace limit =
    let n : Namespace = record { name = namespace; limit = limit } in
    let call : Call = calls.NamespaceCreate namespace limit in
    either_stands name place call (is_namespace n) _ _
    (λ formed. either_stands name place call (is_some (place_of namespace s.namespaces)) _ _ (λ there other stands. stands)
    (λ new. either_stands name place call (nat_lt (count_by is_taken s.namespaces) most_namespaces) _ _
    (λ room other stands. sym (other_place formed new other) ∙ stands) (λ full other stands. stands)))
    (λ bad other stands. stands)
  where
    unplaced_of : (o : Option ℕ) → is_some o ≡ false → o ≡ None
    unplaced_of None e = refl
    unplaced_of (Some at) e = absurd (true≢false e)

    other_place : is_namespace (record { name = namespace; limit = limit }) ≡ true → is_some (place_of namespace s.namespaces) ≡ false → bytes_eq namespace name ≡ false
        → place_of name (with_namespace (record { name = namespace; limit = limit }) s.namespaces) ≡ place_of name s.namespaces
    other_place formed new other =
        place_of-with name (record { name = namespace; limit = limit }) s.namespaces (namespace_parts (record { name = namespace; limit = limit }) formed).0 (unplaced_of (place_of namespace s.namespaces) new)
        ∙ ap (λ b. cond b (Some (free_place s.namespaces)) (place_of name s.namespaces))
        (false_from_ne_true (bytes_eq name namespace) (λ same. true≢false (sym ((bytes_eq-Decides namespace name).1 (sym ((bytes_eq-Decides name namespace).0 same))) ∙ other)))

removed_stands : (name : Bytes) (place : ℕ) (s : State) (namespace : Bytes) → Good s → place_of name (namespace_remove s namespace).0.namespaces ≡ Some place → place_of name s.namespaces ≡ Some place
removed_stands name place s namespace good = by (place_of namespace s.namespaces) refl
  where
    left : (b : Bool) → cond b None (place_of name s.namespaces) ≡ Some place → place_of name s.namespaces ≡ Some place
    left true stands = absurd (none_some place stands)
    left false stands = stands

    either_left : (at : ℕ) (b : Bool) → (place_of name (without_namespace at s.namespaces) ≡ Some place → place_of name s.namespaces ≡ Some place)
        → place_of name (if b then refused s NotEmpty else (spacing s (without_namespace at s.namespaces), replies.Done)).0.namespaces ≡ Some place → place_of name s.namespaces ≡ Some place
    either_left at true next stands = stands
    either_left at false next stands = next stands

    by : (o : Option ℕ) → place_of namespace s.namespaces ≡ o → place_of name (option_map_or (namespace_remove_at s namespace) o (refused s NoNamespace)).0.namespaces ≡ Some place → place_of name s.namespaces ≡ Some place
    by None e stands = stands
    by (Some at) e stands =
        either_left at (has_records at s.records || has_leases s.leases namespace)
        (λ is. left (bytes_eq name (name_at at s.namespaces)) (sym (place_of-without name s.namespaces at good.distinct (place_of-taken namespace s.namespaces at e)) ∙ is)) stands

step_stands : (name : Bytes) (place : ℕ) (s : State) (call : Call) (given : Given) → Good s → IsAllowed s call given → makes_by name call (step s call given).1 ≡ false
    → place_of name (step s call given).0.namespaces ≡ Some place → place_of name s.namespaces ≡ Some place
step_stands name place s (calls.NamespaceCreate namespace limit) given good allowed other stands = created_stands name place s namespace limit other stands
step_stands name place s (calls.NamespaceRemove namespace) given good allowed other stands = removed_stands name place s namespace good stands
step_stands name place s call given good allowed other stands = sym (step-names s call given tt allowed name) ∙ stands

-- a namespace that none of the entries makes has had its place before them
stood : (name : Bytes) (place : ℕ) (s : State) (es : List Entry) (t : State) → Good s → Replays s es t → last_made name es ≡ None → place_of name t.namespaces ≡ Some place → place_of name s.namespaces ≡ Some place
stood name place s [] t good replays none stands = ap (λ (u : State). place_of name u.namespaces) (sym replays) ∙ stands
stood name place s (e ∷ es) t good replays none stands =
    let parts = none_after name e es none in
    step_stands name place s e.call e.given good replays.0 (ap (makes_by name e.call) (sym replays.1) ∙ parts.1)
    (stood name place (step s e.call e.given).0 es t (good_step s e.call e.given good replays.0) replays.2 parts.0 stands)

-- ---- what the open snapshots of a namespace are charged

-- it has a place for each slot
below-length : (n : ℕ) (rs : List Record) → length (open_below n rs) ≡ n
below-length zero rs = refl
below-length (suc n) rs = (let one = length-append (open_below n rs) (option_map open_share (active_at n rs) ∷ []) in let before = below-length n rs in let h : length (open_below (suc n) rs) ≡ suc n = omega arith in h)

pub shares_of-length : (slots place : ℕ) (rs : List Record) → length (shares_of slots place rs) ≡ slots
shares_of-length slots place rs = length-map (open_below slots rs) (share_for place) ∙ below-length slots rs

-- and is told by its name where no entry makes it
pub stood_shares : (name : Bytes) (place : ℕ) (s : State) (es : List Entry) (t : State) → Good s → Replays s es t → place_of name t.namespaces ≡ Some place → last_made name es ≡ None → shares_of s.slots place s.records ≡ namespace_shares name s
stood_shares name place s es t good replays stands none = rw (stood name place s es t good replays none stands) refl
