-- A commit of an open snapshot.
use Rattle.std.proofs.Common.{◌≡◌, ℕ, List, sym, ap, ◌∙◌, subst}
use Rattle.std.specs.Prelude.{Option, Result, Ok, Err}
use Rattle.snap_layer.specs.Tree.{Tree}
use Rattle.snap_usage.specs.declared.usage.Usage.{Usage}
use Rattle.snap_usage.specs.Counted.{Covers, count_of}
use Rattle.snap_ledger.specs.States.{Meets, ShareState}
use Rattle.snap_record.specs.Labels.{Bytes, Label}
use Rattle.snap_record.specs.Records.{usage_of}
use Rattle.snap_record.specs.declared.record.Record.{Record}
use Rattle.snap_call.specs.declared.call.Call.{Call}
use Rattle.snap_call.specs.declared.call.Call.TheVariants as calls
use Rattle.snap_call.specs.declared.call.Given.TheVariants.{Layer}
use Rattle.snap_call.specs.declared.entry.Entry.{Entry}
use Rattle.snap_call.specs.declared.refusal.Refusal.{Refusal}
use Rattle.snap_call.specs.declared.reply.Reply.TheVariants.{Committed, Refused}
use Rattle.snap_call.specs.declared.state.State.{State}
use Rattle.snap_call.specs.Journal.{call_entry}
use Rattle.snap_call.specs.Records.{active_at, charge_at}
use Rattle.snap_call.specs.Step.{commit_as, counted, refused, step, IsAllowed, IsCovered}
use Rattle.snap_call.proofs.Slots.{charge_at-issued}
use Rattle.snap_book.specs.Book.{commit_reply}

-- a commit of this slot and id has these texts
pub retold : (c : Call) (a b i j : ℕ) (x y : Bytes) (k l : Option Bytes) (p q : Option (List Label)) → c ≡ calls.Commit a b x k p → c ≡ calls.Commit i j y l q → c ≡ calls.Commit a b y l q
retold c a b i j x y k l p q is named = cc

-- the slot is open under the share's id, and its charge covers what the share does
met_covered : (rs : List Record) (share : ShareState) (now : Usage) → Meets (charge_at share.slot rs) share → Covers share.usage now → IsCovered share.id now (active_at share.slot rs)
met_covered rs share now met covers =
    let found = charge_at-issued share.slot rs met.0 in
    let held : usage_of found.0.content ≡ share.usage = found.3 ∙ met.2 in
    subst (λ (o : Option Record). IsCovered share.id now o) (sym found.1) (found.2 ∙ met.1, subst (λ (u : Usage). Covers u now) (sym held) covers)

-- a commit that is refused: its entry, its condition and its step, where meeting changed neither the state nor the share
pub refused_commit : (s t u : State) (share was : ShareState) (slot n : ℕ) (call : Call) (name : Bytes) (lease : Option Bytes) (labels : Option (List Label)) (layer : Tree) (checked : Result (Unit {0}) Refusal) (why : Refusal) (x : Entry) → s ≡ u → share ≡ was → slot ≡ share.slot
    → Meets (charge_at was.slot u.records) was → Covers was.usage (count_of layer)
    → call ≡ calls.Commit share.slot share.id name lease labels
    → x ≡ call_entry n call (Layer layer) (commit_reply checked share.id (count_of layer)) → checked ≡ Err why
    → commit_as s slot name lease labels layer (active_at slot s.records) ≡ refused s why → t ≡ counted s
    → (x ≡ call_entry n call (Layer layer) (Refused why)) × IsAllowed s call (Layer layer) × (step s call (Layer layer) ≡ (t, Refused why))
refused_commit s t u share was slot n call name lease labels layer checked why x same held at met covers is made fails refuses done = (
  made ∙ ap (λ (r : Result (Unit {0}) Refusal). call_entry n call (Layer layer) (commit_reply r share.id (count_of layer))) fails,
  subst (λ (k : Call). IsAllowed s k (Layer layer)) (sym is)
      (subst (λ (v : State). IsCovered share.id (count_of layer) (active_at share.slot v.records)) (sym same)
      (subst (λ (h : ShareState). IsCovered h.id (count_of layer) (active_at h.slot u.records)) (sym held) (met_covered u.records was (count_of layer) met covers))),
  ap (λ (k : Call). step s k (Layer layer)) is
      ∙ (ap (λ (k : ℕ). commit_as s k name lease labels layer (active_at k s.records)) (sym at) ∙ (refuses ∙ ap (λ (v : State). (v, Refused why)) (sym done))),
)

-- a commit that is granted: its entry, its condition and its step
pub granted_commit : (s t : State) (share : ShareState) (n : ℕ) (call : Call) (name : Bytes) (lease : Option Bytes) (labels : Option (List Label)) (layer : Tree) (now : Usage) (checked : Result (Unit {0}) Refusal) (done : Unit {0}) (x : Entry)
    → call ≡ calls.Commit share.slot share.id name lease labels
    → x ≡ call_entry n call (Layer layer) (commit_reply checked share.id (count_of layer)) → checked ≡ Ok done → now ≡ count_of layer
    → IsCovered share.id (count_of layer) (active_at share.slot s.records) → commit_as s share.slot name lease labels layer (active_at share.slot s.records) ≡ (t, Committed share.id now)
    → (x ≡ call_entry n call (Layer layer) (Committed share.id now)) × IsAllowed s call (Layer layer) × (step s call (Layer layer) ≡ (t, Committed share.id now))
granted_commit s t share n call name lease labels layer now checked done x is made ok count covered did = (
  made
      ∙ (ap (λ (r : Result (Unit {0}) Refusal). call_entry n call (Layer layer) (commit_reply r share.id (count_of layer))) ok
      ∙ ap (λ (u : Usage). call_entry n call (Layer layer) (Committed share.id u)) (sym count)),
  subst (λ (k : Call). IsAllowed s k (Layer layer)) (sym is) covered,
  ap (λ (k : Call). step s k (Layer layer)) is ∙ did,
)
