-- What the first example's tape makes of a new store, and that a journal of one session is its tape.
use Rattle.std.proofs.Common.{◌≡◌, ℕ, ◌+◌, ◌<◌, Bool, List, [], ◌∷◌, Option, Some, refl, sym, ap, ◌∙◌, subst, arith}
use Rattle.std.proofs.lemmas.Bool.{eq-eqb}
use Rattle.std.specs.Prelude.{codes, cond}
use Rattle.std.specs.List.{AllByRecursion}
use Rattle.std.specs.Option.{option_map}
use Rattle.snap_layer.specs.Tree.{Tree}
use Rattle.snap_usage.specs.declared.usage.Usage.{Usage}
use Rattle.snap_usage.specs.Counted.{count_of}
use Rattle.snap_call.specs.declared.reply.Reply.{Reply}
use Rattle.snap_call.specs.declared.reply.Reply.TheVariants as replies
use Rattle.snap_call.specs.declared.state.State.{State}
use Rattle.snap_call.specs.Journal.{Replays, session_entries}
use Rattle.snap_call.specs.Records.{lowest_free, sum_of}
use Rattle.snap_call.specs.State.{opening, place_of}
use Rattle.snap_call.specs.Totals.{counted_in}
use Rattle.snap_call.specs.Step.{step}
use Rattle.snap_call.specs.declared.call.Call.TheVariants as calls
use Rattle.snap_call.specs.declared.call.Given.TheVariants.{Nothing}
use Rattle.test_stores.specs.FirstExample.{after_prepare, first_config, first_tape, used}
use Rattle.snap_call.specs.declared.entry.Entry.{Entry}
use Rattle.snap_book.specs.Book.{BookValue}
use Rattle.snap_tape.specs.Tapes.{SessionValue}
use Rattle.snap_store.specs.Closing.{AreSessions, KeptBook}

abbrev slot_in : Reply → ℕ
slot_in (replies.Prepared id slot chain) = slot
slot_in reply = 0

-- what the namespace a is charged
abbrev total : State → Option Usage
total s = option_map (λ place. sum_of counted_in place s.records) (place_of (codes "a") s.namespaces)

pub first_total : (n slot id : ℕ) (chain : List ℕ) (layer : Tree) (t : State) → Replays (opening first_config) (first_tape n slot id chain layer) t → count_of layer ≡ used 4 3 → option_map (λ place. sum_of counted_in place t.records) (place_of (codes "a") t.namespaces) ≡ Some (used 4 3)
unfolding lowest_free
first_total n slot id chain layer t r count =
    let prepared = r.2 in
    let at_0 : slot ≡ 0 = ap slot_in prepared.1 in
    let s1 : State = (step (opening first_config) calls.Session Nothing).0 in
    let s2 : State = (step s1 (calls.Prepare (codes "a") (codes "k") [] []) Nothing).0 in
    let rest : Replays s2 (after_prepare n 0 id layer) t = subst (λ (k : ℕ). Replays s2 (after_prepare n k id layer) t) at_0 prepared.2 in
    let last = rest.2.2.2.2 in
    ap total last ∙ ap (λ (u : Usage). Some (used (u.blocks + 0) (u.inodes + 0))) count

own_all : (es : List Entry) → AllByRecursion (λ e. e.session < 1) es → session_entries es 0 ≡ es
own_all [] all = refl
own_all (e ∷ es) all =
    let none : e.session ≡ 0 = omega (arith, all.0) in
    subst (λ (b : Bool). cond b (e ∷ session_entries es 0) (session_entries es 0) ≡ e ∷ es) (sym (eq-eqb e.session 0 none)) (ap (λ (l : List Entry). e ∷ l) (own_all es all.1))

pub one_session : (journal : List Entry) (s : SessionValue) → AreSessions journal (s ∷ []) → journal ≡ s.tape
one_session journal s are =
    let none : s.number ≡ 0 = omega (arith, are.all.once.inside.0) in
    sym (are.tapes.0 ∙ (ap (session_entries journal) none ∙ own_all journal are.all.known))

pub closed_total : (b : BookValue) (s : SessionValue) (slot id : ℕ) (chain : List ℕ) (layer : Tree) → AreSessions b.journal (s ∷ []) → KeptBook b → b.opening ≡ opening first_config → s.tape ≡ first_tape s.number slot id chain layer → count_of layer ≡ used 4 3 → option_map (λ place. sum_of counted_in place b.state.records) (place_of (codes "a") b.state.namespaces) ≡ Some (used 4 3)
closed_total b s slot id chain layer are kept began tape count =
    let from = subst (λ (o : State). Replays o b.journal b.state) began kept.replays in
    first_total s.number slot id chain layer b.state (subst (λ (j : List Entry). Replays (opening first_config) j b.state) (one_session b.journal s are ∙ tape) from) count
