-- A granted view, as the book says it.
use Rattle.std.specs.Prelude.{IfOk, IfErr, IsSomeAnd, if◌then◌else◌, nat_le, Result, Ok, Err}
use Rattle.std.specs.List.{AllByRecursion}
use Rattle.std.specs.Ordering.{is_lt, ordering_reverse}
use Rattle.std.specs.declared.cmp.Ordering.{Ordering}
use Rattle.std.specs.declared.cmp.Ordering.TheVariants.{Less, Equal, Greater}
use Rattle.std.proofs.Common.{◌≡◌, ℕ, ◌+◌, Bool, true, false, true≢false, List, [], ◌∷◌, Option, Some, None, refl, sym, ap, ◌∙◌, subst, arith}
use Rattle.snap_path.specs.Limits.{most_number}
use Rattle.snap_layer.specs.Tree.{Tree}
use Rattle.snap_record.specs.Labels.{Bytes, Label}
use Rattle.snap_record.specs.declared.record.Content.TheVariants as contents
use Rattle.snap_record.specs.declared.record.Record.{Record}
use Rattle.snap_call.specs.declared.call.Call.{Call}
use Rattle.snap_call.specs.declared.call.Call.TheVariants as calls
use Rattle.snap_call.specs.declared.call.Given.TheVariants as givens
use Rattle.snap_call.specs.declared.entry.Entry.{Entry}
use Rattle.snap_call.specs.declared.refusal.Refusal.{Refusal}
use Rattle.snap_call.specs.declared.refusal.Refusal.TheVariants.{NumbersSpent}
use Rattle.snap_call.specs.declared.reply.Reply.{Reply}
use Rattle.snap_call.specs.declared.reply.Reply.TheVariants as replies
use Rattle.snap_call.specs.declared.state.State.{State}
use Rattle.snap_call.specs.Journal.{call_entry}
use Rattle.snap_call.specs.Records.{has_key, is_named, record_cmp, with_record}
use Rattle.snap_call.specs.State.{place_of, ancestors, ids_of, shown_layers}
use Rattle.snap_call.specs.Step.{added, place_for, refused, step, unless_refused, prepare_view, viewed, new_record}
use Rattle.snap_call.proofs.Parts.{view_at}
use Rattle.snap_call.proofs.Lists.{all-map, all-with_record, none-passes}
use Rattle.snap_call.proofs.InOrder.{record_cmp_total, tied-is_named}
use Rattle.snap_call.proofs.Places.{place_for-Ok}
use Rattle.snap_accounts.specs.declared.change.Change.{Change}
use Rattle.snap_accounts.specs.declared.change.Change.TheVariants.{View}
use Rattle.snap_accounts.specs.Changes.{CanChange, changed_state}
use Rattle.snap_accounts.specs.Entries.{IsInEntry}
use Rattle.snap_book.specs.Book.{BookValue, Recorded, RefusedBy}
use Rattle.snap_book.proofs.Keeping.{refused_by}
use Rattle.snap_book.specs.Viewed.{ViewedValue, IsView, HasView, ComesWith, IsViewOf}

-- ---- a record that was added

turned : (o : Ordering) → o ≡ ordering_reverse o → o ≡ Equal
turned Less e = absurd (cc)
turned Equal e = refl
turned Greater e = absurd (cc)

-- what holds of each record holds of it
one_of : (P : Record → Type 0) (r : Record) (rs : List Record) → AllByRecursion P (with_record r rs) → P r
one_of P r [] all = all.0
one_of P r (t ∷ ts) all = by (is_lt (record_cmp r t)) all (one_of P r ts)
  where
    by : (b : Bool) → AllByRecursion P (if b then r ∷ t ∷ ts else t ∷ with_record r ts) → (AllByRecursion P (with_record r ts) → P r) → P r
    by true here next = here.0
    by false later next = next later.1

-- where its key was new, and the same records come of another one, it is that one
same_record : (r q : Record) (rs : List Record) → has_key r.namespace r.key rs ≡ false → with_record q rs ≡ with_record r rs → r ≡ q
same_record r q rs new e =
    let P : Record → Type 0 = λ t. is_named r.namespace r.key t ≡ true → t ≡ q in
    let before : AllByRecursion P rs =
    all-map (λ t. is_named r.namespace r.key t ≡ false) P (λ t no yes. absurd (true≢false (sym yes ∙ no))) rs (none-passes (is_named r.namespace r.key) rs new) in
    one_of P r rs (subst (AllByRecursion P) e (all-with_record q P rs (λ yes. refl) before)) (tied-is_named r r (turned (record_cmp r r) (record_cmp_total.antisymm r r)))

-- ---- the call

abbrev IsGranted : State → Bytes → Bytes → Reply → ViewedValue → Type 0
IsGranted s namespace parent reply v =
    IsSomeAnd (place_of namespace s.namespaces) (λ place. (reply ≡ replies.Viewed v.id (ids_of (ancestors place parent s.records))) × (v.lowers ≡ shown_layers place parent s.records))

-- a refusal adds no record
not_refused : (s : State) (r : Record) (why : Refusal) (reply : Reply) → refused s why ≡ (added s r, reply) → ⊥
not_refused s r why reply e = let next : s.next_id ≡ s.next_id + 1 = ap (λ (p : State × Reply). p.0.next_id) e in omega (arith, next)

same_layers : (a b : List Tree) → contents.View a ≡ contents.View b → a ≡ b
same_layers a b e = cc

granted_viewed : (s : State) (namespace key parent : Bytes) (labels : List Label) (place : ℕ) (r : Record) (reply : Reply) (v : ViewedValue) → place_of namespace s.namespaces ≡ Some place
    → viewed s place key parent labels ≡ (added s r, reply) → CanChange s (View r) → IsViewOf (View r) v → IsGranted s namespace parent reply v
granted_viewed s namespace key parent labels place r reply v named e can is =
    let q : Record = new_record s place key parent labels (contents.View (shown_layers place parent s.records)) in
    let same : r ≡ q = same_record r q s.records can.site.new (ap (λ (p : State × Reply). p.0.records) e) in
    let id : s.next_id ≡ v.id = sym can.id ∙ is.0 in
    let answer : reply ≡ replies.Viewed v.id (ids_of (ancestors place parent s.records)) =
    sym (ap (λ (p : State × Reply). p.1) e) ∙ ap (λ (n : ℕ). replies.Viewed n (ids_of (ancestors place parent s.records))) id in
    let shown : v.lowers ≡ shown_layers place parent s.records = same_layers _ _ (sym is.1 ∙ ap (λ (t : Record). t.content) same) in
    subst (λ o. IsSomeAnd o (λ p. (reply ≡ replies.Viewed v.id (ids_of (ancestors p parent s.records))) × (v.lowers ≡ shown_layers p parent s.records))) (sym named) (answer, shown)

granted_numbered : (s : State) (namespace key parent : Bytes) (labels : List Label) (place : ℕ) (r : Record) (reply : Reply) (v : ViewedValue) (few : Bool) → place_of namespace s.namespaces ≡ Some place
    → (if few then viewed s place key parent labels else refused s NumbersSpent) ≡ (added s r, reply) → CanChange s (View r) → IsViewOf (View r) v → IsGranted s namespace parent reply v
granted_numbered s namespace key parent labels place r reply v true named e can is = granted_viewed s namespace key parent labels place r reply v named e can is
granted_numbered s namespace key parent labels place r reply v false named e can is = absurd (not_refused s r NumbersSpent reply e)

granted_placed : (s : State) (namespace key parent : Bytes) (labels : List Label) (r : Record) (reply : Reply) (v : ViewedValue) (found : Result ℕ Refusal) → place_for s namespace key parent labels ≡ found
    → unless_refused s found (view_at s key parent labels) ≡ (added s r, reply) → CanChange s (View r) → IsViewOf (View r) v → IsGranted s namespace parent reply v
granted_placed s namespace key parent labels r reply v (Ok place) at e can is =
    let named = (place_for-Ok s namespace key parent labels place at).named in
    granted_numbered s namespace key parent labels place r reply v (nat_le s.next_id most_number) named e can is
granted_placed s namespace key parent labels r reply v (Err why) at e can is = absurd (not_refused s r why reply e)

-- the reply to a call View that adds this view, and the layers that the view shows
pub granted_view : (s : State) (namespace key parent : Bytes) (labels : List Label) (change : Change) (reply : Reply) (v : ViewedValue)
    → prepare_view s namespace key parent labels ≡ (changed_state s change, reply) → CanChange s change → IsViewOf change v → IsGranted s namespace parent reply v
granted_view s namespace key parent labels (View r) reply v e can is = granted_placed s namespace key parent labels r reply v (place_for s namespace key parent labels) refl e can is
granted_view s namespace key parent labels change reply v e can is = absurd is

-- what the caller of a call View gets by its reply and its change
pub granted_answer : (s : State) (namespace key parent : Bytes) (labels : List Label) (call : Call) (change : Change) (reply : Reply) (answer : Result ViewedValue Refusal) → call ≡ calls.View namespace key parent labels
    → step s call givens.Nothing ≡ (changed_state s change, reply) → CanChange s change → IfOk answer (IsViewOf change) → IfOk answer (IsGranted s namespace parent reply)
granted_answer s namespace key parent labels call change reply (Err why) is e can made = tt
granted_answer s namespace key parent labels call change reply (Ok v) is e can made =
    granted_view s namespace key parent labels change reply v (ap (λ (o : Call). step s o givens.Nothing) (sym is) ∙ e) can made

-- ---- the view that comes with a reply

-- no other change takes an id
adds_view : (s : State) (change : Change) → CanChange s change → (changed_state s change).next_id ≡ s.next_id + 1 → HasView change
adds_view s (View r) can next = subst IsView (sym can.view) tt
adds_view s change can next = absurd (omega (arith, next))

abbrev IsNoRefusal : Reply → Type 0
IsNoRefusal reply = (why : Refusal) → reply ≡ replies.Refused why → ⊥

refuses : (s t : State) (why : Refusal) (reply : Reply) → refused s why ≡ (t, reply) → IsNoRefusal reply → ⊥
refuses s t why reply e not = not why (sym (ap (λ (p : State × Reply). p.1) e))

numbered_view : (s : State) (key parent : Bytes) (labels : List Label) (place : ℕ) (change : Change) (reply : Reply) (few : Bool)
    → (if few then viewed s place key parent labels else refused s NumbersSpent) ≡ (changed_state s change, reply) → CanChange s change → IsNoRefusal reply → HasView change
numbered_view s key parent labels place change reply true e can not = adds_view s change can (sym (ap (λ (p : State × Reply). p.0.next_id) e))
numbered_view s key parent labels place change reply false e can not = absurd (refuses s (changed_state s change) NumbersSpent reply e not)

placed_view : (s : State) (key parent : Bytes) (labels : List Label) (change : Change) (reply : Reply) (found : Result ℕ Refusal)
    → unless_refused s found (view_at s key parent labels) ≡ (changed_state s change, reply) → CanChange s change → IsNoRefusal reply → HasView change
placed_view s key parent labels change reply (Ok place) e can not = numbered_view s key parent labels place change reply (nat_le s.next_id most_number) e can not
placed_view s key parent labels change reply (Err why) e can not = absurd (refuses s (changed_state s change) why reply e not)

replied_view : (s : State) (namespace key parent : Bytes) (labels : List Label) (change : Change) (reply : Reply)
    → prepare_view s namespace key parent labels ≡ (changed_state s change, reply) → CanChange s change → ComesWith reply change
replied_view s namespace key parent labels change (replies.Refused why) e can = tt
replied_view s namespace key parent labels change reply e can =
    placed_view s key parent labels change reply (place_for s namespace key parent labels) e can (λ why is. absurd (cc))

-- a call View that is not refused adds a view
pub comes_with : (s : State) (namespace key parent : Bytes) (labels : List Label) (call : Call) (change : Change) (reply : Reply) → call ≡ calls.View namespace key parent labels
    → step s call givens.Nothing ≡ (changed_state s change, reply) → CanChange s change → ComesWith reply change
comes_with s namespace key parent labels call change reply is e can =
    replied_view s namespace key parent labels change reply (ap (λ (o : Call). step s o givens.Nothing) (sym is) ∙ e) can

-- ---- the call, as the book says it

some_other : (P Q : ℕ → Type 0) (o : Option ℕ) → ((n : ℕ) → P n → Q n) → IsSomeAnd o P → IsSomeAnd o Q
some_other P Q None f is = absurd is
some_other P Q (Some n) f is = f n is

-- what is granted where the book is as it was when the call began, and the entry is that of the call
pub granted_at : (mid old new : BookValue) (n : ℕ) (namespace parent : Bytes) (call : Call) (e : Entry) (answer : Result ViewedValue Refusal) → mid ≡ old → e ≡ call_entry n call givens.Nothing e.reply
    → Recorded mid new e.session e.call e.given e.reply → IfOk answer (IsGranted mid.state namespace parent e.reply)
    → IfOk answer (λ v. IsSomeAnd (place_of namespace old.state.namespaces) (λ place. Recorded old new n call givens.Nothing (replies.Viewed v.id (ids_of (ancestors place parent old.state.records)))))
granted_at mid old new n namespace parent call e (Err why) same is noted granted = tt
granted_at mid old new n namespace parent call e (Ok v) same is noted granted =
    let from_old : Recorded old new e.session e.call e.given e.reply = subst (λ (b : BookValue). Recorded b new e.session e.call e.given e.reply) same noted in
    let of_call : Recorded old new n call givens.Nothing e.reply = subst (λ (x : Entry). Recorded old new x.session x.call x.given e.reply) is from_old in
    some_other _ _ (place_of namespace old.state.namespaces)
    (λ place parts. subst (λ (reply : Reply). Recorded old new n call givens.Nothing reply) parts.0 of_call)
    (subst (λ (b : BookValue). IsGranted b.state namespace parent e.reply v) same granted)

pub lowers_at : (mid old : BookValue) (namespace parent : Bytes) (reply : Reply) (answer : Result ViewedValue Refusal) → mid ≡ old → IfOk answer (IsGranted mid.state namespace parent reply)
    → IfOk answer (λ v. IsSomeAnd (place_of namespace old.state.namespaces) (λ place. v.lowers ≡ shown_layers place parent old.state.records))
lowers_at mid old namespace parent reply (Err why) same granted = tt
lowers_at mid old namespace parent reply (Ok v) same granted =
    some_other _ _ (place_of namespace old.state.namespaces) (λ place parts. parts.1) (subst (λ (b : BookValue). IsGranted b.state namespace parent reply v) same granted)

-- a refusal that is answered is the recorded one
pub refused_at : (old new : BookValue) (n : ℕ) (call : Call) (reply : Reply) (answer : Result ViewedValue Refusal) → Recorded old new n call givens.Nothing reply → IsInEntry reply
    → IfErr answer (λ why. reply ≡ replies.Refused why) → IfErr answer (λ why. RefusedBy old new n call givens.Nothing why)
refused_at old new n call reply (Ok v) noted kept is = tt
refused_at old new n call reply (Err why) noted kept is = refused_by why old new n call givens.Nothing (subst IsInEntry is kept) (subst (λ (r : Reply). Recorded old new n call givens.Nothing r) is noted)
