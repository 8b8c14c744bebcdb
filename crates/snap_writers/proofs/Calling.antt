-- What calls leave on a worker's tape, one after another.
use Rattle.std.specs.Prelude.{◌-◌, IfOk, IfErr, get_or, slice_get, take}
use Rattle.std.specs.List.{AllByRecursion}
use Rattle.std.proofs.Common.{◌≡◌, ◌⊎◌, inl, inr, ℕ, ◌+◌, ◌<◌, List, [], ◌∷◌, ◌++◌, length, Option, None, Some, Result, Ok, Err, refl, sym, ap, ◌∙◌, subst, arith, add-one, append-nil}
use Rattle.std.proofs.Math.Seq.{take-suc}
use Rattle.std.proofs.lemmas.List.{append_assoc}
use Rattle.std.proofs.lemmas.Option.{slice_get-get_or}
use Rattle.snap_path.specs.Memory.{no_memory}
use Rattle.snap_layer.specs.Tree.{Tree}
use Rattle.snap_usage.specs.Counted.{count_of}
use Rattle.snap_usage.specs.declared.usage.Usage.{Usage}
use Rattle.snap_record.specs.Labels.{Bytes, Label}
use Rattle.snap_upper.specs.declared.op.Op.{Op}
use Rattle.snap_upper.specs.After.{Outcome, after}
use Rattle.snap_call.specs.declared.call.Call.{Call}
use Rattle.snap_call.specs.declared.call.Call.TheVariants as calls
use Rattle.snap_call.specs.declared.call.Given.{Given}
use Rattle.snap_call.specs.declared.call.Given.TheVariants.{Nothing, Layer}
use Rattle.snap_call.specs.declared.entry.Entry.{Entry}
use Rattle.snap_call.specs.declared.refusal.Refusal.{Refusal}
use Rattle.snap_call.specs.declared.refusal.Refusal.TheVariants.{JournalFull, OutOfMemory}
use Rattle.snap_call.specs.declared.reply.Reply.{Reply}
use Rattle.snap_call.specs.declared.reply.Reply.TheVariants as replies
use Rattle.snap_call.specs.Journal.{call_entry}
use Rattle.snap_call.specs.State.{ancestors, ids_of}
use Rattle.snap_book.specs.Active.{ActiveValue, fresh}
use Rattle.snap_tape.specs.Tapes.{RefusedOn, SessionValue, Taped, Untaped}
use Rattle.snap_store.specs.Values.{IsPrepared}
use Rattle.snap_writers.specs.Run.{IsSameSnapshot}
use Rattle.snap_writers.specs.declared.running.RunError.{RunError}
use Rattle.snap_writers.specs.declared.running.RunError.TheVariants.{File, Book}
use Rattle.snap_writers.specs.declared.job.Job.{Job}
use Rattle.snap_writers.specs.Jobs.{IsCharge, IsErrorOf, IsUndone, all_after, charge_call, discard_entry, prepare_call, prepared_entry, refused_entry, then_after}
use Rattle.snap_writers.specs.Going.{HasOperated, HasTried, IsWithinOrCharged, IsFresh, Went}

pub all_append : {A : Type 0} (P : A → Type 0) (xs ys : List A) → AllByRecursion P xs → AllByRecursion P ys → AllByRecursion P (xs ++ ys)
all_append P [] ys p q = q
all_append P (x ∷ xs) ys p q = (p.0, all_append P xs ys p.1 q)

-- ---- entries

pub untaped : (old new : SessionValue) → Untaped old new → Went old new []
untaped old new same = record { number = same.number; tape = same.tape ∙ sym (append-nil old.tape) }

pub taped : (old new : SessionValue) (call : Call) (given : Given) (reply : Reply) → Taped old new call given reply → Went old new (call_entry old.number call given reply ∷ [])
taped old new call given reply t = record { number = t.number; tape = t.tape }

pub refused : (old new : SessionValue) (call : Call) (given : Given) (why : Refusal) → RefusedOn old new call given why → Went old new (refused_entry old.number call given why)
refused old new call given JournalFull by = untaped old new by
refused old new call given (OutOfMemory want) by = untaped old new by
refused old new call given why by = taped old new call given (replies.Refused why) by

pub stays : (old new : SessionValue) → new ≡ old → Went old new []
stays old new same = subst (λ (s : SessionValue). Went old s []) (sym same) (record { number = refl; tape = sym (append-nil old.tape) })

pub then_on : (old mid new : SessionValue) (p q : List Entry) → Went old mid p → Went mid new q → Went old new (p ++ q)
then_on old mid new p q a b = record { number = b.number ∙ a.number; tape = b.tape ∙ (ap (λ (l : List Entry). l ++ q) a.tape ∙ append_assoc old.tape p q) }

-- entries that name the session's number, which stays
pub then_so : (old mid new : SessionValue) (p : List Entry) (q : ℕ → List Entry) → Went old mid p → Went mid new (q mid.number) → Went old new (p ++ q old.number)
then_so old mid new p q a b = then_on old mid new p (q old.number) a (subst (λ n. Went mid new (q n)) a.number b)

-- once room was made on the tape
pub from_untaped : (old mid new : SessionValue) (q : ℕ → List Entry) → Untaped old mid → Went mid new (q mid.number) → Went old new (q old.number)
from_untaped old mid new q same b = then_so old mid new [] q (untaped old mid same) b

-- ---- a prepare

prepare_is : (j : Job) (namespace key parent : Bytes) (labels : List Label) → namespace ≡ j.namespace → key ≡ j.key → parent ≡ j.parent → labels ≡ [] → calls.Prepare namespace key parent labels ≡ prepare_call j
prepare_is j namespace key parent labels n k p l =
    ap (λ x. calls.Prepare x key parent labels) n
    ∙ (ap (λ x. calls.Prepare j.namespace x parent labels) k ∙ (ap (λ x. calls.Prepare j.namespace j.key x labels) p ∙ ap (λ x. calls.Prepare j.namespace j.key j.parent x) l))

fresh_so : (inodes : ℕ) (old mid new : SessionValue) (j : Job) (namespace key parent : Bytes) (labels : List Label) (a : ActiveValue) → Untaped old mid → namespace ≡ j.namespace → key ≡ j.key → parent ≡ j.parent → labels ≡ [] → IsPrepared inodes mid new namespace key parent labels a → IsFresh inodes old new j a
fresh_so inodes old mid new j namespace key parent labels a same n k p l is =
    let chain = ids_of (ancestors a.namespace parent is.met.records) in
    let call = subst (λ (c : Call). Taped mid new c Nothing (replies.Prepared a.share.id a.share.slot chain)) (prepare_is j namespace key parent labels n k p l) is.taped in
    record {
      chain = chain;
      went = from_untaped old mid new (λ m. prepared_entry m j a.share.slot a.share.id chain ∷ []) same (taped mid new (prepare_call j) Nothing (replies.Prepared a.share.id a.share.slot chain) call);
      base = λ none. is.base (p ∙ none);
      layer = is.layer;
    }

pub prepare_granted : (inodes : ℕ) (old mid new : SessionValue) (j : Job) (namespace key parent : Bytes) (labels : List Label) (answer : Result ActiveValue Refusal) → Untaped old mid → namespace ≡ j.namespace → key ≡ j.key → parent ≡ j.parent → labels ≡ [] → IfOk answer (λ a. IsPrepared inodes mid new namespace key parent labels a) → IfOk answer (λ a. IsFresh inodes old new j a)
prepare_granted inodes old mid new j namespace key parent labels (Ok a) same n k p l is = fresh_so inodes old mid new j namespace key parent labels a same n k p l is
prepare_granted inodes old mid new j namespace key parent labels (Err why) same n k p l is = tt

pub prepare_refused : (old mid new : SessionValue) (j : Job) (namespace key parent : Bytes) (labels : List Label) (answer : Result ActiveValue Refusal) → Untaped old mid → namespace ≡ j.namespace → key ≡ j.key → parent ≡ j.parent → labels ≡ [] → IfErr answer (λ why. RefusedOn mid new (calls.Prepare namespace key parent labels) Nothing why) → IfErr answer (λ why. Went old new (refused_entry old.number (prepare_call j) Nothing why))
prepare_refused old mid new j namespace key parent labels (Ok a) same n k p l by = tt
prepare_refused old mid new j namespace key parent labels (Err why) same n k p l by =
    from_untaped old mid new (λ m. refused_entry m (prepare_call j) Nothing why) same (refused mid new (prepare_call j) Nothing why (subst (λ (c : Call). RefusedOn mid new c Nothing why) (prepare_is j namespace key parent labels n k p l) by))

-- ---- a discard and a commit

pub discard_went : (s t : SessionValue) (slot id : ℕ) (freed held : Usage) → freed ≡ held → Taped s t (calls.Discard slot id) Nothing (replies.Discarded freed) → Went s t (discard_entry s.number slot id held ∷ [])
discard_went s t slot id freed held is call = subst (λ (u : Usage). Went s t (discard_entry s.number slot id u ∷ [])) is (taped s t (calls.Discard slot id) Nothing (replies.Discarded freed) call)

abbrev pub commit_call : ActiveValue → Bytes → Option Bytes → Option (List Label) → Call
commit_call a name lease labels = calls.Commit a.share.slot a.share.id name lease labels

pub commit_went : (old mid new : SessionValue) (a sealed : ActiveValue) (name text : Bytes) (lease : Option Bytes) (labels : Option (List Label)) (usage : Usage) → sealed ≡ a → text ≡ name → Untaped old mid → Taped mid new (commit_call sealed text lease labels) (Layer sealed.layer) (replies.Committed sealed.share.id usage)
    → Went old new (call_entry old.number (commit_call a name lease labels) (Layer a.layer) (replies.Committed a.share.id usage) ∷ [])
commit_went old mid new a sealed name text lease labels usage is named same call =
    from_untaped old mid new (λ n. call_entry n (commit_call a name lease labels) (Layer a.layer) (replies.Committed a.share.id usage) ∷ []) same
    (subst (λ (x : ActiveValue). Went mid new (call_entry mid.number (commit_call x name lease labels) (Layer x.layer) (replies.Committed x.share.id usage) ∷ [])) is
    (subst (λ (x : Bytes). Went mid new (call_entry mid.number (commit_call sealed x lease labels) (Layer sealed.layer) (replies.Committed sealed.share.id usage) ∷ [])) named
    (taped mid new (commit_call sealed text lease labels) (Layer sealed.layer) (replies.Committed sealed.share.id usage) call)))

-- a refused commit, after which the snapshot that came back is discarded
pub commit_refused : (old mid new end : SessionValue) (a sealed back : ActiveValue) (name text : Bytes) (lease : Option Bytes) (labels : Option (List Label)) (why : Refusal) → sealed ≡ a → back ≡ sealed → text ≡ name → Untaped old mid → RefusedOn mid new (commit_call sealed text lease labels) (Layer sealed.layer) why → Went new end (discard_entry new.number back.share.slot back.share.id back.share.usage ∷ [])
    → Went old end (refused_entry old.number (commit_call a name lease labels) (Layer a.layer) why ++ discard_entry old.number a.share.slot a.share.id a.share.usage ∷ [])
commit_refused old mid new end a sealed back name text lease labels why is came named same by went =
    let call = subst (λ (x : ActiveValue). RefusedOn mid new (commit_call x name lease labels) (Layer x.layer) why) is (subst (λ (x : Bytes). RefusedOn mid new (commit_call sealed x lease labels) (Layer sealed.layer) why) named by) in
    let first = from_untaped old mid new (λ n. refused_entry n (commit_call a name lease labels) (Layer a.layer) why) same (refused mid new (commit_call a name lease labels) (Layer a.layer) why call) in
    then_so old new end (refused_entry old.number (commit_call a name lease labels) (Layer a.layer) why) (λ n. discard_entry n a.share.slot a.share.id a.share.usage ∷ []) first
    (subst (λ (x : ActiveValue). Went new end (discard_entry new.number x.share.slot x.share.id x.share.usage ∷ [])) (came ∙ is) went)

-- no memory for the commit, and the snapshot is discarded
pub commit_none : (old mid end : SessionValue) (a back : ActiveValue) (name : Bytes) (lease : Option Bytes) (labels : Option (List Label)) (why : Refusal) → back ≡ a → why ≡ OutOfMemory no_memory → Untaped old mid → Went mid end (discard_entry mid.number back.share.slot back.share.id back.share.usage ∷ [])
    → Went old end (refused_entry old.number (commit_call a name lease labels) (Layer a.layer) why ++ discard_entry old.number a.share.slot a.share.id a.share.usage ∷ [])
commit_none old mid end a back name lease labels why is memory same went =
    subst (λ (w : Refusal). Went old end (refused_entry old.number (commit_call a name lease labels) (Layer a.layer) w ++ discard_entry old.number a.share.slot a.share.id a.share.usage ∷ [])) (sym memory)
    (from_untaped old mid end (λ n. discard_entry n a.share.slot a.share.id a.share.usage ∷ []) same (subst (λ (x : ActiveValue). Went mid end (discard_entry mid.number x.share.slot x.share.id x.share.usage ∷ [])) is went))

-- ---- several operations

then_after-then : (o : Outcome) (f g : Tree → Outcome) → then_after (then_after o f) g ≡ then_after o (λ t. then_after (f t) g)
then_after-then (Ok t) f g = refl
then_after-then (Err e) f g = refl

then_after-same : (o : Outcome) (f g : Tree → Outcome) → ((t : Tree) → f t ≡ g t) → then_after o f ≡ then_after o g
then_after-same (Ok t) f g same = same t
then_after-same (Err e) f g same = refl

all_after-append : (ops more : List Op) (layer : Tree) (lowers : List Tree) → all_after (ops ++ more) layer lowers ≡ then_after (all_after ops layer lowers) (λ t. all_after more t lowers)
all_after-append [] more layer lowers = refl
all_after-append (op ∷ ops) more layer lowers =
    then_after-same (after op layer lowers) (λ t. all_after (ops ++ more) t lowers) (λ t. then_after (all_after ops t lowers) (λ u. all_after more u lowers)) (λ t. all_after-append ops more t lowers)
    ∙ sym (then_after-then (after op layer lowers) (λ t. all_after ops t lowers) (λ u. all_after more u lowers))

-- one operation more
pub all_after-more : (ops : List Op) (i : ℕ) (op d : Op) (layer mid next : Tree) (lowers now : List Tree) → i < length ops → op ≡ get_or ops i d → now ≡ lowers → all_after (take i ops) layer lowers ≡ Ok mid → after op mid now ≡ Ok next → all_after (take (i + 1) ops) layer lowers ≡ Ok next
all_after-more ops i op d layer mid next lowers now low is same before then =
    let grown : take (i + 1) ops ≡ take i ops ++ get_or ops i d ∷ [] = rw add-one (take-suc ops i d low) in
    ap (λ (l : List Op). all_after l layer lowers) grown
    ∙ (all_after-append (take i ops) (get_or ops i d ∷ []) layer lowers
    ∙ (ap (λ (o : Outcome). then_after o (λ t. all_after (get_or ops i d ∷ []) t lowers)) before
    ∙ (ap (λ (o : Op). then_after (after o mid lowers) (λ t. Ok t)) (sym is) ∙ (ap (λ (l : List Tree). then_after (after op mid l) (λ t. Ok t)) (sym same) ∙ ap (λ (o : Outcome). then_after o (λ t. Ok t)) then))))

pub same_snapshot : (a b c : ActiveValue) → IsSameSnapshot a b → IsSameSnapshot b c → IsSameSnapshot a c
same_snapshot a b c p q = record { namespace = q.namespace ∙ p.namespace; key = q.key ∙ p.key; lowers = q.lowers ∙ p.lowers; slot = q.slot ∙ p.slot; id = q.id ∙ p.id }

-- ---- operations, one after another

-- once room was made on the tape
pub tried_from : (j : Job) (old mid new : SessionValue) (a : ActiveValue) (op : Op) (result : Result Unit RunError) → Untaped old mid → HasTried j mid new a op result → HasTried j old new a op result
tried_from j old mid new a op (Ok done) same (more, covered, went) = (more, subst (λ n. IsWithinOrCharged n j a op more) same.number covered, then_on old mid new [] more (untaped old mid same) went)
tried_from j old mid new a op (Err error) same (more, entry, covered, why, went) = (
  more,
  entry,
  subst (λ n. IsWithinOrCharged n j a op more) same.number covered,
  subst (λ n. IsErrorOf n j a.share.slot a.share.id error op a.layer a.lowers entry) same.number why,
  then_on old mid new [] (more ++ entry) (untaped old mid same) went,
)

-- no memory for room on the tape
pub tried_none : (j : Job) (old new : SessionValue) (a : ActiveValue) (op : Op) (want : Refusal) → want ≡ OutOfMemory no_memory → new ≡ old → HasTried j old new a op (Err (Book want))
tried_none j old new a op want is same = ([], [], inl refl, inl (is, refl), stays old new same)

abbrev AreCharges : ℕ → Job → ActiveValue → List Entry → Type 0
AreCharges n j a es = AllByRecursion (IsCharge n j a.share.slot a.share.id a.layer a.lowers) es

-- the entries of a covered operation, after those before it
covered_charges : (n : ℕ) (j : Job) (a b : ActiveValue) (i : ℕ) (op d : Op) (more : List Entry) → i < length j.ops → op ≡ get_or j.ops i d → IsSameSnapshot a b → all_after (take i j.ops) a.layer a.lowers ≡ Ok b.layer → IsWithinOrCharged n j b op more → AreCharges n j a more
covered_charges n j a b i op d more low is same before (inl none) = subst (AreCharges n j a) (sym none) tt
covered_charges n j a b i op d more low is same before (inr (next, now, done, are)) = subst (AreCharges n j a) (sym are) (
  record {
    place = i;
    next = next;
    now = now;
    inside = low;
    made = all_after-more j.ops i op d a.layer b.layer next a.lowers b.lowers low is same.lowers before done;
    is =
        ap (λ slot. call_entry n (charge_call j slot b.share.id (count_of next)) Nothing (replies.Charged now)) same.slot
        ∙ ap (λ id. call_entry n (charge_call j a.share.slot id (count_of next)) Nothing (replies.Charged now)) same.id;
  },
  tt,
)

pub operated_none : (j : Job) (a : ActiveValue) (s : SessionValue) → HasOperated j a s s []
operated_none j a s = record { charges = []; needed = tt; went = stays s s refl }

operated_more : (j : Job) (a : ActiveValue) (s t u : SessionValue) (more last : List Entry) → HasOperated j a s t [] → AreCharges s.number j a more → Went t u (more ++ last) → HasOperated j a s u last
operated_more j a s t u more last was needed went = record {
  charges = was.charges ++ more;
  needed = all_append (IsCharge s.number j a.share.slot a.share.id a.layer a.lowers) was.charges more was.needed needed;
  went = subst (Went s u) (ap (λ (l : List Entry). l ++ (more ++ last)) (append-nil was.charges) ∙ sym (append_assoc was.charges more last)) (then_on s t u (was.charges ++ []) (more ++ last) was.went went);
}

-- other entries after them
pub operated_then : (j : Job) (a : ActiveValue) (s t u : SessionValue) (last : List Entry) (q : ℕ → List Entry) → HasOperated j a s t last → Went t u (q t.number) → HasOperated j a s u (last ++ q s.number)
operated_then j a s t u last q was went = record {
  charges = was.charges;
  needed = was.needed;
  went = subst (Went s u) (append_assoc was.charges last (q s.number)) (then_so s t u (was.charges ++ last) q was.went went);
}

-- one operation more is done
pub operated_on : (j : Job) (a b : ActiveValue) (s t asked u : SessionValue) (i : ℕ) (op d : Op) → i < length j.ops → op ≡ get_or j.ops i d → IsSameSnapshot a b → all_after (take i j.ops) a.layer a.lowers ≡ Ok b.layer → HasOperated j a s t [] → asked ≡ t → HasTried j asked u b op (Ok tt) → HasOperated j a s u []
operated_on j a b s t asked u i op d low is same before was still tried = by (subst (λ (x : SessionValue). HasTried j x u b op (Ok tt)) still tried)
  where
    by : HasTried j t u b op (Ok tt) → HasOperated j a s u []
    by (more, covered, went) = operated_more j a s t u more [] was (covered_charges s.number j a b i op d more low is same before (subst (λ n. IsWithinOrCharged n j b op more) was.went.number covered)) (subst (Went t u) (sym (append-nil more)) went)

-- ---- an operation that is not done

undone : (n : ℕ) (j : Job) (a b : ActiveValue) (i place : ℕ) (op : Op) (error : RunError) (entry : List Entry) → i < length j.ops → place ≡ i + 1 → op ≡ get_or j.ops i op → IsSameSnapshot a b → all_after (take i j.ops) a.layer a.lowers ≡ Ok b.layer → IsErrorOf n j b.share.slot b.share.id error op b.layer b.lowers entry → IsUndone n j a.share.slot a.share.id place error a.layer a.lowers entry
undone n j a b i place op error entry low next is same before why =
    let back : place - 1 ≡ i = omega (arith, next) in
    record {
      op = op;
      at = b.layer;
      first = omega (arith, next);
      is = ap (slice_get j.ops) back ∙ (slice_get-get_or j.ops i op low ∙ ap (λ (o : Op). Some o) (sym is));
      made = ap (λ k. all_after (take k j.ops) a.layer a.lowers) back ∙ before;
      why =
          subst (λ (l : List Tree). IsErrorOf n j a.share.slot a.share.id error op b.layer l entry) same.lowers
          (subst (λ id. IsErrorOf n j a.share.slot id error op b.layer b.lowers entry) same.id (subst (λ slot. IsErrorOf n j slot b.share.id error op b.layer b.lowers entry) same.slot why));
    }

-- the operation at this place, where those before it are done
pub operated_up_to : (j : Job) (a b : ActiveValue) (s t asked u : SessionValue) (i place : ℕ) (op : Op) (error : RunError) → i < length j.ops → place ≡ i + 1 → op ≡ get_or j.ops i op → IsSameSnapshot a b → all_after (take i j.ops) a.layer a.lowers ≡ Ok b.layer → HasOperated j a s t [] → asked ≡ t → HasTried j asked u b op (Err error)
    → (entry : List Entry) × HasOperated j a s u entry × IsUndone s.number j a.share.slot a.share.id place error a.layer a.lowers entry
operated_up_to j a b s t asked u i place op error low next is same before was still tried = by (subst (λ (x : SessionValue). HasTried j x u b op (Err error)) still tried)
  where
    by : HasTried j t u b op (Err error) → (entry : List Entry) × HasOperated j a s u entry × IsUndone s.number j a.share.slot a.share.id place error a.layer a.lowers entry
    by (more, entry, covered, why, went) = (
      entry,
      operated_more j a s t u more entry was (covered_charges s.number j a b i op op more low is same before (subst (λ n. IsWithinOrCharged n j b op more) was.went.number covered)) went,
      undone s.number j a b i place op error entry low next is same before (subst (λ n. IsErrorOf n j b.share.slot b.share.id error op b.layer b.lowers entry) was.went.number why),
    )
