-- What three operations that each need a charge leave on the tape.
use Rattle.std.specs.Prelude.{codes}
use Rattle.snap_record.specs.Labels.{Label}
use Rattle.std.proofs.Common.{◌≡◌, ◌⊎◌, ℕ, List, [], ◌∷◌, ◌++◌, None, Result, Ok, Err, inl, inr, refl, sym, ap, ◌∙◌, subst}
use Rattle.snap_path.specs.Memory.{no_memory}
use Rattle.snap_layer.specs.Tree.{Tree}
use Rattle.snap_layer.specs.Edits.{root_only}
use Rattle.snap_usage.specs.declared.usage.Usage.{Usage}
use Rattle.snap_merge.specs.declared.error.FsError.TheVariants.{NeedsCharge, OutOfMemory}
use Rattle.snap_upper.specs.declared.op.Op.{Op}
use Rattle.snap_upper.specs.After.{Outcome, after}
use Rattle.snap_call.specs.declared.entry.Entry.{Entry}
use Rattle.snap_call.specs.declared.call.Call.TheVariants as calls
use Rattle.snap_call.specs.declared.call.Given.TheVariants.{Nothing, Layer}
use Rattle.snap_call.specs.declared.reply.Reply.TheVariants as replies
use Rattle.snap_call.specs.Journal.{call_entry}
use Rattle.snap_book.specs.Wanted.{wanted_charge}
use Rattle.snap_book.specs.Active.{ActiveValue}
use Rattle.snap_book.specs.Files.{worked}
use Rattle.snap_tape.specs.Tapes.{SessionValue}
use Rattle.snap_store.specs.Values.{IsChargedTo}
use Rattle.snap_writers.specs.declared.running.RunError.{RunError}
use Rattle.snap_writers.specs.Run.{Follows, HasCharged, HasRun}
use Rattle.test_stores.specs.FirstExample.{create, first_layer, mkdir, stepped, write}
use Rattle.test_stores.specs.FirstExample.{IsAt, charge_by, first_tape, used, with_charges}
use Rattle.test_stores.proofs.FirstLayer.{done_is}

abbrev is_done : Result (Unit {0}) RunError → Type 0
is_done (Ok done) = Unit {0}
is_done (Err e) = ⊥

-- an operation that needs a charge and was done was charged for it
charge_made : (s t : SessionValue) (old new : ActiveValue) (op : Op) (need : Usage) → HasRun s t old new op (used 0 0) (Ok tt) → worked op old.share.usage old.layer old.lowers ≡ Err (NeedsCharge need) → HasCharged s t old new op need (wanted_charge need (used 0 0)) (Ok tt)
charge_made s t old new op need run needs = at run.outcome run.answer run.follows
  where
    at : (first : Outcome) → (first ≡ Err (OutOfMemory no_memory)) ⊎ (first ≡ worked op old.share.usage old.layer old.lowers) → Follows s t old new op (used 0 0) first (Ok tt) → HasCharged s t old new op need (wanted_charge need (used 0 0)) (Ok tt)
    at first (inl want) follows = absurd (subst is_done (subst (λ (o : Outcome). Follows s t old new op (used 0 0) o (Ok tt)) want follows).0 tt)
    at first (inr is) follows = subst (λ (o : Outcome). Follows s t old new op (used 0 0) o (Ok tt)) (is ∙ needs) follows

either : (now a : Usage) → (now ≡ a) ⊎ (now ≡ a) → now ≡ a
either now a (inl e) = e
either now a (inr e) = e

-- one such operation
one_more : (slot id : ℕ) (layer next : Tree) (share need : Usage) (op : Op) (s t : SessionValue) (old new : ActiveValue)
    → IsAt slot id layer share old → HasRun s t old new op (used 0 0) (Ok tt)
    → worked op share layer [] ≡ Err (NeedsCharge need) → stepped op layer ≡ next
    → ((now : Usage) → IsChargedTo share need (wanted_charge need (used 0 0)) now → now ≡ need) → wanted_charge need (used 0 0) ≡ need
    → IsAt slot id next need new × (t.number ≡ s.number) × (t.tape ≡ s.tape ++ charge_by s.number slot id need ∷ [])
one_more slot id layer next share need op s t old new at run needs steps now wants =
    let had = charge_made s t old new op need run (subst (λ (l : List Tree). worked op old.share.usage old.layer l ≡ Err (NeedsCharge need)) (sym at.lowers) (subst (λ (l : Tree). worked op old.share.usage l [] ≡ Err (NeedsCharge need)) (sym at.layer_is) (subst (λ (u : Usage). worked op u layer [] ≡ Err (NeedsCharge need)) (sym at.share_is) needs))) in
    let charged = had.0 in
    let amount : new.share.usage ≡ need = now new.share.usage (subst (λ (u : Usage). IsChargedTo u need (wanted_charge need (used 0 0)) new.share.usage) at.share_is charged.amount) in
    let after_is : after op layer [] ≡ Ok new.layer = subst (λ (l : Tree). after op l [] ≡ Ok new.layer) at.layer_is (subst (λ (l : List Tree). after op old.layer l ≡ Ok new.layer) at.lowers had.1) in
    let whole = had.2 in (
      record {
        slot_is = ap (λ (a : ActiveValue). a.share.slot) whole ∙ at.slot_is;
        id_is = ap (λ (a : ActiveValue). a.share.id) whole ∙ at.id_is;
        lowers = ap (λ (a : ActiveValue). a.lowers) whole ∙ at.lowers;
        layer_is = done_is op layer new.layer after_is ∙ steps;
        share_is = amount;
      },
      charged.taped.number,
      charged.taped.tape ∙ ap (λ (e : Entry). s.tape ++ e ∷ []) (entry old.share.slot old.share.id new.share.usage (wanted_charge need (used 0 0)) at.slot_is at.id_is amount wants),
    )
  where
    entry : (sl i : ℕ) (now want : Usage) → sl ≡ slot → i ≡ id → now ≡ need → want ≡ need → call_entry s.number (calls.Charge sl i need want) Nothing (replies.Charged now) ≡ charge_by s.number slot id need
    entry sl i now want e1 e2 e3 e4 =
        ap (λ (x : ℕ). call_entry s.number (calls.Charge x i need want) Nothing (replies.Charged now)) e1
        ∙ ap (λ (x : ℕ). call_entry s.number (calls.Charge slot x need want) Nothing (replies.Charged now)) e2
        ∙ ap (λ (x : Usage). call_entry s.number (calls.Charge slot id need x) Nothing (replies.Charged now)) e4
        ∙ ap (λ (x : Usage). call_entry s.number (calls.Charge slot id need need) Nothing (replies.Charged x)) e3

abbrev two_two : Usage
two_two = used 2 2

-- all three
pub three : (slot id : ℕ) (s0 s1 s2 s3 : SessionValue) (a0 a1 a2 a3 : ActiveValue) → IsAt slot id (root_only (record { mode = 493 }) 1) (used 1 1) a0
    → HasRun s0 s1 a0 a1 mkdir (used 0 0) (Ok tt) → HasRun s1 s2 a1 a2 create (used 0 0) (Ok tt) → HasRun s2 s3 a2 a3 write (used 0 0) (Ok tt)
    → IsAt slot id first_layer (used 4 3) a3 × (s3.number ≡ s0.number) × (s3.tape ≡ with_charges s0.number slot id s0.tape)
unfolding first_layer
three slot id s0 s1 s2 s3 a0 a1 a2 a3 at run1 run2 run3 =
    let l1 = stepped mkdir (root_only (record { mode = 493 }) 1) in
    let l2 = stepped create l1 in
    let one = one_more slot id (root_only (record { mode = 493 }) 1) l1 (used 1 1) (used 2 2) mkdir s0 s1 a0 a1 at run1 refl refl (λ now e. either now (used 2 2) e) refl in
    let two = one_more slot id l1 l2 (used 2 2) (used 2 3) create s1 s2 a1 a2 one.0 run2 refl refl (λ now e. either now (used 2 3) e) refl in
    let last = one_more slot id l2 (stepped write l2) (used 2 3) (used 4 3) write s2 s3 a2 a3 two.0 run3 refl refl (λ now e. either now (used 4 3) e) refl in
    let n2 : s2.number ≡ s0.number = two.1 ∙ one.1 in (
      last.0,
      last.1 ∙ n2,
      last.2 ∙ ap (λ (n : ℕ). s2.tape ++ charge_by n slot id (used 4 3) ∷ []) n2
          ∙ ap (λ (l : List Entry). l ++ charge_by s0.number slot id (used 4 3) ∷ []) (two.2 ∙ ap (λ (n : ℕ). s1.tape ++ charge_by n slot id (used 2 3) ∷ []) one.1
          ∙ ap (λ (l : List Entry). l ++ charge_by s0.number slot id (used 2 3) ∷ []) one.2),
    )

pub three_of : (slot id : ℕ) (s0 s1 s2 s3 : SessionValue) (a0 a1 a2 a3 : ActiveValue) (o1 o2 o3 : Op) → o1 ≡ mkdir → o2 ≡ create → o3 ≡ write → IsAt slot id (root_only (record { mode = 493 }) 1) (used 1 1) a0
    → HasRun s0 s1 a0 a1 o1 (used 0 0) (Ok tt) → HasRun s1 s2 a1 a2 o2 (used 0 0) (Ok tt) → HasRun s2 s3 a2 a3 o3 (used 0 0) (Ok tt)
    → IsAt slot id first_layer (used 4 3) a3 × (s3.number ≡ s0.number) × (s3.tape ≡ with_charges s0.number slot id s0.tape)
three_of slot id s0 s1 s2 s3 a0 a1 a2 a3 o1 o2 o3 m k w at r1 r2 r3 =
    three slot id s0 s1 s2 s3 a0 a1 a2 a3 at
    (subst (λ (o : Op). HasRun s0 s1 a0 a1 o (used 0 0) (Ok tt)) m r1)
    (subst (λ (o : Op). HasRun s1 s2 a1 a2 o (used 0 0) (Ok tt)) k r2)
    (subst (λ (o : Op). HasRun s2 s3 a2 a3 o (used 0 0) (Ok tt)) w r3)

-- the whole tape
pub tape_of : (n0 n1 n2 n3 n4 : ℕ) (t0 t1 t2 t3 t4 : List Entry) (slot id slot4 id4 : ℕ) (chain : List ℕ) (labels : List Label) (layer : Tree) (usage : Usage)
    → t0 ≡ call_entry n0 calls.Session Nothing replies.Opened ∷ []
    → n1 ≡ n0 → t1 ≡ t0
    → n2 ≡ n1 → t2 ≡ t1 ++ call_entry n1 (calls.Prepare (codes "a") (codes "k") [] labels) Nothing (replies.Prepared id slot chain) ∷ [] → labels ≡ []
    → n3 ≡ n2 → t3 ≡ with_charges n2 slot id t2
    → n4 ≡ n3 → t4 ≡ t3 ++ call_entry n3 (calls.Commit slot4 id4 (codes "base") None None) (Layer layer) (replies.Committed id4 usage) ∷ [] → slot4 ≡ slot → id4 ≡ id → usage ≡ used 4 3
    → t4 ≡ first_tape n4 slot id chain layer
tape_of n0 n1 n2 n3 n4 t0 t1 t2 t3 t4 slot id slot4 id4 chain labels layer usage e0 m1 e1 m2 e2 none m3 e3 m4 e4 same_slot same_id takes =
    let S : ℕ → Entry = λ n. call_entry n calls.Session Nothing replies.Opened in
    let P : ℕ → List Label → Entry = λ n l. call_entry n (calls.Prepare (codes "a") (codes "k") [] l) Nothing (replies.Prepared id slot chain) in
    let E : ℕ → ℕ → ℕ → Usage → Entry = λ n sl i u. call_entry n (calls.Commit sl i (codes "base") None None) (Layer layer) (replies.Committed i u) in
    let k3 : n3 ≡ n4 = sym m4 in
    let k2 : n2 ≡ n4 = sym m3 ∙ k3 in
    let k1 : n1 ≡ n4 = sym m2 ∙ k2 in
    let k0 : n0 ≡ n4 = sym m1 ∙ k1 in
    let two : t2 ≡ S n4 ∷ P n4 [] ∷ [] = e2
    ∙ ap (λ (l : List Entry). l ++ P n1 labels ∷ []) (e1 ∙ e0 ∙ ap (λ (n : ℕ). S n ∷ []) k0)
    ∙ ap (λ (n : ℕ). S n4 ∷ P n labels ∷ []) k1
    ∙ ap (λ (l : List Label). S n4 ∷ P n4 l ∷ []) none in
    let end : E n3 slot4 id4 usage ≡ E n4 slot id (used 4 3) = ap (λ (n : ℕ). E n slot4 id4 usage) k3
    ∙ ap (λ (sl : ℕ). E n4 sl id4 usage) same_slot
    ∙ ap (λ (i : ℕ). E n4 slot i usage) same_id
    ∙ ap (λ (u : Usage). E n4 slot id u) takes in
    e4
    ∙ ap (λ (e : Entry). t3 ++ e ∷ []) end
    ∙ ap (λ (l : List Entry). l ++ E n4 slot id (used 4 3) ∷ []) (e3 ∙ ap (λ (n : ℕ). with_charges n slot id t2) k2 ∙ ap (with_charges n4 slot id) two)
