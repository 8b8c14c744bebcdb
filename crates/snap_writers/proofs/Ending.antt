-- How a job ends, by its entries.
use Rattle.std.proofs.Common.{◌≡◌, inl, inr, ℕ, List, [], ◌∷◌, ◌++◌, Option, None, Some, Ok, refl, sym, ap, ◌∙◌, subst}
use Rattle.std.specs.List.{AllByRecursion}
use Rattle.snap_layer.specs.Tree.{Tree}
use Rattle.snap_usage.specs.declared.usage.Usage.{Usage}
use Rattle.snap_call.specs.declared.call.Call.TheVariants as calls
use Rattle.snap_call.specs.declared.call.Given.TheVariants.{Nothing, Layer}
use Rattle.snap_call.specs.declared.entry.Entry.{Entry}
use Rattle.snap_call.specs.declared.refusal.Refusal.{Refusal}
use Rattle.snap_call.specs.declared.reply.Reply.TheVariants as replies
use Rattle.snap_call.specs.Journal.{call_entry}
use Rattle.snap_book.specs.Active.{ActiveValue, fresh}
use Rattle.snap_tape.specs.Tapes.{SessionValue}
use Rattle.snap_writers.specs.Run.{IsSameSnapshot}
use Rattle.snap_writers.specs.declared.running.RunError.{RunError}
use Rattle.snap_writers.specs.declared.job.Job.{Job}
use Rattle.snap_writers.specs.declared.job.Ended.{Ended}
use Rattle.snap_writers.specs.declared.job.Ended.TheVariants as ended
use Rattle.snap_writers.specs.declared.worker.Stop.{Stop}
use Rattle.snap_writers.specs.declared.worker.Stop.TheVariants.{Gate, Failed}
use Rattle.snap_writers.specs.Jobs.{HasCalls, IsCharge, IsEndOf, IsUndone, all_after, discard_entry, prepare_call, prepared_entry, refused_entry}
use Rattle.snap_writers.specs.Going.{HasEnded, HasOperated, HasRunJob, IsFresh, IsRunOf, IsStopOf, Went}
use Rattle.snap_writers.proofs.Calling.{operated_then, stays, then_on}

-- a snapshot's discard is that of the same snapshot as it was
same_discard : (a b : ActiveValue) (s t : SessionValue) (before : List Entry) → IsSameSnapshot a b → Went s t (before ++ discard_entry s.number b.share.slot b.share.id b.share.usage ∷ []) → Went s t (before ++ discard_entry s.number a.share.slot a.share.id b.share.usage ∷ [])
same_discard a b s t before same went =
    subst (λ id. Went s t (before ++ discard_entry s.number a.share.slot id b.share.usage ∷ [])) same.id (subst (λ slot. Went s t (before ++ discard_entry s.number slot b.share.id b.share.usage ∷ [])) same.slot went)

-- the end of a job that was stopped, where it has one
abbrev pub end_of : Stop → Option Ended
end_of Gate = None
end_of (Failed place error) = Some (ended.Failed place error)

module _ (inodes : ℕ) (j : Job) (a : ActiveValue) (chain : List ℕ) (base : j.parent ≡ [] → a.lowers ≡ []) (layer : a.layer ≡ fresh inodes a.lowers) where
  -- all of the job's entries
  has_calls : (s t : SessionValue) (last : List Entry) → (o : HasOperated j a s t last) → HasCalls s.number inodes j a.share.slot a.share.id a.lowers (prepared_entry s.number j a.share.slot a.share.id chain ∷ (o.charges ++ last)) last
  has_calls s t last o = record {
    chain = chain;
    charges = o.charges;
    base = base;
    are = refl;
    needed = subst (λ (l : Tree). AllByRecursion (IsCharge s.number j a.share.slot a.share.id l a.lowers) o.charges) layer o.needed;
  }

  -- the gate stops the worker before the end
  pub stopped_run : (S : Type 0) (s t u : SessionValue) (held : Usage) → S → HasOperated j a s t [] → Went t u (discard_entry t.number a.share.slot a.share.id held ∷ []) → IsRunOf S inodes s u j (prepared_entry s.number j a.share.slot a.share.id chain ∷ []) ended.NotRun
  stopped_run S s t u held stopped was went =
      let all = operated_then j a s t u [] (λ n. discard_entry n a.share.slot a.share.id held ∷ []) was went in
      record {
        mine = all.charges ++ discard_entry s.number a.share.slot a.share.id held ∷ [];
        went = all.went;
        own = (stopped, inr (record { slot = a.share.slot; id = a.share.id; lowers = a.lowers; dropped = record { held = held; entries = has_calls s u (discard_entry s.number a.share.slot a.share.id held ∷ []) all } }));
      }

  -- an operation is not done
  pub failed_run : (s t u : SessionValue) (held : Usage) (place : ℕ) (error : RunError) (entry : List Entry) → HasOperated j a s t entry → IsUndone s.number j a.share.slot a.share.id place error a.layer a.lowers entry → Went t u (discard_entry t.number a.share.slot a.share.id held ∷ []) → IsRunOf ⊥ inodes s u j (prepared_entry s.number j a.share.slot a.share.id chain ∷ []) (ended.Failed place error)
  failed_run s t u held place error entry was undone went =
      let all = operated_then j a s t u entry (λ n. discard_entry n a.share.slot a.share.id held ∷ []) was went in
      record {
        mine = all.charges ++ (entry ++ discard_entry s.number a.share.slot a.share.id held ∷ []);
        went = all.went;
        own = record {
          slot = a.share.slot;
          id = a.share.id;
          lowers = a.lowers;
          entry = entry;
          undone = subst (λ (l : Tree). IsUndone s.number j a.share.slot a.share.id place error l a.lowers entry) layer undone;
          dropped = record { held = held; entries = has_calls s u (entry ++ discard_entry s.number a.share.slot a.share.id held ∷ []) all };
        };
      }

  -- all operations are done, and it has its end
  ended_at : (s t u : SessionValue) (b : ActiveValue) (end : Ended) → IsSameSnapshot a b → all_after j.ops a.layer a.lowers ≡ Ok b.layer → HasOperated j a s t [] → HasEnded j t u b end → IsRunOf ⊥ inodes s u j (prepared_entry s.number j a.share.slot a.share.id chain ∷ []) end
  ended_at s t u b (ended.Committed id usage) same done was (name, lease, labels, end, told, count, went) =
      let made = ap (λ (l : Tree). all_after j.ops l a.lowers) (sym layer) ∙ done in
      let entry : ℕ → Entry = λ n. call_entry n (calls.Commit a.share.slot a.share.id name lease labels) (Layer b.layer) (replies.Committed a.share.id usage) in
      let at = subst (λ k. Went t u (call_entry t.number (calls.Commit a.share.slot k name lease labels) (Layer b.layer) (replies.Committed k usage) ∷ [])) same.id
      (subst (λ slot. Went t u (call_entry t.number (calls.Commit slot b.share.id name lease labels) (Layer b.layer) (replies.Committed b.share.id usage) ∷ [])) same.slot went) in
      let all = operated_then j a s t u [] (λ n. entry n ∷ []) was at in
      let own : IsEndOf ⊥ s.number inodes j (ended.Committed a.share.id usage) (prepared_entry s.number j a.share.slot a.share.id chain ∷ (all.charges ++ entry s.number ∷ [])) = record {
        slot = a.share.slot;
        lowers = a.lowers;
        layer = b.layer;
        name = name;
        lease = lease;
        labels = labels;
        end = end;
        made = made;
        count = count;
        entries = has_calls s u (entry s.number ∷ []) all;
      } in
      record {
        mine = all.charges ++ entry s.number ∷ [];
        went = all.went;
        own = subst (λ k. IsEndOf ⊥ s.number inodes j (ended.Committed k usage) (prepared_entry s.number j a.share.slot a.share.id chain ∷ (all.charges ++ entry s.number ∷ []))) (sym (told ∙ same.id)) own;
      }
  ended_at s t u b ended.Discarded same done was (end, went) =
      let all = operated_then j a s t u [] (λ n. discard_entry n a.share.slot a.share.id b.share.usage ∷ []) was (same_discard a b t u [] same went) in
      record {
        mine = all.charges ++ discard_entry s.number a.share.slot a.share.id b.share.usage ∷ [];
        went = all.went;
        own = record {
          slot = a.share.slot;
          id = a.share.id;
          lowers = a.lowers;
          layer = b.layer;
          end = end;
          made = ap (λ (l : Tree). all_after j.ops l a.lowers) (sym layer) ∙ done;
          dropped = record { held = b.share.usage; entries = has_calls s u (discard_entry s.number a.share.slot a.share.id b.share.usage ∷ []) all };
        };
      }
  ended_at s t u b (ended.NotCommitted why) same done was (name, lease, labels, end, went) =
      let call : ℕ → List Entry = λ n. refused_entry n (calls.Commit a.share.slot a.share.id name lease labels) (Layer b.layer) why in
      let at = subst (λ k. Went t u (refused_entry t.number (calls.Commit a.share.slot k name lease labels) (Layer b.layer) why ++ discard_entry t.number a.share.slot k b.share.usage ∷ [])) same.id
      (subst (λ slot. Went t u (refused_entry t.number (calls.Commit slot b.share.id name lease labels) (Layer b.layer) why ++ discard_entry t.number slot b.share.id b.share.usage ∷ [])) same.slot went) in
      let all = operated_then j a s t u [] (λ n. call n ++ discard_entry n a.share.slot a.share.id b.share.usage ∷ []) was at in
      record {
        mine = all.charges ++ (call s.number ++ discard_entry s.number a.share.slot a.share.id b.share.usage ∷ []);
        went = all.went;
        own = record {
          slot = a.share.slot;
          id = a.share.id;
          lowers = a.lowers;
          layer = b.layer;
          name = name;
          lease = lease;
          labels = labels;
          end = end;
          made = ap (λ (l : Tree). all_after j.ops l a.lowers) (sym layer) ∙ done;
          dropped = record { held = b.share.usage; entries = has_calls s u (call s.number ++ discard_entry s.number a.share.slot a.share.id b.share.usage ∷ []) all };
        };
      }
  ended_at s t u b end same done was wrong = absurd wrong

  pub ended_run : (s t asked u : SessionValue) (b : ActiveValue) (end : Ended) → IsSameSnapshot a b → all_after j.ops a.layer a.lowers ≡ Ok b.layer → HasOperated j a s t [] → asked ≡ t → HasEnded j asked u b end → IsRunOf ⊥ inodes s u j (prepared_entry s.number j a.share.slot a.share.id chain ∷ []) end
  ended_run s t asked u b end same done was still has = ended_at s t u b end same done was (subst (λ (x : SessionValue). HasEnded j x u b end) still has)

  -- the gate stops the worker after the operations
  pub dropped_run : (S : Type 0) (s t asked u : SessionValue) (b : ActiveValue) → S → IsSameSnapshot a b → HasOperated j a s t [] → asked ≡ t → Went asked u (discard_entry asked.number b.share.slot b.share.id b.share.usage ∷ []) → IsRunOf S inodes s u j (prepared_entry s.number j a.share.slot a.share.id chain ∷ []) ended.NotRun
  dropped_run S s t asked u b stopped same was still went =
      stopped_run S s t u b.share.usage stopped was (same_discard a b t u [] same (subst (λ (x : SessionValue). Went x u (discard_entry x.number b.share.slot b.share.id b.share.usage ∷ [])) still went))

  -- an operation stops it, or the gate does before one
  pub stop_run : (S : Type 0) (s t u : SessionValue) (b : ActiveValue) (stop : Stop) (entry : List Entry) → IsSameSnapshot a b → HasOperated j a s t entry → IsStopOf S s.number j a stop entry → Went t u (discard_entry t.number b.share.slot b.share.id b.share.usage ∷ []) → HasRunJob S inodes s u j (prepared_entry s.number j a.share.slot a.share.id chain ∷ []) (end_of stop)
  stop_run S s t u b Gate entry same was (stopped, none) went = stopped_run S s t u b.share.usage stopped (subst (HasOperated j a s t) none was) (same_discard a b t u [] same went)
  stop_run S s t u b (Failed place error) entry same was undone went = failed_run s t u b.share.usage place error entry was undone (same_discard a b t u [] same went)

-- ---- a whole job

-- its snapshot was prepared, and the rest of it is done
prepared_at : (S : Type 0) (inodes : ℕ) (j : Job) (s t u : SessionValue) (a : ActiveValue) (chain : List ℕ) (end : Ended) → Went s t (prepared_entry s.number j a.share.slot a.share.id chain ∷ []) → IsRunOf S inodes t u j (prepared_entry t.number j a.share.slot a.share.id chain ∷ []) end → IsRunOf S inodes s u j [] end
prepared_at S inodes j s t u a chain end began run = record {
  mine = prepared_entry s.number j a.share.slot a.share.id chain ∷ run.mine;
  went = then_on s t u (prepared_entry s.number j a.share.slot a.share.id chain ∷ []) run.mine began run.went;
  own = subst (λ n. IsEndOf S n inodes j end (prepared_entry n j a.share.slot a.share.id chain ∷ run.mine)) began.number run.own;
}

prepared_then : (S : Type 0) (inodes : ℕ) (j : Job) (s t u : SessionValue) (a : ActiveValue) (chain : List ℕ) (end : Option Ended) → Went s t (prepared_entry s.number j a.share.slot a.share.id chain ∷ []) → HasRunJob S inodes t u j (prepared_entry t.number j a.share.slot a.share.id chain ∷ []) end → HasRunJob S inodes s u j [] end
prepared_then S inodes j s t u a chain None began run = prepared_at S inodes j s t u a chain ended.NotRun began run
prepared_then S inodes j s t u a chain (Some end) began run = prepared_at ⊥ inodes j s t u a chain end began run

pub job_run : (S : Type 0) (inodes : ℕ) (j : Job) (s asked t u : SessionValue) (a : ActiveValue) (end : Option Ended) → asked ≡ s → (is : IsFresh inodes asked t j a) → HasRunJob S inodes t u j (prepared_entry t.number j a.share.slot a.share.id is.chain ∷ []) end → HasRunJob S inodes s u j [] end
job_run S inodes j s asked t u a end still is run = prepared_then S inodes j s t u a is.chain end (subst (λ (x : SessionValue). Went x t (prepared_entry x.number j a.share.slot a.share.id is.chain ∷ [])) still is.went) run

-- its Prepare was refused
pub unprepared_run : (S : Type 0) (inodes : ℕ) (j : Job) (s asked t : SessionValue) (why : Refusal) → asked ≡ s → Went asked t (refused_entry asked.number (prepare_call j) Nothing why) → HasRunJob S inodes s t j [] (Some (ended.NotPrepared why))
unprepared_run S inodes j s asked t why still went = record { mine = refused_entry s.number (prepare_call j) Nothing why; went = subst (λ (x : SessionValue). Went x t (refused_entry x.number (prepare_call j) Nothing why)) still went; own = refl }

-- the gate stops the worker before it
pub unrun : (S : Type 0) (inodes : ℕ) (j : Job) (s asked : SessionValue) → S → asked ≡ s → HasRunJob S inodes s asked j [] None
unrun S inodes j s asked stopped still = record { mine = []; went = stays s asked still; own = (stopped, inl refl) }
