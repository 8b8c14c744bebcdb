-- The labels of a job's end are those of the snapshot that it has committed, once the store is closed.
use Rattle.std.proofs.Common.{◌≡◌, inl, inr, ℕ, ◌<◌, List, [], ◌∷◌, ◌++◌, Option, None, Some, refl, sym, ap, ◌∙◌, subst, append-nil, arith}
use Rattle.std.specs.Prelude.{codes}
use Rattle.std.specs.List.{AllByRecursion, cons_option}
use Rattle.std.specs.Option.{option_map}
use Rattle.snap_layer.specs.Tree.{Tree}
use Rattle.snap_usage.specs.declared.usage.Usage.{Usage}
use Rattle.snap_record.specs.Labels.{Label}
use Rattle.snap_record.specs.declared.record.Record.{Record}
use Rattle.snap_call.specs.declared.call.Call.TheVariants as calls
use Rattle.snap_call.specs.declared.call.Given.TheVariants.{Layer, Nothing}
use Rattle.snap_call.specs.declared.entry.Entry.{Entry}
use Rattle.snap_call.specs.declared.reply.Reply.{Reply}
use Rattle.snap_call.specs.declared.reply.Reply.TheVariants as replies
use Rattle.snap_call.specs.declared.state.State.{State}
use Rattle.snap_call.specs.Journal.{Replays, call_entry}
use Rattle.snap_call.specs.Records.{lowest_free, record_at}
use Rattle.snap_call.specs.State.{opening}
use Rattle.snap_call.specs.Step.{step}
use Rattle.snap_book.specs.Book.{BookValue}
use Rattle.snap_round.specs.declared.rule.Round.{Round}
use Rattle.snap_tape.specs.Tapes.{SessionValue}
use Rattle.snap_store.specs.Closing.{IsClosedStore}
use Rattle.snap_writers.specs.declared.job.End.{End}
use Rattle.snap_writers.specs.declared.job.End.TheVariants as ends
use Rattle.snap_writers.specs.declared.job.Ended.{Ended}
use Rattle.snap_writers.specs.declared.job.Ended.TheVariants as ended
use Rattle.snap_writers.specs.declared.job.Job.{Job}
use Rattle.snap_writers.specs.declared.job.Worked.{Worked}
use Rattle.snap_writers.specs.Jobs.{AreEnds, AreInOrder, AreWorked, HasWorked, HaveWorked, IsCharge, IsReport, prepared_entry, sessions_of}
use Rattle.test_stores.specs.FirstExample.{first_config, used}
use Rattle.test_stores.proofs.FirstRound.{one_session}

-- a job without operations, which is committed with one label
abbrev pub given : List Label
given = (codes "x", codes "1") ∷ []

abbrev pub labelled : Job
labelled = record { namespace = codes "a"; key = codes "k"; parent = []; ops = []; end = ends.Commit (codes "base") None (Some given); extra = used 0 0 }

-- the labels of the snapshot base of the first namespace
abbrev pub labels_at : State → Option (List Label)
labels_at s = option_map (λ (r : Record). r.labels) (record_at 0 (codes "base") s.records)

abbrev slot_in : Reply → ℕ
slot_in (replies.Prepared id slot chain) = slot
slot_in reply = 0

-- the worker's calls
abbrev its_commit : ℕ → ℕ → ℕ → Tree → Usage → End → Entry
its_commit n slot id layer usage (ends.Commit name lease labels) = call_entry n (calls.Commit slot id name lease labels) (Layer layer) (replies.Committed id usage)
its_commit n slot id layer usage ends.Discard = call_entry n calls.Session Nothing replies.Opened

abbrev its_tape : ℕ → ℕ → ℕ → List ℕ → Tree → Usage → List Entry
its_tape n slot id chain layer usage = call_entry n calls.Session Nothing replies.Opened ∷ prepared_entry n labelled slot id chain ∷ its_commit n slot id layer usage labelled.end ∷ []

-- what they make of a new store
replayed : (n slot id : ℕ) (chain : List ℕ) (layer : Tree) (usage : Usage) (t : State) → Replays (opening first_config) (its_tape n slot id chain layer usage) t → labels_at t ≡ Some given
unfolding lowest_free
replayed n slot id chain layer usage t r =
    let prepared = r.2 in
    let at_0 : slot ≡ 0 = ap slot_in prepared.1 in
    let s1 : State = (step (opening first_config) calls.Session Nothing).0 in
    let s2 : State = (step s1 (calls.Prepare (codes "a") (codes "k") [] []) Nothing).0 in
    let rest : Replays s2 (its_commit n 0 id layer usage labelled.end ∷ []) t = subst (λ (k : ℕ). Replays s2 (its_commit n k id layer usage labelled.end ∷ []) t) at_0 prepared.2 in
    ap labels_at rest.2

-- no charge is needed without an operation
no_charges : (n slot id : ℕ) (layer : Tree) (lowers : List Tree) (charges : List Entry) → AllByRecursion (IsCharge n labelled slot id layer lowers) charges → charges ≡ []
no_charges n slot id layer lowers [] all = refl
no_charges n slot id layer lowers (e ∷ es) all = let inside : all.0.place < 0 = all.0.inside in absurd (omega (arith, inside))

tape_is : (inodes : ℕ) (s : SessionValue) (id : ℕ) (usage : Usage) (T : Type 0) → HasWorked T inodes (labelled ∷ []) (ended.Committed id usage ∷ []) s → (slot : ℕ) × (chain : List ℕ) × (layer : Tree) × (s.tape ≡ its_tape s.number slot id chain layer usage)
tape_is inodes s id usage T is = by is.each
  where
    by : AreEnds T s.number inodes (labelled ∷ []) (ended.Committed id usage ∷ []) is.rest → (slot : ℕ) × (chain : List ℕ) × (layer : Tree) × (s.tape ≡ its_tape s.number slot id chain layer usage)
    by (mine, rest, are, own, left) =
        let calls_of = own.entries in
        let first = prepared_entry s.number labelled own.slot id calls_of.chain in
        let last = its_commit s.number own.slot id own.layer usage (ends.Commit own.name own.lease own.labels) in
        let none = no_charges s.number own.slot id _ own.lowers calls_of.charges calls_of.needed in
        let mine_is : mine ≡ first ∷ its_commit s.number own.slot id own.layer usage labelled.end ∷ [] =
        calls_of.are ∙ (ap (λ (c : List Entry). first ∷ (c ++ last ∷ [])) none ∙ ap (λ (e : End). first ∷ its_commit s.number own.slot id own.layer usage e ∷ []) (sym own.end)) in (
          own.slot,
          calls_of.chain,
          own.layer,
          is.tape ∙ ap (λ (l : List Entry). call_entry s.number calls.Session Nothing replies.Opened ∷ l) (are ∙ (ap (λ (l : List Entry). mine ++ l) left ∙ (append-nil mine ∙ mine_is))),
        )

-- a report of it: the one worker had a session, and its tape is the journal
pub job_labels : (r : Round) (id : ℕ) (usage : Usage) (b : BookValue) → r.opening ≡ opening first_config → IsReport (λ worker. ⊥) r (labelled ∷ []) 1 (ended.Committed id usage ∷ []) b → labels_at b.state ≡ Some given
job_labels r id usage b began is = by is.all is.worked is.order is.closed
  where
    of : (T : Type 0) (o : Option SessionValue) (es : List Ended) → es ≡ ended.Committed id usage ∷ [] → HaveWorked T r.opening.layer_inodes (labelled ∷ []) es o → IsClosedStore r b (cons_option o []) → labels_at b.state ≡ Some given
    of T None es told (inl never) closed = let wrong = sym never ∙ told in absurd (cc)
    of T None es told (inr (why, of_session, never)) closed = let wrong = sym never ∙ told in absurd (cc)
    of T (Some s) es told worked closed =
        let tape = tape_is r.opening.layer_inodes s id usage T (subst (λ (l : List Ended). HasWorked T r.opening.layer_inodes (labelled ∷ []) l s) told worked) in
        let from = subst (λ (o : State). Replays o b.journal b.state) (ap (λ (q : Round). q.opening) closed.round ∙ began) closed.kept.replays in
        replayed s.number tape.0 id tape.1 tape.2 usage b.state (subst (λ (j : List Entry). Replays (opening first_config) j b.state) (one_session b.journal s closed.sessions ∙ tape.3) from)

    by : (all : List Worked) → AreWorked (λ worker. ⊥) r.opening.layer_inodes (labelled ∷ []) 1 all → AreInOrder (labelled ∷ []) 1 all (ended.Committed id usage ∷ []) → IsClosedStore r b (sessions_of all) → labels_at b.state ≡ Some given
    by [] worked order closed = absurd (omega (arith, worked.count))
    by (w ∷ []) worked order closed = of _ w.session w.ends (sym (order.each 0 (omega (arith)))) worked.each.0.session closed
    by (w ∷ v ∷ ws) worked order closed = absurd (omega (arith, worked.count))
