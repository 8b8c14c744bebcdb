-- What is committed in the end, by what each worker's tape was granted.
use Rattle.std.specs.List.{AllByRecursion, AllZip}
use Rattle.std.proofs.Common.{◌≡◌, inl, inr, ℕ, ◌+◌, List, [], ◌∷◌, ◌++◌, None, refl, sym, ap, ◌∙◌, subst, arith}
use Rattle.snap_layer.specs.Tree.{Tree}
use Rattle.snap_usage.specs.declared.usage.Usage.{Usage}
use Rattle.snap_usage.specs.Counted.{count_of}
use Rattle.snap_upper.specs.declared.op.Op.{Op}
use Rattle.snap_call.specs.declared.call.Call.{Call}
use Rattle.snap_call.specs.declared.call.Call.TheVariants as calls
use Rattle.snap_call.specs.declared.call.Given.{Given}
use Rattle.snap_call.specs.declared.call.Given.TheVariants.{Layer, Nothing}
use Rattle.snap_call.specs.declared.entry.Entry.{Entry}
use Rattle.snap_call.specs.declared.refusal.Refusal.{Refusal}
use Rattle.snap_call.specs.declared.refusal.Refusal.TheVariants.{JournalFull, OutOfMemory}
use Rattle.snap_call.specs.declared.reply.Reply.{Reply}
use Rattle.snap_call.specs.declared.reply.Reply.TheVariants as replies
use Rattle.snap_call.specs.Journal.{call_entry}
use Rattle.snap_tape.specs.Tapes.{SessionValue}
use Rattle.snap_grants.specs.Grants.{AreKeeping, AreOrigins, IsKeeping, IsOrigin, Origin, Stored, grant_of, grants}
use Rattle.snap_writers.specs.declared.running.RunError.{RunError}
use Rattle.snap_writers.specs.declared.running.RunError.TheVariants.{File, Book}
use Rattle.snap_writers.specs.declared.job.Job.{Job}
use Rattle.snap_writers.specs.declared.job.Ended.{Ended}
use Rattle.snap_writers.specs.declared.job.Ended.TheVariants as ended
use Rattle.snap_writers.specs.Jobs.{AreEnds, Done, HasCalls, HasWorked, IsCharge, IsCommitted, IsDropped, IsEndOf, IsErrorOf, IsStoredOf, charge_call, discard_entry, done, prepare_call, refused_entry, total, with_end}
use Rattle.snap_writers.proofs.Calling.{all_append}
use Rattle.snap_writers.proofs.Weaving.{put_first}

-- ---- a tape's granted Commits, as what is stored

-- by the call, what was given and the reply: what a granted Commit stores, before the rest
abbrev commit_of : (ℕ → Origin) → Call → Given → Reply → List Stored → List Stored
commit_of origin (calls.Commit slot id name lease labels) (Layer layer) (replies.Committed at usage) rest =
    record { namespace = (origin id).namespace; name = name; parent = (origin id).parent; id = id; layer = layer } ∷ rest
commit_of origin call given reply rest = rest

abbrev pub commits : (ℕ → Origin) → List Entry → List Stored
commits origin [] = []
commits origin (e ∷ es) = commit_of origin e.call e.given e.reply (commits origin es)

by_call : (h : Stored → ℕ) (origin : ℕ → Origin) (call : Call) (given : Given) (reply : Reply) (rest : List Stored) → grant_of h origin call given reply + total h rest ≡ total h (commit_of origin call given reply rest)
by_call h origin (calls.Commit slot id name lease labels) (Layer layer) (replies.Committed at usage) rest = refl
by_call h origin (calls.Commit slot id name lease labels) given (replies.Committed at usage) rest = omega arith
by_call h origin call given reply rest = omega arith

pub granted_total : (h : Stored → ℕ) (origin : ℕ → Origin) (es : List Entry) → grants h origin es ≡ total h (commits origin es)
granted_total h origin [] = refl
granted_total h origin (e ∷ es) = ap (λ n. grant_of h origin e.call e.given e.reply + n) (granted_total h origin es) ∙ by_call h origin e.call e.given e.reply (commits origin es)

commit_of_append : (origin : ℕ → Origin) (call : Call) (given : Given) (reply : Reply) (a b : List Stored) → commit_of origin call given reply (a ++ b) ≡ commit_of origin call given reply a ++ b
commit_of_append origin (calls.Commit slot id name lease labels) (Layer layer) (replies.Committed at usage) a b = refl
commit_of_append origin call given reply a b = refl

commits_append : (origin : ℕ → Origin) (xs ys : List Entry) → commits origin (xs ++ ys) ≡ commits origin xs ++ commits origin ys
commits_append origin [] ys = refl
commits_append origin (x ∷ xs) ys = ap (commit_of origin x.call x.given x.reply) (commits_append origin xs ys) ∙ commit_of_append origin x.call x.given x.reply (commits origin xs) (commits origin ys)

-- ---- entries that store nothing, and take nothing committed away

pub record IsQuiet (origin : ℕ → Origin) (es : List Entry) : Type 0 where
  pub none : commits origin es ≡ []
  pub keeps : AreKeeping es

quiet_append : (origin : ℕ → Origin) (xs ys : List Entry) → IsQuiet origin xs → IsQuiet origin ys → IsQuiet origin (xs ++ ys)
quiet_append origin xs ys p q = record {
  none = commits_append origin xs ys ∙ (ap (λ (l : List Stored). l ++ commits origin ys) p.none ∙ q.none);
  keeps = all_append (λ e. IsKeeping e.call) xs ys p.keeps q.keeps;
}

refused_none : (origin : ℕ → Origin) (call : Call) (given : Given) (why : Refusal) → commit_of origin call given (replies.Refused why) [] ≡ []
refused_none origin (calls.Commit slot id name lease labels) (Layer layer) why = refl
refused_none origin call given why = refl

quiet_refused : (origin : ℕ → Origin) (n : ℕ) (call : Call) (given : Given) (why : Refusal) → IsKeeping call → IsQuiet origin (refused_entry n call given why)
quiet_refused origin n call given JournalFull keeps = record { none = refl; keeps = tt }
quiet_refused origin n call given (OutOfMemory want) keeps = record { none = refl; keeps = tt }
quiet_refused origin n call given why keeps = record { none = refused_none origin call given why; keeps = (keeps, tt) }

quiet_charges : (origin : ℕ → Origin) (n : ℕ) (j : Job) (slot id : ℕ) (layer : Tree) (lowers : List Tree) (es : List Entry) → AllByRecursion (IsCharge n j slot id layer lowers) es → IsQuiet origin es
quiet_charges origin n j slot id layer lowers [] all = record { none = refl; keeps = tt }
quiet_charges origin n j slot id layer lowers (e ∷ es) all =
    let rest = quiet_charges origin n j slot id layer lowers es all.1 in
    subst (λ (x : Entry). IsQuiet origin (x ∷ es)) (sym all.0.is) (record { none = rest.none; keeps = (tt, rest.keeps) })

-- before a job's last entries nothing is stored
quiet_calls : (origin : ℕ → Origin) (n inodes : ℕ) (j : Job) (slot id : ℕ) (lowers : List Tree) (mine last : List Entry) → HasCalls n inodes j slot id lowers mine last → IsQuiet origin last → IsQuiet origin mine
quiet_calls origin n inodes j slot id lowers mine last has quiet =
    let rest = quiet_append origin has.charges last (quiet_charges origin n j slot id _ lowers has.charges has.needed) quiet in
    subst (IsQuiet origin) (sym has.are) (record { none = rest.none; keeps = (tt, rest.keeps) })

quiet_dropped : (origin : ℕ → Origin) (n inodes : ℕ) (j : Job) (slot id : ℕ) (lowers : List Tree) (mine before : List Entry) → IsDropped n inodes j slot id lowers mine before → IsQuiet origin before → IsQuiet origin mine
quiet_dropped origin n inodes j slot id lowers mine before dropped quiet =
    quiet_calls origin n inodes j slot id lowers mine (before ++ discard_entry n slot id dropped.held ∷ []) dropped.entries (quiet_append origin before (discard_entry n slot id dropped.held ∷ []) quiet (record { none = refl; keeps = (tt, tt) }))

-- why an operation was not done
quiet_error : (origin : ℕ → Origin) (n : ℕ) (j : Job) (slot id : ℕ) (error : RunError) (op : Op) (layer : Tree) (lowers : List Tree) (entry : List Entry) → IsErrorOf n j slot id error op layer lowers entry → IsQuiet origin entry
quiet_error origin n j slot id (File e) op layer lowers entry why = subst (IsQuiet origin) (sym why.1) (record { none = refl; keeps = tt })
quiet_error origin n j slot id (Book why) op layer lowers entry (inl memory) = subst (IsQuiet origin) (sym memory.1) (record { none = refl; keeps = tt })
quiet_error origin n j slot id (Book why) op layer lowers entry (inr (next, made, is)) = subst (IsQuiet origin) (sym is) (quiet_refused origin n (charge_call j slot id (count_of next)) Nothing why tt)

-- a job that isn't committed
quiet_end : (S : Type 0) (inodes : ℕ) (origin : ℕ → Origin) (n : ℕ) (j : Job) (e : Ended) (mine : List Entry) → with_end j e [] ≡ [] → IsEndOf S n inodes j e mine → IsQuiet origin mine
quiet_end S inodes origin n j (ended.Committed id usage) mine none own = absurd (cc)
quiet_end S inodes origin n j ended.Discarded mine none own = quiet_dropped origin n inodes j own.slot own.id own.lowers mine [] own.dropped (record { none = refl; keeps = tt })
quiet_end S inodes origin n j (ended.NotPrepared why) mine none own = subst (IsQuiet origin) (sym own) (quiet_refused origin n (prepare_call j) Nothing why tt)
quiet_end S inodes origin n j ended.NoThread mine none own = absurd own
quiet_end S inodes origin n j (ended.Failed place error) mine none own =
    quiet_dropped origin n inodes j own.slot own.id own.lowers mine own.entry own.dropped (quiet_error origin n j own.slot own.id error own.undone.op own.undone.at own.lowers own.entry own.undone.why)
quiet_end S inodes origin n j (ended.NotCommitted why) mine none own =
    quiet_dropped origin n inodes j own.slot own.id own.lowers mine _ own.dropped (quiet_refused origin n (calls.Commit own.slot own.id own.name own.lease own.labels) (Layer own.layer) why tt)
quiet_end S inodes origin n j ended.NotRun mine none (stopped, inl empty) = subst (IsQuiet origin) (sym empty) (record { none = refl; keeps = tt })
quiet_end S inodes origin n j ended.NotRun mine none (stopped, inr own) = quiet_dropped origin n inodes j own.slot own.id own.lowers mine [] own.dropped (record { none = refl; keeps = tt })

-- ---- what a job stores

committed_left : (inodes : ℕ) (origin : ℕ → Origin) (n : ℕ) (j : Job) (id : ℕ) (usage : Usage) (mine : List Entry) → AreOrigins origin mine → IsCommitted n inodes j id usage mine → AllZip (IsStoredOf inodes) (with_end j (ended.Committed id usage) []) (commits origin mine)
committed_left inodes origin n j id usage mine are is = subst (AllZip (IsStoredOf inodes) (with_end j (ended.Committed id usage) [])) (sym stored) (
  record { namespace = ap (λ (o : Origin). o.namespace) from; name = (is.lease, is.labels, is.end); parent = ap (λ (o : Origin). o.parent) from; id = refl; made = record { lowers = is.lowers; base = is.entries.base; made = is.made }; count = is.count },
  tt,
)
  where
    last : Entry
    last = call_entry n (calls.Commit is.slot id is.name is.lease is.labels) (Layer is.layer) (replies.Committed id usage)

    charges : IsQuiet origin is.entries.charges
    charges = quiet_charges origin n j is.slot id _ is.lowers is.entries.charges is.entries.needed

    from : origin id ≡ record { namespace = j.namespace; parent = j.parent }
    from = (subst (AreOrigins origin) is.entries.are are).0

    stored : commits origin mine ≡ record { namespace = (origin id).namespace; name = is.name; parent = (origin id).parent; id = id; layer = is.layer } ∷ []
    stored = ap (commits origin) is.entries.are ∙ (commits_append origin is.entries.charges (last ∷ []) ∙ ap (λ (l : List Stored). l ++ commits origin (last ∷ [])) charges.none)

left_by : (S : Type 0) (inodes : ℕ) (origin : ℕ → Origin) (n : ℕ) (j : Job) (e : Ended) (mine : List Entry) → AreOrigins origin mine → IsEndOf S n inodes j e mine → AllZip (IsStoredOf inodes) (with_end j e []) (commits origin mine)
left_by S inodes origin n j (ended.Committed id usage) mine are own = committed_left inodes origin n j id usage mine are own
left_by S inodes origin n j e mine are own = subst (AllZip (IsStoredOf inodes) []) (sym (quiet_end S inodes origin n j e mine refl own).none) tt

-- ---- what all jobs of a session store

all_left : {A : Type 0} (P : A → Type 0) (xs ys : List A) → AllByRecursion P (xs ++ ys) → AllByRecursion P xs
all_left P [] ys all = tt
all_left P (x ∷ xs) ys all = (all.0, all_left P xs ys all.1)

all_right : {A : Type 0} (P : A → Type 0) (xs ys : List A) → AllByRecursion P (xs ++ ys) → AllByRecursion P ys
all_right P [] ys all = all
all_right P (x ∷ xs) ys all = all_right P xs ys all.1

stored_ends : (S : Type 0) (inodes : ℕ) (origin : ℕ → Origin) (n : ℕ) (js : List Job) (es : List Ended) (entries : List Entry) → AreOrigins origin entries → AreEnds S n inodes js es entries → AllZip (IsStoredOf inodes) (done js es) (commits origin entries)
stored_ends S inodes origin n [] [] entries are own = subst (λ (l : List Entry). AllZip (IsStoredOf inodes) [] (commits origin l)) (sym own) tt
stored_ends S inodes origin n [] (e ∷ es) entries are own = absurd own
stored_ends S inodes origin n (j ∷ js) [] entries are own = absurd own
stored_ends S inodes origin n (j ∷ js) (e ∷ es) entries are (mine, rest, is, own, others) =
    let both = subst (AreOrigins origin) is are in
    let first = left_by S inodes origin n j e mine (all_left (λ x. IsOrigin origin x.call x.reply) mine rest both) own in
    let more = stored_ends S inodes origin n js es rest (all_right (λ x. IsOrigin origin x.call x.reply) mine rest both) others in
    subst (AllZip (IsStoredOf inodes) (with_end j e (done js es))) (sym (ap (commits origin) is ∙ commits_append origin mine rest)) (put_first inodes j e (done js es) (commits origin mine) (commits origin rest) first more)

-- what a worker's session stored is its jobs'
pub stored_all : {S : Type 0} {inodes : ℕ} → (origin : ℕ → Origin) (jobs : List Job) (es : List Ended) (s : SessionValue) → AreOrigins origin s.tape → HasWorked S inodes jobs es s → AllZip (IsStoredOf inodes) (done jobs es) (commits origin s.tape)
stored_all {S = S} {inodes = inodes} origin jobs es s are worked =
    subst (λ (l : List Entry). AllZip (IsStoredOf inodes) (done jobs es) (commits origin l)) (sym worked.tape) (stored_ends S inodes origin s.number jobs es worked.rest (subst (AreOrigins origin) worked.tape are).1 worked.each)

-- ---- a worker's calls take nothing committed away

-- an origin for each id, of which nothing is asked
abbrev no_origin : ℕ → Origin
no_origin id = record { namespace = []; parent = [] }

keeps_end : (S : Type 0) (inodes n : ℕ) (j : Job) (e : Ended) (mine : List Entry) → IsEndOf S n inodes j e mine → AreKeeping mine
keeps_end S inodes n j (ended.Committed id usage) mine own =
    let charges = quiet_charges no_origin n j own.slot id _ own.lowers own.entries.charges own.entries.needed in
    subst AreKeeping (sym own.entries.are) (tt, all_append (λ e. IsKeeping e.call) own.entries.charges (call_entry n (calls.Commit own.slot id own.name own.lease own.labels) (Layer own.layer) (replies.Committed id usage) ∷ []) charges.keeps (tt, tt))
keeps_end S inodes n j e mine own = (quiet_end S inodes no_origin n j e mine refl own).keeps

keeps_ends : (S : Type 0) (inodes n : ℕ) (js : List Job) (es : List Ended) (entries : List Entry) → AreEnds S n inodes js es entries → AreKeeping entries
keeps_ends S inodes n [] [] entries own = subst AreKeeping (sym own) tt
keeps_ends S inodes n [] (e ∷ es) entries own = absurd own
keeps_ends S inodes n (j ∷ js) [] entries own = absurd own
keeps_ends S inodes n (j ∷ js) (e ∷ es) entries (mine, rest, is, own, others) = subst AreKeeping (sym is) (all_append (λ x. IsKeeping x.call) mine rest (keeps_end S inodes n j e mine own) (keeps_ends S inodes n js es rest others))

pub tape_keeps : {S : Type 0} {inodes : ℕ} → (jobs : List Job) (es : List Ended) (s : SessionValue) → HasWorked S inodes jobs es s → AreKeeping s.tape
tape_keeps {S = S} {inodes = inodes} jobs es s worked = subst AreKeeping (sym worked.tape) (tt, keeps_ends S inodes s.number jobs es worked.rest worked.each)
