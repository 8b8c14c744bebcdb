-- What a closed store has of the jobs of all workers.
use Rattle.std.specs.Prelude.{◌==◌, All, cond, slice_get, option_map}
use Rattle.std.specs.List.{AllByRecursion, AllZip, cons_option}
use Rattle.std.proofs.Common.{◌≡◌, ℕ, zero, suc, ◌+◌, ◌-◌, ◌<◌, ◌≤◌, Bool, true, false, List, [], ◌∷◌, length, Option, None, Some, inl, inr, refl, sym, ap, ◌∙◌, subst, arith}
use Rattle.std.proofs.lemmas.Bool.{eqb-true, eq-eqb}
use Rattle.std.proofs.lemmas.List.Elements.{All-head, All-tail}
use Rattle.snap_call.specs.declared.entry.Entry.{Entry}
use Rattle.snap_call.specs.Journal.{session_entries}
use Rattle.snap_book.specs.Book.{BookValue}
use Rattle.snap_tape.specs.Sessions.{IsOwn, has_session_number}
use Rattle.snap_tape.specs.Tapes.{SessionValue}
use Rattle.snap_tape.proofs.Counting.{all-there, stands}
use Rattle.snap_grants.specs.Grants.{AreKeeping, AreOrigins, IsKeeping, Origin, Stored, grants, origin_in, sum_below, worth}
use Rattle.snap_grants.proofs.Origins.{origins}
use Rattle.snap_grants.proofs.Tapes.{own_origins, tapes_law}
use Rattle.snap_round.specs.declared.rule.Round.{Round}
use Rattle.snap_store.specs.Closing.{IsClosedStore}
use Rattle.snap_writers.specs.declared.job.Job.{Job}
use Rattle.snap_writers.specs.declared.job.Ended.{Ended}
use Rattle.snap_writers.specs.declared.job.Ended.TheVariants as ended
use Rattle.snap_writers.specs.declared.job.Worked.{Worked}
use Rattle.snap_writers.specs.Jobs.{AreEnds, AreInOrder, AreWorked, Each, HaveWorked, IsEnded, IsStoredOf, IsWorked, done, ends_at, every, jobs_of, sessions_of, total}
use Rattle.snap_writers.specs.Starting.{AreBack}
use Rattle.snap_writers.proofs.Every.{each_weaker}
use Rattle.snap_writers.proofs.Storing.{commits, granted_total, stored_all, tape_keeps}
use Rattle.snap_writers.proofs.Sums.{over, over_once, sum_first}
use Rattle.snap_writers.proofs.Walking.{done_unprepared, end_weaker, never_stopped, unprepared_own, unstopped}
use Rattle.snap_writers.proofs.Weaving.{Woven, own_woven, woven}

-- ---- of each session

-- each session of the workers has calls that take nothing away
kept_with : (T : Type 0) (inodes : ℕ) (jobs : List Job) (es : List Ended) (o : Option SessionValue) (rest : List SessionValue) → HaveWorked T inodes jobs es o → AllByRecursion (λ s. AreKeeping s.tape) rest → AllByRecursion (λ s. AreKeeping s.tape) (cons_option o rest)
kept_with T inodes jobs es None rest worked all = all
kept_with T inodes jobs es (Some s) rest worked all = (tape_keeps jobs es s worked, all)

sessions_keep : (S : ℕ → Type 0) (inodes : ℕ) (jobs : List Job) (n m : ℕ) (ws : List Worked) → Each (λ k w. IsWorked (S (k + 1)) inodes jobs (k + 1) n w) m ws → AllByRecursion (λ s. AreKeeping s.tape) (sessions_of ws)
sessions_keep S inodes jobs n m [] each = tt
sessions_keep S inodes jobs n m (w ∷ ws) each = kept_with (w.refused ≡ true) inodes (every n (m + 1 - 1) jobs) w.ends w.session (sessions_of ws) each.0.session (sessions_keep S inodes jobs n (m + 1) ws each.1)

-- ---- so the whole journal

own_head : (e : Entry) (es : List Entry) → AreKeeping (session_entries (e ∷ es) e.session) → IsKeeping e.call
own_head e es all = (subst (λ (b : Bool). AreKeeping (cond b (e ∷ session_entries es e.session) (session_entries es e.session))) (eq-eqb e.session e.session refl) all).0

own_rest : (e : Entry) (es : List Entry) (k : ℕ) (b : Bool) → AreKeeping (cond b (e ∷ session_entries es k) (session_entries es k)) → AreKeeping (session_entries es k)
own_rest e es k true all = all.1
own_rest e es k false all = all

keeps_all : (n : ℕ) (es : List Entry) → AllByRecursion (λ e. e.session < n) es → ((k : ℕ) → k < n → AreKeeping (session_entries es k)) → AreKeeping es
keeps_all n [] below each = tt
keeps_all n (e ∷ es) below each = (
  own_head e es (each e.session below.0),
  keeps_all n es below.1 (λ k low. own_rest e es k (e.session == k) (each k low)),
)

journal_keeps : (r : Round) (b : BookValue) (sessions : List SessionValue) → IsClosedStore r b sessions → AllByRecursion (λ s. AreKeeping s.tape) sessions → AreKeeping b.journal
journal_keeps r b sessions closed keep = keeps_all (length sessions) b.journal closed.sessions.all.known of
  where
    own_are : AllByRecursion (IsOwn b.journal) sessions
    own_are = closed.sessions.tapes

    of : (k : ℕ) → k < length sessions → AreKeeping (session_entries b.journal k)
    of k low =
        let there = stands (has_session_number k) sessions (omega (arith, closed.sessions.all.once.once k low)) in
        let s = there.1 in
        let tape : s.tape ≡ session_entries b.journal k = all-there (IsOwn b.journal) sessions there.0 s there.2 own_are ∙ ap (session_entries b.journal) (eqb-true s.number k there.3) in
        subst AreKeeping tape (all-there (λ (x : SessionValue). AreKeeping x.tape) sessions there.0 s there.2 keep)

-- ---- what is stored, worker by worker

abbrev stored_by : (ℕ → Origin) → Option SessionValue → List Stored
stored_by origin None = []
stored_by origin (Some s) = commits origin s.tape

abbrev lists_at : (ℕ → Origin) → List Worked → ℕ → List Stored
lists_at origin [] k = []
lists_at origin (w ∷ ws) zero = stored_by origin w.session
lists_at origin (w ∷ ws) (suc k) = lists_at origin ws k

first_total : (h : Stored → ℕ) (origin : ℕ → Origin) (journal : List Entry) (o : Option SessionValue) (rest : List SessionValue) → AllByRecursion (IsOwn journal) (cons_option o rest) → over (λ k. grants h origin (session_entries journal k)) (cons_option o rest) ≡ total h (stored_by origin o) + over (λ k. grants h origin (session_entries journal k)) rest
first_total h origin journal None rest are = omega arith
first_total h origin journal (Some s) rest are = ap (λ n. n + over (λ k. grants h origin (session_entries journal k)) rest) (ap (grants h origin) (sym are.0) ∙ granted_total h origin s.tape)

rest_own : (journal : List Entry) (o : Option SessionValue) (rest : List SessionValue) → AllByRecursion (IsOwn journal) (cons_option o rest) → AllByRecursion (IsOwn journal) rest
rest_own journal None rest are = are
rest_own journal (Some s) rest are = are.1

by_workers : (h : Stored → ℕ) (origin : ℕ → Origin) (journal : List Entry) (ws : List Worked) → AllByRecursion (IsOwn journal) (sessions_of ws) → over (λ k. grants h origin (session_entries journal k)) (sessions_of ws) ≡ sum_below (length ws) (λ k. total h (lists_at origin ws k))
by_workers h origin journal [] are = refl
by_workers h origin journal (w ∷ ws) are = omega (
  arith,
  first_total h origin journal w.session (sessions_of ws) are,
  by_workers h origin journal ws (rest_own journal w.session (sessions_of ws) are),
  sum_first (length ws) (λ k. total h (lists_at origin (w ∷ ws) k)),
)

stored_here : (T : Type 0) (inodes : ℕ) (origin : ℕ → Origin) (journal : List Entry) (jobs : List Job) (es : List Ended) (o : Option SessionValue) (rest : List SessionValue) → AreOrigins origin journal → AllByRecursion (IsOwn journal) (cons_option o rest) → HaveWorked T inodes jobs es o → AllZip (IsStoredOf inodes) (done jobs es) (stored_by origin o)
stored_here T inodes origin journal jobs es None rest are own_are (inl is) = subst (λ l. AllZip (IsStoredOf inodes) l []) (sym (ap (done jobs) is ∙ done_unprepared ended.NoThread (λ j others. refl) jobs jobs)) tt
stored_here T inodes origin journal jobs es None rest are own_are (inr (why, by, is)) = subst (λ l. AllZip (IsStoredOf inodes) l []) (sym (ap (done jobs) is ∙ done_unprepared (ended.NotPrepared why) (λ j others. refl) jobs jobs)) tt
stored_here T inodes origin journal jobs es (Some s) rest are own_are worked = stored_all origin jobs es s (subst (AreOrigins origin) (sym own_are.0) (own_origins origin journal are s.number)) worked

stored_at : (S : ℕ → Type 0) (inodes : ℕ) (origin : ℕ → Origin) (journal : List Entry) (jobs : List Job) (n m k : ℕ) (ws : List Worked) → AreOrigins origin journal → AllByRecursion (IsOwn journal) (sessions_of ws) → Each (λ k w. IsWorked (S (k + 1)) inodes jobs (k + 1) n w) m ws → k < length ws → AllZip (IsStoredOf inodes) (done (every n (m + k) jobs) (ends_at ws k)) (lists_at origin ws k)
stored_at S inodes origin journal jobs n m k [] are own_are each low = absurd (omega (arith, low))
stored_at S inodes origin journal jobs n m zero (w ∷ ws) are own_are each low =
    let e : m + 1 - 1 ≡ m + 0 = omega arith in
    subst (λ i. AllZip (IsStoredOf inodes) (done (every n i jobs) w.ends) (stored_by origin w.session)) e (stored_here (w.refused ≡ true) inodes origin journal (every n (m + 1 - 1) jobs) w.ends w.session (sessions_of ws) are own_are each.0.session)
stored_at S inodes origin journal jobs n m (suc k) (w ∷ ws) are own_are each low =
    let e : m + 1 + k ≡ m + suc k = omega arith in
    subst (λ i. AllZip (IsStoredOf inodes) (done (every n i jobs) (ends_at ws k)) (lists_at origin ws k)) e (stored_at S inodes origin journal jobs n (m + 1) k ws are (rest_own journal w.session (sessions_of ws) own_are) each.1 (omega (arith, low)))

-- ---- the ends, worker by worker

-- each by its part of the entries
own_ends : (S T : Type 0) → (S → T) → (n inodes : ℕ) (js : List Job) (es : List Ended) (entries : List Entry) → AreEnds S n inodes js es entries → AllZip (IsEnded T inodes) js es
own_ends S T f n inodes [] [] entries own = tt
own_ends S T f n inodes [] (e ∷ es) entries own = absurd own
own_ends S T f n inodes (j ∷ js) [] entries own = absurd own
own_ends S T f n inodes (j ∷ js) (e ∷ es) entries (mine, rest, is, own, others) = (inl (n, mine, end_weaker S T f n inodes j e mine own), own_ends S T f n inodes js es rest others)

own_here : (S T : Type 0) → (S → T) → (inodes : ℕ) (jobs : List Job) (es : List Ended) (o : Option SessionValue) → HaveWorked S inodes jobs es o → AllZip (IsEnded T inodes) jobs es
own_here S T f inodes jobs es None (inl is) = subst (AllZip (IsEnded T inodes) jobs) (sym is) (unprepared_own (IsEnded T inodes) ended.NoThread (λ j. inr tt) jobs)
own_here S T f inodes jobs es None (inr (why, by, is)) = subst (AllZip (IsEnded T inodes) jobs) (sym is) (unprepared_own (IsEnded T inodes) (ended.NotPrepared why) (λ j. inr by) jobs)
own_here S T f inodes jobs es (Some s) worked = own_ends S T f s.number inodes jobs es worked.rest worked.each

own_at : (S : ℕ → Type 0) (inodes : ℕ) (jobs : List Job) (n m k : ℕ) (ws : List Worked) → Each (λ k w. IsWorked (S (k + 1)) inodes jobs (k + 1) n w) m ws → k < length ws → AllZip (IsEnded ((worker : ℕ) × S worker) inodes) (every n (m + k) jobs) (ends_at ws k)
own_at S inodes jobs n m k [] each low = absurd (omega (arith, low))
own_at S inodes jobs n m zero (w ∷ ws) each low =
    let e : m + 1 - 1 ≡ m + 0 = omega arith in
    subst (λ i. AllZip (IsEnded ((worker : ℕ) × S worker) inodes) (every n i jobs) w.ends) e (own_here (w.refused ≡ true) ((worker : ℕ) × S worker) (λ told. (m + 1, each.0.stopped told)) inodes (every n (m + 1 - 1) jobs) w.ends w.session each.0.session)
own_at S inodes jobs n m (suc k) (w ∷ ws) each low =
    let e : m + 1 + k ≡ m + suc k = omega arith in
    subst (λ i. AllZip (IsEnded ((worker : ℕ) × S worker) inodes) (every n i jobs) (ends_at ws k)) e (own_at S inodes jobs n (m + 1) k ws each.1 (omega (arith, low)))

-- ---- who was stopped

-- where no worker tells that it was
unrefused : (S T : ℕ → Type 0) (inodes : ℕ) (jobs : List Job) (n m : ℕ) (ws : List Worked) → All (λ w. w.refused ≡ false) ws → Each (λ k w. IsWorked (S (k + 1)) inodes jobs (k + 1) n w) m ws → Each (λ k w. IsWorked (T (k + 1)) inodes jobs (k + 1) n w) m ws
unrefused S T inodes jobs n m [] none each = tt
unrefused S T inodes jobs n m (w ∷ ws) none each = (
  never_stopped (S (m + 1)) (T (m + 1)) jobs (m + 1) n w (All-head (λ (x : Worked). x.refused ≡ false) w ws none) each.0,
  unrefused S T inodes jobs n (m + 1) ws (All-tail (λ (x : Worked). x.refused ≡ false) w ws none) each.1,
)

pub none_stopped : {inodes : ℕ} → (S T : ℕ → Type 0) (jobs : List Job) (workers : ℕ) (ws : List Worked) → All (λ w. w.refused ≡ false) ws → AreWorked S inodes jobs workers ws → AreWorked T inodes jobs workers ws
none_stopped {inodes = inodes} S T jobs workers ws none worked = record { count = worked.count; each = unrefused S T inodes jobs workers 0 ws none worked.each }

stopped_at : (S : ℕ → Type 0) (inodes : ℕ) (jobs : List Job) (n m k : ℕ) (ws : List Worked) → option_map (λ w. w.refused) (slice_get ws k) ≡ Some true → Each (λ k w. IsWorked (S (k + 1)) inodes jobs (k + 1) n w) m ws → S (m + k + 1)
stopped_at S inodes jobs n m k [] told each = absurd (cc)
stopped_at S inodes jobs n m zero (w ∷ ws) told each = let is : w.refused ≡ true = cc in subst S (omega arith) (each.0.stopped is)
stopped_at S inodes jobs n m (suc k) (w ∷ ws) told each = subst S (omega arith) (stopped_at S inodes jobs n (m + 1) k ws told each.1)

-- the worker that tells it was
pub worker_stopped : {inodes : ℕ} → (S : ℕ → Type 0) (jobs : List Job) (workers worker : ℕ) (ws : List Worked) → 1 ≤ worker → option_map (λ w. w.refused) (slice_get ws (worker - 1)) ≡ Some true → AreWorked S inodes jobs workers ws → S worker
worker_stopped {inodes = inodes} S jobs workers worker ws some told worked = subst S (omega (arith, some)) (stopped_at S inodes jobs workers 0 (worker - 1) ws told worked.each)

-- what a stop says of a worker says another thing of it
pub back_weaker : (S T : ℕ → Type 0) → ((worker : ℕ) → S worker → T worker) → (inodes : ℕ) (jobs : List Job) (workers : ℕ) (sessions : List SessionValue) (ends : List Ended) → AreBack S inodes jobs workers sessions ends → AreBack T inodes jobs workers sessions ends
back_weaker S T f inodes jobs workers sessions ends back = record {
  all = back.all;
  worked = record {
    count = back.worked.count;
    each = each_weaker (λ k w. IsWorked (S (k + 1)) inodes jobs (k + 1) workers w) (λ k w. IsWorked (T (k + 1)) inodes jobs (k + 1) workers w) (λ k w is. unstopped (S (k + 1)) (T (k + 1)) jobs (k + 1) workers w (f (k + 1)) is) 0 back.all back.worked.each;
  };
  are = back.are;
  order = back.order;
}

-- how many ends each worker gave back
pub ends_of_worked : {inodes : ℕ} → (S : ℕ → Type 0) (jobs : List Job) (workers : ℕ) (ws : List Worked) → AreWorked S inodes jobs workers ws → Each (λ k w. length w.ends ≡ length (jobs_of jobs (k + 1) workers)) 0 ws
ends_of_worked {inodes = inodes} S jobs workers ws worked = each_weaker (λ k w. IsWorked (S (k + 1)) inodes jobs (k + 1) workers w) (λ k w. length w.ends ≡ length (jobs_of jobs (k + 1) workers)) (λ k w is. is.ends) 0 ws worked.each

-- ---- all of it

pub record Stores (S : ℕ → Type 0) (inodes : ℕ) (jobs : List Job) (ends : List Ended) (b : BookValue) : Type 0 where
  pub each : AllZip (IsEnded ((worker : ℕ) × S worker) inodes) jobs ends
  pub stored : List Stored
  pub of : AllZip (IsStoredOf inodes) (done jobs ends) stored
  pub committed : (h : Stored → ℕ) → worth h b.state ≡ worth h b.opening + total h stored

pub stores : {inodes : ℕ} → (S : ℕ → Type 0) (jobs : List Job) (workers : ℕ) (ws : List Worked) (ends : List Ended) (r : Round) (b : BookValue) → 1 ≤ workers → AreWorked S inodes jobs workers ws → AreInOrder jobs workers ws ends → IsClosedStore r b (sessions_of ws) → Stores S inodes jobs ends b
stores {inodes = inodes} S jobs workers ws ends r b some worked order closed = record { each = each_own; stored = all.stored; of = all.of; committed = law }
  where
    own_are : AllByRecursion (IsOwn b.journal) (sessions_of ws)
    own_are = closed.sessions.tapes

    keeps : AreKeeping b.journal
    keeps = journal_keeps r b (sessions_of ws) closed (sessions_keep S inodes jobs workers 0 ws worked.each)

    origin : ℕ → Origin
    origin = origin_in b.journal

    are : AreOrigins origin b.journal
    are = origins b.opening b.journal b.state keeps closed.kept.replays

    lists : ℕ → List Stored
    lists = lists_at origin ws

    size : workers ≡ suc (workers - 1)
    size = omega (arith, some)

    each : (k : ℕ) → k < workers → AllZip (IsStoredOf inodes) (done (every workers k jobs) (every workers k ends)) (lists k)
    each k low =
        let e : 0 + k ≡ k = omega arith in
        let here = stored_at S inodes origin b.journal jobs workers 0 k ws are own_are worked.each (omega (arith, low, worked.count)) in
        subst (λ l. AllZip (IsStoredOf inodes) (done (every workers k jobs) l) (lists k)) (sym (order.each k low)) (subst (λ i. AllZip (IsStoredOf inodes) (done (every workers i jobs) (ends_at ws k)) (lists k)) e here)

    workers_own : (k : ℕ) → k < workers → AllZip (IsEnded ((worker : ℕ) × S worker) inodes) (every workers k jobs) (every workers k ends)
    workers_own k low =
        let e : 0 + k ≡ k = omega arith in
        let here = own_at S inodes jobs workers 0 k ws worked.each (omega (arith, low, worked.count)) in
        subst (AllZip (IsEnded ((worker : ℕ) × S worker) inodes) (every workers k jobs)) (sym (order.each k low)) (subst (λ i. AllZip (IsEnded ((worker : ℕ) × S worker) inodes) (every workers i jobs) (ends_at ws k)) e here)

    each_own : AllZip (IsEnded ((worker : ℕ) × S worker) inodes) jobs ends
    each_own = own_woven (IsEnded ((worker : ℕ) × S worker) inodes) (workers - 1) jobs ends order.count (subst (λ n. (k : ℕ) → k < n → AllZip (IsEnded ((worker : ℕ) × S worker) inodes) (every n k jobs) (every n k ends)) size workers_own)

    all : Woven inodes workers jobs ends lists
    all = subst (λ n. Woven inodes n jobs ends lists) (sym size) (woven (workers - 1) jobs ends lists order.count (subst (λ n. (k : ℕ) → k < n → AllZip (IsStoredOf inodes) (done (every n k jobs) (every n k ends)) (lists k)) size each))

    law : (h : Stored → ℕ) → worth h b.state ≡ worth h b.opening + total h all.stored
    law h = omega (
      arith,
      tapes_law (length (sessions_of ws)) b.opening b.journal b.state closed.kept.began.idle keeps closed.sessions.all.known closed.kept.replays origin are h,
      over_once (λ k. grants h origin (session_entries b.journal k)) (sessions_of ws) closed.sessions.all.once,
      by_workers h origin b.journal ws own_are,
      all.total h,
      ap (λ n. sum_below n (λ k. total h (lists k))) worked.count,
    )
