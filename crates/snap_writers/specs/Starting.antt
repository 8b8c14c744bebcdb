-- What workers start with, and what they give back once all have ended.
use Rattle.std.specs.Prelude.{◌≡◌, ◌⊎◌, ℕ, ◌+◌, ◌<◌, ◌≤◌, List, length}
use Rattle.snap_tape.specs.Tapes.{SessionValue}
use Rattle.snap_writers.specs.declared.assignment.Assignment.{Assignment}
use Rattle.snap_writers.specs.declared.job.Job.{Job}
use Rattle.snap_writers.specs.declared.job.Ended.{Ended}
use Rattle.snap_writers.specs.declared.job.Ended.TheVariants as ended
use Rattle.snap_writers.specs.declared.job.RunFault.{RunFault}
use Rattle.snap_writers.specs.declared.job.RunFault.TheVariants as faults
use Rattle.snap_writers.specs.declared.job.Worked.{Worked}
use Rattle.snap_writers.specs.declared.threads.Started.{Started}
use Rattle.snap_writers.specs.declared.threads.Started.TheVariants.{There, Threadless}
use Rattle.snap_round.specs.declared.rule.Round.{Round}
use Rattle.snap_store.specs.Closing.{HasCause}
use Rattle.snap_writers.specs.Jobs.{AreInOrder, AreWorked, Each, IsReport, IsWorked, jobs_of, sessions_of, unprepared}
use Rattle.snap_writers.specs.Going.{none_run}

-- what the worker starts with
pub record IsAssigned (jobs : List Job) (worker workers : ℕ) (a : Assignment) : Type 0 where
  pub number : a.worker ≡ worker
  pub ends : a.ends ≡ none_run (jobs_of jobs worker workers)
  pub threadless : a.threadless ≡ unprepared ended.NoThread (jobs_of jobs worker workers)

pub record AreAssigned (jobs : List Job) (workers : ℕ) (all : List Assignment) : Type 0 where
  pub count : length all ≡ workers
  pub each : Each (λ k a. IsAssigned jobs (k + 1) workers a) 0 all

-- the thread's promise is of this worker and this gate; where there is no thread, the worker gave back what it owes
abbrev pub IsStarted : {G : Type 0} → G → (ℕ → Type 0) → ℕ → List Job → ℕ → ℕ → Started G → Type 0
IsStarted gate S inodes jobs worker workers (There h) = (h.promise.layer_inodes ≡ inodes) × (h.promise.jobs.now ≡ jobs) × (h.promise.worker ≡ worker) × (h.promise.workers ≡ workers) × (h.promise.gate.now ≡ gate)
IsStarted gate S inodes jobs worker workers (Threadless w) = IsWorked (S worker) inodes jobs worker workers w

pub record AreStarted {G : Type 0} (gate : G) (S : ℕ → Type 0) (inodes : ℕ) (jobs : List Job) (workers : ℕ) (all : List (Started G)) : Type 0 where
  pub count : length all ≡ workers
  pub each : Each (λ k s. IsStarted gate S inodes jobs (k + 1) workers s) 0 all

-- ---- where there is no report of jobs that were all let through

-- 1 to 16 workers
abbrev pub IsCount : ℕ → Type 0
IsCount workers = (1 ≤ workers) × (workers ≤ 16)

-- the sessions are all that the workers got, each with what its worker did, and the ends are those of the workers' jobs
pub record AreBack (S : ℕ → Type 0) (inodes : ℕ) (jobs : List Job) (workers : ℕ) (sessions : List SessionValue) (ends : List Ended) : Type 0 where
  pub all : List Worked
  pub worked : AreWorked S inodes jobs workers all
  pub are : sessions ≡ sessions_of all
  pub order : AreInOrder jobs workers all ends

-- there are not 1 to 16 workers; or there are, and: memory was refused, and no more is said of it; or the gate stopped this worker, and this is the report; or the sessions that the workers got are back, and the store's close failed for the cause. A store that comes back is of the round that it was of. S holds of a worker that the gate has stopped
abbrev pub IsFault : {N : Type 0} → (ℕ → Type 0) → Round → List Job → ℕ → RunFault N → Type 0
IsFault S r jobs workers (faults.BadWorkers store) = (store ≡ r) × ((workers ≡ 0) ⊎ (16 < workers))
IsFault S r jobs workers (faults.OutOfMemory store want) = (store ≡ r) × IsCount workers
IsFault S r jobs workers (faults.GateClosed worker report) = IsCount workers × IsReport S r jobs workers report.ends report.closed × (1 ≤ worker) × (worker ≤ workers) × S worker
IsFault S r jobs workers (faults.NotClosed ends back) = IsCount workers × AreBack S r.opening.layer_inodes jobs workers back.sessions.items ends × (back.store ≡ r) × HasCause r back.sessions.items back.cause
