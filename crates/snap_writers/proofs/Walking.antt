-- How a worker goes on through its jobs.
use Rattle.std.specs.Prelude.{get_or, take}
use Rattle.std.specs.List.{AllZip}
use Rattle.std.proofs.Common.{◌≡◌, true, false, ℕ, suc, ◌+◌, ◌<◌, inl, inr, List, [], ◌∷◌, ◌++◌, length, refl, sym, ap, ◌∙◌, subst, arith, add-one, append-nil, length-append}
use Rattle.std.proofs.Math.Seq.{take-suc}
use Rattle.std.proofs.lemmas.Grind.{take-set_at}
use Rattle.std.proofs.lemmas.List.{append_assoc, length-map, map-append, set_at}
use Rattle.std.proofs.Math.ListN.{set}
use Rattle.snap_call.specs.declared.call.Call.TheVariants as calls
use Rattle.snap_call.specs.declared.call.Given.TheVariants.{Nothing}
use Rattle.snap_call.specs.declared.entry.Entry.{Entry}
use Rattle.snap_call.specs.declared.reply.Reply.TheVariants as replies
use Rattle.snap_call.specs.Journal.{call_entry}
use Rattle.snap_tape.specs.Tapes.{SessionValue}
use Rattle.snap_writers.specs.declared.job.Job.{Job}
use Rattle.snap_writers.specs.declared.job.Ended.{Ended}
use Rattle.snap_writers.specs.declared.job.Ended.TheVariants as ended
use Rattle.snap_writers.specs.declared.job.Worked.{Worked}
use Rattle.snap_writers.specs.Jobs.{AreEnds, Done, HasWorked, IsEndOf, IsWorked, done, unprepared, with_end}
use Rattle.snap_writers.specs.Going.{IsGoing, IsRunOf, none_run}

-- an end that isn't Committed
pub done_unprepared : {X : Type 0} (end : Ended) (none : (j : Job) (rest : List Done) → with_end j end rest ≡ rest) (js : List Job) (xs : List X) → done js (unprepared end xs) ≡ []
done_unprepared end none [] xs = refl
done_unprepared end none (j ∷ js) [] = refl
done_unprepared end none (j ∷ js) (x ∷ xs) = none j (done js (unprepared end xs)) ∙ done_unprepared end none js xs

-- of jobs that were not run none was prepared
pub unprepared-none : {X : Type 0} (end : Ended) (xs : List X) → unprepared end (none_run xs) ≡ unprepared end xs
unprepared-none end [] = refl
unprepared-none end (x ∷ xs) = ap (λ (es : List Ended). end ∷ es) (unprepared-none end xs)

pub length_none : (js : List Job) → length (none_run js) ≡ length js
length_none js = length-map js (λ _. ended.NotRun)

-- an end that is owed for each job
pub unprepared_own : (R : Job → Ended → Type 0) (end : Ended) → ((j : Job) → R j end) → (js : List Job) → AllZip R js (unprepared end js)
unprepared_own R end own [] = tt
unprepared_own R end own (j ∷ js) = (own j, unprepared_own R end own js)

-- ---- ends, each by its entries

pub end_weaker : (S T : Type 0) → (S → T) → (n inodes : ℕ) (j : Job) (e : Ended) (mine : List Entry) → IsEndOf S n inodes j e mine → IsEndOf T n inodes j e mine
end_weaker S T f n inodes j ended.NotRun mine own = (f own.0, own.1)
end_weaker S T f n inodes j e mine own = own

pub ends_weaker : (S T : Type 0) → (S → T) → (n inodes : ℕ) (js : List Job) (es : List Ended) (entries : List Entry) → AreEnds S n inodes js es entries → AreEnds T n inodes js es entries
ends_weaker S T f n inodes [] [] entries own = own
ends_weaker S T f n inodes [] (e ∷ es) entries own = absurd own
ends_weaker S T f n inodes (j ∷ js) [] entries own = absurd own
ends_weaker S T f n inodes (j ∷ js) (e ∷ es) entries (mine, rest, are, own, others) = (mine, rest, are, end_weaker S T f n inodes j e mine own, ends_weaker S T f n inodes js es rest others)

ends_append : (S : Type 0) (n inodes : ℕ) (js ks : List Job) (es fs : List Ended) (xs ys : List Entry) → AreEnds S n inodes js es xs → AreEnds S n inodes ks fs ys → AreEnds S n inodes (js ++ ks) (es ++ fs) (xs ++ ys)
ends_append S n inodes [] ks [] fs xs ys p q = subst (λ (l : List Entry). AreEnds S n inodes ks fs (l ++ ys)) (sym p) q
ends_append S n inodes [] ks (e ∷ es) fs xs ys p q = absurd p
ends_append S n inodes (j ∷ js) ks [] fs xs ys p q = absurd p
ends_append S n inodes (j ∷ js) ks (e ∷ es) fs xs ys (mine, rest, are, own, others) q = (mine, rest ++ ys, ap (λ (l : List Entry). l ++ ys) are ∙ append_assoc mine rest ys, own, ends_append S n inodes js ks es fs rest ys others q)

-- jobs of which none was begun
none_own : (S : Type 0) → S → (n inodes : ℕ) (js : List Job) → AreEnds S n inodes js (none_run js) []
none_own S stopped n inodes [] = refl
none_own S stopped n inodes (j ∷ js) = ([], [], refl, (stopped, inl refl), none_own S stopped n inodes js)

-- ---- the worker's way

pub begins : {inodes : ℕ} → (all : List Job) (s : SessionValue) (es : List Ended) → es ≡ none_run all → s.tape ≡ call_entry s.number calls.Session Nothing replies.Opened ∷ [] → IsGoing inodes all all s es 0
begins all s es are tape = record { gone = []; front = []; rest = []; jobs = refl; count = omega arith; behind = refl; are = are; tape = tape; own = refl }

-- the tape, with the entries of one job more
more_tape : {S : Type 0} {inodes : ℕ} → (all left : List Job) (j : Job) (s t : SessionValue) (es : List Ended) (place : ℕ) (e : Ended) → (was : IsGoing inodes all (j ∷ left) s es place) → (run : IsRunOf S inodes s t j [] e) → t.tape ≡ call_entry t.number calls.Session Nothing replies.Opened ∷ (was.rest ++ run.mine)
more_tape all left j s t es place e was run = run.went.tape ∙ (ap (λ (l : List Entry). l ++ run.mine) was.tape ∙ ap (λ n. call_entry n calls.Session Nothing replies.Opened ∷ (was.rest ++ run.mine)) (sym run.went.number))

-- a job is done
pub goes : {inodes : ℕ} → (all left : List Job) (j : Job) (s t : SessionValue) (es : List Ended) (place : ℕ) (e : Ended) → IsGoing inodes all (j ∷ left) s es place → IsRunOf ⊥ inodes s t j [] e → IsGoing inodes all left t (set es place e) (place + 1)
goes {inodes = inodes} all left j s t es place e was run = record {
  gone = was.gone ++ j ∷ [];
  front = was.front ++ e ∷ [];
  rest = was.rest ++ run.mine;
  jobs = was.jobs ∙ sym (append_assoc was.gone (j ∷ []) left);
  count = omega (arith, was.count);
  behind = length-append was.front (e ∷ []) ∙ omega (arith, was.behind);
  are = ap (λ (l : List Ended). set l place e) was.are ∙ (set_at was.front ended.NotRun (none_run left) e place was.behind ∙ sym (append_assoc was.front (e ∷ []) (none_run left)));
  tape = more_tape all left j s t es place e was run;
  own = subst (λ n. AreEnds ⊥ n inodes (was.gone ++ j ∷ []) (was.front ++ e ∷ []) (was.rest ++ run.mine)) (sym run.went.number)
      (ends_append ⊥ s.number inodes was.gone (j ∷ []) was.front (e ∷ []) was.rest run.mine was.own (run.mine, [], sym (append-nil run.mine), run.own, refl));
}

counts : {inodes : ℕ} → (all left : List Job) (s : SessionValue) (es : List Ended) (place : ℕ) → IsGoing inodes all left s es place → length es ≡ length all
counts all left s es place was = omega (arith, ap length was.are, length-append was.front (none_run left), length_none left, was.behind, was.count)

-- the gate stops the worker at a job: that one and those after it are NotRun
pub stops : {S : Type 0} {inodes : ℕ} → (R : Type 0) (all left : List Job) (j : Job) (s t : SessionValue) (es : List Ended) (place : ℕ) → R → IsGoing inodes all (j ∷ left) s es place → IsRunOf S inodes s t j [] ended.NotRun → (length es ≡ length all) × HasWorked R inodes all es t
stops {inodes = inodes} R all left j s t es place stopped was run = (
  counts all (j ∷ left) s es place was,
  record { rest = was.rest ++ run.mine; tape = more_tape all left j s t es place ended.NotRun was run; each = subst (λ n. AreEnds R n inodes all es (was.rest ++ run.mine)) (sym run.went.number) each },
)
  where
    joined : AreEnds R s.number inodes (was.gone ++ j ∷ left) (was.front ++ none_run (j ∷ left)) (was.rest ++ run.mine)
    joined = ends_append R s.number inodes was.gone (j ∷ left) was.front (none_run (j ∷ left)) was.rest run.mine (ends_weaker ⊥ R (λ none. absurd none) s.number inodes was.gone was.front was.rest was.own)
        (run.mine, [], sym (append-nil run.mine), (stopped, run.own.1), none_own R stopped s.number inodes left)

    each : AreEnds R s.number inodes all es (was.rest ++ run.mine)
    each = subst (λ (js : List Job). AreEnds R s.number inodes js es (was.rest ++ run.mine)) (sym was.jobs) (subst (λ (fs : List Ended). AreEnds R s.number inodes (was.gone ++ j ∷ left) fs (was.rest ++ run.mine)) (sym was.are) joined)

-- no job is left
pub ends_all : {inodes : ℕ} → (R : Type 0) (all left : List Job) (s : SessionValue) (es : List Ended) (place : ℕ) → left ≡ [] → IsGoing inodes all left s es place → (length es ≡ length all) × HasWorked R inodes all es s
ends_all {inodes = inodes} R all left s es place none was = (
  counts all left s es place was,
  record {
    rest = was.rest;
    tape = was.tape;
    each =
        subst (λ (js : List Job). AreEnds R s.number inodes js es was.rest) (sym jobs)
        (subst (λ (fs : List Ended). AreEnds R s.number inodes was.gone fs was.rest) (sym are) (ends_weaker ⊥ R (λ wrong. absurd wrong) s.number inodes was.gone was.front was.rest was.own));
  },
)
  where
    jobs : all ≡ was.gone
    jobs = was.jobs ∙ (ap (λ (l : List Job). was.gone ++ l) none ∙ append-nil was.gone)

    are : es ≡ was.front
    are = was.are ∙ (ap (λ (l : List Job). was.front ++ none_run l) none ∙ append-nil was.front)

-- there is an end to write for the next job
pub room : {inodes : ℕ} → (all left : List Job) (j : Job) (s : SessionValue) (es : List Ended) (place : ℕ) → IsGoing inodes all (j ∷ left) s es place → place < length es
room all left j s es place was = omega (arith, ap length was.are, length-append was.front (none_run (j ∷ left)), was.behind, length_none (j ∷ left))

-- no job was prepared, of one more
pub unprepared-more : (end : Ended) (es was : List Ended) (k : ℕ) → k < length was → length es ≡ length was → take k es ≡ unprepared end (take k was)
    → take (k + 1) (set es k end) ≡ unprepared end (take (k + 1) was)
unprepared-more end es was k low same before =
    let grown : take (k + 1) was ≡ take k was ++ get_or was k ended.NotRun ∷ [] = rw add-one (take-suc was k ended.NotRun low) in
    take-set_at es k (k + 1) end refl (omega (arith, low, same))
    ∙ (ap (λ (l : List Ended). l ++ end ∷ []) before
    ∙ (sym (map-append (λ (_ : Ended). end) (take k was) (get_or was k ended.NotRun ∷ [])) ∙ ap (λ (l : List Ended). unprepared end l) (sym grown)))

-- what is owed by what is promised
pub owed : {inodes : ℕ} → (S : ℕ → Type 0) (jobs jobs' : List Job) (worker worker' workers workers' : ℕ) (w : Worked) → jobs ≡ jobs' → worker ≡ worker' → workers ≡ workers' → IsWorked (S worker) inodes jobs worker workers w → IsWorked (S worker') inodes jobs' worker' workers' w
owed {inodes = inodes} S jobs jobs' worker worker' workers workers' w a b c h =
    subst (λ (js : List Job). IsWorked (S worker') inodes js worker' workers' w) a
    (subst (λ k. IsWorked (S k) inodes jobs k workers' w) b (subst (λ n. IsWorked (S worker) inodes jobs worker n w) c h))

-- what a worker that tells no stop gave back
pub unstopped : {inodes : ℕ} → (S T : Type 0) (jobs : List Job) (worker workers : ℕ) (w : Worked) → (S → T) → IsWorked S inodes jobs worker workers w → IsWorked T inodes jobs worker workers w
unstopped S T jobs worker workers w f h = record { ends = h.ends; stopped = λ told. f (h.stopped told); session = h.session }

pub never_stopped : {inodes : ℕ} → (S T : Type 0) (jobs : List Job) (worker workers : ℕ) (w : Worked) → w.refused ≡ false → IsWorked S inodes jobs worker workers w → IsWorked T inodes jobs worker workers w
never_stopped S T jobs worker workers w not h = record { ends = h.ends; stopped = λ told. let wrong : true ≡ false = sym told ∙ not in absurd (cc); session = h.session }
