-- Laws of `GivesRun`, which says that a run exists, and of `Called`: each follows from that alone, and a stored wrong body breaks it.
use Rattle.std.proofs.Common.{◌≡◌, inl, inr, ℕ, Bool, true, ◌<◌, ◌≤◌, List, [], ◌∷◌, ◌++◌, length, map, take, drop, None, Result, Ok, Err, sym, ap, ◌∙◌, arith}
use Rattle.std.specs.Prelude.{◌⊎◌}
use Rattle.std.proofs.lemmas.Bool.{cases_lt}
use Rattle.snap_script.specs.declared.fault.Fault.{Fault}
use Rattle.snap_script.specs.declared.fault.Fault.TheVariants.{Refused}
use Rattle.snap_lines.specs.Effects.{Effect}
use Rattle.snap_lines.specs.Lines.{lines_of, without_feed}
use Rattle.snap_lines.specs.Transcripts.{Transcript, cut_length, effect_at, goes_on, next_line, prepended, transcript, transcript_from}
use Rattle.snap_lines.specs.Words.{fault_status}
use Rattle.snap_lines.specs.declared.stop.Stop.{Stop}
use Rattle.snap_lines.specs.declared.stop.Stop.TheVariants.{Line, InputFailed, OutputFailed, OutOfMemory}
use Rattle.snap_session.specs.declared.run.RunOptions.{RunOptions}
use Rattle.snap_session.specs.Script.{script}
use Rattle.snap_session.specs.Service.{ServerValue, served, service}
use Rattle.snap_c.specs.Calls.{Called}
use Rattle.snap_c.specs.Held.{HeldValue, unserved}
use Rattle.snap_c.specs.Run.{GivesRun, Ran, status_at}

-- the status of a line's fault is not 0
fault_not_0 : (fault : Fault) → 0 ≡ fault_status fault → ⊥
fault_not_0 (Refused why) e = absurd (omega (arith, e))
fault_not_0 fault e = absurd (omega (arith, e))

-- a run with the status 0 has ended well
ended_well : (options : RunOptions) (bytes : List ℕ) (ended : Result (Unit {0}) Stop) (text : List ℕ) → 0 ≡ status_at ended → Ran options bytes ended text → ((script options bytes).fault ≡ None) × (text ≡ (script options bytes).text)
ended_well options bytes (Ok done) text e ran = ran
ended_well options bytes (Err (Line f)) text e ran = absurd (fault_not_0 f.cause e)
ended_well options bytes (Err InputFailed) text e ran = absurd (omega (arith, e))
ended_well options bytes (Err OutputFailed) text e ran = absurd (omega (arith, e))
ended_well options bytes (Err (OutOfMemory want)) text e ran = absurd (omega (arith, e))

-- a run with the status 0 has no fault, and gives the script's whole text, and no other
pub whole_text_given : (options : RunOptions) (bytes : List ℕ) (line written : ℕ) (before after : List ℕ) → GivesRun options bytes 0 line written before after
    → ((script options bytes).fault ≡ None) × (written ≡ length (script options bytes).text) × (after ≡ (script options bytes).text ++ drop (length (script options bytes).text) before)
whole_text_given options bytes line written before after (ended, text, ran, given) = by (cases_lt (length before) (length text))
  where
    by : (length before < length text) ⊎ (length text ≤ length before)
        → ((script options bytes).fault ≡ None) × (written ≡ length (script options bytes).text) × (after ≡ (script options bytes).text ++ drop (length (script options bytes).text) before)
    by (inl lacks) = let wrong = (given.lacks lacks).0 in absurd (omega (arith, wrong))
    by (inr fits) =
        let got = given.fits fits in
        let well = ended_well options bytes ended text got.0 ran in
        (well.0, given.size ∙ ap length well.1, got.1 ∙ ap (λ (t : List ℕ). t ++ drop (length t) before) well.1)

-- a run that ended so doesn't have the status 2 where its script has no fault
not_faulty : (options : RunOptions) (bytes : List ℕ) (ended : Result (Unit {0}) Stop) (text : List ℕ) → (script options bytes).fault ≡ None → 2 ≡ status_at ended → Ran options bytes ended text → ⊥
not_faulty options bytes (Ok done) text none e ran = absurd (omega (arith, e))
not_faulty options bytes (Err (Line f)) text none e (left, told) = let wrong = sym none ∙ told.0 in absurd (cc)
not_faulty options bytes (Err InputFailed) text none e ran = absurd (omega (arith, e))
not_faulty options bytes (Err OutputFailed) text none e ran = absurd (omega (arith, e))
not_faulty options bytes (Err (OutOfMemory want)) text none e ran = absurd (omega (arith, e))

-- a run whose script has no fault isn't told as one that ended at a line
pub no_fault_told : (options : RunOptions) (bytes : List ℕ) (line written : ℕ) (before after : List ℕ) → (script options bytes).fault ≡ None → GivesRun options bytes 2 line written before after → ⊥
no_fault_told options bytes line written before after none (ended, text, ran, given) = by (cases_lt (length before) (length text))
  where
    by : (length before < length text) ⊎ (length text ≤ length before) → ⊥
    by (inl lacks) = let wrong = (given.lacks lacks).0 in absurd (omega (arith, wrong))
    by (inr fits) = not_faulty options bytes ended text none (given.fits fits).0 ran

-- what is given of a result
abbrev given_of : {A : Type 0} → A → Result A Fault → A
given_of other (Ok it) = it
given_of other (Err fault) = other

-- a line that leaves a store is served, and its answer kept, and no other
pub line_is_served : (held : HeldValue) (line : List ℕ) (status : ℕ) (held' : HeldValue) (written : ℕ) (before after : List ℕ) (effect : Effect ServerValue) → served held.server line ≡ Ok effect
    → Called held line status true held' written before after → held' ≡ record { server = effect.value; answer = effect.text }
line_is_served held line status held' written before after effect does (inl (stands, told, given)) =
    ap (λ (it : Effect ServerValue). record { server = it.value; answer = it.text }) (ap (given_of effect) (sym told ∙ does))
line_is_served held line status held' written before after effect does (inr (gone, refused, nothing)) = absurd (cc)

-- a line with the status 0 gives the answer of what it is served, and no other
pub answer_is_given : (held : HeldValue) (line : List ℕ) (stands : Bool) (held' : HeldValue) (written : ℕ) (before after : List ℕ) (effect : Effect ServerValue) → served held.server line ≡ Ok effect
    → Called held line 0 stands held' written before after → after ≡ effect.text ++ drop (length effect.text) before
answer_is_given held line stands held' written before after effect does (inl (stood, told, given)) = by (cases_lt (length before) (length held'.answer))
  where
    by : (length before < length held'.answer) ⊎ (length held'.answer ≤ length before) → after ≡ effect.text ++ drop (length effect.text) before
    by (inl lacks) = let wrong = (given.lacks lacks).0 in absurd (omega (arith, wrong))
    by (inr fits) = (given.fits fits).1 ∙ ap (λ (t : List ℕ). t ++ drop (length t) before) (ap (λ (it : Effect ServerValue). it.text) (ap (given_of effect) (sym told ∙ does)))
answer_is_given held line stands held' written before after effect does (inr (gone, refused, nothing)) = absurd (omega (arith, refused))

-- ---- calls in turn

-- each line leaves a store, and these are the answers that were kept
abbrev pub AreCalled : HeldValue → List (List ℕ) → List (List ℕ) → HeldValue → Type 0
AreCalled held [] answers held' = (answers ≡ []) × (held ≡ held')
AreCalled held (line ∷ lines) answers held' = (status written : ℕ) × (before after : List ℕ) × (mid : HeldValue) × (rest : List (List ℕ))
    × Called held line status true mid written before after × AreCalled mid lines rest held' × (answers ≡ mid.answer ∷ rest)

-- all answers
abbrev pub text_of : List (List ℕ) → List ℕ
text_of [] = []
text_of (answer ∷ answers) = answer ++ text_of answers

-- a line of an input, as it is handed in: without its line feed, and of one that is too long as much as is read
abbrev pub line_in : List ℕ → List ℕ
line_in line = take cut_length (without_feed line)

called_from : (lines : List (List ℕ)) (answers : List (List ℕ)) (held held' : HeldValue) (n : ℕ) → AreCalled held (map line_in lines) answers held'
    → transcript_from served (record { lines = n; left = None; value = held.server }) lines ≡ record { text = text_of answers; fault = None; value = held'.server }
unfolding effect_at
called_from [] answers held held' n (none, same) = ap (λ (h : HeldValue). record { text = []; fault = None; value = h.server }) same ∙ ap (λ (l : List (List ℕ)). record { text = text_of l; fault = None; value = held'.server }) (sym none)
called_from (line ∷ lines) answers held held' n (status, written, before, after, mid, rest, inl (stands, told, given), more, is) =
    ap (λ r. goes_on (record { lines = n; left = None; value = held.server }) line r (λ q. transcript_from served q lines)) told
    ∙ ap (prepended mid.answer) (called_from lines rest mid held' (next_line n) more)
    ∙ ap (λ (l : List (List ℕ)). record { text = text_of l; fault = None; value = held'.server }) (sym is)
called_from (line ∷ lines) answers held held' n (status, written, before, after, mid, rest, inr (gone, refused, nothing), more, is) = absurd (cc)

-- the lines of an input, given to a store that has answered none, one after another, have the answers of a service, and leave its server
pub calls_are_service : (bytes : List ℕ) (answers : List (List ℕ)) (held : HeldValue) → AreCalled unserved (map line_in (lines_of bytes)) answers held → ((service bytes).text ≡ text_of answers) × ((service bytes).value ≡ held.server)
unfolding transcript
calls_are_service bytes answers held called =
    let all = called_from (lines_of bytes) answers unserved held 0 called in
    (ap (λ (t : Transcript ServerValue). t.text) all, ap (λ (t : Transcript ServerValue). t.value) all)
