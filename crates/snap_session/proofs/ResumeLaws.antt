-- What is left by a line of a log.
use Rattle.std.proofs.Common.{◌≡◌, ℕ, Bool, true, false, List, Result, Ok, Err, refl, sym, ap, subst, ◌∙◌}
use Rattle.std.specs.Prelude.{◌++◌, ◌∷◌, [], if◌then◌else◌, is_ok}
use Rattle.snap_call.specs.Results.{◌>>=◌}
use Rattle.snap_script.specs.declared.fault.Fault.{Fault}
use Rattle.snap_lines.specs.Effects.{Effect}
use Rattle.snap_marks.specs.declared.sums.Sums.{Sums}
use Rattle.snap_marks.specs.declared.sums.Differs.TheVariants.{Lines}
use Rattle.snap_marks.specs.Marks.{is_continued_line, is_mark_line}
use Rattle.snap_marks.specs.Sums.{continued, differing, going_on, marks_agree, no_sum}
use Rattle.snap_marks.proofs.MarkLaws.{continued_differs, continued_goes, length_chained, unmarked_goes_not}
use Rattle.snap_session.specs.Kept.{KeptPart, KeptValue, kept_so, served_kept, would_change}
use Rattle.snap_session.specs.Resumed.{effect_continued, resumed_kept}
use Rattle.snap_session.proofs.Keeping.{IsSteady, mark_changes, no_mark, script_of, so_after, steady_left, unchanged_left}

-- a line from whose mark no sums go on is any line
pub resumed_alike : (v : KeptValue) (line : List ℕ) → is_continued_line line ≡ false → resumed_kept v line ≡ served_kept v line
unfolding resumed_kept
resumed_alike v line h = ap (λ (t : Bool). if t then (served_kept v line >>= (λ e. Ok (effect_continued v line e))) else served_kept v line) h

-- a line that would change something is such a one
pub change_goes_not : (v : KeptValue) (line : List ℕ) → would_change v line ≡ true → is_continued_line line ≡ false
change_goes_not v line h = unmarked_goes_not line (no_mark v line h)

-- they are marks
pub goes_marked : (line : List ℕ) → is_continued_line line ≡ true → is_mark_line line ≡ true
goes_marked line is = by (is_mark_line line) refl
  where
    by : (t : Bool) → is_mark_line line ≡ t → is_mark_line line ≡ true
    by true h = h
    by false h = let bad : is_continued_line line ≡ false = unmarked_goes_not line h in absurd (cc)

-- ---- a mark from which sums go on

-- what it does to a server
pub record GoesOn (v : KeptValue) (mark : List ℕ) (w : KeptValue) : Type 0 where
  pub script : script_of w ≡ script_of v
  pub sums : w.sums ≡ continued v.sums mark
  pub so : (keeps : Bool) → kept_so keeps v ≡ v → kept_so keeps w ≡ w

continued_by : (v : KeptValue) (mark : List ℕ) (r : Result (Effect KeptValue) Fault) → (e : Effect KeptValue) → served_kept v mark ≡ r → (r >>= (λ f. Ok (effect_continued v mark f))) ≡ Ok e
    → (f : Effect KeptValue) × (served_kept v mark ≡ Ok f) × (effect_continued v mark f ≡ e)
continued_by v mark (Err fault) e is h = absurd (cc)
continued_by v mark (Ok f) e is h = (f, is, let both : Ok (effect_continued v mark f) ≡ Ok e = h in cc)

pub goes_on : (v : KeptValue) (mark : List ℕ) (e : Effect KeptValue) → is_continued_line mark ≡ true → resumed_kept v mark ≡ Ok e → GoesOn v mark e.value
unfolding resumed_kept
goes_on v mark e is h =
    let all : (served_kept v mark >>= (λ f. Ok (effect_continued v mark f))) ≡ Ok e = ap (λ (t : Bool). if t then (served_kept v mark >>= (λ f. Ok (effect_continued v mark f))) else served_kept v mark) (sym is) ∙ h in
    let cut = continued_by v mark (served_kept v mark) e refl all in
    let f : Effect KeptValue = cut.0 in
    record {
      script = ap (λ (x : Effect KeptValue). script_of x.value) (sym cut.2) ∙ ap (λ (k : KeptPart). k.script) (unchanged_left v mark f (mark_changes v mark (goes_marked mark is)) cut.1);
      sums = ap (λ (x : Effect KeptValue). x.value.sums) (sym cut.2);
      so = λ keeps also.
          let left : kept_so keeps f.value ≡ f.value = so_after keeps v mark f (ap (λ x. served_kept x mark) also ∙ cut.1) in
          subst (λ (x : Effect KeptValue). kept_so keeps x.value ≡ x.value) cut.2 (ap (λ (x : KeptValue). let y : KeptValue = record { server = x.server; keeps = x.keeps; sums = continued v.sums mark } in y) left);
    }

-- ---- the laws

-- no line has a fault
pub always_resumed : (v : KeptValue) (line : List ℕ) → is_ok (resumed_kept v line) ≡ true
unfolding resumed_kept served_kept
always_resumed v line = by (is_continued_line line)
  where
    by : (t : Bool) → is_ok (if t then (served_kept v line >>= (λ e. Ok (effect_continued v line e))) else served_kept v line) ≡ true
    by true = refl
    by false = refl

-- whether lines are carried out stays so
pub resumed_so : (keeps : Bool) (v : KeptValue) (line : List ℕ) (e : Effect KeptValue) → kept_so keeps v ≡ v → resumed_kept v line ≡ Ok e → kept_so keeps e.value ≡ e.value
resumed_so keeps v line e also h = by (is_continued_line line) refl
  where
    by : (t : Bool) → is_continued_line line ≡ t → kept_so keeps e.value ≡ e.value
    by false is = so_after keeps v line e (ap (λ x. served_kept x line) also ∙ sym (resumed_alike v line is) ∙ h)
    by true is = (goes_on v line e is h).so keeps also

-- sums stay of 32 bytes, and those of answers are told at each mark
pub steady_goes : (s : Sums) (mark : List ℕ) → IsSteady s → IsSteady (going_on s mark)
steady_goes s mark is = record { told = λ ends. refl; lines = length_chained no_sum (mark ++ 10 ∷ []); answers = refl }

steady_differs : (s : Sums) (mark : List ℕ) → IsSteady s → IsSteady (differing s Lines)
steady_differs s mark is = record { told = λ ends. refl; lines = is.lines; answers = is.answers }

steady_continued : (s : Sums) (mark : List ℕ) → IsSteady s → IsSteady (continued s mark)
steady_continued s mark is = by (marks_agree s) refl
  where
    by : (t : Bool) → marks_agree s ≡ t → IsSteady (continued s mark)
    by true h = subst IsSteady (sym (continued_goes s mark h)) (steady_goes s mark is)
    by false h = subst IsSteady (sym (continued_differs s mark h)) (steady_differs s mark is)

pub resumed_steady : (v : KeptValue) (line : List ℕ) (e : Effect KeptValue) → IsSteady v.sums → resumed_kept v line ≡ Ok e → IsSteady e.value.sums
resumed_steady v line e steady h = by (is_continued_line line) refl
  where
    by : (t : Bool) → is_continued_line line ≡ t → IsSteady e.value.sums
    by false is = steady_left v line e steady (sym (resumed_alike v line is) ∙ h)
    by true is = subst IsSteady (sym (goes_on v line e is h).sums) (steady_continued v.sums line steady)
