-- What a log keeps of a server, and how its marks are found to agree.
use Rattle.std.proofs.Common.{◌+◌, ◌≡◌, inl, inr, ℕ, ◌≤◌, length, List, [], ◌∷◌, ◌++◌, Bool, true, Option, Some, None, Result, Ok, Err, refl, ap, take, ◌∙◌, arith, subst, false, sym, ap₂, append_assoc}
use Rattle.std.specs.Prelude.{is_none, is_ok, ◌&&◌, ◌||◌, not, ◌==◌}
use Rattle.std.specs.List.{list_all}
use Rattle.snap_log.specs.Texts.{has_feed, is_line}
use Rattle.snap_script.specs.declared.fault.Fault.{Fault}
use Rattle.snap_lines.specs.Effects.{Effect}
use Rattle.snap_durable.specs.Laws.{KeepsPart}
use Rattle.snap_durable.specs.Parts.{line_limit, line_read}
use Rattle.snap_durable.proofs.RestartLaws.{Adds, Passes, joined}
use Rattle.snap_session.specs.Kept.{KeptPart, KeptValue, has_store, idle_kept, kept_so, mark_of, kept_part, served_kept, would_change}
use Rattle.snap_lines.proofs.LineLaws.{feed_ended}
use Rattle.snap_marks.specs.declared.sums.Sums.{Sums}
use Rattle.snap_marks.specs.Marks.{chained_lines, is_mark_line, stem, tail, tail_rebased}
use Rattle.snap_marks.specs.Sums.{marks_agree, mark_compared, no_sums, rebased_mark, summed}
use Rattle.snap_marks.specs.declared.sums.Difference.{Difference}
use Rattle.snap_marks.proofs.MarkLaws.{IsOneLine, chained_more, is_mark_text, length_mark, marked_answers, marked_lines, marked_told, open_mark, whole_mark, whole_rebased}
use Rattle.std.proofs.lemmas.List.{append_cancel_right, take_all}
use Rattle.snap_session.proofs.Keeping.{IsSteady, added_sums, always_served, carried_alike, change_alike, mark_sums, steady_left, changes_left, mark_changes, so_after, so_again, so_left, store_left, unchanged_left, unkept_left}
use Rattle.snap_durable.specs.Logged.{Starts}

ok_is : {A : Type 0} (r : Result (Effect A) Fault) → is_ok r ≡ true → (e : Effect A) × (r ≡ Ok e)
ok_is (Ok e) h = (e, refl)
ok_is (Err fault) h = absurd (cc)

-- a text of a mark changes nothing
pub text_left : (lines answers end : List ℕ) → IsOneLine end → (v : KeptValue) → would_change v (line_read ((stem lines answers ++ end) ++ 10 ∷ [])) ≡ false
unfolding line_read
text_left lines answers end one v =
    let m : List ℕ = stem lines answers ++ end in
    let read : line_read (m ++ 10 ∷ []) ≡ take line_limit m = ap (take line_limit) (feed_ended m (open_mark lines answers end one)) in
    mark_changes v (line_read (m ++ 10 ∷ [])) (ap is_mark_line read ∙ is_mark_text line_limit lines answers end (omega arith))

-- of a server a log keeps the script, and the sums of lines and answers
pub keeps_part : KeepsPart served_kept would_change mark_of kept_so has_store kept_part
keeps_part = record {
  served = λ v line. ok_is (served_kept v line) (always_served v line);
  same = so_left;
  same_changes = λ k v line. refl;
  same_settled = λ k v. refl;
  again = λ k v. so_again k k v;
  stays = so_after;
  unchanged = unchanged_left;
  refused = unkept_left;
  alike = carried_alike;
  settles = store_left;
  known = λ v line more e. changes_left v line more e;
  one_line = λ v lines. open_mark (chained_lines v.sums.lines lines) v.sums.answers tail refl;
  marks = λ v w lines. text_left (chained_lines w.sums.lines lines) w.sums.answers tail refl v;
}

-- a mark is a line of a log
pub no_feed : (bytes : List ℕ) → IsOneLine bytes → has_feed bytes ≡ false
no_feed [] one = refl
no_feed (b ∷ bytes) one = by (b == 10) (no_feed bytes) one
  where
    by : (t : Bool) → (IsOneLine bytes → has_feed bytes ≡ false) → (not t && list_all (λ b. not (b == 10)) bytes) ≡ true → (t || has_feed bytes) ≡ false
    by true none h = absurd (cc)
    by false none h = none h

pub mark_line : (s : Sums) → is_line (rebased_mark s) ≡ true
mark_line s = ap (λ (t : Bool). not t) (no_feed (rebased_mark s) (open_mark s.lines s.answers tail_rebased refl))

-- ---- the marks of a log that was served agree

pub change_same : (v w : KeptValue) (line : List ℕ) → kept_part v ≡ kept_part w → would_change v line ≡ would_change w line
change_same v w line same = change_alike v w line (ap (λ (k : KeptPart). k.script) same)

-- the marks agree, up to the last line
pub record IsSound (u : KeptValue) : Type 0 where
  pub whole : marks_agree u.sums ≡ true
  pub told : u.sums.told ≡ u.sums.answers
  pub steady : IsSteady u.sums

both_of : (d : Option Difference) (ends : Bool) → (is_none d && ends) ≡ true → (d ≡ None) × (ends ≡ true)
both_of None true h = (refl, refl)
both_of None false h = absurd (cc)
both_of (Some d) ends h = absurd (cc)

keeps_on : (u : KeptValue) → kept_so true u ≡ u → u.keeps ≡ true
keeps_on u is = sym (ap (λ (v : KeptValue). v.keeps) is)

-- what lines that were added make of the sums
record AreSummed (u x : KeptValue) (lines : List ℕ) : Type 0 where
  sum : x.sums.lines ≡ chained_lines u.sums.lines lines
  told : x.sums.told ≡ u.sums.told
  differs : x.sums.differs ≡ u.sums.differs
  steady : IsSteady x.sums

adds_sums : (rs : List (List ℕ)) (u x : KeptValue) → kept_so true u ≡ u → IsSteady u.sums → Adds served_kept would_change mark_of kept_so has_store kept_part keeps_part u rs x → AreSummed u x (joined served_kept would_change mark_of kept_so has_store kept_part keeps_part rs)
adds_sums [] u x also steady adds = subst (λ (y : KeptValue). AreSummed u y []) adds (record { sum = refl; told = refl; differs = refl; steady = steady })
adds_sums (r ∷ rs) u x also steady (e, one, change, p, more) =
    let J : List ℕ = joined served_kept would_change mark_of kept_so has_store kept_part keeps_part rs in
    let sums : e.value.sums ≡ summed u.sums r e.text = added_sums u r e (keeps_on u also) change p in
    let next : kept_so true e.value ≡ e.value = so_after true u r e (ap (λ (v : KeptValue). served_kept v r) also ∙ p) in
    let rest : AreSummed e.value x J = adds_sums rs e.value x next (steady_left u r e steady p) more in
    let step : chained_lines e.value.sums.lines J ≡ chained_lines u.sums.lines ((r ++ 10 ∷ []) ++ J) =
    ap (λ (s : Sums). chained_lines s.lines J) sums ∙ sym (chained_more u.sums.lines [] r J one) ∙ ap (chained_lines u.sums.lines) (sym (append_assoc r (10 ∷ []) J)) in
    record {
      sum = rest.sum ∙ step;
      told = rest.told ∙ ap (λ (s : Sums). s.told) sums;
      differs = rest.differs ∙ ap (λ (s : Sums). s.differs) sums;
      steady = rest.steady;
    }

-- a mark is read whole
pub mark_read : (m : List ℕ) → IsOneLine m → length m ≤ line_limit → line_read (m ++ 10 ∷ []) ≡ m
unfolding line_read
mark_read m one low = ap (take line_limit) (feed_ended m one) ∙ take_all line_limit m low

-- what begins as a mark is one
is_text : (lines answers end m : List ℕ) → m ≡ stem lines answers ++ end → length m ≤ line_limit → is_mark_line m ≡ true
is_text lines answers end m is low = ap is_mark_line (sym (take_all line_limit m low) ∙ ap (take line_limit) is) ∙ is_mark_text line_limit lines answers end (omega arith)

-- behind a mark that agrees
after_mark : (x : KeptValue) (m : List ℕ) (e : Effect KeptValue) → e.value.sums ≡ mark_compared x.sums m → marks_agree (mark_compared x.sums m) ≡ true → IsSteady x.sums → IsSound e.value
after_mark x m e sums whole steady = record {
  whole = ap marks_agree sums ∙ whole;
  told = ap (λ (s : Sums). s.told) sums ∙ marked_told x.sums m ∙ sym (marked_answers x.sums m) ∙ sym (ap (λ (s : Sums). s.answers) sums);
  steady = subst IsSteady (sym sums) (record {
    told = λ ends. marked_told x.sums m ∙ sym (marked_answers x.sums m);
    lines = ap (λ (l : List ℕ). length l) (marked_lines x.sums m) ∙ steady.lines;
    answers = ap (λ (l : List ℕ). length l) (marked_answers x.sums m) ∙ steady.answers;
  });
}

no_line : (m : List ℕ) → m ++ 10 ∷ [] ≡ [] → ⊥
no_line [] h = absurd (cc)
no_line (b ∷ m) h = absurd (cc)

ends_alike : (m r : List ℕ) → m ++ 10 ∷ [] ≡ r ++ 10 ∷ [] → m ≡ r
ends_alike m r h = append_cancel_right m r (10 ∷ []) h

pub sounds : (v u x : KeptValue) (rs : List (List ℕ)) (e : Effect KeptValue) → kept_part v ≡ kept_part u → kept_so true u ≡ u → IsSound u → Adds served_kept would_change mark_of kept_so has_store kept_part keeps_part u rs x
    → served_kept x (line_read (mark_of v (joined served_kept would_change mark_of kept_so has_store kept_part keeps_part rs) ++ 10 ∷ [])) ≡ Ok e → IsSound e.value
sounds v u x rs e same also sound adds p =
    let J : List ℕ = joined served_kept would_change mark_of kept_so has_store kept_part keeps_part rs in
    let m : List ℕ = mark_of v J in
    let is : AreSummed u x J = adds_sums rs u x also sound.steady adds in
    let answers : v.sums.answers ≡ x.sums.told = ap (λ (k : KeptPart). k.answers) same ∙ sym sound.told ∙ sym is.told in
    let lines : chained_lines v.sums.lines J ≡ x.sums.lines = ap (λ (k : KeptPart). chained_lines k.lines J) same ∙ sym is.sum in
    let text : m ≡ stem x.sums.lines x.sums.told ++ tail = ap₂ (λ (l a : List ℕ). stem l a ++ tail) lines answers in
    let told_long : length x.sums.told ≡ 32 = ap (λ (l : List ℕ). length l) (is.told ∙ sound.told) ∙ sound.steady.answers in
    let long : length m ≡ 165 + length tail = ap (λ (l : List ℕ). length l) text ∙ length_mark x.sums.lines x.sums.told tail is.steady.lines told_long in
    let short : length tail ≡ 2 = refl in
    let read : line_read (m ++ 10 ∷ []) ≡ m = mark_read m (open_mark (chained_lines v.sums.lines J) v.sums.answers tail refl) (omega (arith, long, short)) in
    after_mark x m e (mark_sums x m e (is_text (chained_lines v.sums.lines J) v.sums.answers tail m refl (omega (arith, long, short))) (ap (served_kept x) (sym read) ∙ p)) (whole_mark x.sums m (is.differs ∙ (both_of u.sums.differs u.sums.ends sound.whole).0) text) is.steady

-- ---- a log that was carried out

pub idle_steady : IsSteady no_sums
idle_steady = record { told = λ ends. refl; lines = refl; answers = refl }

pub idle_sound : IsSound idle_kept
idle_sound = record { whole = refl; told = refl; steady = idle_steady }

-- and goes on is sound
pub start_sound : (rebases : Bool) (begun x : KeptValue) (start : List ℕ) → IsSteady begun.sums → Starts rebases begun.sums start → Passes served_kept would_change mark_of kept_so has_store kept_part keeps_part start begun x → IsSound x
start_sound rebases begun x start steady (inl (is, none)) (inl (also, same)) =
    subst IsSound same (record { whole = is; told = steady.told (both_of begun.sums.differs begun.sums.ends is).1; steady = steady })
start_sound rebases begun x start steady (inl (is, none)) (inr (m, e, line, p, same)) = let bad : m ++ 10 ∷ [] ≡ [] = sym line ∙ none in absurd (no_line m bad)
start_sound rebases begun x start steady (inr (is, wants, mark)) (inl (none, same)) = let bad : rebased_mark begun.sums ++ 10 ∷ [] ≡ [] = sym mark ∙ none in absurd (no_line (rebased_mark begun.sums) bad)
start_sound rebases begun x start steady (inr (is, wants, mark)) (inr (m, e, line, p, same)) =
    let r : List ℕ = rebased_mark begun.sums in
    let text : m ≡ r = ends_alike m r (sym line ∙ mark) in
    let long : length m ≡ 165 + length tail_rebased = ap (λ (l : List ℕ). length l) text ∙ length_mark begun.sums.lines begun.sums.answers tail_rebased steady.lines steady.answers in
    let short : length tail_rebased ≡ 17 = refl in
    let one : IsOneLine m = subst IsOneLine (sym text) (open_mark begun.sums.lines begun.sums.answers tail_rebased refl) in
    let read : line_read (m ++ 10 ∷ []) ≡ m = mark_read m one (omega (arith, long, short)) in
    subst IsSound same (after_mark begun m e (mark_sums begun m e (is_text begun.sums.lines begun.sums.answers tail_rebased m text (omega (arith, long, short))) (ap (served_kept begun) (sym read) ∙ p)) (whole_rebased begun.sums m text) steady)
