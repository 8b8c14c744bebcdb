-- What a log gives back: what its lines make where they are carried out, from no store on.
use Rattle.std.proofs.Common.{◌≡◌, inl, inr, ℕ, ◌≤◌, List, [], ◌∷◌, ◌++◌, length, take, Bool, true, false, Ok, refl, sym, ap, ◌∙◌, subst, arith, append_assoc, length-append, Option, Some, None}
use Rattle.std.specs.Prelude.{if◌then◌else◌, is_none, ◌&&◌, ⊤}
use Rattle.snap_lines.specs.Lines.{is_open, lines_of}
use Rattle.snap_lines.specs.Transcripts.{effect_at, goes_on as line_goes_on, next_line, prepended, transcript_from}
use Rattle.snap_lines.proofs.LineLaws.{feed_ended, line_split}
use Rattle.snap_log.specs.Batches.{none_yet}
use Rattle.snap_log.specs.Texts.{AreLines}
use Rattle.snap_marks.specs.declared.sums.Difference.{Difference}
use Rattle.snap_marks.specs.declared.sums.Sums.{Sums}
use Rattle.snap_marks.specs.Marks.{chained_lines, is_continued_line, stem, tail, tail_rebased}
use Rattle.snap_marks.specs.Sums.{going_on, marks_agree, rebased_mark}
use Rattle.snap_marks.proofs.MarkLaws.{IsOneLine, continued_goes, mark_goes_not, open_mark}
use Rattle.snap_session.specs.Kept.{KeptPart, KeptValue, has_store, idle_kept, kept_part, kept_so, mark_of, served_kept, would_change}
use Rattle.snap_session.specs.Opened.{ScriptValue}
use Rattle.snap_session.specs.Resumed.{resumed_kept}
use Rattle.snap_session.proofs.Keeping.{IsSteady, parts, script_of, so_after, unchanged_left}
use Rattle.snap_session.proofs.ResumeLaws.{change_goes_not, goes_on, resumed_alike, resumed_so, resumed_steady, steady_goes}
use Rattle.snap_durable.specs.Files.{GoesOnFrom}
use Rattle.snap_durable.specs.Logged.{Starts}
use Rattle.snap_durable.specs.Parts.{AreTold, Part, line_limit, line_read, lines_added, lines_to_keep, whole_in, with_mark}
use Rattle.snap_durable.specs.Served.{IsReplayed, text_limit}
use Rattle.snap_durable.specs.Serves.{place_unlimited, told_whole}
use Rattle.snap_durable.specs.Turns.{GivesBack}
use Rattle.snap_durable.proofs.BatchLaws.{IsWhole, lines_join, stays}
use Rattle.snap_durable.proofs.LeadLaws.{Leads, kept_are, kept_lines, leads_of, leads_one, leads_split, read_again}
use Rattle.snap_durable.proofs.ServeLaws.{serves}
use Rattle.snap_durable.proofs.SoundLaws.{IsSound, change_same, idle_steady, keeps_part, mark_read, sounds, start_sound, text_left}
use Rattle.snap_durable.proofs.RestartLaws.{leads_stay, restarts, restarts_sound}
use Rattle.snap_durable.proofs.WholeLaws.{whole_text}

-- ---- lines from whose marks no sums go on

abbrev pub ArePlain : List (List ℕ) → Type 0
ArePlain [] = ⊤
ArePlain (line ∷ lines) = (is_continued_line (line_read line) ≡ false) × ArePlain lines

-- a log's server does with them what any does
pub plain_leads : (lines : List (List ℕ)) (v w : KeptValue) → ArePlain lines → Leads resumed_kept v lines w → Leads served_kept v lines w
plain_leads [] v w plain leads = leads
plain_leads (line ∷ lines) v w (here, more) (e, p, rest) = (e, sym (resumed_alike v (line_read line) here) ∙ p, plain_leads lines e.value w more rest)

pub plain_both : (a b : List (List ℕ)) → ArePlain a → ArePlain b → ArePlain (a ++ b)
plain_both [] b p q = q
plain_both (line ∷ a) b (here, more) q = (here, plain_both a b more q)

-- a mark that is compared
pub stem_plain : (lines answers end : List ℕ) → IsOneLine end → is_continued_line (line_read ((stem lines answers ++ end) ++ 10 ∷ [])) ≡ false
unfolding line_read
stem_plain lines answers end one =
    let m : List ℕ = stem lines answers ++ end in
    let read : line_read (m ++ 10 ∷ []) ≡ take line_limit m = ap (take line_limit) (feed_ended m (open_mark lines answers end one)) in
    ap is_continued_line read ∙ mark_goes_not line_limit lines answers end (omega arith)

-- lines that change something
kept_plain : (v : KeptValue) (lines : List (List ℕ)) → ArePlain (kept_lines (would_change v) lines)
kept_plain v [] = tt
kept_plain v (line ∷ lines) = by (kept_plain v lines) (would_change v r) refl
  where
    r : List ℕ
    r = line_read line

    by : ArePlain (kept_lines (would_change v) lines) → (t : Bool) → would_change v r ≡ t → ArePlain (if t then (r ++ 10 ∷ []) ∷ kept_lines (would_change v) lines else kept_lines (would_change v) lines)
    by rest true is = (ap is_continued_line (read_again line) ∙ change_goes_not v r is, rest)
    by rest false is = rest

-- with their mark
added_plain : (v : KeptValue) (lines more : List ℕ) (own : List (List ℕ)) → ((rest : List ℕ) → lines_of (lines ++ rest) ≡ own ++ lines_of rest) → ArePlain own → ArePlain (lines_of more) → ArePlain (lines_of (with_mark (mark_of v) lines ++ more))
added_plain v [] more own own_are p q = subst ArePlain (sym (own_are more)) (plain_both own (lines_of more) p q)
added_plain v (b ∷ lines) more own own_are p q =
    let m : List ℕ = mark_of v (b ∷ lines) in
    let split : lines_of (((b ∷ lines) ++ (m ++ 10 ∷ [])) ++ more) ≡ own ++ ((m ++ 10 ∷ []) ∷ lines_of more) =
    ap lines_of (append_assoc (b ∷ lines) (m ++ 10 ∷ []) more ∙ ap (λ (l : List ℕ). (b ∷ lines) ++ l) (append_assoc m (10 ∷ []) more))
    ∙ own_are (m ++ 10 ∷ more) ∙ ap (λ (ls : List (List ℕ)). own ++ ls) (line_split m more (keeps_part.one_line v (b ∷ lines))) in
    subst ArePlain (sym split) (plain_both own ((m ++ 10 ∷ []) ∷ lines_of more) p (stem_plain (chained_lines v.sums.lines (b ∷ lines)) v.sums.answers tail refl, q))

-- those that were kept of parts
told_plain : (parts : List Part) (v : KeptValue) (text kept : List ℕ) (w : KeptValue) → AreTold served_kept would_change mark_of kept_so has_store v parts text kept w → ArePlain (lines_of kept)
told_plain [] v text kept w (no_text, no_kept, led) = subst (λ (l : List ℕ). ArePlain (lines_of l)) (sym no_kept) tt
told_plain (p ∷ parts) v text kept w (first, rest, more, x, serves, told, text_is, kept_is, timely) = subst (λ (l : List ℕ). ArePlain (lines_of l)) (sym kept_is) (by p.is_kept (told_plain parts x rest more w told))
  where
    by : (k : Bool) → ArePlain (lines_of more) → ArePlain (lines_of ((if k then lines_added (would_change v) (mark_of v) p.whole else []) ++ more))
    by false later = later
    by true later = added_plain v (lines_to_keep (would_change v) (lines_of p.whole)) more (kept_lines (would_change v) (lines_of p.whole)) (kept_are (would_change v) (lines_of p.whole)) (kept_plain v (lines_of p.whole)) later

-- ---- what a text gives back

-- it is lines of a log, and whatever they make, where they are carried out, is such a server
pub record Gives (text : List ℕ) (Is : KeptValue → Type 0) : Type 0 where
  pub lines : AreLines text
  pub back : length text ≤ text_limit → (z : KeptValue) → Leads resumed_kept idle_kept (lines_of text) z → Is z

-- that has what a log keeps of this one, and sound sums
pub record IsAgain (v z : KeptValue) : Type 0 where
  pub same : kept_part v ≡ kept_part z
  pub sound : IsSound z
  pub also : kept_so true z ≡ z

whole_lines : (text : List ℕ) → AreLines text → length text ≤ text_limit → IsWhole text
whole_lines text lines low = subst IsWhole (whole_text text_limit text lines low) (stays (none_yet text_limit) text (inl refl))

replayed_leads : (text : List ℕ) (z : KeptValue) → AreLines text → length text ≤ text_limit → IsReplayed resumed_kept idle_kept text z → Leads resumed_kept idle_kept (lines_of text) z
replayed_leads text z lines low was = subst (λ (l : List ℕ). Leads resumed_kept idle_kept (lines_of l) z) (whole_text text_limit text lines low) (leads_of resumed_kept idle_kept (lines_of (whole_in text_limit text)) was.answers z was.serves)

pub given_back : (text : List ℕ) (Is : KeptValue → Type 0) → Gives text Is → length text ≤ text_limit → (again : KeptValue) → IsReplayed resumed_kept idle_kept text again → Is again
given_back text Is gives low again was = gives.back low again (replayed_leads text again gives.lines low was)

-- lines carried out behind it
pub gives_more : (text more : List ℕ) (Is Then : KeptValue → Type 0) → Gives text Is → AreLines (text ++ more) → ((m z : KeptValue) → Is m → Leads resumed_kept m (lines_of more) z → Then z) → Gives (text ++ more) Then
gives_more text more Is Then gives lines goes = record {
  lines = lines;
  back = λ low z all.
      let text_low : length text ≤ text_limit = omega (arith, low, length-append text more) in
      let cut = leads_split resumed_kept (lines_of text) (lines_of more) idle_kept z (subst (λ (ls : List (List ℕ)). Leads resumed_kept idle_kept ls z) (lines_join text more (whole_lines text gives.lines text_low)) all) in
      goes cut.0 z (gives.back text_low cut.0 cut.1) cut.2;
}

-- those that were kept of parts give back what all lines of these make
pub gives_told : (text kept said : List ℕ) (parts : List Part) (v u w : KeptValue) → Gives text (IsAgain v) → kept_part u ≡ kept_part v → AreTold served_kept would_change mark_of kept_so has_store u parts said kept w → AreLines (text ++ kept) → Gives (text ++ kept) (IsAgain w)
gives_told text kept said parts v u w gives alike told lines =
    gives_more text kept (IsAgain v) (IsAgain w) gives lines (λ m z is all.
    let led : Leads served_kept m (lines_of kept) z = plain_leads (lines_of kept) m z (told_plain parts u said kept w told) all in
    record {
      same = restarts served_kept would_change mark_of kept_so has_store kept_part keeps_part parts u said kept w m z told is.also (alike ∙ is.same) led;
      sound = restarts_sound served_kept would_change mark_of kept_so has_store kept_part keeps_part change_same IsSound sounds parts u said kept w m z told is.also (alike ∙ is.same) is.sound led;
      also = leads_stay served_kept would_change mark_of kept_so has_store kept_part keeps_part true (lines_of kept) m z is.also led;
    })

-- ---- a log that was carried out

leads_steady : (lines : List (List ℕ)) (v w : KeptValue) → IsSteady v.sums → Leads resumed_kept v lines w → IsSteady w.sums
leads_steady [] v w steady leads = subst (λ (x : KeptValue). IsSteady x.sums) leads steady
leads_steady (line ∷ lines) v w steady (e, p, more) = leads_steady lines e.value w (resumed_steady v (line_read line) e steady p) more

leads_so : (lines : List (List ℕ)) (v w : KeptValue) → kept_so true v ≡ v → Leads resumed_kept v lines w → kept_so true w ≡ w
leads_so [] v w also leads = subst (λ (x : KeptValue). kept_so true x ≡ x) leads also
leads_so (line ∷ lines) v w also (e, p, more) = leads_so lines e.value w (resumed_so true v (line_read line) e also p) more

-- what a log's text has made, before any mark was looked at
pub record IsBegun (begun z : KeptValue) : Type 0 where
  pub is : begun ≡ z
  pub steady : IsSteady z.sums
  pub also : kept_so true z ≡ z

pub gives_begun : (text : List ℕ) (begun : KeptValue) → AreLines text → IsReplayed resumed_kept idle_kept text begun → Gives text (IsBegun begun)
gives_begun text begun lines was = record {
  lines = lines;
  back = λ low z all. record {
    is = leads_one resumed_kept (lines_of text) idle_kept begun z (replayed_leads text begun lines low was) all;
    steady = leads_steady (lines_of text) idle_kept z idle_steady all;
    also = leads_so (lines_of text) idle_kept z refl all;
  };
}

-- and what it goes on with
started_again : (rebases : Bool) (begun z : KeptValue) (start : List ℕ) → Starts rebases begun.sums start → IsSteady begun.sums → kept_so true begun ≡ begun → Leads resumed_kept begun (lines_of start) z → IsAgain begun z
started_again rebases begun z start (inl (agrees, none)) steady also all =
    let same : begun ≡ z = subst (λ (l : List ℕ). Leads resumed_kept begun (lines_of l) z) none all in
    record {
      same = ap kept_part same;
      sound = start_sound rebases begun z start steady (inl (agrees, none)) (inl (none, same));
      also = subst (λ (x : KeptValue). kept_so true x ≡ x) same also;
    }
started_again rebases begun z start (inr (differs, wants, mark)) steady also all =
    let m : List ℕ = rebased_mark begun.sums in
    let one : is_open m ≡ true = open_mark begun.sums.lines begun.sums.answers tail_rebased refl in
    let (e, p, is) = subst (λ (ls : List (List ℕ)). Leads resumed_kept begun ls z) (ap lines_of mark ∙ line_split m [] one) all in
    let served : served_kept begun (line_read (m ++ 10 ∷ [])) ≡ Ok e = sym (resumed_alike begun (line_read (m ++ 10 ∷ [])) (stem_plain begun.sums.lines begun.sums.answers tail_rebased refl)) ∙ p in
    let none : would_change begun (line_read (m ++ 10 ∷ [])) ≡ false = text_left begun.sums.lines begun.sums.answers tail_rebased refl begun in
    record {
      same = sym (unchanged_left begun (line_read (m ++ 10 ∷ [])) e none served) ∙ ap kept_part is;
      sound = start_sound rebases begun z start steady (inr (differs, wants, mark)) (inr (m, e, mark, served, is));
      also = subst (λ (x : KeptValue). kept_so true x ≡ x) is (so_after true begun (line_read (m ++ 10 ∷ [])) e (ap (λ x. served_kept x (line_read (m ++ 10 ∷ []))) also ∙ served));
    }

pub gives_started : (rebases : Bool) (text start : List ℕ) (begun : KeptValue) → AreLines text → IsReplayed resumed_kept idle_kept text begun → Starts rebases begun.sums start → AreLines (text ++ start) → Gives (text ++ start) (IsAgain begun)
gives_started rebases text start begun lines was starts all_lines =
    gives_more text start (IsBegun begun) (IsAgain begun) (gives_begun text begun lines was) all_lines (λ m z is all.
    started_again rebases begun z start starts (subst (λ (x : KeptValue). IsSteady x.sums) (sym is.is) is.steady) (subst (λ (x : KeptValue). kept_so true x ≡ x) (sym is.is) is.also) (subst (λ (x : KeptValue). Leads resumed_kept x (lines_of start) z) (sym is.is) all))

-- ---- what is told of it

leads_told : (lines : List (List ℕ)) (n : ℕ) (v w : KeptValue) → Leads resumed_kept v lines w → (said : List ℕ) × (transcript_from resumed_kept (place_unlimited n v) lines ≡ told_whole said w)
unfolding effect_at line_read
leads_told [] n v w leads = ([], ap (told_whole []) leads)
leads_told (line ∷ lines) n v w (e, p, more) =
    let rest = leads_told lines (next_line n) e.value w more in
    (e.text ++ rest.0, ap (λ r. line_goes_on (place_unlimited n v) line r (λ q. transcript_from resumed_kept q lines)) p ∙ ap (prepended e.text) rest.1)

leads_replayed : (text : List ℕ) (z : KeptValue) → AreLines text → length text ≤ text_limit → Leads resumed_kept idle_kept (lines_of text) z → IsReplayed resumed_kept idle_kept text z
leads_replayed text z lines low all =
    let here : Leads resumed_kept idle_kept (lines_of (whole_in text_limit text)) z = subst (λ (l : List ℕ). Leads resumed_kept idle_kept (lines_of l) z) (sym (whole_text text_limit text lines low)) all in
    let told = leads_told (lines_of (whole_in text_limit text)) 0 idle_kept z here in
    record { answers = told.0; serves = serves resumed_kept idle_kept (lines_of (whole_in text_limit text)) told.0 z told.1 }

ends_marked : (d : Option Difference) (ends : Bool) → (is_none d && ends) ≡ true → ends ≡ true
ends_marked None true h = refl
ends_marked None false h = absurd (cc)
ends_marked (Some d) ends h = absurd (cc)

pub gives_of : (text : List ℕ) (v : KeptValue) → AreLines text → GivesBack text v → Gives text (IsAgain v)
gives_of text v lines gives = record {
  lines = lines;
  back = λ low z all.
      let was : IsReplayed resumed_kept idle_kept text z = leads_replayed text z lines low all in
      let steady : IsSteady z.sums = leads_steady (lines_of text) idle_kept z idle_steady all in
      let whole : marks_agree z.sums ≡ true = gives.agrees low z was in
      record {
        same = gives.same low z was;
        sound = record { whole = whole; told = steady.told (ends_marked z.sums.differs z.sums.ends whole); steady = steady };
        also = leads_so (lines_of text) idle_kept z refl all;
      };
}

pub back_of : (text : List ℕ) (v : KeptValue) → Gives text (IsAgain v) → GivesBack text v
back_of text v gives = record {
  same = λ low again was. (given_back text (IsAgain v) gives low again was).same;
  agrees = λ low again was. (given_back text (IsAgain v) gives low again was).sound.whole;
}

-- ---- sums go on from a mark

-- a server that has made this of a script, and whose marks agree
pub record IsMade (s : ScriptValue) (z : KeptValue) : Type 0 where
  pub script : script_of z ≡ s
  pub sound : IsSound z
  pub also : kept_so true z ≡ z

pub gives_on : (text : List ℕ) (v : KeptValue) (mark line : List ℕ) → Gives text (IsMade (script_of v)) → GoesOnFrom v mark line → AreLines (text ++ line) → Gives (text ++ line) (IsAgain v)
gives_on text v mark line gives goes lines =
    gives_more text line (IsMade (script_of v)) (IsAgain v) gives lines (λ m z made all.
    let (e, p, is) = subst (λ (ls : List (List ℕ)). Leads resumed_kept m ls z) (ap lines_of goes.fed ∙ line_split mark [] goes.one) all in
    let read : line_read (mark ++ 10 ∷ []) ≡ mark = mark_read mark goes.one (omega (arith, goes.short)) in
    let here : resumed_kept m mark ≡ Ok e = ap (resumed_kept m) (sym read) ∙ p in
    let on = goes_on m mark e goes.is here in
    let sums : e.value.sums ≡ going_on m.sums mark = on.sums ∙ continued_goes m.sums mark made.sound.whole in
    let whole : marks_agree (going_on m.sums mark) ≡ true = ap (λ (d : Option Difference). is_none d && true) (none_differs m.sums.differs m.sums.ends made.sound.whole) in
    let end : IsAgain v e.value = record {
      same = parts (kept_part v) (kept_part e.value) (sym (on.script ∙ made.script)) (goes.lines ∙ sym (ap (λ (s : Sums). s.lines) sums)) (goes.answers ∙ sym (ap (λ (s : Sums). s.answers) sums));
      sound = record { whole = ap marks_agree sums ∙ whole; told = ap (λ (s : Sums). s.told) sums ∙ sym (ap (λ (s : Sums). s.answers) sums); steady = subst IsSteady (sym sums) (steady_goes m.sums mark made.sound.steady) };
      also = on.so true made.also;
    } in
    subst (IsAgain v) is end)
  where
    none_differs : (d : Option Difference) (ends : Bool) → (is_none d && ends) ≡ true → d ≡ None
    none_differs None ends h = refl
    none_differs (Some d) ends h = absurd (cc)

-- what gives a server back has made its script
pub made_of : (text : List ℕ) (v : KeptValue) → Gives text (IsAgain v) → Gives text (IsMade (script_of v))
made_of text v gives = record {
  lines = gives.lines;
  back = λ low z all.
      let is : IsAgain v z = gives.back low z all in
      record { script = sym (ap (λ (k : KeptPart). k.script) is.same); sound = is.sound; also = is.also };
}
