-- How the transcript of an input goes on.
use Rattle.std.proofs.Common.{◌≡◌, ℕ, zero, suc, ◌+◌, ◌<◌, ◌≤◌, List, [], ◌∷◌, ◌++◌, length, take, take_all, drop, get_or, Bool, true, false, not, Result, Ok, Err, refl, sym, ap, ◌∙◌, arith, append_assoc, append-nil, length-append, Option, Some, None, subst, OnOk, IfErr}
use lib.Seq.{take-append_seam}
use Rattle.std.specs.Prelude.{cond, is_some, nat_lt, ◌==◌, ◌&&◌, ◌||◌}
use Rattle.std.proofs.lemmas.Bool.{lt-ltb, le-ltb, eqb-true}
use Rattle.std.proofs.lemmas.List.{take_more, take-append-drop}
use Rattle.std.proofs.lemmas.List.Sums.{sum_by-append}
use Rattle.std.specs.Io.KnownBytes.{Appends, Keeps}
use mir.Val.{bool_byte}
use Rattle.snap_script.specs.declared.fault.Fault.{Fault}
use Rattle.snap_script.specs.declared.fault.Fault.TheVariants.{TooLong}
use Rattle.snap_path.specs.declared.memory.NoMemory.{NoMemory}
use Rattle.snap_lines.proofs.KnownLaws.{Appends-trans, Appends-kept, Appends-nil}
use Rattle.snap_lines.proofs.LineLaws.{open_cons, line_split, line_last, line_begins, Begins, begins_both, feed_ended, feed_open, feed_after, feed_long, open_more}
use Rattle.snap_lines.specs.Effects.{Effect, Effects}
use Rattle.snap_lines.specs.Lines.{lines_of, is_open, without_feed, feeds}
use Rattle.snap_script.specs.Lines.{max_line}
use Rattle.snap_lines.specs.Transcripts.{Place, Transcript, Tells, TellsPart, prepended, transcript_from, effect_at, effect_within, goes_on, next_line, passes, left_after, place_after, cut_length}
use Rattle.snap_lines.specs.Runs.{Behind, Run, within, kept_length, some_of, and_more, transcript_on, Goes, EndsAtFault, TakesLine, line_in, Refuses, Breaks, LeavesLine, StopsIn, StopsAtEnd}
use Rattle.snap_lines.specs.declared.stop.LineFault.{LineFault}
use Rattle.snap_lines.specs.declared.stop.Stop.{Stop}
use Rattle.snap_lines.specs.declared.stop.Stop.TheVariants.{Line, InputFailed, OutputFailed, OutOfMemory}

pub on_ok : {T E : Type 0} {P Q : Type 0} (r : Result T E) → (P → Q) → OnOk r P → OnOk r Q
on_ok (Ok x) f p = f p
on_ok (Err e) f p = tt

pub if_err : {T E : Type 0} {P Q : E → Type 0} (r : Result T E) → ((e : E) → P e → Q e) → IfErr r P → IfErr r Q
if_err (Ok x) f p = tt
if_err (Err e) f p = f e p

-- a `?` gives this error
pub err_is : {T E : Type 0} (P : E → Type 0) (r : Result T E) (x y : E) → r ≡ Err x → x ≡ y → P y → IfErr r P
err_is {T} {E} P r x y h e p = subst (λ (z : Result T E). IfErr z P) (sym h) (subst P (sym e) p)

prepended_twice : {A : Type 0} (a b : List ℕ) (s : Transcript A) → prepended a (prepended b s) ≡ prepended (a ++ b) s
prepended_twice a b s = ap (λ t. record { text = t; fault = s.fault; value = s.value }) (sym (append_assoc a b s.text))

feeds_append : (a b : List ℕ) → feeds (a ++ b) ≡ feeds a + feeds b
feeds_append a b = sum_by-append _ a b

-- ---- more lines

no_more : (n : Option ℕ) → and_more 0 n ≡ n
no_more None = refl
no_more (Some k) = let e : 0 + k ≡ k = omega arith in ap Some e

more_twice : (i j : ℕ) (n : Option ℕ) → and_more (i + j) n ≡ and_more i (and_more j n)
more_twice i j None = refl
more_twice i j (Some k) = ap Some (omega arith)

one_more : {A : Type 0} (n : Option ℕ) (x : A) (xs : List A) → some_of (and_more 1 n) (x ∷ xs) ≡ x ∷ some_of n xs
one_more None x xs = refl
one_more (Some k) x xs = let e : 1 + k ≡ suc k = omega arith in ap (λ n. take n (x ∷ xs)) e

pub goes_none : {A : Type 0} (effect : Effects A) (r : Run A) (x : Option (List ℕ)) → Goes effect r [] r x x
goes_none effect r x = record { written = []; leads = λ n rest. ap (λ k. transcript_on effect r k rest) (no_more n); appended = Appends-nil x }

pub goes_trans : {A : Type 0} (effect : Effects A) (r q s : Run A) (a b : List ℕ) (x y z : Option (List ℕ)) → Goes effect r a q x y → Goes effect q b s y z → Goes effect r (a ++ b) s x z
goes_trans effect r q s a b x y z f g = record {
  written = f.written ++ g.written;
  leads = λ n rest.
      ap (λ k. transcript_on effect r (and_more k n) ((a ++ b) ++ rest)) (feeds_append a b) ∙ ap (λ k. transcript_on effect r k ((a ++ b) ++ rest)) (more_twice (feeds a) (feeds b) n)
      ∙ ap (transcript_on effect r (and_more (feeds a) (and_more (feeds b) n))) (append_assoc a b rest) ∙ f.leads (and_more (feeds b) n) (b ++ rest)
      ∙ ap (prepended f.written) (g.leads n rest) ∙ prepended_twice f.written g.written (transcript_on effect s n rest);
  appended = Appends-trans x y z f.written g.written f.appended g.appended;
}

-- the transcript of the bytes and more is what is written for the lines in them, and then that of what is left
pub goes_leads : {A : Type 0} (effect : Effects A) (r q : Run A) (bytes : List ℕ) (x y : Option (List ℕ)) (g : Goes effect r bytes q x y) (rest : List ℕ)
    → transcript_on effect r None (bytes ++ rest) ≡ prepended g.written (transcript_on effect q None rest)
goes_leads effect r q bytes x y g rest = g.leads None rest

three : (a b more rest : List ℕ) → (a ++ (b ++ more)) ++ rest ≡ a ++ (b ++ (more ++ rest))
three a b more rest = append_assoc a (b ++ more) rest ∙ ap (λ l. a ++ l) (append_assoc b more rest)

pub goes_ends : {A : Type 0} (effect : Effects A) (r q : Run A) (a b more : List ℕ) (f : LineFault) (x y z : Option (List ℕ)) → Goes effect r a q x y → EndsAtFault effect q b f y z → EndsAtFault effect r (a ++ (b ++ more)) f x z
goes_ends effect r q a b more f x y z g e = (
  g.written ++ e.0,
  e.1,
  Appends-trans x y z g.written e.0 g.appended e.2,
  λ rest.
      ap (transcript_on effect r None) (three a b more rest)
      ∙ goes_leads effect r q a x y g (b ++ (more ++ rest)) ∙ ap (prepended g.written) (e.3 (more ++ rest)),
)

-- a text, and then a first part of the text of a transcript
pub tells_part : {A : Type 0} (s t : Transcript A) (w : List ℕ) (x y z : Option (List ℕ)) → s ≡ prepended w t → Appends x y w → TellsPart t y z → TellsPart s x z
tells_part s t w x y z e p h = (
  w ++ h.0,
  h.1,
  ap (λ u. u.text) e ∙ ap (λ l. w ++ l) h.2 ∙ sym (append_assoc w h.0 h.1),
  Appends-trans x y z w h.0 p h.3,
)

-- nothing of a transcript's text
pub tells_none : {A : Type 0} (s : Transcript A) (x y : Option (List ℕ)) → Appends x y [] → TellsPart s x y
tells_none s x y p = ([], s.text, refl, p)

pub goes_stops : {A : Type 0} (effect : Effects A) (r q : Run A) (a b more : List ℕ) (stop : Stop) (x y z : Option (List ℕ)) → Goes effect r a q x y → StopsIn effect q b stop y z → StopsIn effect r (a ++ (b ++ more)) stop x z
goes_stops effect r q a b more (Line f) x y z g e = goes_ends effect r q a b more f x y z g e
goes_stops effect r q a b more InputFailed x y z g e = absurd e
goes_stops effect r q a b more OutputFailed x y z g e = λ rest.
    tells_part (transcript_on effect r None ((a ++ (b ++ more)) ++ rest)) (transcript_on effect q None (b ++ (more ++ rest))) g.written x y z
    (ap (transcript_on effect r None) (three a b more rest) ∙ goes_leads effect r q a x y g (b ++ (more ++ rest))) g.appended (e (more ++ rest))
goes_stops effect r q a b more (OutOfMemory want) x y z g e = record {
  part = a ++ e.part;
  more = e.more ++ more;
  place = e.place;
  is = ap (λ l. a ++ (l ++ more)) e.is ∙ ap (λ l. a ++ l) (append_assoc e.part e.more more) ∙ sym (append_assoc a e.part (e.more ++ more));
  goes = goes_trans effect r q e.place a e.part x y z g e.goes;
}

pub goes_kept : {A : Type 0} (effect : Effects A) (r q : Run A) (bytes : List ℕ) (x y z : Option (List ℕ)) → Goes effect r bytes q x y → Keeps y z → Goes effect r bytes q x z
goes_kept effect r q bytes x y z g k = record { written = g.written; leads = g.leads; appended = Appends-kept x y z g.written g.appended k }

-- a flush failed after the bytes
pub kept_stops : {A : Type 0} (effect : Effects A) (r q : Run A) (bytes : List ℕ) (x y z : Option (List ℕ)) → Goes effect r bytes q x y → Keeps y z → StopsIn effect r bytes OutputFailed x z
kept_stops effect r q bytes x y z g k = λ rest.
    let h = goes_kept effect r q bytes x y z g k in
    tells_part (transcript_on effect r None (bytes ++ rest)) (transcript_on effect q None rest) h.written x z z (goes_leads effect r q bytes x z h rest) h.appended (tells_none (transcript_on effect q None rest) z z (Appends-nil z))

-- ---- one line

feed_line : (p : List ℕ) (ended : Bool) → is_open p ≡ true → without_feed (line_in p ended) ≡ p
feed_line p true h = feed_ended p h
feed_line p false h = feed_open p h

over_within : {A : Type 0} (effect : Effects A) (left : Option ℕ) (value : A) (line : List ℕ) → passes left (length line) ≡ true → effect_within effect left value line ≡ Err TooLong
over_within effect None value line h = absurd (cc)
over_within effect (Some left) value line h = ap (λ t. cond (t || nat_lt max_line (length (without_feed line))) (Err TooLong) (effect value (without_feed line))) h

pub effect_over : {A : Type 0} (effect : Effects A) (place : Place A) (line : List ℕ) → passes place.left (length line) ≡ true → effect_at effect place line ≡ Err TooLong
unfolding effect_at
effect_over effect place line h = over_within effect place.left place.value line h

fits_within : {A : Type 0} (effect : Effects A) (left : Option ℕ) (value : A) (p : List ℕ) (ended : Bool) → is_open p ≡ true → length p ≤ kept_length left → passes left (length (line_in p ended)) ≡ false
    → effect_within effect left value (line_in p ended) ≡ effect value p
fits_within effect None value p ended o short h = ap (λ l. effect value (take cut_length l)) (feed_line p ended o) ∙ ap (effect value) (take_all cut_length p short)
fits_within effect (Some left) value p ended o short h =
    ap (λ t. cond (t || nat_lt max_line (length (without_feed (line_in p ended)))) (Err TooLong) (effect value (without_feed (line_in p ended)))) h
    ∙ ap (λ l. cond (nat_lt max_line (length l)) (Err TooLong) (effect value l)) (feed_line p ended o)
    ∙ ap (λ t. cond t (Err TooLong) (effect value p)) (le-ltb max_line (length p) short)

pub effect_fits : {A : Type 0} (effect : Effects A) (place : Place A) (p : List ℕ) (ended : Bool) → is_open p ≡ true → length p ≤ kept_length place.left → passes place.left (length (line_in p ended)) ≡ false
    → effect_at effect place (line_in p ended) ≡ effect place.value p
unfolding effect_at
effect_fits effect place p ended o short h = fits_within effect place.left place.value p ended o short h

-- what stands behind, by its parts
abbrev pub behind : ℕ → Option ℕ → List ℕ → Behind
behind n left p = record { lines = n; left = left; pending = p }

-- the place after a line
pub run_after : {A : Type 0} (n m k : ℕ) (left rest : Option ℕ) (p q : List ℕ) (s : Behind) (v w : A) (ended : Bool) → behind n left p ≡ s → m ≡ next_line n → rest ≡ left_after left k
    → k ≡ length (line_in s.pending ended) → q ≡ [] → within (behind m rest q) w ≡ record { place = place_after (within s v).place (line_in s.pending ended) w; pending = [] }
run_after n m k left rest p q s v w ended e number less h none =
    ap (λ i. within (behind i rest q) w) number ∙ ap (λ l. within (behind (next_line n) l q) w) less
    ∙ ap (λ (z : Behind). within (behind (next_line z.lines) (left_after z.left k) q) w) e
    ∙ ap (λ l. within (behind (next_line s.lines) (left_after s.left l) q) w) h ∙ ap (λ u. within (behind (next_line s.lines) (left_after s.left (length (line_in s.pending ended))) u) w) none

pub line_len : (p : List ℕ) (ended : Bool) (n k : ℕ) → n ≡ length p → k ≡ bool_byte ended → n + k ≡ length (line_in p ended)
line_len p true n k h e = let l = length-append p (10 ∷ []) in omega arith
line_len p false n k h e = omega arith

pub leaves_refused : {A : Type 0} (effect : Effects A) (r : Run A) (line : List ℕ) (reading : Result (Effect A) Fault) (lines : ℕ) (stop : Stop) (x : Option (List ℕ)) → effect_at effect r.place line ≡ reading → lines ≡ r.place.lines
    → Refuses reading lines stop → LeavesLine effect r line stop x x
leaves_refused effect r line reading lines (Line f) x e n h = ((e ∙ h.0, h.1 ∙ ap next_line n), refl)
leaves_refused effect r line reading lines InputFailed x e n h = absurd h
leaves_refused effect r line reading lines OutputFailed x e n h = absurd h
leaves_refused effect r line reading lines (OutOfMemory want) x e n h = (tt, refl)

pub leaves_broken : {A : Type 0} (effect : Effects A) (r : Run A) (line : List ℕ) (e : Effect A) (stop : Stop) (x y : Option (List ℕ)) → effect_at effect r.place line ≡ Ok e → Breaks e.text stop x y → LeavesLine effect r line stop x y
leaves_broken effect r line e (Line f) x y is b = absurd b
leaves_broken effect r line e InputFailed x y is b = absurd b
leaves_broken effect r line e OutputFailed x y is b = (e, is, b)
leaves_broken effect r line e (OutOfMemory want) x y is b = absurd b

-- ---- what a line does to the transcript

line_ok : {A : Type 0} (effect : Effects A) (r q : Run A) (line text : List ℕ) → effect_at effect r.place line ≡ Ok (record { value = q.place.value; text = text })
    → q ≡ record { place = place_after r.place line q.place.value; pending = [] } → (more : List (List ℕ)) → transcript_from effect r.place (line ∷ more) ≡ prepended text (transcript_from effect q.place more)
line_ok effect r q line text e h more =
    ap (λ z. goes_on r.place line z (λ p. transcript_from effect p more)) e
    ∙ ap (λ z. prepended text (transcript_from effect z.place more)) (sym h)

line_err : {A : Type 0} (effect : Effects A) (place : Place A) (line : List ℕ) (lines : List (List ℕ)) (f : LineFault) → effect_at effect place line ≡ Err f.cause → f.line ≡ next_line place.lines
    → transcript_from effect place (line ∷ lines) ≡ record { text = []; fault = Some f; value = place.value }
line_err effect place line lines f e h =
    ap (λ z. goes_on place line z (λ p. transcript_from effect p lines)) e
    ∙ ap (λ n. record { text = []; fault = Some (record { line = n; cause = f.cause }); value = place.value }) (sym h)

pub newline_goes : {A : Type 0} (effect : Effects A) (r q : Run A) (x y : Option (List ℕ)) → is_open r.pending ≡ true → TakesLine effect r (line_in r.pending true) q x y → Goes effect r (10 ∷ []) q x y
unfolding transcript_on
newline_goes effect r q x y o t = record {
  written = t.0;
  leads = λ n rest.
      ap (λ l. transcript_from effect r.place (some_of (and_more 1 n) l)) (line_split r.pending rest o)
      ∙ ap (transcript_from effect r.place) (one_more n (line_in r.pending true) (lines_of rest))
      ∙ line_ok effect r q (line_in r.pending true) t.0 t.1 t.2 (some_of n (lines_of rest))
      ∙ ap (λ (l : List ℕ). prepended t.0 (transcript_from effect q.place (some_of n (lines_of (l ++ rest))))) (sym (ap (λ z. z.pending) t.2));
  appended = t.3;
}

pub newline_ends : {A : Type 0} (effect : Effects A) (r : Run A) (f : LineFault) (x : Option (List ℕ)) → is_open r.pending ≡ true → effect_at effect r.place (line_in r.pending true) ≡ Err f.cause → f.line ≡ next_line r.place.lines
    → EndsAtFault effect r (10 ∷ []) f x x
unfolding transcript_on
newline_ends effect r f x o e h =
    ([], r.place.value, Appends-nil x, λ rest. ap (transcript_from effect r.place) (line_split r.pending rest o) ∙ line_err effect r.place (line_in r.pending true) (lines_of rest) f e h)

-- a line that breaks off in its text
pub newline_breaks : {A : Type 0} (effect : Effects A) (r : Run A) (e : Effect A) (x y : Option (List ℕ)) → is_open r.pending ≡ true → effect_at effect r.place (line_in r.pending true) ≡ Ok e → Breaks e.text OutputFailed x y
    → StopsIn effect r (10 ∷ []) OutputFailed x y
unfolding transcript_on
newline_breaks effect r e x y o is b = λ rest.
    let line = line_in r.pending true in
    let more = transcript_from effect (place_after r.place line e.value) (lines_of rest) in
    let all : transcript_from effect r.place (lines_of (r.pending ++ 10 ∷ rest)) ≡ prepended e.text more =
    ap (transcript_from effect r.place) (line_split r.pending rest o) ∙ ap (λ z. goes_on r.place line z (λ p. transcript_from effect p (lines_of rest))) is in (
      take b.0 e.text,
      drop b.0 e.text ++ more.text,
      ap (λ u. u.text) all ∙ ap (λ l. l ++ more.text) (sym (take-append-drop b.0 e.text)) ∙ append_assoc (take b.0 e.text) (drop b.0 e.text) more.text,
      b.1,
    )

no_feeds : (b : ℕ) → (b == 10) ≡ false → feeds (b ∷ []) ≡ 0
no_feeds b e = ap (λ t. 0 + cond t 1 0) e

open_feeds : (bytes : List ℕ) → is_open bytes ≡ true → feeds bytes ≡ 0
open_feeds [] h = refl
open_feeds (b ∷ bytes) h =
    let o = open_cons b bytes h in
    let both : feeds (b ∷ bytes) ≡ feeds (b ∷ []) + feeds bytes = feeds_append (b ∷ []) bytes in
    let first = no_feeds b o.head in
    let rest = open_feeds bytes o.tail in
    omega arith

open_goes : {A : Type 0} (effect : Effects A) (r : Run A) (bytes : List ℕ) (x : Option (List ℕ)) → is_open bytes ≡ true → Goes effect r bytes (record r { pending = r.pending ++ bytes }) x x
unfolding transcript_on
open_goes effect r bytes x o = record {
  written = [];
  leads = λ n rest.
      ap (λ k. transcript_from effect r.place (some_of (and_more k n) (lines_of (r.pending ++ (bytes ++ rest))))) (open_feeds bytes o)
      ∙ ap (λ k. transcript_from effect r.place (some_of k (lines_of (r.pending ++ (bytes ++ rest))))) (no_more n)
      ∙ ap (λ l. transcript_from effect r.place (some_of n (lines_of l))) (sym (append_assoc r.pending bytes rest));
  appended = Appends-nil x;
}

-- bytes without a line feed
pub open_run : {A : Type 0} (effect : Effects A) (v : A) (n : ℕ) (left : Option ℕ) (p q : List ℕ) (s : Behind) → behind n left p ≡ s → (bytes : List ℕ) (x : Option (List ℕ)) → is_open bytes ≡ true → q ≡ p ++ bytes
    → Goes effect (within s v) bytes (within (behind n left q) v) x x
open_run effect v n left p q s e bytes x o h =
    let is : within (behind s.lines s.left (s.pending ++ bytes)) v ≡ within (behind n left q) v =
    ap (λ (z : Behind). within (behind z.lines z.left (z.pending ++ bytes)) v) (sym e) ∙ ap (λ l. within (behind n left l) v) (sym h) in
    subst (λ z. Goes effect (within s v) bytes z x x) is (open_goes effect (within s v) bytes x o)

-- one byte that is no line feed
pub open_one : (b : ℕ) → (b == 10) ≡ false → is_open (b ∷ []) ≡ true
open_one b e = ap (λ t. not t && true) e

-- ---- a byte of a line that is cut

left_none : (left : Option ℕ) (k : ℕ) → left ≡ None → left_after left k ≡ None
left_none left k e = ap (λ z. left_after z k) e

goes_alike : {A : Type 0} (place : Place A) (a b : List ℕ) (e : Result (Effect A) Fault) (more : Place A → Transcript A) → place.left ≡ None → goes_on place a e more ≡ goes_on place b e more
goes_alike place a b (Err c) more none = refl
goes_alike place a b (Ok e) more none =
    ap (λ o. prepended e.text (more (record { lines = next_line place.lines; left = o; value = e.value }))) (left_none place.left (length a) none ∙ sym (left_none place.left (length b) none))

line_alike : {A : Type 0} (effect : Effects A) (place : Place A) (a b : List ℕ) (lines : List (List ℕ)) → place.left ≡ None → effect_at effect place a ≡ effect_at effect place b
    → transcript_from effect place (a ∷ lines) ≡ transcript_from effect place (b ∷ lines)
line_alike effect place a b lines none e =
    ap (λ z. goes_on place a z (λ p. transcript_from effect p lines)) e ∙ goes_alike place a b (effect_at effect place b) (λ p. transcript_from effect p lines) none

some_alike : {A : Type 0} (effect : Effects A) (place : Place A) (a b : List ℕ) (lines : List (List ℕ)) (n : Option ℕ) → place.left ≡ None → effect_at effect place a ≡ effect_at effect place b
    → transcript_from effect place (some_of n (a ∷ lines)) ≡ transcript_from effect place (some_of n (b ∷ lines))
some_alike effect place a b lines None none e = line_alike effect place a b lines none e
some_alike effect place a b lines (Some zero) none e = refl
some_alike effect place a b lines (Some (suc k)) none e = line_alike effect place a b (take k lines) none e

cut_effect : {A : Type 0} (effect : Effects A) (place : Place A) (p more : List ℕ) → place.left ≡ None → is_open p ≡ true → length p ≡ cut_length → effect_at effect place (p ++ more) ≡ effect place.value p
unfolding effect_at
cut_effect effect place p more none o long =
    ap (λ z. effect_within effect z place.value (p ++ more)) none ∙ ap (λ l. effect place.value (take cut_length l)) (feed_after p more o)
    ∙ ap (λ k. effect place.value (take k (p ++ without_feed more))) (sym long) ∙ ap (effect place.value) (take-append_seam p (without_feed more))

cut_alike : {A : Type 0} (effect : Effects A) (r : Run A) (b : ℕ) (n : Option ℕ) (rest : List ℕ) → (b == 10) ≡ false → is_open r.pending ≡ true → r.place.left ≡ None → length r.pending ≡ cut_length
    → transcript_on effect r n (b ∷ rest) ≡ transcript_on effect r n rest
unfolding transcript_on
cut_alike effect r b n rest e o none long =
    let p = r.pending in
    let both = begins_both p b rest o e (omega (arith, long)) in
    ap (λ l. transcript_from effect r.place (some_of n l)) both.long
    ∙ some_alike effect r.place (p ++ b ∷ both.more) (p ++ both.more) both.lines n none (cut_effect effect r.place p (b ∷ both.more) none o long ∙ sym (cut_effect effect r.place p both.more none o long))
    ∙ ap (λ l. transcript_from effect r.place (some_of n l)) (sym both.short)

-- a line that has passed its limit and goes on is cut
pub is_cut : (left : Option ℕ) (n : ℕ) → n ≤ kept_length left → max_line < n → (left ≡ None) × (n ≡ cut_length)
is_cut None n fits long = (refl, omega arith)
is_cut (Some k) n fits long = absurd (omega arith)

pub cut_goes : {A : Type 0} (effect : Effects A) (r : Run A) (b : ℕ) (x : Option (List ℕ)) → (b == 10) ≡ false → is_open r.pending ≡ true → r.place.left ≡ None → length r.pending ≡ cut_length → Goes effect r (b ∷ []) r x x
cut_goes effect r b x e o none long = record {
  written = [];
  leads = λ n rest.
      ap (λ k. transcript_on effect r (and_more k n) (b ∷ rest)) (no_feeds b e) ∙ ap (λ k. transcript_on effect r k (b ∷ rest)) (no_more n)
      ∙ cut_alike effect r b n rest e o none long;
  appended = Appends-nil x;
}

-- memory was refused before any of the bytes was taken
pub stops_before : {A : Type 0} (effect : Effects A) (r : Run A) (bytes : List ℕ) (want : NoMemory) (x y : Option (List ℕ)) → y ≡ x → StopsIn effect r bytes (OutOfMemory want) x y
stops_before effect r bytes want x y e = record { part = []; more = bytes; place = r; is = refl; goes = subst (λ z. Goes effect r [] r x z) (sym e) (goes_none effect r x) }

-- a line feed, where its line was not taken
pub newline_stops : {A : Type 0} (effect : Effects A) (r : Run A) (stop : Stop) (x y : Option (List ℕ)) → is_open r.pending ≡ true → LeavesLine effect r (line_in r.pending true) stop x y → StopsIn effect r (10 ∷ []) stop x y
newline_stops effect r (Line f) x y o h = subst (λ z. EndsAtFault effect r (10 ∷ []) f x z) (sym h.1) (newline_ends effect r f x o h.0.0 h.0.1)
newline_stops effect r InputFailed x y o h = absurd h.0
newline_stops effect r OutputFailed x y o h = newline_breaks effect r h.0 x y o h.1 h.2
newline_stops effect r (OutOfMemory want) x y o h = stops_before effect r (10 ∷ []) want x y h.1

begins_any : (p rest : List ℕ) → is_open p ≡ true → 0 < length p → Begins p rest
begins_any [] rest o h = absurd (omega arith)
begins_any (b ∷ p) rest o h = line_begins b p rest o

or_true : (a b : Bool) → b ≡ true → (a || b) ≡ true
or_true true b e = refl
or_true false b e = e

long_within : {A : Type 0} (effect : Effects A) (left : Option ℕ) (value : A) (line : List ℕ) → is_some left ≡ true → max_line < length (without_feed line) → effect_within effect left value line ≡ Err TooLong
long_within effect None value line limited h = absurd (cc)
long_within effect (Some left) value line limited h =
    ap (λ t. cond t (Err TooLong) (effect value (without_feed line))) (or_true (nat_lt left (length line)) _ (lt-ltb max_line (length (without_feed line)) h))

long_effect : {A : Type 0} (effect : Effects A) (place : Place A) (p more : List ℕ) → is_open p ≡ true → is_some place.left ≡ true → max_line < length p → effect_at effect place (p ++ more) ≡ Err TooLong
unfolding effect_at
long_effect effect place p more o limited h =
    let l = feed_long p more o in
    long_within effect place.left place.value (p ++ more) limited (omega arith)

pub long_ends : {A : Type 0} (effect : Effects A) (r : Run A) (b : ℕ) (f : LineFault) (x : Option (List ℕ)) → is_open r.pending ≡ true → (b == 10) ≡ false → is_some r.place.left ≡ true → length r.pending ≡ max_line
    → f ≡ record { line = next_line r.place.lines; cause = TooLong } → EndsAtFault effect r (b ∷ []) f x x
unfolding transcript_on
long_ends effect r b f x o e limited h is =
    let p = r.pending ++ b ∷ [] in
    let open_p = open_more r.pending b o e in
    let len : length p ≡ length r.pending + 1 = length-append r.pending (b ∷ []) in (
      [],
      r.place.value,
      Appends-nil x,
      λ rest.
          let first = begins_any p rest open_p (omega arith) in
          ap (λ l. transcript_from effect r.place (lines_of l)) (sym (append_assoc r.pending (b ∷ []) rest))
          ∙ ap (transcript_from effect r.place) first.is
          ∙ line_err effect r.place (p ++ first.more) first.lines (record { line = next_line r.place.lines; cause = TooLong }) (long_effect effect r.place p first.more open_p limited (omega arith)) refl
          ∙ ap (λ g. record { text = []; fault = Some g; value = r.place.value }) (sym is),
    )

-- ---- the end

-- a transcript tells what it is
tells : {A : Type 0} (s : Transcript A) (text : List ℕ) (fault : Option LineFault) (value : A) (x y : Option (List ℕ)) → s ≡ record { text = text; fault = fault; value = value } → Appends x y text → Tells s fault x y
tells s text fault value x y e h = (ap (λ z. z.fault) e, subst (λ z. Appends x y z.text) (sym e) h)

pub none_is : {A : Type 0} (effect : Effects A) (r : Run A) → r.pending ≡ [] → transcript_on effect r None [] ≡ record { text = []; fault = None; value = r.place.value }
unfolding transcript_on
none_is effect r e = ap (λ l. transcript_from effect r.place (lines_of (l ++ []))) e

pub end_none : {A : Type 0} (effect : Effects A) (r : Run A) (x : Option (List ℕ)) → r.pending ≡ [] → Tells (transcript_on effect r None []) None x x
end_none effect r x e = tells (transcript_on effect r None []) [] None r.place.value x x (none_is effect r e) (Appends-nil x)

line_end : (p : List ℕ) → is_open p ≡ true → 0 < length p → lines_of (p ++ []) ≡ p ∷ []
line_end [] o h = absurd (omega arith)
line_end (b ∷ p) o h = ap (λ l. lines_of (b ∷ l)) (append-nil p) ∙ line_last b p o

end_is : {A : Type 0} (effect : Effects A) (r q : Run A) (x y : Option (List ℕ)) → is_open r.pending ≡ true → 0 < length r.pending → (t : TakesLine effect r (line_in r.pending false) q x y)
    → transcript_on effect r None [] ≡ record { text = t.0; fault = None; value = q.place.value }
unfolding transcript_on
end_is effect r q x y o h t =
    ap (transcript_from effect r.place) (line_end r.pending o h) ∙ line_ok effect r q r.pending t.0 t.1 t.2 []
    ∙ ap (λ l. record { text = l; fault = None; value = q.place.value }) (append-nil t.0)

pub end_ok : {A : Type 0} (effect : Effects A) (r q : Run A) (x y : Option (List ℕ)) → is_open r.pending ≡ true → 0 < length r.pending → TakesLine effect r (line_in r.pending false) q x y → Tells (transcript_on effect r None []) None x y
end_ok effect r q x y o h t = tells (transcript_on effect r None []) t.0 None q.place.value x y (end_is effect r q x y o h t) t.3

pub end_value : {A : Type 0} (effect : Effects A) (r q : Run A) (x y : Option (List ℕ)) → is_open r.pending ≡ true → 0 < length r.pending → TakesLine effect r (line_in r.pending false) q x y → (transcript_on effect r None []).value ≡ q.place.value
end_value effect r q x y o h t = ap (λ z. z.value) (end_is effect r q x y o h t)

pub end_err : {A : Type 0} (effect : Effects A) (r : Run A) (f : LineFault) (x : Option (List ℕ)) → is_open r.pending ≡ true → 0 < length r.pending → effect_at effect r.place (line_in r.pending false) ≡ Err f.cause → f.line ≡ next_line r.place.lines
    → Tells (transcript_on effect r None []) (Some f) x x
unfolding transcript_on
end_err effect r f x o h e l =
    tells (transcript_on effect r None []) [] (Some f) r.place.value x x (ap (transcript_from effect r.place) (line_end r.pending o h) ∙ line_err effect r.place r.pending [] f e l) (Appends-nil x)

end_breaks : {A : Type 0} (effect : Effects A) (r : Run A) (e : Effect A) (x y : Option (List ℕ)) → is_open r.pending ≡ true → 0 < length r.pending → effect_at effect r.place (line_in r.pending false) ≡ Ok e → Breaks e.text OutputFailed x y
    → TellsPart (transcript_on effect r None []) x y
unfolding transcript_on
end_breaks effect r e x y o h is b =
    let more = transcript_from effect (place_after r.place r.pending e.value) [] in
    let all : transcript_on effect r None [] ≡ prepended e.text more =
    ap (transcript_from effect r.place) (line_end r.pending o h) ∙ ap (λ z. goes_on r.place r.pending z (λ p. transcript_from effect p [])) is in (
      take b.0 e.text,
      drop b.0 e.text ++ more.text,
      ap (λ u. u.text) all ∙ ap (λ l. l ++ more.text) (sym (take-append-drop b.0 e.text)) ∙ append_assoc (take b.0 e.text) (drop b.0 e.text) more.text,
      b.1,
    )

-- the end of the input, where the last line was not taken
pub end_stops : {A : Type 0} (effect : Effects A) (r : Run A) (stop : Stop) (x y : Option (List ℕ)) → is_open r.pending ≡ true → 0 < length r.pending → LeavesLine effect r (line_in r.pending false) stop x y → StopsAtEnd effect r stop x y
end_stops effect r (Line f) x y o more h = subst (λ z. Tells (transcript_on effect r None []) (Some f) x z) (sym h.1) (end_err effect r f x o more h.0.0 h.0.1)
end_stops effect r InputFailed x y o more h = absurd h.0
end_stops effect r OutputFailed x y o more h = end_breaks effect r h.0 x y o more h.1 h.2
end_stops effect r (OutOfMemory want) x y o more h = h.1

-- ---- bytes that come one by one

pub empty_list : (xs : List ℕ) → (length xs == 0) ≡ true → xs ≡ []
empty_list [] h = refl
empty_list (x ∷ xs) h = absurd (omega (arith, eqb-true _ _ h))

pub more_list : (xs : List ℕ) → (length xs == 0) ≡ false → 0 < length xs
more_list [] h = absurd (cc)
more_list (x ∷ xs) h = omega arith

pub goes_more : {A : Type 0} (effect : Effects A) (r q s : Run A) (bytes : List ℕ) (i b : ℕ) (x y z : Option (List ℕ)) → i < length bytes → b ≡ get_or bytes i 0
    → Goes effect r (take i bytes) q x y → Goes effect q (b ∷ []) s y z → Goes effect r (take (i + 1) bytes) s x z
goes_more effect r q s bytes i b x y z h e f g =
    subst (λ (l : List ℕ). Goes effect r l s x z) (ap (λ n. take i bytes ++ n ∷ []) e ∙ sym (take_more bytes i 0 h)) (goes_trans effect r q s (take i bytes) (b ∷ []) x y z f g)

pub stops_more : {A : Type 0} (effect : Effects A) (r q : Run A) (bytes : List ℕ) (i b : ℕ) (stop : Stop) (x y z : Option (List ℕ)) → i < length bytes → b ≡ get_or bytes i 0
    → Goes effect r (take i bytes) q x y → StopsIn effect q (b ∷ []) stop y z → StopsIn effect r bytes stop x z
stops_more effect r q bytes i b stop x y z h e g k =
    let parts : take i bytes ++ (b ∷ [] ++ drop (i + 1) bytes) ≡ bytes =
    sym (append_assoc (take i bytes) (b ∷ []) (drop (i + 1) bytes))
    ∙ ap (λ n. (take i bytes ++ n ∷ []) ++ drop (i + 1) bytes) e
    ∙ ap (λ l. l ++ drop (i + 1) bytes) (sym (take_more bytes i 0 h)) ∙ take-append-drop (i + 1) bytes in
    subst (λ (l : List ℕ). StopsIn effect r l stop x z) parts (goes_stops effect r q (take i bytes) (b ∷ []) (drop (i + 1) bytes) stop x y z g k)
