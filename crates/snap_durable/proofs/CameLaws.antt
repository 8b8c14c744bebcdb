-- What came of an input, read by read.
use Rattle.std.specs.Prelude.{IfSome, IfOk, IfErr, IsTrue, Bool, true, false, not, ◌⊎◌, if◌then◌else◌}
use Rattle.std.proofs.Common.{◌≡◌, inl, inr, true≢false, ◌+◌, ◌≤◌, ℕ, length, take, drop, arith, List, [], ◌∷◌, ◌++◌, refl, sym, ap, ◌∙◌, subst, append_assoc, append-nil, Option, Some, None, Result, Ok, Err}
use lib.Seq.{take-add}
use Rattle.std.proofs.lemmas.List.{take_all}
use Rattle.std.specs.Io.KnownBytes.{Consumes, IsAtEnd}
use Rattle.sqlite_disk.specs.declared.Disk.{Ghosts}
use Rattle.snap_log.specs.declared.log.Log.{Log}
use Rattle.snap_log.specs.Batches.{Batched, batched, emptied, is_nothing, none_yet}
use Rattle.snap_log.specs.Log.{text_in, IsHonest}
use Rattle.snap_lines.specs.Effects.{Effects}
use Rattle.snap_lines.specs.Lines.{lines_of}
use Rattle.snap_lines.proofs.KnownLaws.{Appends-nil, Consumes-nil, Consumes-trans}
use Rattle.snap_durable.specs.declared.ended.Ended.{Ended}
use Rattle.snap_durable.specs.Ended.{disk_after, disk_ended}
use Rattle.snap_durable.specs.Parts.{LeavesPart, whole_in}
use Rattle.snap_durable.specs.Served.{AreAnswered, Carried, Done, Ends, IsBegun, IsReplayed, Went, feed_behind, text_limit}
use Rattle.snap_durable.specs.Serves.{Serves}
use Rattle.snap_durable.proofs.ServeLaws.{serves_more, serves_none}
use Rattle.snap_durable.proofs.BatchLaws.{begun_next, begun_none, emptied_more, lines_next}
use Rattle.snap_durable.proofs.PartLaws.{leaves_more, leaves_next, same_text, went_leaves, went_more}

pub if_ok : {X E : Type 0} {P Q : X → Type 0} (r : Result X E) → ((x : X) → P x → Q x) → IfOk r P → IfOk r Q
if_ok (Ok x) f p = f x p
if_ok (Err e) f p = tt

-- the same where it stopped, with what an honest disk tells
pub if_stopped : {D : Type 0} {g : Ghosts D} {M : Type 0} {P Q : Ended D g → Type 0} (r : Result (Log D g) (Ended D g)) → (IsTrue (g.is_clean (disk_after r)) → M)
    → ((e : Ended D g) → (IsTrue (g.is_clean (disk_ended e)) → M) → P e → Q e) → IfErr r P → IfErr r Q
if_stopped (Ok x) clean f p = tt
if_stopped (Err e) clean f p = f e clean p

-- the line feed that a last line lacks, by whether one has begun
abbrev feed_if : Bool → List ℕ
feed_if none = if none then [] else 10 ∷ []

pub no_feed : (held : List ℕ) (b : Bool) → b ≡ not (is_nothing held) → b ≡ false → [] ≡ feed_behind held
no_feed held b is none = by (is_nothing held) (sym is ∙ none)
  where
    by : (x : Bool) → not x ≡ false → [] ≡ feed_if x
    by true h = refl
    by false h = absurd (true≢false h)

pub a_feed : (held : List ℕ) (b : Bool) → b ≡ not (is_nothing held) → b ≡ true → 10 ∷ [] ≡ feed_behind held
a_feed held b is some = by (is_nothing held) (sym is ∙ some)
  where
    by : (x : Bool) → not x ≡ true → 10 ∷ [] ≡ feed_if x
    by true h = absurd (true≢false (sym h))
    by false h = refl

-- nothing, or a line feed
pub feed_or_none : (held last : List ℕ) → last ≡ feed_behind held → (last ≡ []) ⊎ (last ≡ 10 ∷ [])
feed_or_none held last is = by (is_nothing held) is
  where
    by : (x : Bool) → last ≡ feed_if x → (last ≡ []) ⊎ (last ≡ 10 ∷ [])
    by true h = inl h
    by false h = inr h

-- a read that gave nothing at the end
pub at_end_before : (a b : Option (List ℕ)) → Consumes a b [] → IsAtEnd b → IsAtEnd a
at_end_before None b h e = tt
at_end_before (Some xs) None h e = absurd h
at_end_before (Some xs) (Some ys) h e = h ∙ e

module _ {A D : Type 0} {g : Ghosts D} (effect : Effects A) (changes : A → List ℕ → Bool) (mark : A → List ℕ → List ℕ) (keeping : Bool → A → A) (settled : A → Bool) (limit : ℕ) (v : A) (log : Log D g) (first before : Option (List ℕ)) where
  -- a first part of an input came, and its lines were answered
  pub record Came (w : A) (s : Batched) (log_new : Log D g) (left after : Option (List ℕ)) : Type 0 where
    pub read : List ℕ
    pub consumed : Consumes first left read
    pub went : Went effect changes mark keeping settled v (none_yet limit) log before read w s log_new after

  pub came_first : Came v (none_yet limit) log first before
  came_first = record {
    read = [];
    consumed = Consumes-nil first;
    went = record {
      parts = [];
      text = [];
      kept = [];
      told = (refl, refl, refl);
      lines = refl;
      held = refl;
      written = Appends-nil before;
      clean = λ clean. clean;
      keeps = same_text log;
    };
  }

  pub came_more : (u w : A) (s t : Batched) (mid_log log_new : Log D g) (left left_new mid after : Option (List ℕ)) (bytes : List ℕ) → Came u s mid_log left mid → Consumes left left_new bytes
      → Went effect changes mark keeping settled u s mid_log mid bytes w t log_new after → Came w t log_new left_new after
  came_more u w s t mid_log log_new left left_new mid after bytes was more now = record {
    read = was.read ++ bytes;
    consumed = Consumes-trans first left left_new was.read bytes was.consumed more;
    went = went_more effect changes mark keeping settled v u (none_yet limit) s log mid_log before mid after was.read bytes was.went w t log_new now;
  }

  -- nothing of a line is left behind the whole ones
  pub came_begun : (u : A) (s : Batched) (mid_log : Log D g) (left mid : Option (List ℕ)) → Came u s mid_log left mid → IsBegun s
  came_begun u s mid_log left mid was = begun_next (none_yet limit) s was.read (begun_none limit) was.went.held

  abbrev pub Left : List ℕ → Option (List ℕ) → Type 0
  Left f after = IfSome first (λ bytes. LeavesPart effect changes mark keeping settled v (none_yet limit) (text_in log) (bytes ++ 10 ∷ []) f before after)

  -- what a crash leaves of what was read, it leaves of the input
  of_input : (left : Option (List ℕ)) (read f : List ℕ) (after : Option (List ℕ)) → Consumes first left read → LeavesPart effect changes mark keeping settled v (none_yet limit) (text_in log) read f before after → Left f after
  of_input left read f after consumed leaves = on first left consumed
    where
      on : (x left : Option (List ℕ)) → Consumes x left read → IfSome x (λ bytes. LeavesPart effect changes mark keeping settled v (none_yet limit) (text_in log) (bytes ++ 10 ∷ []) f before after)
      on None left h = tt
      on (Some bytes) None h = absurd h
      on (Some bytes) (Some more) h =
          subst (λ l. LeavesPart effect changes mark keeping settled v (none_yet limit) (text_in log) l f before after) (sym (ap (λ l. l ++ 10 ∷ []) h ∙ append_assoc read more (10 ∷ [])))
          (leaves_more effect changes mark keeping settled v (none_yet limit) (text_in log) read (more ++ 10 ∷ []) f before after leaves)

  -- the same of the whole input, with a line feed
  of_all : (left : Option (List ℕ)) (read f : List ℕ) (after : Option (List ℕ)) → Consumes first left read → IsAtEnd left → LeavesPart effect changes mark keeping settled v (none_yet limit) (text_in log) (read ++ 10 ∷ []) f before after → Left f after
  of_all left read f after consumed at_end leaves = on first left consumed at_end
    where
      on : (x left : Option (List ℕ)) → Consumes x left read → IsAtEnd left → IfSome x (λ bytes. LeavesPart effect changes mark keeping settled v (none_yet limit) (text_in log) (bytes ++ 10 ∷ []) f before after)
      on None left h e = tt
      on (Some bytes) None h e = absurd h
      on (Some bytes) (Some more) h e =
          subst (λ l. LeavesPart effect changes mark keeping settled v (none_yet limit) (text_in log) (l ++ 10 ∷ []) f before after) (sym (h ∙ ap (λ l. read ++ l) e ∙ append-nil read)) leaves

  module _ (u : A) (s : Batched) (mid_log : Log D g) (left mid : Option (List ℕ)) (was : Came u s mid_log left mid) where
    -- a crash between two reads
    pub came_leaves : (f : List ℕ) → IsHonest mid_log → g.may_leave mid_log.disk f → Left f mid
    came_leaves f clean h = of_input left was.read f mid was.consumed (went_leaves effect changes mark keeping settled v u (none_yet limit) s log mid_log before mid was.read f was.went clean h)

    -- a crash within the lines of a read
    pub came_stops : (left_new after : Option (List ℕ)) (bytes f : List ℕ) → Consumes left left_new bytes → IsHonest mid_log → LeavesPart effect changes mark keeping settled u s (text_in mid_log) bytes f mid after → Left f after
    came_stops left_new after bytes f more clean leaves =
        of_input left_new (was.read ++ bytes) f after (Consumes-trans first left left_new was.read bytes was.consumed more)
        (leaves_next effect changes mark keeping settled v u (none_yet limit) s log mid_log before mid after was.read bytes was.went f clean leaves)

    -- and at the end of the input
    pub came_stops_last : (after : Option (List ℕ)) (f : List ℕ) → IsAtEnd left → IsHonest mid_log → LeavesPart effect changes mark keeping settled u s (text_in mid_log) (10 ∷ []) f mid after → Left f after
    came_stops_last after f at_end clean leaves =
        of_all left was.read f after was.consumed at_end (leaves_next effect changes mark keeping settled v u (none_yet limit) s log mid_log before mid after was.read (10 ∷ []) was.went f clean leaves)

    -- however the end of the input was served
    pub came_ended : (w : A) (after : Option (List ℕ)) (r : Result (Log D g) (Ended D g)) (f : List ℕ) → IsAtEnd left → IfOk r (λ log_new. Ends effect changes mark keeping settled u s mid_log mid w log_new after)
        → IfErr r (λ ended. IsTrue (g.is_clean (disk_ended ended)) → (c : List ℕ) → g.may_leave (disk_ended ended) c → LeavesPart effect changes mark keeping settled u s (text_in mid_log) (10 ∷ []) c mid after)
        → (IsTrue (g.is_clean (disk_after r)) → IsHonest mid_log) → IsTrue (g.is_clean (disk_after r)) → g.may_leave (disk_after r) f → Left f after
    came_ended w after (Ok log_new) f at_end ends crash was_clean clean h = last ends.last (feed_or_none s.held ends.last ends.is) all
      where
        all : LeavesPart effect changes mark keeping settled v (none_yet limit) (text_in log) (was.read ++ ends.last) f before after
        all = went_leaves effect changes mark keeping settled v w (none_yet limit) ends.end log log_new before after (was.read ++ ends.last) f
            (went_more effect changes mark keeping settled v u (none_yet limit) s log mid_log before mid after was.read ends.last was.went w ends.end log_new ends.went) clean h

        last : (l : List ℕ) → (l ≡ []) ⊎ (l ≡ 10 ∷ []) → LeavesPart effect changes mark keeping settled v (none_yet limit) (text_in log) (was.read ++ l) f before after → Left f after
        last l (inl e) leaves = of_input left was.read f after was.consumed (subst (λ x. LeavesPart effect changes mark keeping settled v (none_yet limit) (text_in log) x f before after) (ap (λ x. was.read ++ x) e ∙ append-nil was.read) leaves)
        last l (inr e) leaves = of_all left was.read f after was.consumed at_end (subst (λ x. LeavesPart effect changes mark keeping settled v (none_yet limit) (text_in log) (was.read ++ x) f before after) e leaves)
    came_ended w after (Err e) f at_end ends crash was_clean clean h = came_stops_last after f at_end (was_clean clean) (crash clean f h)

    pub came_done : (w : A) (log_new : Log D g) (after : Option (List ℕ)) → IsAtEnd left → Ends effect changes mark keeping settled u s mid_log mid w log_new after
        → IfSome first (λ bytes. Done effect changes mark keeping settled limit bytes v (text_in log) before w log_new after)
    came_done w log_new after at_end ends = on first left was.consumed at_end
      where
        all : Went effect changes mark keeping settled v (none_yet limit) log before (was.read ++ ends.last) w ends.end log_new after
        all = went_more effect changes mark keeping settled v u (none_yet limit) s log mid_log before mid after was.read ends.last was.went w ends.end log_new ends.went

        on : (x left : Option (List ℕ)) → Consumes x left was.read → IsAtEnd left → IfSome x (λ bytes. Done effect changes mark keeping settled limit bytes v (text_in log) before w log_new after)
        on None left h e = tt
        on (Some bytes) None h e = absurd h
        on (Some bytes) (Some more) h e = record {
          last = ends.last;
          is = ends.is ∙ ap (λ (t : Batched). feed_behind t.held) was.went.held ∙ ap (λ l. feed_behind (batched (none_yet limit) l).held) (sym (h ∙ ap (λ l. was.read ++ l) e ∙ append-nil was.read));
          parts = all.parts;
          text = all.text;
          kept = all.kept;
          told = all.told;
          lines = ap (λ l. whole_in limit (l ++ ends.last)) (h ∙ ap (λ l. was.read ++ l) e ∙ append-nil was.read) ∙ all.lines;
          written = all.written;
          keeps = all.keeps;
        }

-- bytes of a text behind those before them
pub take_on : (text bytes : List ℕ) (at n : ℕ) → bytes ≡ take n (drop at text) → take (at + n) text ≡ take at text ++ bytes
take_on text bytes at n is = take-add at n text ∙ ap (λ l. take at text ++ l) (sym is)

-- a log's text, chunk by chunk
pub carried_first : {A D : Type 0} {g : Ghosts D} (effect : Effects A) (v : A) (log : Log D g) → Carried effect v v (none_yet text_limit) 0 log
carried_first effect v log = record { read = []; answers = []; serves = serves_none effect v; held = refl; is = λ clean. (omega arith, refl) }

pub carried_more : {A D : Type 0} {g : Ghosts D} (effect : Effects A) (v u w : A) (s t : Batched) (at n : ℕ) (bytes : List ℕ) (log log_new : Log D g) → Carried effect v u s at log
    → AreAnswered effect u (batched s bytes).whole w None None → t ≡ emptied (batched s bytes) → (IsHonest log_new → IsHonest log) → text_in log_new ≡ text_in log
    → (IsHonest log_new → at + n ≤ length (text_in log)) → (IsHonest log_new → at + n ≤ length (text_in log) → take (at + n) (text_in log) ≡ take at (text_in log) ++ bytes) → Carried effect v w t (at + n) log_new
carried_more effect v u w s t at n bytes log log_new was now is clean text low read_is = record {
  read = was.read ++ bytes;
  answers = was.answers ++ now.text;
  serves = subst (λ ls. Serves effect v ls (was.answers ++ now.text) w) (sym (lines_next text_limit was.read bytes s was.held))
      (serves_more effect v u w (lines_of (whole_in text_limit was.read)) (lines_of (batched s bytes).whole) was.answers now.text was.serves now.serves);
  held = is ∙ ap (λ z. emptied (batched z bytes)) was.held ∙ sym (emptied_more (none_yet text_limit) was.read bytes);
  is = λ h. (
    subst (λ (l : List ℕ). at + n ≤ length l) (sym text) (low h),
    ap (λ l. l ++ bytes) (was.is (clean h)).1 ∙ sym (read_is h (low h)) ∙ ap (λ l. take (at + n) l) (sym text),
  );
}

pub carried_all : {A D : Type 0} {g : Ghosts D} (effect : Effects A) (v w : A) (s : Batched) (at : ℕ) (log : Log D g) (text : List ℕ) → Carried effect v w s at log → IsHonest log → length (text_in log) ≤ at → text_in log ≡ text → IsReplayed effect v text w
carried_all effect v w s at log text was clean all is = record {
  answers = was.answers;
  serves = subst (λ (l : List ℕ). Serves effect v (lines_of (whole_in text_limit l)) was.answers w) ((was.is clean).1 ∙ take_all at (text_in log) all ∙ is) was.serves;
}
