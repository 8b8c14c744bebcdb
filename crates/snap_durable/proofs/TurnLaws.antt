-- Turns of a server over a log that is made short, one after another.
use Rattle.std.proofs.Common.{◌≡◌, inl, inr, ℕ, arith, List, [], ◌∷◌, ◌++◌, Bool, true, false, refl, sym, ap, ◌∙◌, subst, append_assoc, append-nil, Option, Ok}
use Rattle.std.specs.Io.KnownBytes.{Appends}
use Rattle.snap_log.specs.Batches.{Batched, batched, emptied}
use Rattle.snap_log.specs.Texts.{AreLines, log_text}
use Rattle.snap_lines.specs.Effects.{Effect, Effects}
use Rattle.snap_lines.specs.Lines.{lines_of}
use Rattle.snap_lines.specs.Transcripts.{effect_at, goes_on, next_line, prepended, transcript_from}
use Rattle.snap_lines.proofs.KnownLaws.{Appends-nil, Appends-trans}
use Rattle.snap_session.specs.Kept.{KeptValue, has_store, kept_so, mark_of, served_kept, would_change}
use Rattle.snap_durable.specs.Files.{LeavesStep, WentOn}
use Rattle.snap_durable.specs.Parts.{AreTold, LeavesPart, Part, kept_of, line_read, whole_of}
use Rattle.snap_durable.specs.Serves.{Serves, place_unlimited, told_whole}
use Rattle.snap_durable.specs.Turns.{AreTurned, GivesBack, GivesLast, IsStepped, LeavesTurns, Turn, came, steps, whole_in_turns}
use Rattle.snap_durable.proofs.BackLaws.{back_of, gives_of, gives_told}
use Rattle.snap_durable.proofs.BatchLaws.{emptied_more, whole_more}
use Rattle.snap_durable.proofs.PartLaws.{told_more, told_one}
use Rattle.snap_durable.proofs.ServeLaws.{serves}
use Rattle.snap_durable.proofs.SoundLaws.{keeps_part}

-- ---- turns

pub whole_more_turns : (ts us : List Turn) → whole_in_turns (ts ++ us) ≡ whole_in_turns ts ++ whole_in_turns us
whole_more_turns [] us = refl
whole_more_turns (came p ∷ ts) us = ap (λ l. p.whole ++ l) (whole_more_turns ts us) ∙ sym (append_assoc p.whole (whole_in_turns ts) (whole_in_turns us))
whole_more_turns (steps ∷ ts) us = whole_more_turns ts us

pub turned_more : (ts us : List Turn) (v u w : KeptValue) (text more : List ℕ) → AreTurned v ts text u → AreTurned u us more w → AreTurned v (ts ++ us) (text ++ more) w
turned_more [] us v u w text more (none, same) next = subst (λ (t : List ℕ). AreTurned v us (t ++ more) w) (sym none) (subst (λ (x : KeptValue). AreTurned x us more w) (sym same) next)
turned_more (came p ∷ ts) us v u w text more (first, rest, x, serves, turned, is, timely) next =
    (first, rest ++ more, x, serves, turned_more ts us x u w rest more turned next, ap (λ l. l ++ more) is ∙ append_assoc first rest more, timely)
turned_more (steps ∷ ts) us v u w text more (x, stepped, turned) next = (x, stepped, turned_more ts us x u w text more turned next)

-- a step
pub turned_step : (v w : KeptValue) → IsStepped v w → AreTurned v (steps ∷ []) [] w
turned_step v w stepped = (w, stepped, (refl, refl))

-- parts of an input are turns
abbrev pub turns_of : List Part → List Turn
turns_of [] = []
turns_of (p ∷ parts) = came p ∷ turns_of parts

pub whole_of_turns : (parts : List Part) → whole_of parts ≡ whole_in_turns (turns_of parts)
whole_of_turns [] = refl
whole_of_turns (p ∷ parts) = ap (λ l. p.whole ++ l) (whole_of_turns parts)

pub turned_parts : (parts : List Part) (v w : KeptValue) (text kept : List ℕ) → AreTold served_kept would_change mark_of kept_so has_store v parts text kept w → AreTurned v (turns_of parts) text w
turned_parts [] v w text kept (none, no_kept, same) = (none, same)
turned_parts (p ∷ parts) v w text kept (first, rest, more, x, serves, told, text_is, kept_is, timely) = (first, rest, x, serves, turned_parts parts x w rest more told, text_is, timely)

-- ---- what came

pub went_on_none : (v : KeptValue) (s : Batched) (x : Option (List ℕ)) → s.whole ≡ [] → s ≡ emptied s → WentOn v s x [] v s x
went_on_none v s x none is = record { turns = []; said = []; turned = (refl, refl); lines = none; held = is; written = Appends-nil x }

pub went_on_step : (v u w : KeptValue) (s t : Batched) (before after : Option (List ℕ)) (bytes : List ℕ) → WentOn v s before bytes u t after → IsStepped u w → WentOn v s before bytes w t after
went_on_step v u w s t before after bytes was stepped = record {
  turns = was.turns ++ (steps ∷ []);
  said = was.said ++ [];
  turned = turned_more was.turns (steps ∷ []) v u w was.said [] was.turned (turned_step u w stepped);
  lines = was.lines ∙ sym (append-nil (whole_in_turns was.turns)) ∙ sym (whole_more_turns was.turns (steps ∷ []));
  held = was.held;
  written = subst (λ (l : List ℕ). Appends before after l) (sym (append-nil was.said)) was.written;
}

module _ (v u : KeptValue) (s t : Batched) (before mid after : Option (List ℕ)) (a b : List ℕ) (was : WentOn v s before a u t mid) where
  next_lines : (batched s (a ++ b)).whole ≡ whole_in_turns was.turns ++ (batched t b).whole
  next_lines = whole_more s a b ∙ ap (λ l. l ++ (batched (emptied (batched s a)) b).whole) was.lines ∙ ap (λ z. whole_in_turns was.turns ++ (batched z b).whole) (sym was.held)

  -- and then others
  pub went_on_more : (w : KeptValue) (z : Batched) → WentOn u t mid b w z after → WentOn v s before (a ++ b) w z after
  went_on_more w z now = record {
    turns = was.turns ++ now.turns;
    said = was.said ++ now.said;
    turned = turned_more was.turns now.turns v u w was.said now.said was.turned now.turned;
    lines = next_lines ∙ ap (λ l. whole_in_turns was.turns ++ l) now.lines ∙ sym (whole_more_turns was.turns now.turns);
    held = now.held ∙ ap (λ x. emptied (batched x b)) was.held ∙ sym (emptied_more s a b);
    written = Appends-trans before mid after was.said now.said was.written now.written;
  }

  -- and what a crash leaves of the others
  pub leaves_next : (text : List ℕ) → LeavesTurns u t b text mid after → LeavesTurns v s (a ++ b) text before after
  leaves_next text left = record {
    turns = was.turns ++ left.turns;
    said = was.said ++ left.said;
    value = left.value;
    turned = turned_more was.turns left.turns v u left.value was.said left.said was.turned left.turned;
    last = left.last;
    timely = left.timely;
    more = left.more;
    lines = next_lines ∙ ap (λ l. whole_in_turns was.turns ++ l) left.lines ∙ sym (append_assoc (whole_in_turns was.turns) (whole_in_turns left.turns) (left.last.whole ++ left.more))
        ∙ ap (λ l. l ++ (left.last.whole ++ left.more)) (sym (whole_more_turns was.turns left.turns));
    gives = left.gives;
    between = left.between;
    written = Appends-trans before mid left.between was.said left.said was.written left.written;
    answered = left.answered;
  }

-- ---- what a crash leaves

abbrev pub no_part : Part
no_part = record { whole = []; is_kept = false }

-- nothing more was taken
pub leaves_at : (v : KeptValue) (s : Batched) (bytes text : List ℕ) (x : Option (List ℕ)) → GivesBack text v → LeavesTurns v s bytes text x x
leaves_at v s bytes text x gives = record {
  turns = [];
  said = [];
  value = v;
  turned = (refl, refl);
  last = no_part;
  timely = inr (omega arith);
  more = (batched s bytes).whole;
  lines = refl;
  gives = inl (refl, gives);
  between = x;
  written = Appends-nil x;
  answered = inl refl;
}

-- within a step
pub leaves_step : (v : KeptValue) (s : Batched) (bytes text : List ℕ) (x : Option (List ℕ)) → LeavesStep v text → LeavesTurns v s bytes text x x
leaves_step v s bytes text x (w, stepped, gives) = record {
  turns = steps ∷ [];
  said = [];
  value = w;
  turned = turned_step v w stepped;
  last = no_part;
  timely = inr (omega arith);
  more = (batched s bytes).whole;
  lines = refl;
  gives = inl (refl, gives);
  between = x;
  written = Appends-nil x;
  answered = inl refl;
}

-- of these bytes with more behind them
pub leaves_more : (v : KeptValue) (s : Batched) (bytes more text : List ℕ) (before after : Option (List ℕ)) → LeavesTurns v s bytes text before after → LeavesTurns v s (bytes ++ more) text before after
leaves_more v s bytes more text before after left =
    let rest : List ℕ = (batched (emptied (batched s bytes)) more).whole in
    record {
      turns = left.turns;
      said = left.said;
      value = left.value;
      turned = left.turned;
      last = left.last;
      timely = left.timely;
      more = left.more ++ rest;
      lines = whole_more s bytes more ∙ ap (λ l. l ++ rest) left.lines ∙ append_assoc (whole_in_turns left.turns) (left.last.whole ++ left.more) rest ∙ ap (λ l. whole_in_turns left.turns ++ l) (append_assoc left.last.whole left.more rest);
      gives = left.gives;
      between = left.between;
      written = left.written;
      answered = left.answered;
    }

-- ---- of a log that gave a server back

-- lines without a fault are carried out
serves_all : {A : Type 0} (effect : Effects A) → ((v : A) (line : List ℕ) → (e : Effect A) × (effect v line ≡ Ok e)) → (lines : List (List ℕ)) (n : ℕ) (v : A)
    → (said : List ℕ) × (w : A) × (transcript_from effect (place_unlimited n v) lines ≡ told_whole said w)
unfolding effect_at line_read
serves_all effect ok [] n v = ([], v, refl)
serves_all effect ok (line ∷ lines) n v =
    let here = ok v (line_read line) in
    let rest = serves_all effect ok lines (next_line n) here.0.value in
    (here.0.text ++ rest.0, rest.1, ap (λ r. goes_on (place_unlimited n v) line r (λ q. transcript_from effect q lines)) here.1 ∙ ap (prepended here.0.text) rest.2)

pub serves_some : (lines : List (List ℕ)) (n : ℕ) (v : KeptValue) → (said : List ℕ) × (w : KeptValue) × (transcript_from served_kept (place_unlimited n v) lines ≡ told_whole said w)
serves_some lines n v = serves_all served_kept (λ v line. keeps_part.served v line) lines n v

module _ (v : KeptValue) (s : Batched) (first bytes file : List ℕ) (before after : Option (List ℕ)) (lines : AreLines first) (gives : GivesBack first v) (left : LeavesPart served_kept would_change mark_of kept_so has_store v s first bytes file before after) where
  -- what the file's lines are of
  abbrev text_with : Bool → List ℕ
  text_with k = first ++ (left.kept ++ kept_of (would_change left.value) (mark_of left.value) (record { whole = left.last.whole; is_kept = k }))

  last_gives : (k : Bool) → left.last.is_kept ≡ k → log_text file ≡ text_with k → AreLines (log_text file) → GivesLast (log_text file) left.value left.last
  last_gives false is text whole =
      let here : log_text file ≡ first ++ left.kept = text ∙ ap (λ (l : List ℕ). first ++ l) (append-nil left.kept) in
      inl (
        is,
        subst (λ (t : List ℕ). GivesBack t left.value) (sym here) (back_of (first ++ left.kept) left.value
            (gives_told first left.kept left.text left.parts v v left.value (gives_of first v lines gives) refl left.told (subst AreLines here whole))),
      )
  last_gives true is text whole =
      let p : Part = record { whole = left.last.whole; is_kept = true } in
      let some = serves_some (lines_of left.last.whole) 0 (kept_so true left.value) in
      let now : Serves served_kept (kept_so true left.value) (lines_of left.last.whole) some.0 some.1 = serves served_kept (kept_so true left.value) (lines_of left.last.whole) some.0 some.1 some.2 in
      let all = told_more served_kept would_change mark_of kept_so has_store v left.value some.1 left.parts (p ∷ []) left.text some.0 left.kept (kept_of (would_change left.value) (mark_of left.value) p) left.told
      (told_one served_kept would_change mark_of kept_so has_store left.value some.1 p some.0 now left.timely) in
      inr (
        is,
        some.0,
        some.1,
        now,
        subst (λ (t : List ℕ). GivesBack t some.1) (sym text) (back_of (text_with true) some.1
            (gives_told first (left.kept ++ kept_of (would_change left.value) (mark_of left.value) p) (left.text ++ some.0) (left.parts ++ (p ∷ [])) v v some.1 (gives_of first v lines gives) refl all (subst AreLines text whole))),
      )

  pub leaves_of_part : AreLines (log_text file) → LeavesTurns v s bytes (log_text file) before after
  leaves_of_part whole = record {
    turns = turns_of left.parts;
    said = left.text;
    value = left.value;
    turned = turned_parts left.parts v left.value left.text left.kept left.told;
    last = left.last;
    timely = left.timely;
    more = left.more;
    lines = left.lines ∙ ap (λ (l : List ℕ). l ++ (left.last.whole ++ left.more)) (whole_of_turns left.parts);
    gives = last_gives left.last.is_kept refl left.stands whole;
    between = left.between;
    written = left.written;
    answered = left.answered;
  }
