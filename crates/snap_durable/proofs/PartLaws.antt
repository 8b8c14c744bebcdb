-- Parts of an input, one after another.
use Rattle.std.specs.Prelude.{Bool, true, false}
use Rattle.std.proofs.Common.{◌≡◌, ◌⊎◌, ◌≤◌, inl, inr, ℕ, length, arith, List, [], ◌∷◌, ◌++◌, refl, sym, ap, ◌∙◌, subst, append_assoc, append-nil, Option}
use Rattle.sqlite_disk.specs.declared.Disk.{Ghosts}
use Rattle.snap_log.specs.declared.log.Log.{Log}
use Rattle.snap_log.specs.Texts.{log_text}
use Rattle.snap_log.specs.Kept.{IsBeforeOrAfter}
use Rattle.snap_log.specs.Batches.{Batched, batched, emptied}
use Rattle.snap_log.specs.Log.{text_in, IsHonest, Keeps}
use Rattle.snap_log.proofs.GateLaws.{left_stands, left_opens}
use Rattle.snap_lines.specs.Effects.{Effects}
use Rattle.snap_lines.specs.Lines.{lines_of}
use Rattle.snap_lines.proofs.KnownLaws.{Appends-nil, Appends-trans}
use Rattle.snap_durable.specs.Parts.{Part, AreTold, IsTimely, LeavesPart, kept_of, lines_added, whole_of}
use Rattle.snap_durable.specs.Served.{AreAnswered, IsBegun, LeavesBatch, Went}
use Rattle.snap_durable.specs.Serves.{Serves}
use Rattle.snap_durable.proofs.BatchLaws.{whole_more, emptied_more, emptied_same, one_line}

pub whole_of_more : (ps qs : List Part) → whole_of (ps ++ qs) ≡ whole_of ps ++ whole_of qs
whole_of_more [] qs = refl
whole_of_more (p ∷ ps) qs = ap (λ l. p.whole ++ l) (whole_of_more ps qs) ∙ sym (append_assoc p.whole (whole_of ps) (whole_of qs))

-- a log has its text
pub same_text : {D : Type 0} {g : Ghosts D} (log : Log D g) → IsHonest log → Keeps log (text_in log ++ [])
same_text log clean = record {
  now = sym (append-nil (text_in log));
  crash = λ f left. left_stands _ _ _ (log.kept clean) f left ∙ sym (append-nil (text_in log));
  opens = left_opens _ _ _ (log.kept clean);
}

module _ {A : Type 0} (effect : Effects A) (changes : A → List ℕ → Bool) (mark : A → List ℕ → List ℕ) (keeping : Bool → A → A) (settled : A → Bool) where
  pub told_more : (v u w : A) (ps qs : List Part) (text more kept after : List ℕ) → AreTold effect changes mark keeping settled v ps text kept u → AreTold effect changes mark keeping settled u qs more after w
      → AreTold effect changes mark keeping settled v (ps ++ qs) (text ++ more) (kept ++ after) w
  told_more v u w [] qs text more kept after (no_text, no_kept, same) next =
      subst (λ t. AreTold effect changes mark keeping settled v qs (t ++ more) (kept ++ after) w) (sym no_text)
      (subst (λ k. AreTold effect changes mark keeping settled v qs more (k ++ after) w) (sym no_kept) (subst (λ x. AreTold effect changes mark keeping settled x qs more after w) (sym same) next))
  told_more v u w (p ∷ ps) qs text more kept after (first, rest, later, x, serves, told, text_is, kept_is, timely) next = (
    first,
    rest ++ more,
    later ++ after,
    x,
    serves,
    told_more x u w ps qs rest more later after told next,
    ap (λ l. l ++ more) text_is ∙ append_assoc first rest more,
    ap (λ l. l ++ after) kept_is ∙ append_assoc (kept_of (changes v) (mark v) p) later after,
    timely,
  )

  pub told_one : (v w : A) (p : Part) (text : List ℕ) → Serves effect (keeping p.is_kept v) (lines_of p.whole) text w → IsTimely effect changes mark keeping settled v p → AreTold effect changes mark keeping settled v (p ∷ []) text (kept_of (changes v) (mark v) p) w
  told_one v w p text serves timely = (text, [], [], w, serves, (refl, refl, refl), sym (append-nil text), sym (append-nil (kept_of (changes v) (mark v) p)), timely)

  -- what a crash leaves where nothing was answered
  pub leaves_kept : (v : A) (first whole f : List ℕ) (x : Option (List ℕ)) → IsBeforeOrAfter first (lines_added (changes v) (mark v) whole) f → LeavesBatch effect changes mark keeping v first whole f x x
  leaves_kept v first whole f x (inl e) = record { is_kept = false; stands = e ∙ sym (append-nil first); answered = inl refl }
  leaves_kept v first whole f x (inr e) = record { is_kept = true; stands = e; answered = inl refl }

  -- bytes of a value that is settled, or at most one
  pub timely_of : (v : A) (s : Batched) (bytes : List ℕ) (k : Bool) → IsBegun s → (settled v ≡ true) ⊎ (length bytes ≤ 1) → IsTimely effect changes mark keeping settled v (record { whole = (batched s bytes).whole; is_kept = k })
  timely_of v s bytes k begun (inl is) = inl is
  timely_of v s bytes k begun (inr low) = inr (one_line s bytes begun low)

  -- nothing of the bytes was taken
  pub leaves_none : (v : A) (s : Batched) (first bytes f : List ℕ) (x : Option (List ℕ)) → log_text f ≡ first → LeavesPart effect changes mark keeping settled v s first bytes f x x
  leaves_none v s first bytes f x is = record {
    parts = [];
    text = [];
    kept = [];
    value = v;
    told = (refl, refl, refl);
    last = record { whole = []; is_kept = false };
    timely = inr (omega arith);
    more = (batched s bytes).whole;
    lines = refl;
    stands = is ∙ sym (append-nil first);
    between = x;
    written = Appends-nil x;
    answered = inl refl;
  }

  -- what a crash leaves of a part is what it leaves of its bytes
  pub leaves_batch : (v : A) (s : Batched) (first bytes f : List ℕ) (before after : Option (List ℕ)) → LeavesBatch effect changes mark keeping v first (batched s bytes).whole f before after
      → ((k : Bool) → IsTimely effect changes mark keeping settled v (record { whole = (batched s bytes).whole; is_kept = k })) → LeavesPart effect changes mark keeping settled v s first bytes f before after
  leaves_batch v s first bytes f before after left timely = record {
    parts = [];
    text = [];
    kept = [];
    value = v;
    told = (refl, refl, refl);
    last = record { whole = (batched s bytes).whole; is_kept = left.is_kept };
    timely = timely left.is_kept;
    more = [];
    lines = sym (append-nil (batched s bytes).whole);
    stands = left.stands;
    between = before;
    written = Appends-nil before;
    answered = left.answered;
  }

  -- and of these with more behind them
  pub leaves_more : (v : A) (s : Batched) (first bytes more f : List ℕ) (before after : Option (List ℕ)) → LeavesPart effect changes mark keeping settled v s first bytes f before after
      → LeavesPart effect changes mark keeping settled v s first (bytes ++ more) f before after
  leaves_more v s first bytes more f before after left =
      let rest : List ℕ = (batched (emptied (batched s bytes)) more).whole in
      record {
        parts = left.parts;
        text = left.text;
        kept = left.kept;
        value = left.value;
        told = left.told;
        last = left.last;
        timely = left.timely;
        more = left.more ++ rest;
        lines = whole_more s bytes more ∙ ap (λ l. l ++ rest) left.lines ∙ append_assoc (whole_of left.parts) (left.last.whole ++ left.more) rest ∙ ap (λ l. whole_of left.parts ++ l) (append_assoc left.last.whole left.more rest);
        stands = left.stands;
        between = left.between;
        written = left.written;
        answered = left.answered;
      }

  module _ {D : Type 0} {g : Ghosts D} where
    -- bytes without a whole line
    pub went_none : (v : A) (s t : Batched) (log : Log D g) (x : Option (List ℕ)) (bytes : List ℕ) → t ≡ batched s bytes → t.whole ≡ [] → Went effect changes mark keeping settled v s log x bytes v t log x
    went_none v s t log x bytes is none =
        let no_line : (batched s bytes).whole ≡ [] = sym (ap (λ z. z.whole) is) ∙ none in
        record {
          parts = [];
          text = [];
          kept = [];
          told = (refl, refl, refl);
          lines = no_line;
          held = is ∙ emptied_same (batched s bytes) no_line;
          written = Appends-nil x;
          clean = λ clean. clean;
          keeps = same_text log;
        }

    -- one part
    pub went_part : (v w : A) (s t : Batched) (log log_new : Log D g) (before after : Option (List ℕ)) (bytes : List ℕ) (is_kept : Bool) → AreAnswered effect (keeping is_kept v) (batched s bytes).whole w before after
        → t ≡ emptied (batched s bytes) → (IsHonest log_new → IsHonest log) → (IsHonest log_new → Keeps log_new (text_in log ++ kept_of (changes v) (mark v) (record { whole = (batched s bytes).whole; is_kept = is_kept })))
        → IsTimely effect changes mark keeping settled v (record { whole = (batched s bytes).whole; is_kept = is_kept }) → Went effect changes mark keeping settled v s log before bytes w t log_new after
    went_part v w s t log log_new before after bytes is_kept now is clean keeps timely =
        let p : Part = record { whole = (batched s bytes).whole; is_kept = is_kept } in
        record {
          parts = p ∷ [];
          text = now.text;
          kept = kept_of (changes v) (mark v) p;
          told = told_one v w p now.text now.serves timely;
          lines = sym (append-nil (batched s bytes).whole);
          held = is;
          written = now.written;
          clean = clean;
          keeps = keeps;
        }

    module _ (v u : A) (s t : Batched) (log mid_log : Log D g) (before mid after : Option (List ℕ)) (a b : List ℕ) (was : Went effect changes mark keeping settled v s log before a u t mid_log mid) where
      next_whole : (batched s (a ++ b)).whole ≡ whole_of was.parts ++ (batched t b).whole
      next_whole = whole_more s a b ∙ ap (λ l. l ++ (batched (emptied (batched s a)) b).whole) was.lines ∙ ap (λ z. whole_of was.parts ++ (batched z b).whole) (sym was.held)

      mid_text : IsHonest mid_log → (kept : List ℕ) → text_in mid_log ++ kept ≡ text_in log ++ (was.kept ++ kept)
      mid_text clean kept = ap (λ l. l ++ kept) (was.keeps clean).now ∙ append_assoc (text_in log) was.kept kept

      -- these bytes, and then others
      pub went_more : (w : A) (z : Batched) (log_new : Log D g) → Went effect changes mark keeping settled u t mid_log mid b w z log_new after → Went effect changes mark keeping settled v s log before (a ++ b) w z log_new after
      went_more w z log_new now = record {
        parts = was.parts ++ now.parts;
        text = was.text ++ now.text;
        kept = was.kept ++ now.kept;
        told = told_more v u w was.parts now.parts was.text now.text was.kept now.kept was.told now.told;
        lines = next_whole ∙ ap (λ l. whole_of was.parts ++ l) now.lines ∙ sym (whole_of_more was.parts now.parts);
        held = now.held ∙ ap (λ x. emptied (batched x b)) was.held ∙ sym (emptied_more s a b);
        written = Appends-trans before mid after was.text now.text was.written now.written;
        clean = λ h. was.clean (now.clean h);
        keeps = λ h. subst (λ l. Keeps log_new l) (mid_text (now.clean h) now.kept) (now.keeps h);
      }

      -- and what a crash leaves of the others
      pub leaves_next : (f : List ℕ) → IsHonest mid_log → LeavesPart effect changes mark keeping settled u t (text_in mid_log) b f mid after → LeavesPart effect changes mark keeping settled v s (text_in log) (a ++ b) f before after
      leaves_next f clean left =
          let last_kept : List ℕ = kept_of (changes left.value) (mark left.value) left.last in
          record {
            parts = was.parts ++ left.parts;
            text = was.text ++ left.text;
            kept = was.kept ++ left.kept;
            value = left.value;
            told = told_more v u left.value was.parts left.parts was.text left.text was.kept left.kept was.told left.told;
            last = left.last;
            timely = left.timely;
            more = left.more;
            lines = next_whole ∙ ap (λ l. whole_of was.parts ++ l) left.lines ∙ sym (append_assoc (whole_of was.parts) (whole_of left.parts) (left.last.whole ++ left.more))
                ∙ ap (λ l. l ++ (left.last.whole ++ left.more)) (sym (whole_of_more was.parts left.parts));
            stands = left.stands ∙ mid_text clean (left.kept ++ last_kept) ∙ ap (λ l. text_in log ++ l) (sym (append_assoc was.kept left.kept last_kept));
            between = left.between;
            written = Appends-trans before mid left.between was.text left.text was.written left.written;
            answered = left.answered;
          }

    -- a crash behind these bytes
    pub went_leaves : (v u : A) (s t : Batched) (log log_new : Log D g) (before after : Option (List ℕ)) (a f : List ℕ) → Went effect changes mark keeping settled v s log before a u t log_new after
        → IsHonest log_new → g.may_leave log_new.disk f → LeavesPart effect changes mark keeping settled v s (text_in log) a f before after
    went_leaves v u s t log log_new before after a f was clean left = record {
      parts = was.parts;
      text = was.text;
      kept = was.kept;
      value = u;
      told = was.told;
      last = record { whole = []; is_kept = false };
      timely = inr (omega arith);
      more = [];
      lines = was.lines ∙ sym (append-nil (whole_of was.parts));
      stands = (was.keeps clean).crash f left ∙ ap (λ l. text_in log ++ l) (sym (append-nil was.kept));
      between = after;
      written = was.written;
      answered = inl refl;
    }
