-- What a crash leaves in each of the two steps of an append.
use Rattle.std.proofs.Common.{◌≡◌, ◌⊎◌, inl, inr, ℕ, zero, suc, ◌≢◌, ◌+◌, ◌<◌, ◌≤◌, List, [], ◌∷◌, ◌++◌, length, take, drop, slice_index, get_or, refl, sym, ◌∙◌, ap, subst, arith, append_assoc, length-append, take-append-drop, length-drop, length-take, get_or-take, get_or-drop}
use Rattle.std.proofs.lemmas.List.{ext_get_or, get_or_append_left, get_or-append-add, append-nil, drop_more, take_at, get_or_at}
use Rattle.std.proofs.lemmas.Bool.{cases_eq}
use Rattle.sqlite_disk.specs.Disk.{Holds, Torn, Follows, Only}
use Rattle.snap_log.specs.Texts.{log_text, gate_at, AreLines, HasGate, IsLog}
use Rattle.snap_log.specs.Kept.{IsGated, IsDurable, IsStaged, IsBeforeOrAfter}
use Rattle.snap_log.proofs.TextLaws.{closed, beside, joined, short, text_first, text_lines}

-- a file that begins with these bytes
pub front : (xs c : List ℕ) → length xs ≤ length c → ((i : ℕ) → i < length xs → slice_index c i ≡ slice_index xs i) → c ≡ xs ++ drop (length xs) c
front xs c long same =
    let first : take (length xs) c ≡ xs =
    ext_get_or 0 (take (length xs) c) xs (omega (arith, length-take (length xs) c)) (λ i low.
    let below : i < length xs = omega (arith, length-take (length xs) c) in
    get_or-take (length xs) c i 0 below ∙ same i below) in
    sym (take-append-drop (length xs) c) ∙ ap (λ (l : List ℕ). l ++ drop (length xs) c) first

-- a write behind some bytes leaves them
pub kept : (pre d : List ℕ) (at n : ℕ) (c : List ℕ) → length pre ≤ at → Torn at n (pre ++ d) c → c ≡ pre ++ drop (length pre) c
kept pre d at n c low torn =
    let long : length (pre ++ d) ≡ length pre + length d = length-append pre d in
    front pre c (omega (arith, torn.no_shorter, long)) (λ i below. torn.below i (omega (arith, long)) (omega arith) ∙ get_or_append_left pre d 0 i below)

-- bytes that stand behind others
pub found : (pre d bytes : List ℕ) → Holds (pre ++ d) (length pre) bytes → d ≡ bytes ++ drop (length bytes) d
found pre d bytes holds =
    let long : length (pre ++ d) ≡ length pre + length d = length-append pre d in
    front bytes d (omega (arith, holds.within, long)) (λ i low. sym (get_or-append-add pre d i 0) ∙ holds.each i low)

-- a closed gate is none that is open
shut_is : (n : ℕ) → gate_at n ≢ 123
shut_is zero = omega arith
shut_is (suc n) = omega arith

-- and behind a line it is a space
space_is : (n : ℕ) → 0 < n → gate_at n ≡ 32
space_is zero low = absurd (omega arith)
space_is (suc n) low = refl

-- a closed gate behind a text, in one piece
pub gated : (text file : List ℕ) → IsGated text file → file ≡ text ++ gate_at (length text) ∷ drop (length text + 1) file
gated text file is =
    let n = length text in
    let behind : drop n file ≡ gate_at n ∷ drop (n + 1) file = drop_more file n 0 is.within ∙ ap (λ (g : ℕ). g ∷ drop (n + 1) file) is.gate in
    sym (take-append-drop n file) ∙ ap (λ (l : List ℕ). l ++ drop n file) is.begins ∙ ap (λ (l : List ℕ). text ++ l) behind

pub regated : (text d : List ℕ) → IsGated text (text ++ gate_at (length text) ∷ d)
regated text d = record {
  within = omega (arith, length-append text (gate_at (length text) ∷ d));
  begins = take_at text (gate_at (length text) ∷ d) (length text) refl;
  gate = get_or_at text (gate_at (length text)) d 0 (length text) refl;
}

-- a file with a closed gate stands for the text before it
pub stands : (text file : List ℕ) → AreLines text → IsGated text file → log_text file ≡ text
stands text file lines is =
    ap log_text (gated text file is) ∙ beside text (gate_at (length text) ∷ drop (length text + 1) file) lines ∙ ap (λ (l : List ℕ). text ++ l) (closed (gate_at (length text)) (drop (length text + 1) file) (shut_is (length text))) ∙ append-nil text

-- and is a log
pub is_log : (text file : List ℕ) → AreLines text → IsGated text file → IsLog file
is_log text file lines is = inr (subst (λ (t : List ℕ). HasGate file (length t)) (sym (stands text file lines is)) (is.within, is.gate))

-- a write behind the gate leaves the text and the gate
gated_torn : (text f g : List ℕ) (at n : ℕ) → length text + 1 ≤ at → IsGated text f → Torn at n f g → IsGated text g
gated_torn text f g at n low is torn =
    let size : ℕ = length text in
    let same : (i : ℕ) → i < size → slice_index g i ≡ slice_index text i = λ i below.
    torn.below i (omega (arith, is.within)) (omega arith) ∙ sym (get_or-take size f i 0 below) ∙ ap (λ (l : List ℕ). get_or l i 0) is.begins in
    let whole : g ≡ text ++ drop size g = front text g (omega (arith, is.within, torn.no_shorter)) same in
    record {
      within = omega (arith, is.within, torn.no_shorter);
      begins = ap (λ (l : List ℕ). take size l) whole ∙ take_at text (drop size g) size refl;
      gate = torn.below size is.within (omega arith) ∙ is.gate;
    }

pub durable_torn : (text seen next : List ℕ) (old new : List ℕ → Type 0) (at n : ℕ) → length text + 1 ≤ at → IsDurable text seen old → Torn at n seen next → Follows (Torn at n) old new → IsDurable text next new
durable_torn text seen next old new at n low is torn follows = record {
  lines = is.lines;
  file = gated_torn text seen next at n low is.file torn;
  left = λ c from. let step = follows c from in gated_torn text step.0 c at n low (is.left step.0 step.1) step.2;
}

-- a write behind the gate, and then one behind that, leave the first one's bytes and a closed gate
pub staged : (text rest f g h : List ℕ) (at : ℕ) → at ≡ length text → IsGated text f
    → Torn (at + 1) (length rest) f g → (0 < length rest → Holds g (at + 1) rest)
    → Torn (at + 1 + length rest) 1 g h → Holds h (at + 1 + length rest) (32 ∷ [])
    → (behind : List ℕ) × (h ≡ text ++ gate_at (length text) ∷ (rest ++ 32 ∷ behind))
staged text rest f g h at end is torn holds torn2 holds2 =
    let own : ℕ = gate_at (length text) in
    let shut : List ℕ = text ++ own ∷ [] in
    let size : length shut ≡ at + 1 = omega (arith, length-append text (own ∷ [])) in
    let old : f ≡ shut ++ drop (length text + 1) f = gated text f is ∙ sym (append_assoc text (own ∷ []) (drop (length text + 1) f)) in
    let dg : List ℕ = drop (length shut) g in
    let g_is : g ≡ shut ++ dg = kept shut (drop (length text + 1) f) (at + 1) (length rest) g (omega arith) (subst (λ (x : List ℕ). Torn (at + 1) (length rest) x g) old torn) in
    let first : dg ≡ rest ++ drop (length rest) dg = these rest dg (λ some. found shut dg rest (subst (λ (k : ℕ). Holds (shut ++ dg) k rest) (sym size) (subst (λ (x : List ℕ). Holds x (at + 1) rest) g_is (holds some)))) in
    let pre : List ℕ = shut ++ rest in
    let width : length pre ≡ at + 1 + length rest = omega (arith, length-append shut rest, size) in
    let new : g ≡ pre ++ drop (length rest) dg = g_is ∙ ap (λ (l : List ℕ). shut ++ l) first ∙ sym (append_assoc shut rest (drop (length rest) dg)) in
    let dh : List ℕ = drop (length pre) h in
    let h_is : h ≡ pre ++ dh = kept pre (drop (length rest) dg) (at + 1 + length rest) 1 h (omega arith) (subst (λ (x : List ℕ). Torn (at + 1 + length rest) 1 x h) new torn2) in
    let last : dh ≡ 32 ∷ drop 1 dh = found pre dh (32 ∷ []) (subst (λ (k : ℕ). Holds (pre ++ dh) k (32 ∷ [])) (sym width) (subst (λ (x : List ℕ). Holds x (at + 1 + length rest) (32 ∷ [])) h_is holds2)) in
    (drop 1 dh, h_is ∙ ap (λ (l : List ℕ). pre ++ l) last ∙ append_assoc shut rest (32 ∷ drop 1 dh) ∙ append_assoc text (own ∷ []) (rest ++ 32 ∷ drop 1 dh))
  where
    these : (bytes d : List ℕ) → (0 < length bytes → d ≡ bytes ++ drop (length bytes) d) → d ≡ bytes ++ drop (length bytes) d
    these [] d is = refl
    these (b ∷ bytes) d is = is (omega arith)

module _ (text rest junk : List ℕ) (lines : AreLines text) (more : AreLines (123 ∷ rest)) where
  abbrev shut : ℕ → List ℕ
  shut g = text ++ g ∷ (rest ++ 32 ∷ junk)

  abbrev own : ℕ
  own = gate_at (length text)

  -- a write of the gate changes it alone
  pub gate : (at : ℕ) (c : List ℕ) → at ≡ length text → Torn at 1 (shut own) c → (g : ℕ) × (c ≡ shut g)
  gate at c end torn =
      let bytes : List ℕ = rest ++ 32 ∷ junk in
      let long : length (shut own) ≡ length text + suc (length bytes) = length-append text (own ∷ bytes) in
      let d : List ℕ = drop (length text) c in
      let whole : c ≡ text ++ d = kept text (own ∷ bytes) at 1 c (omega arith) torn in
      let same : length d ≡ suc (length bytes) = omega (arith, length-drop (length text) c, long, torn.no_shorter, torn.no_longer) in
      let tail : d ≡ get_or d 0 0 ∷ bytes = ext_get_or 0 d (get_or d 0 0 ∷ bytes) same (λ i. each i) in
      (get_or d 0 0, whole ∙ ap (λ (l : List ℕ). text ++ l) tail)
    where
      each : (i : ℕ) → i < length (drop (length text) c) → get_or (drop (length text) c) i 0 ≡ get_or (get_or (drop (length text) c) 0 0 ∷ (rest ++ 32 ∷ junk)) i 0
      each zero low = refl
      each (suc i) low =
          let long : length (shut own) ≡ length text + suc (length (rest ++ 32 ∷ junk)) = length-append text (own ∷ (rest ++ 32 ∷ junk)) in
          let within : length text + suc i < length (shut own) = omega (arith, length-drop (length text) c, long, torn.no_longer) in
          get_or-drop (length text) c (suc i) 0 ∙ torn.above (length text + suc i) within (omega arith) ∙ get_or-append-add text (own ∷ (rest ++ 32 ∷ junk)) (suc i) 0

  -- the gate is the byte that stands there
  pub is_gate : (at g : ℕ) → at ≡ length text → slice_index (shut g) at ≡ g
  is_gate at g end = get_or_at text g (rest ++ 32 ∷ junk) 0 at (sym end)

  -- an open gate leaves the closed one behind the lines
  pub opened : IsGated (text ++ 123 ∷ rest) (shut 123)
  opened =
      let space : gate_at (length (text ++ 123 ∷ rest)) ≡ 32 = space_is (length (text ++ 123 ∷ rest)) (omega (arith, length-append text (123 ∷ rest))) in
      subst (λ (f : List ℕ). IsGated (text ++ 123 ∷ rest) f) (ap (λ (g : ℕ). (text ++ 123 ∷ rest) ++ g ∷ junk) space ∙ append_assoc text (123 ∷ rest) (32 ∷ junk)) (regated (text ++ 123 ∷ rest) junk)

  -- whatever byte the gate is, the lines behind it count or they don't
  pub either : (g : ℕ) → IsBeforeOrAfter text (123 ∷ rest) (shut g)
  either g = elim (cases_eq g 123) [
    | inl e ↦ inr (ap (λ (b : ℕ). log_text (shut b)) e ∙ stands (text ++ 123 ∷ rest) (shut 123) (joined text (123 ∷ rest) lines more) opened)
    | inr n ↦ inl (beside text (g ∷ (rest ++ 32 ∷ junk)) lines ∙ ap (λ (l : List ℕ). text ++ l) (closed g (rest ++ 32 ∷ junk) n) ∙ append-nil text)
  ]

  -- a gate that is closed or open makes a log
  pub either_log : (g : ℕ) → (g ≡ own) ⊎ (g ≡ 123) → IsLog (shut g)
  either_log g (inl e) = subst (λ (b : ℕ). IsLog (shut b)) (sym e) (is_log text (shut own) lines (regated text (rest ++ 32 ∷ junk)))
  either_log g (inr e) = subst (λ (b : ℕ). IsLog (shut b)) (sym e) (is_log (text ++ 123 ∷ rest) (shut 123) (joined text (123 ∷ rest) lines more) opened)

module _ (text rest seen : List ℕ) (at : ℕ) (old : List ℕ → Type 0) (end : at ≡ length text) (more : AreLines (123 ∷ rest)) (s : IsStaged text rest seen old) where
  -- what a write of the gate leaves
  pub stepped : (c : List ℕ) → Torn at 1 seen c → (g : ℕ) × (c ≡ text ++ g ∷ (rest ++ 32 ∷ s.file.0))
  stepped c torn = gate text rest s.file.0 s.lines more at c end (subst (λ (f : List ℕ). Torn at 1 f c) s.file.1 torn)

  pub left : (new : List ℕ → Type 0) → Follows (Torn at 1) old new → (c : List ℕ) → new c → (g : ℕ) × (c ≡ text ++ g ∷ (rest ++ 32 ∷ s.file.0))
  left new follows c from =
      let step = follows c from in
      stepped c (subst (λ (f : List ℕ). Torn at 1 f c) (s.durable step.0 step.1) step.2)

  -- a crash leaves the text with the lines or without
  pub gate_crash : (new : List ℕ → Type 0) → Follows (Torn at 1) old new → (c : List ℕ) → new c → IsBeforeOrAfter text (123 ∷ rest) c
  gate_crash new follows c from =
      let is = left new follows c from in
      subst (IsBeforeOrAfter text (123 ∷ rest)) (sym is.1) (either text rest s.file.0 s.lines more is.0)

  pub gate_log : (new : List ℕ → Type 0) → Follows (Torn at 1) old new → (c : List ℕ) → new c → (slice_index c at ≡ gate_at at) ⊎ (slice_index c at ≡ 123) → IsLog c
  gate_log new follows c from byte =
      let is = left new follows c from in
      let g_is : slice_index c at ≡ is.0 = ap (λ (f : List ℕ). slice_index f at) is.1 ∙ is_gate text rest s.file.0 s.lines more at is.0 end in
      subst IsLog (sym is.1) (either_log text rest s.file.0 s.lines more is.0 (subst (λ (k : ℕ). (is.0 ≡ gate_at k) ⊎ (is.0 ≡ 123)) end (subst (λ (b : ℕ). (b ≡ gate_at at) ⊎ (b ≡ 123)) g_is byte)))

  -- once it is synced, the lines are kept
  pub gate_kept : (last : List ℕ) (new : List ℕ → Type 0) → Torn at 1 seen last → Holds last at (123 ∷ []) → Only last new → IsDurable (text ++ 123 ∷ rest) last new
  gate_kept last new torn holds only =
      let is = stepped last torn in
      let same : slice_index last at ≡ 123 = there last holds in
      let g_is : is.0 ≡ 123 = sym (ap (λ (f : List ℕ). slice_index f at) is.1 ∙ is_gate text rest s.file.0 s.lines more at is.0 end) ∙ same in
      let now : last ≡ text ++ 123 ∷ (rest ++ 32 ∷ s.file.0) = is.1 ∙ ap (λ (b : ℕ). text ++ b ∷ (rest ++ 32 ∷ s.file.0)) g_is in
      let file : IsGated (text ++ 123 ∷ rest) last = subst (λ (f : List ℕ). IsGated (text ++ 123 ∷ rest) f) (sym now) (opened text rest s.file.0 s.lines more) in
      record {
        lines = joined text (123 ∷ rest) s.lines more;
        file = file;
        left = λ c from. subst (λ (f : List ℕ). IsGated (text ++ 123 ∷ rest) f) (sym (only c from)) file;
      }
    where
      there : (f : List ℕ) → Holds f at (123 ∷ []) → slice_index f at ≡ 123
      there f is = subst (λ (k : ℕ). slice_index f k ≡ 123) (omega arith) (is.each 0 (omega arith))

-- a file with a closed gate behind its text, which is on the disk, is kept
pub settled : (file : List ℕ) (may_leave : List ℕ → Type 0) → HasGate file (length (log_text file)) → Only file may_leave → IsDurable (log_text file) file may_leave
settled file may_leave has only =
    let text : List ℕ = log_text file in
    let gated_is : IsGated text file = record { within = has.0; begins = text_first file; gate = has.1 } in
    record { lines = text_lines file; file = gated_is; left = λ c from. subst (λ (f : List ℕ). IsGated text f) (sym (only c from)) gated_is }

-- a new file, with its first closed gate
pub begun : (file seen : List ℕ) (may_leave : List ℕ → Type 0) → length file ≤ 1 → IsDurable [] seen may_leave → IsDurable (log_text file) seen may_leave
begun file seen may_leave low is = subst (λ (t : List ℕ). IsDurable t seen may_leave) (sym (short file low)) is

-- what is kept stands for its text
pub kept_stands : (text seen : List ℕ) (may_leave : List ℕ → Type 0) → IsDurable text seen may_leave → log_text seen ≡ text
kept_stands text seen may_leave is = stands text seen is.lines is.file

pub left_stands : (text seen : List ℕ) (may_leave : List ℕ → Type 0) → IsDurable text seen may_leave → (c : List ℕ) → may_leave c → log_text c ≡ text
left_stands text seen may_leave is c from = stands text c is.lines (is.left c from)

pub left_opens : (text seen : List ℕ) (may_leave : List ℕ → Type 0) → IsDurable text seen may_leave → (c : List ℕ) → may_leave c → IsLog c
left_opens text seen may_leave is c from = is_log text c is.lines (is.left c from)

-- what is kept is the file's text
pub now_kept : (text seen : List ℕ) (may_leave : List ℕ → Type 0) → IsDurable text seen may_leave → IsDurable (log_text seen) seen may_leave
now_kept text seen may_leave is = subst (λ (t : List ℕ). IsDurable t seen may_leave) (sym (kept_stands text seen may_leave is)) is

-- what an opening may leave
pub opening_leaves : (file c : List ℕ) (before : Type 0) → before ⊎ (c ≡ file) ⊎ ((length c ≤ 1) × (length file ≤ 1)) → before ⊎ (log_text c ≡ log_text file)
opening_leaves file c before (inl was) = inl was
opening_leaves file c before (inr (inl same)) = inr (ap log_text same)
opening_leaves file c before (inr (inr new)) = inr (short c new.0 ∙ sym (short file new.1))

-- bytes of a file that are its text's
pub text_part : (file bytes : List ℕ) (at : ℕ) → Holds file at bytes → at + length bytes ≤ length (log_text file) → bytes ≡ take (length bytes) (drop at (log_text file))
text_part file bytes at holds low =
    let text : List ℕ = log_text file in
    let n : ℕ = length bytes in
    ext_get_or 0 bytes (take n (drop at text)) (omega (arith, length-take n (drop at text), length-drop at text)) (λ i below.
    let within : at + i < length text = omega arith in
    sym (get_or-take n (drop at text) i 0 below ∙ get_or-drop at text i 0 ∙ ap (λ (t : List ℕ). get_or t (at + i) 0) (sym (text_first file)) ∙ get_or-take (length text) file (at + i) 0 within ∙ holds.each i below))
