-- Lines that are written behind a text in parts.
use Rattle.std.proofs.Common.{◌≡◌, ℕ, zero, suc, ◌+◌, ◌-◌, ◌<◌, ◌≤◌, List, [], ◌∷◌, ◌++◌, length, take, drop, slice_index, refl, sym, ◌∙◌, ap, subst, arith, take-add, drop-drop, ext_get_or, length-take, length-drop, get_or-take, get_or-drop}
use Rattle.sqlite_disk.specs.Disk.{Holds, Torn}
use Rattle.snap_log.specs.Texts.{AreLines, gate_at, log_text}
use Rattle.snap_log.specs.Kept.{IsGated, IsDurable}
use Rattle.snap_log.specs.Parts.{staged_text}
use Rattle.snap_log.proofs.TextLaws.{braced}
use Rattle.snap_log.proofs.GateLaws.{staged}

-- bytes that stand in a file
held : (file bytes : List ℕ) (at : ℕ) → Holds file at bytes → take (length bytes) (drop at file) ≡ bytes
held file bytes at holds =
    let n : ℕ = length bytes in
    ext_get_or 0 (take n (drop at file)) bytes (omega (arith, length-take n (drop at file), length-drop at file, holds.within)) (λ i low.
    let below : i < n = omega (arith, length-take n (drop at file)) in
    get_or-take n (drop at file) i 0 below ∙ get_or-drop at file i 0 ∙ holds.each i below)

-- a write behind lines leaves them
pub before : (f h : List ℕ) (end n at size : ℕ) → end + 1 ≤ at → end + n ≤ at → end + 1 ≤ length f → end + n ≤ length f → Torn at size f h → staged_text h end n ≡ staged_text f end n
before f h end zero at size gate low first long torn = refl
before f h end (suc m) at size gate low first long torn =
    let ours : ℕ = length (take m (drop (end + 1) h)) in
    ap (λ (l : List ℕ). 123 ∷ l) (ext_get_or 0 (take m (drop (end + 1) h)) (take m (drop (end + 1) f))
    (omega (arith, torn.no_shorter, length-take m (drop (end + 1) h), length-drop (end + 1) h, length-take m (drop (end + 1) f), length-drop (end + 1) f)) (λ i below.
    let within : i < m = omega (arith, length-take m (drop (end + 1) h)) in
    get_or-take m (drop (end + 1) h) i 0 within
    ∙ get_or-drop (end + 1) h i 0
    ∙ torn.below (end + 1 + i) (omega arith) (omega arith)
    ∙ sym (get_or-drop (end + 1) f i 0)
    ∙ sym (get_or-take m (drop (end + 1) f) i 0 within)))

-- the first lines
pub first : (h lines : List ℕ) (end : ℕ) → 0 < length lines → AreLines lines → (0 < length (take (length lines - 1) (drop 1 lines)) → Holds h (end + 1) (take (length lines - 1) (drop 1 lines))) → staged_text h end (length lines) ≡ lines
first h lines end some are written =
    let rest : List ℕ = take (length lines - 1) (drop 1 lines) in
    let same : lines ≡ 123 ∷ rest = braced lines some are in
    ap (λ (l : List ℕ). staged_text h end (length l)) same ∙ ap (λ (l : List ℕ). 123 ∷ l) (these rest written) ∙ sym same
  where
    these : (rest : List ℕ) → (0 < length rest → Holds h (end + 1) rest) → take (length rest) (drop (end + 1) h) ≡ rest
    these [] written = refl
    these (b ∷ more) written = held h (b ∷ more) (end + 1) (written (omega arith))

-- lines behind them
pub more : (h lines : List ℕ) (end n : ℕ) → 0 < n → Holds h (end + n) lines → staged_text h end (n + length lines) ≡ staged_text h end n ++ lines
more h lines end zero some holds = absurd (omega arith)
more h lines end (suc m) some holds =
    let behind : List ℕ = drop (end + 1) h in
    let size : suc m + length lines ≡ suc (m + length lines) = omega arith in
    ap (λ (k : ℕ). staged_text h end k) size ∙ ap (λ (l : List ℕ). 123 ∷ l) (take-add m (length lines) behind ∙ ap (λ (l : List ℕ). take m behind ++ l)
    (ap (take (length lines)) (drop-drop m (end + 1) h ∙ ap (λ (k : ℕ). drop k h) (omega arith)) ∙ held h lines (end + suc m) holds))

-- a write of nothing
unwritten : (f : List ℕ) (at n : ℕ) → Torn at n f f
unwritten f at n = record { no_shorter = omega arith; no_longer = omega arith; below = λ i low under. refl; above = λ i low over. refl }

-- a closed gate behind lines that are staged
pub shut : (text rest f h : List ℕ) (end n : ℕ) → end ≡ length text → IsGated text f → 0 < n → end + n ≤ length f → staged_text f end n ≡ 123 ∷ rest
    → Torn (end + n) 1 f h → Holds h (end + n) (32 ∷ []) → (behind : List ℕ) × (h ≡ text ++ gate_at (length text) ∷ (rest ++ 32 ∷ behind))
shut text rest f h end zero begins is some long staged_is torn holds = absurd (omega arith)
shut text rest f h end (suc m) begins is some long staged_is torn holds =
    let behind : List ℕ = drop (end + 1) f in
    let same : take m behind ≡ rest = cc staged_is in
    let size : length rest ≡ m = sym (ap length same) ∙ omega (arith, length-take m behind, length-drop (end + 1) f, long) in
    let at : end + suc m ≡ end + 1 + length rest = omega (arith, size) in
    staged text rest f f h end begins is (unwritten f (end + 1) (length rest))
    (λ some. record { within = omega (arith, size, long); each = λ i low. each same size i low })
    (subst (λ (k : ℕ). Torn k 1 f h) at torn) (subst (λ (k : ℕ). Holds h k (32 ∷ [])) at holds)
  where
    each : take m (drop (end + 1) f) ≡ rest → length rest ≡ m → (i : ℕ) → i < length rest → slice_index f (end + 1 + i) ≡ slice_index rest i
    each same size i low =
        let within : i < m = omega (arith, size) in
        sym (get_or-drop (end + 1) f i 0) ∙ sym (get_or-take m (drop (end + 1) f) i 0 within) ∙ ap (λ (l : List ℕ). slice_index l i) same

-- they are there
pub first_there : (h rest : List ℕ) (end : ℕ) → end + 1 ≤ length h → (0 < length rest → Holds h (end + 1) rest) → end + 1 + length rest ≤ length h
first_there h [] end gate written = omega (arith, gate)
first_there h (b ∷ more) end gate written = let holds = written (omega arith) in omega (arith, holds.within)

-- a sync leaves what is kept
pub durable_synced : (text seen next : List ℕ) (old new : List ℕ → Type 0) → IsDurable text seen old → next ≡ seen → ((c : List ℕ) → new c → old c) → IsDurable text next new
durable_synced text seen next old new is same fewer = record {
  lines = is.lines;
  file = subst (λ (f : List ℕ). IsGated text f) (sym same) is.file;
  left = λ c from. is.left c (fewer c from);
}

-- what is staged begins with a brace
pub rest_of : (file : List ℕ) (end n : ℕ) → 0 < n → (rest : List ℕ) × (staged_text file end n ≡ 123 ∷ rest)
rest_of file end zero some = absurd (omega arith)
rest_of file end (suc m) some = (take m (drop (end + 1) file), refl)

-- there are as many bytes
pub staged_length : {may_leave : List ℕ → Type 0} (file : List ℕ) (end n : ℕ) → IsDurable (log_text file) file may_leave → end ≡ length (log_text file) → end + n ≤ length file → length (staged_text file end n) ≡ n
staged_length file end zero is begins long = refl
staged_length file end (suc m) is begins long =
    let size : length (take m (drop (end + 1) file)) ≡ m = omega (arith, length-take m (drop (end + 1) file), length-drop (end + 1) file, long) in
    ap (λ (k : ℕ). suc k) size

-- the gate is there
pub behind_gate : {may_leave : List ℕ → Type 0} (file : List ℕ) (end : ℕ) → IsDurable (log_text file) file may_leave → end ≡ length (log_text file) → end + 1 ≤ length file
behind_gate file end is begins = let within = is.file.within in omega (arith, within)
