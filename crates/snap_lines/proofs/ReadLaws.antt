-- What reads and writes have told so far.
use Rattle.std.proofs.Common.{◌≡◌, ℕ, ◌+◌, zero, suc, List, [], ◌∷◌, ◌++◌, take, refl, sym, ap, ◌∙◌, append_assoc, append-nil, Option, Some, None, Ok, Err, Result, OnOk, IfErr, IfSome, subst, arith}
use Rattle.std.specs.Io.KnownBytes.{Appends, Consumes, IsAtEnd, Keeps}
use Rattle.snap_lines.proofs.KnownLaws.{Appends-trans, Appends-kept, Consumes-nil, Consumes-trans, Consumes-kept}
use Rattle.snap_lines.proofs.TranscriptLaws.{goes_none, goes_trans, goes_leads, tells_part}
use Rattle.snap_lines.specs.Effects.{Effects}
use Rattle.snap_lines.specs.Lines.{lines_of, feeds}
use Rattle.snap_lines.specs.Transcripts.{Place, Transcript, transcript, transcript_from, first_lines, prepended, effect_at, goes_on, place_after, start, Tells, TellsPart, Stops}
use Rattle.snap_lines.specs.Runs.{Run, nothing, within, transcript_on, Goes, StopsIn, StopsAtEnd}
use Rattle.snap_path.specs.declared.memory.NoMemory.{NoMemory}
use Rattle.snap_lines.specs.declared.stop.LineFault.{LineFault}
use Rattle.snap_lines.specs.declared.stop.Stop.{Stop}
use Rattle.snap_lines.specs.declared.stop.Stop.TheVariants.{Line, InputFailed, OutputFailed, OutOfMemory}

-- a was known of the input and b is now; x was known of the output and y is now; v was the value
pub record Reading {A : Type 0} (m : Option ℕ) (effect : Effects A) (v : A) (a b x y : Option (List ℕ)) (s : Run A) : Type 0 where
  pub read : List ℕ
  pub consumed : Consumes a b read
  pub goes : Goes effect (within (nothing m) v) read s x y

pub reading_none : {A : Type 0} (m : Option ℕ) (effect : Effects A) (v : A) (a x : Option (List ℕ)) → Reading m effect v a a x x (within (nothing m) v)
reading_none m effect v a x = record { read = []; consumed = Consumes-nil a; goes = goes_none effect (within (nothing m) v) x }

pub reading_more : {A : Type 0} (m : Option ℕ) (effect : Effects A) (v : A) (a b c x y z : Option (List ℕ)) (s t : Run A) (bytes : List ℕ)
    → Reading m effect v a b x y s → Consumes b c bytes → Goes effect s bytes t y z → Reading m effect v a c x z t
reading_more m effect v a b c x y z s t bytes r h g = record {
  read = r.read ++ bytes;
  consumed = Consumes-trans a b c r.read bytes r.consumed h;
  goes = goes_trans effect (within (nothing m) v) s t r.read bytes x y z r.goes g;
}

-- all that there was has been read
whole : (xs : List ℕ) (b c : Option (List ℕ)) (bytes read : List ℕ) → Consumes (Some xs) b read → Consumes b c bytes → (zs : List ℕ) × (xs ≡ read ++ (bytes ++ zs)) × (IsAtEnd c → zs ≡ [])
whole xs None c bytes read p q = absurd p
whole xs (Some ys) None bytes read p q = absurd q
whole xs (Some ys) (Some zs) bytes read p q = (zs, p ∙ ap (λ l. read ++ l) q, λ e. e)

told : {A : Type 0} (s t : Transcript A) (x y z : Option (List ℕ)) (w : List ℕ) (fault : Option LineFault) → s ≡ prepended w t → Appends x y w → Tells t fault y z → Tells s fault x z
told s t x y z w fault e p h = (
  ap (λ u. u.fault) e ∙ h.0,
  subst (λ u. Appends x z u.text) (sym e) (Appends-trans x y z w t.text p h.1),
)

transcript_is : {A : Type 0} (m : Option ℕ) (effect : Effects A) (v : A) (xs : List ℕ) → transcript m effect v xs ≡ transcript_on effect (within (nothing m) v) None xs
unfolding transcript transcript_on
transcript_is m effect v xs = refl

-- the transcript of all that there was, at the end of it
end_of : {A : Type 0} (m : Option ℕ) (effect : Effects A) (v : A) (xs : List ℕ) (b c x y : Option (List ℕ)) (s : Run A) (r : Reading m effect v (Some xs) b x y s) → Consumes b c [] → IsAtEnd c
    → transcript m effect v xs ≡ prepended r.goes.written (transcript_on effect s None [])
end_of m effect v xs b c x y s r h e =
    let all = whole xs b c [] r.read r.consumed h in
    let is : xs ≡ r.read ++ [] = all.1 ∙ ap (λ l. r.read ++ l) (all.2 e) in
    transcript_is m effect v xs ∙ ap (transcript_on effect (within (nothing m) v) None) is ∙ goes_leads effect (within (nothing m) v) s r.read x y r.goes []

pub reading_end : {A : Type 0} (m : Option ℕ) (effect : Effects A) (v : A) (a b c x y z : Option (List ℕ)) (s : Run A) (fault : Option LineFault) → Reading m effect v a b x y s → Consumes b c [] → IsAtEnd c → Tells (transcript_on effect s None []) fault y z
    → IfSome a (λ bytes. Tells (transcript m effect v bytes) fault x z)
reading_end m effect v None b c x y z s fault r h e t = tt
reading_end m effect v (Some xs) b c x y z s fault r h e t =
    told (transcript m effect v xs) (transcript_on effect s None []) x y z r.goes.written fault (end_of m effect v xs b c x y s r h e) r.goes.appended t

pub reading_value : {A : Type 0} (m : Option ℕ) (effect : Effects A) (v w : A) (a b c x y : Option (List ℕ)) (s : Run A) → Reading m effect v a b x y s → Consumes b c [] → IsAtEnd c → (transcript_on effect s None []).value ≡ w
    → IfSome a (λ bytes. (transcript m effect v bytes).value ≡ w)
reading_value m effect v w None b c x y s r h e t = tt
reading_value m effect v w (Some xs) b c x y s r h e t = ap (λ u. u.value) (end_of m effect v xs b c x y s r h e) ∙ t

-- the texts of the lines in the first bytes
goes_first : {A : Type 0} (m : Option ℕ) (effect : Effects A) (v : A) (bytes rest : List ℕ) (q : Run A) (x y : Option (List ℕ)) (g : Goes effect (within (nothing m) v) bytes q x y)
    → Tells (first_lines m effect v (bytes ++ rest) (feeds bytes)) None x y
unfolding first_lines transcript_on
goes_first m effect v bytes rest q x y g =
    let none : feeds bytes + 0 ≡ feeds bytes = omega arith in
    let all : transcript_from effect (start m v) (take (feeds bytes) (lines_of (bytes ++ rest))) ≡ prepended g.written (transcript_from effect q.place []) =
    ap (λ n. transcript_from effect (start m v) (take n (lines_of (bytes ++ rest)))) (sym none) ∙ g.leads (Some 0) rest in (
      ap (λ u. u.fault) all,
      subst (Appends x y) (sym (ap (λ u. u.text) all ∙ append-nil g.written)) g.appended,
    )

-- what was known of the input is what was read, and what is left
unread : (xs : List ℕ) (b : Option (List ℕ)) (read : List ℕ) → Consumes (Some xs) b read → (zs : List ℕ) × (xs ≡ read ++ zs)
unread xs None read h = absurd h
unread xs (Some ys) read h = (ys, h)

pub reading_failed : {A : Type 0} (m : Option ℕ) (effect : Effects A) (v : A) (a b c x y : Option (List ℕ)) (s : Run A) → Reading m effect v a b x y s → Keeps b c
    → IfSome a (λ bytes. Stops m effect v bytes c InputFailed x y)
reading_failed m effect v None b c x y s r k = tt
reading_failed m effect v (Some xs) b c x y s r k =
    let h = Consumes-kept (Some xs) b c r.read r.consumed k in
    let rest = unread xs c r.read h in
    let told = goes_first m effect v r.read rest.0 s x y r.goes in (
      r.read,
      h,
      subst (λ l. Tells (first_lines m effect v l (feeds r.read)) None x y) (sym rest.1) told,
    )

-- the lines that were taken are the first
lines_first : {A : Type 0} (m : Option ℕ) (effect : Effects A) (v : A) (xs bytes rest : List ℕ) (q : Run A) (x y : Option (List ℕ)) → xs ≡ bytes ++ rest → Goes effect (within (nothing m) v) bytes q x y
    → (n : ℕ) × Tells (first_lines m effect v xs n) None x y
lines_first m effect v xs bytes rest q x y e g = (feeds bytes, subst (λ l. Tells (first_lines m effect v l (feeds bytes)) None x y) (sym e) (goes_first m effect v bytes rest q x y g))

stopped : {A : Type 0} (m : Option ℕ) (effect : Effects A) (v : A) (xs : List ℕ) (b c d x y z : Option (List ℕ)) (s : Run A) (bytes : List ℕ) (stop : Stop) → Reading m effect v (Some xs) b x y s → Consumes b c bytes → StopsIn effect s bytes stop y z
    → Stops m effect v xs d stop x z
stopped m effect v xs b c d x y z s bytes (Line f) r h e =
    let all = whole xs b c bytes r.read r.consumed h in
    told (transcript m effect v xs) (record { text = e.0; fault = Some f; value = e.1 }) x y z r.goes.written (Some f)
    (transcript_is m effect v xs ∙ ap (transcript_on effect (within (nothing m) v) None) all.1 ∙ goes_leads effect (within (nothing m) v) s r.read x y r.goes (bytes ++ all.0)
    ∙ ap (prepended r.goes.written) (e.3 all.0)) r.goes.appended (refl, e.2)
stopped m effect v xs b c d x y z s bytes InputFailed r h e = absurd e
stopped m effect v xs b c d x y z s bytes OutputFailed r h e =
    let all = whole xs b c bytes r.read r.consumed h in
    tells_part (transcript m effect v xs) (transcript_on effect s None (bytes ++ all.0)) r.goes.written x y z
    (transcript_is m effect v xs ∙ ap (transcript_on effect (within (nothing m) v) None) all.1 ∙ goes_leads effect (within (nothing m) v) s r.read x y r.goes (bytes ++ all.0)) r.goes.appended (e all.0)
stopped m effect v xs b c d x y z s bytes (OutOfMemory want) r h e =
    let all = whole xs b c bytes r.read r.consumed h in
    lines_first m effect v xs (r.read ++ e.part) (e.more ++ all.0) e.place x z
    (all.1 ∙ ap (λ l. r.read ++ (l ++ all.0)) e.is ∙ ap (λ l. r.read ++ l) (append_assoc e.part e.more all.0) ∙ sym (append_assoc r.read e.part (e.more ++ all.0)))
    (goes_trans effect (within (nothing m) v) s e.place r.read e.part x y z r.goes e.goes)

pub reading_stopped : {A : Type 0} (m : Option ℕ) (effect : Effects A) (v : A) (a b c d x y z : Option (List ℕ)) (s : Run A) (bytes : List ℕ) (stop : Stop) → Reading m effect v a b x y s → Consumes b c bytes → StopsIn effect s bytes stop y z
    → IfSome a (λ bytes. Stops m effect v bytes d stop x z)
reading_stopped m effect v None b c d x y z s bytes stop r h e = tt
reading_stopped m effect v (Some xs) b c d x y z s bytes stop r h e = stopped m effect v xs b c d x y z s bytes stop r h e

stopped_at_end : {A : Type 0} (m : Option ℕ) (effect : Effects A) (v : A) (xs : List ℕ) (b c d x y z : Option (List ℕ)) (s : Run A) (stop : Stop) → Reading m effect v (Some xs) b x y s → Consumes b c [] → IsAtEnd c → StopsAtEnd effect s stop y z
    → Stops m effect v xs d stop x z
stopped_at_end m effect v xs b c d x y z s (Line f) r h e t = told (transcript m effect v xs) (transcript_on effect s None []) x y z r.goes.written (Some f) (end_of m effect v xs b c x y s r h e) r.goes.appended t
stopped_at_end m effect v xs b c d x y z s InputFailed r h e t = absurd t
stopped_at_end m effect v xs b c d x y z s OutputFailed r h e t = tells_part (transcript m effect v xs) (transcript_on effect s None []) r.goes.written x y z (end_of m effect v xs b c x y s r h e) r.goes.appended t
stopped_at_end m effect v xs b c d x y z s (OutOfMemory want) r h e t =
    let rest = unread xs b r.read r.consumed in
    lines_first m effect v xs r.read rest.0 s x z rest.1 (subst (λ u. Goes effect (within (nothing m) v) r.read s x u) (sym t) r.goes)

pub reading_stopped_at_end : {A : Type 0} (m : Option ℕ) (effect : Effects A) (v : A) (a b c d x y z : Option (List ℕ)) (s : Run A) (stop : Stop) → Reading m effect v a b x y s → Consumes b c [] → IsAtEnd c → StopsAtEnd effect s stop y z
    → IfSome a (λ bytes. Stops m effect v bytes d stop x z)
reading_stopped_at_end m effect v None b c d x y z s stop r h e t = tt
reading_stopped_at_end m effect v (Some xs) b c d x y z s stop r h e t = stopped_at_end m effect v xs b c d x y z s stop r h e t

-- nothing was read
pub reading_not_begun : {A : Type 0} (m : Option ℕ) (effect : Effects A) (v : A) (want : NoMemory) (a d x : Option (List ℕ)) → IfSome a (λ bytes. Stops m effect v bytes d (OutOfMemory want) x x)
reading_not_begun m effect v want None d x = tt
reading_not_begun m effect v want (Some xs) d x = lines_first m effect v xs [] xs (within (nothing m) v) x x refl (goes_none effect (within (nothing m) v) x)

-- ---- the last flush

-- what the first lines write is a first part of what all write
texts_first : {A : Type 0} (effect : Effects A) (p : Place A) (lines : List (List ℕ)) (n : ℕ) → (rest : List ℕ) × ((transcript_from effect p lines).text ≡ (transcript_from effect p (take n lines)).text ++ rest)
texts_first effect p lines zero = ((transcript_from effect p lines).text, refl)
texts_first effect p [] (suc n) = ([], refl)
texts_first effect p (line ∷ lines) (suc n) = (elim (effect_at effect p line) as (λ e. (rest : List ℕ) × ((goes_on p line e (λ q. transcript_from effect q lines)).text ≡ (goes_on p line e (λ q. transcript_from effect q (take n lines))).text ++ rest)) [
  | Err c ↦ ([], refl)
  | Ok e ↦
      let more = texts_first effect (place_after p line e.value) lines n in
      (more.0, ap (λ l. e.text ++ l) more.1 ∙ sym (append_assoc e.text (transcript_from effect (place_after p line e.value) (take n lines)).text more.0))
])

first_part : {A : Type 0} (m : Option ℕ) (effect : Effects A) (v : A) (xs : List ℕ) (n : ℕ) (x y : Option (List ℕ)) → Tells (first_lines m effect v xs n) None x y → TellsPart (transcript m effect v xs) x y
unfolding transcript first_lines
first_part m effect v xs n x y t =
    let more = texts_first effect (start m v) (lines_of xs) n in
    ((first_lines m effect v xs n).text, more.0, more.1, t.1)

tells_all : {A : Type 0} (s : Transcript A) (fault : Option LineFault) (x y : Option (List ℕ)) → Tells s fault x y → TellsPart s x y
tells_all s fault x y t = (s.text, [], sym (append-nil s.text), t.1)

part_of : {A : Type 0} (m : Option ℕ) (effect : Effects A) (v : A) (xs : List ℕ) (d : Option (List ℕ)) (stop : Stop) (x y : Option (List ℕ)) → Stops m effect v xs d stop x y → TellsPart (transcript m effect v xs) x y
part_of m effect v xs d (Line f) x y h = tells_all (transcript m effect v xs) (Some f) x y h
part_of m effect v xs d InputFailed x y h = first_part m effect v xs (feeds h.0) x y h.2
part_of m effect v xs d OutputFailed x y h = h
part_of m effect v xs d (OutOfMemory want) x y h = first_part m effect v xs h.0 x y h.1

part_kept : {A : Type 0} (s : Transcript A) (x y z : Option (List ℕ)) → TellsPart s x y → Keeps y z → TellsPart s x z
part_kept s x y z h k = (h.0, h.1, h.2, Appends-kept x y z h.0 h.3 k)

-- the flush failed
pub not_flushed : {A : Type 0} (m : Option ℕ) (effect : Effects A) (v : A) (a d x y z : Option (List ℕ)) (r : Result Unit Stop) → OnOk r (IfSome a (λ bytes. Tells (transcript m effect v bytes) None x y)) → IfErr r (λ stop. IfSome a (λ bytes. Stops m effect v bytes d stop x y)) → Keeps y z
    → IfSome a (λ bytes. Stops m effect v bytes d OutputFailed x z)
not_flushed m effect v None d x y z r ok err k = tt
not_flushed m effect v (Some xs) d x y z (Ok done) ok err k = part_kept (transcript m effect v xs) x y z (tells_all (transcript m effect v xs) None x y ok) k
not_flushed m effect v (Some xs) d x y z (Err stop) ok err k = part_kept (transcript m effect v xs) x y z (part_of m effect v xs d stop x y err) k

kept : {A : Type 0} (m : Option ℕ) (effect : Effects A) (v : A) (xs : List ℕ) (d : Option (List ℕ)) (stop : Stop) (x y z : Option (List ℕ)) → Stops m effect v xs d stop x y → Keeps y z → Stops m effect v xs d stop x z
kept m effect v xs d (Line f) x y z h k = (h.0, Appends-kept x y z (transcript m effect v xs).text h.1 k)
kept m effect v xs d InputFailed x y z h k = (h.0, h.1, (h.2.0, Appends-kept x y z (first_lines m effect v xs (feeds h.0)).text h.2.1 k))
kept m effect v xs d OutputFailed x y z h k = part_kept (transcript m effect v xs) x y z h k
kept m effect v xs d (OutOfMemory want) x y z h k = (h.0, (h.1.0, Appends-kept x y z (first_lines m effect v xs h.0).text h.1.1 k))

pub stops_kept : {A : Type 0} (m : Option ℕ) (effect : Effects A) (v : A) (a d x y z : Option (List ℕ)) (r : Result Unit Stop) → IfErr r (λ stop. IfSome a (λ bytes. Stops m effect v bytes d stop x y)) → Keeps y z
    → IfErr r (λ stop. IfSome a (λ bytes. Stops m effect v bytes d stop x z))
stops_kept m effect v a d x y z (Ok done) h k = tt
stops_kept m effect v None d x y z (Err stop) h k = tt
stops_kept m effect v (Some xs) d x y z (Err stop) h k = kept m effect v xs d stop x y z h k

pub tells_kept : {A : Type 0} (m : Option ℕ) (effect : Effects A) (v : A) (a x y z : Option (List ℕ)) (fault : Option LineFault) → IfSome a (λ bytes. Tells (transcript m effect v bytes) fault x y) → Keeps y z
    → IfSome a (λ bytes. Tells (transcript m effect v bytes) fault x z)
tells_kept m effect v None x y z fault t k = tt
tells_kept m effect v (Some xs) x y z fault t k = (t.0, Appends-kept x y z (transcript m effect v xs).text t.1 k)
