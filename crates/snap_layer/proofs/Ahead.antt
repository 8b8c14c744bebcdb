-- What the inodes on the way of a walk still have.
use Rattle.std.proofs.Common.{◌≡◌, ℕ, ◌+◌, ◌-◌, ◌*◌, ◌<◌, ◌≤◌, Bool, true, false, cond, List, [], ◌∷◌, ◌++◌, length, take, length-append, append_assoc, append-nil, Option, Some, None, IsSome, refl, sym, ap, subst, ◌∙◌, arith}
use Rattle.std.specs.Prelude.{filter, ◌&&◌}
use Rattle.std.specs.declared.cmp.Ordering.{Ordering}
use Rattle.std.specs.declared.cmp.Ordering.TheVariants.{Less, Equal, Greater}
use Rattle.std.specs.Ordering.{is_lt, ordering_reverse}
use Rattle.std.specs.Cmp.Lexicographic.{nat_list_cmp_total}
use Rattle.std.proofs.Math.Seq.{take-append_seam}
use Rattle.std.specs.List.{AllByRecursion}
use Rattle.std.specs.List.Sorted.{IsStrictlySortedBy}
use Rattle.std.specs.Map.{keys_of}
use Rattle.std.specs.BTreeMap.Range.{range_contains}
use Rattle.std.specs.declared.ops.Bound.TheVariants.{Unbounded}
use Rattle.std.proofs.lemmas.Cmp.{tied_itself}
use Rattle.std.proofs.lemmas.Bool.{cond-true, cond-false}
use Rattle.slab.specs.Slab.{Slab as Slots}
use Rattle.std.specs.List.{list_all}
use Rattle.std.proofs.lemmas.Bool.Decides.{nat_tests}
use Rattle.snap_path.specs.Text.{Names, IsPath, is_name, text_below}
use Rattle.snap_path.proofs.Texts.{text_below_push_length}
use Rattle.snap_layer.specs.declared.inode.Inode.{Inode}
use Rattle.snap_layer.specs.declared.inode.Target.{Target}
use Rattle.snap_layer.specs.declared.inode.Target.TheVariants.{Whiteout, Inode as Inode_}
use Rattle.snap_layer.proofs.Inside.{all_map}
use Rattle.snap_layer.specs.Rows.{name_cmp, Items, items_at, items_in, bound_of, items_above, placed, Frames, pushed, last_path, ahead, frame_text, frames_text, frame_of, AreNamed, IsWay, Passes}

-- ---- the items above a name

-- the name is above the other, or any
abbrev is_above : Option (List ℕ) → List ℕ → Bool
is_above o n = range_contains name_cmp (bound_of o) Unbounded n

not_itself : (n : List ℕ) → is_above (Some n) n ≡ false
not_itself n = ap (λ r. is_lt r && true) (tied_itself nat_list_cmp_total n)

above_less : (n m : List ℕ) → name_cmp n m ≡ Less → is_above (Some n) m ≡ true
above_less n m e = ap (λ r. is_lt r && true) e

below_less : (n m : List ℕ) → name_cmp n m ≡ Less → is_above (Some m) n ≡ false
below_less n m e = ap (λ r. is_lt r && true) (nat_list_cmp_total.antisymm m n ∙ ap ordering_reverse e)

is_less : (r : Ordering) → (is_lt r && true) ≡ true → r ≡ Less
is_less Less e = refl
is_less Equal e = cc
is_less Greater e = cc

above_trans : (o : Option (List ℕ)) (n m : List ℕ) → is_above o n ≡ true → name_cmp n m ≡ Less → is_above o m ≡ true
above_trans None n m e f = refl
above_trans (Some k) n m e f = above_less k m (nat_list_cmp_total.trans k n m (is_less (name_cmp k n) e) f)

-- where each passes, all are kept
kept_all : (test : List ℕ → Bool) (es : Items) → AllByRecursion (λ n. test n ≡ true) (keys_of es) → filter (λ (e : List ℕ × Target). test e.0) es ≡ es
kept_all test [] a = refl
kept_all test (e ∷ es) a = cond-true (test e.0) (e ∷ filter (λ (x : List ℕ × Target). test x.0) es) _ a.0 ∙ ap (λ l. e ∷ l) (kept_all test es a.1)

-- what holds of all holds of the first that is kept
first_kept : (P : List ℕ → Type 0) (test : List ℕ → Bool) (es : Items) (x : List ℕ × Target) (rest : Items) → AllByRecursion P (keys_of es) → filter (λ (e : List ℕ × Target). test e.0) es ≡ x ∷ rest → P x.0
first_kept P test [] x rest a e = absurd (cc)
first_kept P test (y ∷ es) x rest a e = by (first_kept P test es x rest a.1) (test y.0) e
  where
    by : (filter (λ (z : List ℕ × Target). test z.0) es ≡ x ∷ rest → P x.0) → (b : Bool) → cond b (y ∷ filter (λ (z : List ℕ × Target). test z.0) es) (filter (λ (z : List ℕ × Target). test z.0) es) ≡ x ∷ rest → P x.0
    by later true is = let same : y ≡ x = cc in subst (λ (z : List ℕ × Target). P z.0) same a.0
    by later false is = later is

-- the items above the first that is above a name are the rest
pub after_next : (o : Option (List ℕ)) (es : Items) (n : List ℕ) (t : Target) (rest : Items) → IsStrictlySortedBy name_cmp (keys_of es) → items_above o es ≡ (n, t) ∷ rest → items_above (Some n) es ≡ rest
unfolding IsStrictlySortedBy
after_next o [] n t rest sorted is = absurd (cc)
after_next o (e ∷ es) n t rest sorted is = by (after_next o es n t rest sorted.1) (is_above o e.0) refl is
  where
    by : (items_above o es ≡ (n, t) ∷ rest → items_above (Some n) es ≡ rest) → (b : Bool) → is_above o e.0 ≡ b → cond b (e ∷ items_above o es) (items_above o es) ≡ (n, t) ∷ rest → cond (is_above (Some n) e.0) (e ∷ items_above (Some n) es) (items_above (Some n) es) ≡ rest
    by later true above first =
        let name : e.0 ≡ n = ap (λ (x : List ℕ × Target). x.0) (head e (n, t) (items_above o es) rest first) in
        let others : items_above o es ≡ rest = cc in
        let rises : AllByRecursion (λ m. name_cmp n m ≡ Less) (keys_of es) = subst (λ k. AllByRecursion (λ m. name_cmp k m ≡ Less) (keys_of es)) name sorted.0 in
        cond-false (is_above (Some n) e.0) _ (items_above (Some n) es) (ap (is_above (Some n)) name ∙ not_itself n)
        ∙ kept_all (is_above (Some n)) es (all_map (λ m. name_cmp n m ≡ Less) (λ m. is_above (Some n) m ≡ true) (λ m r. above_less n m r) (keys_of es) rises)
        ∙ sym (kept_all (is_above o) es (all_map (λ m. name_cmp e.0 m ≡ Less) (λ m. is_above o m ≡ true) (λ m r. above_trans o e.0 m above r) (keys_of es) sorted.0))
        ∙ others
      where
        head : (x y : List ℕ × Target) (xs ys : Items) → x ∷ xs ≡ y ∷ ys → x ≡ y
        head x y xs ys f = cc
    by later false above first =
        cond-false (is_above (Some n) e.0) _ (items_above (Some n) es) (below_less e.0 n (first_kept (λ m. name_cmp e.0 m ≡ Less) (is_above o) es (n, t) rest sorted.0 first))
        ∙ later first

-- ---- the frames

pub last_path_snoc : (p : Names) (fs : Frames) (f : ℕ × Option (List ℕ)) → last_path p (fs ++ f ∷ []) ≡ pushed (last_path p fs) f.1
last_path_snoc p [] f = refl
last_path_snoc p (g ∷ fs) f = last_path_snoc (pushed p g.1) fs f

module _ (s : Slots Inode) where
  -- what the last frame has comes first
  pub ahead_snoc : (p : Names) (fs : Frames) (f : ℕ × Option (List ℕ)) → ahead s p (fs ++ f ∷ []) ≡ placed (last_path p fs) (items_above f.1 (items_at s f.0)) ++ ahead s p fs
  ahead_snoc p [] f = sym (append-nil (placed p (items_above f.1 (items_at s f.0))))
  ahead_snoc p (g ∷ fs) f =
      ap (λ l. l ++ placed p (items_above g.1 (items_at s g.0))) (ahead_snoc (pushed p g.1) fs f)
      ∙ append_assoc (placed (last_path (pushed p g.1) fs) (items_above f.1 (items_at s f.0))) (ahead s (pushed p g.1) fs) (placed p (items_above g.1 (items_at s g.0)))

  -- a frame that has no more may go
  pub ahead_gone : (p : Names) (old new : Frames) (f : ℕ × Option (List ℕ)) → old ≡ new ++ f ∷ [] → items_above f.1 (items_at s f.0) ≡ [] → ahead s p new ≡ ahead s p old
  ahead_gone p old new f is none = sym (ap (ahead s p) is ∙ ahead_snoc p new f ∙ ap (λ es. placed (last_path p new) es ++ ahead s p new) none)

  -- a frame that goes on to its next name
  pub ahead_next : (p : Names) (old new front : Frames) (f : ℕ × Option (List ℕ)) (n : List ℕ) (t : Target) → old ≡ front ++ f ∷ [] → new ≡ front ++ (f.0, Some n) ∷ []
      → items_above f.1 (items_at s f.0) ≡ (n, t) ∷ items_above (Some n) (items_at s f.0) → ahead s p old ≡ (last_path p new, t) ∷ ahead s p new
  ahead_next p old new front f n t was is next =
      let path : last_path p front ++ n ∷ [] ≡ last_path p new = sym (last_path_snoc p front (f.0, Some n)) ∙ ap (last_path p) (sym is) in
      let others : placed (last_path p front) (items_above (Some n) (items_at s f.0)) ++ ahead s p front ≡ ahead s p new = sym (ahead_snoc p front (f.0, Some n)) ∙ ap (ahead s p) (sym is) in
      ap (ahead s p) was ∙ ahead_snoc p front f ∙ ap (λ es. placed (last_path p front) es ++ ahead s p front) next ∙ λ i. (path i, t) ∷ others i

-- ---- which frames have names

way_front : (front : Frames) (f : ℕ × Option (List ℕ)) (past : Frames) → IsWay (front ++ f ∷ past) → AreNamed front
way_front [] f past way = tt
way_front (g ∷ []) f past way = (way.0, tt)
way_front (g ∷ h ∷ front) f past way = (way.0, way_front (h ∷ front) f past way.1)

named_snoc : (front : Frames) (f : ℕ × Option (List ℕ)) → AreNamed front → IsSome f.1 → AreNamed (front ++ f ∷ [])
named_snoc [] f named some = (some, tt)
named_snoc (g ∷ front) f named some = (named.0, named_snoc front f named.1 some)

pub way_named : (fs : Frames) → AreNamed fs → IsWay fs
way_named [] named = tt
way_named (f ∷ []) named = tt
way_named (f ∷ g ∷ fs) named = (named.0, way_named (g ∷ fs) named.1)

way_snoc : (fs : Frames) (f : ℕ × Option (List ℕ)) → AreNamed fs → IsWay (fs ++ f ∷ [])
way_snoc [] f named = tt
way_snoc (g ∷ []) f named = (named.0, tt)
way_snoc (g ∷ h ∷ fs) f named = (named.0, way_snoc (h ∷ fs) f named.1)

length_path : (p : Names) (fs : Frames) → AreNamed fs → length (last_path p fs) ≡ length p + length fs
length_path p [] named = omega arith
length_path p ((k, None) ∷ fs) named = absurd (cc)
length_path p ((k, Some n) ∷ fs) named = omega (arith, length_path (p ++ n ∷ []) fs named.1, length-append p (n ∷ []))

last_path_append : (p : Names) (fs gs : Frames) → last_path p (fs ++ gs) ≡ last_path (last_path p fs) gs
last_path_append p [] gs = refl
last_path_append p (f ∷ fs) gs = last_path_append (pushed p f.1) fs gs

longer : (p : Names) (fs : Frames) → (r : Names) × (last_path p fs ≡ p ++ r)
longer p [] = ([], sym (append-nil p))
longer p ((k, None) ∷ fs) = longer p fs
longer p ((k, Some n) ∷ fs) = let l = longer (p ++ n ∷ []) fs in (n ∷ l.0, l.1 ∙ append_assoc p (n ∷ []) l.0)

-- the frames up to the name that came, by the path that came before
module _ (p : Names) (fs gs : Frames) (n : List ℕ) (passes : Passes fs gs n) (way : IsWay fs) where
  front_named : AreNamed passes.front
  front_named = way_front passes.front (passes.key, passes.last) passes.past (subst IsWay passes.was way)

  pub passes_named : AreNamed gs
  passes_named = subst AreNamed (sym passes.is) (named_snoc passes.front (passes.key, Some n) front_named refl)

  front_length : length gs - 1 ≡ length passes.front
  front_length = omega (arith, ap length passes.is, length-append passes.front ((passes.key, Some n) ∷ []))

  pub passes_path : last_path p gs ≡ take (length p + (length gs - 1)) (last_path p fs) ++ n ∷ []
  passes_path =
      let place : length p + (length gs - 1) ≡ length (last_path p passes.front) = omega (arith, front_length, length_path p passes.front front_named) in
      let more = longer (last_path p passes.front) ((passes.key, passes.last) ∷ passes.past) in
      let whole : last_path p fs ≡ last_path p passes.front ++ more.0 = ap (last_path p) passes.was ∙ last_path_append p passes.front ((passes.key, passes.last) ∷ passes.past) ∙ more.1 in
      let front : take (length p + (length gs - 1)) (last_path p fs) ≡ last_path p passes.front = (λ i. take (place i) (whole i)) ∙ take-append_seam (last_path p passes.front) more.0 in
      ap (last_path p) passes.is ∙ last_path_snoc p passes.front (passes.key, Some n) ∙ ap (λ (x : Names). x ++ n ∷ []) (sym front)

  pub passes_above : length p + (length gs - 1) + 1 ≡ length (last_path p gs)
  passes_above = omega (arith, front_length, length_path p gs passes_named, ap length passes.is, length-append passes.front ((passes.key, Some n) ∷ []))

-- ---- an inode entered

items_all : (es : Items) → items_above None es ≡ es
items_all es = kept_all (is_above None) es (each (keys_of es))
  where
    each : (ks : List (List ℕ)) → AllByRecursion (λ k. is_above None k ≡ true) ks
    each [] = tt
    each (k ∷ ks) = (refl, each ks)

pub last_path_entered : (p : Names) (gs : Frames) (t : Target) → last_path p (gs ++ frame_of t) ≡ last_path p gs
last_path_entered p gs Whiteout = ap (last_path p) (append-nil gs)
last_path_entered p gs (Inode_ c) = last_path_snoc p gs (c, None)

pub ahead_entered : (s : Slots Inode) (p : Names) (gs : Frames) (t : Target) → ahead s p (gs ++ frame_of t) ≡ placed (last_path p gs) (items_in s t) ++ ahead s p gs
ahead_entered s p gs Whiteout = ap (ahead s p) (append-nil gs)
ahead_entered s p gs (Inode_ c) = ahead_snoc s p gs (c, None) ∙ ap (λ es. placed (last_path p gs) es ++ ahead s p gs) (items_all (items_at s c))

pub way_entered : (gs : Frames) (t : Target) → AreNamed gs → IsWay (gs ++ frame_of t)
way_entered gs Whiteout named = way_named (gs ++ []) (subst AreNamed (sym (append-nil gs)) named)
way_entered gs (Inode_ c) named = way_snoc gs (c, None) named

-- ---- texts

-- a path has at most 2047 names, since each takes two bytes of its text
pub names_few : (p : Names) → IsPath p → length p ≤ 2047
names_few p path = omega (arith, twice p path.0, path.1)
  where
    first : (a b : Bool) → (a && b) ≡ true → a ≡ true
    first true b e = refl
    first false b e = e

    second : (a b : Bool) → (a && b) ≡ true → b ≡ true
    second true b e = e
    second false b e = absurd (cc)

    some_byte : (n : List ℕ) → is_name n ≡ true → 0 < length n
    some_byte [] e = absurd (cc)
    some_byte (b ∷ n) e = omega arith

    twice : (q : Names) → list_all is_name q ≡ true → 2 * length q ≤ length (text_below q)
    twice [] e = omega arith
    twice (n ∷ q) e = omega (arith, some_byte n (first (is_name n) (list_all is_name q) e), twice q (second (is_name n) (list_all is_name q) e), length-append n (text_below q))

-- a name has at most 255 bytes
pub name_short : (n : List ℕ) → is_name n ≡ true → length n ≤ 255
name_short n e = grind (arith, nat_tests)

pub frames_text_snoc : (fs : Frames) (f : ℕ × Option (List ℕ)) → frames_text (fs ++ f ∷ []) ≡ frames_text fs + frame_text f.1
frames_text_snoc [] f = omega arith
frames_text_snoc (g ∷ fs) f = omega (arith, frames_text_snoc fs f)

-- the text of the path that came last
pub last_path_text : (p : Names) (fs : Frames) → length (text_below (last_path p fs)) ≡ length (text_below p) + frames_text fs
last_path_text p [] = omega arith
last_path_text p ((k, None) ∷ fs) = omega (arith, last_path_text p fs)
last_path_text p ((k, Some n) ∷ fs) = omega (arith, last_path_text (p ++ n ∷ []) fs, text_below_push_length p n)

pub text_entered : (gs : Frames) (t : Target) → frames_text (gs ++ frame_of t) ≡ frames_text gs
text_entered gs Whiteout = ap frames_text (append-nil gs)
text_entered gs (Inode_ c) = omega (arith, frames_text_snoc gs (c, None))
