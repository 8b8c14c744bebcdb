-- An entry put or taken changes what stands at its path alone.
use Rattle.std.proofs.Common.{◌≡◌, ℕ, true, false, List, [], ◌∷◌, ◌++◌, Option, Some, None, refl, sym, ap, ◌∙◌, ◌⊎◌, inl, inr, arith}
use Rattle.std.specs.Prelude.{◌==◌}
use Rattle.std.specs.Str.{bytes_eq}
use Rattle.std.proofs.lemmas.Slice.Eq.{bytes_eq-Decides}
use Rattle.std.proofs.lemmas.Bool.Decides.{nat_tests}
use Rattle.snap_path.specs.Text.{Names}
use Rattle.snap_layer.specs.declared.inode.Target.{Target}
use Rattle.snap_layer.specs.declared.inode.Target.TheVariants.{Whiteout, Inode}
use Rattle.snap_layer.specs.Walk.{Table, follow, walk, IsOpen, IsBare}

-- a walk to an inode, and on
on_follow : (e : Table) (o : Option Target) (d : ℕ) (p q : Names) → ((c : ℕ) → walk e c p ≡ Some (Inode d) → walk e c (p ++ q) ≡ walk e d q) → follow o (λ c. walk e c p) p ≡ Some (Inode d) → follow o (λ c. walk e c (p ++ q)) (p ++ q) ≡ walk e d q
on_follow e None d p q rest is = absurd (cc)
on_follow e (Some (Inode c)) d p q rest is = rest c is
on_follow e (Some Whiteout) d [] q rest is = absurd (cc)
on_follow e (Some Whiteout) d (n ∷ p) q rest is = absurd (cc)

pub walk-append : (e : Table) (c d : ℕ) (p q : Names) → walk e c p ≡ Some (Inode d) → walk e c (p ++ q) ≡ walk e d q
walk-append e c d [] q is = let same : c ≡ d = cc in ap (λ (x : ℕ). walk e x q) same
walk-append e c d (n ∷ p) q is = on_follow e (e c n) d p q (λ x h. walk-append e x d p q h) is

-- the last name's entry is what stands there
one_name : (o : Option Target) (k : ℕ → Option Target) → ((c : ℕ) → k c ≡ Some (Inode c)) → follow o k [] ≡ o
one_name None k at = refl
one_name (Some (Inode c)) k at = at c
one_name (Some Whiteout) k at = refl

pub walk_push : (e : Table) (c d : ℕ) (p : Names) (n : List ℕ) → walk e c p ≡ Some (Inode d) → walk e c (p ++ n ∷ []) ≡ e d n
walk_push e c d p n is = walk-append e c d p (n ∷ []) is ∙ one_name (e d n) (λ x. walk e x []) (λ x. refl)

-- past a bare target nothing stands
past_bare : (f : Table) (o : Option Target) (m : List ℕ) (ms : Names) → IsBare f o → follow o (λ c. walk f c (m ∷ ms)) (m ∷ ms) ≡ None
past_bare f None m ms ok = refl
past_bare f (Some Whiteout) m ms ok = refl
past_bare f (Some (Inode d)) m ms ok = ap (λ o. follow o (λ c. walk f c ms) ms) (ok m)

pub open_bare : (e : Table) (o : Option Target) → IsOpen o → IsBare e o
open_bare e None open_place = tt
open_bare e (Some Whiteout) open_place = tt
open_bare e (Some (Inode d)) open_place = absurd open_place

pub split_ℕ : (a b : ℕ) → (a ≡ b) ⊎ (a ≡ b → ⊥)
split_ℕ a b = elim (a == b) as (λ t. (a == b) ≡ t → (a ≡ b) ⊎ (a ≡ b → ⊥)) [ true ↦ λ e. inl (grind (arith, nat_tests)) | false ↦ λ e. inr (λ s. grind (arith, nat_tests)) ] refl

pub split_name : (a b : List ℕ) → (a ≡ b) ⊎ (a ≡ b → ⊥)
split_name a b = elim (bytes_eq a b) as (λ t. bytes_eq a b ≡ t → (a ≡ b) ⊎ (a ≡ b → ⊥)) [ true ↦ λ e. inl ((bytes_eq-Decides a b).0 e) | false ↦ λ e. inr (λ s. clash (sym e ∙ (bytes_eq-Decides a b).1 s)) ] refl
  where
    clash : false ≡ true → ⊥
    clash e = cc

-- where two tables agree on what follows each inode that a name leads to, they agree
pub same_follow : (o : Option Target) (j k : ℕ → Option Target) (ms : Names) → ((c : ℕ) → o ≡ Some (Inode c) → k c ≡ j c) → follow o k ms ≡ follow o j ms
same_follow None j k ms same = refl
same_follow (Some (Inode c)) j k ms same = same c refl
same_follow (Some Whiteout) j k [] same = refl
same_follow (Some Whiteout) j k (m ∷ ms) same = refl

-- where two tables agree at each step of a walk, they agree at its end
pub walk_agree : (e f : Table) (q : Names) (d : ℕ) → ((x : Names) (m : List ℕ) (y : Names) → q ≡ x ++ m ∷ y → (c : ℕ) → walk e d x ≡ Some (Inode c) → f c m ≡ e c m) → walk f d q ≡ walk e d q
walk_agree e f [] d each = refl
walk_agree e f (m ∷ ms) d each =
    ap (λ o. follow o (λ c. walk f c ms) ms) (each [] m ms refl d refl)
    ∙ same_follow (e d m) (λ c. walk e c ms) (λ c. walk f c ms) ms (λ c leads. walk_agree e f ms c (λ x k y s b to. each (m ∷ x) k y (λ i. m ∷ s i) b (ap (λ o. follow o (λ a. walk e a x) x) leads ∙ to)))

-- below a bare target nothing stands
pub walk_past : (f : Table) (root d : ℕ) (p : Names) (n : List ℕ) (m : List ℕ) (ms : Names) → walk f root p ≡ Some (Inode d) → IsBare f (f d n) → walk f root (p ++ n ∷ m ∷ ms) ≡ None
walk_past f root d p n m ms leads bare = walk_append' ∙ past_bare f (f d n) m ms bare
  where
    walk_append' : walk f root (p ++ n ∷ m ∷ ms) ≡ walk f d (n ∷ m ∷ ms)
    walk_append' = walk-append f root d p (n ∷ m ∷ ms) leads
