-- Each step keeps the rule of the halves.
use Rattle.std.proofs.Common.{◌≡◌, ◌≢◌, ◌⊎◌, ℕ, zero, suc, List, [], ◌∷◌, ◌++◌, length, set, true, false, true≢false, refl, sym, ap, ◌∙◌, subst, ⊎_elim, inl, inr}
use mathlib.Core.Option.{some, none, some-ne-none, some-injective}
use lib.ListN.{get_elem?}
use Rattle.atomic_table.specs.Table.{State as Views, Me, step, keeps, Allows, Splits, Joins}
use Rattle.atomic_table.proofs.Lists.{at_set, set_again, set_else}
use Rattle.snap_round.specs.declared.rule.Round.{Round}
use Rattle.snap_round.specs.declared.rule.RoundView.{RoundView}
use Rattle.snap_round.specs.Rounds.{whole_round, inner, outer, neither, inner_of, outer_of, joined_rounds, RoundsAgree, AllRoundsAgree, RoundChecked, RoundSetTo}

off : false ≡ true → ⊥
off e = true≢false (sym e)

-- ---- lists

-- where an element of a longer list stands
at_snoc : (l : List RoundView) (a b : RoundView) (j : ℕ) → get_elem? (l ++ a ∷ []) j ≡ some b → (get_elem? l j ≡ some b) ⊎ ((j ≡ length l) × (a ≡ b))
at_snoc [] a b zero e = inr (refl, some-injective a b e)
at_snoc [] a b (suc j) e = absurd (some-ne-none b (sym e))
at_snoc (x ∷ xs) a b zero e = inl e
at_snoc (x ∷ xs) a b (suc j) e = ⊎_elim (λ h. inl h) (λ (h : (j ≡ length xs) × (a ≡ b)). inr (ap suc h.0, h.1)) (at_snoc xs a b j e)

set_swap : (l : List RoundView) (i j : ℕ) (a b : RoundView) → i ≢ j → set (set l j b) i a ≡ set (set l i a) j b
set_swap [] i j a b ne = refl
set_swap (x ∷ xs) zero zero a b ne = absurd (ne refl)
set_swap (x ∷ xs) zero (suc j) a b ne = refl
set_swap (x ∷ xs) (suc i) zero a b ne = refl
set_swap (x ∷ xs) (suc i) (suc j) a b ne = ap (λ l. x ∷ l) (set_swap xs i j a b (λ e. ne (ap suc e)))

-- two views agree, in either order
abbrev Apart : RoundView → RoundView → Type 0
Apart v w = RoundsAgree v w × RoundsAgree w v

abbrev IsSound : RoundView → Type 0
IsSound v = v.met ≡ v.round

apart_in : (views : List RoundView) (i j : ℕ) (v w : RoundView) → AllRoundsAgree views → j ≢ i → get_elem? views i ≡ some v → get_elem? views j ≡ some w → Apart v w
apart_in views i j v w all ne here there = (all.two i j v w (λ e. ne (sym e)) here there, all.two j i w v ne there here)

-- another view at a place, that agrees with those at all other places
set_keeps : (views : List RoundView) (at : ℕ) (x : RoundView) → AllRoundsAgree views → IsSound x → ((j : ℕ) (u : RoundView) → j ≢ at → get_elem? views j ≡ some u → Apart x u) → AllRoundsAgree (set views at x)
set_keeps views at x all sound apart = record { each = each; two = two }
  where
    each : (i : ℕ) (w : RoundView) → get_elem? (set views at x) i ≡ some w → IsSound w
    each i w e = ⊎_elim (λ (h : (i ≡ at) × (x ≡ w)). subst IsSound h.1 sound) (λ (h : (i ≢ at) × (get_elem? views i ≡ some w)). all.each i w h.1) (at_set views at i x w e)

    two : (i j : ℕ) (u w : RoundView) → i ≢ j → get_elem? (set views at x) i ≡ some u → get_elem? (set views at x) j ≡ some w → RoundsAgree u w
    two i j u w ne e f =
        ⊎_elim
        (λ (h : (i ≡ at) × (x ≡ u)).
        ⊎_elim
        (λ (k : (j ≡ at) × (x ≡ w)). absurd (ne (h.0 ∙ sym k.0)))
        (λ (k : (j ≢ at) × (get_elem? views j ≡ some w)). subst (λ y. RoundsAgree y w) h.1 (apart j w k.0 k.1).0)
        (at_set views at j x w f))
        (λ (h : (i ≢ at) × (get_elem? views i ≡ some u)).
        ⊎_elim
        (λ (k : (j ≡ at) × (x ≡ w)). subst (λ y. RoundsAgree u y) k.1 (apart i u h.0 h.1).1)
        (λ (k : (j ≢ at) × (get_elem? views j ≡ some w)). all.two i j u w ne h.1 k.1)
        (at_set views at j x w f))
        (at_set views at i x u e)

-- one view more, that agrees with all others
snoc_keeps : (views : List RoundView) (y : RoundView) → AllRoundsAgree views → IsSound y → ((j : ℕ) (u : RoundView) → get_elem? views j ≡ some u → Apart y u) → AllRoundsAgree (views ++ y ∷ [])
snoc_keeps views y all sound apart = record { each = each; two = two }
  where
    each : (i : ℕ) (w : RoundView) → get_elem? (views ++ y ∷ []) i ≡ some w → IsSound w
    each i w e = ⊎_elim (λ (h : get_elem? views i ≡ some w). all.each i w h) (λ (h : (i ≡ length views) × (y ≡ w)). subst IsSound h.1 sound) (at_snoc views y w i e)

    two : (i j : ℕ) (u w : RoundView) → i ≢ j → get_elem? (views ++ y ∷ []) i ≡ some u → get_elem? (views ++ y ∷ []) j ≡ some w → RoundsAgree u w
    two i j u w ne e f =
        ⊎_elim
        (λ (h : get_elem? views i ≡ some u).
        ⊎_elim
        (λ (k : get_elem? views j ≡ some w). all.two i j u w ne h k)
        (λ (k : (j ≡ length views) × (y ≡ w)). subst (λ z. RoundsAgree u z) k.1 (apart i u h).1)
        (at_snoc views y w j f))
        (λ (h : (i ≡ length views) × (y ≡ u)).
        ⊎_elim
        (λ (k : get_elem? views j ≡ some w). subst (λ z. RoundsAgree z w) h.1 (apart j w k).0)
        (λ (k : (j ≡ length views) × (y ≡ w)). absurd (ne (h.0 ∙ sym k.0)))
        (at_snoc views y w j f))
        (at_snoc views y u i e)

-- ---- views that agree

neither_apart : (u : RoundView) → Apart neither u
neither_apart u = (
  record { one_inner = λ p q. off p; one_outer = λ p q. off p; same = λ p q. absurd (off p) },
  record { one_inner = λ p q. off q; one_outer = λ p q. off q; same = λ p q. absurd (off q) },
)

inner_outer : (o : Round) → Apart (inner o) (outer o)
inner_outer o = (
  record { one_inner = λ p q. off q; one_outer = λ p q. off p; same = λ p q. refl },
  record { one_inner = λ p q. off p; one_outer = λ p q. off q; same = λ p q. absurd (off p) },
)

-- each half claims no more than both together
outer_apart : (o : Round) (u : RoundView) → Apart (whole_round o) u → Apart (outer o) u
outer_apart o u a = (
  record { one_inner = λ p q. off p; one_outer = a.0.one_outer; same = λ p q. absurd (off p) },
  record { one_inner = λ p q. off q; one_outer = a.1.one_outer; same = a.1.same },
)

inner_apart : (o : Round) (u : RoundView) → Apart (whole_round o) u → Apart (inner o) u
inner_apart o u a = (
  record { one_inner = a.0.one_inner; one_outer = λ p q. off p; same = a.0.same },
  record { one_inner = a.1.one_inner; one_outer = λ p q. off q; same = λ p q. absurd (off q) },
)

-- beside both halves no other is left, so they agree with the rest at any round
whole_apart : (met now : Round) (u : RoundView) → (u.inner ≡ true → ⊥) → (u.outer ≡ true → ⊥) → Apart (record { inner = true; outer = true; round = now; met = met }) u
whole_apart met now u no_inner no_outer = (
  record { one_inner = λ p q. no_inner q; one_outer = λ p q. no_outer q; same = λ p q. absurd (no_outer q) },
  record { one_inner = λ p q. no_inner p; one_outer = λ p q. no_outer p; same = λ p q. absurd (no_inner p) },
)

-- ---- the steps

splits : (id : ℕ) (o : Round) → Splits (λ (s : Views Unit RoundView). AllRoundsAgree s.views) id (whole_round o) (outer_of (whole_round o)) (inner_of (whole_round o))
splits id o s all here =
    snoc_keeps (set s.views id (outer o)) (inner o) (set_keeps s.views id (outer o) all refl (λ j u ne e. outer_apart o u (apart_in s.views id j (whole_round o) u all ne here e))) refl
    (λ j u e. ⊎_elim
    (λ (h : (j ≡ id) × (outer o ≡ u)). subst (Apart (inner o)) h.1 (inner_outer o))
    (λ (h : (j ≢ id) × (get_elem? s.views j ≡ some u)). inner_apart o u (apart_in s.views id j (whole_round o) u all h.0 here h.1))
    (at_set s.views id j (outer o) u e))

-- the half beside the lock takes in the one that was under it
joins : (id other : ℕ) (a b : Round) → Joins (λ (s : Views Unit RoundView). AllRoundsAgree s.views) id (outer a) other (inner b) (joined_rounds (outer a) (inner b)) neither
joins id other a b s all here ne there =
    subst AllRoundsAgree (set_swap s.views id other (joined_rounds (outer a) (inner b)) neither (λ e. ne (sym e)))
    (set_keeps (set s.views other neither) id (joined_rounds (outer a) (inner b)) alone met rest)
  where
    was : get_elem? s.views other ≡ some (inner b)
    was = sym (set_else s.views id other (joined_rounds (outer a) (inner b)) ne) ∙ there

    alone : AllRoundsAgree (set s.views other neither)
    alone = set_keeps s.views other neither all refl (λ j u ne e. neither_apart u)

    met : b ≡ a
    met = (all.two other id (inner b) (outer a) ne was here).same refl refl

    rest : (j : ℕ) (u : RoundView) → j ≢ id → get_elem? (set s.views other neither) j ≡ some u → Apart (joined_rounds (outer a) (inner b)) u
    rest j u apart e =
        ⊎_elim
        (λ (h : (j ≡ other) × (neither ≡ u)). subst (Apart (joined_rounds (outer a) (inner b))) h.1 ((neither_apart (joined_rounds (outer a) (inner b))).1, (neither_apart (joined_rounds (outer a) (inner b))).0))
        (λ (h : (j ≢ other) × (get_elem? s.views j ≡ some u)).
        whole_apart b a u (λ k. (all.two other j (inner b) u (λ q. h.0 (sym q)) was h.1).one_inner refl k) (λ t. (all.two id j (outer a) u (λ q. apart (sym q)) here h.1).one_outer refl t))
        (at_set s.views other j neither u e)

sets : (slots id : ℕ) (was now : Round) (carried : List (ℕ × Unit)) (word x y : ℕ) (f : ℕ → ℕ) → Allows (λ (s : Views Unit RoundView). AllRoundsAgree s.views) slots id (whole_round was, carried) word f (λ n. RoundSetTo now (step slots word x y none) (whole_round was, carried) n)
sets slots id was now carried word x y f s all count here small =
    (whole_round now, keeps, tt, set_keeps s.views id (whole_round now) all refl (λ j u ne e. let a = apart_in s.views id j (whole_round was) u all ne here e in whole_apart now now u (λ k. a.0.one_inner refl k) (λ t. a.0.one_outer refl t)), refl)

checks : (slots id : ℕ) (v : RoundView) (carried : List (ℕ × Unit)) (word : ℕ) → Allows (λ (s : Views Unit RoundView). AllRoundsAgree s.views) slots id (v, carried) word (λ n. n) (RoundChecked (step slots word 0 0 none) (v, carried))
checks slots id v carried word s all count here small =
    (v, keeps, tt, subst AllRoundsAgree (sym (set_again s.views id v here)) all, (refl, all.each id v here))

-- ---- the same at seats that are known to have these views

pub splits_as : (id : ℕ) (v : RoundView) (o : Round) → v ≡ whole_round o → Splits (λ (s : Views Unit RoundView). AllRoundsAgree s.views) id v (outer_of v) (inner_of v)
splits_as id v o e = subst (λ (v : RoundView). Splits (λ (s : Views Unit RoundView). AllRoundsAgree s.views) id v (outer_of v) (inner_of v)) (sym e) (splits id o)

pub joins_as : (id other : ℕ) (v w : RoundView) (a b : Round) → v ≡ outer a → w ≡ inner b → Joins (λ (s : Views Unit RoundView). AllRoundsAgree s.views) id v other w (joined_rounds v w) neither
joins_as id other v w a b e f =
    subst (λ (v : RoundView). Joins (λ (s : Views Unit RoundView). AllRoundsAgree s.views) id v other w (joined_rounds v w) neither) (sym e)
    (subst (λ (w : RoundView). Joins (λ (s : Views Unit RoundView). AllRoundsAgree s.views) id (outer a) other w (joined_rounds (outer a) w) neither) (sym f) (joins id other a b))

pub sets_as : (slots id : ℕ) (me : Me Unit RoundView) (was now : Round) (word x y : ℕ) (f : ℕ → ℕ) → me.0 ≡ whole_round was → Allows (λ (s : Views Unit RoundView). AllRoundsAgree s.views) slots id me word f (λ n. RoundSetTo now (step slots word x y none) me n)
sets_as slots id me was now word x y f e =
    subst (λ (v : RoundView). Allows (λ (s : Views Unit RoundView). AllRoundsAgree s.views) slots id (v, me.1) word f (λ n. RoundSetTo now (step slots word x y none) (v, me.1) n)) (sym e) (sets slots id was now me.1 word x y f)

pub checks_as : (slots id : ℕ) (me : Me Unit RoundView) (word : ℕ) → Allows (λ (s : Views Unit RoundView). AllRoundsAgree s.views) slots id me word (λ n. n) (RoundChecked (step slots word 0 0 none) me)
checks_as slots id me word = checks slots id me.0 me.1 word
