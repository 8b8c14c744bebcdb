-- Each step keeps the rule.
use Rattle.std.proofs.Common.{◌≡◌, ◌≢◌, ◌⊎◌, ℕ, zero, suc, ◌+◌, ◌<◌, ◌≤◌, List, [], ◌∷◌, ◌++◌, length, set, Bool, true, false, true≢false, refl, sym, ap, ◌∙◌, subst, ⊎_elim, inl, inr, arith}
use mathlib.Core.Option.{some, none, some-ne-none, some-injective}
use lib.ListN.{get_elem?}
use Rattle.atomic_table.specs.Table.{State, Me, step, keeps, Allows, Splits, Joins}
use Rattle.atomic_table.proofs.Lists.{at_set, set_again}
use Rattle.snap_usage.specs.declared.usage.Usage.{Usage}
use Rattle.snap_usage.specs.Counted.{no_usage}
use Rattle.snap_ledger.specs.declared.rule.Holding.{Holding}
use Rattle.snap_ledger.specs.declared.rule.HalfView.{HalfView}
use Rattle.snap_ledger.specs.Halves.{maker, maker_after, new_charge, no_holding, whole, charge_half, share_half, charge_issued, issued_share, spent_view, joined, Sound, Agree, AllAgree, Checked, SetTo}
use Rattle.snap_ledger.specs.States.{charge_view, HeldWhile, CoversOne}

off : false ≡ true → ⊥
off e = true≢false (sym e)

-- where an element of a longer list stands
at_snoc : (l : List HalfView) (a b : HalfView) (j : ℕ) → get_elem? (l ++ a ∷ []) j ≡ some b → (get_elem? l j ≡ some b) ⊎ ((j ≡ length l) × (a ≡ b))
at_snoc [] a b zero e = inr (refl, some-injective a b e)
at_snoc [] a b (suc j) e = absurd (some-ne-none b (sym e))
at_snoc (x ∷ xs) a b zero e = inl e
at_snoc (x ∷ xs) a b (suc j) e = ⊎_elim (λ h. inl h) (λ (h : (j ≡ length xs) × (a ≡ b)). inr (ap suc h.0, h.1)) (at_snoc xs a b j e)

-- x claims no more than v does, whatever the other view is
abbrev Yields : HalfView → HalfView → Type 0
Yields v x = (u : HalfView) → Agree v u → Agree u v → Agree x u × Agree u x

set_keeps : (views : List HalfView) (at : ℕ) (v x : HalfView) → AllAgree views → get_elem? views at ≡ some v → Sound x → Yields v x → AllAgree (set views at x)
set_keeps views at v x kept here sound yields = record { each = each; two = two }
  where
    each : (i : ℕ) (w : HalfView) → get_elem? (set views at x) i ≡ some w → Sound w
    each i w e = ⊎_elim (λ (h : (i ≡ at) × (x ≡ w)). subst Sound h.1 sound) (λ (h : (i ≢ at) × (get_elem? views i ≡ some w)). kept.each i w h.1) (at_set views at i x w e)

    two : (i j : ℕ) (u w : HalfView) → i ≢ j → get_elem? (set views at x) i ≡ some u → get_elem? (set views at x) j ≡ some w → Agree u w
    two i j u w ne e f =
        ⊎_elim
        (λ (h : (i ≡ at) × (x ≡ u)).
        ⊎_elim
        (λ (k : (j ≡ at) × (x ≡ w)). absurd (ne (h.0 ∙ sym k.0)))
        (λ (k : (j ≢ at) × (get_elem? views j ≡ some w)).
        let p : at ≢ j = λ q. k.0 (sym q) in
        subst (λ y. Agree y w) h.1 (yields w (kept.two at j v w p here k.1) (kept.two j at w v k.0 k.1 here)).0)
        (at_set views at j x w f))
        (λ (h : (i ≢ at) × (get_elem? views i ≡ some u)).
        ⊎_elim
        (λ (k : (j ≡ at) × (x ≡ w)).
        let p : at ≢ i = λ q. h.0 (sym q) in
        subst (λ y. Agree u y) k.1 (yields u (kept.two at i v u p here h.1) (kept.two i at u v h.0 h.1 here)).1)
        (λ (k : (j ≢ at) × (get_elem? views j ≡ some w)). kept.two i j u w ne h.1 k.1)
        (at_set views at j x w f))
        (at_set views at i x u e)

snoc_keeps : (views : List HalfView) (y : HalfView) → AllAgree views → Sound y → ((j : ℕ) (u : HalfView) → get_elem? views j ≡ some u → Agree y u × Agree u y) → AllAgree (views ++ y ∷ [])
snoc_keeps views y kept sound apart = record { each = each; two = two }
  where
    each : (i : ℕ) (w : HalfView) → get_elem? (views ++ y ∷ []) i ≡ some w → Sound w
    each i w e = ⊎_elim (λ (h : get_elem? views i ≡ some w). kept.each i w h) (λ (h : (i ≡ length views) × (y ≡ w)). subst Sound h.1 sound) (at_snoc views y w i e)

    two : (i j : ℕ) (u w : HalfView) → i ≢ j → get_elem? (views ++ y ∷ []) i ≡ some u → get_elem? (views ++ y ∷ []) j ≡ some w → Agree u w
    two i j u w ne e f =
        ⊎_elim
        (λ (h : get_elem? views i ≡ some u).
        ⊎_elim
        (λ (k : get_elem? views j ≡ some w). kept.two i j u w ne h k)
        (λ (k : (j ≡ length views) × (y ≡ w)). subst (λ z. Agree u z) k.1 (apart i u h).1)
        (at_snoc views y w j f))
        (λ (h : (i ≡ length views) × (y ≡ u)).
        ⊎_elim
        (λ (k : get_elem? views j ≡ some w). subst (λ z. Agree z w) h.1 (apart j w k).0)
        (λ (k : (j ≡ length views) × (y ≡ w)). absurd (ne (h.0 ∙ sym k.0)))
        (at_snoc views y w j f))
        (at_snoc views y u i e)

split_keeps : (views : List HalfView) (at : ℕ) (v l r : HalfView) → AllAgree views → get_elem? views at ≡ some v → Sound l → Sound r → Yields v l → Yields v r → Agree l r → Agree r l → AllAgree (set views at l ++ r ∷ [])
split_keeps views at v l r kept here sound_l sound_r yields_l yields_r lr rl =
    snoc_keeps (set views at l) r (set_keeps views at v l kept here sound_l yields_l) sound_r
    (λ j u e. ⊎_elim
    (λ (h : (j ≡ at) × (l ≡ u)). let P : HalfView → Type 0 = λ z. Agree r z × Agree z r in subst P h.1 (rl, lr))
    (λ (h : (j ≢ at) × (get_elem? views j ≡ some u)).
    let p : at ≢ j = λ q. h.0 (sym q) in
    yields_r u (kept.two at j v u p here h.1) (kept.two j at u v h.0 h.1 here))
    (at_set views at j l u e))

-- a spent view claims nothing
spent_view_yields : (w : HalfView) → Yields w spent_view
spent_view_yields w u a b = (
  record { one_maker = λ p q. off p; charge_made = λ p q. absurd (off p); share_made = λ p q. absurd (off p); one_charge = λ p q. absurd (off p); one_share = λ p q. absurd (off p); same = λ p q. absurd (off p) },
  record { one_maker = λ p q. off q; charge_made = λ p q. absurd (off q); share_made = λ p q. absurd (off q); one_charge = λ p q. absurd (off q); one_share = λ p q. absurd (off q); same = λ p q. absurd (off q) },
)

-- what both claim, the joined view claims
abbrev BothYield : HalfView → HalfView → HalfView → Type 0
BothYield v w z = (u : HalfView) → Agree v u → Agree u v → Agree w u → Agree u w → Agree z u × Agree u z

join_keeps : (views : List HalfView) (at other : ℕ) (v w z : HalfView) → AllAgree views → get_elem? views at ≡ some v → ¬ (other ≡ at) → get_elem? (set views at z) other ≡ some w
    → (Agree v w → Agree w v → Sound z) → BothYield v w z → AllAgree (set (set views at z) other spent_view)
join_keeps views at other v w z kept here ne there sound yields = record { each = each; two = two }
  where
    spent : Sound spent_view
    spent = record { met = refl; single = refl }

    was : get_elem? views other ≡ some w
    was = ⊎_elim (λ (h : (other ≡ at) × (z ≡ w)). absurd (ne h.0)) (λ (h : (other ≢ at) × (get_elem? views other ≡ some w)). h.1) (at_set views at other z w there)

    vw : Agree v w
    vw = kept.two at other v w (λ q. ne (sym q)) here was

    wv : Agree w v
    wv = kept.two other at w v ne was here

    -- where an element of the new list comes from
    from : (i : ℕ) (u : HalfView) → get_elem? (set (set views at z) other spent_view) i ≡ some u → ((i ≡ other) × (spent_view ≡ u)) ⊎ (((i ≡ at) × (z ≡ u)) ⊎ (((i ≢ at) × (i ≢ other)) × (get_elem? views i ≡ some u)))
    from i u e =
        ⊎_elim
        (λ (h : (i ≡ other) × (spent_view ≡ u)). inl h)
        (λ (h : (i ≢ other) × (get_elem? (set views at z) i ≡ some u)).
        inr (⊎_elim (λ (k : (i ≡ at) × (z ≡ u)). inl k) (λ (k : (i ≢ at) × (get_elem? views i ≡ some u)). inr ((k.0, h.0), k.1)) (at_set views at i z u h.1)))
        (at_set (set views at z) other i spent_view u e)

    each : (i : ℕ) (u : HalfView) → get_elem? (set (set views at z) other spent_view) i ≡ some u → Sound u
    each i u e =
        ⊎_elim
        (λ (h : (i ≡ other) × (spent_view ≡ u)). subst Sound h.1 spent)
        (⊎_elim (λ (h : (i ≡ at) × (z ≡ u)). subst Sound h.1 (sound vw wv)) (λ (h : ((i ≢ at) × (i ≢ other)) × (get_elem? views i ≡ some u)). kept.each i u h.1))
        (from i u e)

    z_apart : (i : ℕ) (u : HalfView) → i ≢ at → i ≢ other → get_elem? views i ≡ some u → Agree z u × Agree u z
    z_apart i u p q e =
        let p' : at ≢ i = λ r. p (sym r) in
        let q' : other ≢ i = λ r. q (sym r) in
        yields u (kept.two at i v u p' here e) (kept.two i at u v p e here) (kept.two other i w u q' was e) (kept.two i other u w q e was)

    none_apart : (u : HalfView) → Agree spent_view u × Agree u spent_view
    none_apart u = (
      record { one_maker = λ p q. off p; charge_made = λ p q. absurd (off p); share_made = λ p q. absurd (off p); one_charge = λ p q. absurd (off p); one_share = λ p q. absurd (off p); same = λ p q. absurd (off p) },
      record { one_maker = λ p q. off q; charge_made = λ p q. absurd (off q); share_made = λ p q. absurd (off q); one_charge = λ p q. absurd (off q); one_share = λ p q. absurd (off q); same = λ p q. absurd (off q) },
    )

    two : (i j : ℕ) (u x : HalfView) → i ≢ j → get_elem? (set (set views at z) other spent_view) i ≡ some u → get_elem? (set (set views at z) other spent_view) j ≡ some x → Agree u x
    two i j u x apart e f =
        ⊎_elim
        (λ (h : (i ≡ other) × (spent_view ≡ u)). subst (λ y. Agree y x) h.1 (none_apart x).0)
        (⊎_elim
        (λ (h : (i ≡ at) × (z ≡ u)).
        ⊎_elim
        (λ (k : (j ≡ other) × (spent_view ≡ x)). subst (λ y. Agree u y) k.1 (none_apart u).1)
        (⊎_elim
        (λ (k : (j ≡ at) × (z ≡ x)). absurd (apart (h.0 ∙ sym k.0)))
        (λ (k : ((j ≢ at) × (j ≢ other)) × (get_elem? views j ≡ some x)). subst (λ y. Agree y x) h.1 (z_apart j x k.0.0 k.0.1 k.1).0))
        (from j x f))
        (λ (h : ((i ≢ at) × (i ≢ other)) × (get_elem? views i ≡ some u)).
        ⊎_elim
        (λ (k : (j ≡ other) × (spent_view ≡ x)). subst (λ y. Agree u y) k.1 (none_apart u).1)
        (⊎_elim
        (λ (k : (j ≡ at) × (z ≡ x)). subst (λ y. Agree u y) k.1 (z_apart i u h.0.0 h.0.1 h.1).1)
        (λ (k : ((j ≢ at) × (j ≢ other)) × (get_elem? views j ≡ some x)). kept.two i j u x apart h.1 k.1))
        (from j x f)))
        (from i u e)

-- The kinds of step.

pub makes_charge : (id n : ℕ) → Splits (λ (s : State Holding HalfView). AllAgree s.views) id (maker n) (maker_after (maker n)) (new_charge (maker n))
makes_charge id n s kept here = split_keeps s.views id (maker n) (maker (n + 1)) (whole n no_holding) kept here (record { met = refl; single = refl }) (record { met = refl; single = refl }) left right lr rl
  where
    left : Yields (maker n) (maker (n + 1))
    left u a b = (
      record { one_maker = a.one_maker; charge_made = λ p q. (let h = a.charge_made p q in omega arith); share_made = λ p q. (let h = a.share_made p q in omega arith); one_charge = λ p q. absurd (off p); one_share = λ p q. absurd (off p); same = λ p q. absurd (off p) },
      record { one_maker = b.one_maker; charge_made = λ p q. absurd (off q); share_made = λ p q. absurd (off q); one_charge = λ p q. absurd (off q); one_share = λ p q. absurd (off q); same = λ p q. absurd (off q) },
    )

    right : Yields (maker n) (whole n no_holding)
    right u a b = (
      record { one_maker = λ p q. off p; charge_made = λ p q. absurd (off p); share_made = λ p q. absurd (off p); one_charge = λ p q. (let h = a.charge_made refl q in λ e. omega arith); one_share = λ p q. (let h = a.share_made refl q in λ e. omega arith); same = λ p q e. (let h = a.share_made refl q in absurd (omega arith)) },
      record { one_maker = λ p q. off q; charge_made = λ p q. absurd (b.one_maker p refl); share_made = λ p q. absurd (b.one_maker p refl); one_charge = λ p q. (let h = a.charge_made refl p in λ e. omega arith); one_share = λ p q. (let h = a.share_made refl p in λ e. omega arith); same = λ p q e. (let h = a.charge_made refl p in absurd (omega arith)) },
    )

    lr : Agree (maker (n + 1)) (whole n no_holding)
    lr = record { one_maker = λ p q. off q; charge_made = λ p q. omega arith; share_made = λ p q. omega arith; one_charge = λ p q. absurd (off p); one_share = λ p q. absurd (off p); same = λ p q. absurd (off p) }

    rl : Agree (whole n no_holding) (maker (n + 1))
    rl = record { one_maker = λ p q. off p; charge_made = λ p q. absurd (off p); share_made = λ p q. absurd (off p); one_charge = λ p q. absurd (off q); one_share = λ p q. absurd (off q); same = λ p q. absurd (off q) }

pub gives_share : (id slot : ℕ) (holding : Holding) → Splits (λ (s : State Holding HalfView). AllAgree s.views) id (whole slot holding) (charge_issued (whole slot holding)) (issued_share (whole slot holding))
gives_share id slot holding s kept here = split_keeps s.views id (whole slot holding) (charge_half slot holding) (share_half slot holding) kept here (record { met = refl; single = refl }) (record { met = refl; single = refl }) left right lr rl
  where
    left : Yields (whole slot holding) (charge_half slot holding)
    left u a b = (
      record { one_maker = λ p q. off p; charge_made = λ p q. absurd (off p); share_made = λ p q. absurd (off p); one_charge = λ p q. a.one_charge refl q; one_share = λ p q. absurd (off p); same = λ p q. a.same refl q },
      record { one_maker = λ p q. off q; charge_made = λ p q. b.charge_made p refl; share_made = λ p q. absurd (off q); one_charge = λ p q. b.one_charge p refl; one_share = λ p q. absurd (off q); same = λ p q. absurd (off q) },
    )

    right : Yields (whole slot holding) (share_half slot holding)
    right u a b = (
      record { one_maker = λ p q. off p; charge_made = λ p q. absurd (off p); share_made = λ p q. absurd (off p); one_charge = λ p q. absurd (off p); one_share = λ p q. a.one_share refl q; same = λ p q. absurd (off p) },
      record { one_maker = λ p q. off q; charge_made = λ p q. absurd (off q); share_made = λ p q. b.share_made p refl; one_charge = λ p q. absurd (off q); one_share = λ p q. b.one_share p refl; same = λ p q. b.same p refl },
    )

    lr : Agree (charge_half slot holding) (share_half slot holding)
    lr = record { one_maker = λ p q. off p; charge_made = λ p q. absurd (off p); share_made = λ p q. absurd (off p); one_charge = λ p q. absurd (off q); one_share = λ p q. absurd (off p); same = λ p q e. refl }

    rl : Agree (share_half slot holding) (charge_half slot holding)
    rl = record { one_maker = λ p q. off p; charge_made = λ p q. absurd (off p); share_made = λ p q. absurd (off p); one_charge = λ p q. absurd (off p); one_share = λ p q. absurd (off q); same = λ p q. absurd (off p) }

-- a charge, issued or not, takes in a share of its slot
pub takes_share : (id other : ℕ) (v w : HalfView) → v.charges ≡ true → w.shares ≡ true → w.slot ≡ v.slot → Joins (λ (s : State Holding HalfView). AllAgree s.views) id v other w (joined v w) spent_view
takes_share id other v w charges shares slot s kept here ne there = join_keeps s.views id other v w (joined v w) kept here ne there sound both
  where
    -- the charge has no share joined
    unjoined : (b : Bool) → v.shares ≡ b → Agree v w → b ≡ false
    unjoined false e a = refl
    unjoined true e a = absurd (a.one_share e shares (sym slot))

    sound : Agree v w → Agree w v → Sound (joined v w)
    sound a b = record { met = a.same charges shares (sym slot); single = unjoined v.shares refl a }

    both : BothYield v w (joined v w)
    both u a b c d = (
      record { one_maker = λ p q. off p; charge_made = λ p q. absurd (off p); share_made = λ p q. absurd (off p); one_charge = λ p q. a.one_charge charges q; one_share = λ p q e. c.one_share shares q (slot ∙ e); same = λ p q. a.same charges q },
      record { one_maker = λ p q. off q; charge_made = λ p q. b.charge_made p charges; share_made = λ p q. subst (λ n. n < u.slot) slot (d.share_made p shares); one_charge = λ p q. b.one_charge p charges; one_share = λ p q e. d.one_share p shares (e ∙ sym slot); same = λ p q e. absurd (absurd_same u a c p e) },
    )
      where
        -- no other charge has this slot
        absurd_same : (u : HalfView) → Agree v u → Agree w u → u.charges ≡ true → u.slot ≡ v.slot → ⊥
        absurd_same u a c p e = a.one_charge charges p (sym e)

pub checks : (slots id : ℕ) (v : HalfView) (carried : List (ℕ × Holding)) (word : ℕ) → Allows (λ (s : State Holding HalfView). AllAgree s.views) slots id (v, carried) word (λ n. n) (Checked (step slots word 0 0 none) (v, carried))
checks slots id v carried word s kept count here small =
    (v, keeps, tt, subst AllAgree (sym (set_again s.views id v here)) kept, (refl, kept.each id v here))

pub sets : (slots id slot : ℕ) (was now : Holding) (carried : List (ℕ × Holding)) (word a b : ℕ) (f : ℕ → ℕ) → Allows (λ (s : State Holding HalfView). AllAgree s.views) slots id (whole slot was, carried) word f (λ n. SetTo (step slots word a b (some now)) (whole slot was, carried) n)
sets slots id slot was now carried word a b f s kept count here small =
    (whole slot now, keeps, tt, set_keeps s.views id (whole slot was) (whole slot now) kept here (record { met = refl; single = refl }) yields, refl)
  where
    yields : Yields (whole slot was) (whole slot now)
    yields u a b = (
      record { one_maker = λ p q. off p; charge_made = λ p q. absurd (off p); share_made = λ p q. absurd (off p); one_charge = a.one_charge; one_share = a.one_share; same = λ p q e. absurd (a.one_share refl q e) },
      record { one_maker = λ p q. off q; charge_made = b.charge_made; share_made = b.share_made; one_charge = b.one_charge; one_share = b.one_share; same = λ p q e. absurd (b.one_charge p refl e) },
    )

pub begins : AllAgree (maker 0 ∷ [])
begins = snoc_keeps [] (maker 0) nothing (record { met = refl; single = refl }) (λ j u e. absurd (some-ne-none u (sym e)))
  where
    nothing : AllAgree []
    nothing = record { each = λ i v e. absurd (some-ne-none v (sym e)); two = λ i j v w ne e f. absurd (some-ne-none v (sym e)) }

-- The same at a seat that is known to be a half's.

-- a charge that holds nothing isn't issued
pub holds_nothing : (issued : Bool) (holding : Holding) → HeldWhile issued holding → holding.usage ≡ no_usage → issued ≡ false
holds_nothing false holding held e = refl
holds_nothing true holding held e =
    let one : 1 ≤ 0 = subst (λ (u : Usage). 1 ≤ u.blocks) e held.blocks in
    absurd (omega arith)

-- an issued charge covers one
pub issued_covers : (issued : Bool) (holding : Holding) → issued ≡ true → CoversOne holding.usage → HeldWhile issued holding
issued_covers issued holding e covers = subst (λ b. HeldWhile b holding) (sym e) covers

pub unissued : (me : Me Holding HalfView) (issued : Bool) (slot : ℕ) (holding : Holding) → me ≡ (charge_view issued slot holding, []) → issued ≡ false → me ≡ (whole slot holding, [])
unissued me issued slot holding e unjoined = e ∙ ap (λ b. (charge_view b slot holding, [])) unjoined

pub gives_share_as : (id : ℕ) (me : Me Holding HalfView) (slot : ℕ) (holding : Holding) → me ≡ (whole slot holding, []) → Splits (λ (s : State Holding HalfView). AllAgree s.views) id me.0 (charge_issued me.0) (issued_share me.0)
gives_share_as id me slot holding e = subst (λ (m : Me Holding HalfView). Splits (λ (s : State Holding HalfView). AllAgree s.views) id m.0 (charge_issued m.0) (issued_share m.0)) (sym e) (gives_share id slot holding)

pub makes_charge_as : (id : ℕ) (me : Me Holding HalfView) (n : ℕ) → me ≡ (maker n, []) → Splits (λ (s : State Holding HalfView). AllAgree s.views) id me.0 (maker_after me.0) (new_charge me.0)
makes_charge_as id me n e = subst (λ (m : Me Holding HalfView). Splits (λ (s : State Holding HalfView). AllAgree s.views) id m.0 (maker_after m.0) (new_charge m.0)) (sym e) (makes_charge id n)

pub sets_as : (slots id : ℕ) (me : Me Holding HalfView) (slot : ℕ) (was now : Holding) (word a b : ℕ) (f : ℕ → ℕ) → me ≡ (whole slot was, []) → Allows (λ (s : State Holding HalfView). AllAgree s.views) slots id me word f (λ n. SetTo (step slots word a b (some now)) me n)
sets_as slots id me slot was now word a b f e = subst (λ (m : Me Holding HalfView). Allows (λ (s : State Holding HalfView). AllAgree s.views) slots id m word f (λ n. SetTo (step slots word a b (some now)) m n)) (sym e) (sets slots id slot was now [] word a b f)

is_charge : (b : Bool) (slot : ℕ) (holding : Holding) → ((charge_view b slot holding).charges ≡ true) × ((charge_view b slot holding).slot ≡ slot)
is_charge true slot holding = (refl, refl)
is_charge false slot holding = (refl, refl)

pub takes_share_as : (id other : ℕ) (me them : Me Holding HalfView) (issued : Bool) (slot slot' : ℕ) (holding holding' : Holding) → me ≡ (charge_view issued slot holding, []) → them ≡ (share_half slot' holding', []) → slot' ≡ slot
    → Joins (λ (s : State Holding HalfView). AllAgree s.views) id me.0 other them.0 (joined me.0 them.0) spent_view
takes_share_as id other me them issued slot slot' holding holding' e f same =
    let v : me.0 ≡ charge_view issued slot holding = ap (λ (m : Me Holding HalfView). m.0) e in
    let w : them.0 ≡ share_half slot' holding' = ap (λ (m : Me Holding HalfView). m.0) f in
    takes_share id other me.0 them.0
    (ap (λ (x : HalfView). x.charges) v ∙ (is_charge issued slot holding).0)
    (ap (λ (x : HalfView). x.shares) w)
    (ap (λ (x : HalfView). x.slot) w ∙ same ∙ sym (ap (λ (x : HalfView). x.slot) v ∙ (is_charge issued slot holding).1))

-- what a charge knows that took in a share
pub meets : (me them now : Me Holding HalfView) (issued : Bool) (slot slot' : ℕ) (holding holding' : Holding) → me ≡ (charge_view issued slot holding, []) → them ≡ (share_half slot' holding', []) → now ≡ (joined me.0 them.0, me.1) → Sound now.0
    → (issued ≡ true) × (holding ≡ holding') × (now ≡ (whole slot holding, []))
meets me them now issued slot slot' holding holding' e f g sound = at issued (subst (λ (m : Me Holding HalfView). Sound (joined m.0 them.0)) e shown) whole_now
  where
    shown : Sound (joined me.0 them.0)
    shown = subst Sound (ap (λ (m : Me Holding HalfView). m.0) g) sound

    whole_now : now ≡ (joined (charge_view issued slot holding) (share_half slot' holding'), [])
    whole_now = g ∙ (λ i. (joined (e i).0 (f i).0, (e i).1))

    at : (b : Bool) → Sound (joined (charge_view b slot holding) them.0) → now ≡ (joined (charge_view b slot holding) (share_half slot' holding'), []) → (b ≡ true) × (holding ≡ holding') × (now ≡ (whole slot holding, []))
    at true h n =
        let same : holding ≡ holding' = h.met ∙ ap (λ (m : Me Holding HalfView). m.0.holding) f in
        (refl, same, n ∙ (λ i. (record { makes = false; charges = true; shares = true; clashes = false; slot = slot; holding = holding; met = sym same i }, [])))
    at false h n = absurd (true≢false h.single)

pub gives_nothing : (id : ℕ) (v : HalfView) → Splits (λ (s : State Holding HalfView). AllAgree s.views) id v v spent_view
gives_nothing id v s kept here = subst (λ l. AllAgree (l ++ spent_view ∷ [])) (sym (set_again s.views id v here)) (snoc_keeps s.views spent_view kept (record { met = refl; single = refl }) (λ j u e. spent_view_apart u))
  where
    spent_view_apart : (u : HalfView) → Agree spent_view u × Agree u spent_view
    spent_view_apart u = (
      record { one_maker = λ p q. off p; charge_made = λ p q. absurd (off p); share_made = λ p q. absurd (off p); one_charge = λ p q. absurd (off p); one_share = λ p q. absurd (off p); same = λ p q. absurd (off p) },
      record { one_maker = λ p q. off q; charge_made = λ p q. absurd (off q); share_made = λ p q. absurd (off q); one_charge = λ p q. absurd (off q); one_share = λ p q. absurd (off q); same = λ p q. absurd (off q) },
    )
