-- A log gives back what it was kept of.
use Rattle.std.proofs.Common.{◌≡◌, ◌⊎◌, inl, inr, ℕ, ◌≤◌, List, [], ◌∷◌, ◌++◌, length, Bool, true, false, Ok, refl, sym, ap, ◌∙◌, subst, arith, append_assoc}
use Rattle.std.specs.Prelude.{if◌then◌else◌}
use Rattle.snap_lines.specs.Effects.{Effect, Effects}
use Rattle.snap_lines.specs.Lines.{is_open, lines_of}
use Rattle.snap_lines.proofs.LineLaws.{line_split}
use Rattle.snap_durable.specs.Laws.{KeepsPart}
use Rattle.snap_durable.specs.Parts.{AreTold, IsTimely, Part, lines_added, lines_to_keep, line_read, with_mark}
use Rattle.snap_durable.specs.Serves.{Serves}
use Rattle.snap_durable.proofs.LeadLaws.{Leads, kept_are, kept_lines, leads_of, leads_split, read_again, read_open}

module _ {A P : Type 0} (effect : Effects A) (changes : A → List ℕ → Bool) (mark : A → List ℕ → List ℕ) (keeping : Bool → A → A) (settled : A → Bool) (part : A → P) (laws : KeepsPart effect changes mark keeping settled part) where
  -- lines that change something are carried out, or refused
  abbrev Is : Bool → A → Type 0
  Is k v = keeping k v ≡ v

  effect_on : (k : Bool) (v : A) (line : List ℕ) (e : Effect A) → Is k v → effect v line ≡ Ok e → effect (keeping k v) line ≡ Ok e
  effect_on k v line e is p = ap (λ x. effect x line) is ∙ p

  next_is : (k : Bool) (v : A) (line : List ℕ) (e : Effect A) → Is k v → effect v line ≡ Ok e → Is k e.value
  next_is k v line e is p = laws.stays k v line e (effect_on k v line e is p)

  pub leads_stay : (k : Bool) (lines : List (List ℕ)) (v w : A) → Is k v → Leads effect v lines w → Is k w
  leads_stay k [] v w is leads = subst (Is k) leads is
  leads_stay k (line ∷ lines) v w is (e, p, more) = leads_stay k lines e.value w (next_is k v (line_read line) e is p) more

  -- where they are refused
  refused_leads : (lines : List (List ℕ)) (v w : A) → Is false v → Leads effect v lines w → part w ≡ part v
  refused_leads [] v w is leads = ap part (sym leads)
  refused_leads (line ∷ lines) v w is (e, p, more) = refused_leads lines e.value w (next_is false v (line_read line) e is p) more ∙ laws.refused v (line_read line) e (effect_on false v (line_read line) e is p)

  -- which of some lines change something is known
  abbrev Known : A → (List ℕ → Bool) → List (List ℕ) → Type 0
  Known v told lines = (length lines ≡ 0) ⊎ (((line : List ℕ) → changes v line ≡ told line) × ((settled v ≡ true) ⊎ (length lines ≤ 1)))

  known_next : (told : List ℕ → Bool) (line : List ℕ) (lines : List (List ℕ)) (v : A) (e : Effect A) → Known v told (line ∷ lines) → effect v (line_read line) ≡ Ok e → Known e.value told lines
  known_next told line lines v e (inl none) p = absurd (omega arith)
  known_next told line lines v e (inr (same, inl is)) p = inr (λ l. laws.known v (line_read line) l e is p ∙ same l, inl (laws.settles v (line_read line) e is p))
  known_next told line lines v e (inr (same, inr few)) p = inl (omega arith)

  known_first : (told : List ℕ → Bool) (line : List ℕ) (lines : List (List ℕ)) (v : A) → Known v told (line ∷ lines) → changes v (line_read line) ≡ told (line_read line)
  known_first told line lines v (inl none) = absurd (omega arith)
  known_first told line lines v (inr (same, more)) = same (line_read line)

  -- those that change something lead to the same part as all
  kept_leads : (told : List ℕ → Bool) (lines : List (List ℕ)) (v w u z : A) → Is true v → Is true u → part v ≡ part u → Known v told lines → Leads effect v lines w → Leads effect u (kept_lines told lines) z → part w ≡ part z
  kept_leads told [] v w u z is also same known leads kept = ap part (sym leads) ∙ same ∙ ap part kept
  kept_leads told (line ∷ lines) v w u z is also same known (e, p, more) kept = by (λ v w u z. kept_leads told lines v w u z) (told r) refl kept
    where
      r : List ℕ
      r = line_read line

      next : Is true e.value
      next = next_is true v r e is p

      by : ((v w u z : A) → Is true v → Is true u → part v ≡ part u → Known v told lines → Leads effect v lines w → Leads effect u (kept_lines told lines) z → part w ≡ part z)
          → (t : Bool) → told r ≡ t → Leads effect u (if t then (r ++ 10 ∷ []) ∷ kept_lines told lines else kept_lines told lines) z → part w ≡ part z
      by next_ones true is_told (f, q, rest) =
          let q_is : effect u r ≡ Ok f = ap (λ x. effect u x) (sym (read_again line)) ∙ q in
          let alike : part e.value ≡ part f.value = laws.alike v u r e f same (effect_on true v r e is p) (effect_on true u r f also q_is) in
          next_ones e.value w f.value z next (next_is true u r f also q_is) alike (known_next told line lines v e known p) more rest
      by next_ones false is_told rest =
          let left : part e.value ≡ part v = laws.unchanged v r e (known_first told line lines v known ∙ is_told) p in
          next_ones e.value w u z next also (left ∙ same) (known_next told line lines v e known p) more rest

  known_part : (v : A) (p : Part) → IsTimely effect changes mark keeping settled v p → Known (keeping true v) (changes v) (lines_of p.whole)
  known_part v p (inl is) = inr (λ line. laws.same_changes true v line, inl (laws.same_settled true v ∙ is))
  known_part v p (inr few) = inr (λ line. laws.same_changes true v line, inr few)

  -- a line that changes nothing leads to the same part
  first_leads : (m : List ℕ) (more : List (List ℕ)) (u z : A) → changes u (line_read m) ≡ false → Is true u → Leads effect u (m ∷ more) z → (e : Effect A) × (effect u (line_read m) ≡ Ok e) × (part e.value ≡ part u) × Is true e.value × Leads effect e.value more z
  first_leads m more u z none also (e, p, rest) = (e, p, laws.unchanged u (line_read m) e none p, next_is true u (line_read m) e also p, rest)

  -- what a part's mark makes of a value; where no line was added, there is none
  abbrev Marks : A → List ℕ → A → A → Type 0
  Marks v lines x y = ((lines ≡ []) × (y ≡ x)) ⊎ ((e : Effect A) × (effect x (line_read (mark v lines ++ 10 ∷ [])) ≡ Ok e) × (y ≡ e.value))

  -- where lines are added with their mark, their own lines come first, and then this
  added_leads : (v : A) (lines more : List ℕ) (own : List (List ℕ)) (u z : A) → ((rest : List ℕ) → lines_of (lines ++ rest) ≡ own ++ lines_of rest) → Is true u → Leads effect u (lines_of (with_mark (mark v) lines ++ more)) z
      → (x y : A) × Leads effect u own x × (part y ≡ part x) × Is true y × Leads effect y (lines_of more) z × Marks v lines x y
  added_leads v [] more own u z own_are also leads =
      let cut = leads_split effect own (lines_of more) u z (subst (λ (ls : List (List ℕ)). Leads effect u ls z) (own_are more) leads) in
      (cut.0, cut.0, cut.1, refl, leads_stay true own u cut.0 also cut.1, cut.2, inl (refl, refl))
  added_leads v (b ∷ lines) more own u z own_are also leads =
      let m : List ℕ = mark v (b ∷ lines) in
      let split : lines_of (((b ∷ lines) ++ (m ++ 10 ∷ [])) ++ more) ≡ own ++ ((m ++ 10 ∷ []) ∷ lines_of more) =
      ap lines_of (append_assoc (b ∷ lines) (m ++ 10 ∷ []) more ∙ ap (λ (l : List ℕ). (b ∷ lines) ++ l) (append_assoc m (10 ∷ []) more))
      ∙ own_are (m ++ 10 ∷ more) ∙ ap (λ (ls : List (List ℕ)). own ++ ls) (line_split m more (laws.one_line v (b ∷ lines))) in
      let cut = leads_split effect own ((m ++ 10 ∷ []) ∷ lines_of more) u z (subst (λ (ls : List (List ℕ)). Leads effect u ls z) split leads) in
      let behind = first_leads (m ++ 10 ∷ []) (lines_of more) cut.0 z (laws.marks cut.0 v (b ∷ lines)) (leads_stay true own u cut.0 also cut.1) cut.2 in
      (cut.0, behind.0.value, cut.1, behind.2, behind.3, behind.4, inr (behind.0, behind.1, refl))

  -- the lines that were kept of all parts lead to the same part as all lines that were answered
  pub restarts : (parts : List Part) (v : A) (text kept : List ℕ) (w u z : A) → AreTold effect changes mark keeping settled v parts text kept w → Is true u → part v ≡ part u → Leads effect u (lines_of kept) z → part w ≡ part z
  restarts [] v text kept w u z (no_text, no_kept, led) also same leads = ap part (sym led) ∙ same ∙ ap part (subst (λ (l : List ℕ). Leads effect u (lines_of l) z) no_kept leads)
  restarts (p ∷ parts) v text kept w u z (first, rest, more, x, serves, told, text_is, kept_is, timely) also same leads = by (λ v text kept w u z. restarts parts v text kept w u z) p.is_kept refl
    where
      lines : List (List ℕ)
      lines = lines_of p.whole

      by : ((v : A) (text kept : List ℕ) (w u z : A) → AreTold effect changes mark keeping settled v parts text kept w → Is true u → part v ≡ part u → Leads effect u (lines_of kept) z → part w ≡ part z)
          → (k : Bool) → p.is_kept ≡ k → part w ≡ part z
      by later true is =
          let led : Leads effect (keeping true v) lines x = leads_of effect (keeping true v) lines first x (subst (λ (k : Bool). Serves effect (keeping k v) lines first x) is serves) in
          let kept_text : kept ≡ lines_added (changes v) (mark v) p.whole ++ more = kept_is ∙ ap (λ (k : Bool). (if k then lines_added (changes v) (mark v) p.whole else []) ++ more) is in
          let all : Leads effect u (lines_of (lines_added (changes v) (mark v) p.whole ++ more)) z = subst (λ (l : List ℕ). Leads effect u (lines_of l) z) kept_text leads in
          let cut = added_leads v (lines_to_keep (changes v) lines) more (kept_lines (changes v) lines) u z (kept_are (changes v) lines) also all in
          let here : part x ≡ part cut.0 = kept_leads (changes v) lines (keeping true v) x u cut.0 (laws.again true v) also (laws.same true v ∙ same) (known_part v p timely) led cut.2 in
          later x rest more w cut.1 z told cut.4 (here ∙ sym cut.3) cut.5
      by later false is =
          let led : Leads effect (keeping false v) lines x = leads_of effect (keeping false v) lines first x (subst (λ (k : Bool). Serves effect (keeping k v) lines first x) is serves) in
          let kept_text : kept ≡ more = kept_is ∙ ap (λ (k : Bool). (if k then lines_added (changes v) (mark v) p.whole else []) ++ more) is in
          let here : part x ≡ part u = refused_leads lines (keeping false v) x (laws.again false v) led ∙ laws.same false v ∙ same in
          later x rest more w u z told also here (subst (λ (l : List ℕ). Leads effect u (lines_of l) z) kept_text leads)

  -- what these make of a value
  abbrev pub Passes : List ℕ → A → A → Type 0
  Passes start u x = ((start ≡ []) × (u ≡ x)) ⊎ ((m : List ℕ) × (e : Effect A) × (start ≡ m ++ 10 ∷ []) × (effect u (line_read (m ++ 10 ∷ [])) ≡ Ok e) × (e.value ≡ x))

  -- ---- what is found by marks

  -- the lines that change something, without their line feeds
  abbrev pub reads : (List ℕ → Bool) → List (List ℕ) → List (List ℕ)
  reads told [] = []
  reads told (line ∷ lines) = if told (line_read line) then line_read line ∷ reads told lines else reads told lines

  abbrev pub joined : List (List ℕ) → List ℕ
  joined [] = []
  joined (r ∷ rs) = (r ++ 10 ∷ []) ++ joined rs

  kept_joined : (told : List ℕ → Bool) (lines : List (List ℕ)) → lines_to_keep told lines ≡ joined (reads told lines)
  kept_joined told [] = refl
  kept_joined told (line ∷ lines) = by (told (line_read line)) (kept_joined told lines)
    where
      by : (t : Bool) → lines_to_keep told lines ≡ joined (reads told lines) → (if t then (line_read line ++ 10 ∷ []) ++ lines_to_keep told lines else lines_to_keep told lines) ≡ joined (if t then line_read line ∷ reads told lines else reads told lines)
      by true same = ap (λ (l : List ℕ). (line_read line ++ 10 ∷ []) ++ l) same
      by false same = same

  -- lines that each change something lead from one value to the other
  abbrev pub Adds : A → List (List ℕ) → A → Type 0
  Adds u [] x = u ≡ x
  Adds u (r ∷ rs) x = (e : Effect A) × (is_open r ≡ true) × (changes u r ≡ true) × (effect u r ≡ Ok e) × Adds e.value rs x

  module _ (alike_changes : (v w : A) (line : List ℕ) → part v ≡ part w → changes v line ≡ changes w line) (Sound : A → Type 0)
      (sounds : (v u x : A) (rs : List (List ℕ)) (e : Effect A) → part v ≡ part u → Is true u → Sound u → Adds u rs x → effect x (line_read (mark v (joined rs) ++ 10 ∷ [])) ≡ Ok e → Sound e.value) where
    kept_adds : (told : List ℕ → Bool) (lines : List (List ℕ)) (v w u z : A) → Is true v → Is true u → part v ≡ part u → Known v told lines → Leads effect v lines w → Leads effect u (kept_lines told lines) z → Adds u (reads told lines) z
    kept_adds told [] v w u z is also same known leads kept = kept
    kept_adds told (line ∷ lines) v w u z is also same known (e, p, more) kept = by (λ v w u z. kept_adds told lines v w u z) (told r) refl kept
      where
        r : List ℕ
        r = line_read line

        next : Is true e.value
        next = next_is true v r e is p

        by : ((v w u z : A) → Is true v → Is true u → part v ≡ part u → Known v told lines → Leads effect v lines w → Leads effect u (kept_lines told lines) z → Adds u (reads told lines) z)
            → (t : Bool) → told r ≡ t → Leads effect u (if t then (r ++ 10 ∷ []) ∷ kept_lines told lines else kept_lines told lines) z → Adds u (if t then r ∷ reads told lines else reads told lines) z
        by next_ones true is_told (f, q, rest) =
            let q_is : effect u r ≡ Ok f = ap (λ x. effect u x) (sym (read_again line)) ∙ q in
            let alike : part e.value ≡ part f.value = laws.alike v u r e f same (effect_on true v r e is p) (effect_on true u r f also q_is) in
            let change : changes u r ≡ true = sym (alike_changes v u r same) ∙ known_first told line lines v known ∙ is_told in
            (f, read_open line, change, q_is, next_ones e.value w f.value z next (next_is true u r f also q_is) alike (known_next told line lines v e known p) more rest)
        by next_ones false is_told rest =
            let left : part e.value ≡ part v = laws.unchanged v r e (known_first told line lines v known ∙ is_told) p in
            next_ones e.value w u z next also (left ∙ same) (known_next told line lines v e known p) more rest

    -- a part's lines and its mark
    sound_next : (v u x y : A) (rs : List (List ℕ)) (lines : List ℕ) → lines ≡ joined rs → part v ≡ part u → Is true u → Sound u → Adds u rs x → Marks v lines x y → Sound y
    sound_next v u x y rs lines is same also sound adds (inr (e, p, y_is)) =
        subst Sound (sym y_is) (sounds v u x rs e same also sound adds (ap (λ (l : List ℕ). effect x (line_read (mark v l ++ 10 ∷ []))) (sym is) ∙ p))
    sound_next v u x y [] lines is same also sound adds (inl (none, y_is)) = subst Sound (adds ∙ sym y_is) sound
    sound_next v u x y ([] ∷ rs) lines is same also sound adds (inl (none, y_is)) = absurd (cc)
    sound_next v u x y ((b ∷ r) ∷ rs) lines is same also sound adds (inl (none, y_is)) = absurd (cc)

    -- the marks that were kept of all parts agree with the lines that were
    pub restarts_sound : (parts : List Part) (v : A) (text kept : List ℕ) (w u z : A) → AreTold effect changes mark keeping settled v parts text kept w → Is true u → part v ≡ part u → Sound u → Leads effect u (lines_of kept) z → Sound z
    restarts_sound [] v text kept w u z (no_text, no_kept, led) also same sound leads = subst Sound (subst (λ (l : List ℕ). Leads effect u (lines_of l) z) no_kept leads) sound
    restarts_sound (p ∷ parts) v text kept w u z (first, rest, more, x, serves, told, text_is, kept_is, timely) also same sound leads = by (λ v text kept w u z. restarts_sound parts v text kept w u z) p.is_kept refl
      where
        lines : List (List ℕ)
        lines = lines_of p.whole

        by : ((v : A) (text kept : List ℕ) (w u z : A) → AreTold effect changes mark keeping settled v parts text kept w → Is true u → part v ≡ part u → Sound u → Leads effect u (lines_of kept) z → Sound z)
            → (k : Bool) → p.is_kept ≡ k → Sound z
        by later true is =
            let led : Leads effect (keeping true v) lines x = leads_of effect (keeping true v) lines first x (subst (λ (k : Bool). Serves effect (keeping k v) lines first x) is serves) in
            let kept_text : kept ≡ lines_added (changes v) (mark v) p.whole ++ more = kept_is ∙ ap (λ (k : Bool). (if k then lines_added (changes v) (mark v) p.whole else []) ++ more) is in
            let all : Leads effect u (lines_of (lines_added (changes v) (mark v) p.whole ++ more)) z = subst (λ (l : List ℕ). Leads effect u (lines_of l) z) kept_text leads in
            let cut = added_leads v (lines_to_keep (changes v) lines) more (kept_lines (changes v) lines) u z (kept_are (changes v) lines) also all in
            let known : Known (keeping true v) (changes v) lines = known_part v p timely in
            let here : part x ≡ part cut.0 = kept_leads (changes v) lines (keeping true v) x u cut.0 (laws.again true v) also (laws.same true v ∙ same) known led cut.2 in
            let adds : Adds u (reads (changes v) lines) cut.0 = kept_adds (changes v) lines (keeping true v) x u cut.0 (laws.again true v) also (laws.same true v ∙ same) known led cut.2 in
            later x rest more w cut.1 z told cut.4 (here ∙ sym cut.3) (sound_next v u cut.0 cut.1 (reads (changes v) lines) (lines_to_keep (changes v) lines) (kept_joined (changes v) lines) same also sound adds cut.6) cut.5
        by later false is =
            let led : Leads effect (keeping false v) lines x = leads_of effect (keeping false v) lines first x (subst (λ (k : Bool). Serves effect (keeping k v) lines first x) is serves) in
            let kept_text : kept ≡ more = kept_is ∙ ap (λ (k : Bool). (if k then lines_added (changes v) (mark v) p.whole else []) ++ more) is in
            let here : part x ≡ part u = refused_leads lines (keeping false v) x (laws.again false v) led ∙ laws.same false v ∙ same in
            later x rest more w u z told also here sound (subst (λ (l : List ℕ). Leads effect u (lines_of l) z) kept_text leads)
