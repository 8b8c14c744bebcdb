-- Steps that the walks share. Assumes `Logic`.
use Rattle.std.proofs.Common.{◌≡◌, ℕ, List, [], ◌∷◌, ◌++◌, refl, subst, ap, ◌∙◌}
use mathlib.Core.Bool.{◌&&◌, true}
use seplogic.Ra.Ura.{Ura}
use lib.Dec.{T}
use mir.Syntax.{Body, Dict, Ty, ty_struct, impl, tnil, dnil}
use mir.Raw.{raw as bare}
use mir.Val.{Val, vptr, vstruct, vcons, vnil, vbool, of_list, has_ty, WT}
use base.Fml.{ftrue}
use base.Logic.{never, fst∗}
use types.Logic.{Logic, sem}
use types.Match.{live}
use types.Kit.{post}
use prog.Wp.{Wp}
use prog.Wp.{after_seq}
use types.Kit.{any_q}
use types.Kit.{Post}
use prog.Wp.{Env}
use prog.Wp.{Loops}
use prog.Wp.{Calls}
use types.Kit.{Item, Goal, Seq, Step, step, ‵, ◌$◌, move, drop, fsplit, fjoin, fpick, fpack, feq_i, feq_l}
use contract.Running.{Running, tables}
use prog.Model.{Model}
use sound.WpLaws.{FmC}
use denote.Builtin.{RawPtr, bool}
use denote.Memory.{lone}
use denote.RawPtr.{Ptr, block_ptr, null_ptr, ptr_val, in_a_block}
use denote.RattleType.{RattleType, Valss}
use denote.Steps.{nothing, only}
use denote.Struct.Struct.{within}
use denote.Struct.Owning.{shape}
use denote.Triple.Table.{framed}
use denote.Param.{layout}
use denote.Exit.{no}
use denote.Param.Laws.{Laws, arg_laws}
use Rattle.std.proofs.marker.Brand.TheLaws.{the_row_laws as brand_laws}
use Rattle.std.specs.contracts.marker.Brand as brand
use Rattle.snap_c.specs.Owned.{name_row, handle_owns}
use Rattle.std.specs.declared.alloc.Allocator.{Ghosts}
use Rattle.std.specs.Box.Ownership.{box_owns}
use Rattle.std.proofs.alloc.Calls.{Al, handle_tells}
use Rattle.std.proofs.ResultValues.{and_tt}
use Rattle.std.specs.contracts.option.Option as option
use Rattle.std.specs.declared.option.Option.{Option}
use Rattle.std.specs.declared.option.Option.TheVariants.{None, Some}
use Rattle.snap_c.specs.contracts.loose.Loose as loose
use Rattle.snap_c.specs.declared.handle.Handle.{Handle}
use Rattle.snap_c.specs.contracts.handle.Handle as handle
use Rattle.snap_c.proofs.handle.Handle.TheLaws.{lowered}

-- a machine value is of this type
abbrev pub Good : Ty → Val → Type 0
Good τ v = T (has_ty τ v) × WT v

-- a name's type is one that a generic function takes
pub name_laws : Laws name_row
name_laws = arg_laws (ty_struct [] tnil) no brand.the_row brand_laws refl

-- a name has no functions
abbrev pub name_dict : Dict
name_dict = impl [] tnil dnil

-- a call keeps what its caller does not hand to it
module _ {M : Type 1} {𝓤 : Ura M} (𝓛 : Logic 𝓤) (𝓜 : Model 𝓤 𝓛.H) (𝓡 : Running 𝓤 𝓛.H 𝓜) where
  pub fm : FmC 𝓤 𝓛.H 𝓛.laws (tables 𝓤 𝓛.H 𝓜 𝓡 𝓡.env).C
  fm f = framed 𝓤 𝓛.H 𝓜 (tables 𝓤 𝓛.H 𝓜 𝓡 𝓡.env) f

-- what is owned of a value is one machine value, of its type
module _ (R : RattleType) (L : Laws R) {M : Type 1} {𝓤 : Ura M} {𝓛 : Logic 𝓤} {K : Type 0} {Γ : List (Item 𝓤)} {G : Goal 𝓤 𝓛.H} where
  pub tells : K → (x : R.Denot) (vs : List Val) → ((v : Val) → vs ≡ v ∷ [] → Good (layout R) v → Seq K 𝓛 (‵ (R.own_val x (v ∷ [])) ∷ Γ) G) → Seq K 𝓛 (‵ (R.own_val x vs) ∷ Γ) G
  tells = handle_tells (record { row = R; laws = L; g = record { dealloc_token = λ a σ p. ftrue }; d = impl [] tnil dnil; drops = impl [] tnil dnil })

-- the machine value of two
abbrev pub both : Val → Val → Val
both v w = vstruct (vcons v (vcons w vnil))

-- a loose box by value is [the block; the handle]
module _ (R Z : RattleType) (L : Laws Z) (g : Ghosts Z.Denot) where
  abbrev pub Loose : RattleType
  Loose = loose.the_row R Z g

  abbrev al : Al
  al = record { row = Z; laws = L; g = g; d = impl [] tnil dnil; drops = impl [] tnil dnil }

  pub loose_good : (b o : ℕ) (h : Val) → Good (layout Z) h → T (has_ty (layout Z) h && true) × WT (both (vptr b o) h)
  loose_good b o h fits = (and_tt (has_ty (layout Z) h) fits.0, (tt, (fits.1, tt)))

  module _ {M : Type 1} {𝓤 : Ura M} {𝓛 : Logic 𝓤} {K : Type 0} {Γ : List (Item 𝓤)} {G : Goal 𝓤 𝓛.H} where
    pub loose_out : K → (d : Loose.Denot) (vs : List Val)
        → ((b o : ℕ) (h : Val) → d.at ≡ block_ptr b o → vs ≡ both (vptr b o) h ∷ [] → Good (layout Z) h → Seq K 𝓛 (‵ (box_owns (g.dealloc_token d.alloc) R (block_ptr b o) d.value) ∷ ‵ (Z.own_val d.alloc (h ∷ [])) ∷ Γ) G)
        → Seq K 𝓛 (‵ (Loose.own_val d vs) ∷ Γ) G
    loose_out t d vs k =
        fsplit t $ fpick t (λ vss. fsplit t $ feq_l t (λ ev. fsplit t $ feq_l t (λ ep. fsplit t $ handle_tells al t d.alloc vss.1.0 (λ h ea fits. move t (1 ∷ []) $ drop t $ move t (1 ∷ []) $
        in_a_block t d.at (λ p. box_owns (g.dealloc_token d.alloc) R p d.value) (fst∗ 𝓤 (never 𝓤) (sem 𝓛 (g.dealloc_token d.alloc (bare (lone R.mir)) null_ptr))) (λ b o e. k b o h e
        (subst (λ (p : Ptr). vs ≡ vstruct (of_list (ptr_val p ∷ h ∷ [])) ∷ []) e
        (subst (λ (ws : List Val). vs ≡ vstruct (of_list (ptr_val d.at ∷ (ws ++ []))) ∷ []) ea (subst (λ (ps : List Val). vs ≡ vstruct (of_list (ps ++ (vss.1.0 ++ []))) ∷ []) ep ev))) fits)))))

    pub loose_in : K → (b o : ℕ) (h : Val) (a : Z.Denot) (x : R.Denot)
        → Step K 𝓛 (‵ (Loose.own_val (record { at = block_ptr b o; alloc = a; value = x }) (both (vptr b o) h ∷ [])) ∷ Γ) G (‵ (box_owns (g.dealloc_token a) R (block_ptr b o) x) ∷ ‵ (Z.own_val a (h ∷ [])) ∷ Γ) G
    loose_in t b o h a x = step (λ s. let v : Val = both (vptr b o) h in
        nothing t $ move t (2 ∷ 0 ∷ []) $ fjoin t $ feq_i t (List Val) (vptr b o ∷ []) (vptr b o ∷ []) refl $ fjoin t $ feq_i t (List Val) (v ∷ []) (v ∷ []) refl $ fjoin t $
        fpack t (Valss (RawPtr ∷ Z ∷ [])) (within (shape (loose.the_type R Z g)) (block_ptr b o, (a, tt)) (v ∷ [])) (vptr b o ∷ [], (h ∷ [], tt)) $ fjoin t $ s)

-- an arm goes on with what follows its `match`
module _ {M : Type 1} {𝓤 : Ura M} (𝓛 : Logic 𝓤) where
  open 𝓛 use {H}

  abbrev pub then_runs : Calls 𝓤 H → Loops 𝓤 H → Env 𝓤 H → Body → Post 𝓤 H → Post 𝓤 H
  then_runs C Λ E b q = any_q (after_seq 𝓤 H (Wp 𝓤 H C Λ E b (post 𝓤 H q)) (post 𝓤 H q))

-- a loose box that there may be
module _ (R Z : RattleType) (L : Laws Z) (g : Ghosts Z.Denot) {M : Type 1} {𝓤 : Ura M} {𝓛 : Logic 𝓤} {K : Type 0} {Γ : List (Item 𝓤)} {G : Goal 𝓤 𝓛.H} where
  pub loose_cases : K → (r : Option (Loose R Z L g).Denot) (u : Val)
      → (r ≡ None → u ≡ live 0 vnil → Seq K 𝓛 Γ G)
      → ((d : (Loose R Z L g).Denot) (b o : ℕ) (h : Val) → r ≡ Some d → u ≡ live 1 (vcons (both (vptr b o) h) vnil) → Good (layout Z) h → Seq K 𝓛 (‵ (box_owns (g.dealloc_token d.alloc) R (block_ptr b o) d.value) ∷ ‵ (Z.own_val d.alloc (h ∷ [])) ∷ Γ) G)
      → Seq K 𝓛 (‵ ((option.the_row (Loose R Z L g)).own_val r (u ∷ [])) ∷ Γ) G
  loose_cases t None u none found = fpick t (λ us. fsplit t $ feq_l t (λ e. fpick t (λ vss. fsplit t $ feq_l t (λ e'. drop t $ none refl (ap only e ∙ ap (λ (ws : List Val). live 0 (of_list ws)) e')))))
  loose_cases t (Some d) u none found = fpick t (λ us. fsplit t $ feq_l t (λ e. fpick t (λ vss. fsplit t $ feq_l t (λ e'. fsplit t $ loose_out R Z L g t d vss.0 (λ b o h eb ew fits. move t (2 ∷ []) $ drop t $
      found d b o h refl (ap only e ∙ ap (λ (ws : List Val). live 1 (of_list ws)) (e' ∙ ap (λ (ws : List Val). ws ++ []) ew)) fits)))))

-- a handle by value
module _ {M : Type 1} {𝓤 : Ura M} {𝓛 : Logic 𝓤} {K : Type 0} {Γ : List (Item 𝓤)} {G : Goal 𝓤 𝓛.H} where
  pub handle_in : K → (d : Handle) → Step K 𝓛 (‵ ((handle.the_row).own_val d (lowered d ∷ [])) ∷ Γ) G (‵ (handle_owns d.stands d.heap d.table d.at d.value) ∷ Γ) G
  handle_in t d = step (λ s. nothing t $ feq_i t (List Val) (vbool d.stands ∷ []) (vbool d.stands ∷ []) refl $ fjoin t $ feq_i t (List Val) (ptr_val d.at ∷ []) (ptr_val d.at ∷ []) refl $ fjoin t $
      feq_i t (List Val) (lowered d ∷ []) (lowered d ∷ []) refl $ fjoin t $
      fpack t (Valss (RawPtr ∷ bool ∷ [])) (within (shape handle.the_type) (d.at, (d.stands, tt)) (lowered d ∷ [])) (ptr_val d.at ∷ [], (vbool d.stands ∷ [], tt)) $ fjoin t $ s)
