use Rattle.std.proofs.Common.{◌≡◌, ◌&&◌, bytes_eq, eq-eqb, refl, [], ◌∷◌, ◌++◌, cond, true, true≢false, None, Some, subst, sym, ap, ◌∙◌}
use Rattle.std.specs.Map.{lookup, values_of}
use Rattle.std.specs.BTreeMap.{values}
use Rattle.std.specs.Option.{IsSome, option_copied_mut, option_to_list}
use Rattle.std.specs.Prelude.{◌==◌, Option}
use Rattle.snap_record.specs.declared.record.Record.{Record}
use Rattle.snap_call.specs.Records.{is_named, record_at}
use Rattle.snap_call.specs.Spaces.{IsOf, IsKeyed, edited_record, edited_at}
use Rattle.snap_call.proofs.Entries.{by_text, amended-none, edited-key, lookup-named, set-named, keyed-set}
use Rattle.snap_call.proofs.spaces.group.Group.edit.Goals as goal

pub returns-in_default-get_mut : goal.returns-in_default-get_mut
returns-in_default-get_mut c = λ place of.
    let es = c.self.inside.others.entries in
    let shown : values_of es ≡ c.args.self.now = ap (λ o. option_to_list o ++ values_of es) (sym c.in_default.is) ∙ c.self.view_is in
    let absent : lookup (by_text c.args.key.now) es ≡ None = sym c.get_mut.ensures.value ∙ ap option_copied_mut c.in_default-get_mut.is in
    let none : record_at place c.args.key.now (values_of es) ≡ None = sym (lookup-named place c.args.key.now es c.self.invariant.1 (subst (IsOf place) (sym shown) of)) ∙ absent in
    ap (λ l. option_to_list c.self.inside.alone ++ l) (ap values c.get_mut.follows.holds-at-none)
    ∙ ap (λ o. option_to_list o ++ values_of es) c.in_default.is
    ∙ sym (amended-none (is_named place c.args.key.now) (edited_record c.args.edit) (values_of es) none)
    ∙ ap (edited_at place c.args.key.now c.args.edit) shown

pub invariant_of-self-in_default : goal.invariant_of-self-in_default
invariant_of-self-in_default c = (
  λ some. absurd (true≢false (sym (subst (λ (o : Option Record). IsSome o) c.in_default.is some))),
  (let r = c.in-Some-get_mut.boxed.now in
      let w = c.edit.new.self in
      let es = c.self.inside.others.entries in
      let found : lookup (by_text c.args.key.now) es ≡ Some r = sym c.get_mut.ensures.value ∙ ap option_copied_mut c.in-Some-get_mut.is in
      subst IsKeyed (sym (c.get_mut.follows.holds w).0) (keyed-set (by_text c.args.key.now) es r w c.self.invariant.1 found (ap (λ (x : Record). x.key) c.edit.ensures ∙ edited-key c.args.edit r))),
)

pub returns-in_default : goal.returns-in_default
returns-in_default c = λ place of.
    let r = c.in-Some-get_mut.boxed.now in
    let w = c.edit.new.self in
    let es = c.self.inside.others.entries in
    let shown : values_of es ≡ c.args.self.now = ap (λ o. option_to_list o ++ values_of es) (sym c.in_default.is) ∙ c.self.view_is in
    let found : lookup (by_text c.args.key.now) es ≡ Some r = sym c.get_mut.ensures.value ∙ ap option_copied_mut c.in-Some-get_mut.is in
    ap (λ l. option_to_list c.self.inside.alone ++ l) (ap values_of (c.get_mut.follows.holds w).0
    ∙ set-named place c.args.key.now (edited_record c.args.edit) es r w c.self.invariant.1 (subst (IsOf place) (sym shown) of) found c.edit.ensures)
    ∙ ap (λ o. option_to_list o ++ edited_at place c.args.key.now c.args.edit (values_of es)) c.in_default.is
    ∙ ap (edited_at place c.args.key.now c.args.edit) shown

pub edit-requires : goal.edit-requires
edit-requires c =
    let place = c.requires.0 in
    let es = c.self.inside.others.entries in
    let shown : values_of es ≡ c.args.self.now = ap (λ o. option_to_list o ++ values_of es) (sym c.in_default.is) ∙ c.self.view_is in
    let found : lookup (by_text c.args.key.now) es ≡ Some c.in-Some-get_mut.boxed.now = sym c.get_mut.ensures.value ∙ ap option_copied_mut c.in-Some-get_mut.is in
    c.requires.2 c.in-Some-get_mut.boxed.now
    (ap (record_at place c.args.key.now) (sym shown) ∙ sym (lookup-named place c.args.key.now es c.self.invariant.1 (subst (IsOf place) (sym shown) c.requires.1)) ∙ found)

pub edit-requires-then-eq : goal.edit-requires-then-eq
edit-requires-then-eq c =
    let place = c.requires.0 in
    let r = c.in-Some.alone in
    let es = c.self.inside.others.entries in
    let none : values_of es ≡ [] = c.self.invariant.0 (subst (λ (o : Option Record). IsSome o) (sym c.in-Some.is) refl) in
    let shown : r ∷ [] ≡ c.args.self.now = ap (λ vs. r ∷ vs) (sym none) ∙ ap (λ o. option_to_list o ++ values_of es) (sym c.in-Some.is) ∙ c.self.view_is in
    let of : IsOf place (r ∷ []) = subst (IsOf place) (sym shown) c.requires.1 in
    let keyed : bytes_eq r.key c.args.key.now ≡ true = ap (λ k. bytes_eq k c.args.key.now) (sym (c.as_str.ensures ∙ ap (λ (x : Record). x.key) c.record.ensures)) ∙ sym c.eq.ensures ∙ c.if-eq.true in
    let named : is_named place c.args.key.now r ≡ true = ap (λ b. (r.namespace == place) && b) keyed ∙ ap (λ b. b && true) (eq-eqb r.namespace place of.0) in
    c.requires.2 r (ap (record_at place c.args.key.now) (sym shown) ∙ ap (λ b. cond b (Some r) None) named)
