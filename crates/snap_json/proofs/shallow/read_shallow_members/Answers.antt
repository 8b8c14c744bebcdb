use Rattle.std.proofs.Common.{◌≡◌, ◌-◌, ◌<◌, ◌∷◌, length, Option, Some, None, option_map, refl, sym, ap, ◌∙◌, arith}
use Rattle.json.specs.Token.{Token}
use Rattle.json.specs.Json.{parse_map, read_key, members, value}
use Rattle.json.proofs.Grammar.{read_key-shorter}
use Rattle.serde_json.specs.Data.{Data, Members, no_members, put}
use Rattle.serde_json.specs.Read.{of_json, of_members, converted}
use Rattle.snap_json.specs.Shallow.{is_one_of, value_if, shallow_members}
use Rattle.snap_json.specs.View.{view, members_view}
use Rattle.snap_json.proofs.Views.{members_push}
use Rattle.snap_json.proofs.Reading.{member_read, member_refused, key_refused, members_over}
use Rattle.snap_json.proofs.Shallows.{shallow_members-put, mapped}
use Rattle.snap_json.proofs.shallow.read_shallow_members.Goals as goal

pub members-init : goal.members-init
members-init c =
    (length c.args.reader.now, omega arith, no_members, refl, ap members_view (sym c.new-found.ensures.items))

pub returns-in_err-name-clause-not_json : goal.returns-in_err-name-clause-not_json
returns-in_err-name-clause-not_json c refused =
    let l = c.members in
    l.invariant.3 ∙ key_refused (value 126) l.invariant.2 l.invariant.0 l.reader c.in_err-name.ensures.value

pub returns-in_err-member-clause-not_json : goal.returns-in_err-member-clause-not_json
returns-in_err-member-clause-not_json c refused =
    let l = c.members in
    let k = c.in-Some.name.now in
    let s = c.next_key.new.self in
    let named : read_key l.reader ≡ Some (Some k, s) = grind arith in
    l.invariant.3 ∙ member_refused (value 126) l.invariant.2 l.invariant.0 k l.reader s named (c.read_member.ensures.not_json (grind arith))

pub members-preserved : goal.members-preserved
members-preserved c =
    let p = value 126 in
    let l = c.members in
    let n = l.invariant.0 in
    let old = l.invariant.2 in
    let whole = is_one_of c.args.whole.now in
    let k = c.in-Some.name.now in
    let s = c.next_key.new.self in
    let named : read_key l.reader ≡ Some (Some k, s) = grind arith in
    let done = c.in_ok-member.ensures in
    let v = c.in_ok-member.member in
    let r = c.read_member.new.reader in
    let one = mapped (value_if (whole k)) (converted of_json (p s)) (view v) r done.ok in
    let less = read_key-shorter l.reader (Some k) s named in
    let lesser = done.shorter in
    let inserted : put k (view v) (members_view l.found.items) ≡ members_view c.push.new.self.items = sym (ap members_view c.in_ok-push.ensures.items ∙ members_push no_members l.found.items (c.in-Some.name, v)) in (
      n - 1,
      omega (arith, l.invariant.1),
      put k one.0 old,
      l.invariant.3 ∙ member_read p old n k l.reader s r one.0 (omega (arith, l.invariant.1)) named one.1,
      shallow_members-put whole k one.0 old ∙ ap (λ d. put k d (shallow_members whole old)) one.2 ∙ ap (put k (view v)) l.invariant.4 ∙ inserted,
    )

pub returns-clause-ok : goal.returns-clause-ok
returns-clause-ok c =
    let l = c.members in
    let r = c.next_key.new.self in
    ap (parse_map (shallow_members (is_one_of c.args.whole.now))) (l.invariant.3 ∙ members_over (value 126) l.invariant.2 l.invariant.0 l.reader r l.invariant.1 (grind arith))
    ∙ ap (λ ms. Some (ms, r)) l.invariant.4
