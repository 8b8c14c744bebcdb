use Rattle.std.proofs.Common.{◌≡◌, ◌-◌, [], ◌∷◌, length, Some, None, OnOk, refl, sym, ap, ap₂, ◌∙◌, subst, arith}
use Rattle.std.proofs.lemmas.Result.{on_err_weaker}
use Rattle.json.specs.Token.{Token}
use Rattle.json.specs.Json.{parse_map, after_end_array, read_key, items, members, value}
use Rattle.json.specs.Reads.{token_of}
use Rattle.json.proofs.Grammar.{value_is, value-begin_array, value-begin_object, read_key-shorter, left_some, left-parse_map}
use Rattle.serde_json.specs.Data.{array, object, item, no_members, put}
use Rattle.serde_json.specs.Read.{of_json, of_items, of_members, converted}
use Rattle.snap_json.specs.Objects.{rest_of}
use Rattle.snap_json.proofs.Reading.{converted-array, converted-object, item_read, item_refused, items_over, member_read, member_refused, key_refused, members_over, none_before, parse_map-twice, on_err}
use Rattle.snap_json.proofs.read.+check.Goals as goal

pub check-returns-then-depth-eq0-clause-not_json : goal.check-returns-then-depth-eq0-clause-not_json
unfolding value
check-returns-then-depth-eq0-clause-not_json t c =
    let none : c.args.depth ≡ 0 = omega arith in
    ap (converted of_json) (ap₂ value none (ap (λ k. token_of k ∷ c.args.reader.now) c.in-BeginArray.is))

pub check-returns-then-depth-eq0-2-clause-not_json : goal.check-returns-then-depth-eq0-2-clause-not_json
unfolding value
check-returns-then-depth-eq0-2-clause-not_json t c =
    let none : c.args.depth ≡ 0 = omega arith in
    ap (converted of_json) (ap₂ value none (ap (λ k. token_of k ∷ c.args.reader.now) c.in-BeginObject.is))

pub check-returns-in-String-clause-ok : goal.check-returns-in-String-clause-ok
check-returns-in-String-clause-ok t c = rw (value_is c.args.depth (token_of c.args.token ∷ c.args.reader.now)) (grind arith)

pub check-returns-in-Some-clause-ok : goal.check-returns-in-Some-clause-ok
check-returns-in-Some-clause-ok t c =
    let is : token_of c.args.token ∷ c.args.reader.now ≡ Token.number c.in-Number.text.now ∷ c.args.reader.now = grind arith in
    ap (λ o. rest_of (converted of_json o)) (ap (value c.args.depth) is ∙ value_is c.args.depth _) ∙ rw (← c.in-Some.ensures)

pub check-returns-in-None-clause-not_json : goal.check-returns-in-None-clause-not_json
check-returns-in-None-clause-not_json t c =
    let is : token_of c.args.token ∷ c.args.reader.now ≡ Token.number c.in-Number.text.now ∷ c.args.reader.now = grind arith in
    ap (converted of_json) (ap (value c.args.depth) is ∙ value_is c.args.depth _) ∙ rw (← c.in-None.ensures)

pub check-returns-in-EndObject-clause-not_json : goal.check-returns-in-EndObject-clause-not_json
check-returns-in-EndObject-clause-not_json t c =
    let none : value c.args.depth (token_of c.args.token ∷ c.args.reader.now) ≡ None = rw (value_is c.args.depth (token_of c.args.token ∷ c.args.reader.now)) (grind arith) in
    ap (converted of_json) none

pub check-returns-else-depth-eq0-clause-ok : goal.check-returns-else-depth-eq0-clause-ok
check-returns-else-depth-eq0-clause-ok t c =
    let all = items (value (c.args.depth - 1)) (length c.args.reader.now) c.args.reader.now in
    let opened = ap (converted of_json) (ap (λ k. value c.args.depth (token_of k ∷ c.args.reader.now)) c.in-BeginArray.is ∙ value-begin_array c.args.depth c.args.reader.now (omega arith)) ∙ converted-array all in
    let rest = ap rest_of opened ∙ left-parse_map array (converted of_items all) in
    subst (λ r. OnOk c.check_items.result (r ≡ Some c.check_items.new.reader)) (sym rest) c.check_items.ensures.ok

pub check-returns-else-depth-eq0-clause-not_json : goal.check-returns-else-depth-eq0-clause-not_json
check-returns-else-depth-eq0-clause-not_json t c =
    let all = items (value (c.args.depth - 1)) (length c.args.reader.now) c.args.reader.now in
    let opened = ap (converted of_json) (ap (λ k. value c.args.depth (token_of k ∷ c.args.reader.now)) c.in-BeginArray.is ∙ value-begin_array c.args.depth c.args.reader.now (omega arith)) ∙ converted-array all in
    on_err_weaker c.check_items.result (λ none. opened ∙ ap (parse_map array) none) c.check_items.ensures.not_json

pub check-returns-else-depth-eq0-2-clause-ok : goal.check-returns-else-depth-eq0-2-clause-ok
check-returns-else-depth-eq0-2-clause-ok t c =
    let all = members (value (c.args.depth - 1)) (length c.args.reader.now) c.args.reader.now in
    let opened = ap (converted of_json) (ap (λ k. value c.args.depth (token_of k ∷ c.args.reader.now)) c.in-BeginObject.is ∙ value-begin_object c.args.depth c.args.reader.now (omega arith)) ∙ converted-object all in
    let rest = ap rest_of opened ∙ left-parse_map object (converted (λ ms. of_members ms no_members) all) in
    subst (λ r. OnOk c.check_members.result (r ≡ Some c.check_members.new.reader)) (sym rest) c.check_members.ensures.ok

pub check-returns-else-depth-eq0-2-clause-not_json : goal.check-returns-else-depth-eq0-2-clause-not_json
check-returns-else-depth-eq0-2-clause-not_json t c =
    let all = members (value (c.args.depth - 1)) (length c.args.reader.now) c.args.reader.now in
    let opened = ap (converted of_json) (ap (λ k. value c.args.depth (token_of k ∷ c.args.reader.now)) c.in-BeginObject.is ∙ value-begin_object c.args.depth c.args.reader.now (omega arith)) ∙ converted-object all in
    on_err_weaker c.check_members.result (λ none. opened ∙ ap (parse_map object) none) c.check_members.ensures.not_json

pub check_items-items-init : goal.check_items-items-init
check_items-items-init t c =
    (length c.args.reader.now, omega arith, λ ds. ds, none_before (converted of_items (items (value c.args.depth) (length c.args.reader.now) c.args.reader.now)), omega arith)

pub check_items-returns-in_default-clause-not_json : goal.check_items-returns-in_default-clause-not_json
check_items-returns-in_default-clause-not_json t c =
    let p = value c.args.depth in
    let l = c.items in
    let n = l.invariant.0 in
    let going : (after_end_array l.reader ≡ None) × (c.take_end_array.new.self ≡ l.reader) = grind arith in
    let empty : l.reader ≡ [] = grind arith in
    l.invariant.3 ∙ ap (parse_map l.invariant.2) (item_refused p n l.reader going.0 (ap (converted of_json) (ap p empty ∙ value_is c.args.depth [])))

pub check_items-items-preserved : goal.check_items-items-preserved
check_items-items-preserved t c =
    let p = value c.args.depth in
    let l = c.items in
    let n = l.invariant.0 in
    let going : (after_end_array l.reader ≡ None) × (c.take_end_array.new.self ≡ l.reader) = grind arith in
    let first : l.reader ≡ token_of c.in-Some.token ∷ c.next.new.self = grind arith in
    let done = c.in_ok-check.ensures in
    let r = c.check.new.reader in
    let one = left_some (converted of_json (p (token_of c.in-Some.token ∷ c.next.new.self))) r done.ok in
    let shorter = done.shorter in
    let longer = ap length first in
    let turn = item_read p n l.reader r one.0 (omega (arith, l.invariant.1, longer)) going.0 (ap (λ ts. converted of_json (p ts)) first ∙ one.1) in (
      n - 1,
      omega (arith, l.invariant.1, shorter, longer),
      λ ds. l.invariant.2 (item one.0 ds),
      l.invariant.3 ∙ ap (parse_map l.invariant.2) turn ∙ parse_map-twice l.invariant.2 (item one.0) _,
      omega (arith, l.invariant.4, shorter, longer),
    )

pub check_items-returns-in_err-check-clause-not_json : goal.check_items-returns-in_err-check-clause-not_json
check_items-returns-in_err-check-clause-not_json t c =
    let p = value c.args.depth in
    let l = c.items in
    let n = l.invariant.0 in
    let going : (after_end_array l.reader ≡ None) × (c.take_end_array.new.self ≡ l.reader) = grind arith in
    let first : l.reader ≡ token_of c.in-Some.token ∷ c.next.new.self = grind arith in
    on_err c.from_residual.result (l.invariant.3 ∙ ap (parse_map l.invariant.2) (item_refused p n l.reader going.0 (ap (λ ts. converted of_json (p ts)) first ∙ c.in_err-check.ensures.not_json)))

pub check_items-returns-clause-ok : goal.check_items-returns-clause-ok
check_items-returns-clause-ok t c =
    let p = value c.args.depth in
    let l = c.items in
    let n = l.invariant.0 in
    let r = c.take_end_array.new.self in
    ap rest_of (l.invariant.3 ∙ ap (parse_map l.invariant.2) (items_over p n l.reader r l.invariant.1 (grind arith)))

pub check_members-members-init : goal.check_members-members-init
check_members-members-init t c = (length c.args.reader.now, omega arith, no_members, refl, omega arith)

pub check_members-returns-in_err-next_key-clause-not_json : goal.check_members-returns-in_err-next_key-clause-not_json
check_members-returns-in_err-next_key-clause-not_json t c =
    let l = c.members in
    on_err c.from_residual.result (l.invariant.3 ∙ key_refused (value c.args.depth) l.invariant.2 l.invariant.0 l.reader c.in_err-next_key.ensures.value)

pub check_members-returns-in_default-next-clause-not_json : goal.check_members-returns-in_default-next-clause-not_json
check_members-returns-in_default-next-clause-not_json t c =
    let p = value c.args.depth in
    let l = c.members in
    let k = c.in-Some.field-0.now in
    let s = c.next_key.new.self in
    let named : read_key l.reader ≡ Some (Some k, s) = grind arith in
    let empty : s ≡ [] = grind arith in
    l.invariant.3 ∙ member_refused p l.invariant.2 l.invariant.0 k l.reader s named (ap (converted of_json) (ap p empty ∙ value_is c.args.depth []))

pub check_members-members-preserved : goal.check_members-members-preserved
check_members-members-preserved t c =
    let p = value c.args.depth in
    let l = c.members in
    let n = l.invariant.0 in
    let old = l.invariant.2 in
    let k = c.in-Some.field-0.now in
    let s = c.next_key.new.self in
    let named : read_key l.reader ≡ Some (Some k, s) = grind arith in
    let first : s ≡ token_of c.in-Some-next.token ∷ c.next.new.self = grind arith in
    let done = c.in_ok-check.ensures in
    let r = c.check.new.reader in
    let one = left_some (converted of_json (p (token_of c.in-Some-next.token ∷ c.next.new.self))) r done.ok in
    let less = read_key-shorter l.reader (Some k) s named in
    let shorter = done.shorter in
    let longer = ap length first in (
      n - 1,
      omega (arith, l.invariant.1, less, shorter, longer),
      put k one.0 old,
      l.invariant.3 ∙ member_read p old n k l.reader s r one.0 (omega (arith, l.invariant.1, less)) named (ap (λ ts. converted of_json (p ts)) first ∙ one.1),
      omega (arith, l.invariant.4, less, shorter, longer),
    )

pub check_members-returns-in_err-check-clause-not_json : goal.check_members-returns-in_err-check-clause-not_json
check_members-returns-in_err-check-clause-not_json t c =
    let p = value c.args.depth in
    let l = c.members in
    let k = c.in-Some.field-0.now in
    let s = c.next_key.new.self in
    let named : read_key l.reader ≡ Some (Some k, s) = grind arith in
    let first : s ≡ token_of c.in-Some-next.token ∷ c.next.new.self = grind arith in
    on_err c.from_residual-in_err-check.result (l.invariant.3 ∙ member_refused p l.invariant.2 l.invariant.0 k l.reader s named (ap (λ ts. converted of_json (p ts)) first ∙ c.in_err-check.ensures.not_json))

pub check_members-returns-clause-ok : goal.check_members-returns-clause-ok
check_members-returns-clause-ok t c =
    let l = c.members in
    ap rest_of (l.invariant.3 ∙ members_over (value c.args.depth) l.invariant.2 l.invariant.0 l.reader c.next_key.new.self l.invariant.1 (grind arith))
