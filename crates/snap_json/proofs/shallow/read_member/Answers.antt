use Rattle.std.proofs.Common.{◌≡◌, [], ◌∷◌, length, Some, None, sym, ap, ◌∙◌, arith, rules}
use Rattle.json.specs.Token.{Token}
use Rattle.json.specs.Json.{parse_map, items, members, value}
use Rattle.json.specs.Reads.{token_of}
use Rattle.json.proofs.Grammar.{value_is, value-begin_array, value-begin_object}
use Rattle.serde_json.specs.Data.{null, boolean, number, string, array, object, no_members}
use Rattle.serde_json.specs.Read.{of_json, of_items, of_members, converted}
use Rattle.serde_json.specs.View.{number_view}
use Rattle.snap_json.specs.Shallow.{is_one_of, items_if, members_if, value_if}
use Rattle.snap_json.specs.View.{view}
use Rattle.snap_json.specs.declared.value.Value.{String, Number, Bool, Null, the_lemmas}
use Rattle.snap_json.proofs.Views.{view-Array, view-Object}
use Rattle.snap_json.proofs.Reading.{converted-array, converted-object}
use Rattle.snap_json.proofs.Shallows.{value_if-array, value_if-object}
use Rattle.snap_json.proofs.shallow.read_member.Goals as goal

pub returns-in_default-clause-not_json : goal.returns-in_default-clause-not_json
returns-in_default-clause-not_json c refused =
    let empty : c.args.reader.now ≡ [] = grind arith in
    ap (converted of_json) (ap (value 126) empty ∙ value_is 126 [])

pub returns-in_err-items-in-BeginArray-clause-not_json : goal.returns-in_err-items-in-BeginArray-clause-not_json
returns-in_err-items-in-BeginArray-clause-not_json c refused =
    let first : c.args.reader.now ≡ token_of c.in-Some.token ∷ c.next.new.self = grind arith in
    let opened = ap (converted of_json) (ap (value 126) (first ∙ ap (λ k. token_of k ∷ c.next.new.self) c.in-BeginArray.is) ∙ value-begin_array 126 c.next.new.self (omega arith)) ∙ converted-array (items (value 125) (length c.next.new.self) c.next.new.self) in
    opened ∙ ap (parse_map array) (c.read_items_if.ensures.not_json (grind arith))

pub returns-in_err-members-in-BeginObject-clause-not_json : goal.returns-in_err-members-in-BeginObject-clause-not_json
returns-in_err-members-in-BeginObject-clause-not_json c refused =
    let first : c.args.reader.now ≡ token_of c.in-Some.token ∷ c.next.new.self = grind arith in
    let opened = ap (converted of_json) (ap (value 126) (first ∙ ap (λ k. token_of k ∷ c.next.new.self) c.in-BeginObject.is) ∙ value-begin_object 126 c.next.new.self (omega arith)) ∙ converted-object (members (value 125) (length c.next.new.self) c.next.new.self) in
    opened ∙ ap (parse_map object) (c.read_members_if.ensures.not_json (grind arith))

pub returns-in-String-clause-ok : goal.returns-in-String-clause-ok
returns-in-String-clause-ok c =
    let first : c.args.reader.now ≡ token_of c.in-Some.token ∷ c.next.new.self = grind arith in
    let is : c.args.reader.now ≡ Token.string c.in-String.text.now ∷ c.next.new.self = grind (arith, first) in
    let seen : view (String c.in-String.text) ≡ string c.in-String.text.now = search (rules, the_lemmas) in
    ap (λ o. parse_map (value_if (is_one_of c.args.whole.now c.args.name.now)) (converted of_json o)) (ap (value 126) is ∙ value_is 126 _) ∙ ap (λ d. Some (d, c.next.new.self)) (sym seen)

pub returns-in-Bool-clause-ok : goal.returns-in-Bool-clause-ok
returns-in-Bool-clause-ok c =
    let first : c.args.reader.now ≡ token_of c.in-Some.token ∷ c.next.new.self = grind arith in
    let is : c.args.reader.now ≡ Token.boolean c.in-Bool.b ∷ c.next.new.self = grind (arith, first) in
    let seen : view (Bool c.in-Bool.b) ≡ boolean c.in-Bool.b = search (rules, the_lemmas) in
    ap (λ o. parse_map (value_if (is_one_of c.args.whole.now c.args.name.now)) (converted of_json o)) (ap (value 126) is ∙ value_is 126 _) ∙ ap (λ d. Some (d, c.next.new.self)) (sym seen)

pub returns-in-Null-clause-ok : goal.returns-in-Null-clause-ok
returns-in-Null-clause-ok c =
    let first : c.args.reader.now ≡ token_of c.in-Some.token ∷ c.next.new.self = grind arith in
    let is : c.args.reader.now ≡ Token.null ∷ c.next.new.self = grind (arith, first) in
    let seen : view Null ≡ null = search (rules, the_lemmas) in
    ap (λ o. parse_map (value_if (is_one_of c.args.whole.now c.args.name.now)) (converted of_json o)) (ap (value 126) is ∙ value_is 126 _) ∙ ap (λ d. Some (d, c.next.new.self)) (sym seen)

pub returns-in-Some-number-clause-ok : goal.returns-in-Some-number-clause-ok
returns-in-Some-number-clause-ok c =
    let first : c.args.reader.now ≡ token_of c.in-Some.token ∷ c.next.new.self = grind arith in
    let is : c.args.reader.now ≡ Token.number c.in-Number.text.now ∷ c.next.new.self = grind (arith, first) in
    let seen : view (Number c.in-Some-number.number) ≡ number (number_view c.in-Some-number.number) = search (rules, the_lemmas) in
    ap (λ o. parse_map (value_if (is_one_of c.args.whole.now c.args.name.now)) (converted of_json o)) (ap (value 126) is ∙ value_is 126 _) ∙ rw (← c.in-Some-number.ensures, seen)

pub returns-in-None-clause-not_json : goal.returns-in-None-clause-not_json
returns-in-None-clause-not_json c refused =
    let first : c.args.reader.now ≡ token_of c.in-Some.token ∷ c.next.new.self = grind arith in
    let is : c.args.reader.now ≡ Token.number c.in-Number.text.now ∷ c.next.new.self = grind (arith, first) in
    ap (converted of_json) (ap (value 126) is ∙ value_is 126 _) ∙ rw (← c.in-None.ensures)

pub returns-in-EndObject-clause-not_json : goal.returns-in-EndObject-clause-not_json
returns-in-EndObject-clause-not_json c refused =
    let first : c.args.reader.now ≡ token_of c.in-Some.token ∷ c.next.new.self = grind arith in
    let none : value 126 c.args.reader.now ≡ None = rw (value_is 126 c.args.reader.now, first) (grind arith) in
    ap (converted of_json) none

pub returns-in_ok-items-in-BeginArray-clause-ok : goal.returns-in_ok-items-in-BeginArray-clause-ok
returns-in_ok-items-in-BeginArray-clause-ok c =
    let whole = is_one_of c.args.whole.now c.args.name.now in
    let first : c.args.reader.now ≡ token_of c.in-Some.token ∷ c.next.new.self = grind arith in
    let all = items (value 125) (length c.next.new.self) c.next.new.self in
    let opened = ap (converted of_json) (ap (value 126) (first ∙ ap (λ k. token_of k ∷ c.next.new.self) c.in-BeginArray.is) ∙ value-begin_array 126 c.next.new.self (omega arith)) ∙ converted-array all in
    let found = c.in_ok-items-in-BeginArray in
    let tested : c.is_one_of.result ≡ whole = c.is_one_of.ensures in
    ap (parse_map (value_if whole)) opened ∙ value_if-array whole (converted of_items all)
    ∙ ap (λ b. parse_map array (parse_map (items_if b) (converted of_items all))) (sym tested)
    ∙ ap (parse_map array) found.ensures.ok ∙ ap (λ d. Some (d, c.read_items_if.new.reader)) (sym (view-Array found.items))

pub returns-in_ok-members-in-BeginObject-clause-ok : goal.returns-in_ok-members-in-BeginObject-clause-ok
returns-in_ok-members-in-BeginObject-clause-ok c =
    let whole = is_one_of c.args.whole.now c.args.name.now in
    let first : c.args.reader.now ≡ token_of c.in-Some.token ∷ c.next.new.self = grind arith in
    let all = members (value 125) (length c.next.new.self) c.next.new.self in
    let opened = ap (converted of_json) (ap (value 126) (first ∙ ap (λ k. token_of k ∷ c.next.new.self) c.in-BeginObject.is) ∙ value-begin_object 126 c.next.new.self (omega arith)) ∙ converted-object all in
    let found = c.in_ok-members-in-BeginObject in
    let tested : c.is_one_of-in-BeginObject.result ≡ whole = c.is_one_of-in-BeginObject.ensures in
    ap (parse_map (value_if whole)) opened ∙ value_if-object whole (converted (λ ms. of_members ms no_members) all)
    ∙ ap (λ b. parse_map object (parse_map (members_if b) (converted (λ ms. of_members ms no_members) all))) (sym tested)
    ∙ ap (parse_map object) found.ensures.ok ∙ ap (λ d. Some (d, c.read_members_if.new.reader)) (sym (view-Object found.members))
