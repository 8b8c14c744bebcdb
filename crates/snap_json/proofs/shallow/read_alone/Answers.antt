use Rattle.std.proofs.Common.{◌≡◌, ◌≢◌, [], ◌∷◌, length, Some, sym, ap, ◌∙◌, arith, Option, option_map, List}
use Rattle.json.specs.Token.{Token}
use Rattle.json.specs.Json.{parse_map, members, value}
use Rattle.json.specs.Reads.{token_of}
use Rattle.json.proofs.Grammar.{value_is, value-begin_object}
use Rattle.serde_json.specs.Data.{Data, object, no_members}
use Rattle.serde_json.specs.Read.{of_json, of_members, converted}
use Rattle.snap_json.specs.Objects.{object_read}
use Rattle.snap_json.specs.Shallow.{is_one_of, shallow_read}
use Rattle.snap_json.proofs.Views.{view-Object}
use Rattle.snap_json.proofs.Reading.{converted-object, no_object}
use Rattle.snap_json.proofs.Shallows.{shallow_object}
use Rattle.snap_json.proofs.shallow.read_alone.Goals as goal

pub returns-in_default-clause-not_json : goal.returns-in_default-clause-not_json
returns-in_default-clause-not_json c refused =
    let empty : c.args.reader.now ≡ [] = grind arith in
    ap (converted of_json) (ap (value 127) empty ∙ value_is 127 [])

pub returns-in_err-members-in-BeginObject-clause-not_json : goal.returns-in_err-members-in-BeginObject-clause-not_json
returns-in_err-members-in-BeginObject-clause-not_json c refused =
    let first : c.args.reader.now ≡ token_of c.in-Some.token ∷ c.next.new.self = grind arith in
    let opened = ap (converted of_json) (ap (value 127) (first ∙ ap (λ k. token_of k ∷ c.next.new.self) c.in-BeginObject.is) ∙ value-begin_object 127 c.next.new.self (omega arith)) ∙ converted-object (members (value 126) (length c.next.new.self) c.next.new.self) in
    opened ∙ ap (parse_map object) (c.read_shallow_members.ensures.not_json (grind arith))

pub returns-in_ok-members-in-BeginObject-clause-ok : goal.returns-in_ok-members-in-BeginObject-clause-ok
returns-in_ok-members-in-BeginObject-clause-ok c =
    let whole = is_one_of c.args.whole.now in
    let first : c.args.reader.now ≡ token_of c.in-Some.token ∷ c.next.new.self = grind arith in
    let all = members (value 126) (length c.next.new.self) c.next.new.self in
    let opened = ap (converted of_json) (ap (value 127) (first ∙ ap (λ k. token_of k ∷ c.next.new.self) c.in-BeginObject.is) ∙ value-begin_object 127 c.next.new.self (omega arith)) ∙ converted-object all in
    let found = c.in_ok-members-in-BeginObject in
    ap (λ o. shallow_read whole (object_read o)) opened ∙ shallow_object whole (converted (λ ms. of_members ms no_members) all)
    ∙ ap (option_map {U = Option Data × List Token} (λ p. (Some (object p.0), p.1))) found.ensures.ok
    ∙ ap (λ d. Some (Some d, c.read_shallow_members.new.reader)) (sym (view-Object found.members))

pub returns-in_ok-check-in-BeginArray : goal.returns-in_ok-check-in-BeginArray
returns-in_ok-check-in-BeginArray c =
    let first : c.args.reader.now ≡ token_of c.in-Some.token ∷ c.next.new.self = grind arith in
    let other : token_of c.in-Some.token ≢ Token.begin_object = grind arith in
    record {
      ok = ap (shallow_read (is_one_of c.args.whole.now)) (ap (λ ts. object_read (converted of_json (value 127 ts))) first ∙ no_object 127 _ c.next.new.self c.check.new.reader other c.in_ok-check-in-BeginArray.ensures.ok);
      not_json = λ e. absurd (cc);
    }
