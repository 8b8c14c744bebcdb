use Rattle.std.proofs.Common.{◌≡◌, ◌≢◌, [], ◌∷◌, length, Some, sym, ap, ◌∙◌, arith}
use Rattle.json.specs.Token.{Token}
use Rattle.json.specs.Json.{parse_map, members, value}
use Rattle.json.specs.Reads.{token_of}
use Rattle.json.proofs.Grammar.{value_is, value-begin_object}
use Rattle.serde_json.specs.Data.{object}
use Rattle.serde_json.specs.Read.{of_json, converted}
use Rattle.snap_json.specs.Objects.{object_read}
use Rattle.snap_json.proofs.Views.{view-Object}
use Rattle.snap_json.proofs.Reading.{converted-object, no_object}
use Rattle.snap_json.proofs.read.read_alone.Goals as goal

pub returns-in_default-clause-not_json : goal.returns-in_default-clause-not_json
returns-in_default-clause-not_json c refused =
    let empty : c.args.reader.now ≡ [] = grind arith in
    ap (converted of_json) (ap (value 127) empty ∙ value_is 127 [])

pub returns-in_err-members-in-BeginObject-clause-not_json : goal.returns-in_err-members-in-BeginObject-clause-not_json
returns-in_err-members-in-BeginObject-clause-not_json c refused =
    let first : c.args.reader.now ≡ token_of c.in-Some.token ∷ c.next.new.self = grind arith in
    let opened = ap (converted of_json) (ap (value 127) (first ∙ ap (λ k. token_of k ∷ c.next.new.self) c.in-BeginObject.is) ∙ value-begin_object 127 c.next.new.self (omega arith)) ∙ converted-object (members (value 126) (length c.next.new.self) c.next.new.self) in
    opened ∙ ap (parse_map object) (c.read_members.ensures.not_json (grind arith))

pub returns-in_ok-members-in-BeginObject-clause-ok : goal.returns-in_ok-members-in-BeginObject-clause-ok
returns-in_ok-members-in-BeginObject-clause-ok c =
    let first : c.args.reader.now ≡ token_of c.in-Some.token ∷ c.next.new.self = grind arith in
    let opened = ap (converted of_json) (ap (value 127) (first ∙ ap (λ k. token_of k ∷ c.next.new.self) c.in-BeginObject.is) ∙ value-begin_object 127 c.next.new.self (omega arith)) ∙ converted-object (members (value 126) (length c.next.new.self) c.next.new.self) in
    let found = c.in_ok-members-in-BeginObject in
    ap object_read (opened ∙ ap (parse_map object) found.ensures.ok) ∙ ap (λ d. Some (Some d, c.read_members.new.reader)) (sym (view-Object found.members))

pub returns-in_ok-check-in-BeginArray : goal.returns-in_ok-check-in-BeginArray
returns-in_ok-check-in-BeginArray c =
    let first : c.args.reader.now ≡ token_of c.in-Some.token ∷ c.next.new.self = grind arith in
    let other : token_of c.in-Some.token ≢ Token.begin_object = grind arith in
    record {
      ok = ap (λ ts. object_read (converted of_json (value 127 ts))) first ∙ no_object 127 _ c.next.new.self c.check.new.reader other c.in_ok-check-in-BeginArray.ensures.ok;
      not_json = λ e. absurd (cc);
    }
