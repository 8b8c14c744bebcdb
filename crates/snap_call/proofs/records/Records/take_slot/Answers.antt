use Rattle.std.proofs.Common.{◌≡◌, ◌∙◌, ap, sym, subst, List, None, Some}
use Rattle.snap_record.specs.declared.record.Record.{Record}
use Rattle.snap_record.specs.Labels.{Bytes}
use Rattle.snap_call.specs.Indexes.{AreIndexed, name_in}
use Rattle.snap_call.specs.Records.{active_at, is_slot, record_at, without_key, without_slot}
use Rattle.snap_call.specs.Spaces.{joined_records}
use Rattle.snap_call.proofs.Indexed.{found_at, indexed-freed, indexed-without_slot, taken_at, unnamed, without-none}
use Rattle.snap_call.proofs.records.Records.take_slot.Goals as goal

pub returns-in_default-clause-taken : goal.returns-in_default-clause-taken
returns-in_default-clause-taken c =
    let none : name_in c.args.slot c.self.inside.slots ≡ None = sym c.take.ensures.taken ∙ c.in_default.is in
    let free : active_at c.args.slot c.args.self.now ≡ None = ap (λ (l : List Record). active_at c.args.slot l) (sym c.self.view_is) ∙ unnamed (joined_records c.self.inside.spaces.list.items) c.self.inside.slots c.self.invariant.1 c.args.slot none in
    c.self.view_is ∙ sym (without-none (is_slot c.args.slot) c.args.self.now free)

pub returns-in_default-clause-record_taken : goal.returns-in_default-clause-record_taken
returns-in_default-clause-record_taken c =
    let none : name_in c.args.slot c.self.inside.slots ≡ None = sym c.take.ensures.taken ∙ c.in_default.is in
    sym (ap (λ (l : List Record). active_at c.args.slot l) (sym c.self.view_is) ∙ unnamed (joined_records c.self.inside.spaces.list.items) c.self.inside.slots c.self.invariant.1 c.args.slot none)

pub invariant_of-self : goal.invariant_of-self
invariant_of-self c =
    let none : name_in c.args.slot c.self.inside.slots ≡ None = sym c.take.ensures.taken ∙ c.in_default.is in
    (c.self.invariant.0, indexed-freed (joined_records c.self.inside.spaces.list.items) c.self.inside.slots c.self.invariant.1 c.args.slot c.take.new.self none c.take.ensures.rest)

pub returns-clause-taken : goal.returns-clause-taken
returns-clause-taken c =
    let n = c.in-Some.name in
    let some : name_in c.args.slot c.self.inside.slots ≡ Some n = sym c.take.ensures.taken ∙ c.in-Some.is in
    c.take_out.ensures.taken ∙ ap (λ (k : Bytes). without_key n.place k (joined_records c.self.inside.spaces.list.items)) c.as_str.ensures ∙ taken_at (joined_records c.self.inside.spaces.list.items) c.self.inside.slots c.self.invariant.1 c.args.slot n some ∙ ap (λ (l : List Record). without_slot c.args.slot l) c.self.view_is

pub returns-clause-record_taken : goal.returns-clause-record_taken
returns-clause-record_taken c =
    let n = c.in-Some.name in
    let some : name_in c.args.slot c.self.inside.slots ≡ Some n = sym c.take.ensures.taken ∙ c.in-Some.is in
    c.take_out.ensures.record_taken ∙ ap (λ (k : Bytes). record_at n.place k (joined_records c.self.inside.spaces.list.items)) c.as_str.ensures ∙ found_at (joined_records c.self.inside.spaces.list.items) c.self.inside.slots c.self.invariant.1 c.args.slot n some ∙ ap (λ (l : List Record). active_at c.args.slot l) c.self.view_is

pub invariant_of-self-2 : goal.invariant_of-self-2
invariant_of-self-2 c =
    let n = c.in-Some.name in
    let some : name_in c.args.slot c.self.inside.slots ≡ Some n = sym c.take.ensures.taken ∙ c.in-Some.is in
    let is : joined_records c.take_out.new.self.list.items ≡ without_slot c.args.slot (joined_records c.self.inside.spaces.list.items) = c.take_out.ensures.taken ∙ ap (λ (k : Bytes). without_key n.place k (joined_records c.self.inside.spaces.list.items)) c.as_str.ensures ∙ taken_at (joined_records c.self.inside.spaces.list.items) c.self.inside.slots c.self.invariant.1 c.args.slot n some in
    (c.take_out.ensures.counted, subst (λ (l : List Record). AreIndexed l c.take.new.self) (sym is) (indexed-without_slot (joined_records c.self.inside.spaces.list.items) c.self.inside.slots c.self.invariant.1 c.args.slot c.take.new.self c.take.ensures.rest))
