use Rattle.std.proofs.Common.{◌≡◌, ◌<◌, ◌+◌, ◌-◌, ℕ, List, true, false, sym, ap, ◌∙◌, subst, arith}
use Rattle.std.specs.List.{list_any}
use Rattle.std.specs.Option.{is_some}
use Rattle.snap_record.specs.declared.record.Record.{Record}
use Rattle.snap_call.specs.Indexes.{name_in}
use Rattle.snap_call.specs.Records.{is_slot}
use Rattle.snap_call.specs.Spaces.{joined_records}
use Rattle.snap_call.proofs.Indexed.{open_named}
use Rattle.snap_call.proofs.Lowest.{lowest_free-end, lowest_free-found, lowest_free-past, lowest_free-start}
use Rattle.snap_call.proofs.records.Records.lowest_free.Goals as goal

pub loop-slot-init : goal.loop-slot-init
loop-slot-init c = lowest_free-start c.args.self.now

pub returns-then-open-eq0 : goal.returns-then-open-eq0
returns-then-open-eq0 c =
    let slot = c.loop-slot.slot in
    let names = c.self.inside.slots in
    let named = open_named (joined_records c.self.inside.spaces.list.items) names c.self.invariant.1 slot in
    let none : is_some (name_in slot names) ≡ false = ap is_some (c.open_from-open.ensures.free c.if-open-eq0.true) in
    let same = ap (λ (l : List Record). list_any (is_slot slot) l) c.self.view_is in
    let free : list_any (is_slot slot) c.args.self.now ≡ false = sym same ∙ sym named ∙ none in
    sym (lowest_free-found c.args.slots slot c.args.self.now c.loop-slot.invariant free c.loop-slot-test.true)

pub loop-slot-preserved : goal.loop-slot-preserved
loop-slot-preserved c =
    let slot = c.loop-slot.slot in
    let names = c.self.inside.slots in
    let next = c.saturating_add-slot.result in
    lowest_free-past slot next c.args.self.now c.loop-slot.invariant (λ j from below.
    let more : slot + (j - slot) ≡ j = omega arith in
    let within : j - slot < c.open_from-open.result = omega (arith, c.saturating_add-slot.ensures, from, below) in
    let some : is_some (name_in j names) ≡ true = subst (λ (k : ℕ). is_some (name_in k names) ≡ true) more (c.open_from-open.ensures.open (j - slot) within) in
    let named = open_named (joined_records c.self.inside.spaces.list.items) names c.self.invariant.1 j in
    let same = ap (λ (l : List Record). list_any (is_slot j) l) c.self.view_is in
    sym same ∙ sym named ∙ some)

pub returns : goal.returns
returns c = sym (lowest_free-end c.loop-slot.slot c.args.slots c.args.self.now c.loop-slot.invariant (let past = c.loop-slot-test.false in omega arith))
