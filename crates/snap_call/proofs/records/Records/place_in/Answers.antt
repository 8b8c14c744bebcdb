use Rattle.std.proofs.Common.{◌≡◌, ◌∙◌, ap, refl, sym, ℕ, List, Option, None, Some}
use Rattle.std.specs.Option.{option_copied, option_map}
use Rattle.snap_record.specs.declared.record.Record.{Record}
use Rattle.snap_call.specs.Indexes.{name_in, record_name_of}
use Rattle.snap_call.specs.Records.{active_at}
use Rattle.snap_call.specs.Spaces.{joined_records}
use Rattle.snap_call.specs.declared.open_slots.Name.{Name}
use Rattle.snap_call.proofs.records.Records.place_in.Goals as goal

placed : (o : Option Record) → option_map (λ (n : Name). n.place) (option_map record_name_of o) ≡ option_map (λ (r : Record). r.namespace) o
placed None = refl
placed (Some r) = refl

at_slot : (slot : ℕ) (n : Option Name) (rs : List Record) → n ≡ option_map record_name_of (active_at slot rs) → option_map (λ (m : Name). m.place) n ≡ option_map (λ (r : Record). r.namespace) (active_at slot rs)
at_slot slot n rs is = ap (λ (o : Option Name). option_map (λ (m : Name). m.place) o) is ∙ placed (active_at slot rs)

pub returns-in-Some : goal.returns-in-Some
returns-in-Some c =
    let some : name_in c.args.slot c.self.inside.slots ≡ Some c.in-Some.name.now = sym c.get.ensures ∙ ap option_copied c.in-Some.is in
    at_slot c.args.slot (Some c.in-Some.name.now) (joined_records c.self.inside.spaces.list.items) (sym some ∙ c.self.invariant.1.slots c.args.slot) ∙ ap (λ (l : List Record). option_map (λ (r : Record). r.namespace) (active_at c.args.slot l)) c.self.view_is

pub returns-in-None : goal.returns-in-None
returns-in-None c =
    let none : name_in c.args.slot c.self.inside.slots ≡ None = sym c.get.ensures ∙ ap option_copied c.in-None.is in
    at_slot c.args.slot None (joined_records c.self.inside.spaces.list.items) (sym none ∙ c.self.invariant.1.slots c.args.slot) ∙ ap (λ (l : List Record). option_map (λ (r : Record). r.namespace) (active_at c.args.slot l)) c.self.view_is
