use Rattle.std.proofs.Common.{◌≡◌, ◌∙◌, ℕ, zero, suc, List, [], ◌∷◌, length, length-append, refl, sym, ap, arith}
use Rattle.std.specs.Option.{option_map}
use Rattle.snap_record.specs.declared.record.Record.{Record}
use Rattle.snap_call.specs.Records.{active_at}
use Rattle.snap_call.specs.declared.state.State.{State}
use Rattle.snap_history.specs.Open.{open_below, open_share, open_shares}
use Rattle.snap_book.specs.Book.{JournalValue}
use Rattle.snap_book.proofs.journal.Journal.begin.Goals as goal

-- a place for each slot
places : (n : ℕ) (rs : List Record) → length (open_below n rs) ≡ n
places zero rs = refl
places (suc n) rs = (let one = length-append (open_below n rs) (option_map open_share (active_at n rs) ∷ []) in let before = places n rs in let h : length (open_below (suc n) rs) ≡ suc n = omega arith in h)

pub invariant_of-self : goal.invariant_of-self
invariant_of-self c =
    let next = c.args.state.now in
    let was = c.self.inside in
    let slots : length was.shares ≡ next.slots =
    ap length c.self.invariant.1 ∙ (places was.opening.slots was.opening.records ∙ (ap (λ (v : JournalValue). v.opening.slots) c.self.view_is ∙ sym c.requires.slots)) in (
      c.requires.limit,
      c.set-2.ensures ∙ (ap (λ n. open_shares n next.records) slots ∙ ap (λ (s : State). open_shares s.slots s.records) (sym c.set.ensures)),
    )
