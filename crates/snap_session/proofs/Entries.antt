-- The round's entries of a world.
use Rattle.std.proofs.Common.{◌≡◌, ℕ, ◌≤◌, List, length, map, Bool, false, Option, None, Some, refl, sym, ap, ◌∙◌, arith}
use Rattle.std.specs.Option.{option_map, option_map_or}
use Rattle.snap_usage.specs.declared.usage.Usage.{Usage}
use Rattle.snap_usage.specs.Counted.{no_usage}
use Rattle.snap_record.specs.Labels.{Bytes}
use Rattle.snap_record.specs.declared.record.Record.{Record}
use Rattle.snap_call.specs.declared.refusal.Refusal.TheVariants.{NoNamespace}
use Rattle.snap_call.specs.declared.state.State.{State}
use Rattle.snap_call.specs.Good.{Good}
use Rattle.snap_call.specs.Journal.{Replays}
use Rattle.snap_call.specs.Records.{charge_of}
use Rattle.snap_call.specs.State.{place_of}
use Rattle.snap_call.proofs.Lists.{none_some, some_same}
use Rattle.snap_call.proofs.Replaying.{Replays-entries}
use Rattle.snap_book.specs.Book.{IsBeginning}
use Rattle.snap_history.specs.History.{history_page, history_since, last_made, namespace_charge}
use Rattle.snap_history.specs.Open.{namespace_shares, shares_of}
use Rattle.snap_history.specs.declared.info.EntryInfo.{EntryInfo}
use Rattle.snap_history.proofs.Since.{shares_of-length, stood_shares}
use Rattle.snap_world.specs.World.{WorldValue}
use Rattle.snap_script.specs.declared.answer.JournalEntry.{JournalEntry}
use Rattle.snap_script.specs.declared.answer.Answer.{Answer}
use Rattle.snap_script.specs.declared.answer.Answer.TheVariants as answers
use Rattle.snap_session.specs.declared.carried.Carried.{Carried}
use Rattle.snap_session.specs.Found.{refusal_answer}
use Rattle.snap_session.specs.Journal.{journal_entry, journal_in}

-- there are no more than the number of the last one
pub few : (w : WorldValue) → Replays w.opening w.journal w.state → length w.journal ≤ w.state.entries
few w replays = let count = Replays-entries w.opening w.journal w.state replays in omega arith

-- the place of a namespace that is charged u
charged_place : (rs : List Record) (o : Option ℕ) (u : Usage) → option_map (λ place. charge_of place rs) o ≡ Some u → (place : ℕ) × (o ≡ Some place) × (charge_of place rs ≡ u)
charged_place rs None u e = absurd (none_some u e)
charged_place rs (Some place) u e = (place, refl, some_same (charge_of place rs) u e)

-- what is told of the entries of a namespace, by what its open snapshots were charged and what it is charged now
pub told_in : (w : WorldValue) (carried : List Carried) (after most : ℕ) (full : Bool) (name : Bytes) (held : List (Option Usage)) (now : Usage) (infos : List EntryInfo) (told : List JournalEntry)
    → IsBeginning w.opening → Replays w.opening w.journal w.state → option_map (λ place. charge_of place w.state.records) (place_of name w.state.namespaces) ≡ Some now
    → ((place : ℕ) → place_of name w.state.namespaces ≡ Some place → held ≡ shares_of w.opening.slots place w.opening.records)
    → ((s t : State) → Good s → length held ≡ s.slots → (last_made name w.journal ≡ None → held ≡ namespace_shares name s) → Replays s w.journal t → t.entries ≡ w.state.entries → namespace_charge name t ≡ now
    → infos ≡ history_page after most (history_since name s w.journal))
    → told ≡ map (journal_entry w carried false full) infos → answers.Journal told ≡ journal_in w carried after most full name
told_in w carried after most full name held now infos told began replays charged shares found is =
    let at = charged_place w.state.records (place_of name w.state.namespaces) now charged in
    let place : ℕ = at.0 in
    let stands : place_of name w.state.namespaces ≡ Some place = at.1 in
    let held_is : held ≡ shares_of w.opening.slots place w.opening.records = shares place stands in
    let total : namespace_charge name w.state ≡ now = ap (λ (o : Option ℕ). option_map_or (λ p. charge_of p w.state.records) o no_usage) stands ∙ at.2 in
    let infos_are : infos ≡ history_page after most (history_since name w.opening w.journal) =
    found w.opening w.state began.good (ap (λ (l : List (Option Usage)). length l) held_is ∙ shares_of-length w.opening.slots place w.opening.records)
    (λ none. held_is ∙ stood_shares name place w.opening w.journal w.state began.good replays stands none) replays refl total in
    let there : Option ℕ → Answer = λ o. option_map_or (λ p. answers.Journal (map (journal_entry w carried false full) (history_page after most (history_since name w.opening w.journal)))) o (refusal_answer NoNamespace) in
    ap answers.Journal (is ∙ ap (map (journal_entry w carried false full)) infos_are) ∙ ap there (sym stands)
