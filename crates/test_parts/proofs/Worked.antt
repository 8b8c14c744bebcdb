-- What the contract of `history` says of the worked round.
use Rattle.std.proofs.Common.{◌≡◌, List, [], ◌∷◌, length, Option, None, Some, map, refl, ap, subst, arith}
use Rattle.std.specs.Prelude.{Result, Ok, Err, IfOk}
use Rattle.snap_usage.specs.declared.usage.Usage.{Usage}
use Rattle.snap_call.specs.declared.config.Config.{Config}
use Rattle.snap_call.specs.declared.entry.Entry.{Entry}
use Rattle.snap_call.specs.declared.state.State.{State}
use Rattle.snap_call.specs.Good.{Good}
use Rattle.snap_call.specs.Journal.{Replays}
use Rattle.snap_call.specs.Records.{default_slots, lowest_free}
use Rattle.snap_call.specs.State.{opening}
use Rattle.snap_call.specs.Step.{step}
use Rattle.snap_call.proofs.Kept.{good_opening}
use Rattle.snap_history.specs.Changes.{no_shares}
use Rattle.snap_history.specs.History.{history_page, history_since, last_made, namespace_charge}
use Rattle.snap_history.specs.Open.{namespace_shares}
use Rattle.snap_history.specs.declared.info.EntryInfo.{EntryInfo}
use Rattle.test_parts.specs.Worked.{charged, made, opened, small_round, usage}

abbrev config : Config
config = record { root = 47 ∷ 114 ∷ []; namespaces = record { name = 97 ∷ []; limit = usage 10 10 } ∷ []; slots = default_slots; journal = 100; first_id = 1; layer_inodes = 65536; ancestors = 64 }

abbrev start : State
start = opening config

abbrev end : State
end = (step (step (step start opened.call opened.given).0 made.call made.given).0 charged.call charged.given).0

replays : Replays start small_round end
unfolding lowest_free
replays = (omega arith, refl, (tt, refl, (refl, refl, refl)))

-- what the contract says of a page of one entry after the first, where `a` is charged `now` after the entries
abbrev pub Told : List Entry → List (Option Usage) → Usage → List EntryInfo → Type 0
Told es shares now page =
    (s t : State) → Good s → length shares ≡ s.slots → (last_made (97 ∷ []) es ≡ None → shares ≡ namespace_shares (97 ∷ []) s) → Replays s es t → t.entries ≡ 3 → namespace_charge (97 ∷ []) t ≡ now → page ≡ history_page 1 1 (history_since (97 ∷ []) s es)

-- that entry is the prepare, after which 1/1 is charged
first_charge : (page : List EntryInfo) → Told small_round (no_shares default_slots) (usage 4 3) page → map (λ (info : EntryInfo). info.charge) page ≡ Some (usage 1 1) ∷ []
unfolding lowest_free
first_charge page is = ap (map (λ (info : EntryInfo). info.charge)) (is start end (good_opening config refl) refl (λ none. refl) replays refl refl)

pub page_told : {E : Type 0} (es : List Entry) (shares : List (Option Usage)) (now : Usage) (r : Result (List EntryInfo) E) → es ≡ small_round → shares ≡ no_shares default_slots → now ≡ usage 4 3 → IfOk r (Told es shares now) → IfOk r (λ page. map (λ (info : EntryInfo). info.charge) page ≡ Some (usage 1 1) ∷ [])
page_told es shares now (Ok page) same none charged is =
    first_charge page (subst (λ (n : Usage). Told small_round (no_shares default_slots) n page) charged (subst (λ (l : List (Option Usage)). Told small_round l now page) none (subst (λ (l : List Entry). Told l shares now page) same is)))
page_told es shares now (Err e) same none charged is = tt
