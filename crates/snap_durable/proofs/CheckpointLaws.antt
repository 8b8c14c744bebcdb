-- The text of a checkpoint gives the store back that a roll leaves, and its mark agrees.
use Rattle.std.proofs.Common.{◌≡◌, ◌⊎◌, inl, inr, ℕ, ◌≤◌, List, [], ◌∷◌, ◌++◌, length, map, Bool, true, false, Option, None, Some, Result, Ok, Err, refl, sym, ap, ◌∙◌, subst, arith, append_assoc, append-nil}
use Rattle.std.specs.Prelude.{◌||◌, if◌then◌else◌, not, IfOk}
use Rattle.std.specs.List.{AllByRecursion}
use Rattle.std.specs.Option.{option_map_or}
use Rattle.serde_json.specs.Written.{compact_text}
use Rattle.snap_call.specs.Results.{◌>>=◌}
use Rattle.snap_checkpoint.specs.Lines.{LineGatheringValue, all_put, line_put, lines_behind, lines_put, one_more, store_lines}
use Rattle.snap_checkpoint.specs.Pieces.{store_pieces}
use Rattle.snap_checkpoint.specs.Gathered.{StoreGatheringValue, with_store_piece}
use Rattle.snap_checkpoint.specs.declared.fault.StoreFault.{StoreFault}
use Rattle.snap_world.specs.declared.fault.RestoreFault.{RestoreFault}
use Rattle.snap_world.specs.Restored.{SavedWorldValue, saved_world}
use Rattle.snap_world.specs.World.{WorldValue}
use Rattle.snap_book.specs.Round.{roll_answer}
use Rattle.snap_call.specs.declared.refusal.Refusal.{Refusal}
use Rattle.snap_pieces.specs.Written.{line_data}
use Rattle.snap_pieces.specs.declared.line.Line.{Line}
use Rattle.snap_pieces.specs.declared.line.Line.TheVariants as lines
use Rattle.snap_pieces.specs.declared.piece.StorePiece.{StorePiece}
use Rattle.snap_script.specs.declared.answer.Answer.{Answer}
use Rattle.snap_script.specs.declared.command.Command.TheVariants.{Restore}
use Rattle.snap_script.specs.declared.fault.Fault.{Fault}
use Rattle.snap_script.specs.declared.line.Line.{Line as ScriptLine}
use Rattle.snap_script.specs.declared.line.Line.TheVariants.{Command, Empty}
use Rattle.snap_script.specs.declared.unknown.FieldRule.TheVariants.{KnownAndId}
use Rattle.snap_script.specs.Lines.{line_of}
use Rattle.snap_lines.specs.Effects.{Effect}
use Rattle.snap_lines.specs.Lines.{lines_of}
use Rattle.snap_lines.proofs.LineLaws.{line_split}
use Rattle.snap_marks.specs.Marks.{chained_lines, is_continued_line, is_mark_line, tail}
use Rattle.snap_marks.proofs.MarkLaws.{unmarked_goes_not}
use Rattle.snap_marks.specs.Sums.{mark_behind, marks_agree, no_sum, no_sums}
use Rattle.snap_session.specs.Kept.{KeptPart, KeptValue, has_store, idle_kept, is_changing, kept_line, kept_part, kept_so, mark_of, served_kept, would_change}
use Rattle.snap_session.specs.Opened.{OpenedValue, ScriptValue, only_store, unopened}
use Rattle.snap_session.specs.Resumed.{resumed_kept}
use Rattle.snap_session.specs.Commands.{roll}
use Rattle.snap_session.specs.Saving.{MakesRolled, SavesRolled, saved_by, saving_of}
use Rattle.snap_session.specs.declared.saving.Saving.TheVariants as savings
use Rattle.snap_session.specs.Restoring.{begun_again, line_taken, store_restored}
use Rattle.snap_session.proofs.Keeping.{after, done_by, script_after, script_of, so_after, unchanged_left}
use Rattle.sqlite_disk.specs.declared.Disk.{Ghosts}
use Rattle.snap_pair.specs.Pair.{ArePairHonest, PairKeeps}
use Rattle.snap_pair.specs.declared.pair.Pair.{Pair}
use Rattle.snap_durable.specs.declared.shorten.Uncheckpointed.{Uncheckpointed}
use Rattle.snap_durable.specs.Checkpoints.{AreHonestLeft, IsCheckpoint, IsTold, checkpoint_text, mark_text, rolled, saved_line, saved_text}
use Rattle.snap_durable.specs.Parts.{line_read, whole_in}
use Rattle.snap_durable.specs.Served.{IsReplayed, text_limit}
use Rattle.snap_durable.proofs.BackLaws.{ArePlain, Gives, IsMade, given_back, plain_both, plain_leads, stem_plain}
use Rattle.snap_durable.proofs.LeadLaws.{Leads, leads_of, leads_split}
use Rattle.snap_durable.proofs.SoundLaws.{IsSound, idle_sound, keeps_part, mark_read, sounds, text_left}
use Rattle.snap_durable.proofs.RestartLaws.{Adds, joined}
use Rattle.snap_durable.proofs.SavedLaws.{are_between, are_saved, lines_saved, mark_open, open_text}
use Rattle.snap_durable.proofs.WholeLaws.{whole_text}

-- the bytes of a line, without its line feed
abbrev bytes_of : Line → List ℕ
bytes_of line = compact_text (line_data line)

-- ---- the end is the last line

abbrev pub ends_once : List Line → Bool
ends_once [] = false
ends_once (lines.Head h ∷ rest) = ends_once rest
ends_once (lines.Piece p ∷ rest) = ends_once rest
ends_once (lines.End n ∷ []) = true
ends_once (lines.End n ∷ (line ∷ rest)) = false

behind_ends : (n : ℕ) (ps : List StorePiece) → ends_once (lines_behind n ps) ≡ true
behind_ends n [] = refl
behind_ends n (p ∷ ps) = behind_ends (one_more n) ps

pub store_ends : (w : SavedWorldValue) → ends_once (store_lines w) ≡ true
store_ends w = behind_ends (one_more 0) (store_pieces w)

-- ---- sums go on from none of them

mark_plain : (text : List ℕ) → is_continued_line (line_read (mark_text text)) ≡ false
mark_plain text = stem_plain (chained_lines no_sum text) no_sum tail refl

saved_plain : (ls : List Line) → AllByRecursion IsTold ls → ArePlain (map saved_line ls)
saved_plain [] told = tt
saved_plain (line ∷ ls) told = (ap is_continued_line (mark_read (bytes_of line) (open_text line) (omega (arith, told.0.fits))) ∙ unmarked_goes_not (bytes_of line) (unmarked (is_mark_line (bytes_of line)) refl), saved_plain ls told.1)
  where
    unmarked : (t : Bool) → is_mark_line (bytes_of line) ≡ t → is_mark_line (bytes_of line) ≡ false
    unmarked false is = is
    unmarked true is =
        let bad : Ok Empty ≡ Ok (Command 0 (Restore (Ok line))) = ap (λ (t : Bool). if t then Ok Empty else line_of KnownAndId false (bytes_of line)) (sym is) ∙ told.0.read unopened refl in
        absurd (cc)

-- what is gathered with a line, or the saved store
abbrev Put : Type 0
Put = Result (Option LineGatheringValue × Option SavedWorldValue) StoreFault

-- no saved store yet, or it
abbrev IsMore : Put → Type 0
IsMore (Err fault) = ⊥
IsMore (Ok (g, None)) = Unit {0}
IsMore (Ok (g, Some saved)) = ⊥

abbrev IsAll : Put → Type 0
IsAll (Err fault) = ⊥
IsAll (Ok (g, None)) = ⊥
IsAll (Ok (g, Some saved)) = g ≡ None

-- with one more piece, and with the end
abbrev piece_put : ℕ → Result StoreGatheringValue StoreFault → Put
piece_put n (Err fault) = Err fault
piece_put n (Ok next) = Ok (Some (record { lines = n; store = next }), None)

abbrev end_put : Result SavedWorldValue StoreFault → Put
end_put (Err fault) = Err fault
end_put (Ok saved) = Ok (None, Some saved)

with_piece_put : (g : LineGatheringValue) (p : StorePiece) → line_put (Some g) (lines.Piece p) ≡ piece_put (one_more g.lines) (with_store_piece g.store p)
with_piece_put g p = by (with_store_piece g.store p)
  where
    by : (r : Result StoreGatheringValue StoreFault) → (do next ← r; (let x : Put = Ok (Some (record { lines = one_more g.lines; store = next }), None) in x)) ≡ piece_put (one_more g.lines) r
    by (Err fault) = refl
    by (Ok next) = refl

with_end_put : (g : LineGatheringValue) (n : ℕ) → line_put (Some g) (lines.End n) ≡ end_put (all_put n g)
with_end_put g n = by (all_put n g)
  where
    by : (r : Result SavedWorldValue StoreFault) → (do saved ← r; (let x : Put = Ok (None, Some saved) in x)) ≡ end_put r
    by (Err fault) = refl
    by (Ok saved) = refl

piece_more : (n : ℕ) (r : Result StoreGatheringValue StoreFault) (g : Option LineGatheringValue) (saved : SavedWorldValue) → piece_put n r ≡ Ok (g, Some saved) → ⊥
piece_more n (Err fault) g saved is = cc
piece_more n (Ok next) g saved is = subst IsMore is tt

end_all : (r : Result SavedWorldValue StoreFault) → IsMore (end_put r) → ⊥
end_all (Err fault) more = more
end_all (Ok saved) more = more

end_none : (r : Result SavedWorldValue StoreFault) (g : Option LineGatheringValue) (saved : SavedWorldValue) → end_put r ≡ Ok (g, Some saved) → g ≡ None
end_none (Err fault) g saved is = absurd (cc)
end_none (Ok s) g saved is = subst IsAll is refl

-- a line with more to come isn't the end
ends_rest : (g : Option LineGatheringValue) (line : Line) (rest : List Line) → IsMore (line_put g line) → ends_once (line ∷ rest) ≡ true → ends_once rest ≡ true
ends_rest g (lines.Head h) rest more ends = ends
ends_rest g (lines.Piece p) rest more ends = ends
ends_rest None (lines.End n) rest more ends = absurd more
ends_rest (Some g) (lines.End n) rest more ends = absurd (end_all (all_put n g) (subst IsMore (with_end_put g n) more))

-- and the one by which the store is whole is
rest_none : (line : Line) (rest : List Line) → ends_once (lines.End 0 ∷ rest) ≡ true → rest ≡ []
rest_none line [] ends = refl
rest_none line (l ∷ rest) ends = absurd (cc)

ends_all : (before g : Option LineGatheringValue) (saved : SavedWorldValue) (line : Line) (rest : List Line) → line_put before line ≡ Ok (g, Some saved) → ends_once (line ∷ rest) ≡ true → (rest ≡ []) × (g ≡ None)
ends_all before g saved (lines.Head h) rest is ends = absurd (subst IsMore is tt)
ends_all None g saved (lines.Piece p) rest is ends = absurd (cc)
ends_all (Some b) g saved (lines.Piece p) rest is ends = absurd (piece_more (one_more b.lines) (with_store_piece b.store p) g saved (sym (with_piece_put b p) ∙ is))
ends_all None g saved (lines.End n) rest is ends = absurd (cc)
ends_all (Some b) g saved (lines.End n) rest is ends = (rest_none (lines.End n) rest ends, end_none (all_put n b) g saved (sym (with_end_put b n) ∙ is))

-- ---- what the lines make of a script

-- a script without a store, with what is gathered
abbrev unstored : Option LineGatheringValue → ScriptValue
unstored g = record { store = None; gathered = g; lost = None; spent = false }

abbrev after_line : Option LineGatheringValue → Line → ScriptValue
after_line g line = done_by (unstored g) (Ok (Command 0 (Restore (Ok line))))

module _ (saved : SavedWorldValue) (o : OpenedValue) (a : Answer) (begun : begun_again saved ≡ Ok (o, a)) where
  abbrev stored_with : Option LineGatheringValue → ScriptValue
  stored_with g = record { store = Some o; gathered = g; lost = None; spent = false }

  -- where lines have led that restore a store
  record IsStored (v w : KeptValue) (ls : List Line) : Type 0 where
    script : script_of w ≡ only_store o
    keeps : kept_so true w ≡ w
    adds : Adds served_kept would_change mark_of kept_so has_store kept_part keeps_part v (map bytes_of ls) w

  -- further lines lead there
  abbrev Later : List Line → Type 0
  Later ls = (g : Option LineGatheringValue) (v w : KeptValue) → script_of v ≡ unstored g → kept_so true v ≡ v → AllByRecursion IsTold ls → ends_once ls ≡ true → lines_put g ls ≡ Ok saved → Leads served_kept v (map saved_line ls) w → IsStored v w ls

  leads_stored : (ls : List Line) → Later ls
  leads_stored [] g v w is also told ends put leads = absurd (cc)
  leads_stored (line ∷ rest) g v w is also told ends put (e, p, more) = by (λ g v w is also told ends put leads. leads_stored rest g v w is also told ends put leads) (line_put g line) refl put
    where
      read : line_read (saved_line line) ≡ bytes_of line
      read = mark_read (bytes_of line) (open_text line) (omega (arith, told.0.fits))

      here : served_kept v (bytes_of line) ≡ Ok e
      here = ap (served_kept v) (sym read) ∙ p

      next : kept_so true e.value ≡ e.value
      next = so_after true v (bytes_of line) e (ap (λ x. served_kept x (bytes_of line)) also ∙ here)

      line_is : kept_line (script_of v) (bytes_of line) ≡ Ok (Command 0 (Restore (Ok line)))
      line_is = told.0.read (script_of v) (ap (λ (s : ScriptValue). s.store) is)

      script : script_of e.value ≡ after_line g line
      script =
          script_after v (bytes_of line) e here
          ∙ ap (λ (k : Bool). after (k || not (would_change v (bytes_of line))) (script_of v) (bytes_of line)) (ap (λ (x : KeptValue). x.keeps) (sym also))
          ∙ ap (λ (r : Result ScriptLine Fault). done_by (script_of v) r) line_is
          ∙ ap (λ (s : ScriptValue). done_by s (Ok (Command 0 (Restore (Ok line))))) is

      change : would_change v (bytes_of line) ≡ true
      change = ap is_changing line_is

      by : Later rest → (r : Put) → line_put g line ≡ r → (r >>= λ x. option_map_or Ok x.1 (lines_put x.0 rest)) ≡ Ok saved → IsStored v w (line ∷ rest)
      by later (Err fault) r_is put = absurd (cc)
      by later (Ok (h, None)) r_is put =
          let more_ends : ends_once rest ≡ true = ends_rest g line rest (subst IsMore (sym r_is) tt) ends in
          let gathered : script_of e.value ≡ unstored h = script ∙ ap (λ (r : Put). (line_taken (unstored g) r).0) r_is in
          let all : IsStored e.value w rest = later h e.value w gathered next told.1 more_ends put more in
          record { script = all.script; keeps = all.keeps; adds = (e, open_text line, change, here, all.adds) }
      by later (Ok (h, Some found)) r_is put =
          let same : found ≡ saved = cc in
          let last = ends_all g h found line rest r_is ends in
          let end : e.value ≡ w = subst (λ (ls : List Line). Leads served_kept e.value (map saved_line ls) w) last.0 more in
          let opened : begun_again found ≡ Ok (o, a) = ap begun_again same ∙ begun in
          let stands : script_of e.value ≡ only_store o =
          script ∙ ap (λ (r : Put). (line_taken (unstored g) r).0) r_is ∙ ap (λ (r : Result (OpenedValue × Answer) RestoreFault). (store_restored (unstored h) r).0) opened ∙ ap stored_with last.1 in
          record {
            script = ap script_of (sym end) ∙ stands;
            keeps = subst (λ x. kept_so true x ≡ x) end next;
            adds = (e, open_text line, change, here, subst (λ (ls : List Line). Adds served_kept would_change mark_of kept_so has_store kept_part keeps_part e.value (map bytes_of ls) w) (sym last.0) end);
          }

  joined_saved : (ls : List Line) → joined served_kept would_change mark_of kept_so has_store kept_part keeps_part (map bytes_of ls) ≡ saved_text ls
  joined_saved [] = refl
  joined_saved (line ∷ ls) = ap (λ (t : List ℕ). saved_line line ++ t) (joined_saved ls)

  -- a line that is a mark leaves the script
  mark_left : (x : KeptValue) (text : List ℕ) (e : Effect KeptValue) → served_kept x (line_read (mark_text text)) ≡ Ok e → kept_part e.value ≡ kept_part x
  mark_left x text e p = unchanged_left x (line_read (mark_text text)) e (text_left (chained_lines no_sum text) no_sum tail refl x) p

  -- a value that has carried out a mark of no line
  record HasBegun (u : KeptValue) : Type 0 where
    same : kept_part u ≡ kept_part idle_kept
    also : kept_so true u ≡ u
    sound : IsSound u

  begun_by : (none : List ℕ) → none ≡ [] → (v : KeptValue) → v ≡ idle_kept → (e : Effect KeptValue) → served_kept v (line_read (mark_text none)) ≡ Ok e → HasBegun e.value
  begun_by none is v idles e p =
      let also : kept_so true v ≡ v = ap (kept_so true) idles ∙ sym idles in
      let mark : served_kept v (line_read (mark_of v [] ++ 10 ∷ [])) ≡ Ok e = ap (λ (x : KeptValue). served_kept v (line_read (mark_of x [] ++ 10 ∷ []))) idles ∙ ap (λ (t : List ℕ). served_kept v (line_read (mark_text t))) (sym is) ∙ p in
      record {
        same = mark_left v none e p ∙ ap kept_part idles;
        also = so_after true v (line_read (mark_text none)) e (ap (λ x. served_kept x (line_read (mark_text none))) also ∙ p);
        sound = sounds v v v [] e refl also (subst IsSound (sym idles) idle_sound) refl mark;
      }

  -- the lines behind it, and the mark that ends them
  ends_by : (ls : List Line) (idle u again : KeptValue) → idle ≡ idle_kept → HasBegun u → AllByRecursion IsTold ls → ends_once ls ≡ true → lines_put None ls ≡ Ok saved → Leads served_kept u (map saved_line ls ++ (mark_text (saved_text ls) ∷ [])) again
      → IsMade (only_store o) again
  ends_by ls idle u again idles begun_u told ends put all =
      let cut = leads_split served_kept (map saved_line ls) (mark_text (saved_text ls) ∷ []) u again all in
      let x : KeptValue = cut.0 in
      let is : IsStored u x ls = leads_stored ls None u x (ap (λ (k : KeptPart). k.script) begun_u.same) begun_u.also told ends put cut.1 in
      let last = cut.2 in
      let part : kept_part idle ≡ kept_part u = ap kept_part idles ∙ sym begun_u.same in
      let mark : served_kept x (line_read (mark_of idle (joined served_kept would_change mark_of kept_so has_store kept_part keeps_part (map bytes_of ls)) ++ 10 ∷ [])) ≡ Ok last.0 =
      ap (λ (v : KeptValue). served_kept x (line_read (mark_of v (joined served_kept would_change mark_of kept_so has_store kept_part keeps_part (map bytes_of ls)) ++ 10 ∷ []))) idles
      ∙ ap (λ (t : List ℕ). served_kept x (line_read (mark_text t))) (joined_saved ls) ∙ last.1 in
      let sound : IsSound last.0.value = sounds idle u x (map bytes_of ls) last.0 part begun_u.also begun_u.sound is.adds mark in
      record {
        script = ap script_of (sym last.2) ∙ ap (λ (k : KeptPart). k.script) (mark_left x (saved_text ls) last.0 last.1) ∙ is.script;
        sound = subst IsSound last.2 sound;
        also = subst (λ (z : KeptValue). kept_so true z ≡ z) last.2 (so_after true x (line_read (mark_text (saved_text ls))) last.0 (ap (λ y. served_kept y (line_read (mark_text (saved_text ls)))) is.keeps ∙ last.1));
      }

  -- the text gives the store back, and its marks agree
  gives_from : (none : List ℕ) → none ≡ [] → (ls : List Line) (idle again : KeptValue) → idle ≡ idle_kept → AllByRecursion IsTold ls → ends_once ls ≡ true → lines_put None ls ≡ Ok saved
      → Leads resumed_kept idle (lines_of (mark_text none ++ (saved_text ls ++ mark_text (saved_text ls)))) again → IsMade (only_store o) again
  gives_from none none_is ls idle again idles told ends put now =
      let text : List ℕ = saved_text ls in
      let more : List ℕ = text ++ mark_text text in
      let split : lines_of (mark_text none ++ more) ≡ mark_text none ∷ (map saved_line ls ++ (mark_text text ∷ [])) =
      ap lines_of (append_assoc (mark_behind no_sums none) (10 ∷ []) more) ∙ line_split (mark_behind no_sums none) more (mark_open none)
      ∙ ap (λ (t : List (List ℕ)). mark_text none ∷ t) (lines_saved ls (mark_text text) ∙ ap (λ (t : List (List ℕ)). map saved_line ls ++ t) (line_split (mark_behind no_sums text) [] (mark_open text))) in
      let all : Leads served_kept idle (mark_text none ∷ (map saved_line ls ++ (mark_text text ∷ []))) again =
      plain_leads (mark_text none ∷ (map saved_line ls ++ (mark_text text ∷ []))) idle again (mark_plain none, plain_both (map saved_line ls) (mark_text text ∷ []) (saved_plain ls told) (mark_plain text, tt))
      (subst (λ (t : List (List ℕ)). Leads resumed_kept idle t again) split now) in
      ends_by ls idle all.0.value again idles (begun_by none none_is idle idles all.0 all.1) told ends put all.2

  -- and so do the lines alone
  made_from : (ls : List Line) (idle again : KeptValue) → idle ≡ idle_kept → AllByRecursion IsTold ls → ends_once ls ≡ true → lines_put None ls ≡ Ok saved → length (saved_text ls) ≤ text_limit → IsReplayed served_kept idle (saved_text ls) again → script_of again ≡ only_store o
  made_from ls idle again idles told ends put low now =
      let text : List ℕ = saved_text ls in
      let also : kept_so true idle ≡ idle = ap (kept_so true) idles ∙ sym idles in
      let whole : whole_in text_limit text ≡ text = whole_text text_limit text (are_saved ls) low in
      let split : lines_of text ≡ map saved_line ls = ap lines_of (sym (append-nil text)) ∙ lines_saved ls [] ∙ append-nil (map saved_line ls) in
      let all : Leads served_kept idle (map saved_line ls) again =
      subst (λ (t : List (List ℕ)). Leads served_kept idle t again) (ap lines_of whole ∙ split) (leads_of served_kept idle (lines_of (whole_in text_limit text)) now.answers again now.serves) in
      (leads_stored ls None idle again (ap script_of idles) also told ends put all).script

  pub made : (ls : List Line) (again : KeptValue) → AllByRecursion IsTold ls → ends_once ls ≡ true → lines_put None ls ≡ Ok saved → length (saved_text ls) ≤ text_limit → IsReplayed served_kept idle_kept (saved_text ls) again → script_of again ≡ only_store o
  made ls again told ends put low now = made_from ls idle_kept again refl told ends put low now

  pub gives : (ls : List Line) → AllByRecursion IsTold ls → ends_once ls ≡ true → lines_put None ls ≡ Ok saved → Gives (checkpoint_text ls) (IsMade (only_store o))
  gives ls told ends put = record { lines = are_between [] ls; back = λ low z all. gives_from [] refl ls idle_kept z refl told ends put all }

-- ---- a checkpoint

saved_ends : (w : WorldValue) (r : Result Unit Refusal) (ls : List Line) → saved_by w r ≡ savings.Lines ls → ends_once ls ≡ true
saved_ends w (Ok done) ls is = subst (λ (l : List Line). ends_once l ≡ true) (lines_are w ls is) (store_ends (saved_world w))
  where
    lines_are : (w : WorldValue) (ls : List Line) → savings.Lines (store_lines (saved_world w)) ≡ savings.Lines ls → store_lines (saved_world w) ≡ ls
    lines_are w ls e = cc
saved_ends w (Err why) ls is = absurd (cc)

-- what is saved of a store gives it back as a roll leaves it
pub gives_checkpoint : (s : OpenedValue) (ls : List Line) → MakesRolled s ls → saving_of (Some s) ≡ savings.Lines ls → AllByRecursion IsTold ls → Gives (checkpoint_text ls) (IsMade (only_store (rolled s)))
gives_checkpoint s ls made of told = gives (saved_world s.world) (rolled s) (roll s.world s.world.limit).1 made.1 ls told (saved_ends s.world (roll_answer s.world.state s.world.limit) ls of) made.0

-- what is saved of the store that was carried out
pub is_checkpoint : (text text_new : List ℕ) (v : KeptValue) (ls : List Line) → IsReplayed resumed_kept idle_kept text v → marks_agree v.sums ≡ true → saving_of v.server.stepped.script.store ≡ savings.Lines ls
    → SavesRolled v.server.stepped.script.store (savings.Lines ls) → AllByRecursion IsTold ls → text_new ≡ checkpoint_text ls → IsCheckpoint text text_new
is_checkpoint text text_new v ls replayed agrees saved makes told is = record {
  begun = v;
  replayed = replayed;
  agrees = agrees;
  lines = ls;
  saved = saved;
  is = is;
  gives_back = λ s stands low again now. (both s stands low again now).0;
  agrees_again = λ s stands low again now. (both s stands low again now).1;
}
  where
    both : (s : OpenedValue) → v.server.stepped.script.store ≡ Some s → length text_new ≤ text_limit → (again : KeptValue) → IsReplayed resumed_kept idle_kept text_new again → (script_of again ≡ only_store (rolled s)) × (marks_agree again.sums ≡ true)
    both s stands low again now =
        let of : saving_of (Some s) ≡ savings.Lines ls = ap saving_of (sym stands) ∙ saved in
        let made : MakesRolled s ls = subst (λ (o : Option OpenedValue). SavesRolled o (savings.Lines ls)) stands makes in
        let it : IsMade (only_store (rolled s)) again =
        given_back (checkpoint_text ls) (IsMade (only_store (rolled s))) (gives_checkpoint s ls made of told) (subst (λ (t : List ℕ). length t ≤ text_limit) is low) again (subst (λ (t : List ℕ). IsReplayed resumed_kept idle_kept t again) is now) in
        (it.script, it.sound.whole)

-- the same of two files, where it was written
pub made_of : {D : Type 0} {g : Ghosts D} (r : Result (Pair D g) (Uncheckpointed D g)) (text : List ℕ) (ls : List Line) → IfOk r (λ p. ArePairHonest p → AllByRecursion IsTold ls × PairKeeps p (checkpoint_text ls))
    → (AreHonestLeft r → AllByRecursion IsTold ls → (t : List ℕ) → t ≡ checkpoint_text ls → IsCheckpoint text t) → IfOk r (λ p. ArePairHonest p → (t : List ℕ) × IsCheckpoint text t × PairKeeps p t)
made_of (Ok p) text ls replaced makes = λ honest. let both = replaced honest in (checkpoint_text ls, makes honest both.0 (checkpoint_text ls) refl, both.1)
made_of (Err why) text ls replaced makes = tt

-- and what a crash leaves of them
pub left_of : (p text : List ℕ) (ls : List Line) → (p ≡ text) ⊎ (AllByRecursion IsTold ls × (p ≡ checkpoint_text ls)) → (AllByRecursion IsTold ls → (t : List ℕ) → t ≡ checkpoint_text ls → IsCheckpoint text t) → (p ≡ text) ⊎ IsCheckpoint text p
left_of p text ls (inl same) makes = inl same
left_of p text ls (inr (told, is)) makes = inr (makes told p is)
