-- What came of an input, read by read, over a log that is made short on the way.
use Rattle.std.proofs.Common.{◌≡◌, ℕ, List, [], ◌∷◌, ◌++◌, refl, sym, ap, ◌∙◌, subst, append_assoc, append-nil, Option, Some, None}
use Rattle.std.specs.Prelude.{IfSome, IsTrue}
use Rattle.std.specs.Io.KnownBytes.{Consumes, IsAtEnd}
use Rattle.sqlite_disk.specs.declared.Disk.{Ghosts}
use Rattle.snap_log.specs.Batches.{Batched, batched, none_yet}
use Rattle.snap_log.specs.Log.{disk_of, text_in}
use Rattle.snap_lines.proofs.KnownLaws.{Consumes-nil, Consumes-trans}
use Rattle.snap_pair.specs.Texts.{pair_text}
use Rattle.snap_session.specs.Kept.{KeptValue}
use Rattle.snap_durable.specs.Files.{AreApart, AreFilesHonest, FilesStand, WentLast, WentOn, beside_disk, first_file, second_file}
use Rattle.snap_durable.specs.Parts.{line_limit, whole_in}
use Rattle.snap_durable.specs.Served.{IsBegun, feed_behind}
use Rattle.snap_durable.specs.Shortened.{DoneTurns}
use Rattle.snap_durable.specs.Turns.{GivesBack, LeavesTurns}
use Rattle.snap_durable.specs.declared.files.Files.{Files}
use Rattle.snap_durable.proofs.BatchLaws.{begun_next, begun_none}
use Rattle.snap_durable.proofs.FileLaws.{files_leave}
use Rattle.snap_durable.proofs.LeavesLaws.{both_apart}
use Rattle.snap_durable.proofs.TurnLaws.{leaves_at, leaves_more, leaves_next, went_on_more, went_on_none}

module _ {D : Type 0} {g : Ghosts D} (v : KeptValue) (files : Files D g) (first before : Option (List ℕ)) where
  -- a first part of an input came, and its lines were answered
  pub record CameOn (w : KeptValue) (s : Batched) (now : Files D g) (left after : Option (List ℕ)) : Type 0 where
    pub read : List ℕ
    pub consumed : Consumes first left read
    pub went : WentOn v (none_yet line_limit) before read w s after
    pub apart : AreApart now
    pub stand : AreFilesHonest now → AreFilesHonest files × (FilesStand v files → FilesStand w now)

  pub came_on_first : AreApart files → CameOn v (none_yet line_limit) files first before
  came_on_first apart = record {
    read = [];
    consumed = Consumes-nil first;
    went = went_on_none v (none_yet line_limit) before refl refl;
    apart = apart;
    stand = λ honest. (honest, λ stand. stand);
  }

  abbrev pub Left : List ℕ → Option (List ℕ) → Type 0
  Left text after = IfSome first (λ bytes. LeavesTurns v (none_yet line_limit) (bytes ++ 10 ∷ []) text before after)

  -- what a crash leaves of what was read, it leaves of the input
  of_input : (left : Option (List ℕ)) (read text : List ℕ) (after : Option (List ℕ)) → Consumes first left read → LeavesTurns v (none_yet line_limit) read text before after → Left text after
  of_input left read text after consumed leaves = on first left consumed
    where
      on : (x left : Option (List ℕ)) → Consumes x left read → IfSome x (λ bytes. LeavesTurns v (none_yet line_limit) (bytes ++ 10 ∷ []) text before after)
      on None left h = tt
      on (Some bytes) None h = absurd h
      on (Some bytes) (Some more) h =
          subst (λ l. LeavesTurns v (none_yet line_limit) l text before after) (sym (ap (λ l. l ++ 10 ∷ []) h ∙ append_assoc read more (10 ∷ [])))
          (leaves_more v (none_yet line_limit) read (more ++ 10 ∷ []) text before after leaves)

  -- the same of the whole input, with a line feed
  of_all : (left : Option (List ℕ)) (read text : List ℕ) (after : Option (List ℕ)) → Consumes first left read → IsAtEnd left → LeavesTurns v (none_yet line_limit) (read ++ 10 ∷ []) text before after → Left text after
  of_all left read text after consumed at_end leaves = on first left consumed at_end
    where
      on : (x left : Option (List ℕ)) → Consumes x left read → IsAtEnd left → IfSome x (λ bytes. LeavesTurns v (none_yet line_limit) (bytes ++ 10 ∷ []) text before after)
      on None left h e = tt
      on (Some bytes) None h e = absurd h
      on (Some bytes) (Some more) h e = subst (λ l. LeavesTurns v (none_yet line_limit) (l ++ 10 ∷ []) text before after) (sym (h ∙ ap (λ l. read ++ l) e ∙ append-nil read)) leaves

  module _ (u : KeptValue) (s : Batched) (now : Files D g) (left mid : Option (List ℕ)) (was : CameOn u s now left mid) where
    -- and then a read
    pub came_on_more : (w : KeptValue) (t : Batched) (next : Files D g) (left_new after : Option (List ℕ)) (bytes : List ℕ) → Consumes left left_new bytes → WentOn u s mid bytes w t after → AreApart next
        → (AreFilesHonest next → AreFilesHonest now × (FilesStand u now → FilesStand w next)) → CameOn w t next left_new after
    came_on_more w t next left_new after bytes more went apart stand = record {
      read = was.read ++ bytes;
      consumed = Consumes-trans first left left_new was.read bytes was.consumed more;
      went = went_on_more v u (none_yet line_limit) s before mid after was.read bytes was.went w t went;
      apart = apart;
      stand = λ honest. ((was.stand (stand honest).0).0, λ is. (stand honest).1 ((was.stand (stand honest).0).1 is));
    }

    pub came_on_begun : IsBegun s
    came_on_begun = begun_next (none_yet line_limit) s was.read (begun_none line_limit) was.went.held

    -- a crash between two reads
    pub came_on_leaves : AreFilesHonest now → FilesStand v files → (c d : List ℕ) → g.may_leave (first_file now) c → g.may_leave (second_file now) d → Left (pair_text c d) mid
    came_on_leaves honest stand c d one two =
        let text : pair_text c d ≡ text_in now.counting = files_leave now honest was.apart c d one two in
        let gives : GivesBack (pair_text c d) u = subst (λ (t : List ℕ). GivesBack t u) (sym text) ((was.stand honest).1 stand).back in
        of_input left was.read (pair_text c d) mid was.consumed
        (subst (λ l. LeavesTurns v (none_yet line_limit) l (pair_text c d) before mid) (append-nil was.read) (leaves_next v u (none_yet line_limit) s before mid mid was.read [] was.went (pair_text c d) (leaves_at u s [] (pair_text c d) mid gives)))

    -- within the lines of a read
    pub came_on_stops : (left_new after : Option (List ℕ)) (bytes text : List ℕ) → Consumes left left_new bytes → LeavesTurns u s bytes text mid after → Left text after
    came_on_stops left_new after bytes text more leaves =
        of_input left_new (was.read ++ bytes) text after (Consumes-trans first left left_new was.read bytes was.consumed more) (leaves_next v u (none_yet line_limit) s before mid after was.read bytes was.went text leaves)

    -- and at the end of the input
    pub came_on_last : (after : Option (List ℕ)) (text : List ℕ) → IsAtEnd left → LeavesTurns u s (10 ∷ []) text mid after → Left text after
    came_on_last after text at_end leaves = of_all left was.read text after was.consumed at_end (leaves_next v u (none_yet line_limit) s before mid after was.read (10 ∷ []) was.went text leaves)

    pub came_on_done : (w : KeptValue) (after : Option (List ℕ)) → IsAtEnd left → WentLast u s mid w after → IfSome first (λ bytes. DoneTurns bytes v before w after)
    came_on_done w after at_end ends = on first left was.consumed at_end
      where
        all : WentOn v (none_yet line_limit) before (was.read ++ ends.last) w ends.end after
        all = went_on_more v u (none_yet line_limit) s before mid after was.read ends.last was.went w ends.end ends.went

        on : (x left : Option (List ℕ)) → Consumes x left was.read → IsAtEnd left → IfSome x (λ bytes. DoneTurns bytes v before w after)
        on None left h e = tt
        on (Some bytes) None h e = absurd h
        on (Some bytes) (Some more) h e =
            let read : bytes ≡ was.read = h ∙ ap (λ l. was.read ++ l) e ∙ append-nil was.read in
            record {
              last = ends.last;
              is = ends.is ∙ ap (λ (t : Batched). feed_behind t.held) was.went.held ∙ ap (λ l. feed_behind (batched (none_yet line_limit) l).held) (sym read);
              turns = all.turns;
              said = all.said;
              turned = all.turned;
              lines = ap (λ l. whole_in line_limit (l ++ ends.last)) read ∙ all.lines;
              written = all.written;
            }

    -- what a read leaves of what stood, it leaves of what stood first
    pub came_on_stand : (w : KeptValue) (next : Files D g) → (AreFilesHonest next → AreFilesHonest now × (FilesStand u now → FilesStand w next)) → AreFilesHonest next → AreFilesHonest files × (FilesStand v files → FilesStand w next)
    came_on_stand w next stand honest = let it = stand honest in let before_it = was.stand it.0 in (before_it.0, λ is. it.1 (before_it.1 is))

    -- of both files, where lines were not all answered
    pub came_on_broken : (one two : D) → IsTrue (g.is_clean one) × IsTrue (g.is_clean two) → (P Q : List ℕ → Type 0) → ((text : List ℕ) → P text → Q text)
        → (IsTrue (g.is_clean one) × IsTrue (g.is_clean two) → AreFilesHonest now × (FilesStand u now → (c d : List ℕ) → g.may_leave one c → g.may_leave two d → P (pair_text c d)))
        → AreFilesHonest files × (FilesStand v files → (c d : List ℕ) → g.may_leave one c → g.may_leave two d → Q (pair_text c d))
    came_on_broken one two clean P Q so leaves = let it = leaves clean in let before_it = was.stand it.0 in (before_it.0, λ is c d may may_other. so (pair_text c d) (it.1 (before_it.1 is) c d may may_other))

    -- between two reads
    pub came_on_stopped : IsTrue (g.is_clean (first_file now)) × IsTrue (g.is_clean (second_file now)) → AreFilesHonest files × (FilesStand v files → (c d : List ℕ) → g.may_leave (first_file now) c → g.may_leave (second_file now) d → Left (pair_text c d) mid)
    came_on_stopped clean = let honest = both_apart (λ (d : D). IsTrue (g.is_clean d)) now.is_second (disk_of now.counting) (beside_disk now.beside) clean in ((was.stand honest).0, λ is. came_on_leaves honest is)
