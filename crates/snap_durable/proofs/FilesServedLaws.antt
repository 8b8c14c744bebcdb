-- How a run over a log that is made short is put together.
use Rattle.std.proofs.Common.{◌≡◌, ◌⊎◌, ◌<◌, inl, inr, ℕ, List, [], ◌∷◌, ◌++◌, length, Bool, true, false, Option, Some, None, refl, sym, ap, ◌∙◌, subst, arith, append-nil}
use Rattle.std.specs.Prelude.{IfSome, IsTrue, if◌then◌else◌}
use Rattle.sqlite_disk.specs.declared.Disk.{Ghosts}
use Rattle.snap_log.specs.Batches.{batched, none_yet}
use Rattle.snap_log.specs.Kept.{IsBeforeOrAfter}
use Rattle.snap_log.specs.Log.{IsHonest, disk_of, text_in}
use Rattle.snap_log.specs.Texts.{AreLines, log_text}
use Rattle.snap_log.specs.declared.log.Log.{Log}
use Rattle.snap_log.proofs.TextLaws.{text_lines}
use Rattle.snap_marks.specs.declared.sums.Sums.{Sums}
use Rattle.snap_marks.specs.Sums.{marks_agree}
use Rattle.snap_pair.specs.Pair.{ArePairHonest, PairKeeps, first_of, joined, lines_in, second_of}
use Rattle.snap_pair.specs.Texts.{pair_text}
use Rattle.snap_pair.specs.declared.halves.Halves.{Halves}
use Rattle.snap_pair.specs.declared.pair.Pair.{Pair}
use Rattle.snap_pair.proofs.PairLaws.{pair_keeps}
use Rattle.snap_session.specs.Kept.{KeptValue, counted_anew, idle_kept}
use Rattle.snap_session.specs.Resumed.{resumed_kept}
use Rattle.snap_durable.specs.Files.{AreApart, AreEndsHonest, AreFilesHonest, FilesStand, first_end, second_end}
use Rattle.snap_durable.specs.Logged.{HasStarted, IfDiffers, Starts}
use Rattle.snap_durable.specs.Parts.{line_limit}
use Rattle.snap_durable.specs.Served.{IsReplayed}
use Rattle.snap_durable.specs.Shortened.{DiffersIn, AreRefused, DoneTurns, HasServedFiles, IfFilesDiffer, LeavesFiles}
use Rattle.snap_durable.specs.Turns.{GivesBack, LeavesTurns, whole_in_turns}
use Rattle.snap_durable.specs.declared.files.Beside.TheVariants as besides
use Rattle.snap_durable.specs.declared.files.EndedFiles.{EndedFiles}
use Rattle.snap_durable.specs.declared.files.Files.{Files}
use Rattle.snap_durable.specs.declared.logged.Unserved.{Unserved}
use Rattle.snap_durable.specs.declared.shortened.UnservedFiles.{UnservedFiles}
use Rattle.snap_durable.specs.declared.shortened.UnservedFiles.TheVariants.{Replay, Differs, NotRebased, Stopped, Unknown}
use Rattle.snap_durable.proofs.BackLaws.{back_of, gives_started}
use Rattle.snap_durable.proofs.CameLaws.{feed_or_none}
use Rattle.snap_durable.proofs.FileLaws.{left_counts, lines_on}
use Rattle.snap_durable.proofs.LeavesLaws.{both_apart, longer_some}
use Rattle.snap_durable.proofs.TurnLaws.{leaves_at, leaves_more, no_part}

-- a crash behind the whole input
done_leaves : (u ended : KeptValue) (bytes text : List ℕ) (before after : Option (List ℕ)) → DoneTurns bytes u before ended after → GivesBack text ended → LeavesTurns u (none_yet line_limit) (bytes ++ 10 ∷ []) text before after
done_leaves u ended bytes text before after done gives = by (feed_or_none (batched (none_yet line_limit) bytes).held done.last done.is)
  where
    all : LeavesTurns u (none_yet line_limit) (bytes ++ done.last) text before after
    all = record {
      turns = done.turns;
      said = done.said;
      value = ended;
      turned = done.turned;
      last = no_part;
      timely = inr (omega arith);
      more = [];
      lines = done.lines ∙ sym (append-nil (whole_in_turns done.turns));
      gives = inl (refl, gives);
      between = after;
      written = done.written;
      answered = inl refl;
    }

    by : (done.last ≡ []) ⊎ (done.last ≡ 10 ∷ []) → LeavesTurns u (none_yet line_limit) (bytes ++ 10 ∷ []) text before after
    by (inl none) = leaves_more u (none_yet line_limit) bytes (10 ∷ []) text before after (subst (λ (l : List ℕ). LeavesTurns u (none_yet line_limit) l text before after) (ap (λ (l : List ℕ). bytes ++ l) none ∙ append-nil bytes) all)
    by (inr feed) = subst (λ (l : List ℕ). LeavesTurns u (none_yet line_limit) (bytes ++ l) text before after) feed all

-- the same where nothing was answered
pub unread_leaves : (rebases : Bool) (text left : List ℕ) (first x : Option (List ℕ)) → left ≡ text → IfSome first (λ bytes. LeavesFiles rebases bytes text left x x)
unread_leaves rebases text left None x is = tt
unread_leaves rebases text left (Some bytes) x is = record { is = inl (is, refl) }

module _ {D : Type 0} {g : Ghosts D} where
  pub joined_honest : (h : Halves D g) → IsHonest h.counting → IsHonest h.other → ArePairHonest (joined h)
  joined_honest h ours theirs = by h.is_second
    where
      by : (b : Bool) → ArePairHonest (if b then record { first = h.other; second = h.counting } else record { first = h.counting; second = h.other })
      by true = (theirs, ours)
      by false = (ours, theirs)

  -- where nothing is said of what differs, all may be said
  pub no_difference : (why : UnservedFiles D g) (P : Pair D g → Sums → Type 0) → IfFilesDiffer why (λ _ _. ⊥) → IfFilesDiffer why P
  no_difference (Replay pair error) P h = tt
  no_difference (Differs pair sums) P h = absurd h
  no_difference (NotRebased pair error) P h = tt
  no_difference (Stopped pair stop) P h = tt
  no_difference (Unknown first second error) P h = tt

  module _ (rebases : Bool) (pair mid : Pair D g) (halves : Halves D g) (v begun : KeptValue) (idles : v ≡ idle_kept) (was : ArePairHonest mid → IsReplayed resumed_kept v (lines_in pair) begun) (kept : ArePairHonest mid → PairKeeps mid (lines_in pair)) (same : joined halves ≡ mid)
      (text : ArePairHonest mid → text_in halves.counting ≡ lines_in mid) where
    honest_mid : IsHonest halves.counting → IsHonest halves.other → ArePairHonest mid
    honest_mid ours theirs = subst ArePairHonest same (joined_honest halves ours theirs)

    replayed : ArePairHonest mid → IsReplayed resumed_kept idle_kept (lines_in pair) begun
    replayed honest = subst (λ (x : KeptValue). IsReplayed resumed_kept x (lines_in pair) begun) idles (was honest)

    counting_is : ArePairHonest mid → text_in halves.counting ≡ lines_in pair
    counting_is honest = text honest ∙ (kept honest).now

    lines_are : IsHonest halves.counting → IsHonest halves.other → AreLines (lines_in pair)
    lines_are ours theirs = subst AreLines (counting_is (honest_mid ours theirs)) (lines_on halves.counting ours)

    -- what the log gives back as it begins
    begins_back : IsHonest halves.counting → IsHonest halves.other → (start all : List ℕ) → Starts rebases begun.sums start → all ≡ lines_in pair ++ start → AreLines all → GivesBack all (counted_anew begun)
    begins_back ours theirs start all starts is whole =
        let it : GivesBack (lines_in pair ++ start) begun = back_of (lines_in pair ++ start) begun (gives_started rebases (lines_in pair) start begun (lines_are ours theirs) (replayed (honest_mid ours theirs)) starts (subst AreLines is whole)) in
        let here : GivesBack all begun = subst (λ (t : List ℕ). GivesBack t begun) (sym is) it in
        record { same = here.same; agrees = here.agrees }

    -- marks that differ
    pub refused_files : (why : Unserved D g) (files : UnservedFiles D g) → IfDiffers why (λ log sums. (log ≡ halves.counting) × (sums ≡ begun.sums) × (marks_agree sums ≡ false))
        → IfFilesDiffer files (DiffersIn why halves.other halves.is_second)
        → IfFilesDiffer files (λ pair_new sums. AreRefused pair pair_new sums)
    refused_files why (Replay p error) differs is = tt
    refused_files why (Differs p sums) differs (log, why_is, p_is) =
        let found = subst (λ (w : Unserved D g). IfDiffers w (λ log sums. (log ≡ halves.counting) × (sums ≡ begun.sums) × (marks_agree sums ≡ false))) why_is differs in
        let pair_is : p ≡ mid = p_is ∙ ap (λ (l : Log D g). joined (record { counting = l; other = halves.other; is_second = halves.is_second })) found.0 ∙ same in
        record {
          differs = found.2;
          lines = λ honest. let here : ArePairHonest mid = subst ArePairHonest pair_is honest in ap (λ (q : Pair D g). lines_in q) pair_is ∙ (kept here).now;
          begun = begun;
          found = sym found.1;
          replayed = λ honest. replayed (subst ArePairHonest pair_is honest);
        }
    refused_files why (NotRebased p error) differs is = tt
    refused_files why (Stopped p stop) differs is = tt
    refused_files why (Unknown one two error) differs is = tt

    module _ (none : IsHonest halves.other → halves.is_second ≡ false → text_in halves.other ≡ []) (some : IsHonest halves.counting → halves.is_second ≡ true → 0 < length (text_in halves.counting)) where
      -- a crash as the run was to begin
      pub unstarted_leaves : (first x : Option (List ℕ)) (disk one two : D) → one ≡ (if halves.is_second then disk_of halves.other else disk) → two ≡ (if halves.is_second then disk else disk_of halves.other) → (IsTrue (g.is_clean disk) → IsHonest halves.counting)
          → (IsTrue (g.is_clean disk) → (c : List ℕ) → g.may_leave disk c → (log_text c ≡ text_in halves.counting) ⊎ ((start : List ℕ) × Starts rebases begun.sums start × IsBeforeOrAfter (text_in halves.counting) start c))
          → IsTrue (g.is_clean one) × IsTrue (g.is_clean two) → (c d : List ℕ) → g.may_leave one c → g.may_leave two d → IfSome first (λ bytes. LeavesFiles rebases bytes (lines_in pair) (pair_text c d) x x)
      unstarted_leaves first x disk one two one_is two_is clean crash honest c d left right =
          left_counts halves.is_second disk (besides.Idle halves.other) (λ (t : List ℕ). IfSome first (λ bytes. LeavesFiles rebases bytes (lines_in pair) t x x)) theirs none each c d (subst (λ (e : D). g.may_leave e c) one_is left) (subst (λ (e : D). g.may_leave e d) two_is right)
        where
          apart : IsTrue (g.is_clean disk) × IsTrue (g.is_clean (disk_of halves.other))
          apart = both_apart (λ (d : D). IsTrue (g.is_clean d)) halves.is_second disk (disk_of halves.other) (subst (λ (d : D). IsTrue (g.is_clean d)) one_is honest.0, subst (λ (d : D). IsTrue (g.is_clean d)) two_is honest.1)

          ours : IsHonest halves.counting
          ours = clean apart.0

          theirs : IsHonest halves.other
          theirs = apart.1

          same_text : text_in halves.counting ≡ lines_in pair
          same_text = counting_is (honest_mid ours theirs)

          before : (t : List ℕ) → t ≡ text_in halves.counting → (halves.is_second ≡ true → 0 < length t) × IfSome first (λ bytes. LeavesFiles rebases bytes (lines_in pair) t x x)
          before t is = ((λ second. subst (λ (l : List ℕ). 0 < length l) (sym is) (some ours second)), unread_leaves rebases (lines_in pair) t first x (is ∙ same_text))

          behind : (o : Option (List ℕ)) (start t : List ℕ) → Starts rebases begun.sums start → GivesBack t (counted_anew begun) → IfSome o (λ bytes. LeavesFiles rebases bytes (lines_in pair) t x x)
          behind None start t starts gives = tt
          behind (Some bytes) start t starts gives = record { is = inr (begun, start, replayed (honest_mid ours theirs), starts, leaves_at (counted_anew begun) (none_yet line_limit) (bytes ++ 10 ∷ []) t x gives) }

          after : (start y : List ℕ) → Starts rebases begun.sums start → log_text y ≡ text_in halves.counting ++ start → (halves.is_second ≡ true → 0 < length (log_text y)) × IfSome first (λ bytes. LeavesFiles rebases bytes (lines_in pair) (log_text y) x x)
          after start y starts is = (
            (λ second. subst (λ (l : List ℕ). 0 < length l) (sym is) (longer_some (text_in halves.counting) start (some ours second))),
            behind first start (log_text y) starts (begins_back ours theirs start (log_text y) starts (is ∙ ap (λ (t : List ℕ). t ++ start) same_text) (text_lines y)),
          )

          by : (y : List ℕ) → (log_text y ≡ text_in halves.counting) ⊎ ((start : List ℕ) × Starts rebases begun.sums start × IsBeforeOrAfter (text_in halves.counting) start y)
              → (halves.is_second ≡ true → 0 < length (log_text y)) × IfSome first (λ bytes. LeavesFiles rebases bytes (lines_in pair) (log_text y) x x)
          by y (inl is) = before (log_text y) is
          by y (inr (start, starts, inl is)) = before (log_text y) is
          by y (inr (start, starts, inr is)) = after start y starts is

          each : (y : List ℕ) → g.may_leave disk y → (halves.is_second ≡ true → 0 < length (log_text y)) × IfSome first (λ bytes. LeavesFiles rebases bytes (lines_in pair) (log_text y) x x)
          each y may = by y (crash apart.0 y may)

      module _ (u : KeptValue) (go : Log D g) (goes : HasStarted rebases begun.sums halves.counting go) (honest : IsHonest go → IsHonest halves.counting) (counted : u ≡ counted_anew begun) where
        abbrev begins : Files D g
        begins = record { counting = go; beside = besides.Idle halves.other; is_second = halves.is_second }

        -- one of the files counts as the run begins
        pub begun_apart : AreApart begins
        begun_apart = record {
          none = none;
          some = λ ours is. subst (λ (l : List ℕ). 0 < length l) (sym (goes.keeps ours).now) (longer_some (text_in halves.counting) goes.start (some (honest ours) is));
        }

        begun_mid : AreFilesHonest begins → ArePairHonest mid
        begun_mid are = honest_mid (honest are.0) are.1

        begun_stands : AreFilesHonest begins → FilesStand u begins
        begun_stands are =
            let is : text_in go ≡ lines_in pair ++ goes.start = (goes.keeps are.0).now ∙ ap (λ (t : List ℕ). t ++ goes.start) (counting_is (begun_mid are)) in
            record {
              back = subst (λ (x : KeptValue). GivesBack (text_in go) x) (sym counted) (begins_back (honest are.0) are.1 goes.start (text_in go) goes.starts is (lines_on go are.0));
              written = tt;
            }

        -- what a crash leaves of turns, it leaves of the run
        of_turns : AreFilesHonest begins → (first before after : Option (List ℕ)) (t : List ℕ) → IfSome first (λ bytes. LeavesTurns u (none_yet line_limit) (bytes ++ 10 ∷ []) t before after) → IfSome first (λ bytes. LeavesFiles rebases bytes (lines_in pair) t before after)
        of_turns are None before after t leaves = tt
        of_turns are (Some bytes) before after t leaves = record {
          is = inr (begun, goes.start, replayed (begun_mid are), goes.starts, subst (λ (x : KeptValue). LeavesTurns x (none_yet line_limit) (bytes ++ 10 ∷ []) t before after) counted leaves);
        }

        -- a crash on the way
        pub stopped_leaves : (ended : EndedFiles D g) (first before after : Option (List ℕ)) (one two : D) → one ≡ first_end ended → two ≡ second_end ended
            → (AreEndsHonest ended → AreFilesHonest begins × (FilesStand u begins → (c d : List ℕ) → g.may_leave (first_end ended) c → g.may_leave (second_end ended) d → IfSome first (λ bytes. LeavesTurns u (none_yet line_limit) (bytes ++ 10 ∷ []) (pair_text c d) before after)))
            → IsTrue (g.is_clean one) × IsTrue (g.is_clean two) → (c d : List ℕ) → g.may_leave one c → g.may_leave two d → IfSome first (λ bytes. LeavesFiles rebases bytes (lines_in pair) (pair_text c d) before after)
        stopped_leaves ended first before after one two one_is two_is crash clean c d left right =
            let it = crash (subst (λ (e : D). IsTrue (g.is_clean e)) one_is clean.0, subst (λ (e : D). IsTrue (g.is_clean e)) two_is clean.1) in
            of_turns it.0 first before after (pair_text c d) (it.1 (begun_stands it.0) c d (subst (λ (e : D). g.may_leave e c) one_is left) (subst (λ (e : D). g.may_leave e d) two_is right))

        module _ (files : Files D g) (pair_new : Pair D g) (ended : KeptValue) (clean : ArePairHonest pair_new → AreFilesHonest files) (apart : AreApart files) (lines : ArePairHonest pair_new → AreApart files → lines_in pair_new ≡ text_in files.counting)
            (stand : AreFilesHonest files → AreFilesHonest begins × (FilesStand u begins → FilesStand ended files)) where
          ended_back : ArePairHonest pair_new → GivesBack (text_in files.counting) ended
          ended_back are = let it = stand (clean are) in (it.1 (begun_stands it.0)).back

          -- all lines were answered
          pub served_files : (first before after : Option (List ℕ)) → IfSome first (λ bytes. DoneTurns bytes u before ended after) → IfSome first (λ bytes. HasServedFiles rebases bytes pair before pair_new after)
          served_files None before after done = tt
          served_files (Some bytes) before after done = record {
            begun = begun;
            ended = ended;
            replayed = λ are. replayed (begun_mid (stand (clean are)).0);
            start = goes.start;
            starts = goes.starts;
            done = subst (λ (x : KeptValue). DoneTurns bytes x before ended after) counted done;
            keeps = λ are. pair_keeps pair_new are;
            back = λ are. subst (λ (t : List ℕ). GivesBack t ended) (sym (lines are apart)) (ended_back are);
          }

          -- a crash behind them
          pub served_leaves : (first before after : Option (List ℕ)) → IfSome first (λ bytes. DoneTurns bytes u before ended after) → ArePairHonest pair_new → (c d : List ℕ) → g.may_leave (first_of pair_new) c → g.may_leave (second_of pair_new) d
              → IfSome first (λ bytes. LeavesFiles rebases bytes (lines_in pair) (pair_text c d) before after)
          served_leaves first before after done are c d left right = of_turns (stand (clean are)).0 first before after (pair_text c d) (by first done)
            where
              gives : GivesBack (pair_text c d) ended
              gives = subst (λ (t : List ℕ). GivesBack t ended) (sym ((pair_keeps pair_new are).crash c d left right ∙ lines are apart)) (ended_back are)

              by : (o : Option (List ℕ)) → IfSome o (λ bytes. DoneTurns bytes u before ended after) → IfSome o (λ bytes. LeavesTurns u (none_yet line_limit) (bytes ++ 10 ∷ []) (pair_text c d) before after)
              by None done = tt
              by (Some bytes) done = done_leaves u ended bytes (pair_text c d) before after done gives
