-- An operation with the charge that it needs, step by step.
use Rattle.std.proofs.Common.{◌≡◌, ◌⊎◌, inl, inr, ℕ, ◌+◌, ◌≤◌, ◌<◌, List, ◌∷◌, length, true, false, Bool, Option, None, Some, Result, Ok, Err, refl, sym, ap, subst, ◌∙◌, arith}
use Rattle.std.specs.Prelude.{◌↔◌, ◌&&◌, not, IfErr}
use Rattle.std.proofs.lemmas.Bool.{lt-ltb, le-ltb, eq-eqb, ne_eqb}
use Rattle.snap_layer.specs.Tree.{Tree}
use Rattle.snap_path.specs.Memory.{no_memory}
use Rattle.snap_usage.specs.declared.usage.Usage.{Usage}
use Rattle.snap_merge.specs.declared.error.FsError.{FsError}
use Rattle.snap_merge.specs.declared.error.FsError.TheVariants.{NeedsCharge, OutOfMemory}
use Rattle.snap_upper.specs.declared.op.Op.{Op}
use Rattle.snap_upper.specs.After.{lists_names}
use Rattle.snap_call.specs.declared.call.Call.TheVariants as calls
use Rattle.snap_call.specs.declared.call.Given.TheVariants.{Nothing}
use Rattle.snap_call.specs.declared.refusal.Refusal.{Refusal}
use Rattle.snap_call.specs.declared.refusal.Refusal.TheVariants.{JournalFull}
use Rattle.snap_call.specs.declared.reply.Reply.{Reply}
use Rattle.snap_call.specs.declared.reply.Reply.TheVariants as replies
use Rattle.snap_call.specs.Records.{open_count}
use Rattle.snap_book.specs.declared.operation.OpFault.{OpFault}
use Rattle.snap_book.specs.declared.operation.OpFault.TheVariants as faults
use Rattle.snap_book.specs.Active.{ActiveValue}
use Rattle.snap_book.specs.Applied.{HasApplied, IsDone, IsNotDone, IsGranted, IsRefused, Needs, with_layer_and_share}
use Rattle.snap_book.specs.Book.{AnsweredBy, BookValue}
use Rattle.snap_book.specs.Files.{worked}
use Rattle.snap_book.specs.Wanted.{needed_by, wanted_charge}
use Rattle.snap_world.specs.declared.applied.Changed.{Changed}
use Rattle.snap_world.specs.declared.applied.Unapplied.{Unapplied}
use Rattle.snap_world.specs.declared.applied.Unapplied.TheVariants.{File, Charge, NoSession, NoHand}
use Rattle.snap_world.specs.declared.step.Answer.{Answer}
use Rattle.snap_world.specs.declared.step.Answer.TheVariants as answers
use Rattle.snap_world.specs.declared.step.Step.TheVariants.{Hand, Locked}
use Rattle.snap_world.specs.Applied.{Applies, IsAnswerOf, OperatesWithin, PlaceApplied, is_charged, need_of}
use Rattle.snap_world.specs.Move.{charged, is_unsealed, is_working, meets}
use Rattle.snap_world.specs.Runs.{Moves}
use Rattle.snap_world.specs.World.{Fits, HandValue, WorldValue, hand_at, with_hand, world_of}
use Rattle.snap_world.proofs.Does.{charge_does, does_moves, file_errs, file_moves, no_file, no_session}
use Rattle.snap_world.proofs.Fitting.{fits_file, fits_locked}
use Rattle.snap_world.proofs.Places.{hand_at-own, with_hand-twice, with_hand-again}
use Rattle.snap_world.proofs.Steps.{in_session, missed}

-- ---- what fits, after each

pub fits_applied : (w v : WorldValue) (n slot id : ℕ) (op : Op) (extra : Usage) (answer : Answer) → Fits w → OperatesWithin w n slot id op extra answer v → Fits v
fits_applied w v n slot id op extra answer fit (inl moved) = fits_file w v slot op answer fit moved.0
fits_applied w v n slot id op extra answer fit (inr (need, first, inl refused)) = fits_locked w v n (calls.Charge slot id need (wanted_charge need extra)) answer fit refused.0
fits_applied w v n slot id op extra answer fit (inr (need, first, inr (now, mid, granted, again))) = fits_file mid v slot op answer (fits_locked w mid n (calls.Charge slot id need (wanted_charge need extra)) (answers.Reply (replies.Charged now)) fit granted) again

-- ---- the steps, one by one

-- the hand of a snapshot whose layer may change
abbrev open_hand : ActiveValue → HandValue
open_hand a = record { snapshot = a; sealed = false }

no_names : (e : FsError) (o : Result Tree FsError) → IfErr o (λ x. e ≡ x) → IfErr o (λ x. ◌≡◌ {A = Result (Unit {0}) FsError} (Err e) (Err x))
no_names e (Ok t) h = tt
no_names e (Err x) h = ap (λ (y : FsError). Err y) h

is_done : (t : Tree) (o : Result Tree FsError) → o ≡ Ok t → IfErr o (λ x. ◌≡◌ {A = Result (Unit {0}) FsError} (Ok tt) (Err x))
is_done t (Ok u) e = tt
is_done t (Err x) e = absurd (cc)

is_made : (e : FsError) (t : Tree) (o : Result Tree FsError) → o ≡ Ok t → IfErr o (λ x. ◌≡◌ {A = Result (Unit {0}) FsError} (Err e) (Err x))
is_made e t (Ok u) h = tt
is_made e t (Err x) h = absurd (cc)

-- what an error asks for
need_in : (e : FsError) → need_of (answers.File (Err e)) ≡ needed_by e
need_in (NeedsCharge need) = refl
need_in e = refl

module _ (b : BookValue) (hands : List (Option HandValue)) (slot : ℕ) (a : ActiveValue) (at : hand_at slot hands ≡ Some (open_hand a)) where
  -- the hands with another snapshot there
  abbrev with_snapshot : ActiveValue → List (Option HandValue)
  with_snapshot v = with_hand slot (Some (open_hand v)) hands

  -- an operation that is done
  operated : (op : Op) (v : ActiveValue) → worked op a.share.usage a.layer a.lowers ≡ Ok v.layer → v ≡ with_layer_and_share a v.layer a.share.usage → Moves (world_of b hands) (Hand slot op) (answers.File (Ok tt)) (world_of b (with_snapshot v))
  operated op v ok same = file_moves b hands (with_hand slot None hands) (with_snapshot v) slot op a v (Ok tt) at ok same tt tt (λ none. is_done v.layer (worked op a.share.usage a.layer a.lowers) ok) refl (sym (with_hand-twice slot None (Some (open_hand v)) hands))

  -- and one that isn't
  not_operated : (op : Op) (e : FsError) → (e ≡ OutOfMemory no_memory) ⊎ (worked op a.share.usage a.layer a.lowers ≡ Err e)
      → (lists_names op (a.layer ∷ a.lowers) ≡ false → IfErr (worked op a.share.usage a.layer a.lowers) (λ x. ◌≡◌ {A = Result (Unit {0}) FsError} (Err e) (Err x))) → Moves (world_of b hands) (Hand slot op) (answers.File (Err e)) (world_of b hands)
  not_operated op e error first =
      file_moves b hands (with_hand slot None hands) hands slot op a a (Err e) at tt tt error refl first refl (sym (with_hand-again slot (Some (open_hand a)) hands at) ∙ sym (with_hand-twice slot None (Some (open_hand a)) hands))

  -- it needs a charge
  needs : (op : Op) (need : Usage) → Needs op a need → Moves (world_of b hands) (Hand slot op) (answers.File (Err (NeedsCharge need))) (world_of b hands)
  needs op need is = file_errs b hands hands slot op a (NeedsCharge need) at is refl

  -- a charge by a session that is open
  charged_by : (c : BookValue) (n id : ℕ) (need want : Usage) (v : ActiveValue) (reply : Reply) → Fits (world_of b hands) → n < b.state.sessions → a.share.id ≡ id
      → AnsweredBy b c n (calls.Charge a.share.slot a.share.id need want) Nothing reply → v ≡ charged a reply → (reply ≡ replies.Refused JournalFull) ↔ (b.limit ≤ length b.journal + open_count b.state.records)
      → Moves (world_of b hands) (Locked n (calls.Charge slot id need want)) (answers.Reply reply) (world_of c (with_snapshot v))
  charged_by c n id need want v reply fits opened is answered left full =
      does_moves (world_of b hands) (world_of c (with_snapshot v)) n (calls.Charge slot id need want) (answers.Reply reply) (lt-ltb n b.state.sessions opened)
      (charge_does b c hands (with_hand slot None hands) (with_snapshot v) slot n id need want a v reply fits at (eq-eqb a.share.id id is) answered left full refl (sym (with_hand-twice slot None (Some (open_hand v)) hands)))

  granted_by : (c : BookValue) (n id : ℕ) (need extra now : Usage) → Fits (world_of b hands) → IsGranted b c n id a.share need extra now
      → Moves (world_of b hands) (Locked n (calls.Charge slot id need (wanted_charge need extra))) (answers.Reply (replies.Charged now)) (world_of c (with_snapshot (with_layer_and_share a a.layer now)))
  granted_by c n id need extra now fits g =
      let room = g.room in
      charged_by c n id need (wanted_charge need extra) (with_layer_and_share a a.layer now) (replies.Charged now) fits g.may.0 g.may.1 g.recorded refl ((λ e. absurd (cc)), λ le. absurd (omega arith))

  refused_full : (why : Refusal) → replies.Refused why ≡ replies.Refused JournalFull → why ≡ JournalFull
  refused_full why e = cc

  refused_by : (c : BookValue) (n id : ℕ) (need extra : Usage) (why : Refusal) → Fits (world_of b hands) → IsRefused b c n id a.share need extra why
      → Moves (world_of b hands) (Locked n (calls.Charge slot id need (wanted_charge need extra))) (answers.Reply (replies.Refused why)) (world_of c hands)
  refused_by c n id need extra why fits r =
      subst (λ (l : List (Option HandValue)). Moves (world_of b hands) (Locked n (calls.Charge slot id need (wanted_charge need extra))) (answers.Reply (replies.Refused why)) (world_of c l)) (with_hand-again slot (Some (open_hand a)) hands at)
      (charged_by c n id need (wanted_charge need extra) a (replies.Refused why) fits r.may.0 r.may.1 r.refused refl ((λ e. r.full.0 (refused_full why e)), λ le. ap replies.Refused (r.full.1 le)))

  of_no_session : (n id : ℕ) (need extra : Usage) → b.state.sessions ≤ n → Moves (world_of b hands) (Locked n (calls.Charge slot id need (wanted_charge need extra))) answers.NoSession (world_of b hands)
  of_no_session n id need extra closed = no_session (world_of b hands) n (calls.Charge slot id need (wanted_charge need extra)) (le-ltb n b.state.sessions closed)

  of_other_id : (n id : ℕ) (need extra : Usage) → n < b.state.sessions → (a.share.id ≡ id → ⊥) → Moves (world_of b hands) (Locked n (calls.Charge slot id need (wanted_charge need extra))) answers.NoHand (world_of b hands)
  of_other_id n id need extra opened other =
      inl (in_session (world_of b hands) n (calls.Charge slot id need (wanted_charge need extra)) _ (lt-ltb n b.state.sessions opened)
      (missed (world_of b hands) slot (is_working id) _ (ap (meets (is_working id)) at ∙ ap (λ (x : Bool). x && true) (ne_eqb a.share.id id other))))

  -- ---- all of an operation, by the book's answer

  done_by : (c : BookValue) (n id : ℕ) (op : Op) (extra : Usage) (v : ActiveValue) → Fits (world_of b hands) → slot < length hands → IsDone b c n id a v op extra → OperatesWithin (world_of b hands) n slot id op extra (answers.File (Ok tt)) (world_of c (with_snapshot v))
  done_by c n id op extra v fits low (inl (ok, stays, left)) =
      inl (subst (λ (d : BookValue). Moves (world_of b hands) (Hand slot op) (answers.File (Ok tt)) (world_of d (with_snapshot v))) (sym stays) (operated op v ok left), refl)
  done_by c n id op extra v fits low (inr (need, is, granted, ok, left)) =
      inr (need, needs op need is, inr (v.share.usage, world_of c (with_snapshot mid), granted_by c n id need extra v.share.usage fits granted, again))
    where
      mid : ActiveValue
      mid = with_layer_and_share a a.layer v.share.usage

      again : Moves (world_of c (with_snapshot mid)) (Hand slot op) (answers.File (Ok tt)) (world_of c (with_snapshot v))
      again = file_moves c (with_snapshot mid) (with_hand slot None hands) (with_snapshot v) slot op mid v (Ok tt) (hand_at-own slot (Some (open_hand mid)) hands low) ok left tt tt
          (λ none. is_done v.layer (worked op v.share.usage a.layer a.lowers) ok) (sym (with_hand-twice slot (Some (open_hand mid)) None hands)) (sym (with_hand-twice slot None (Some (open_hand v)) hands))

  failed_by : (c : BookValue) (n id : ℕ) (op : Op) (extra : Usage) (v : ActiveValue) (e : FsError) → Fits (world_of b hands) → slot < length hands → IsNotDone b c n id a v op extra e → OperatesWithin (world_of b hands) n slot id op extra (answers.File (Err e)) (world_of c (with_snapshot v))
  failed_by c n id op extra v e fits low (inl (free, error, stays, left)) =
      inl (
        subst (λ (d : BookValue). Moves (world_of b hands) (Hand slot op) (answers.File (Err e)) (world_of d (with_snapshot v))) (sym stays)
            (subst (λ (x : ActiveValue). Moves (world_of b hands) (Hand slot op) (answers.File (Err e)) (world_of b (with_snapshot x))) (sym left)
            (subst (λ (l : List (Option HandValue)). Moves (world_of b hands) (Hand slot op) (answers.File (Err e)) (world_of b l)) (sym (with_hand-again slot (Some (open_hand a)) hands at))
            (not_operated op e error.error (λ none. no_names e (worked op a.share.usage a.layer a.lowers) (error.first none))))),
        need_in e ∙ free,
      )
  failed_by c n id op extra v e fits low (inr (need, is, granted, (next, ok), memory, takes, left)) =
      inr (
        need,
        needs op need is,
        inr (
          v.share.usage,
          world_of c (with_snapshot mid),
          granted_by c n id need extra v.share.usage fits granted,
          subst (λ (x : ActiveValue). Moves (world_of c (with_snapshot mid)) (Hand slot op) (answers.File (Err e)) (world_of c (with_snapshot x))) (sym left) again,
        ),
      )
    where
      mid : ActiveValue
      mid = with_layer_and_share a a.layer v.share.usage

      again : Moves (world_of c (with_snapshot mid)) (Hand slot op) (answers.File (Err e)) (world_of c (with_snapshot mid))
      again = file_moves c (with_snapshot mid) (with_hand slot None hands) (with_snapshot mid) slot op mid mid (Err e) (hand_at-own slot (Some (open_hand mid)) hands low) tt tt (inl memory) refl
          (λ none. is_made e next (worked op v.share.usage a.layer a.lowers) ok) (sym (with_hand-twice slot (Some (open_hand mid)) None hands)) (sym (with_hand-twice slot None (Some (open_hand mid)) hands))

  -- where the hand stays as it is
  stayed : (c : BookValue) (n id : ℕ) (op : Op) (extra : Usage) (v : ActiveValue) (answer : Answer) → v ≡ a → OperatesWithin (world_of b hands) n slot id op extra answer (world_of c hands) → OperatesWithin (world_of b hands) n slot id op extra answer (world_of c (with_snapshot v))
  stayed c n id op extra v answer left does =
      subst (λ (x : ActiveValue). OperatesWithin (world_of b hands) n slot id op extra answer (world_of c (with_snapshot x))) (sym left)
      (subst (λ (l : List (Option HandValue)). OperatesWithin (world_of b hands) n slot id op extra answer (world_of c l)) (sym (with_hand-again slot (Some (open_hand a)) hands at)) does)

  uncharged_by : (c : BookValue) (n id : ℕ) (op : Op) (extra : Usage) (v : ActiveValue) (need : Usage) (answer : Answer) → Needs op a need → is_charged answer ≡ false → c ≡ b → v ≡ a
      → Moves (world_of b hands) (Locked n (calls.Charge slot id need (wanted_charge need extra))) answer (world_of b hands) → OperatesWithin (world_of b hands) n slot id op extra answer (world_of c (with_snapshot v))
  uncharged_by c n id op extra v need answer is not stays left moves =
      stayed c n id op extra v answer left (subst (λ (d : BookValue). OperatesWithin (world_of b hands) n slot id op extra answer (world_of d hands)) (sym stays) (inr (need, needs op need is, inl (moves, not))))

  applied_by : (c : BookValue) (n id : ℕ) (op : Op) (extra : Usage) (v : ActiveValue) (r : Result Usage OpFault) (result : Result Changed Unapplied) → Fits (world_of b hands) → slot < length hands → HasApplied b c n id a v op extra r → IsAnswerOf v r result
      → Applies (world_of b hands) n slot id op extra result (world_of c (with_snapshot v))
  applied_by c n id op extra v (Ok count) (Ok changed) fits low (counts, done) is =
      record { steps = done_by c n id op extra v fits low done; told = (open_hand v, hand_at-own slot (Some (open_hand v)) hands low, is.0 ∙ counts, is.1) }
  applied_by c n id op extra v (Err (faults.File e)) (Err (File x)) fits low failed is =
      record { steps = subst (λ (y : FsError). OperatesWithin (world_of b hands) n slot id op extra (answers.File (Err y)) (world_of c (with_snapshot v))) (sym is) (failed_by c n id op extra v e fits low failed); told = tt }
  applied_by c n id op extra v (Err (faults.Book why)) (Err (Charge x)) fits low (need, needed, refused, left) is =
      record {
        steps = subst (λ (y : Refusal). OperatesWithin (world_of b hands) n slot id op extra (answers.Reply (replies.Refused y)) (world_of c (with_snapshot v))) (sym is)
            (stayed c n id op extra v (answers.Reply (replies.Refused why)) left (inr (need, needs op need needed, inl (refused_by c n id need extra why fits refused, refl))));
        told = tt;
      }
  applied_by c n id op extra v (Err faults.NoSession) (Err NoSession) fits low (need, needed, closed, stays, left) is =
      record { steps = uncharged_by c n id op extra v need answers.NoSession needed refl stays left (of_no_session n id need extra closed); told = tt }
  applied_by c n id op extra v (Err faults.OtherId) (Err NoHand) fits low (need, needed, opened, other, stays, left) is =
      record { steps = uncharged_by c n id op extra v need answers.NoHand needed refl stays left (of_other_id n id need extra opened other); told = tt }
  applied_by c n id op extra v r result fits low h is = absurd is

-- no hand, or a sealed one, has no operation
pub none_applied : (w : WorldValue) (n slot id : ℕ) (op : Op) (extra : Usage) → meets is_unsealed (hand_at slot w.hands) ≡ false → Moves w (Hand slot op) answers.NoHand w → Applies w n slot id op extra (Err NoHand) w
none_applied w n slot id op extra none moves = record { steps = inl (moves, refl); told = tt }

-- an operation in the place of a slot
pub place_applied : (b c : BookValue) (hands : List (Option HandValue)) (n slot id : ℕ) (op : Op) (extra : Usage) (o q : Option HandValue) (result : Result Changed Unapplied) → Fits (world_of b hands) → slot < length hands → hand_at slot hands ≡ o
    → PlaceApplied b c n id o q op extra result → Applies (world_of b hands) n slot id op extra result (world_of c (with_hand slot q hands))
place_applied b c hands n slot id op extra None q result fits low at (is, stays, left) =
    subst (λ (r : Result Changed Unapplied). Applies (world_of b hands) n slot id op extra r (world_of c (with_hand slot q hands))) (sym is)
    (subst (λ (d : BookValue). Applies (world_of b hands) n slot id op extra (Err NoHand) (world_of d (with_hand slot q hands))) (sym stays)
    (subst (λ (l : List (Option HandValue)). Applies (world_of b hands) n slot id op extra (Err NoHand) (world_of b l)) (sym (with_hand-again slot q hands (at ∙ sym left)))
    (none_applied (world_of b hands) n slot id op extra (ap (meets is_unsealed) at) (no_file b hands slot op (ap (meets is_unsealed) at)))))
place_applied b c hands n slot id op extra (Some h) q result fits low at (k, is_k, inl (sealed, is, stays, left)) =
    let shut : meets is_unsealed (hand_at slot hands) ≡ false = ap (meets is_unsealed) at ∙ ap not sealed in
    subst (λ (r : Result Changed Unapplied). Applies (world_of b hands) n slot id op extra r (world_of c (with_hand slot q hands))) (sym is)
    (subst (λ (d : BookValue). Applies (world_of b hands) n slot id op extra (Err NoHand) (world_of d (with_hand slot q hands))) (sym stays)
    (subst (λ (l : List (Option HandValue)). Applies (world_of b hands) n slot id op extra (Err NoHand) (world_of b l)) (sym (with_hand-again slot q hands (at ∙ ap (λ (x : HandValue). Some x) (sym left) ∙ sym is_k)))
    (none_applied (world_of b hands) n slot id op extra shut (no_file b hands slot op shut))))
place_applied b c hands n slot id op extra (Some h) q result fits low at (k, is_k, inr (unsealed, opened, r, applied, is)) =
    subst (λ (o : Option HandValue). Applies (world_of b hands) n slot id op extra result (world_of c (with_hand slot o hands))) (sym (is_k ∙ (λ i. Some (record { snapshot = k.snapshot; sealed = opened i }))))
    (applied_by b hands slot h.snapshot (at ∙ (λ i. Some (record { snapshot = h.snapshot; sealed = unsealed i }))) c n id op extra k.snapshot r result fits low applied is)
