-- A batch, operation by operation.
use Rattle.std.proofs.Common.{◌≡◌, ◌≤◌, ◌<◌, ℕ, List, ◌∷◌, ◌+◌, length, drop, Option, Some, None, ap, sym, ◌∙◌}
use Rattle.std.specs.Prelude.{get_or}
use Rattle.std.specs.Option.{option_map_or}
use Rattle.std.proofs.lemmas.List.{at_drop_all, at_drop_more}
use Rattle.snap_upper.specs.declared.op.Op.{Op}
use Rattle.snap_record.specs.Labels.{Bytes}
use Rattle.snap_world.specs.World.{WorldValue}
use Rattle.snap_script.specs.declared.answer.Answer.{Answer}
use Rattle.snap_script.specs.declared.fault.Field.{Field}
use Rattle.snap_script.specs.declared.refused.Refused.{Refused}
use Rattle.snap_script.specs.Refusals.{refusal_in_answer}
use Rattle.snap_session.specs.About.{about_operation}
use Rattle.snap_session.specs.Commands.{all_operated, batch_answer, operated, refused_operation, unless_stopped}

-- what comes after an operation, by whether it was refused
abbrev after : ℕ → Bytes → Bytes → Op → ℕ → ℕ → ℕ → List Op → WorldValue → Option Refused → WorldValue × Answer
after session namespace key op slot id done ops w refused = option_map_or (λ why. (w, batch_answer slot done (Some (refused_operation namespace key op (done + 1) w why)) w)) refused (all_operated session namespace key slot id (done + 1) ops w)

-- the next of the operations that are left
next_is : (session : ℕ) (namespace key : Bytes) (slot id place : ℕ) (ops : List Op) (op : Op) (w : WorldValue) → place < length ops → op ≡ get_or ops place op
    → all_operated session namespace key slot id place (drop place ops) w ≡ all_operated session namespace key slot id place (op ∷ drop (place + 1) ops) w
next_is session namespace key slot id place ops op w lt is =
    at_drop_more (λ (left : List Op). all_operated session namespace key slot id place left w) ops place op lt
    ∙ ap (λ (o : Op). all_operated session namespace key slot id place (o ∷ drop (place + 1) ops) w) (sym is)

-- what it makes decides
decided : (session : ℕ) (namespace key : Bytes) (slot id place : ℕ) (ops : List Op) (op : Op) (w new : WorldValue) (answer : Answer) → place < length ops → op ≡ get_or ops place op → operated session slot id op w ≡ (new, answer)
    → all_operated session namespace key slot id place (drop place ops) w ≡ after session namespace key op slot id place (drop (place + 1) ops) new (refusal_in_answer answer)
decided session namespace key slot id place ops op w new answer lt is made =
    next_is session namespace key slot id place ops op w lt is ∙ ap (unless_stopped namespace key op slot place (all_operated session namespace key slot id (place + 1) (drop (place + 1) ops))) made

-- after one that was done the others follow
pub goes_on : (session : ℕ) (namespace key : Bytes) (slot id place : ℕ) (ops : List Op) (op : Op) (w new : WorldValue) (answer : Answer) (all : WorldValue × Answer) → place < length ops → op ≡ get_or ops place op
    → all_operated session namespace key slot id place (drop place ops) w ≡ all → operated session slot id op w ≡ (new, answer) → refusal_in_answer answer ≡ None
    → all_operated session namespace key slot id (place + 1) (drop (place + 1) ops) new ≡ all
goes_on session namespace key slot id place ops op w new answer all lt is so_far made none =
    sym (decided session namespace key slot id place ops op w new answer lt is made ∙ ap (after session namespace key op slot id place (drop (place + 1) ops) new) none) ∙ so_far

-- one that is refused is the last
pub stops : (session : ℕ) (namespace key : Bytes) (slot id place : ℕ) (ops : List Op) (op : Op) (w new : WorldValue) (answer told : Answer) (why : Refused) (of : Option Field) (all : WorldValue × Answer) → place < length ops → op ≡ get_or ops place op
    → all_operated session namespace key slot id place (drop place ops) w ≡ all → operated session slot id op w ≡ (new, answer) → refusal_in_answer answer ≡ Some why
    → of ≡ about_operation new namespace key op why → told ≡ batch_answer slot place (Some (record { number = place + 1; why = why; of = of })) new → all ≡ (new, told)
stops session namespace key slot id place ops op w new answer told why of all lt is so_far made some about tells =
    sym so_far ∙ (decided session namespace key slot id place ops op w new answer lt is made ∙ ap (after session namespace key op slot id place (drop (place + 1) ops) new) some)
    ∙ ap (λ (it : Option Field). (new, batch_answer slot place (Some (record { number = place + 1; why = why; of = it })) new)) (sym about)
    ∙ ap (λ (it : Answer). (new, it)) (sym tells)

-- none is left
pub ends : (session : ℕ) (namespace key : Bytes) (slot id place count : ℕ) (ops : List Op) (w : WorldValue) (told : Answer) (all : WorldValue × Answer) → length ops ≤ place → place ≡ count
    → all_operated session namespace key slot id place (drop place ops) w ≡ all → told ≡ batch_answer slot count None w → all ≡ (w, told)
ends session namespace key slot id place count ops w told all le same so_far tells =
    sym so_far ∙ at_drop_all (λ (left : List Op). all_operated session namespace key slot id place left w) ops place le
    ∙ ap (λ (n : ℕ). (w, batch_answer slot n None w)) same ∙ ap (λ (it : Answer). (w, it)) (sym tells)
