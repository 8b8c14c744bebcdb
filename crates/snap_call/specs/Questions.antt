-- What is asked without an entry: what the call that asks it would reply.
use Rattle.snap_call.specs.declared.call.Call.{Call}
use Rattle.snap_call.specs.declared.call.Call.TheVariants as calls
use Rattle.snap_call.specs.declared.call.Given.TheVariants.{Nothing}
use Rattle.snap_call.specs.declared.question.Question.{Question}
use Rattle.snap_call.specs.declared.question.Question.TheVariants as questions
use Rattle.snap_call.specs.declared.reply.Reply.{Reply}
use Rattle.snap_call.specs.declared.state.State.{State}
use Rattle.snap_call.specs.Step.{step}

-- the call that asks the same
abbrev pub asking : Question → Call
asking (questions.Stat namespace key) = calls.Stat namespace key
asking (questions.Usage namespace key) = calls.Usage namespace key
asking (questions.Mounts namespace key) = calls.Mounts namespace key
asking (questions.Walk namespace after most asked) = calls.Walk namespace after most asked

-- what this call would reply of the state
abbrev pub reply_to : State → Question → Reply
reply_to s question = (step s (asking question) Nothing).1
