-- The leases of a namespace.
use Rattle.std.specs.Prelude.{List, [], ◌∷◌, Option}
use Rattle.std.specs.Option.{option_map_or}
use Rattle.snap_record.specs.Labels.{Bytes}
use Rattle.snap_lease.specs.Lease.{Lease}
use Rattle.snap_lease.specs.Told.{ToldLease, told_lease, told_leases}
use Rattle.snap_call.specs.State.{place_of}
use Rattle.snap_call.specs.declared.refusal.Refusal.TheVariants.{NoLease, NoNamespace}
use Rattle.snap_call.specs.declared.state.State.{State}
use Rattle.snap_script.specs.declared.answer.Answer.{Answer}
use Rattle.snap_script.specs.declared.answer.Answer.TheVariants as answers
use Rattle.snap_session.specs.Found.{refusal_answer}

-- the one lease, or that there is none of this name
abbrev pub one_lease : Option ToldLease → Answer
one_lease found = option_map_or (λ lease. answers.Leases (lease ∷ [])) found (refusal_answer NoLease)

-- all leases of the namespace, or the one that is named
abbrev pub leases_in : List Lease → Bytes → Option Bytes → Answer
leases_in ls namespace lease = option_map_or (λ name. one_lease (told_lease ls namespace name)) lease (answers.Leases (told_leases ls namespace))

-- those of the namespace of this name, or that there is none
abbrev pub leases : State → Bytes → Option Bytes → Answer
leases s namespace lease = option_map_or (λ place. leases_in s.leases namespace lease) (place_of namespace s.namespaces) (refusal_answer NoNamespace)
