-- What namespaces may take and what they take.
use Rattle.std.specs.Prelude.{if◌then◌else◌, [], ◌∷◌, Option, None, option_map, filter_map}
use Rattle.std.specs.Option.{option_map_or}
use Rattle.snap_record.specs.Labels.{Bytes}
use Rattle.snap_call.specs.State.{is_taken}
use Rattle.snap_call.specs.declared.config.Namespace.{Namespace}
use Rattle.snap_call.specs.declared.refusal.Refusal.TheVariants.{NoNamespace}
use Rattle.snap_world.specs.declared.quota.Quota.{Quota}
use Rattle.snap_world.specs.World.{WorldValue}
use Rattle.snap_world.specs.Quota.{quota}
use Rattle.snap_script.specs.declared.answer.QuotaInfo.{QuotaInfo}
use Rattle.snap_script.specs.declared.answer.Answer.{Answer}
use Rattle.snap_script.specs.declared.answer.Answer.TheVariants as answers
use Rattle.snap_session.specs.Found.{refusal_answer}

-- a quota as answers have it
abbrev pub quota_info : Quota → QuotaInfo
quota_info q = record { limit = q.limit; charged = q.charged; committed = q.committed; active = q.active; spare = q.spare; free = q.free }

-- a name with its quota, if the store has such a namespace
abbrev pub named_quota : WorldValue → Bytes → Option (Bytes × QuotaInfo)
named_quota w name = option_map (λ q. (name, quota_info q)) (quota w name)

-- that of the one namespace, or that there is none
abbrev pub one_quota : Option (Bytes × QuotaInfo) → Answer
one_quota found = option_map_or (λ quota. answers.Quota (quota ∷ [])) found (refusal_answer NoNamespace)

-- the same, where a namespace stands there
abbrev pub quota_of_place : WorldValue → Namespace → Option (Bytes × QuotaInfo)
quota_of_place w n = if is_taken n then named_quota w n.name else None

-- those of all namespaces, in the order of their places, or of the one that is named
abbrev pub quota_answer : WorldValue → Option Bytes → Answer
quota_answer w namespace = option_map_or (λ name. one_quota (named_quota w name)) namespace (answers.Quota (filter_map (quota_of_place w) w.state.namespaces))
