-- The steps of single calls, each by a name of its own.
use Rattle.std.specs.Prelude.{ℕ, List, Option}
use Rattle.snap_usage.specs.declared.usage.Usage.{Usage}
use Rattle.snap_record.specs.Labels.{Bytes, Label}
use Rattle.snap_record.specs.declared.filter.Filter.{Filter}
use Rattle.snap_call.specs.declared.call.Call.TheVariants as calls
use Rattle.snap_call.specs.declared.call.Given.TheVariants.{Nothing}
use Rattle.snap_call.specs.declared.reply.Reply.{Reply}
use Rattle.snap_call.specs.declared.state.State.{State}
use Rattle.snap_call.specs.Step.{step}

-- the step of Session
abbrev pub session : State → State × Reply
session s = step s calls.Session Nothing

-- the step of Remove
abbrev pub remove : State → Bytes → Bytes → State × Reply
remove s namespace key = step s (calls.Remove namespace key) Nothing

-- the step of Update
abbrev pub update : State → Bytes → Bytes → List Label → List Bytes → State × Reply
update s namespace key labels paths = step s (calls.Update namespace key labels paths) Nothing

-- the step of Walk
abbrev pub walk_infos : State → Bytes → Bytes → ℕ → Filter → State × Reply
walk_infos s namespace after most asked = step s (calls.Walk namespace after most asked) Nothing

-- the step of SetLimit
abbrev pub set_limit : State → Bytes → Usage → State × Reply
set_limit s namespace limit = step s (calls.SetLimit namespace limit) Nothing

-- the step of NamespaceCreate
abbrev pub namespace_create : State → Bytes → Usage → State × Reply
namespace_create s namespace limit = step s (calls.NamespaceCreate namespace limit) Nothing

-- the step of NamespaceRemove
abbrev pub namespace_remove : State → Bytes → State × Reply
namespace_remove s namespace = step s (calls.NamespaceRemove namespace) Nothing

-- the step of LeaseCreate
abbrev pub lease_create : State → Bytes → Bytes → Option ℕ → State × Reply
lease_create s namespace lease until = step s (calls.LeaseCreate namespace lease until) Nothing

-- the step of LeaseAdd
abbrev pub lease_add : State → Bytes → Bytes → Bytes → State × Reply
lease_add s namespace lease name = step s (calls.LeaseAdd namespace lease name) Nothing

-- the step of LeaseDrop
abbrev pub lease_drop : State → Bytes → Bytes → Bytes → State × Reply
lease_drop s namespace lease name = step s (calls.LeaseDrop namespace lease name) Nothing

-- the step of LeaseRelease
abbrev pub lease_release : State → Bytes → Bytes → State × Reply
lease_release s namespace lease = step s (calls.LeaseRelease namespace lease) Nothing
