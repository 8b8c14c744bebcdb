-- Which replies the plain calls have beside a refusal.
use Rattle.snap_call.specs.declared.call.Call.{Call}
use Rattle.snap_call.specs.declared.call.Call.TheVariants as calls
use Rattle.snap_call.specs.declared.reply.Reply.{Reply}
use Rattle.snap_call.specs.declared.reply.Reply.TheVariants as replies

-- the reply is a refusal or one that the call has; of a view, which isn't asked for so, it says nothing
abbrev pub IsReplyTo : Call → Reply → Type 0
IsReplyTo call (replies.Refused why) = Unit {0}
IsReplyTo (calls.Remove namespace key) (replies.Removed freed) = Unit {0}
IsReplyTo (calls.Stat namespace key) (replies.Info info) = Unit {0}
IsReplyTo (calls.Update namespace key labels paths) (replies.Info info) = Unit {0}
IsReplyTo (calls.Usage namespace key) (replies.Usage usage) = Unit {0}
IsReplyTo (calls.Mounts namespace key) (replies.Mounts mounts) = Unit {0}
IsReplyTo (calls.Walk namespace after most asked) (replies.Page infos) = Unit {0}
IsReplyTo (calls.NamespaceCreate namespace limit) replies.Done = Unit {0}
IsReplyTo (calls.NamespaceRemove namespace) replies.Done = Unit {0}
IsReplyTo (calls.SetLimit namespace limit) replies.Done = Unit {0}
IsReplyTo (calls.LeaseCreate namespace lease until) replies.Done = Unit {0}
IsReplyTo (calls.LeaseAdd namespace lease name) replies.Done = Unit {0}
IsReplyTo (calls.LeaseDrop namespace lease name) replies.Done = Unit {0}
IsReplyTo (calls.LeaseRelease namespace lease) replies.Done = Unit {0}
IsReplyTo (calls.Sweep namespace moment) (replies.Swept removed leases freed) = Unit {0}
IsReplyTo (calls.View namespace key parent labels) reply = Unit {0}
IsReplyTo call reply = ⊥
