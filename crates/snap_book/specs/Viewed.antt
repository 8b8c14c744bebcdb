-- What clauses see of a view in its reader's hands.
use Rattle.std.specs.Prelude.{◌≡◌, ℕ, List}
use Rattle.snap_layer.specs.Tree.{Tree}
use Rattle.snap_record.specs.declared.record.Content.{Content}
use Rattle.snap_record.specs.declared.record.Content.TheVariants as contents
use Rattle.snap_call.specs.declared.reply.Reply.{Reply}
use Rattle.snap_call.specs.declared.reply.Reply.TheVariants as replies
use Rattle.snap_accounts.specs.declared.change.Change.{Change}
use Rattle.snap_accounts.specs.declared.change.Change.TheVariants.{View}

-- a view: the id of its snapshot, and the lower layers of its mount, which it shows, nearest first
pub record ViewedValue : Type 0 where
  pub id : ℕ
  pub lowers : List Tree

-- it shows layers
abbrev pub IsView : Content → Type 0
IsView (contents.View layers) = Unit {0}
IsView content = ⊥

-- the change is one more view
abbrev pub HasView : Change → Type 0
HasView (View r) = IsView r.content
HasView change = ⊥

-- a reply that is no refusal comes with one more view
abbrev pub ComesWith : Reply → Change → Type 0
ComesWith (replies.Refused why) change = Unit {0}
ComesWith reply change = HasView change

-- the change is one more view, of this id and these layers
abbrev pub IsViewOf : Change → ViewedValue → Type 0
IsViewOf (View r) v = (r.id ≡ v.id) × (r.content ≡ contents.View v.lowers)
IsViewOf change v = ⊥
