-- The line of a script that makes a call which an entry of the journal has; cited by the public clause of `call_line`.
-- A call of `charge`, `trim`, `commit` and `discard` names its snapshot by the slot and the id, so the namespace and the
-- key of its line are given beside it.
use Rattle.std.specs.Prelude.{ℕ, List, [], ◌∷◌, map, Option, codes, unwrap_or}
use Rattle.std.specs.Option.{option_map, option_map_or, option_or}
use Rattle.serde_json.specs.Data.{Data, null, string, array, object, Members, no_members, member, put}
use Rattle.serde_json.specs.View.{items_of}
use Rattle.serde_json.specs.Written.{compact_text}
use Rattle.snap_record.specs.Kinds.{kind_word}
use Rattle.snap_record.specs.Labels.{Bytes, Label}
use Rattle.snap_record.specs.declared.filter.LabelFilter.{LabelFilter}
use Rattle.snap_call.specs.declared.call.Call.{Call}
use Rattle.snap_call.specs.declared.call.Call.TheVariants as calls
use Rattle.snap_history.specs.Entries.{call_kind, call_word, key_in}
use Rattle.snap_history.specs.History.{namespace_in}
use Rattle.snap_values.specs.Values.{number_data, usage_data, only, maybe, members_with_entries}

-- the value that a label has to have, or null where any will do
abbrev pub wanted_data : Option Bytes → Data
wanted_data value = option_map_or string value null

-- the labels that are asked for, in their order
abbrev pub wanted_members : List LabelFilter → Members
wanted_members [] = no_members
wanted_members (label ∷ labels) = member label.key (wanted_data label.value) (wanted_members labels)

-- labels, in their order
abbrev pub labels_data : List Label → Data
labels_data labels = object (members_with_entries string labels no_members)

-- what the line of a call has beside its word, its session and its namespace; a call on an open snapshot has the key that is given beside it
abbrev pub parts : Option Bytes → Call → Members
parts held (calls.Prepare namespace key parent labels) = member (codes "key") (string key) (member (codes "labels") (object (members_with_entries string labels no_members)) (only (codes "parent") (string parent)))
parts held (calls.View namespace key parent labels) = member (codes "key") (string key) (member (codes "labels") (object (members_with_entries string labels no_members)) (only (codes "parent") (string parent)))
parts held (calls.Charge slot id need want) = maybe (codes "key") (option_map string held) (member (codes "need") (usage_data need) (only (codes "want") (usage_data want)))
parts held (calls.Commit slot id name lease labels) =
    maybe (codes "key") (option_map string held) (maybe (codes "labels") (option_map labels_data labels)
    (maybe (codes "lease") (option_map string lease) (only (codes "name") (string name))))
parts held (calls.Update namespace key labels paths) = member (codes "key") (string key) (member (codes "labels") (object (members_with_entries string labels no_members)) (only (codes "paths") (array (items_of (map string paths)))))
parts held (calls.Walk namespace after most asked) =
    member (codes "after") (string after) (maybe (codes "kind") (option_map (λ kind. string (kind_word kind)) asked.kind)
    (member (codes "labels") (object (wanted_members asked.labels)) (member (codes "max") (number_data most)
    (maybe (codes "name") (option_map string asked.name) (maybe (codes "parent") (option_map string asked.parent) no_members)))))
parts held (calls.SetLimit namespace limit) = member (codes "blocks") (number_data limit.blocks) (only (codes "inodes") (number_data limit.inodes))
parts held (calls.NamespaceCreate namespace limit) = member (codes "blocks") (number_data limit.blocks) (only (codes "inodes") (number_data limit.inodes))
parts held (calls.NamespaceRemove namespace) = no_members
parts held (calls.LeaseCreate namespace lease until) = member (codes "lease") (string lease) (maybe (codes "until") (option_map number_data until) no_members)
parts held (calls.LeaseAdd namespace lease name) = member (codes "lease") (string lease) (only (codes "name") (string name))
parts held (calls.LeaseDrop namespace lease name) = member (codes "lease") (string lease) (only (codes "name") (string name))
parts held (calls.LeaseRelease namespace lease) = only (codes "lease") (string lease)
parts held (calls.Sweep namespace moment) = only (codes "now") (number_data moment)
parts held call = maybe (codes "key") (option_map string (option_or (key_in call) held)) no_members

-- the line of a call in the session, with its parts and the namespace that it names, or else its snapshot's: the keys in byte order
abbrev pub call_data : Bytes → ℕ → Option Bytes → Call → Data
call_data own session held calls.Session = object (member (codes "do") (string (call_word (call_kind calls.Session))) (only (codes "s") (number_data session)))
call_data own session held call = object
    (put (codes "do") (string (call_word (call_kind call))) (put (codes "ns") (string (unwrap_or (namespace_in call) own)) (put (codes "s") (number_data session) (parts held call))))

-- its text with no space between, without a line feed
unfoldable pub call_line : Bytes → ℕ → Option Bytes → Call → Bytes
call_line own session held call = compact_text (call_data own session held call)
