-- How the line of a call is written: its members one after another.
use Rattle.std.specs.Prelude.{ℕ, List, map, Option, codes}
use Rattle.std.specs.Option.{option_map}
use Rattle.serde_json.specs.Data.{Data, string, array, object, Members, no_members, member}
use Rattle.serde_json.specs.View.{items_of}
use Rattle.snap_usage.specs.declared.usage.Usage.{Usage}
use Rattle.snap_record.specs.Kinds.{kind_word}
use Rattle.snap_record.specs.Labels.{Bytes, Label}
use Rattle.snap_call.specs.declared.call.Call.{Call}
use Rattle.snap_call.specs.declared.call.Call.TheVariants as calls
use Rattle.snap_history.specs.Entries.{call_word}
use Rattle.snap_history.specs.declared.kind.CallKind.{CallKind}
use Rattle.snap_history.specs.declared.kind.CallKind.TheVariants as kinds
use Rattle.snap_values.specs.Values.{number_data, usage_data, only, maybe, members_with_entries}
use Rattle.snap_values.specs.Calls.{labels_data, wanted_members}

-- the word of a call
abbrev pub word_data : CallKind → Data
word_data call = string (call_word call)

-- the namespace and the session, with which most lines end
abbrev pub ends : Bytes → ℕ → Members
ends namespace session = member (codes "ns") (string namespace) (only (codes "s") (number_data session))

-- a snapshot by its key, which may not be known
abbrev pub held_line : CallKind → Bytes → ℕ → Option Bytes → Data
held_line call namespace session key = object (member (codes "do") (word_data call) (maybe (codes "key") (option_map string key) (ends namespace session)))

-- a snapshot by its key
abbrev pub named_line : CallKind → Bytes → ℕ → Bytes → Data
named_line call namespace session key = object (member (codes "do") (word_data call) (member (codes "key") (string key) (ends namespace session)))

-- a new snapshot
abbrev pub new_line : CallKind → Bytes → ℕ → Bytes → Bytes → List Label → Data
new_line call namespace session key parent labels = object
    (member (codes "do") (word_data call)
    (member (codes "key") (string key)
    (member (codes "labels") (object (members_with_entries string labels no_members))
    (member (codes "ns") (string namespace)
    (member (codes "parent") (string parent) (only (codes "s") (number_data session)))))))

-- a namespace and its limit
abbrev pub limited_line : CallKind → Bytes → ℕ → Usage → Data
limited_line call namespace session limit = object
    (member (codes "blocks") (number_data limit.blocks)
    (member (codes "do") (word_data call) (member (codes "inodes") (number_data limit.inodes) (ends namespace session))))

-- the line of a call, in the order in which its members are written
abbrev pub ordered_data : Bytes → ℕ → Option Bytes → Call → Data
ordered_data own session held calls.Session = object (member (codes "do") (word_data kinds.Session) (only (codes "s") (number_data session)))
ordered_data own session held (calls.Prepare namespace key parent labels) = new_line kinds.Prepare namespace session key parent labels
ordered_data own session held (calls.View namespace key parent labels) = new_line kinds.View namespace session key parent labels
ordered_data own session held (calls.Charge slot id need want) = object
    (member (codes "do") (word_data kinds.Charge)
    (maybe (codes "key") (option_map string held)
    (member (codes "need") (usage_data need)
    (member (codes "ns") (string own)
    (member (codes "s") (number_data session) (only (codes "want") (usage_data want)))))))
ordered_data own session held (calls.Trim slot id) = held_line kinds.Trim own session held
ordered_data own session held (calls.Commit slot id name lease labels) = object
    (member (codes "do") (word_data kinds.Commit)
    (maybe (codes "key") (option_map string held)
    (maybe (codes "labels") (option_map labels_data labels)
    (maybe (codes "lease") (option_map string lease) (member (codes "name") (string name) (ends own session))))))
ordered_data own session held (calls.Discard slot id) = held_line kinds.Discard own session held
ordered_data own session held (calls.Remove namespace key) = named_line kinds.Remove namespace session key
ordered_data own session held (calls.Stat namespace key) = named_line kinds.Stat namespace session key
ordered_data own session held (calls.Usage namespace key) = named_line kinds.Usage namespace session key
ordered_data own session held (calls.Mounts namespace key) = named_line kinds.Mounts namespace session key
ordered_data own session held (calls.Update namespace key labels paths) = object
    (member (codes "do") (word_data kinds.Update)
    (member (codes "key") (string key)
    (member (codes "labels") (object (members_with_entries string labels no_members))
    (member (codes "ns") (string namespace)
    (member (codes "paths") (array (items_of (map string paths))) (only (codes "s") (number_data session)))))))
ordered_data own session held (calls.Walk namespace after most asked) = object
    (member (codes "after") (string after)
    (member (codes "do") (word_data kinds.Walk)
    (maybe (codes "kind") (option_map (λ kind. string (kind_word kind)) asked.kind)
    (member (codes "labels") (object (wanted_members asked.labels))
    (member (codes "max") (number_data most)
    (maybe (codes "name") (option_map string asked.name)
    (member (codes "ns") (string namespace)
    (maybe (codes "parent") (option_map string asked.parent) (only (codes "s") (number_data session))))))))))
ordered_data own session held (calls.SetLimit namespace limit) = limited_line kinds.Limit namespace session limit
ordered_data own session held (calls.NamespaceCreate namespace limit) = limited_line kinds.NamespaceCreate namespace session limit
ordered_data own session held (calls.NamespaceRemove namespace) = object (member (codes "do") (word_data kinds.NamespaceRemove) (ends namespace session))
ordered_data own session held (calls.LeaseCreate namespace lease until) = object
    (member (codes "do") (word_data kinds.LeaseCreate)
    (member (codes "lease") (string lease)
    (member (codes "ns") (string namespace)
    (member (codes "s") (number_data session)
    (maybe (codes "until") (option_map number_data until) no_members)))))
ordered_data own session held (calls.LeaseAdd namespace lease name) = object
    (member (codes "do") (word_data kinds.LeaseAdd) (member (codes "lease") (string lease) (member (codes "name") (string name) (ends namespace session))))
ordered_data own session held (calls.LeaseDrop namespace lease name) = object
    (member (codes "do") (word_data kinds.LeaseDrop) (member (codes "lease") (string lease) (member (codes "name") (string name) (ends namespace session))))
ordered_data own session held (calls.LeaseRelease namespace lease) = object
    (member (codes "do") (word_data kinds.LeaseRelease) (member (codes "lease") (string lease) (ends namespace session)))
ordered_data own session held (calls.Sweep namespace moment) = object
    (member (codes "do") (word_data kinds.Sweep) (member (codes "now") (number_data moment) (ends namespace session)))
