-- What an entry makes of a namespace's charge, by its call and its reply alone.
use Rattle.std.specs.Prelude.{ℕ, ◌+◌, min, Bool, false, if◌then◌else◌, List, [], ◌∷◌, Option, None, Some, bytes_eq, replicate, slice_index_or, slice_set}
use Rattle.std.specs.Option.{option_map, option_map_or, is_some}
use Rattle.snap_usage.specs.declared.usage.Usage.{Usage}
use Rattle.snap_usage.specs.Counted.{no_usage}
use Rattle.snap_ledger.specs.States.{minus}
use Rattle.snap_record.specs.Labels.{Bytes}
use Rattle.snap_call.specs.declared.call.Call.{Call}
use Rattle.snap_call.specs.declared.call.Given.{Given}
use Rattle.snap_call.specs.declared.call.Given.TheVariants.{Count}
use Rattle.snap_call.specs.declared.entry.Entry.{Entry}
use Rattle.snap_call.specs.declared.reply.Reply.{Reply}
use Rattle.snap_call.specs.declared.reply.Reply.TheVariants as replies
use Rattle.snap_call.specs.Step.{one}
use Rattle.snap_history.specs.Entries.{entry_info}
use Rattle.snap_history.specs.History.{namespace_in, slot_in}
use Rattle.snap_history.specs.declared.info.EntryInfo.{EntryInfo}
use Rattle.snap_history.specs.declared.change.Change.{Change}

-- what the open snapshot in a slot is charged, where the list has each in the place of its slot
abbrev pub share_of_slot : ℕ → List (Option Usage) → Option Usage
share_of_slot slot shares = slice_index_or shares slot None

abbrev pub with_share : ℕ → Option Usage → List (Option Usage) → List (Option Usage)
with_share slot share shares = slice_set shares slot share

-- the part of the charge that an entry finds, and what it leaves in its place
abbrev pub change : Usage → Usage → Change
change found left = record { found = found; left = left }

abbrev pub no_change : Change
no_change = change no_usage no_usage

-- of a call that names a namespace, which is the one or isn't
abbrev pub named_change : Bool → Reply → Change
named_change own (replies.Prepared id slot chain) = if own then change no_usage one else no_change
named_change own (replies.Removed usage) = if own then change usage no_usage else no_change
named_change own (replies.Swept removed leases freed) = if own then change freed no_usage else no_change
named_change own reply = no_change

-- the share of an open snapshot becomes another amount
abbrev pub changed_to : Usage → Option Usage → Change
changed_to left share = option_map_or (λ found. change found left) share no_change

-- of a call on an open snapshot with this share, if it is one of the namespace
abbrev pub slot_change : Reply → Given → Option Usage → Change
slot_change (replies.Charged now) given share = changed_to now share
slot_change replies.Trimmed (Count now) share = changed_to now share
slot_change (replies.Committed id usage) given share = changed_to usage share
slot_change (replies.Discarded usage) given share = changed_to no_usage share
slot_change reply given share = no_change

abbrev pub change_by : Bytes → List (Option Usage) → Given → Reply → Option Bytes → Option ℕ → Change
change_by name shares given reply (Some namespace) slot = named_change (bytes_eq namespace name) reply
change_by name shares given reply None (Some slot) = slot_change reply given (share_of_slot slot shares)
change_by name shares given reply None None = no_change

unfoldable pub change_of : Bytes → List (Option Usage) → Entry → Change
change_of name shares e = change_by name shares e.given e.reply (namespace_in e.call) (slot_in e.call)

-- the shares after it
abbrev pub named_shares : Bool → List (Option Usage) → Reply → List (Option Usage)
named_shares own shares (replies.Prepared id slot chain) = with_share slot (if own then Some one else None) shares
named_shares own shares reply = shares

abbrev pub recharged_to : ℕ → Usage → List (Option Usage) → List (Option Usage)
recharged_to slot now shares = with_share slot (option_map (λ before. now) (share_of_slot slot shares)) shares

abbrev pub slot_shares : Reply → Given → ℕ → List (Option Usage) → List (Option Usage)
slot_shares (replies.Charged now) given slot shares = recharged_to slot now shares
slot_shares replies.Trimmed (Count now) slot shares = recharged_to slot now shares
slot_shares (replies.Committed id usage) given slot shares = with_share slot None shares
slot_shares (replies.Discarded usage) given slot shares = with_share slot None shares
slot_shares reply given slot shares = shares

abbrev pub shares_by : Bytes → List (Option Usage) → Given → Reply → Option Bytes → Option ℕ → List (Option Usage)
shares_by name shares given reply (Some namespace) slot = named_shares (bytes_eq namespace name) shares reply
shares_by name shares given reply None (Some slot) = slot_shares reply given slot shares
shares_by name shares given reply None None = shares

unfoldable pub shares_after : Bytes → List (Option Usage) → Entry → List (Option Usage)
shares_after name shares e = shares_by name shares e.given e.reply (namespace_in e.call) (slot_in e.call)

-- the entry is one of the namespace
abbrev pub own_by : Bytes → List (Option Usage) → Option Bytes → Option ℕ → Bool
own_by name shares (Some namespace) slot = bytes_eq namespace name
own_by name shares None (Some slot) = is_some (share_of_slot slot shares)
own_by name shares None None = false

unfoldable pub is_own : Bytes → List (Option Usage) → Call → Bool
is_own name shares call = own_by name shares (namespace_in call) (slot_in call)

-- an amount once a part of it has become another; numbers end at 2^64 - 1, which no charge comes near
unfoldable pub turned : Usage → Usage → Usage → Usage
turned whole part to =
    let rest = minus whole part in
    record { blocks = min (rest.blocks + to.blocks) 18446744073709551615; inodes = min (rest.inodes + to.inodes) 18446744073709551615 }

-- no open snapshots, in a store with `slots` slots
abbrev pub no_shares : ℕ → List (Option Usage)
no_shares slots = replicate slots None

-- the changes of the entries
abbrev pub changes_of : Bytes → List (Option Usage) → List Entry → List Change
changes_of name shares [] = []
changes_of name shares (e ∷ es) = change_of name shares e ∷ changes_of name (shares_after name shares e) es

-- the charge before these changes, from the one after them
abbrev pub charge_before : Usage → List Change → Usage
charge_before now [] = now
charge_before now (c ∷ cs) = turned (charge_before now cs) c.left c.found

-- the entries of the namespace among these, from the charge and the shares before them; the first one has the number after this one
abbrev pub entry_infos_of : Bytes → ℕ → List (Option Usage) → Usage → List Entry → List EntryInfo
entry_infos_of name number shares charge [] = []
entry_infos_of name number shares charge (e ∷ es) =
    let c = change_of name shares e in
    let after = turned charge c.found c.left in
    let rest = entry_infos_of name (number + 1) (shares_after name shares e) after es in
    if is_own name shares e.call then entry_info (number + 1) e (Some after) ∷ rest else rest
