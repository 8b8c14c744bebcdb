-- Which commands may change a store; cited by the public clause of `Command::changes`.
use Rattle.std.specs.Prelude.{Bool, true, false, ◌&&◌, is_none, nat_le}
use Rattle.snap_call.specs.declared.config.Config.{Config}
use Rattle.snap_call.specs.Forms.{bad_field}
use Rattle.snap_script.specs.declared.command.Command.{Command}
use Rattle.snap_script.specs.declared.command.Command.TheVariants as commands

-- a store is opened: no part of the configuration is malformed, and its journal has room for an entry
abbrev pub opens_store : Config → Bool
opens_store c = is_none (bad_field c) && nat_le 1 c.journal

-- the command may change a store, or opens one; no other does
abbrev pub changes_store : Command → Bool
changes_store (commands.Open config) = opens_store config
changes_store commands.Session = true
changes_store (commands.Reopen journal) = true
changes_store (commands.Roll journal) = true
changes_store (commands.Call call) = true
changes_store (commands.Ask question) = false
changes_store (commands.Charge namespace key need want) = true
changes_store (commands.Trim namespace key) = true
changes_store (commands.Commit namespace key name lease labels) = true
changes_store (commands.Discard namespace key) = true
changes_store (commands.File namespace key operation extra) = true
changes_store (commands.Batch namespace key need ops whole) = true
changes_store (commands.Lookup namespace key asked path peek) = false
changes_store (commands.TrySweep namespace moment) = false
changes_store (commands.ChainUsage namespace key) = false
changes_store (commands.Quota namespace) = false
changes_store (commands.Leases namespace lease) = false
changes_store (commands.Tree namespace page) = false
changes_store (commands.Diff namespace key after most) = false
changes_store (commands.Journal namespace after most full) = false
changes_store commands.Report = false
changes_store (commands.Restore line) = true
changes_store (commands.Save after most) = false
