-- What the program declares to clap: its commands and their options.
use Rattle.std.specs.Prelude.{◌≡◌, ℕ, pos, true, false, Bool, List, [], ◌∷◌, Option, Some, codes}
use Rattle.clap.specs.Simple.{App, Shape, new_rule, new_shape, shape_of, subcommand_of}
use Rattle.clap.specs.Takes.{takes}
use Rattle.clap.specs.Walk.{Row, Rule, Text, rule_of}
use Rattle.clap.specs.declared.builder.arg.Arg.{Arg}
use Rattle.clap.specs.declared.builder.command.Command.{Command}
use Rattle.clap.specs.declared.builder.command.Command.TheViews.{out-Command}
use Rattle.clap.specs.declared.builder.action.ArgAction.TheVariants.{Set, SetTrue}
use Rattle.clap.specs.declared.builder.value_parser.ValueParser.TheVariants as parser

-- an option that is given or not, as `--strict`
abbrev pub flag : Text → Rule
flag name = record (new_rule name) { long = Some name; action = Some SetTrue }

-- an option with one value, as `--log FILE`
abbrev pub valued : Text → Rule
valued name = record (new_rule name) { long = Some name; action = Some Set; value_names = 1 }

-- an option of this name with a number from 1 to 16, without which the command isn't taken
abbrev pub wanted_number : Text → Rule
wanted_number name = record (valued name) { required = true; parser = Some (parser.Signed (pos 1) (pos 16)) }

-- an option of this name with a number up to this one
abbrev pub number_to : Text → ℕ → Rule
number_to name most = record (valued name) { parser = Some (parser.Signed (pos 0) (pos most)) }

-- a word that is no option, without which the command isn't taken
abbrev pub wanted_place : Text → Rule
wanted_place name = record (new_rule name) { required = true; action = Some Set; value_names = 1 }

-- an option that has to stand beside another
abbrev pub beside_another : Rule → Rule
beside_another rule = record rule { is_free = false }

-- a command of this name that has these options
abbrev pub command_shape : Text → List Rule → Shape
command_shape name rules = record (new_shape name) { rules = rules }

-- `run [--strict] [--stop]`
abbrev pub run_shape : Shape
run_shape = command_shape (codes "run") (flag (codes "strict") ∷ flag (codes "stop") ∷ [])

-- `serve [--log FILE [--rebase]]`
abbrev pub kept_shape : Shape
kept_shape = command_shape (codes "serve") (valued (codes "log") ∷ beside_another (flag (codes "rebase")) ∷ [])

-- `serve [--log FILE [--rebase] [--checkpoint N]]`
abbrev pub serve_shape : Shape
serve_shape = command_shape (codes "serve") (valued (codes "log") ∷ beside_another (flag (codes "rebase")) ∷ beside_another (number_to (codes "checkpoint") 1000000) ∷ [])

-- `writers --workers N [--ends] [--strict]`
abbrev pub writers_shape : Shape
writers_shape = command_shape (codes "writers") (wanted_number (codes "workers") ∷ flag (codes "ends") ∷ flag (codes "strict") ∷ [])

-- `save FILE [--root ROOT] [--ns NS]`
abbrev pub save_shape : Shape
save_shape = command_shape (codes "save") (wanted_place (codes "file") ∷ valued (codes "root") ∷ valued (codes "ns") ∷ [])

-- `check FILE [--json]`
abbrev pub check_shape : Shape
check_shape = command_shape (codes "check") (wanted_place (codes "file") ∷ flag (codes "json") ∷ [])

-- `checkpoint FILE`
abbrev pub checkpoint_shape : Shape
checkpoint_shape = command_shape (codes "checkpoint") (wanted_place (codes "file") ∷ [])

-- `diff A B [--json]`
abbrev pub diff_shape : Shape
diff_shape = command_shape (codes "diff") (wanted_place (codes "a") ∷ wanted_place (codes "b") ∷ flag (codes "json") ∷ [])

-- one of these commands has to be named
abbrev pub program : App
program = record {
  top = record (new_shape (codes "snap_replay")) { is_leaf = false; has_version = true; subcommand_required = true };
  subs = run_shape ∷ serve_shape ∷ writers_shape ∷ save_shape ∷ check_shape ∷ checkpoint_shape ∷ diff_shape ∷ [];
}

-- the command that the words of a command line name, the program's name first, and what clap finds of its options
unfoldable pub command_found : List Text → Option (Text × List Row)
command_found words = subcommand_of program words

-- clap refuses the words only for want of memory, by its own account, which is of no words of `serve`, where an option needs another
unfoldable pub are_words_taken : List Text → Bool
are_words_taken words = takes program words

-- the option is declared so, and isn't its command's subcommands' too
abbrev pub IsOption : Rule → Arg → Type 0
IsOption rule option = (rule_of option ≡ rule) × (option.global ≡ false)

-- the command is declared so, and none of its arguments is its subcommands' too
abbrev pub IsDeclared : Shape → Command → Type 0
IsDeclared shape command = (shape_of command ≡ shape) × ((out-Command command).has_globals ≡ false)
