-- What the program declares, by the clauses of clap's builders, and what clap finds by it.
use Rattle.std.specs.Prelude.{IfErr, IsErrAnd, Result, Ok, Err}
use Rattle.std.proofs.Common.{◌≡◌, ◌∙◌, refl, true, ap, ap₂, subst, sym, List}
use Rattle.clap.specs.Built.{AddsSubcommand}
use Rattle.clap.specs.Simple.{App, HasMatchesOf, Shape, app_of, is_simple, subcommand_of, subcommand_rows_of, with_subcommand}
use Rattle.clap.specs.Takes.{takes}
use Rattle.clap.specs.Values.{kind_of}
use Rattle.clap.specs.Walk.{Text}
use Rattle.clap.specs.declared.builder.command.Command.{Command}
use Rattle.clap.specs.declared.error.Error.{Error}
use Rattle.clap.specs.declared.error.kind.ErrorKind.TheVariants.{OutOfMemory}
use Rattle.clap.specs.declared.parser.matches.ArgMatches.{ArgMatches}
use Rattle.clap.proofs.OnLiterals.{clap_on_literals}
use Rattle.snap_replay.specs.Program.{IsDeclared, command_found, are_words_taken, program}

program_simple : is_simple program ≡ true
unfolding clap_on_literals
program_simple = refl

pub adds_command : (old new sub : Command) (app : App) (shape : Shape) → AddsSubcommand old sub new → IsDeclared shape sub → app_of old ≡ app → app_of new ≡ with_subcommand app shape
adds_command old new sub app shape adds declared was = adds.shape declared.1 ∙ ap₂ with_subcommand was declared.0

-- what a parse finds is what the program finds in the words
pub found_by : (app : App) (words : List Text) (m : ArgMatches) → app ≡ program → HasMatchesOf app words m → subcommand_rows_of m ≡ command_found words
unfolding command_found
found_by app words m is found = (found (ap is_simple is ∙ program_simple)).1 ∙ ap (λ a. subcommand_of a words) is

pub refused_by : (app : App) (words : List Text) (e : Error) → app ≡ program → (takes app words ≡ true → kind_of e ≡ OutOfMemory) → are_words_taken words ≡ true → kind_of e ≡ OutOfMemory
unfolding are_words_taken
refused_by app words e is refused taken = refused (ap (λ a. takes a words) is ∙ taken)

-- what holds of the error that `?` gives on
pub error_is : {T : Type 0} → (result : Result T Error) (error : Error) (P : Error → Type 0) → IsErrAnd result (λ e. e ≡ error) → P error → IfErr result P
error_is (Ok value) error P is holds = tt
error_is (Err e) error P is holds = subst P (sym is) holds
