-- The words of the commands; cited by the public clauses of `read_line` and `operations` through Lines.antt and
-- Operations.antt.
use Rattle.std.specs.Prelude.{List, ℕ, [], ◌∷◌, Bool, true, false, ◌&&◌, Option, option_map, codes, find, map}
use Rattle.std.specs.Option.{option_or}
use Rattle.std.specs.Map.{lookup}
use Rattle.std.specs.Str.{bytes_eq}
use Rattle.snap_history.specs.declared.kind.CallKind.{CallKind}
use Rattle.snap_history.specs.declared.kind.CallKind.TheVariants as kinds
use Rattle.snap_history.specs.Entries.{call_word}
use Rattle.snap_script.specs.Near.{is_near}
use Rattle.snap_script.specs.declared.verb.Verb.{Verb}
use Rattle.snap_script.specs.declared.verb.Verb.TheVariants as verbs
use Rattle.snap_script.specs.declared.verb.FileVerb.TheVariants as file_verbs
use Rattle.snap_script.specs.declared.verb.PathVerb.TheVariants as path_verbs
use Rattle.snap_script.specs.declared.verb.LookupVerb.TheVariants as lookup_verbs

-- the calls that are commands
abbrev pub calls : List CallKind
calls =
    kinds.Session ∷ kinds.Prepare ∷ kinds.View ∷ kinds.Charge ∷ kinds.Trim ∷ kinds.Commit
    ∷ kinds.Discard ∷ kinds.Remove ∷ kinds.Stat ∷ kinds.Update ∷ kinds.Usage ∷ kinds.Mounts
    ∷ kinds.Walk ∷ kinds.Limit ∷ kinds.NamespaceCreate ∷ kinds.NamespaceRemove
    ∷ kinds.LeaseCreate ∷ kinds.LeaseAdd ∷ kinds.LeaseDrop ∷ kinds.LeaseRelease ∷ kinds.Sweep
    ∷ []

-- the call that has the word, as a journal tells it
abbrev pub call_of_word : List ℕ → Option CallKind
call_of_word word = lookup (bytes_eq word) (map (λ call. (call_word call, call)) calls)

-- the words of the other commands
abbrev pub words : List (List ℕ × Verb)
words =
    (codes "open", verbs.Open)
    ∷ (codes "reopen", verbs.Reopen)
    ∷ (codes "roll", verbs.Roll)
    ∷ (codes "mkdir", verbs.File (file_verbs.At path_verbs.Mkdir))
    ∷ (codes "create", verbs.File (file_verbs.At path_verbs.Create))
    ∷ (codes "put", verbs.File (file_verbs.At path_verbs.Put))
    ∷ (codes "write", verbs.File (file_verbs.At path_verbs.Write))
    ∷ (codes "truncate", verbs.File (file_verbs.At path_verbs.Truncate))
    ∷ (codes "setmode", verbs.File (file_verbs.At path_verbs.SetMode))
    ∷ (codes "symlink", verbs.File (file_verbs.At path_verbs.Symlink))
    ∷ (codes "unlink", verbs.File (file_verbs.At path_verbs.Unlink))
    ∷ (codes "rmdir", verbs.File (file_verbs.At path_verbs.Rmdir))
    ∷ (codes "opaque", verbs.File (file_verbs.At path_verbs.Opaque))
    ∷ (codes "whiteout", verbs.File (file_verbs.At path_verbs.Whiteout))
    ∷ (codes "link", verbs.File file_verbs.Link)
    ∷ (codes "rename", verbs.File file_verbs.Rename)
    ∷ (codes "batch", verbs.Batch)
    ∷ (codes "look", verbs.Lookup lookup_verbs.Look)
    ∷ (codes "list", verbs.Lookup lookup_verbs.List)
    ∷ (codes "read", verbs.Lookup lookup_verbs.Read)
    ∷ (codes "resolve", verbs.Lookup lookup_verbs.Resolve)
    ∷ (codes "du", verbs.Lookup lookup_verbs.Usage)
    ∷ (codes "quota", verbs.Quota)
    ∷ (codes "leases", verbs.Leases)
    ∷ (codes "tree", verbs.Tree)
    ∷ (codes "diff", verbs.Diff)
    ∷ (codes "journal", verbs.Journal)
    ∷ (codes "report", verbs.Report)
    ∷ (codes "restore", verbs.Restore)
    ∷ (codes "save", verbs.Save)
    ∷ []

-- the verb of a word
unfoldable pub verb_of : List ℕ → Option Verb
verb_of word = option_or (option_map verbs.Call (call_of_word word)) (lookup (bytes_eq word) words)

-- the first word of a command that is near the word
unfoldable pub near_command : List ℕ → Option (List ℕ)
near_command word = option_or (find (λ known. is_near known word) (map call_word calls)) (find (λ known. is_near known word) (map (λ p. p.0) words))

-- the verb is that of a file command
abbrev pub is_file : Verb → Bool
is_file (verbs.File verb) = true
is_file verb = false

-- the first word of a file command in a table that is near the word
abbrev pub near_file_word : List (List ℕ × Verb) → List ℕ → Option (List ℕ)
near_file_word table word = option_map (λ p. p.0) (find (λ p. is_file p.1 && is_near p.0 word) table)

-- the same of all words
unfoldable pub near_file_command : List ℕ → Option (List ℕ)
near_file_command word = near_file_word words word
