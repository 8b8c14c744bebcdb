-- The words of pieces.
use Rattle.std.specs.Prelude.{ℕ, List, [], ◌∷◌, Option, codes}
use Rattle.std.specs.Map.{lookup}
use Rattle.std.specs.Str.{bytes_eq}
use Rattle.snap_pieces.specs.declared.word.Word.{Word}
use Rattle.snap_pieces.specs.declared.word.Word.TheVariants as words

-- each with its word
abbrev pub words_known : List (List ℕ × Word)
words_known =
    (codes "bytes", words.Bytes)
    ∷ (codes "dir", words.Dir)
    ∷ (codes "end", words.End)
    ∷ (codes "file", words.File)
    ∷ (codes "label", words.Label)
    ∷ (codes "lease", words.Lease)
    ∷ (codes "leased", words.Leased)
    ∷ (codes "name", words.Name)
    ∷ (codes "namespace", words.Namespace)
    ∷ (codes "sized", words.Sized)
    ∷ (codes "snapshot", words.Snapshot)
    ∷ (codes "store", words.Store)
    ∷ (codes "symlink", words.Symlink)
    ∷ (codes "whiteout", words.Whiteout)
    ∷ []

-- what a line of the word is
abbrev pub word_named : List ℕ → Option Word
word_named text = lookup (bytes_eq text) words_known
