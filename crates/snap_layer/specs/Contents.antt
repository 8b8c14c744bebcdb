-- What a regular file has, and what it has after an edit.
use Rattle.std.specs.Prelude.{ℕ, ◌+◌, ◌-◌, ◌<◌, ◌≤◌, ◌==◌, Bool, false, not, if◌then◌else◌, max, List, [], ◌∷◌, ◌++◌, length, take, drop, replicate, Option, Some, None}
use Rattle.snap_path.specs.Limits.{most_file_bytes, most_sized_bytes}
use Rattle.snap_layer.specs.declared.content.Content.{Content}
use Rattle.snap_layer.specs.declared.content.Content.TheVariants.{Bytes, Sized}
use Rattle.snap_layer.specs.declared.node.Body.{Body}
use Rattle.snap_layer.specs.declared.node.Body.TheVariants as body_kinds
use Rattle.snap_layer.specs.declared.bytes.Edit.{Edit}
use Rattle.snap_layer.specs.declared.bytes.Edit.TheVariants.{Keep, Write, Resize}

-- how many bytes a file has (stat(2), st_size)
abbrev pub size_of : Content → ℕ
size_of (Bytes bytes) = length bytes
size_of (Sized size digest) = size

-- how many a file may have: one of bytes 1,048,576, and one of a size 2 ^ 40
abbrev pub most_bytes : Content → ℕ
most_bytes (Bytes bytes) = most_file_bytes
most_bytes (Sized size digest) = most_sized_bytes

-- a digest has at most 1024 bytes
abbrev pub IsDigest : Option (List ℕ) → Type 0
IsDigest None = Unit {0}
IsDigest (Some digest) = length digest ≤ 1024

-- the file is within its limits
abbrev pub IsContent : Content → Type 0
IsContent (Bytes bytes) = length bytes ≤ most_file_bytes
IsContent (Sized size digest) = (size ≤ most_sized_bytes) × IsDigest digest

-- the bytes put into the old ones at an offset; a gap before them has zero bytes, and no bytes change nothing (pwrite(2), lseek(2))
abbrev pub bytes_written : List ℕ → ℕ → List ℕ → List ℕ
bytes_written old offset [] = old
bytes_written old offset (b ∷ bs) = take offset old ++ replicate (offset - length old) 0 ++ (b ∷ bs) ++ drop (offset + length (b ∷ bs)) old

-- the first bytes of the old ones, or all of them and zero bytes after them (truncate(2))
abbrev pub bytes_resized : List ℕ → ℕ → List ℕ
bytes_resized old size = take size old ++ replicate (size - length old) 0

-- a file with bytes put into it; one of a size reaches as far as they do, and nobody knows its content any more, but no bytes change nothing
abbrev pub written : Content → ℕ → List ℕ → Content
written (Bytes old) offset bytes = Bytes (bytes_written old offset bytes)
written (Sized size digest) offset [] = Sized size digest
written (Sized size digest) offset (b ∷ bs) = Sized (max size (offset + length (b ∷ bs))) None

-- a file brought to a number of bytes; one of another size has a content that nobody knows any more, and its own size changes nothing
abbrev pub resized : Content → ℕ → Content
resized (Bytes old) size = Bytes (bytes_resized old size)
resized (Sized old digest) size = if old == size then Sized old digest else Sized size None

-- a file after the edit
abbrev pub edited : Edit → Content → Content
edited Keep old = old
edited (Write offset bytes) old = written old offset bytes.now
edited (Resize size) old = resized old size

-- the edit changes a file of a size
abbrev pub changes_size : Edit → ℕ → Bool
changes_size Keep size = false
changes_size (Write offset bytes) size = not (length bytes.now == 0)
changes_size (Resize new) size = not (size == new)

-- a file of bytes is longer after the edit: only then it takes memory
abbrev pub Grows : Edit → Content → Type 0
Grows e (Bytes old) = length old < size_of (edited e (Bytes old))
Grows e (Sized size digest) = ⊥

-- the edit makes no file of too many bytes
abbrev pub IsShort : Edit → Content → Type 0
IsShort Keep old = Unit {0}
IsShort (Write offset bytes) old = offset + length bytes.now ≤ most_bytes old
IsShort (Resize size) old = size ≤ most_bytes old

-- what a file has
abbrev pub body_content : Option Body → Content
body_content (Some (body_kinds.File meta content)) = content
body_content other = Bytes []

-- a file edited
abbrev pub body_edited : Body → Edit → Body
body_edited (body_kinds.File meta content) e = body_kinds.File meta (edited e content)
body_edited (body_kinds.Symlink target) e = body_kinds.Symlink target
