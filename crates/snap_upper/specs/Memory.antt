-- Which operations take no memory, so that none can be refused to them.
use Rattle.std.specs.Prelude.{◌≡◌, ℕ, ◌≤◌, length, Option, Some, None, IsSome, true}
use Rattle.snap_layer.specs.declared.content.Content.{Content}
use Rattle.snap_layer.specs.declared.content.Content.TheVariants.{Bytes, Sized}
use Rattle.snap_layer.specs.Contents.{size_of, written, resized, body_content}
use Rattle.snap_layer.specs.Tree.{Tree, at, body, number_at}
use Rattle.snap_upper.specs.declared.op.Op.{Op}
use Rattle.snap_upper.specs.declared.op.Op.TheVariants.{Write, Truncate, SetMode, Unlink, Rename, Opaque, Whiteout}
use Rattle.snap_upper.specs.After.{is_same_name}

-- the new content keeps no more bytes than the old one: of a file of a size none are kept
abbrev pub KeepsNoMore : Content → Content → Type 0
KeepsNoMore (Bytes old) new = size_of new ≤ length old
KeepsNoMore (Sized size digest) new = Unit {0}

-- the file with the number, if there is one, keeps no more bytes once its content is changed
abbrev pub IsNoGrowth : Tree → Option ℕ → (Content → Content) → Type 0
IsNoGrowth u None f = ⊥
IsNoGrowth u (Some k) f = KeepsNoMore (body_content (body u k)) (f (body_content (body u k)))

-- the operation takes no memory: it changes or takes what the upper layer itself has at the path, or does nothing
abbrev pub TakesNoMemory : Op → Tree → Type 0
-- bytes within a file of the upper layer (pwrite(2))
TakesNoMemory (Write path offset bytes) u = IsNoGrowth u (number_at u path) (λ old. written old offset bytes)
-- a file of the upper layer that is cut, or whose bytes aren't kept (truncate(2))
TakesNoMemory (Truncate path size) u = IsNoGrowth u (number_at u path) (λ old. resized old size)
-- the mode of what the upper layer has there (chmod(2))
TakesNoMemory (SetMode path mode) u = IsSome (at u path)
-- a name that the upper layer has, in whose place a whiteout may come (unlink(2))
TakesNoMemory (Unlink path) u = IsSome (number_at u path)
-- one path, or two names of one file of the upper layer (rename(2))
TakesNoMemory (Rename from to) u = is_same_name u from to ≡ true
-- the mark of a directory that the upper layer has
TakesNoMemory (Opaque path) u = IsSome (at u path)
-- as of an unlink: a directory is none of it, since the paths in it are listed
TakesNoMemory (Whiteout path) u = IsSome (number_at u path)
TakesNoMemory other u = ⊥
