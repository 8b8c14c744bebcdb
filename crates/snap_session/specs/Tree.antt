-- The snapshots of a namespace as a forest by parent.
use Rattle.std.specs.Prelude.{ℕ, zero, suc, ◌==◌, Bool, true, ◌&&◌, if◌then◌else◌, List, [], ◌∷◌, ◌++◌, filter, filter_map, map, take, Option, None, Some}
use Rattle.std.specs.Cmp.Lexicographic.{slice_cmp}
use Rattle.std.specs.Option.{option_map, option_map_or}
use Rattle.std.specs.Ordering.{is_lt, nat_cmp}
use Rattle.snap_record.specs.Labels.{Bytes}
use Rattle.snap_record.specs.Filters.{no_filter}
use Rattle.snap_record.specs.Records.{kind_of, usage_of}
use Rattle.snap_record.specs.declared.info.Info.{Info}
use Rattle.snap_record.specs.declared.record.Record.{Record}
use Rattle.snap_call.specs.Forms.{is_page, is_start}
use Rattle.snap_call.specs.Records.{child_count, info_page, record_at}
use Rattle.snap_call.specs.State.{place_of}
use Rattle.snap_call.specs.declared.refusal.Refusal.TheVariants.{BadArgument, NoNamespace}
use Rattle.snap_call.specs.declared.state.State.{State}
use Rattle.snap_script.specs.declared.answer.TreeNode.{TreeNode}
use Rattle.snap_script.specs.declared.answer.Answer.{Answer}
use Rattle.snap_script.specs.declared.answer.Answer.TheVariants as answers
use Rattle.snap_script.specs.declared.command.Page.{Page}
use Rattle.snap_session.specs.Found.{refusal_answer}

-- the snapshot, with its own usage and the number of the namespace's snapshots on it
unfoldable pub tree_node : List Record → Record → TreeNode
tree_node rs r = record { key = r.key; kind = kind_of r.content; id = r.id; usage = usage_of r.content; parent = r.parent; children = child_count r.namespace r.key rs }

-- the snapshots of the namespace at the place, in the order of the records, which is that of their keys' bytes
abbrev pub forest : ℕ → List Record → List TreeNode
forest place rs = map (tree_node rs) (filter (λ r. r.namespace == place) rs)

-- the snapshot's key comes after the text in byte order
abbrev pub is_node_after : Bytes → TreeNode → Bool
is_node_after after node = is_lt (slice_cmp nat_cmp after node.key)

-- the first `most` of the snapshots whose keys come after the text
abbrev pub forest_page : Bytes → ℕ → List TreeNode → List TreeNode
forest_page after most nodes = take most (filter (is_node_after after) nodes)

-- the page that is asked for, or all
abbrev pub forest_part : Option Page → List TreeNode → List TreeNode
forest_part page nodes = option_map_or (λ p. forest_page p.after p.most nodes) page nodes

-- a page begins after a text of at most 1,024 bytes, and has 1 to 64 snapshots, as that of a walk
abbrev pub is_tree_asked : Option Page → Bool
is_tree_asked page = option_map_or (λ p. is_start p.after && is_page p.most) page true

-- the forest of the namespace of this name, or a page of it, or that there is none
abbrev pub tree : State → Bytes → Option Page → Answer
tree s namespace page =
    if is_tree_asked page
    then option_map_or (λ place. answers.Tree (forest_part page (forest place s.records))) (place_of namespace s.namespaces) (refusal_answer NoNamespace)
    else refusal_answer BadArgument

-- ---- a law

-- the last snapshot of a page, if it has one
abbrev pub last_node : List TreeNode → Option TreeNode
last_node [] = None
last_node (node ∷ []) = Some node
last_node (node ∷ next ∷ rest) = last_node (next ∷ rest)

-- n pages one after another, the first after the text, each other one after the last snapshot of the one before; none after an empty one
abbrev pub forest_pages : ℕ → Bytes → ℕ → List TreeNode → List TreeNode
forest_pages zero after most nodes = []
forest_pages (suc n) after most nodes = forest_page after most nodes ++ option_map_or (λ last. forest_pages n last.key most nodes) (last_node (forest_page after most nodes)) []

-- ---- what private clauses cite

-- the snapshot of an info, which has the namespace at the place
abbrev pub tree_node_of : ℕ → List Record → Info → Option TreeNode
tree_node_of place rs info = option_map (tree_node rs) (record_at place info.name rs)

-- the snapshots of the infos of a walk that asks for all
abbrev pub walked_page : ℕ → Bytes → ℕ → List Record → List TreeNode
walked_page place after most rs = filter_map (tree_node_of place rs) (info_page place after most no_filter rs)
