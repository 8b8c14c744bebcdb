use Rattle.std.proofs.Common.{◌≡◌, ap, ◌∙◌}
use Rattle.std.specs.Prelude.{filter_map}
use Rattle.snap_saved.specs.Saved.{dirs_of, whiteouts_of, files_of}
use Rattle.snap_saved.specs.Walked.{saved_dir_at, whiteout_at, saved_name_at}
use Rattle.snap_saved.proofs.Walking.{dirs_by_path, whiteouts_by_path, names_by_path}
use Rattle.snap_saved.proofs.saving.save.Goals as goal

pub files_with-requires-clause-names : goal.files_with-requires-clause-names
files_with-requires-clause-names c = λ k.
    let t = c.args.layer.now in
    let listed = c.deref-3.ensures.value ∙ c.in_ok-paths.ensures.paths in
    c.in_ok-names.ensures k ∙ ap (filter_map (saved_name_at t k)) listed ∙ names_by_path t c.in_ok-paths.ensures.layer k

pub returns : goal.returns
returns c =
    let t = c.args.layer.now in
    let ok = c.in_ok-paths.ensures.layer in
    let dirs : c.in_ok-dirs.dirs.items ≡ dirs_of t.entries = c.in_ok-dirs.ensures ∙ ap (filter_map (saved_dir_at t)) (c.deref.ensures.value ∙ c.in_ok-paths.ensures.paths) ∙ dirs_by_path t ok in
    let whiteouts : c.in_ok-whiteouts.whiteouts.items ≡ whiteouts_of t.entries = c.in_ok-whiteouts.ensures ∙ ap (filter_map (whiteout_at t)) (c.deref-2.ensures.value ∙ c.in_ok-paths.ensures.paths) ∙ whiteouts_by_path t ok in
    let files : c.in_ok-files.files.items ≡ files_of t.entries t.bodies = c.in_ok-files.ensures in
    λ i. record { meta = c.root_of-opaque.ensures.meta i; opaque = c.root_of-opaque.ensures.opaque i; dirs = dirs i; whiteouts = whiteouts i; files = files i; next = c.next_number.ensures.next i; most = c.most_inodes.ensures.most i }
