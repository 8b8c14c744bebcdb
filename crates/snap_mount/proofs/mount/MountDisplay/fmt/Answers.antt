use Rattle.std.proofs.Common.{◌≡◌, ◌++◌, List, codes, ap, refl, ◌∙◌}
use Rattle.snap_record.specs.Labels.{Bytes}
use Rattle.snap_mount.specs.Lines.{joined_options, mount_line}
use Rattle.snap_mount.specs.Mounts.{mount_kind_word}
use Rattle.snap_mount.proofs.Writing.{written_on, written_as}
use Rattle.snap_mount.proofs.mount.MountDisplay.fmt.Goals as goal

abbrev line : Bytes → List Bytes → Bytes → Bytes
line kind options source = codes "-t " ++ kind ++ codes " -o " ++ joined_options options ++ codes " " ++ source

pub returns-clause-styled : goal.returns-clause-styled
returns-clause-styled g c = λ flush ok.
    let dash = c.in_ok-write_str.ensures.styled flush refl in
    let kind = c.in_ok-write_str-2.ensures.styled dash.flush refl in
    let option = c.in_ok-write_str-3.ensures.styled kind.flush refl in
    let options = c.in_ok-write_options.ensures option.flush refl in
    let space = c.in_ok-write_str-4.ensures.styled options.flush refl in
    let source = c.write_str-5.ensures.styled space.flush ok in
    let said : line c.as_str.result.now c.as_slice.result.now c.as_str-2.result.now ≡ mount_line c.args.self.now =
    ap (λ k. line k c.as_slice.result.now c.as_str-2.result.now) c.as_str.ensures
    ∙ (ap (λ o. line (mount_kind_word c.args.self.now.kind) o c.as_str-2.result.now) c.as_slice.ensures
    ∙ ap (λ t. line (mount_kind_word c.args.self.now.kind) c.args.self.now.options t) c.as_str-2.ensures) in
    written_as _ _ _ _ _ said
    (written_on _ _ _ _ _ _ (written_on _ _ _ _ _ _ (written_on _ _ _ _ _ _ (written_on _ _ _ _ _ _ (written_on _ _ _ _ _ _ dash kind) option) options) space) source)
