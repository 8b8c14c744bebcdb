use Rattle.std.proofs.Common.{lit<, sym}
use Rattle.std.proofs.lemmas.Str.Pattern.{strip_prefix_char}
use Rattle.snap_path.proofs.Texts.{path_some, path_none}
use Rattle.snap_path.proofs.path.is_path_text.Goals as goal

pub returns-in-Some : goal.returns-in-Some
returns-in-Some c =
    let cut = strip_prefix_char 47 c.args.text.now _ c.strip_prefix.ensures.cases (lit< tt) in
    path_some _ c.in-Some.names.now _ (rw c.in-Some.is at cut) c.if-text-gt-MAX_PATH_BYTES.false (sym c.if-eq.ensures) c.are_names.ensures

pub returns-in-None : goal.returns-in-None
returns-in-None c =
    let cut = strip_prefix_char 47 c.args.text.now _ c.strip_prefix.ensures.cases (lit< tt) in
    path_none _ (rw c.in-None.is at cut) (sym c.if-eq.ensures)
