use Rattle.std.proofs.Common.{◌≡◌, ◌≤◌, inl, arith, sym, ap, ◌∙◌}
use Rattle.std.specs.Prelude.{Ok}
use Rattle.snap_layer.specs.Tree.{Tree}
use Rattle.snap_saved.specs.Values.{SavedValue}
use Rattle.snap_saved.specs.Saved.{saved, files_of}
use Rattle.snap_saved.specs.Restored.{restored_layer, put_dirs, put_each, put_file, put_root, put_whiteouts}
use Rattle.snap_saved.proofs.InTurn.{all_good, bad_dirs, bad_files, bad_next, bad_root, bad_whiteouts, refused_later}
use Rattle.snap_saved.proofs.Once.{saved_once}
use Rattle.snap_saved.proofs.Refuting.{next_low}
use Rattle.snap_saved.proofs.restoring.restore.Goals as goal

pub returns-then-next-next_number-clause-malformed : goal.returns-then-next-next_number-clause-malformed
returns-then-next-next_number-clause-malformed c = λ t ok is.
    let u = c.add_files.new.layer in
    let files : files_of u.entries u.bodies ≡ files_of t.entries t.bodies = ap (λ (s : SavedValue). s.files) c.in_ok-add_files.ensures.ok ∙ ap (λ (s : SavedValue). s.files) c.parts.view_is ∙ sym (ap (λ (s : SavedValue). s.files) is) in
    let low : u.next ≤ t.next = next_low t u ok c.in_ok-add_files.ensures.tight files in
    let next : t.next ≡ c.parts.inside.next = ap (λ (s : SavedValue). s.next) is ∙ sym (ap (λ (s : SavedValue). s.next) c.parts.view_is) in
    omega (arith, low, next, c.if-next-next_number.true, c.next_number.ensures.next)

pub returns-clause-back : goal.returns-clause-back
returns-clause-back c = λ t ok is.
    let v = c.raise.new.self in
    let files = c.parts.inside.files.items in
    let n = c.parts.inside.next in
    let s1 = c.in_ok-layer.ensures.ok in
    let s2 = c.in_ok-add_dirs.ensures.ok in
    let s3 = c.in_ok-add_whiteouts.ensures.ok in
    let s4 = c.in_ok-add_files.ensures.ok in
    let whole : saved v ≡ c.args.parts =
    ap saved c.raise.ensures.next
    ∙ (λ i. record (s4 i) { next = n })
    ∙ (λ i. record (s3 i) { files = files; next = n })
    ∙ (λ i. record (s2 i) { whiteouts = c.deref-2.result.now; files = files; next = n })
    ∙ (λ i. record (s1 i) { dirs = c.deref.result.now; whiteouts = c.deref-2.result.now; files = files; next = n })
    ∙ (λ i. record { meta = c.parts.inside.meta; opaque = c.parts.inside.opaque; dirs = c.deref.ensures.value i; whiteouts = c.deref-2.ensures.value i; files = files; next = n; most = c.parts.inside.most })
    ∙ c.parts.view_is in
    saved_once v t c.raise.ensures.layer ok (whole ∙ sym is)

pub returns-in_err-layer-clause-refused : goal.returns-in_err-layer-clause-refused
returns-in_err-layer-clause-refused c =
    let s : SavedValue = record { meta = c.parts.inside.meta; opaque = c.parts.inside.opaque; dirs = c.parts.inside.dirs.items; whiteouts = c.parts.inside.whiteouts.items; files = c.parts.inside.files.items; next = c.parts.inside.next; most = c.parts.inside.most } in
    let why = c.in_err-layer.field-0.0 in
    refused_later c.from_residual.result why (put_root c.parts.inside.meta c.parts.inside.opaque c.parts.inside.most) (restored_layer c.args.parts) c.from_residual.ensures.1 (λ e. ap restored_layer (sym c.parts.view_is) ∙ bad_root s why (e)) c.in_err-layer.ensures.refused

pub returns-in_err-add_dirs-clause-refused : goal.returns-in_err-add_dirs-clause-refused
returns-in_err-add_dirs-clause-refused c =
    let s : SavedValue = record { meta = c.parts.inside.meta; opaque = c.parts.inside.opaque; dirs = c.parts.inside.dirs.items; whiteouts = c.parts.inside.whiteouts.items; files = c.parts.inside.files.items; next = c.parts.inside.next; most = c.parts.inside.most } in
    let why = c.in_err-add_dirs.field-0.0 in
    refused_later c.from_residual-in_err-add_dirs.result why (put_dirs c.in_ok-layer.layer c.deref.result.now) (restored_layer c.args.parts) c.from_residual-in_err-add_dirs.ensures.1 (λ e. ap restored_layer (sym c.parts.view_is) ∙ bad_dirs s c.in_ok-layer.layer c.in_ok-layer.ensures.made why (ap (put_dirs c.in_ok-layer.layer) (sym c.deref.ensures.value) ∙ e)) c.in_err-add_dirs.ensures.refused

pub returns-in_err-add_whiteouts-clause-refused : goal.returns-in_err-add_whiteouts-clause-refused
returns-in_err-add_whiteouts-clause-refused c =
    let s : SavedValue = record { meta = c.parts.inside.meta; opaque = c.parts.inside.opaque; dirs = c.parts.inside.dirs.items; whiteouts = c.parts.inside.whiteouts.items; files = c.parts.inside.files.items; next = c.parts.inside.next; most = c.parts.inside.most } in
    let why = c.in_err-add_whiteouts.field-0.0 in
    refused_later c.from_residual-in_err-add_whiteouts.result why (put_whiteouts c.add_dirs.new.layer c.deref-2.result.now) (restored_layer c.args.parts) c.from_residual-in_err-add_whiteouts.ensures.1 (λ e. ap restored_layer (sym c.parts.view_is) ∙ bad_whiteouts s c.in_ok-layer.layer c.in_ok-layer.ensures.made c.add_dirs.new.layer (ap (put_dirs c.in_ok-layer.layer) (sym c.deref.ensures.value) ∙ c.in_ok-add_dirs.ensures.made) why (ap (put_whiteouts c.add_dirs.new.layer) (sym c.deref-2.ensures.value) ∙ e)) c.in_err-add_whiteouts.ensures.refused

pub returns-in_err-add_files-clause-refused : goal.returns-in_err-add_files-clause-refused
returns-in_err-add_files-clause-refused c =
    let s : SavedValue = record { meta = c.parts.inside.meta; opaque = c.parts.inside.opaque; dirs = c.parts.inside.dirs.items; whiteouts = c.parts.inside.whiteouts.items; files = c.parts.inside.files.items; next = c.parts.inside.next; most = c.parts.inside.most } in
    let why = c.in_err-add_files.field-0.0 in
    refused_later c.from_residual-in_err-add_files.result why (put_each put_file 0 c.add_whiteouts.new.layer c.parts.inside.files.items) (restored_layer c.args.parts) c.from_residual-in_err-add_files.ensures.1 (λ e. ap restored_layer (sym c.parts.view_is) ∙ bad_files s c.in_ok-layer.layer c.in_ok-layer.ensures.made c.add_dirs.new.layer (ap (put_dirs c.in_ok-layer.layer) (sym c.deref.ensures.value) ∙ c.in_ok-add_dirs.ensures.made) c.add_whiteouts.new.layer (ap (put_whiteouts c.add_dirs.new.layer) (sym c.deref-2.ensures.value) ∙ c.in_ok-add_whiteouts.ensures.made) why (e)) c.in_err-add_files.ensures.refused

pub returns-then-next-next_number-clause-refused : goal.returns-then-next-next_number-clause-refused
returns-then-next-next_number-clause-refused c =
    let s : SavedValue = record { meta = c.parts.inside.meta; opaque = c.parts.inside.opaque; dirs = c.parts.inside.dirs.items; whiteouts = c.parts.inside.whiteouts.items; files = c.parts.inside.files.items; next = c.parts.inside.next; most = c.parts.inside.most } in
    inl (ap restored_layer (sym c.parts.view_is) ∙ bad_next s c.in_ok-layer.layer c.in_ok-layer.ensures.made c.add_dirs.new.layer (ap (put_dirs c.in_ok-layer.layer) (sym c.deref.ensures.value) ∙ c.in_ok-add_dirs.ensures.made) c.add_whiteouts.new.layer (ap (put_whiteouts c.add_dirs.new.layer) (sym c.deref-2.ensures.value) ∙ c.in_ok-add_whiteouts.ensures.made) c.add_files.new.layer c.in_ok-add_files.ensures.made (omega (arith, c.if-next-next_number.true, c.next_number.ensures.next)))

pub returns-clause-made : goal.returns-clause-made
returns-clause-made c =
    let s : SavedValue = record { meta = c.parts.inside.meta; opaque = c.parts.inside.opaque; dirs = c.parts.inside.dirs.items; whiteouts = c.parts.inside.whiteouts.items; files = c.parts.inside.files.items; next = c.parts.inside.next; most = c.parts.inside.most } in
    ap restored_layer (sym c.parts.view_is) ∙ all_good s c.in_ok-layer.layer c.in_ok-layer.ensures.made c.add_dirs.new.layer (ap (put_dirs c.in_ok-layer.layer) (sym c.deref.ensures.value) ∙ c.in_ok-add_dirs.ensures.made) c.add_whiteouts.new.layer (ap (put_whiteouts c.add_dirs.new.layer) (sym c.deref-2.ensures.value) ∙ c.in_ok-add_whiteouts.ensures.made) c.add_files.new.layer c.in_ok-add_files.ensures.made (omega (arith, c.if-next-next_number.false, c.next_number.ensures.next)) ∙ ap (λ (l : Tree). Ok l) (sym c.raise.ensures.next)
