use Rattle.std.proofs.Common.{rules, ◌≡◌, ◌+◌, ◌-◌, ◌≤◌, ◌++◌, length, take, drop, replicate, ap, arith, ◌∙◌}
use Rattle.std.proofs.lemmas.List.{take_at, take_all}
use Rattle.snap_layer.proofs.Contents.{put_is}
use Rattle.snap_layer.proofs.bytes.put_at.Goals as goal

pub returns-clause-ok : goal.returns-clause-ok
returns-clause-ok c =
    let old = c.args.items.now.items in
    let end = c.args.offset + length c.args.bytes.now in
    let whole : take c.resize.new.self.len (c.overwrite-2.new.items ++ drop (length c.overwrite-2.new.items) c.resize.new.self.items) ≡ c.overwrite-2.new.items = take_at c.overwrite-2.new.items (drop (length c.overwrite-2.new.items) c.resize.new.self.items) c.resize.new.self.len (c.overwrite-2.ensures.len ∙ c.deref_mut-2.ensures.len) in
    let most : length old ≤ end = omega (arith, c.len.ensures, c.if-end-len) in
    let fills : end - c.args.items.now.len ≡ end - length old = omega (arith, c.len.ensures) in
    let grown : c.deref_mut-2.result.now ≡ old ++ replicate (end - length old) 0 =
    c.deref_mut-2.ensures.value ∙ c.in_ok-resize.ensures.items ∙ ap (λ xs. xs ++ replicate (end - c.args.items.now.len) 0) (take_all end old most) ∙ ap (λ n. old ++ replicate n 0) fills in
    whole ∙ c.overwrite-2.ensures.after ∙ put_is old c.args.offset c.args.bytes.now (λ e. search (rules, e)) c.deref_mut-2.result.now grown
