use Rattle.std.proofs.Common.{◌≡◌, ◌++◌, ◌∷◌, List, [], sym, ap, subst, ◌∙◌, arith}
use Rattle.std.specs.Prelude.{is_some}
use Rattle.snap_saved.specs.Values.{SavedFileValue}
use Rattle.snap_saved.specs.Saved.{file_names}
use Rattle.snap_saved.proofs.Walking.{AreFirst, AreFirst-none, next_file, AreFirst-all}
use Rattle.snap_saved.proofs.saving.files_with.Goals as goal

pub loop-number-init : goal.loop-number-init
loop-number-init c = record {
  first = subst (λ (fs : List SavedFileValue). AreFirst c.args.layer.now fs 0) (sym c.new-files.ensures.items) (AreFirst-none c.args.layer.now c.requires.layer);
  left = λ k above. c.requires.names k;
}

pub file_of-requires : goal.file_of-requires
file_of-requires c =
    let next = next_file c.args.layer.now c.requires.layer c.loop-number.files.items c.loop-number.after c.in-Some.number c.loop-number.invariant.first (sym c.next_body.ensures ∙ c.in-Some.is) in
    ap is_some next.there

pub loop-number-smaller : goal.loop-number-smaller
loop-number-smaller c =
    let next = next_file c.args.layer.now c.requires.layer c.loop-number.files.items c.loop-number.after c.in-Some.number c.loop-number.invariant.first (sym c.next_body.ensures ∙ c.in-Some.is) in
    next.fewer

pub loop-number-preserved : goal.loop-number-preserved
loop-number-preserved c =
    let t = c.args.layer.now in
    let k = c.in-Some.number in
    let next = next_file t c.requires.layer c.loop-number.files.items c.loop-number.after k c.loop-number.invariant.first (sym c.next_body.ensures ∙ c.in-Some.is) in
    let its : c.take_names-own.result ≡ file_names k t.entries = c.take_names-own.ensures.taken ∙ c.loop-number.invariant.left k next.higher in
    let file = c.in_ok-file_of.ensures next.content next.there ∙ (λ i. record { number = k; body = next.content; names = its i }) in
    let items = c.in_ok-push.ensures.items ∙ ap (λ (f : SavedFileValue). c.loop-number.files.items ++ f ∷ []) file in
    record {
      first = subst (λ (fs : List SavedFileValue). AreFirst t fs k) (sym items) next.first;
      left = λ j above. c.take_names-own.ensures.others j (λ same. omega (arith, above, same)) ∙ c.loop-number.invariant.left j (omega (arith, next.higher, above));
    }

pub returns : goal.returns
returns c = AreFirst-all c.args.layer.now c.loop-number.files.items c.loop-number.after c.loop-number.invariant.first (sym c.next_body.ensures ∙ c.in_default.is)
