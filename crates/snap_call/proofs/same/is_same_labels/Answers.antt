use Rattle.std.proofs.Common.{◌≡◌, ◌&&◌, ap}
use Rattle.std.proofs.lemmas.Bool.Decides.{Decides-and, Decides-at, Decides-like}
use Rattle.std.specs.Bool.{Decides}
use Rattle.std.specs.Cmp.Lexicographic.{pointwise, pointwise_decides, bytes_decides}
use Rattle.std.specs.Prelude.{nat_eq}
use Rattle.snap_record.specs.Labels.{Label}
use Rattle.snap_call.proofs.same.is_same_labels.Goals as goal

label_decides : (p q : Label) → Decides (pointwise nat_eq p.0 q.0 && pointwise nat_eq p.1 q.1) (p ≡ q)
label_decides p q = Decides-like _ (λ h i. (h.0 i, h.1 i)) (λ e. (ap (λ (l : Label). l.0) e, ap (λ (l : Label). l.1) e)) (Decides-and _ _ (bytes_decides p.0 q.0) (bytes_decides p.1 q.1))

pub returns : goal.returns
returns c = Decides-at c.eq.result _ c.eq.ensures (pointwise_decides label_decides c.args.a.now c.args.b.now)
