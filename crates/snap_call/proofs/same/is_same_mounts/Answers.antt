use Rattle.std.proofs.Common.{◌≡◌, ◌&&◌, refl, sym, ap, true≢false}
use Rattle.std.proofs.lemmas.Bool.Decides.{Decides-and, Decides-at, Decides-like}
use Rattle.std.specs.Bool.{Decides}
use Rattle.std.specs.Cmp.Lexicographic.{pointwise, pointwise_decides, bytes_decides}
use Rattle.std.specs.Prelude.{nat_eq}
use denote.Enum.Bare.{sameb}
use Rattle.snap_mount.specs.contracts.mount.MountKind.{the_type}
use Rattle.snap_mount.specs.declared.mount.Mount.{Mount}
use Rattle.snap_mount.specs.declared.mount.MountKind.{MountKind}
use Rattle.snap_mount.specs.declared.mount.MountKind.TheVariants.{Bind, Overlay}
use Rattle.snap_call.proofs.same.is_same_mounts.Goals as goal

kind_decides : (k l : MountKind) → Decides (sameb the_type k l) (k ≡ l)
kind_decides Bind Bind = (λ h. refl, λ e. refl)
kind_decides Bind Overlay = (λ h. absurd (true≢false (sym h)), λ e. absurd (cc))
kind_decides Overlay Bind = (λ h. absurd (true≢false (sym h)), λ e. absurd (cc))
kind_decides Overlay Overlay = (λ h. refl, λ e. refl)

mount_decides : (p q : Mount) → Decides (sameb the_type p.kind q.kind && (pointwise nat_eq p.source q.source && pointwise (pointwise nat_eq) p.options q.options)) (p ≡ q)
mount_decides p q =
    Decides-like _
    (λ h i. record { kind = h.0 i; source = h.1.0 i; options = h.1.1 i })
    (λ e. (ap (λ (m : Mount). m.kind) e, (ap (λ (m : Mount). m.source) e, ap (λ (m : Mount). m.options) e)))
    (Decides-and _ _ (kind_decides p.kind q.kind) (Decides-and _ _ (bytes_decides p.source q.source) (pointwise_decides bytes_decides p.options q.options)))

pub returns : goal.returns
returns c = Decides-at c.eq.result _ c.eq.ensures (pointwise_decides mount_decides c.args.a.now c.args.b.now)
