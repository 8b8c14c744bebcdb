use Rattle.std.proofs.Common.{◌≡◌, ◌&&◌, ap}
use Rattle.std.proofs.lemmas.Bool.Decides.{Decides-and, Decides-at, Decides-eqb, Decides-like}
use Rattle.std.specs.Bool.{Decides}
use Rattle.std.specs.Cmp.Lexicographic.{pointwise, pointwise_decides, bytes_decides}
use Rattle.std.specs.Prelude.{nat_eq}
use Rattle.snap_record.specs.Labels.{Bytes}
use Rattle.snap_usage.specs.declared.usage.Usage.{Usage}
use Rattle.snap_durable.specs.declared.holding.Holding.{Holding}
use Rattle.snap_durable.proofs.moved.is_same.Goals as goal

usage_decides : (a b : Usage) → Decides (nat_eq a.blocks b.blocks && nat_eq a.inodes b.inodes) (a ≡ b)
usage_decides a b =
    Decides-like _
    (λ h i. record { blocks = h.0 i; inodes = h.1 i })
    (λ e. (ap (λ (x : Usage). x.blocks) e, ap (λ (x : Usage). x.inodes) e))
    (Decides-and _ _ (Decides-eqb a.blocks b.blocks) (Decides-eqb a.inodes b.inodes))

holding_decides : (a b : Holding) → Decides ((nat_eq a.charged.blocks b.charged.blocks && nat_eq a.charged.inodes b.charged.inodes) && ((nat_eq a.limit.blocks b.limit.blocks && nat_eq a.limit.inodes b.limit.inodes) && (nat_eq a.committed b.committed && (nat_eq a.active b.active && (nat_eq a.views b.views && nat_eq a.leases b.leases))))) (a ≡ b)
holding_decides a b =
    Decides-like _
    (λ h i. record { charged = h.0 i; limit = h.1.0 i; committed = h.1.1.0 i; active = h.1.1.1.0 i; views = h.1.1.1.1.0 i; leases = h.1.1.1.1.1 i })
    (λ e. (ap (λ (x : Holding). x.charged) e, (ap (λ (x : Holding). x.limit) e, (ap (λ (x : Holding). x.committed) e, (ap (λ (x : Holding). x.active) e, (ap (λ (x : Holding). x.views) e, ap (λ (x : Holding). x.leases) e))))))
    (Decides-and _ _ (usage_decides a.charged b.charged) (Decides-and _ _ (usage_decides a.limit b.limit)
    (Decides-and _ _ (Decides-eqb a.committed b.committed) (Decides-and _ _ (Decides-eqb a.active b.active) (Decides-and _ _ (Decides-eqb a.views b.views) (Decides-eqb a.leases b.leases))))))

named_decides : (a b : Bytes × Holding) → Decides (pointwise nat_eq a.0 b.0 && ((nat_eq a.1.charged.blocks b.1.charged.blocks && nat_eq a.1.charged.inodes b.1.charged.inodes) && ((nat_eq a.1.limit.blocks b.1.limit.blocks && nat_eq a.1.limit.inodes b.1.limit.inodes) && (nat_eq a.1.committed b.1.committed && (nat_eq a.1.active b.1.active && (nat_eq a.1.views b.1.views && nat_eq a.1.leases b.1.leases)))))) (a ≡ b)
named_decides a b =
    Decides-like _
    (λ h i. (h.0 i, h.1 i))
    (λ e. (ap (λ (x : Bytes × Holding). x.0) e, ap (λ (x : Bytes × Holding). x.1) e))
    (Decides-and _ _ (bytes_decides a.0 b.0) (holding_decides a.1 b.1))

pub returns : goal.returns
returns c = Decides-at c.eq.result _ c.eq.ensures (pointwise_decides named_decides c.args.a.now c.args.b.now)
