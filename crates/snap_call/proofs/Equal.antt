-- Equality of infos and of filters on labels, as their types compare them.
use Rattle.std.proofs.Common.{◌≡◌, ◌&&◌, Bool, true≢false, Option, Some, None, refl, sym, ap}
use Rattle.std.proofs.lemmas.Bool.Decides.{Decides-and, Decides-eqb, Decides-like}
use Rattle.std.specs.Bool.{Decides}
use Rattle.std.specs.Cmp.Lexicographic.{pointwise, pointwise_decides, bytes_decides}
use Rattle.std.specs.Option.{option_eq}
use Rattle.std.specs.Prelude.{nat_eq}
use denote.Enum.Bare.{sameb}
use Rattle.snap_record.specs.Labels.{Label}
use Rattle.snap_record.specs.contracts.kind.Kind.{the_type}
use Rattle.snap_record.specs.declared.filter.LabelFilter.{LabelFilter}
use Rattle.snap_record.specs.declared.info.Info.{Info}
use Rattle.snap_record.specs.declared.kind.Kind.{Kind}
use Rattle.snap_record.specs.declared.kind.Kind.TheVariants.{View, Active, Committed}

kind_decides : (k l : Kind) → Decides (sameb the_type k l) (k ≡ l)
kind_decides View View = (λ h. refl, λ e. refl)
kind_decides View Active = (λ h. absurd (true≢false (sym h)), λ e. absurd (cc))
kind_decides View Committed = (λ h. absurd (true≢false (sym h)), λ e. absurd (cc))
kind_decides Active View = (λ h. absurd (true≢false (sym h)), λ e. absurd (cc))
kind_decides Active Active = (λ h. refl, λ e. refl)
kind_decides Active Committed = (λ h. absurd (true≢false (sym h)), λ e. absurd (cc))
kind_decides Committed View = (λ h. absurd (true≢false (sym h)), λ e. absurd (cc))
kind_decides Committed Active = (λ h. absurd (true≢false (sym h)), λ e. absurd (cc))
kind_decides Committed Committed = (λ h. refl, λ e. refl)

option_decides : {A : Type 0} {eq : A → A → Bool} → ((x y : A) → Decides (eq x y) (x ≡ y)) → (o p : Option A) → Decides (option_eq eq o p) (o ≡ p)
option_decides same None None = (λ h. refl, λ e. refl)
option_decides same None (Some y) = (λ h. absurd (true≢false (sym h)), λ e. absurd (cc))
option_decides same (Some x) None = (λ h. absurd (true≢false (sym h)), λ e. absurd (cc))
option_decides {A} same (Some x) (Some y) = Decides-like _ (λ h. ap Some h) (λ (e : ◌≡◌ {A = Option A} (Some x) (Some y)). cc) (same x y)

label_decides : (a b : Label) → Decides (pointwise nat_eq a.0 b.0 && pointwise nat_eq a.1 b.1) (a ≡ b)
label_decides a b =
    Decides-like _
    (λ h i. (h.0 i, h.1 i))
    (λ e. (ap (λ (l : Label). l.0) e, ap (λ (l : Label). l.1) e))
    (Decides-and _ _ (bytes_decides a.0 b.0) (bytes_decides a.1 b.1))

-- the same infos
pub info_decides : (a b : Info) → Decides (sameb the_type a.kind b.kind && (pointwise nat_eq a.name b.name && (pointwise nat_eq a.parent b.parent && (pointwise (λ (p q : Label). pointwise nat_eq p.0 q.0 && pointwise nat_eq p.1 q.1) a.labels b.labels && (nat_eq a.created b.created && (nat_eq a.updated b.updated && nat_eq a.id b.id)))))) (a ≡ b)
info_decides a b =
    Decides-like _
    (λ h i. record { kind = h.0 i; name = h.1.0 i; parent = h.1.1.0 i; labels = h.1.1.1.0 i; created = h.1.1.1.1.0 i; updated = h.1.1.1.1.1.0 i; id = h.1.1.1.1.1.1 i })
    (λ e. (ap (λ (x : Info). x.kind) e, (ap (λ (x : Info). x.name) e, (ap (λ (x : Info). x.parent) e, (ap (λ (x : Info). x.labels) e, (ap (λ (x : Info). x.created) e, (ap (λ (x : Info). x.updated) e, ap (λ (x : Info). x.id) e)))))))
    (Decides-and _ _ (kind_decides a.kind b.kind) (Decides-and _ _ (bytes_decides a.name b.name) (Decides-and _ _ (bytes_decides a.parent b.parent) (Decides-and _ _ (pointwise_decides label_decides a.labels b.labels)
    (Decides-and _ _ (Decides-eqb a.created b.created) (Decides-and _ _ (Decides-eqb a.updated b.updated) (Decides-eqb a.id b.id)))))))

-- the same parts of a filter on labels
pub label_filter_decides : (a b : LabelFilter) → Decides (pointwise nat_eq a.key b.key && option_eq (pointwise nat_eq) a.value b.value) (a ≡ b)
label_filter_decides a b =
    Decides-like _
    (λ h i. record { key = h.0 i; value = h.1 i })
    (λ e. (ap (λ (x : LabelFilter). x.key) e, ap (λ (x : LabelFilter). x.value) e))
    (Decides-and _ _ (bytes_decides a.key b.key) (option_decides bytes_decides a.value b.value))
