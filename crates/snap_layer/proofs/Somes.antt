-- What is said of an option, where it is some value or none.
use Rattle.std.proofs.Common.{◌≡◌, Option, Some, None, subst}
use Rattle.std.specs.Prelude.{MatchOption, IfSome}

pub match_some : {A : Type 0} (P : Type 0) (Q : A → Type 0) {o : Option A} {x : A} → o ≡ Some x → MatchOption o P Q → Q x
match_some P Q is said = subst (λ o. MatchOption o P Q) is said

pub match_none : {A : Type 0} (P : Type 0) (Q : A → Type 0) {o : Option A} → o ≡ None → MatchOption o P Q → P
match_none P Q is said = subst (λ o. MatchOption o P Q) is said

pub if_some : {A : Type 0} (Q : A → Type 0) {o : Option A} {x : A} → o ≡ Some x → IfSome o Q → Q x
if_some Q is said = subst (λ o. IfSome o Q) is said
