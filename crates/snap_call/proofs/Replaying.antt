-- What one call does and a journal with it, the entries of a journal, and a journal with one entry more.
use Rattle.std.proofs.Common.{◌≡◌, ◌≢◌, ℕ, ◌+◌, ◌<◌, List, [], ◌∷◌, ◌++◌, length, Bool, true, false, eq-eqb, refl, sym, ap, ◌∙◌, subst, ⊎_elim, arith}
use Rattle.std.proofs.lemmas.Bool.Decides.{eqb_tells, nat_tests}
use Rattle.std.specs.Prelude.{◌==◌, nat_lt}
use Rattle.snap_call.specs.declared.call.Call.{Call}
use Rattle.snap_call.specs.declared.call.Call.TheVariants as calls
use Rattle.snap_call.specs.declared.call.Given.{Given}
use Rattle.snap_call.specs.declared.entry.Entry.{Entry}
use Rattle.snap_call.specs.declared.reply.Reply.{Reply}
use Rattle.snap_call.specs.declared.state.State.{State}
use Rattle.snap_call.specs.Records.{max_sessions}
use Rattle.snap_call.specs.Step.{step, IsAllowed}
use Rattle.snap_call.specs.Steps.{session}
use Rattle.snap_call.specs.Journal.{Replays, session_entries}
use Rattle.snap_call.proofs.Stepping.{opened, stepped}

-- what holds of no calls, and of one more before others, holds of a whole journal
pub Replays-over : (R : State → List Entry → State → Type 0) → ((s : State) → R s [] s) → ((s : State) (e : Entry) (es : List Entry) (t : State) → IsAllowed s e.call e.given → R (step s e.call e.given).0 es t → R s (e ∷ es) t)
    → (s : State) (j : List Entry) (t : State) → Replays s j t → R s j t
Replays-over R none more s [] t h = subst (R s []) (sym h) (none s)
Replays-over R none more s (e ∷ es) t h = more s e es t h.0 (Replays-over R none more (step s e.call e.given).0 es t h.2)

-- a session, where one is left
opening : (s : State) → s.sessions < max_sessions → (session s).0.entries ≡ s.entries + 1
opening s left = at (nat_lt s.sessions max_sessions) refl
  where
    at : (b : Bool) → nat_lt s.sessions max_sessions ≡ b → (opened s b).0.entries ≡ s.entries + 1
    at true is = refl
    at false is = absurd (grind (arith, nat_tests))

-- each allowed call is one entry
pub step-entries : (s : State) (call : Call) (given : Given) → IsAllowed s call given → (step s call given).0.entries ≡ s.entries + 1
step-entries s call given allowed =
    stepped (λ t u. u.entries ≡ t.entries + 1) (λ t u slots entries. entries) s call given (λ (is : call ≡ calls.Session). opening s (subst (λ (c : Call). IsAllowed s c given) is allowed))

-- over a whole journal
pub Replays-entries : (s : State) (j : List Entry) (t : State) → Replays s j t → t.entries ≡ s.entries + length j
Replays-entries = Replays-over (λ s j t. t.entries ≡ s.entries + length j) (λ s. omega arith) (λ s e es t allowed rest. omega (arith, rest, step-entries s e.call e.given allowed))

-- a journal with one entry more
pub replays_push : (s : State) (j : List Entry) (t : State) (e : Entry) → Replays s j t → IsAllowed t e.call e.given → e.reply ≡ (step t e.call e.given).1 → Replays s (j ++ e ∷ []) (step t e.call e.given).0
replays_push s [] t e h allowed is =
    (subst (λ (u : State). IsAllowed u e.call e.given) h allowed, is ∙ ap (λ (u : State). (step u e.call e.given).1) h, ap (λ (u : State). (step u e.call e.given).0) h)
replays_push s (x ∷ xs) t e h allowed is = (h.0, h.1, replays_push (step s x.call x.given).0 xs t e h.2 allowed is)

pub replays_step : (s : State) (j : List Entry) (t u : State) (e : Entry) → Replays s j t → IsAllowed t e.call e.given → step t e.call e.given ≡ (u, e.reply) → Replays s (j ++ e ∷ []) u
replays_step s j t u e h allowed is =
    subst (λ (v : State). Replays s (j ++ e ∷ []) v) (ap (λ (p : State × Reply). p.0) is)
    (replays_push s j t e h allowed (sym (ap (λ (p : State × Reply). p.1) is)))

-- the entry is its session's alone
pub own-push : (j : List Entry) (e : Entry) (n : ℕ) → e.session ≡ n → session_entries (j ++ e ∷ []) n ≡ session_entries j n ++ e ∷ []
own-push [] e n is = rw (eq-eqb e.session n is) refl
own-push (x ∷ xs) e n is = at (x.session == n) refl (own-push xs e n is)
  where
    at : (b : Bool) → (x.session == n) ≡ b → session_entries (xs ++ e ∷ []) n ≡ session_entries xs n ++ e ∷ [] → session_entries (x ∷ xs ++ e ∷ []) n ≡ session_entries (x ∷ xs) n ++ e ∷ []
    at true here next = rw here (ap (λ l. x ∷ l) next)
    at false here next = rw here next

pub own-push_other : (j : List Entry) (e : Entry) (n : ℕ) → e.session ≢ n → session_entries (j ++ e ∷ []) n ≡ session_entries j n
own-push_other [] e n ne =
    ⊎_elim
    (λ (h : ((e.session == n) ≡ true) × (e.session ≡ n)). absurd (ne h.1))
    (λ (h : ((e.session == n) ≡ false) × (e.session ≢ n)). rw h.0 refl)
    (eqb_tells e.session n)
own-push_other (x ∷ xs) e n ne = at (x.session == n) refl (own-push_other xs e n ne)
  where
    at : (b : Bool) → (x.session == n) ≡ b → session_entries (xs ++ e ∷ []) n ≡ session_entries xs n → session_entries (x ∷ xs ++ e ∷ []) n ≡ session_entries (x ∷ xs) n
    at true here next = rw here (ap (λ l. x ∷ l) next)
    at false here next = rw here next
