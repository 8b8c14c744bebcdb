use Rattle.std.proofs.Common.{◌≡◌, ℕ, ◌-◌, ◌++◌, length, take, drop, Ok, inr, sym, ap, subst, ◌∙◌, arith}
use Rattle.std.specs.Prelude.{suc}
use Rattle.std.specs.Option.{option_map}
use Rattle.std.proofs.lemmas.List.{take_rest}
use Rattle.snap_path.specs.Text.{Names}
use Rattle.snap_merge.specs.declared.resolve.Arrival.{Arrival}
use Rattle.snap_merge.specs.declared.resolve.Arrival.TheVariants.{Place, Link}
use Rattle.snap_merge.specs.Resolving.{following, way, start_of, words_of}
use Rattle.snap_merge.specs.Objects.{object}
use Rattle.snap_merge.specs.Reach.{Reached}
use Rattle.snap_merge.specs.Arrivals.{Leads, Ends}
use Rattle.snap_merge.proofs.Ends.{way_dirs}
use Rattle.snap_merge.proofs.resolve.resolve.Goals as goal

pub loop-words-init : goal.loop-words-init
loop-words-init c =
    let s = c.args.stack.now in
    let p = c.args.path.now in
    let k = c.min-dirs.result in
    let same = c.names-names.ensures.names in
    let words : c.in_ok-words.words ≡ drop k p = c.in_ok-words.ensures ∙ take_rest c.names-names.result.now k ∙ ap (drop k) same in
    let dirs = subst (λ (q : Names). Reached s q c.reach.result.dirs (option_map object c.reach.result.seen)) same c.reach.ensures in
    ap (λ (q : Names). way (following 40 s) s q c.in_ok-words.words) c.in_ok-place.ensures.ok
    ∙ ap (way (following 40 s) s (take k p)) words
    ∙ way_dirs (following 40 s) s p c.reach.result.dirs c.names-names.ensures.valid dirs.dirs k (omega (arith, c.min-dirs.ensures, ap length same)) (omega (arith, c.min-dirs.ensures, c.saturating_sub.ensures))

pub returns-in-Place : goal.returns-in-Place
returns-in-Place c =
    let s = c.args.stack.now in
    let due = way (following c.loop-words.links s) s c.loop-words.place c.loop-words.words in
    let leads : Leads (following c.loop-words.links s) s c.advance.new.words due (Ok (Place c.in-Place.place)) =
    subst (λ (a : Arrival). Leads (following c.loop-words.links s) s c.advance.new.words due (Ok a)) c.in-Place.is (c.in_ok-place-2.ensures.leads (following c.loop-words.links s))
    in
    let ends : Ends c.advance.new.words (Ok (Place c.in-Place.place)) = subst (λ (a : Arrival). Ends c.advance.new.words (Ok a)) c.in-Place.is c.in_ok-place-2.ensures.ends in
    sym c.loop-words.invariant ∙ leads ∙ ap (way (following c.loop-words.links s) s c.in-Place.place) ends

pub returns-then-links-eq0 : goal.returns-then-links-eq0
returns-then-links-eq0 c =
    let s = c.args.stack.now in
    let due = way (following c.loop-words.links s) s c.loop-words.place c.loop-words.words in
    let leads : Leads (following c.loop-words.links s) s c.advance.new.words due (Ok (Link c.in-Link.directory c.in-Link.target)) =
    subst (λ (a : Arrival). Leads (following c.loop-words.links s) s c.advance.new.words due (Ok a)) c.in-Link.is (c.in_ok-place-2.ensures.leads (following c.loop-words.links s))
    in
    let last : c.loop-words.links ≡ 0 = omega arith in
    inr (sym c.loop-words.invariant ∙ leads ∙ ap (λ (k : ℕ). following k s (start_of c.in-Link.directory c.in-Link.target.now) (words_of c.in-Link.target.now ++ c.advance.new.words)) last)

pub loop-words-preserved : goal.loop-words-preserved
loop-words-preserved c =
    let s = c.args.stack.now in
    let due = way (following c.loop-words.links s) s c.loop-words.place c.loop-words.words in
    let leads : Leads (following c.loop-words.links s) s c.advance.new.words due (Ok (Link c.in-Link.directory c.in-Link.target)) =
    subst (λ (a : Arrival). Leads (following c.loop-words.links s) s c.advance.new.words due (Ok a)) c.in-Link.is (c.in_ok-place-2.ensures.leads (following c.loop-words.links s))
    in
    let more : suc (c.loop-words.links - 1) ≡ c.loop-words.links = omega arith in
    c.in_ok-place-in-Link.ensures.ok (following (c.loop-words.links - 1) s)
    ∙ ap (λ (p : Names). way (following (c.loop-words.links - 1) s) s p c.put_target.new.self) c.start_of.ensures
    ∙ ap (way (following (c.loop-words.links - 1) s) s (start_of c.in-Link.directory c.in-Link.target.now)) c.in_ok-put_target-in-Link.ensures
    ∙ ap (λ (k : ℕ). following k s (start_of c.in-Link.directory c.in-Link.target.now) (words_of c.in-Link.target.now ++ c.advance.new.words)) more
    ∙ sym leads ∙ c.loop-words.invariant
