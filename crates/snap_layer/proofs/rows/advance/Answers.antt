use Rattle.std.proofs.Common.{◌≡◌, ◌∷◌, ◌++◌, [], append_assoc, length, length-append, Some, ap, sym, ◌∙◌, arith}
use Rattle.std.specs.Option.{option_copied}
use Rattle.snap_layer.specs.Rows.{frames_text}
use Rattle.snap_layer.proofs.Ahead.{ahead_gone, ahead_next, frames_text_snoc}
use Rattle.snap_layer.proofs.rows.advance.Goals as goal

pub returns-in-Some-first_after-clause-ahead : goal.returns-in-Some-first_after-clause-ahead
returns-in-Some-first_after-clause-ahead g c = λ p.
    let was : c.loop-frame.frames.items ≡ c.pop.new.self.items ++ (c.frame.inside.key, option_copied c.frame.inside.last) ∷ [] = c.in-Some.ensures.items ∙ ap (λ f. c.pop.new.self.items ++ f ∷ []) (sym c.frame.view_is) in
    sym (c.loop-frame.invariant.ahead p) ∙ ahead_next c.args.slots.now p c.loop-frame.frames.items c.push_reserved.new.self.items c.pop.new.self.items (c.frame.inside.key, option_copied c.frame.inside.last) c.in-Some-first_after.name.now c.in-Some-first_after.target was c.push_reserved.ensures.items c.in-Some-first_after.ensures

pub loop-frame-preserved : goal.loop-frame-preserved
loop-frame-preserved g c =
    let was : c.loop-frame.frames.items ≡ c.pop.new.self.items ++ (c.frame.inside.key, option_copied c.frame.inside.last) ∷ [] = c.in-Some.ensures.items ∙ ap (λ f. c.pop.new.self.items ++ f ∷ []) (sym c.frame.view_is) in
    record {
      ahead = λ p. ahead_gone c.args.slots.now p c.loop-frame.frames.items c.pop.new.self.items (c.frame.inside.key, option_copied c.frame.inside.last) was c.in_default-first_after.ensures ∙ c.loop-frame.invariant.ahead p;
      gone = ((c.frame.inside.key, option_copied c.frame.inside.last) ∷ c.loop-frame.invariant.gone.0, c.loop-frame.invariant.gone.1 ∙ ap (λ l. l ++ c.loop-frame.invariant.gone.0) was ∙ append_assoc c.pop.new.self.items ((c.frame.inside.key, option_copied c.frame.inside.last) ∷ []) c.loop-frame.invariant.gone.0);
      room = omega (arith, c.in-Some.ensures.len, c.in-Some.ensures.capacity, c.loop-frame.invariant.room);
      capacity = c.in-Some.ensures.capacity ∙ c.loop-frame.invariant.capacity;
      text = omega (arith, c.loop-frame.invariant.text, ap frames_text was, frames_text_snoc c.pop.new.self.items (c.frame.inside.key, option_copied c.frame.inside.last), c.text_of.ensures.value);
      small = omega (arith, c.loop-frame.invariant.small);
    }

pub overflow_sub-text : goal.overflow_sub-text
overflow_sub-text g c =
    let was : c.loop-frame.frames.items ≡ c.pop.new.self.items ++ (c.frame.inside.key, option_copied c.frame.inside.last) ∷ [] = c.in-Some.ensures.items ∙ ap (λ f. c.pop.new.self.items ++ f ∷ []) (sym c.frame.view_is) in
    omega (arith, c.loop-frame.invariant.text, ap frames_text was, frames_text_snoc c.pop.new.self.items (c.frame.inside.key, option_copied c.frame.inside.last), c.text_of.ensures.value)

pub returns-in-Some-first_after-clause-text : goal.returns-in-Some-first_after-clause-text
returns-in-Some-first_after-clause-text g c =
    let was : c.loop-frame.frames.items ≡ c.pop.new.self.items ++ (c.frame.inside.key, option_copied c.frame.inside.last) ∷ [] = c.in-Some.ensures.items ∙ ap (λ f. c.pop.new.self.items ++ f ∷ []) (sym c.frame.view_is) in
    omega (
      arith,
      c.loop-frame.invariant.text,
      ap frames_text was,
      frames_text_snoc c.pop.new.self.items (c.frame.inside.key, option_copied c.frame.inside.last),
      c.text_of.ensures.value,
      c.text_of-in-Some-first_after.ensures.value,
      ap frames_text c.push_reserved.ensures.items,
      frames_text_snoc c.pop.new.self.items (c.frame.inside.key, Some c.in-Some-first_after.name.now),
    )

pub returns-in-Some-first_after-clause-passes : goal.returns-in-Some-first_after-clause-passes
returns-in-Some-first_after-clause-passes g c =
    let was : c.loop-frame.frames.items ≡ c.pop.new.self.items ++ (c.frame.inside.key, option_copied c.frame.inside.last) ∷ [] = c.in-Some.ensures.items ∙ ap (λ f. c.pop.new.self.items ++ f ∷ []) (sym c.frame.view_is) in
    record {
      front = c.pop.new.self.items;
      key = c.frame.inside.key;
      last = option_copied c.frame.inside.last;
      past = c.loop-frame.invariant.gone.0;
      was = c.loop-frame.invariant.gone.1 ∙ ap (λ l. l ++ c.loop-frame.invariant.gone.0) was ∙ append_assoc c.pop.new.self.items ((c.frame.inside.key, option_copied c.frame.inside.last) ∷ []) c.loop-frame.invariant.gone.0;
      is = c.push_reserved.ensures.items;
    }

pub returns-in-Some-first_after-clause-gone : goal.returns-in-Some-first_after-clause-gone
returns-in-Some-first_after-clause-gone g c = tt

pub returns-clause-passes : goal.returns-clause-passes
returns-clause-passes g c = tt

pub returns-in-Some-first_after-clause-room : goal.returns-in-Some-first_after-clause-room
returns-in-Some-first_after-clause-room g c =
    omega (
      arith,
      ap length c.push_reserved.ensures.items,
      length-append c.pop.new.self.items ((c.frame.inside.key, Some c.in-Some-first_after.name.now) ∷ []),
      c.push_reserved.ensures.capacity,
      c.in-Some.ensures.len,
      c.in-Some.ensures.capacity,
      c.loop-frame.invariant.room,
    )
