use Rattle.snap_script.proofs.values.swept.Goals as goal

pub returns : goal.returns
returns c = rw c.in_ok-token.ensures at (rw c.in_ok-member.ensures at (rw c.in_ok-member-2.ensures at (rw c.in_ok-member-3.ensures at c.token-2.ensures)))
