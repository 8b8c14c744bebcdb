use Rattle.std.proofs.Common.{◌≡◌, ◌∷◌, ◌++◌, [], List, ℕ, not, sym, ap, subst, ◌∙◌}
use Rattle.std.specs.Prelude.{◌&&◌, is_some}
use Rattle.std.specs.BTreeSet.{BTreeSet}
use Rattle.snap_path.specs.Text.{Names}
use Rattle.snap_merge.specs.Shares.{seen_so_far, Shares}
use Rattle.snap_merge.proofs.Sharing.{layer_told, over_none, shares_some, shares_none}
use Rattle.snap_layer.specs.Directory.{Directory}
use Rattle.snap_layer.specs.Tree.{names_below}
use Rattle.snap_merge.proofs.names.put_layer.Goals as goal
use Rattle.snap_merge.proofs.names.put_layer.Goals.{in-Some+in_ok-children+in_ok-put_dir, in_default}

pub returns : goal.returns
returns c =
    let t = c.args.layer.now in
    let p = c.args.path.now in
    let h = c.share_in-share.result.hides in
    let share : Shares t p c.share_in-share.result.dir h = subst (λ (q : Names). Shares t q c.share_in-share.result.dir h) c.names.ensures.names c.share_in-share.ensures.shares in
    elim c.match-share.branch [
      | in-Some+in_ok-children+in_ok-put_dir w ↦ λ n under.
          let x = not h && is_some under in
          let spot : ◌≡◌ {A = Directory} w.in-Some.dir (record { layer = t; path = p }) = shares_some t p c.share_in-share.result.dir h share w.in-Some.dir w.in-Some.is in
          ap (λ (ks : BTreeSet (List ℕ)). seen_so_far ks.keys c.match-share.gone.keys n x) w.shown-is
          ∙ ap (λ (ks : BTreeSet (List ℕ)). seen_so_far w.put_dir.new.shown.keys ks.keys n x) w.gone-is
          ∙ w.in_ok-put_dir.ensures n x
          ∙ ap (seen_so_far c.args.shown.now.keys c.args.gone.now.keys n) (layer_told t c.share_in-share.ensures.layer p w.in_ok-children.field-0.items w.in-Some.dir h spot (w.in_ok-children.ensures ∙ ap (λ (d : Directory). names_below d.path d.layer.entries) spot) n (share.hiding n) under)
      | in_default w ↦ λ n under.
          let x = not h && is_some under in
          ap (λ (ks : BTreeSet (List ℕ)). seen_so_far ks.keys c.match-share.gone.keys n x) w.shown-is
          ∙ ap (λ (ks : BTreeSet (List ℕ)). seen_so_far c.args.shown.now.keys ks.keys n x) w.gone-is
          ∙ ap (seen_so_far c.args.shown.now.keys c.args.gone.now.keys n) (sym (over_none t c.share_in-share.ensures.layer (p ++ n ∷ []) h (share.hiding n) (shares_none t p c.share_in-share.result.dir h share w.in_default.is n) under))
    ]
