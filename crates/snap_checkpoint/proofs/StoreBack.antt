-- The pieces of a saved store make it again.
use Rattle.std.proofs.Common.{◌≡◌, ℕ, ◌+◌, ◌≤◌, List, [], ◌∷◌, ◌++◌, length, map, Option, None, Some, refl, sym, ap, ◌∙◌, subst, arith, append_assoc, append-nil, length-append}
use Rattle.std.specs.Prelude.{nat_le, IfSome, Result, Ok, Err}
use Rattle.std.specs.List.{AllByRecursion, flat_map, fold, list_all}
use Rattle.std.specs.Option.{option_map_or}
use Rattle.std.proofs.lemmas.Bool.{and_parts, leb-true}
use Rattle.std.proofs.lemmas.List.Sums.{fold-append}
use Rattle.snap_layer.specs.Layers.{IsLayer}
use Rattle.snap_layer.specs.Tree.{Tree}
use Rattle.snap_usage.specs.declared.usage.Usage.{Usage}
use Rattle.snap_record.specs.Labels.{Bytes, HasDistinctKeys, Label, is_label}
use Rattle.snap_saved.specs.Pieces.{GatheringValue, begun_layer, head_of, pieces_of, with_next_piece, with_piece}
use Rattle.snap_saved.specs.Saved.{saved}
use Rattle.snap_saved.specs.declared.error.PieceError.{PieceError}
use Rattle.snap_saved.specs.declared.error.RestoreError.{RestoreError}
use Rattle.snap_saved.specs.declared.piece.Piece.{Piece}
use Rattle.snap_saved.proofs.PiecesBack.{layer_gathered}
use Rattle.snap_call.specs.Results.{◌>>=◌}
use Rattle.snap_call.specs.declared.config.Namespace.{Namespace}
use Rattle.snap_call.specs.declared.saved.SavedContent.{SavedContent}
use Rattle.snap_call.specs.declared.saved.SavedContent.TheVariants as contents
use Rattle.snap_call.specs.declared.saved_lease.SavedLease.{SavedLease}
use Rattle.snap_world.specs.Restored.{SavedWorldValue}
use Rattle.snap_world.specs.Saved.{HasNoOtherHand, IsWholeSnapshot, saved_layer}
use Rattle.snap_world.specs.declared.restoring.SavedHand.{SavedHand}
use Rattle.snap_world.specs.declared.save.SavedSnapshot.{SavedSnapshot}
use Rattle.snap_checkpoint.specs.Gathered.{StoreGatheringValue, begun_content, begun_lease, begun_snapshot, begun_store, closed, config_with, content_closed, in_part, layer_fault, piece_fault, snapshot_with, store_of, store_of_pieces, with_fault, with_next_store_piece, with_part, with_store_piece}
use Rattle.snap_checkpoint.specs.Pieces.{saved_kind, label_piece, layer_pieces, lease_pieces, snapshot_head, snapshot_pieces, store_head, store_pieces}
use Rattle.snap_checkpoint.specs.declared.fault.StoreFault.{StoreFault}
use Rattle.snap_checkpoint.specs.declared.open.OpenContent.{OpenContent}
use Rattle.snap_checkpoint.specs.declared.open.OpenContent.TheVariants as open_contents
use Rattle.snap_checkpoint.specs.declared.open.OpenPart.{OpenPart}
use Rattle.snap_checkpoint.specs.declared.open.OpenPart.TheVariants as open_parts
use Rattle.snap_checkpoint.specs.declared.open.OpenSnapshot.{OpenSnapshot}
use Rattle.snap_pieces.specs.declared.piece.StoreHead.{StoreHead}
use Rattle.snap_pieces.specs.declared.piece.StorePiece.{StorePiece}
use Rattle.snap_pieces.specs.declared.piece.StorePiece.TheVariants as pieces
use Rattle.snap_checkpoint.proofs.Labelling.{label_added}

-- what is gathered, or the first fault
abbrev So : Type 0
So = Result StoreGatheringValue StoreFault

-- what pieces make of it
abbrev after : So → List StorePiece → So
after r ps = fold with_next_store_piece r ps

after_both : (ps qs : List StorePiece) (r : So) → after r (ps ++ qs) ≡ after (after r ps) qs
after_both ps qs r = fold-append with_next_store_piece r ps qs

-- what is gathered without a part that is open
abbrev shut : StoreHead → List Namespace → List SavedSnapshot → List SavedLease → StoreGatheringValue
shut h ns ss ls = record { head = h; namespaces = ns; snapshots = ss; leases = ls; part = open_parts.Nothing }

-- ---- places for namespaces

namespaces_put : (ns : List Namespace) (g : StoreGatheringValue) → after (Ok g) (map pieces.Namespace ns) ≡ Ok (record g { namespaces = g.namespaces ++ ns })
namespaces_put [] g = λ i. Ok (record g { namespaces = sym (append-nil g.namespaces) i })
namespaces_put (n ∷ ns) g = namespaces_put ns (record g { namespaces = g.namespaces ++ n ∷ [] }) ∙ (λ i. Ok (record g { namespaces = append_assoc g.namespaces (n ∷ []) ns i }))

-- ---- a snapshot

-- it is the last part
abbrev in_snapshot : StoreGatheringValue → OpenSnapshot → StoreGatheringValue
in_snapshot g s = record g { part = open_parts.Snapshot s }

labels_put : (g : StoreGatheringValue) (s : OpenSnapshot) (before rest : List Label) → HasDistinctKeys (before ++ rest) → length before + length rest ≤ 64 → after (Ok (in_snapshot g (record s { labels = before }))) (map label_piece rest) ≡ Ok (in_snapshot g (record s { labels = before ++ rest }))
labels_put g s before [] distinct few = λ i. Ok (in_snapshot g (record s { labels = sym (append-nil before) i }))
labels_put g s before (l ∷ ls) distinct few =
    let joined : (before ++ l ∷ []) ++ ls ≡ before ++ l ∷ ls = append_assoc before (l ∷ []) ls in
    ap (λ (r : Result (List Label) StoreFault). after (in_part (in_snapshot g (record s { labels = before })) (r >>= λ labels. Ok (open_parts.Snapshot (record s { labels = labels })))) (map label_piece ls)) (label_added before l ls distinct (omega arith))
    ∙ labels_put g s (before ++ l ∷ []) ls (subst HasDistinctKeys (sym joined) distinct) (omega (arith, length-append before (l ∷ [])))
    ∙ (λ i. Ok (in_snapshot g (record s { labels = joined i })))

-- the pieces of a layer, where each makes of what is gathered at a place what it makes of the layer
module _ (at : GatheringValue → StoreGatheringValue) where
  -- what is gathered at the place, or the fault
  abbrev lifted : Result GatheringValue PieceError → So
  lifted (Ok g) = Ok (at g)
  lifted (Err e) = Err (piece_fault e)

  layer_put : ((g : GatheringValue) (p : Piece) → with_store_piece (at g) (pieces.Layer p) ≡ lifted (with_piece g p)) → (ps : List Piece) (r : Result GatheringValue PieceError) → after (lifted r) (map pieces.Layer ps) ≡ lifted (fold with_next_piece r ps)
  layer_put each [] r = refl
  layer_put each (p ∷ ps) (Ok g) = ap (λ (x : So). after x (map pieces.Layer ps)) (each g p) ∙ layer_put each ps (with_piece g p)
  layer_put each (p ∷ ps) (Err e) = layer_put each ps (Err e)

-- the pieces of its layer make what it holds
record ContentMade (g : StoreGatheringValue) (s : OpenSnapshot) (c : SavedContent) (o : Option SavedHand) : Type 0 where
  made : OpenContent
  holds : (at : ℕ) → content_closed at made ≡ Ok (c, o)
  put : after (Ok (in_snapshot g (record s { content = begun_content (saved_kind c o) }))) (option_map_or layer_pieces (saved_layer c o) []) ≡ Ok (in_snapshot g (record s { content = made }))

module _ (g : StoreGatheringValue) (s : OpenSnapshot) where
  -- the layer of a committed one
  abbrev in_committed : GatheringValue → StoreGatheringValue
  in_committed l = in_snapshot g (record s { content = open_contents.Committed l })

  each_committed : (l : GatheringValue) (p : Piece) → with_store_piece (in_committed l) (pieces.Layer p) ≡ lifted in_committed (with_piece l p)
  each_committed l p = by (with_piece l p)
    where
      by : (r : Result GatheringValue PieceError) → in_part (in_committed l) ((with_fault piece_fault r >>= λ layer. Ok (open_contents.Committed layer)) >>= λ content. Ok (open_parts.Snapshot (record s { content = content }))) ≡ lifted in_committed r
      by (Ok l) = refl
      by (Err e) = refl

  -- that of an active one's hand
  abbrev in_hand : ℕ → Usage → SavedHand → GatheringValue → StoreGatheringValue
  in_hand slot u h l = in_snapshot g (record s { content = open_contents.Active slot u (Some (record { sealed = h.sealed; layer = l })) })

  each_hand : (slot : ℕ) (u : Usage) (h : SavedHand) (l : GatheringValue) (p : Piece) → with_store_piece (in_hand slot u h l) (pieces.Layer p) ≡ lifted (in_hand slot u h) (with_piece l p)
  each_hand slot u h l p = by (with_piece l p)
    where
      by : (r : Result GatheringValue PieceError) → in_part (in_hand slot u h l) ((with_fault piece_fault r >>= λ layer. Ok (open_contents.Active slot u (Some (record { sealed = h.sealed; layer = layer })))) >>= λ content. Ok (open_parts.Snapshot (record s { content = content }))) ≡ lifted (in_hand slot u h) r
      by (Ok l) = refl
      by (Err e) = refl

  content_made : (c : SavedContent) (o : Option SavedHand) → IfSome (saved_layer c o) IsLayer → HasNoOtherHand c o → ContentMade g s c o
  content_made contents.View None layer other = record { made = open_contents.View; holds = λ at. refl; put = refl }
  content_made contents.View (Some h) layer other = absurd (cc)
  content_made (contents.Active slot u) None layer other = record { made = open_contents.Active slot u None; holds = λ at. refl; put = refl }
  content_made (contents.Active slot u) (Some h) layer other =
      let all = layer_gathered h.layer layer in
      record {
        made = open_contents.Active slot u (Some (record { sealed = h.sealed; layer = all.0 }));
        holds = λ at. ap (λ (r : Result Tree RestoreError). with_fault (layer_fault at) r >>= λ t. Ok (contents.Active slot u, Some (record { layer = t; sealed = h.sealed }))) all.2;
        put = layer_put (in_hand slot u h) (each_hand slot u h) (pieces_of (saved h.layer)) (Ok (begun_layer (head_of (saved h.layer)))) ∙ ap (lifted (in_hand slot u h)) all.1;
      }
  content_made (contents.Committed t) None layer other =
      let all = layer_gathered t layer in
      record {
        made = open_contents.Committed all.0;
        holds = λ at. ap (λ (r : Result Tree RestoreError). with_fault (layer_fault at) r >>= λ u. Ok (contents.Committed u, None)) all.2;
        put = layer_put in_committed each_committed (pieces_of (saved t)) (Ok (begun_layer (head_of (saved t)))) ∙ ap (lifted in_committed) all.1;
      }
  content_made (contents.Committed t) (Some h) layer other = absurd (cc)

-- a part is put: what is gathered has it once it is closed
record IsPut (g : StoreGatheringValue) (ps : List StorePiece) (shows : StoreGatheringValue) : Type 0 where
  now : StoreGatheringValue
  put : after (Ok g) ps ≡ Ok now
  shuts : closed now ≡ Ok shows

-- what is gathered before it is closed as this
module _ (g : StoreGatheringValue) (h : StoreHead) (ns : List Namespace) (ss : List SavedSnapshot) (ls : List SavedLease) (shuts : closed g ≡ Ok (shut h ns ss ls)) where
  begins : (part : OpenPart) → with_part g part ≡ Ok (record (shut h ns ss ls) { part = part })
  begins part = ap (λ (r : So). r >>= λ next. Ok (record next { part = part })) shuts

  snapshot_put : (s : SavedSnapshot) → IsWholeSnapshot s → IsPut g (snapshot_pieces s) (shut h ns (ss ++ s ∷ []) ls)
  snapshot_put s whole =
      let base = shut h ns ss ls in
      let begun = begun_snapshot (snapshot_head s) in
      let labelled : OpenSnapshot = record begun { labels = s.saved.labels } in
      let few : length s.saved.labels ≤ 64 = leb-true (length s.saved.labels) 64 (and_parts (list_all is_label s.saved.labels) (nat_le (length s.saved.labels) 64) whole.labels).1 in
      let content = content_made base labelled s.saved.content s.hand whole.sound.layer whole.hand in
      let layer = option_map_or layer_pieces (saved_layer s.saved.content s.hand) [] in
      record {
        now = in_snapshot base (record labelled { content = content.made });
        put =
            ap (λ (r : So). after r (map label_piece s.saved.labels ++ layer)) (begins (open_parts.Snapshot begun))
            ∙ after_both (map label_piece s.saved.labels) layer (Ok (in_snapshot base begun))
            ∙ ap (λ (r : So). after r layer) (labels_put base begun [] s.saved.labels whole.sound.distinct (omega (arith, few)))
            ∙ content.put;
        shuts = ap (λ (r : Result (SavedContent × Option SavedHand) StoreFault). (r >>= λ held. Ok (snapshot_with (record labelled { content = content.made }) held)) >>= λ snapshot. Ok (record base { snapshots = ss ++ snapshot ∷ [] })) (content.holds (length ss));
      }

  names_put : (l : SavedLease) (before rest : List Bytes) → after (Ok (record (shut h ns ss ls) { part = open_parts.Lease (record l { names = before }) })) (map pieces.Leased rest) ≡ Ok (record (shut h ns ss ls) { part = open_parts.Lease (record l { names = before ++ rest }) })
  names_put l before [] = λ i. Ok (record (shut h ns ss ls) { part = open_parts.Lease (record l { names = sym (append-nil before) i }) })
  names_put l before (n ∷ rest) = names_put l (before ++ n ∷ []) rest ∙ (λ i. Ok (record (shut h ns ss ls) { part = open_parts.Lease (record l { names = append_assoc before (n ∷ []) rest i }) }))

  lease_put : (l : SavedLease) → IsPut g (lease_pieces l) (shut h ns ss (ls ++ l ∷ []))
  lease_put l = record {
    now = record (shut h ns ss ls) { part = open_parts.Lease l };
    put = ap (λ (r : So). after r (map pieces.Leased l.names)) (begins (open_parts.Lease (begun_lease l.namespace l.name l.until))) ∙ names_put l [] l.names;
    shuts = refl;
  }

-- ---- all of them

snapshots_put : (rest : List SavedSnapshot) (g : StoreGatheringValue) (h : StoreHead) (ns : List Namespace) (ss : List SavedSnapshot) (ls : List SavedLease) → closed g ≡ Ok (shut h ns ss ls) → AllByRecursion IsWholeSnapshot rest → IsPut g (flat_map snapshot_pieces rest) (shut h ns (ss ++ rest) ls)
snapshots_put [] g h ns ss ls shuts whole = record { now = g; put = refl; shuts = shuts ∙ (λ i. Ok (shut h ns (sym (append-nil ss) i) ls)) }
snapshots_put (s ∷ rest) g h ns ss ls shuts whole =
    let one = snapshot_put g h ns ss ls shuts s whole.0 in
    let more = snapshots_put rest one.now h ns (ss ++ s ∷ []) ls one.shuts whole.1 in
    record {
      now = more.now;
      put = after_both (snapshot_pieces s) (flat_map snapshot_pieces rest) (Ok g) ∙ ap (λ (r : So). after r (flat_map snapshot_pieces rest)) one.put ∙ more.put;
      shuts = more.shuts ∙ (λ i. Ok (shut h ns (append_assoc ss (s ∷ []) rest i) ls));
    }

leases_put : (rest : List SavedLease) (g : StoreGatheringValue) (h : StoreHead) (ns : List Namespace) (ss : List SavedSnapshot) (ls : List SavedLease) → closed g ≡ Ok (shut h ns ss ls) → IsPut g (flat_map lease_pieces rest) (shut h ns ss (ls ++ rest))
leases_put [] g h ns ss ls shuts = record { now = g; put = refl; shuts = shuts ∙ (λ i. Ok (shut h ns ss (sym (append-nil ls) i))) }
leases_put (l ∷ rest) g h ns ss ls shuts =
    let one = lease_put g h ns ss ls shuts l in
    let more = leases_put rest one.now h ns ss (ls ++ l ∷ []) one.shuts in
    record {
      now = more.now;
      put = after_both (lease_pieces l) (flat_map lease_pieces rest) (Ok g) ∙ ap (λ (r : So). after r (flat_map lease_pieces rest)) one.put ∙ more.put;
      shuts = more.shuts ∙ (λ i. Ok (shut h ns ss (append_assoc ls (l ∷ []) rest i)));
    }

-- the pieces of a saved store, of which each snapshot is whole, make it again
pub store_back : (w : SavedWorldValue) → AllByRecursion IsWholeSnapshot w.snapshots → store_of_pieces (store_head w) (store_pieces w) ≡ Ok w
store_back w whole =
    let h = store_head w in
    let places = map pieces.Namespace w.config.namespaces in
    let ss = flat_map snapshot_pieces w.snapshots in
    let ls = flat_map lease_pieces w.leases in
    let named : StoreGatheringValue = record (begun_store h) { namespaces = w.config.namespaces } in
    let snapshots = snapshots_put w.snapshots named h w.config.namespaces [] [] refl whole in
    let leases = leases_put w.leases snapshots.now h w.config.namespaces w.snapshots [] snapshots.shuts in
    let put : after (Ok (begun_store h)) (places ++ (ss ++ ls)) ≡ Ok leases.now =
    after_both places (ss ++ ls) (Ok (begun_store h))
    ∙ ap (λ (r : So). after r (ss ++ ls)) (namespaces_put w.config.namespaces (begun_store h))
    ∙ after_both ss ls (Ok named)
    ∙ ap (λ (r : So). after r ls) snapshots.put
    ∙ leases.put in
    ap (λ (r : So). r >>= store_of) put
    ∙ ap (λ (r : So). r >>= λ all. Ok (record { config = config_with all.head all.namespaces; entries = all.head.entries; next_id = all.head.next_id; snapshots = all.snapshots; leases = all.leases })) leases.shuts

-- the same of a head and pieces that are its own
pub own_back : (w : SavedWorldValue) (h : StoreHead) (ps : List StorePiece) → AllByRecursion IsWholeSnapshot w.snapshots → h ≡ store_head w → ps ≡ store_pieces w → store_of_pieces h ps ≡ Ok w
own_back w h ps whole head own = (λ i. store_of_pieces (head i) (own i)) ∙ store_back w whole
