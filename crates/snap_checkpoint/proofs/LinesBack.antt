-- The lines of a saved store make it again.
use Rattle.std.proofs.Common.{◌≡◌, ℕ, ◌==◌, Bool, true, false, true≢false, List, [], ◌∷◌, Option, None, Some, refl, sym, ap, ◌∙◌, arith}
use Rattle.std.proofs.lemmas.Bool.Decides.{nat_tests}
use Rattle.std.specs.Prelude.{if◌then◌else◌, not, is_some, Result, Ok, Err}
use Rattle.std.specs.List.{AllByRecursion, fold}
use Rattle.std.specs.Option.{option_map_or}
use Rattle.snap_call.specs.Results.{◌>>=◌}
use Rattle.snap_world.specs.Restored.{SavedWorldValue}
use Rattle.snap_world.specs.Saved.{IsWholeSnapshot}
use Rattle.snap_pieces.specs.declared.line.Line.{Line}
use Rattle.snap_pieces.specs.declared.piece.StoreHead.{StoreHead}
use Rattle.snap_pieces.specs.declared.piece.StorePiece.{StorePiece}
use Rattle.snap_checkpoint.specs.Gathered.{StoreGatheringValue, begun_store, store_of, with_next_store_piece, with_store_piece}
use Rattle.snap_checkpoint.specs.Lines.{LineGatheringValue, all_put, lines_behind, lines_left, lines_put, none_left, one_more, store_lines}
use Rattle.snap_checkpoint.specs.Pieces.{store_head, store_pieces}
use Rattle.snap_checkpoint.specs.declared.fault.StoreFault.{StoreFault}
use Rattle.snap_checkpoint.specs.declared.fault.StoreFault.TheVariants.{Incomplete}
use Rattle.snap_checkpoint.proofs.StoreBack.{store_back}

same_number : (n : ℕ) → (n == n) ≡ true
same_number n = grind (arith, nat_tests)

-- after a fault no piece is put
fault_stays : (ps : List StorePiece) (e : StoreFault) → fold with_next_store_piece (Err e) ps ≡ Err e
fault_stays [] e = refl
fault_stays (p ∷ ps) e = fault_stays ps e

-- what further lines make where the first one has its answer
abbrev next : List Line → Result (Option LineGatheringValue × Option SavedWorldValue) StoreFault → Result SavedWorldValue StoreFault
next rest answer = answer >>= λ after. option_map_or Ok after.1 (lines_put after.0 rest)

-- the saved store
ended : (r : Result SavedWorldValue StoreFault) → next [] (r >>= λ saved. Ok (None, Some saved)) ≡ r
ended (Ok saved) = refl
ended (Err e) = refl

-- an end that counts them all
counted : (n : ℕ) (g : StoreGatheringValue) → all_put (one_more n) (record { lines = n; store = g }) ≡ store_of g
counted n g = ap (λ b. if b then store_of g else Err Incomplete) (same_number (one_more n))

-- the lines behind a head make what its pieces make
pub behind_head : (ps : List StorePiece) (n : ℕ) (g : StoreGatheringValue) → lines_put (Some (record { lines = n; store = g })) (lines_behind n ps) ≡ fold with_next_store_piece (Ok g) ps >>= store_of
behind_head [] n g = ended (all_put (one_more n) (record { lines = n; store = g })) ∙ counted n g
behind_head (p ∷ ps) n g = by (with_store_piece g p) (λ h. behind_head ps (one_more n) h)
  where
    by : (r : Result StoreGatheringValue StoreFault) → ((h : StoreGatheringValue) → lines_put (Some (record { lines = one_more n; store = h })) (lines_behind (one_more n) ps) ≡ fold with_next_store_piece (Ok h) ps >>= store_of)
        → next (lines_behind (one_more n) ps) (r >>= λ h. Ok (Some (record { lines = one_more n; store = h }), None)) ≡ fold with_next_store_piece r ps >>= store_of
    by (Ok h) rest = rest h
    by (Err e) rest = sym (ap (λ (r : Result StoreGatheringValue StoreFault). r >>= store_of) (fault_stays ps e))

-- the lines of a saved store, of which each snapshot is whole, make it again
pub lines_back : (w : SavedWorldValue) → AllByRecursion IsWholeSnapshot w.snapshots → lines_put None (store_lines w) ≡ Ok w
lines_back w whole = behind_head (store_pieces w) 1 (begun_store (store_head w)) ∙ store_back w whole

is_true : (b : Bool) → not b ≡ false → b ≡ true
is_true true h = refl
is_true false h = absurd (true≢false h)

is_false : (b : Bool) → not b ≡ true → b ≡ false
is_false true h = absurd (true≢false (sym h))
is_false false h = refl

-- none is left where the end has come
pub none_left_of : (n : ℕ) (head : Option StoreHead) (pieces : Option (List StorePiece)) (b : Bool) → not b ≡ is_some pieces → b ≡ none_left (lines_left n head pieces)
none_left_of n None None b h = is_true b h
none_left_of n (Some x) None b h = is_true b h
none_left_of n None (Some []) b h = is_false b h
none_left_of n None (Some (p ∷ ps)) b h = is_false b h
none_left_of n (Some x) (Some ps) b h = is_false b h
