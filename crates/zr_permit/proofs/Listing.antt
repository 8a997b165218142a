use Rattle.std.proofs.Common.{◌≡◌, ℕ, List, [], ◌∷◌, ◌++◌, None, ap}
use Rattle.zr_permit.specs.Transcript.{later_of, listed, rows_told, Transcript, Turn}

-- a turn that lists nothing of a dataset leaves its last listing
pub listed-more : (path : List ℕ) (turns : Transcript) (turn : Turn) → rows_told path turn.0 turn.1 ≡ None → listed path (turns ++ turn ∷ []) ≡ listed path turns
listed-more path [] turn none = none
listed-more path (first ∷ turns) turn none = ap (later_of (rows_told path first.0 first.1)) (listed-more path turns turn none)
