-- What a take and a put do to the bytes that a source has left and a sink was given, where they tell them.
use Rattle.std.specs.Prelude.{◌≡◌, ℕ, ◌≤◌, ◌↔◌, ⊤, List, [], length, take, Option, None, Some}
use Rattle.std.specs.Io.KnownBytes.{append_known}

-- this many bytes were taken: none exactly where none are left
abbrev pub IsNoneAtEnd : Option (List ℕ) → ℕ → Type 0
IsNoneAtEnd None count = ⊤
IsNoneAtEnd (Some rest) count = (count ≡ 0) ↔ (rest ≡ [])

-- a front of the piece was written behind the bytes that were there, and nothing else
pub record WroteFront (before after : Option (List ℕ)) (piece : List ℕ) : Type 0 where
  pub count : ℕ
  pub within : count ≤ length piece
  pub told : after ≡ append_known before (take count piece)
