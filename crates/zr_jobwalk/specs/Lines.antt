-- The lines of a table whose keys may be any.
use Rattle.std.specs.Prelude.{◌≡◌, ℕ, List, [], ◌∷◌, Bool, if◌then◌else◌, IsPermutation}
use Rattle.std.specs.Cmp.Lexicographic.{slice_cmp}
use Rattle.std.specs.List.Sorted.{IsSortedBy}
use Rattle.std.specs.Ordering.{is_lt, nat_cmp}
use Rattle.std.specs.declared.cmp.Ordering.{Ordering}
use Rattle.zr_names.specs.Tree.{Tree, Members, no_members, member, tree}
use Rattle.zr_jobwalk.specs.declared.line.Line.{Line}
use Rattle.zr_jobwalk.specs.Fields.{is_null}

-- a key and what stands there
abbrev pub pair_of : Line → List ℕ × Tree
pair_of l = (l.key.now, tree l.node.now)

abbrev pub line_cmp : Line → Line → Ordering
line_cmp a b = slice_cmp nat_cmp a.key.now b.key.now

-- the keys that are there with their values, in the order of the file
abbrev pub present : Members → List (List ℕ × Tree)
present no_members = []
present (member key tree rest) =
    if is_null tree then present rest else (key, tree) ∷ present rest

-- a key stands before another in byte order
abbrev pub stands_before : (List ℕ × Tree) → (List ℕ × Tree) → Bool
stands_before a b = is_lt (slice_cmp nat_cmp a.0 b.0)

-- the same in the byte order of the keys
pub record AreLines (members : Members) (lines : List (List ℕ × Tree)) : Type 0 where
  pub same : IsPermutation (present members) lines
  pub sorted : IsSortedBy stands_before lines
