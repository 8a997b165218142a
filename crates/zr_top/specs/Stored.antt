use Rattle.std.specs.Prelude.{◌≡◌, ◌⊎◌, ◌++◌, ◌∷◌, [], ℕ, Bool, List, Option, find, nat_eq, option_map}
use Rattle.std.specs.Cmp.Lexicographic.{pointwise}
use Rattle.zr_top.specs.declared.files.StoredFile.{StoredFile}

-- the file has this path
abbrev pub is_stored_at : List ℕ → StoredFile → Bool
is_stored_at path file = pointwise nat_eq file.path path

-- the bytes of the file at a path
abbrev pub content_of : List StoredFile → List ℕ → Option (List ℕ)
content_of files path = option_map (λ (file : StoredFile). file.bytes) (find (is_stored_at path) files)

-- the paths that files were asked for, in order, where they tell them
abbrev pub Asked : Type 0
Asked = Option (List (List ℕ))

abbrev pub asked_also : Asked → List ℕ → Asked
asked_also paths path = option_map (λ (paths : List (List ℕ)). paths ++ path ∷ []) paths

-- at most this path was asked for, and that once
abbrev pub AsksAtMost : Asked → Asked → List ℕ → Type 0
AsksAtMost before now path = (now ≡ before) ⊎ (now ≡ asked_also before path)

-- what files in memory show: the files, the numbers of the reads that fail, and the paths that were asked for,
-- the reads, the faults and the path that failed last so far
pub record FilesInMemory : Type 0 where
  pub files : List StoredFile
  pub failing : List ℕ
  pub asked : List (List ℕ)
  pub calls : ℕ
  pub faults : ℕ
  pub failed : Option (List ℕ)
