use Rattle.std.proofs.Common.{◌≡◌, ℕ, subst, List, [], ◌∷◌, ◌++◌, Option, Some, None, refl, ap, ◌∙◌}
use Rattle.std.specs.Prelude.{flat_map}
use Rattle.std.proofs.lemmas.Grind.{flat_map-append}
use Rattle.std.proofs.lemmas.List.{append-nil}
use Rattle.zr_command.specs.declared.command.Entry.{Entry}
use Rattle.zr_command.specs.declared.command.Entry.TheVariants as entry
use Rattle.zr_world.specs.Answering.{appended}
use Rattle.zr_exec.specs.declared.spawn.Line.{Line}
use Rattle.zr_exec.specs.Entries.{entries_of, entries_of_line}
use Rattle.zr_exec.specs.Recording.{with_lines}

-- a record with one line more is read as the entries of before with those of the line
pub begin_told : (program : List ℕ) (told : Option (List Line)) (more : Line) → entries_of program (with_lines told (more ∷ [])) ≡ appended (entries_of program told) (entries_of_line program more)
begin_told program None more = refl
begin_told program (Some lines) more =
    ap (λ (es : List Entry). Some (entry.Program program ∷ es)) (flat_map-append (entries_of_line program) lines (more ∷ []) ∙ ap (λ es. flat_map (entries_of_line program) lines ++ es) (append-nil (entries_of_line program more)))

program-first : (program asked : List ℕ) (more others : List Entry) → Some (entry.Program program ∷ more) ≡ Some (entry.Program asked ∷ others) → program ≡ asked
program-first program asked more others same = cc

-- a record only grows at its end, so the program that stands first in it is the same before and after
pub same_program : (program asked : List ℕ) (before now : Option (List Line)) (more : List Entry) → entries_of program now ≡ appended (entries_of asked before) more → entries_of asked now ≡ appended (entries_of asked before) more
same_program program asked None None more same = refl
same_program program asked None (Some lines) more same = cc
same_program program asked (Some lines) None more same = cc
same_program program asked (Some old) (Some new) more same =
    let one : program ≡ asked = program-first program asked (flat_map (entries_of_line program) new) (flat_map (entries_of_line asked) old ++ more) same in
    subst (λ (p : List ℕ). entries_of p (Some new) ≡ appended (entries_of asked (Some old)) more) one same
