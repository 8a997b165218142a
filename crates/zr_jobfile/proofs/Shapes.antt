use Rattle.std.proofs.Common.{◌≡◌, ◌≢◌, ◌==◌, ◌↔◌, ◌<◌, ◌≤◌, ℕ, Bool, IsTrue, List, [], ◌∷◌, Option, Some, None, IfNone, codes, length, refl, sym, ap, arith, ◌∙◌}
use Rattle.toml.specs.Data.{array, Data, item, Items, no_items, Members, member, string, table}
use Rattle.toml.specs.View.{items_view}
use Rattle.toml.specs.declared.value.Value.{Value}
use Rattle.zr_jobfile.specs.SnapFile.{job_tree, one_job_file, pruning_tree, snap_file}
use Rattle.zr_jobfile.specs.Trees.{filter_tree, job_end}

pub if_none : {T : Type 0} (o : Option T) (P : Type 0) → P → IfNone o P
if_none None P p = p
if_none (Some x) P p = tt

pub two_values : (values : List Value) (first second : Data) → items_view values ≡ item first (item second no_items) → length values ≡ 2
two_values [] first second e = cc
two_values (v ∷ []) first second e = cc
two_values (v ∷ w ∷ []) first second e = refl
two_values (v ∷ w ∷ x ∷ values) first second e = cc

no_values : (values : List Value) → length values ≡ 0 → items_view values ≡ no_items
no_values [] e = refl
no_values (v ∷ values) e = absurd (omega (arith, e))

empty_values : (values : List Value) → items_view values ≡ no_items → length values ≡ 0
empty_values [] e = refl
empty_values (v ∷ values) e = cc

same_items : (one other : Items) → array one ≡ array other → one ≡ other
same_items one other e = cc

-- a test for an empty array
pub tells_empty : (seen : Data) (values : List Value) (test : Bool) → seen ≡ array (items_view values) → test ≡ (length values == 0) → IsTrue test ↔ (seen ≡ array no_items)
tells_empty seen values test is by = (
  λ t. let none : length values ≡ 0 = grind arith in is ∙ ap array (no_values values none),
  λ e. let none : length values ≡ 0 = empty_values values (same_items (items_view values) no_items (sym is ∙ e)) in grind arith,
)

pub one_item : (values : List Value) (inner : Data) → items_view values ≡ item inner no_items → length values ≡ 1
one_item [] inner e = cc
one_item (v ∷ []) inner e = refl
one_item (v ∷ w ∷ values) inner e = cc

-- no job has this value, whatever stands in its three parts
abbrev pub IsNoJob : Data → Type 0
IsNoJob value = (name pattern : List ℕ) (count : ℕ) → 0 < count → count ≤ 4294967295 → value ≢ job_tree name pattern count

abbrev pub IsNoFile : Members → Type 0
IsNoFile tree = (name pattern : List ℕ) (count : ℕ) → 0 < count → count ≤ 4294967295 → tree ≢ snap_file name pattern count

same_job : (job other : Data) → one_job_file job ≡ one_job_file other → job ≡ other
same_job job other e = cc

pub no_file : (tree : Members) (job : Data) → tree ≡ one_job_file job → IsNoJob job → IsNoFile tree
no_file tree job are none name pattern count some fits e =
    none name pattern count some fits (same_job job (job_tree name pattern count) (sym are ∙ e))

pub no_file_where : {T : Type 0} (o : Option T) (tree : Members) (job : Data) → tree ≡ one_job_file job → IfNone o (IsNoJob job) → IfNone o (IsNoFile tree)
no_file_where None tree job are none = no_file tree job are none
no_file_where (Some x) tree job are none = tt

rest_of_filter : (front other : Data) (rest more : Members) → member (codes "filesystems") front rest ≡ member (codes "filesystems") other more → rest ≡ more
rest_of_filter front other rest more e = cc

rest_of_name : (front other : Data) (rest more : Members) → member (codes "name") front rest ≡ member (codes "name") other more → rest ≡ more
rest_of_name front other rest more e = cc

table_members : (inside other : Members) → table inside ≡ table other → inside ≡ other
table_members inside other e = cc

-- a value that goes on, after its filter and its name, with no pruning of a job is no job
pub no_pruning : (value filter name : Data) (members named pruned : Members) → value ≡ table members → members ≡ member (codes "filesystems") filter named → named ≡ member (codes "name") name pruned → ((count : ℕ) (rest : Members) → 0 < count → count ≤ 4294967295 → pruned ≢ member (codes "pruning") (pruning_tree count) rest) → IsNoJob value
no_pruning value filter name members named pruned a b d none title pattern count some fits e =
    let third : Members = member (codes "pruning") (pruning_tree count) (job_end (codes "snap")) in
    let second : Members = member (codes "name") (string title) third in
    let whole = table_members members (member (codes "filesystems") (filter_tree pattern) second) (sym a ∙ e) in
    let one = rest_of_filter filter (filter_tree pattern) named second (sym b ∙ whole) in
    let two = rest_of_name name (string title) pruned third (sym d ∙ one) in
    none count (job_end (codes "snap")) some fits two
