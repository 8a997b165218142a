use Rattle.std.proofs.Common.{◌≡◌, ap, subst, rules, IfErr, List, IsPermutation}
use Rattle.std.proofs.lemmas.List.Sorted.{IsPermutation-sym}
use Rattle.zr_listing.specs.Columns.{full_name, IsVersionLine}
use Rattle.zr_listing.specs.Lines.{IsBadAt, NamesDiffer}
use Rattle.zr_command.specs.Listings.{IsVersionList}
use Rattle.zr_command.specs.declared.version.VersionRow.{VersionRow}
use Rattle.zr_listing.proofs.Exact.{garbled-none, lines-one}
use Rattle.zr_listing.proofs.Rows.{IsVersionLine-one, full_name-one}
use Rattle.zr_listing.proofs.Ordered.{version-list-one}
use Rattle.zr_listing.proofs.Sorting.{differ-permutation, version-list}
use Rattle.zr_listing.proofs.versions.read_versions.Goals as goal
use Rattle.zr_listing.proofs.versions.read_versions.Goals.{After-from_vec}

pub returns-in_err-rows-clause-none : goal.returns-in_err-rows-clause-none
returns-in_err-rows-clause-none c = λ garbled rows is.
    let bytes = c.args.bytes.now in
    let path = c.args.path.now in
    let full : VersionRow → List _ = λ row. full_name path row.name in
    let bad : IfErr c.from_residual.result (IsBadAt (IsVersionLine path) full bytes) = search rules in
    let apart : NamesDiffer full rows = λ i j d less inside same. is.in_order.names_differ i j d less inside (full_name-one path _ _ same) in
    garbled-none (IsVersionLine path) (IsVersionLine-one path) full bytes c.from_residual.result bad garbled is.listed is.lines
    (differ-permutation full rows is.listed (IsPermutation-sym is.listed rows is.same_rows) apart)

in-order : (c : After-from_vec) → IsVersionList c.from_vec.result
in-order c =
    let path = c.args.path.now in
    let full : VersionRow → List _ = λ row. full_name path row.name in
    let rows = c.in_ok-rows.rows.items in
    let sorted = c.sort_rows.new.rows.items in
    let apart = differ-permutation full rows sorted c.in_ok-sort_rows.ensures.same_rows c.in_ok-rows.ensures.differ in
    rw c.from_vec.ensures (version-list full (λ a b same. ap (full_name path) same) sorted c.in_ok-sort_rows.ensures.in_order apart)

pub returns-clause-rows : goal.returns-clause-rows
returns-clause-rows c = record {
  listed = c.in_ok-rows.rows.items;
  lines = c.in_ok-rows.ensures.rows;
  same_rows = rw c.from_vec.ensures c.in_ok-sort_rows.ensures.same_rows;
  in_order = in-order (goal.at.returns-clause-rows c).After-from_vec;
}

pub returns-clause-in_order : goal.returns-clause-in_order
returns-clause-in_order c = in-order (goal.at.returns-clause-in_order c).After-from_vec

pub returns-clause-only : goal.returns-clause-only
returns-clause-only c = λ others is.
    let path = c.args.path.now in
    let rows = c.in_ok-rows.rows.items in
    let same : is.listed ≡ rows = lines-one (IsVersionLine path) (IsVersionLine-one path) c.args.bytes.now is.listed rows is.lines c.in_ok-rows.ensures.rows in
    let there : IsPermutation rows others = subst (λ (l : List VersionRow). IsPermutation l others) same is.same_rows in
    let here : IsPermutation rows c.from_vec.result = rw c.from_vec.ensures c.in_ok-sort_rows.ensures.same_rows in
    version-list-one rows others c.from_vec.result there here is.in_order (in-order (goal.at.returns-clause-only c).After-from_vec)
