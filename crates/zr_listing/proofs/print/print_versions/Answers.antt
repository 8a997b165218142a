use Rattle.std.proofs.Common.{get_or}
use Rattle.std.proofs.lemmas.List.Sorted.{IsPermutation-refl}
use Rattle.zr_names.specs.Names.{IsName, path_is_bad}
use Rattle.zr_names.specs.declared.names.TheConstants.{PATH_LIMIT}
use Rattle.zr_listing.specs.Columns.{IsVersionLine}
use Rattle.zr_listing.specs.Printing.{version_line, IsVersionRow}
use Rattle.zr_listing.proofs.Printed.{printed-more, valid-more, all-printed, all-valid, version_line-spelled}
use Rattle.zr_listing.proofs.print.print_versions.Goals as goal

pub loop-row-preserved : goal.loop-row-preserved
loop-row-preserved c =
    let rows = c.args.rows.now in
    let i = c.loop-row.row-index in
    let row = c.row-item.result in
    record {
      text = printed-more (version_line c.as_bytes-dataset.result.now) rows i row c.loop-row.out.items c.push_version.new.out.items c.loop-row-test.true c.row-item.is c.loop-row.invariant.text c.in_ok-push_version.ensures.text;
      valid = valid-more IsVersionRow rows i row c.loop-row-test.true c.row-item.is c.loop-row.invariant.valid c.in_ok-push_version.ensures.valid;
    }

pub returns-clause-read_back : goal.returns-clause-read_back
returns-clause-read_back c = λ list free.
    let rows = c.args.rows.now in
    let path = c.as_bytes-dataset.result.now in
    let i = c.loop-row.row-index in
    let valid = all-valid IsVersionRow rows i c.loop-row-test.false c.loop-row.invariant.valid in
    let named : IsName path_is_bad PATH_LIMIT path = rw c.as_bytes-dataset.ensures.value c.as_bytes-dataset.ensures.name in
    rw (← c.as_bytes-dataset.ensures.value) (record {
      listed = rows;
      lines = all-printed (IsVersionLine path) (version_line path) rows i c.loop-row.out.items c.loop-row-test.false c.loop-row.invariant.text
          (λ k d inside. version_line-spelled path (get_or rows k d) named (valid k d inside) (free k d inside));
      same_rows = IsPermutation-refl rows;
      in_order = list;
    })
