use Rattle.std.proofs.Common.{get_or}
use Rattle.zr_listing.specs.Columns.{IsSetLine}
use Rattle.zr_listing.specs.Printing.{set_line, IsSetRow}
use Rattle.zr_listing.proofs.Printed.{printed-more, valid-more, all-printed, all-valid, set_line-spelled}
use Rattle.zr_listing.proofs.print.print_sets.Goals as goal

pub loop-row-preserved : goal.loop-row-preserved
loop-row-preserved c =
    let rows = c.args.rows.now in
    let i = c.loop-row.row-index in
    let row = c.row-item.result in
    record {
      text = printed-more set_line rows i row c.loop-row.out.items c.push_set.new.out.items c.loop-row-test.true c.row-item.is c.loop-row.invariant.text c.in_ok-push_set.ensures.text;
      valid = valid-more IsSetRow rows i row c.loop-row-test.true c.row-item.is c.loop-row.invariant.valid c.in_ok-push_set.ensures.valid;
    }

pub returns-clause-read_back : goal.returns-clause-read_back
returns-clause-read_back c = λ apart.
    let rows = c.args.rows.now in
    let i = c.loop-row.row-index in
    let valid = all-valid IsSetRow rows i c.loop-row-test.false c.loop-row.invariant.valid in
    record {
      lines = all-printed IsSetLine set_line rows i c.loop-row.out.items c.loop-row-test.false c.loop-row.invariant.text
          (λ k d inside. set_line-spelled (get_or rows k d) (valid k d inside));
      paths_differ = apart;
    }
