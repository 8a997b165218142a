use Rattle.std.proofs.Common.{get_or}
use Rattle.zr_names.specs.Names.{IsName, path_is_bad, name_is_bad, tag_is_bad}
use Rattle.zr_names.specs.declared.names.TheConstants.{PATH_LIMIT, NAME_LIMIT}
use Rattle.zr_listing.specs.Columns.{IsHoldLine}
use Rattle.zr_listing.specs.Printing.{hold_line}
use Rattle.zr_listing.proofs.Printed.{printed-more, valid-more, all-printed, all-valid, hold_line-spelled}
use Rattle.zr_listing.proofs.print.print_holds.Goals as goal

pub loop-tag-preserved : goal.loop-tag-preserved
loop-tag-preserved c =
    let tags = c.args.tags.now in
    let i = c.loop-tag.tag-index in
    let tag = c.tag-item.result in
    record {
      text = printed-more (hold_line c.as_bytes-dataset.result.now c.as_bytes-name.result.now) tags i tag c.loop-tag.out.items c.push_hold.new.out.items c.loop-tag-test.true c.tag-item.is c.loop-tag.invariant.text c.in_ok-push_hold.ensures.text;
      valid = valid-more (IsName tag_is_bad NAME_LIMIT) tags i tag c.loop-tag-test.true c.tag-item.is c.loop-tag.invariant.valid c.in_ok-push_hold.ensures.valid;
    }

pub returns-clause-read_back : goal.returns-clause-read_back
returns-clause-read_back c = λ apart.
    let tags = c.args.tags.now in
    let path = c.as_bytes-dataset.result.now in
    let snap = c.as_bytes-name.result.now in
    let i = c.loop-tag.tag-index in
    let valid = all-valid (IsName tag_is_bad NAME_LIMIT) tags i c.loop-tag-test.false c.loop-tag.invariant.valid in
    let path_named : IsName path_is_bad PATH_LIMIT path = rw c.as_bytes-dataset.ensures.value c.as_bytes-dataset.ensures.name in
    let snap_named : IsName name_is_bad NAME_LIMIT snap = rw c.as_bytes-name.ensures.value c.as_bytes-name.ensures.name in
    rw (← c.as_bytes-dataset.ensures.value) (rw (← c.as_bytes-name.ensures.value) (record {
      lines = all-printed (IsHoldLine path snap) (hold_line path snap) tags i c.loop-tag.out.items c.loop-tag-test.false c.loop-tag.invariant.text
          (λ k d inside. hold_line-spelled path snap (get_or tags k d) path_named snap_named (valid k d inside));
      tags_differ = apart;
    }))
