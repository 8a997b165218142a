use Rattle.std.proofs.Common.{◌≡◌, subst, sym, rules}
use Rattle.zr_names.specs.Marks.{tag_text}
use Rattle.zr_names.specs.Names.{IsName, tag_is_bad}
use Rattle.zr_names.specs.declared.names.TheConstants.{NAME_LIMIT}
use Rattle.zr_names.proofs.MarkNames.{tag_is_tag}
use Rattle.zr_names.proofs.marks.tag_of.Goals as goal

pub new-requires : goal.new-requires
new-requires c =
    let job = c.as_bytes.ensures.name in
    let same : c.from_vec.result ≡ tag_text c.args.kind c.args.job.now = search rules in
    subst (IsName tag_is_bad NAME_LIMIT) (sym same) (tag_is_tag c.args.kind c.args.job.now job)
