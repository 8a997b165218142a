use Rattle.std.proofs.Common.{◌≡◌, subst, sym, rules}
use Rattle.zr_names.specs.Marks.{tentative_text}
use Rattle.zr_names.specs.Names.{IsName, name_is_bad}
use Rattle.zr_names.specs.declared.names.TheConstants.{NAME_LIMIT}
use Rattle.zr_names.proofs.MarkNames.{tentative_is_name}
use Rattle.zr_names.proofs.marks.tentative_name.Goals as goal

pub new-requires : goal.new-requires
new-requires c =
    let job = c.as_bytes.ensures.name in
    let same : c.in_ok-mark_text.field-0 ≡ tentative_text c.args.guid.0 c.args.job.now = search rules in
    subst (IsName name_is_bad NAME_LIMIT) (sym same) (tentative_is_name c.args.guid.0 c.args.job.now job)
