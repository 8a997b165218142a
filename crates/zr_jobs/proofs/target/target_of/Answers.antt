use Rattle.std.proofs.Common.{◌≡◌, ◌≤◌, sym, subst, length, rules}
use Rattle.zr_names.specs.Names.{IsName, path_is_bad}
use Rattle.zr_names.specs.declared.names.TheConstants.{PATH_LIMIT}
use Rattle.zr_jobs.specs.Targets.{target_text}
use Rattle.zr_jobs.proofs.Targets.{target_is_path}
use Rattle.zr_jobs.proofs.target.target_of.Goals as goal

pub new-requires : goal.new-requires
new-requires c =
    let parts = c.target_length-length.ensures in
    let place = c.args.place.now in
    let source = c.args.source.now in
    let same : c.from_vec.result ≡ target_text place source = search rules in
    let short : length (target_text place source) ≤ PATH_LIMIT = search rules in
    subst (IsName path_is_bad PATH_LIMIT) (sym same) (target_is_path place source parts.identity parts.root parts.source short)
