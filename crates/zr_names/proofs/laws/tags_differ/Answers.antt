use Rattle.zr_names.proofs.Unique.{same_tag}
use Rattle.zr_names.proofs.laws.tags_differ.Goals as goal

pub returns : goal.returns
returns c = same_tag
