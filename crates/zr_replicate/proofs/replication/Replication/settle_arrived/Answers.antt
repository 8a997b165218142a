use Rattle.std.specs.Prelude.{MatchOption}
use Rattle.std.proofs.Common.{◌∙◌, sym, subst, Option}
use Rattle.zr_command.specs.declared.version.VersionName.{VersionName}
use Rattle.zr_known.specs.Deciding.{MakesCursor}
use Rattle.zr_replicate.proofs.replication.Replication.settle_arrived.Goals as goal

pub settle-requires-clause-may : goal.settle-requires-clause-may
settle-requires-clause-may g c =
    let may = c.requires.may in
    let makes : VersionName → Type 0 = λ version. MakesCursor c.args.pair.now c.args.self.now.known.now c.args.newest.now.guid version in
    record {
      last = may.last;
      is_newest = may.is_newest;
      first = sym c.in-Ok-Some.ensures.first ∙ c.in-Ok-Some.field-0-is;
      makes = subst (λ (maker : Option VersionName). MatchOption maker ((version : VersionName) → makes version → ⊥) makes) c.in-Ok-Some.field-0-is c.in-Ok-Some.ensures.makes;
      bookmarks = may.bookmarks;
    }

pub unreachable-requires : goal.unreachable-requires
unreachable-requires g c =
    let makes : VersionName → Type 0 = λ version. MakesCursor c.args.pair.now c.args.self.now.known.now c.args.newest.now.guid version in
    subst (λ (maker : Option VersionName). MatchOption maker ((version : VersionName) → makes version → ⊥) makes) c.in-Ok-None.field-0-is c.in-Ok-None.ensures.makes c.requires.may.version c.requires.may.makes
