use Rattle.std.proofs.Common.{◌≡◌, ℕ, true, [], Ok, Option, Some, None, map, length, refl, ap, subst, sym, arith}
use Rattle.std.specs.Option.{option_map_or}
use Rattle.std.proofs.lemmas.List.Elements.{All-map}
use Rattle.zr_base.proofs.Lists.{found_from_All}
use Rattle.zr_command.specs.declared.command.Cmd.{Cmd}
use Rattle.zr_command.specs.declared.command.Cmd.TheVariants as cmd
use Rattle.zr_command.specs.declared.command.Reply.{Reply}
use Rattle.zr_world.specs.declared.pools.Dataset.{Dataset}
use Rattle.zr_world.specs.declared.pools.Pools.{Pools}
use Rattle.zr_command.specs.declared.version.VersionRow.{VersionRow}
use Rattle.zr_command.specs.declared.command.Reply.TheVariants as reply
use Rattle.zr_world.specs.Effect.{Effect, Replies}
use Rattle.zr_world.specs.declared.effects.Extent.TheVariants as extent
use Rattle.zr_world.proofs.Moments.{came-whole}
use Rattle.zr_world.specs.Lookup.{dataset_at, is_at}
use Rattle.zr_command.specs.Names.{is_mark}
use Rattle.zr_world.specs.Pools.{IsWellFormed, IsWellFormedSet}
use Rattle.zr_world.specs.Rows.{row_of_version}
use Rattle.zr_listing.specs.Printing.{MarksAreFree}
use Rattle.zr_model.specs.Ends.{AreFree}

rows-free : (next_txg : ℕ) (set : Dataset) → IsWellFormedSet next_txg set → MarksAreFree (map row_of_version set.versions)
rows-free next_txg set formed =
    All-map (λ (row : VersionRow). is_mark row.name ≡ true → row.refs ≡ 0) row_of_version set.versions
    (λ k d inside mark. ap length (formed.marks_free k d inside mark))

versions-free : (pools : Pools) (found : Option Dataset) → ((set : Dataset) → found ≡ Some set → IsWellFormedSet pools.next_txg set) → MarksAreFree (map row_of_version (option_map_or (λ set. set.versions) found []))
versions-free pools None each = λ k d inside. absurd (omega arith)
versions-free pools (Some set) each = rows-free pools.next_txg set (each set refl)

-- what the table replies is given back by a command that came whole, and counts no holds at a bookmark
replied-free : (pools : Pools) (command : Cmd) (given : Reply) → IsWellFormed pools → Replies [] pools command given → AreFree given
replied-free pools cmd.Sets (reply.Sets rows) formed replies = tt
replied-free pools cmd.Sets reply.Nothing formed replies = absurd replies
replied-free pools cmd.Sets (reply.Versions rows) formed replies = absurd replies
replied-free pools cmd.Sets (reply.Token info) formed replies = absurd replies
replied-free pools cmd.Sets (reply.Holds tags) formed replies = absurd replies
replied-free pools (cmd.Versions path) given formed replies =
    subst AreFree (sym replies)
    (versions-free pools (dataset_at pools path) (λ set found. found_from_All (IsWellFormedSet pools.next_txg) (is_at path) pools.sets set found formed.each))
replied-free pools (cmd.Holds path name) given formed replies = subst AreFree (sym replies) tt
replied-free pools (cmd.Token token) given formed replies = subst AreFree (sym replies) tt
replied-free pools (cmd.Snapshot path name) given formed replies = subst AreFree (sym replies) tt
replied-free pools (cmd.Hold kind job path name) given formed replies = subst AreFree (sym replies) tt
replied-free pools (cmd.Release kind job path name) given formed replies = subst AreFree (sym replies) tt
replied-free pools (cmd.Bookmark path from mark) given formed replies = subst AreFree (sym replies) tt
replied-free pools (cmd.DestroySnaps path names) given formed replies = subst AreFree (sym replies) tt
replied-free pools (cmd.DestroyMark path mark) given formed replies = subst AreFree (sym replies) tt
replied-free pools (cmd.Create path) given formed replies = subst AreFree (sym replies) tt
replied-free pools (cmd.Transfer transfer) given formed replies = subst AreFree (sym replies) tt
replied-free pools (cmd.Abort path) given formed replies = subst AreFree (sym replies) tt

-- what well-formed pools reply counts no holds at a bookmark
pub free_replies : (pools after : Pools) (command : Cmd) (given : Reply) → Effect [] pools command extent.Whole after (Ok given) → IsWellFormed pools → AreFree given
free_replies pools after command given done formed =
    replied-free pools command given formed (came-whole pools after command given done).2
