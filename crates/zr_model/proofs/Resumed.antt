-- A pipe that sends by a token: the one transfer that it gives, or none.

use Rattle.std.proofs.Common.{◌≡◌, ℕ, Bool, ◌&&◌, true, false, List, Option, Some, None, option_map, refl, ap, subst, sym, ◌∙◌}
use Rattle.zr_cmd.specs.Words.{send_from}
use Rattle.zr_cmd.specs.declared.forms.ZfsCall.{ZfsCall}
use Rattle.zr_cmd.specs.declared.forms.ZfsCall.TheVariants as call
use Rattle.zr_command.specs.Kinds.{names_snap}
use Rattle.zr_command.specs.declared.command.Base.{Base}
use Rattle.zr_command.specs.declared.command.Base.TheVariants as base
use Rattle.zr_command.specs.declared.command.Transfer.{Transfer}
use Rattle.zr_command.specs.declared.version.VersionName.TheVariants.{Mark, Snap}
use Rattle.zr_exec.proofs.Names.{and-both}
use Rattle.zr_model.specs.Piping.{AreEnds, FindsOne}
use Rattle.zr_names.specs.declared.unit.Guid.{Guid}
use Rattle.zr_world.proofs.Keeping.{found-passes}
use Rattle.zr_world.specs.Answering.{IsByToken, StandsFrom}
use Rattle.zr_world.specs.Lookup.{first_of_guid, has_guid, is_snapshot, versions_at}
use Rattle.zr_world.specs.Tokens.{partial_of_token}
use Rattle.zr_world.specs.declared.pools.Partial.{Partial}
use Rattle.zr_world.specs.declared.pools.Pools.{Pools}
use Rattle.zr_world.specs.declared.pools.Version.{Version}

-- the first snapshot of a guid is no bookmark
pub first_is_snap : (pools : Pools) (path : List ℕ) (guid : Guid) (version : Version) (mark : List ℕ) → first_of_guid pools path guid ≡ Some version → version.name ≡ Mark mark → ⊥
first_is_snap pools path guid version mark found marks =
    let passes = found-passes (λ (v : Version). is_snapshot v && has_guid guid v) (versions_at pools path) version found in
    let snap : names_snap version.name ≡ true = (and-both (is_snapshot version) (has_guid guid version) passes).0 in
    let none : false ≡ true = ap names_snap (sym marks) ∙ snap in
    cc

-- a transfer that a token sends is a resume by it
by-token : (pools : Pools) (transfer : Transfer) (token : List ℕ) (from : Base) → call.SendToken token ≡ send_from transfer from → StandsFrom pools transfer from → (incremental : Option Guid) × IsByToken pools transfer token incremental
by-token pools transfer token base.Full sends stands = cc
by-token pools transfer token (base.From mark guid) sends stands = cc
by-token pools transfer token (base.Resume other incremental) sends stands =
    let same : other ≡ token = cc in
    (incremental, subst (λ (t : List ℕ). IsByToken pools transfer t incremental) same stands)

-- where the token is none of the model, no transfer is a resume by it
pub unread : (pools : Pools) (token target : List ℕ) (force : Bool) (transfer : Transfer) → None ≡ partial_of_token token → AreEnds pools (call.SendToken token) (call.Receive target force) transfer → ⊥
unread pools token target force transfer none ends =
    let resumes = (by-token pools transfer token transfer.base ends.sends ends.stands).1 in
    let is = resumes.is in
    cc

-- and where its source lacks the snapshot
pub unsent : (pools : Pools) (token target : List ℕ) (force : Bool) (partial : Partial) (transfer : Transfer) → Some partial ≡ partial_of_token token → None ≡ option_map (λ version. version.name) (first_of_guid pools partial.source partial.to) → AreEnds pools (call.SendToken token) (call.Receive target force) transfer → ⊥
unsent pools token target force partial transfer told none ends =
    let resumes = (by-token pools transfer token transfer.base ends.sends ends.stands).1 in
    let same : Some resumes.partial ≡ Some partial = sym resumes.is ∙ sym told in
    let one : resumes.partial ≡ partial = cc in
    let first = subst (λ (p : Partial). option_map (λ version. version.name) (first_of_guid pools p.source p.to) ≡ Some (Snap transfer.to)) one resumes.first in
    cc
