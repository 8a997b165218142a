use Rattle.std.specs.Prelude.{option_map}
use Rattle.std.proofs.Common.{◌≡◌, ◌∙◌, ◌++◌, Bool, true, false, ℕ, List, [], ◌∷◌, Option, Some, None, ap, refl, subst, sym}
use Rattle.zr_command.specs.Names.{same_text}
use Rattle.zr_command.specs.declared.command.Cmd.TheVariants as cmd
use Rattle.zr_command.specs.declared.command.Transfer.{Transfer}
use Rattle.zr_jobs.specs.declared.pair.Pair.{Pair}
use Rattle.zr_known.specs.declared.known.Known.{Known}
use Rattle.zr_known.specs.declared.known.Receiving.TheVariants.{Nothing}
use Rattle.zr_known.specs.Known.{arrival, presence_after, told_transfer}
use Rattle.zr_known.specs.Replication.{newest_known, next_transfer, plan_known, transfer_of_plan, transfer_of_step}
use Rattle.zr_plan.specs.declared.target.Planned.{Planned}
use Rattle.zr_plan.specs.declared.target.Planned.TheVariants.{Abandon, Conflict, Resume, Steps, UpToDate}
use Rattle.zr_plan.specs.declared.target.Step.{Step}
use Rattle.zr_replicate.proofs.Marking.{equal}
use Rattle.zr_replicate.proofs.Sending.{some-is, unmapped}
use Rattle.zr_replicate.specs.Progress.{HasArrived, HasDone}

onto : (pair : Pair) (known : Known) (step : Step) (full : Bool) (transfer : Transfer) → transfer_of_step pair known step full ≡ Some transfer → transfer.target ≡ pair.target
onto pair known step true transfer e = sym (ap (λ (t : Transfer). t.target) (some-is _ transfer e))
onto pair known step false transfer e =
    sym (ap (λ (t : Transfer). t.target) (unmapped _ (newest_known known) transfer e).1)

-- the next transfer goes onto the pair's target
next-onto : (pair : Pair) (known : Known) (transfer : Transfer) → next_transfer pair known ≡ Some transfer → transfer.target ≡ pair.target
next-onto pair known transfer next = by (plan_known pair known) next where
  by : (plan : Option Planned) → transfer_of_plan pair known plan ≡ Some transfer → transfer.target ≡ pair.target
  by None e = cc
  by (Some UpToDate) e = cc
  by (Some Abandon) e = cc
  by (Some (Resume name guid)) e = cc
  by (Some (Conflict conflict)) e = cc
  by (Some (Steps [])) e = cc
  by (Some (Steps (step ∷ rest))) e = onto pair known step step.full transfer e

told : (pair : Pair) (transfer : Transfer) (known : Known) → same_text transfer.target pair.target ≡ true → told_transfer pair transfer known ≡ record known {
  presence = presence_after known.presence;
  arrived = option_map (λ arrived. arrived ++ arrival transfer ∷ []) known.arrived;
  transferred = true;
  receiving = Nothing;
}
told pair transfer known same = rw same refl

-- where the next transfer was done, what it sent has arrived
pub has-arrived : (pair : Pair) (transfer : Transfer) (before now : Known) → next_transfer pair before ≡ Some transfer → HasDone pair (cmd.Transfer transfer) before now → HasArrived transfer before now
has-arrived pair transfer before now next done =
    let target = next-onto pair before transfer next in
    let same : same_text transfer.target pair.target ≡ true = subst (λ (t : List ℕ). same_text t pair.target ≡ true) (sym target) (equal pair.target) in
    done ∙ told pair transfer before same
