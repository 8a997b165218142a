-- What a child in memory did and how it ended, by the answer of the model and by what it wrote.

use Rattle.std.proofs.Common.{◌≡◌, ℕ, Bool, true, false, List, [], Ok, Option, Some, None, inl, inr, refl, ap, subst, sym, ◌∙◌}
use Rattle.zr_command.specs.declared.command.Answer.TheVariants as answer
use Rattle.zr_command.specs.declared.command.Cmd.{Cmd}
use Rattle.zr_command.specs.declared.command.Reply.{Reply}
use Rattle.zr_command.specs.declared.command.Reply.TheVariants as reply
use Rattle.zr_exec.proofs.Answers.{one-reply}
use Rattle.zr_exec.proofs.TokenContents.{info_in-whole}
use Rattle.zr_exec.specs.Listed.{Listed, listed_by}
use Rattle.zr_exec.specs.Listed as listed
use Rattle.zr_exec.specs.Serving.{Does, IsReply, IsReplyAnyhow}
use Rattle.zr_exec.specs.declared.spawn.RunExit.{RunExit}
use Rattle.zr_exec.specs.declared.spawn.RunExit.TheVariants as exit
use Rattle.zr_model.specs.Ends.{EndsAt, is_sendable, WritesReply, Wrote}
use Rattle.zr_world.specs.Effect.{Effect, go, MayCome, step_at}
use Rattle.zr_world.specs.Planned.{ComesAt}
use Rattle.zr_world.specs.declared.effects.Extent.{Extent}
use Rattle.zr_world.specs.declared.effects.Extent.TheVariants as extent
use Rattle.zr_world.specs.declared.pools.Pools.{Pools}

anyhow-is : (what : Listed) (bytes : List ℕ) (given : Reply) → IsReplyAnyhow what bytes given → IsReply what bytes given
anyhow-is listed.sets bytes given is = absurd is
anyhow-is (listed.versions path) bytes given is = absurd is
anyhow-is (listed.holds path name) bytes given is = absurd is
anyhow-is listed.token bytes given is = is
anyhow-is listed.nothing bytes given is = absurd is

-- a child that writes the reply of a command which came whole does the command
pub reply_does : (command : Cmd) (before after : Pools) (given : Reply) (sendable : Bool) (text bytes : List ℕ) (ended : RunExit) → Effect [] before command extent.Whole after (Ok given) → IsReply (listed_by command) text given → Wrote sendable text bytes ended → Does command before after ended bytes
reply_does command before after given sendable text bytes exit.Done effect is wrote =
    (given, effect, subst (λ (bs : List ℕ). IsReply (listed_by command) bs given) (sym wrote.1) is)
reply_does command before after given sendable text bytes exit.Nonzero effect is wrote = record {
  some = (extent.Whole, Ok given, effect);
  replied = λ other anyhow.
      let own = subst (λ (bs : List ℕ). IsReply (listed_by command) bs given) (sym wrote.1) is in
      let same : given ≡ other = one-reply (listed_by command) bytes given other own (anyhow-is (listed_by command) bytes other anyhow) in
      subst (λ (r : Reply). Effect [] before command extent.Whole after (Ok r)) same effect;
}
reply_does command before after given sendable text bytes exit.Failed effect is wrote = absurd wrote
reply_does command before after given sendable text bytes exit.TooLong effect is wrote = (extent.Whole, Ok given, effect)
reply_does command before after given sendable text bytes exit.NoMemory effect is wrote = (extent.Whole, Ok given, effect)

writes : (command : Cmd) (before after : Pools) (given : Reply) (text bytes : List ℕ) → step_at before command extent.Whole ≡ go after given → IsReply (listed_by command) text given → bytes ≡ text → WritesReply command before after bytes
writes command before after given text bytes whole is same = record {
  given = given;
  whole = whole;
  is_reply = subst (λ (bs : List ℕ). IsReply (listed_by command) bs given) (sym same) is;
}

-- and ends as the plan says
pub reply_ends : (plan : Option Extent) (command : Cmd) (before after : Pools) (given : Reply) (sendable : Bool) (text bytes : List ℕ) (ended : RunExit) → ComesAt plan command before after (answer.Done given) → sendable ≡ is_sendable before command → IsReply (listed_by command) text given → Wrote sendable text bytes ended → EndsAt plan command before after ended bytes
reply_ends (Some some) command before after given sendable text bytes ended comes may is wrote = let wrong = comes.0 in cc
reply_ends None command before after given sendable text bytes exit.Done comes may is wrote =
    (writes command before after given text bytes comes is wrote.1, sym may ∙ wrote.0)
reply_ends None command before after given sendable text bytes exit.Nonzero comes may is wrote =
    inr (writes command before after given text bytes comes is wrote.1, sym may ∙ wrote.0)
reply_ends None command before after given sendable text bytes exit.Failed comes may is wrote = absurd wrote
reply_ends None command before after given sendable text bytes exit.TooLong comes may is wrote = inl (given, comes)
reply_ends None command before after given sendable text bytes exit.NoMemory comes may is wrote = inl (given, comes)

nothing-read : (what : Listed) (given : Reply) → IsReplyAnyhow what [] given → ⊥
nothing-read listed.sets given is = is
nothing-read (listed.versions path) given is = is
nothing-read (listed.holds path name) given is = is
nothing-read listed.token (reply.Token info) is = let read = info_in-whole [] info is in cc
nothing-read listed.token reply.Nothing is = is
nothing-read listed.token (reply.Sets rows) is = is
nothing-read listed.token (reply.Versions rows) is = is
nothing-read listed.token (reply.Holds tags) is = is
nothing-read listed.nothing given is = is

-- a child that ended with another status and wrote nothing did some of its command
pub failure_does : (command : Cmd) (before after : Pools) (bytes : List ℕ) → MayCome [] before command after → bytes ≡ [] → Does command before after exit.Nonzero bytes
failure_does command before after bytes comes silent = record {
  some = comes;
  replied = λ given is. absurd (nothing-read (listed_by command) given (subst (λ (bs : List ℕ). IsReplyAnyhow (listed_by command) bs given) silent is));
}
