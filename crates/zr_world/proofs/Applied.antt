use Rattle.std.proofs.Common.{◌≡◌, ℕ, Bool, true, false, cond, find, map, List, [], ◌∷◌, ◌++◌, Option, Some, None, Result, Ok, Err, option_map, is_some, ap, ap₂, ◌⊎◌, inl, inr, refl, subst, sym}
use Rattle.std.proofs.lemmas.List.Elements.{Contains-push}
use Rattle.zr_base.proofs.Lists.{AllPairs-map}
use Rattle.zr_command.specs.Names.{is_below, same_text}
use Rattle.zr_command.specs.declared.command.Answer.TheVariants.{Done}
use Rattle.zr_command.specs.declared.command.Cmd.{Cmd}
use Rattle.zr_command.specs.declared.command.Cmd.TheVariants as cmd
use Rattle.zr_command.specs.declared.command.Reply.{Reply}
use Rattle.zr_command.specs.declared.command.Reply.TheVariants as reply
use Rattle.zr_command.specs.declared.version.SetRow.{SetRow}
use Rattle.zr_world.specs.declared.effects.ApplyFault.{ApplyFault}
use Rattle.zr_world.specs.declared.effects.ApplyFault.TheVariants.{Refused, NoMemory}
use Rattle.zr_world.specs.declared.effects.Extent.{Extent}
use Rattle.zr_world.specs.declared.effects.Extent.TheVariants as extent
use Rattle.zr_world.specs.declared.effects.Refusal.{Refusal}
use Rattle.zr_world.specs.declared.pools.Dataset.{Dataset}
use Rattle.zr_world.specs.declared.pools.Pools.{Pools}
use Rattle.zr_world.specs.Answering.{IsReplyTo}
use Rattle.zr_world.specs.Effect.{after_since, Applies, chosen_of, Comes, ComesUnless, Effect, Gives, go, MayCome, part_of, refuse, Replies, reply_to, row_at, ShowsSets, Step, step_at, unless_refused}
use Rattle.zr_world.specs.Lookup.{is_at}
use Rattle.zr_world.specs.Planned.{LeavesAt}
use Rattle.zr_world.specs.Pools.{IsWellFormed}
use Rattle.zr_world.specs.Reasons.{refusal, refusal_since}
use Rattle.zr_world.specs.Rows.{row_of_set}
use Rattle.zr_world.proofs.Sound.{after-keeps, chosen-keeps, part-keeps, reply-fits, table-leaves}

-- the rows of datasets show each path as its dataset does
pub row_at-map : (path : List ℕ) (sets : List Dataset) → row_at (map row_of_set sets) path ≡ option_map row_of_set (find (is_at path) sets)
row_at-map path [] = refl
row_at-map path (set ∷ sets) = choose (same_text set.path path) (row_at-map path sets) where
  choose : (b : Bool) → row_at (map row_of_set sets) path ≡ option_map row_of_set (find (is_at path) sets) → cond b (Some (row_of_set set)) (row_at (map row_of_set sets) path) ≡ option_map row_of_set (cond b (Some set) (find (is_at path) sets))
  choose true rest = refl
  choose false rest = rest

shows-now : (since : List Pools) (pools : Pools) → IsWellFormed pools → ShowsSets (since ++ pools ∷ []) (map row_of_set pools.sets)
shows-now since pools formed = record {
  rising = AllPairs-map row_of_set (λ (a : SetRow) (b : SetRow). is_below a.path b.path ≡ true) pools.sets formed.rising;
  each = λ path. (pools, Contains-push since pools, row_at-map path pools.sets);
}

-- what the table replies is what a command may give back
table-replies : (since : List Pools) (pools : Pools) (command : Cmd) → IsWellFormed pools → Replies since pools command (reply_to pools command)
table-replies since pools cmd.Sets formed = shows-now since pools formed
table-replies since pools (cmd.Versions path) formed = refl
table-replies since pools (cmd.Holds path name) formed = refl
table-replies since pools (cmd.Token token) formed = refl
table-replies since pools (cmd.Snapshot path name) formed = refl
table-replies since pools (cmd.Hold kind job path name) formed = refl
table-replies since pools (cmd.Release kind job path name) formed = refl
table-replies since pools (cmd.Bookmark path version mark) formed = refl
table-replies since pools (cmd.DestroySnaps path names) formed = refl
table-replies since pools (cmd.DestroyMark path mark) formed = refl
table-replies since pools (cmd.Create path) formed = refl
table-replies since pools (cmd.Transfer transfer) formed = refl
table-replies since pools (cmd.Abort path) formed = refl

-- what comes where it is not refused, or the refusal
gives-by : (since : List Pools) (pools after next : Pools) (command : Cmd) (some : Extent) (said : Reply) (r : Result Reply ApplyFault) → Comes since pools pools command some next said → Applies pools (unless_refused (refusal pools command) next said) after r → Gives since pools command some after r
gives-by since pools after next command some said result comes applies = choose (refusal pools command) refl result applies where
  effect : (got : Result Reply Refusal) → ComesUnless (refusal pools command) since pools pools command some after got → Effect since pools command some after got
  effect got all = record { earlier = pools; among = Contains-push since pools; comes = all }

  by : (got : Result Reply Refusal) (why : Option Refusal) → refusal pools command ≡ why → ComesUnless why since pools pools command some after got → Effect since pools command some after got
  by got why is all = effect got (subst (λ (w : Option Refusal). ComesUnless w since pools pools command some after got) (sym is) all)

  choose : (why : Option Refusal) → refusal pools command ≡ why → (r : Result Reply ApplyFault) → Applies pools (unless_refused why next said) after r → Gives since pools command some after r
  choose (Some refused) is (Ok given) a = absurd a
  choose (Some refused) is (Err (Refused why)) a = by (Err why) (Some refused) is a
  choose (Some refused) is (Err NoMemory) a = a
  choose None is (Ok given) a =
      by (Ok given) None is
      (subst (λ (p : Pools). Comes since pools pools command some p given) (sym a.0)
      (subst (λ (g : Reply). Comes since pools pools command some next g) (sym a.1) comes))
  choose None is (Err (Refused why)) a = absurd a
  choose None is (Err NoMemory) a = a

-- what a call that applies a command leaves and answers is an effect, whatever the moments since its issue were
pub apply-gives : (since : List Pools) (pools after : Pools) (command : Cmd) (some : Extent) (r : Result Reply ApplyFault) → IsWellFormed pools → Applies pools (step_at pools command some) after r → Gives since pools command some after r
apply-gives since pools after command extent.None r formed applies =
    gives-by since pools after pools command extent.None reply.Nothing r (refl, refl) applies
apply-gives since pools after command extent.Part r formed applies =
    gives-by since pools after (part_of pools command) command extent.Part reply.Nothing r (refl, refl) applies
apply-gives since pools after command (extent.Chosen bits) r formed applies =
    gives-by since pools after (chosen_of pools command bits) command (extent.Chosen bits) reply.Nothing r (refl, refl) applies
apply-gives since pools after command extent.Whole r formed applies =
    gives-by since pools after (after_since pools pools command) command extent.Whole (reply_to pools command) r (table-leaves pools pools command, table-replies since pools command formed) applies

comes-keeps : (since : List Pools) (earlier before after : Pools) (command : Cmd) (some : Extent) (given : Reply) → refusal_since earlier before command ≡ None → Comes since earlier before command some after given → IsWellFormed before → IsWellFormed after
comes-keeps since earlier before after command extent.None given allowed comes formed = subst IsWellFormed (sym comes.0) formed
comes-keeps since earlier before after command extent.Part given allowed comes formed =
    subst IsWellFormed (sym comes.0) (part-keeps before command formed)
comes-keeps since earlier before after command (extent.Chosen bits) given allowed comes formed =
    subst IsWellFormed (sym comes.0) (chosen-keeps before command bits formed)
comes-keeps since earlier before after command extent.Whole given allowed comes formed =
    after-keeps earlier before after command allowed comes.0 formed

-- an effect leaves well-formed pools well formed, whatever moment its sending end read the source at
pub effect-keeps : (since : List Pools) (before after : Pools) (command : Cmd) (some : Extent) (got : Result Reply Refusal) → Effect since before command some after got → IsWellFormed before → IsWellFormed after
effect-keeps since before after command some result effect formed =
    choose (refusal_since effect.earlier before command) refl result effect.comes where
      choose : (refused : Option Refusal) → refusal_since effect.earlier before command ≡ refused → (got : Result Reply Refusal) → ComesUnless refused since effect.earlier before command some after got → IsWellFormed after
      choose (Some refused) is (Ok given) comes = absurd comes
      choose (Some refused) is (Err why) comes = subst IsWellFormed (sym comes.1) formed
      choose None is (Ok given) comes = comes-keeps since effect.earlier before after command some given is comes formed
      choose None is (Err why) comes = absurd comes

-- a command leaves well-formed pools well formed
pub apply-keeps : (pools after : Pools) (command : Cmd) (some : Extent) (r : Result Reply ApplyFault) → Applies pools (step_at pools command some) after r → IsWellFormed pools → IsWellFormed after
apply-keeps pools after command some result applies formed = choose result (apply-gives [] pools after command some result formed applies) where
  choose : (r : Result Reply ApplyFault) → Gives [] pools command some after r → IsWellFormed after
  choose (Ok given) effect = effect-keeps [] pools after command some (Ok given) effect formed
  choose (Err (Refused why)) effect = effect-keeps [] pools after command some (Err why) effect formed
  choose (Err NoMemory) same = subst IsWellFormed (sym same) formed

applied-reply : (pools after next : Pools) (why : Option Refusal) (given got : Reply) → Applies pools (unless_refused why next given) after (Ok got) → got ≡ given
applied-reply pools after next (Some why) given got applies = absurd applies
applied-reply pools after next None given got applies = applies.1

-- the reply of a command at its whole extent fits it
pub apply-fits : (pools after : Pools) (command : Cmd) (got : Reply) → Applies pools (step_at pools command extent.Whole) after (Ok got) → IsWellFormed pools → IsReplyTo command (Done got)
apply-fits pools after command got applies formed =
    let fits : Reply → Type 0 = λ r. IsReplyTo command (Done r) in
    let same = applied-reply pools after (after_since pools pools command) (refusal pools command) (reply_to pools command) got applies in
    subst fits (sym same) (reply-fits pools command formed)

-- nothing comes, or the command is refused
pub nothing-comes : (pools : Pools) (command : Cmd) → MayCome [] pools command pools
nothing-comes pools command = choose (refusal pools command) refl where
  effect : (got : Result Reply Refusal) (why : Option Refusal) → refusal pools command ≡ why → ComesUnless why [] pools pools command extent.None pools got → Effect [] pools command extent.None pools got
  effect got why is all = record {
    earlier = pools;
    among = Contains-push [] pools;
    comes = subst (λ (w : Option Refusal). ComesUnless w [] pools pools command extent.None pools got) (sym is) all;
  }

  choose : (why : Option Refusal) → refusal pools command ≡ why → MayCome [] pools command pools
  choose None is = (extent.None, Ok reply.Nothing, effect (Ok reply.Nothing) None is (refl, refl))
  choose (Some why) is = (extent.None, Err why, effect (Err why) (Some why) is (refl, refl))

-- what a call that applies a command leaves may come of it
pub apply-leaves : (pools after : Pools) (command : Cmd) (some : Extent) (r : Result Reply ApplyFault) → Applies pools (step_at pools command some) after r → IsWellFormed pools → MayCome [] pools command after
apply-leaves pools after command some result applies formed = choose result (apply-gives [] pools after command some result formed applies) where
  choose : (r : Result Reply ApplyFault) → Gives [] pools command some after r → MayCome [] pools command after
  choose (Ok given) effect = (some, Ok given, effect)
  choose (Err (Refused why)) effect = (some, Err why, effect)
  choose (Err NoMemory) same = subst (MayCome [] pools command) (sym same) (nothing-comes pools command)

-- a call that applies a whole command and replies has done it
pub apply-done : (pools after : Pools) (command : Cmd) (given : Reply) → Applies pools (step_at pools command extent.Whole) after (Ok given) → IsWellFormed pools → Effect [] pools command extent.Whole after (Ok given)
apply-done pools after command given applies formed = apply-gives [] pools after command extent.Whole (Ok given) formed applies

-- what a call that applies a step leaves: what the step does, or nothing
step-leaves : (pools after : Pools) (what : Step) (r : Result Reply ApplyFault) → Applies pools what after r → ((given : Reply) × (what ≡ go after given)) ⊎ (after ≡ pools)
step-leaves pools after (refuse why) (Ok got) applies = absurd applies
step-leaves pools after (refuse why) (Err (Refused other)) applies = inr applies.1
step-leaves pools after (refuse why) (Err NoMemory) applies = inr applies
step-leaves pools after (go next given) (Ok got) applies = inl (given, ap (λ (p : Pools). go p given) (sym applies.0))
step-leaves pools after (go next given) (Err (Refused other)) applies = absurd applies
step-leaves pools after (go next given) (Err NoMemory) applies = inr applies

pub apply-leaves-at : (pools after : Pools) (command : Cmd) (some : Extent) (r : Result Reply ApplyFault) → Applies pools (step_at pools command some) after r → LeavesAt command some pools after
apply-leaves-at pools after command some r applies = step-leaves pools after (step_at pools command some) r applies

step-done : (pools after : Pools) (what : Step) (got : Reply) → Applies pools what after (Ok got) → what ≡ go after got
step-done pools after (refuse why) got applies = absurd applies
step-done pools after (go next given) got applies = ap₂ go (sym applies.0) (sym applies.1)

-- a call that applies a command and gives a reply took its step
pub apply-came : (pools after : Pools) (command : Cmd) (some : Extent) (got : Reply) → Applies pools (step_at pools command some) after (Ok got) → step_at pools command some ≡ go after got
apply-came pools after command some got applies = step-done pools after (step_at pools command some) got applies

refused-by : (pools after next : Pools) (refused : Option Refusal) (why : Refusal) (given : Reply) → Applies pools (unless_refused refused next given) after (Err (Refused why)) → (is_some refused ≡ true) × (after ≡ pools)
refused-by pools after next (Some other) why given applies = (refl, applies.1)
refused-by pools after next None why given applies = absurd applies

-- and one that is refused changed nothing
pub apply-refused : (pools after : Pools) (command : Cmd) (fault : ApplyFault) (why : Refusal) → fault ≡ Refused why → Applies pools (step_at pools command extent.Whole) after (Err fault) → (is_some (refusal pools command) ≡ true) × (after ≡ pools)
apply-refused pools after command fault why is applies =
    let refused = subst (λ (f : ApplyFault). Applies pools (step_at pools command extent.Whole) after (Err f)) is applies in
    refused-by pools after (after_since pools pools command) (refusal pools command) why (reply_to pools command) refused
