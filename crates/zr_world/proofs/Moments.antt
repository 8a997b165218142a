use Rattle.std.proofs.Common.{◌≡◌, ℕ, Bool, true, false, cond, map, List, [], ◌∷◌, ◌++◌, Option, Some, None, Result, Ok, Err, AllPairs, All, get_or, refl, ap, arith, subst, sym, ◌∙◌, inl, inr}
use Rattle.std.specs.List.{Contains}
use Rattle.std.specs.Cmp.Lexicographic.{bytes_decides, nat_list_eq_equiv}
use Rattle.std.proofs.lemmas.List.Elements.{All-contains, Contains-append_left, Contains-push_cases}
use Rattle.zr_base.proofs.Lists.{AllPairs-head, AllPairs-map, AllPairs-tail, found_from_All}
use Rattle.zr_command.specs.Names.{is_below, same_text}
use Rattle.zr_command.specs.declared.command.Cmd.{Cmd}
use Rattle.zr_command.specs.declared.command.Cmd.TheVariants as cmd
use Rattle.zr_command.specs.declared.command.Reply.{Reply}
use Rattle.zr_command.specs.declared.command.Reply.TheVariants as reply
use Rattle.zr_command.specs.declared.command.Transfer.{Transfer}
use Rattle.zr_command.specs.declared.version.SetRow.{SetRow}
use Rattle.zr_world.specs.declared.effects.Extent.{Extent}
use Rattle.zr_world.specs.declared.effects.Extent.TheVariants as extent
use Rattle.zr_world.specs.declared.effects.Refusal.{Refusal}
use Rattle.zr_world.specs.declared.pools.Pools.{Pools}
use Rattle.zr_world.specs.Effect.{after_since, ComesUnless, Effect, Leaves, new_set, Replies, row_at, shown_at, ShowsSets}
use Rattle.zr_world.specs.Pools.{IsWellFormed}
use Rattle.zr_world.specs.Reasons.{refusal, refusal_since}
use Rattle.zr_world.specs.Rows.{row_of_set}
use Rattle.zr_world.proofs.Applied.{row_at-map}
use Rattle.zr_world.proofs.Order.{set-chained}
use Rattle.zr_world.proofs.Sound.{below-differs, none-found}

-- a list of one has no other element
only : (before earlier : Pools) → Contains (before ∷ []) earlier → before ≡ earlier
only before earlier among = elim (Contains-push_cases [] before earlier among) [
  | inl none ↦ absurd (let inside = none.1 in omega arith)
  | inr same ↦ same
]

-- where nothing else runs, a command's effect is all at one moment
pub at-once : (before after : Pools) (command : Cmd) (some : Extent) (got : Result Reply Refusal) → Effect [] before command some after got → ComesUnless (refusal before command) [] before before command some after got
at-once before after command some got effect =
    subst (λ (earlier : Pools). ComesUnless (refusal_since earlier before command) [] earlier before command some after got) (sym (only before effect.earlier effect.among)) effect.comes

-- what is left and given back by a command that came whole, where nothing else runs
pub came-whole : (before after : Pools) (command : Cmd) (given : Reply) → Effect [] before command extent.Whole after (Ok given) → (refusal before command ≡ None) × Leaves before before command after × Replies [] before command given
came-whole before after command given effect = choose (refusal before command) (at-once before after command extent.Whole (Ok given) effect) where
  choose : (refused : Option Refusal) → ComesUnless refused [] before before command extent.Whole after (Ok given) → (refused ≡ None) × Leaves before before command after × Replies [] before command given
  choose None comes = (refl, comes.0, comes.1)
  choose (Some why) comes = absurd comes

-- a refused command gives back why, and changes nothing
pub refused-same : (before after : Pools) (command : Cmd) (some : Extent) (why : Refusal) (got : Result Reply Refusal) → refusal before command ≡ Some why → Effect [] before command some after got → (got ≡ Err why) × (after ≡ before)
refused-same before after command some why result is effect =
    choose result (subst (λ (w : Option Refusal). ComesUnless w [] before before command some after result) is (at-once before after command some result effect)) where
      choose : (got : Result Reply Refusal) → ComesUnless (Some why) [] before before command some after got → (got ≡ Err why) × (after ≡ before)
      choose (Ok given) comes = absurd comes
      choose (Err other) comes = (ap Err comes.0, comes.1)

-- nothing comes at the extent none
pub none-same : (since : List Pools) (before after : Pools) (command : Cmd) (got : Result Reply Refusal) → Effect since before command extent.None after got → after ≡ before
none-same since before after command result effect = choose (refusal_since effect.earlier before command) result effect.comes where
  choose : (refused : Option Refusal) (got : Result Reply Refusal) → ComesUnless refused since effect.earlier before command extent.None after got → after ≡ before
  choose (Some refused) (Ok given) comes = absurd comes
  choose (Some refused) (Err why) comes = comes.1
  choose None (Ok given) comes = comes.0
  choose None (Err why) comes = absurd comes

-- a transfer comes that read its source at one moment since its issue, also where the source is gone by then
pub read-earlier : (since : List Pools) (before earlier : Pools) (transfer : Transfer) → Contains since earlier → refusal_since earlier before (cmd.Transfer transfer) ≡ None → Effect since before (cmd.Transfer transfer) extent.Whole (after_since earlier before (cmd.Transfer transfer)) (Ok reply.Nothing)
read-earlier since before earlier transfer among none =
    let left = after_since earlier before (cmd.Transfer transfer) in
    record {
      earlier = earlier;
      among = Contains-append_left since (before ∷ []) earlier among;
      comes = subst (λ (w : Option Refusal). ComesUnless w since earlier before (cmd.Transfer transfer) extent.Whole left (Ok reply.Nothing)) (sym none) (refl, refl);
    }

-- a listing of all datasets that came
shows : (since : List Pools) (before after : Pools) (rows : List SetRow) → Effect since before cmd.Sets extent.Whole after (Ok (reply.Sets rows)) → ShowsSets (since ++ before ∷ []) rows
shows since before after rows effect = effect.comes.1

-- what a path showed at all moments since the issue, the listing shows
pub still-shown : (since : List Pools) (before after : Pools) (rows : List SetRow) (path : List ℕ) (row : Option SetRow) → All (λ moment. shown_at moment path ≡ row) (since ++ before ∷ []) → Effect since before cmd.Sets extent.Whole after (Ok (reply.Sets rows)) → row_at rows path ≡ row
still-shown since before after rows path row still effect =
    let (moment, among, is) = (shows since before after rows effect).each path in
    is ∙ All-contains (λ (m : Pools). shown_at m path ≡ row) (since ++ before ∷ []) moment still among

abbrev Rising : SetRow → SetRow → Type 0
Rising a b = is_below a.path b.path ≡ true

row_at-own : (row : SetRow) (rows : List SetRow) → row_at (row ∷ rows) row.path ≡ Some row
row_at-own row rows = let own : same_text row.path row.path ≡ true = nat_list_eq_equiv.refl row.path in rw own refl

-- a row that is not the first of a listing stands above it
above-first : (row : SetRow) (rows : List SetRow) (other : SetRow) → AllPairs Rising (row ∷ rows) → row_at (row ∷ rows) other.path ≡ Some other → (row ≡ other → ⊥) → is_below row.path other.path ≡ true
above-first row rows other rising found differ = choose (same_text row.path other.path) found where
  choose : (b : Bool) → cond b (Some row) (row_at rows other.path) ≡ Some other → is_below row.path other.path ≡ true
  choose true e = absurd (differ cc)
  choose false e =
      found_from_All (λ (r : SetRow). is_below row.path r.path ≡ true) (λ (r : SetRow). same_text r.path other.path) rows other e (AllPairs-head Rising row rows rising)

never-both : (one other : List ℕ) → is_below one other ≡ true → is_below other one ≡ true → ⊥
never-both one other up down =
    below-differs one one (set-chained (new_set one) (new_set other) (new_set one) up down) refl

same-first : (x : SetRow) (xs : List SetRow) (y : SetRow) (ys : List SetRow) → AllPairs Rising (x ∷ xs) → AllPairs Rising (y ∷ ys) → ((path : List ℕ) → row_at (x ∷ xs) path ≡ row_at (y ∷ ys) path) → same_text y.path x.path ≡ true → x ≡ y
same-first x xs y ys up down same is =
    let here = sym (same x.path) ∙ row_at-own x xs in
    let head : row_at (y ∷ ys) x.path ≡ Some y = rw is refl in
    cc

-- the first rows of two listings that show each path alike are equal
first-row : (x : SetRow) (xs : List SetRow) (y : SetRow) (ys : List SetRow) → AllPairs Rising (x ∷ xs) → AllPairs Rising (y ∷ ys) → ((path : List ℕ) → row_at (x ∷ xs) path ≡ row_at (y ∷ ys) path) → x ≡ y
first-row x xs y ys up down same = choose (same_text y.path x.path) refl where
  choose : (b : Bool) → same_text y.path x.path ≡ b → x ≡ y
  choose true is = same-first x xs y ys up down same is
  choose false is =
      let apart : y ≡ x → ⊥ = λ e.
      let at : SetRow → Type 0 = λ r. same_text r.path x.path ≡ false in
      let itself : same_text x.path x.path ≡ false = subst at e is in
      let own : same_text x.path x.path ≡ true = nat_list_eq_equiv.refl x.path in
      cc
      in
      let above = above-first y ys x down (sym (same x.path) ∙ row_at-own x xs) apart in
      let below = above-first x xs y up (same y.path ∙ row_at-own y ys) (λ e. apart (sym e)) in
      absurd (never-both x.path y.path below above)

-- no row above a path shows it
none-above : (path : List ℕ) (rows : List SetRow) → All (λ row. is_below path row.path ≡ true) rows → row_at rows path ≡ None
none-above path rows above =
    none-found (λ (row : SetRow). same_text row.path path) rows (λ k d inside. choose (get_or rows k d) (above k d inside)) where
      choose : (row : SetRow) → is_below path row.path ≡ true → same_text row.path path ≡ false
      choose row below = by-test (same_text row.path path) refl where
        by-test : (b : Bool) → same_text row.path path ≡ b → same_text row.path path ≡ false
        by-test true is = absurd (below-differs path row.path below (sym ((bytes_decides row.path path).0 is)))
        by-test false is = is

same-rest : (row : SetRow) (xs ys : List SetRow) → AllPairs Rising (row ∷ xs) → AllPairs Rising (row ∷ ys) → ((path : List ℕ) → row_at (row ∷ xs) path ≡ row_at (row ∷ ys) path) → (path : List ℕ) → row_at xs path ≡ row_at ys path
same-rest row xs ys up down same path = choose (same_text row.path path) refl (same path) where
  choose : (b : Bool) → same_text row.path path ≡ b → cond b (Some row) (row_at xs path) ≡ cond b (Some row) (row_at ys path) → row_at xs path ≡ row_at ys path
  choose false is e = e
  choose true is e =
      let own : row.path ≡ path = (bytes_decides row.path path).0 is in
      subst (λ (p : List ℕ). row_at xs p ≡ row_at ys p) own
      (none-above row.path xs (AllPairs-head Rising row xs up) ∙ sym (none-above row.path ys (AllPairs-head Rising row ys down)))

-- two listings in byte order that show each path alike are equal
rising-same : (one other : List SetRow) → AllPairs Rising one → AllPairs Rising other → ((path : List ℕ) → row_at one path ≡ row_at other path) → one ≡ other
rising-same [] [] up down same = refl
rising-same [] (y ∷ ys) up down same = let here = same y.path ∙ row_at-own y ys in cc
rising-same (x ∷ xs) [] up down same = let here = sym (same x.path) ∙ row_at-own x xs in cc
rising-same (x ∷ xs) (y ∷ ys) up down same =
    let first = first-row x xs y ys up down same in
    let lower : AllPairs Rising (x ∷ ys) = subst (λ (r : SetRow). AllPairs Rising (r ∷ ys)) (sym first) down in
    let alike : (path : List ℕ) → row_at (x ∷ xs) path ≡ row_at (x ∷ ys) path = subst (λ (r : SetRow). (path : List ℕ) → row_at (x ∷ xs) path ≡ row_at (r ∷ ys) path) (sym first) same in
    let rest = rising-same xs ys (AllPairs-tail Rising x xs up) (AllPairs-tail Rising x ys lower) (same-rest x xs ys up lower alike) in
    cc

-- where nothing else runs, a listing of all datasets shows the rows of its moment
pub alone-shown : (before after : Pools) (rows : List SetRow) → IsWellFormed before → Effect [] before cmd.Sets extent.Whole after (Ok (reply.Sets rows)) → rows ≡ map row_of_set before.sets
alone-shown before after rows formed effect =
    let shown = shows [] before after rows effect in
    rising-same rows (map row_of_set before.sets) shown.rising (AllPairs-map row_of_set Rising before.sets formed.rising)
    (λ path.
    let (moment, among, is) = shown.each path in
    let now : shown_at before path ≡ shown_at moment path = ap (λ (m : Pools). shown_at m path) (only before moment among) in
    is ∙ sym now ∙ sym (row_at-map path before.sets))
