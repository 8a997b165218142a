use Rattle.std.proofs.Common.{◌≡◌, ℕ, List, Option, Some, None, IfNone, refl, arith, ap, ◌∙◌, sym, subst, get_or}
use Rattle.std.specs.Prelude.{codes}
use Rattle.std.specs.Str.Parse.{digits_value}
use Rattle.std.proofs.lemmas.List.{append_cancel_left}
use Rattle.zr_names.specs.declared.unit.Guid.{Guid}
use Rattle.zr_listing.specs.declared.token.TokenLine.{TokenLine}
use Rattle.zr_listing.specs.declared.token.TokenLine.TheVariants as line
use Rattle.zr_listing.specs.Token.{HasKey, IsHexGuid, IsTokenLine, from_key, to_key}

-- a text spells one guid at most
IsHexGuid-one : (text : List ℕ) (a b : Guid) → IsHexGuid text a → IsHexGuid text b → a ≡ b
IsHexGuid-one text a b p q =
    let same : q.digits ≡ p.digits = append_cancel_left (codes "0x") q.digits p.digits (sym q.spelled ∙ p.spelled) in
    let number : a.0 ≡ b.0 = p.is_number.value ∙ ap (digits_value 16) (sym same) ∙ sym q.is_number.value in
    let guid : ℕ → Guid = λ n. record { 0 = n } in
    ap guid number

-- a line has one key at most
pub keys-differ : (text v w : List ℕ) → HasKey to_key text v → HasKey from_key text w → ⊥
keys-differ text v w to from =
    let first : 116 ≡ 102 = ap (λ l. get_or l 0 0) (sym to ∙ from) in
    omega (arith, first)

guid-one : (key text : List ℕ) (v w : List ℕ) (a b : Guid) → HasKey key text v → HasKey key text w → IsHexGuid v a → IsHexGuid w b → a ≡ b
guid-one key text v w a b has has' is is' =
    let same : w ≡ v = append_cancel_left key w v (sym has' ∙ has) in
    IsHexGuid-one v a b is (subst (λ (t : List ℕ). IsHexGuid t b) same is')

-- a line says one thing at most
pub IsTokenLine-one : (text : List ℕ) (a b : TokenLine) → IsTokenLine text a → IsTokenLine text b → a ≡ b
IsTokenLine-one text (line.To a) (line.To b) p q = ap line.To (guid-one to_key text p.value q.value a b p.has_key q.has_key p.is_guid q.is_guid)
IsTokenLine-one text (line.To a) (line.From b) p q = absurd (keys-differ text p.value q.value p.has_key q.has_key)
IsTokenLine-one text (line.To a) line.Other p q = absurd (q.0 p.value p.has_key)
IsTokenLine-one text (line.From a) (line.To b) p q = absurd (keys-differ text q.value p.value q.has_key p.has_key)
IsTokenLine-one text (line.From a) (line.From b) p q = ap line.From (guid-one from_key text p.value q.value a b p.has_key q.has_key p.is_guid q.is_guid)
IsTokenLine-one text (line.From a) line.Other p q = absurd (q.1 p.value p.has_key)
IsTokenLine-one text line.Other (line.To b) p q = absurd (p.0 q.value q.has_key)
IsTokenLine-one text line.Other (line.From b) p q = absurd (p.1 q.value q.has_key)
IsTokenLine-one text line.Other line.Other p q = refl

-- a line with a key that no guid follows says nothing
pub to-none : (text value : List ℕ) → HasKey to_key text value → ((guid : Guid) → IsHexGuid value guid → ⊥) → (said : TokenLine) → IsTokenLine text said → ⊥
to-none text value has none (line.To guid) is =
    none guid (subst (λ (t : List ℕ). IsHexGuid t guid) (append_cancel_left to_key is.value value (sym is.has_key ∙ has)) is.is_guid)
to-none text value has none (line.From guid) is = keys-differ text value is.value has is.has_key
to-none text value has none line.Other is = is.0 value has

pub from-none : (text value : List ℕ) → HasKey from_key text value → ((guid : Guid) → IsHexGuid value guid → ⊥) → (said : TokenLine) → IsTokenLine text said → ⊥
from-none text value has none (line.To guid) is = keys-differ text is.value value is.has_key has
from-none text value has none (line.From guid) is =
    none guid (subst (λ (t : List ℕ). IsHexGuid t guid) (append_cancel_left from_key is.value value (sym is.has_key ∙ has)) is.is_guid)
from-none text value has none line.Other is = is.1 value has

-- what holds of an option that is none
pub if-none : {X : Type 0} (r : Option X) (P : Type 0) → P → IfNone r P
if-none None P p = p
if-none (Some x) P p = tt
