-- The moment of a date and time, and of a stamp.
use Rattle.std.proofs.Common.{◌≡◌, ℕ, ◌^◌, ◌<◌, ◌∙◌, false, List, Option, Some, None, Result, Ok, Err, refl, ap, sym, subst, arith, ℤ, pos, negsuc, ◌-ℤ◌, ◌*ℤ◌, unsigned_abs, int_div, FitsSigned, to_z, of_z, w64, to_z-of_z}
use Rattle.std.specs.Option.{IfSome, IsSome, ok_or}
use Rattle.std.specs.Result.{OkIff, IfOk, result_ok, is_ok}
use Rattle.std.specs.Int.{FitsUnsignedBits}
use Rattle.jiff_core.specs.Timestamp.{IsTimestampNanos}
use Rattle.jiff_core.proofs.SignedLemmas.{signed_arith}
use Rattle.jiff_core.proofs.CalendarLemmas.{days_in_month_bounds}
use Rattle.jiff_core.proofs.DateTimeLemmas.{civil_nanos_range}
use Rattle.jiff_core.specs.DateTime.{civil_nanos}
use Rattle.jiff_core.specs.declared.civil.datetime.DateTime.{DateTime}
use Rattle.zr_names.specs.declared.moment.TheConstants.{END_OF_TIME}
use Rattle.zr_time.specs.declared.civil.Civil.{Civil}
use Rattle.zr_time.specs.declared.text.BadStamp.{BadStamp}
use Rattle.zr_time.specs.Stamps.{IsStamp, ReadsStamp, Shows, millis_of}
use Rattle.zr_time.specs.Reading.{IsCivil, IsCivilText, MomentOf}
use Rattle.zr_time.proofs.Parts.{civil_unique}

-- the count that is the milliseconds of a date and time is its moment, if it is one
pub moment_from : (civil : Civil) (n : ℕ) (r : Option ℕ) → IsCivil civil → pos n ≡ millis_of civil → (IsSome r → n < END_OF_TIME) × (n < END_OF_TIME → IsSome r) → IfSome r (λ m. m ≡ n) → MomentOf civil r
moment_from civil n (Some m) is at exists value =
    (subst (λ k. k < END_OF_TIME) (sym value) (exists.0 refl), record { day = is.0; clock = is.1; instant = ap pos value ∙ at })
moment_from civil n None is at exists value = λ m below shows.
    let same : pos m ≡ pos n = shows.instant ∙ sym at in
    let early : n < END_OF_TIME = omega (arith, signed_arith) in
    let some = exists.1 early in
    cc

pub no_moment : (civil : Civil) (r : Option ℕ) → r ≡ None → ((m : ℕ) → m < END_OF_TIME → Shows m civil → ⊥) → MomentOf civil r
no_moment civil r none gone = subst (MomentOf civil) (sym none) gone

-- nanoseconds that are whole milliseconds
pub whole_millis : (nanos z : ℤ) → nanos ≡ z *ℤ pos 1_000_000 → int_div nanos (pos 1_000_000) ≡ z
whole_millis nanos z is = omega (arith, signed_arith)

-- an instant before the end of time is one that jiff has
pub has_instant : (nanos z : ℤ) (m : ℕ) → nanos ≡ z *ℤ pos 1_000_000 → pos m ≡ z → m < END_OF_TIME → IsTimestampNanos (nanos -ℤ pos 0)
has_instant nanos z m is at below = (omega (arith, signed_arith), omega (arith, signed_arith))

-- a number that reads as unsigned is not negative
pub counted : {E : Type 0} (r : Result ℕ E) (a : ℤ) (n : ℕ) → OkIff r (FitsUnsignedBits 64 a) (unsigned_abs a) → Some n ≡ result_ok r → pos n ≡ a
counted (Ok k) (pos a) n says is = let same : n ≡ k = cc in ap pos (same ∙ says.1)
counted (Ok k) (negsuc a) n says is = absurd says.0
counted (Err e) a n says is = cc

-- and one that is not negative reads as unsigned
pub uncounted : {E : Type 0} (r : Result ℕ E) (a : ℤ) (v m : ℕ) → OkIff r (FitsUnsignedBits 64 a) v → false ≡ is_ok r → a ≡ pos m → m < 2 ^ 64 → ⊥
uncounted (Ok k) a v m says is at fits = cc
uncounted (Err e) a v m says is at fits = says (subst (FitsUnsignedBits 64) (sym at) fits)

-- a stamp has the digits of its date and time
civil_text : (text : List ℕ) (moment : ℕ) (is : IsStamp moment text) → IsCivilText text is.civil
civil_text text moment is = (
  record { year = omega (arith, signed_arith, is.shows.day.0); month = omega (arith, is.shows.day.1); of_month = omega (arith, is.shows.day.2, days_in_month_bounds (pos is.civil.day.year) is.civil.day.month) },
  record { hour = omega (arith, is.shows.clock); minute = omega (arith, is.shows.clock); second = omega (arith, is.shows.clock); milli = omega (arith, is.shows.clock) },
  is.text_is,
)

-- a text with no date and time is the stamp of no moment
pub no_stamp : (text : List ℕ) → ((civil : Civil) → IsCivilText text civil → ⊥) → (moment : ℕ) → IsStamp moment text → ⊥
no_stamp text none moment is = none is.civil (civil_text text moment is)

-- a text with a date and time is the stamp of its moment
pub stamp_of_civil : (text : List ℕ) (civil : Civil) (r : Option ℕ) (result : Result ℕ BadStamp) (bad : BadStamp) → IsCivilText text civil → MomentOf civil r → result ≡ ok_or r bad → ReadsStamp text result
stamp_of_civil text civil (Some m) result bad is moment e =
    subst (ReadsStamp text) (sym e) (record { before_the_end = moment.0; civil = civil; shows = moment.1; text_is = is.2 })
stamp_of_civil text civil None result bad is moment e =
    subst (ReadsStamp text) (sym e) (λ m stamp. moment m stamp.before_the_end (subst (Shows m) (civil_unique text stamp.civil civil (civil_text text m stamp) is) stamp.shows))

pub ok_of : {X E : Type 0} (P : X → Type 0) (r : Result X E) (x : X) → Some x ≡ result_ok r → IfOk r P → P x
ok_of P (Ok y) x is p = let same : y ≡ x = cc in subst P same p
ok_of P (Err e) x is p = cc

-- the milliseconds of a datetime fit 64 bits
pub kept : (shown : DateTime) (z a : ℤ) → civil_nanos shown ≡ z *ℤ pos 1_000_000 → a ≡ z → to_z w64 (of_z w64 a) ≡ z
kept shown z a at is =
    let fits : FitsSigned w64 z = omega (arith, signed_arith, civil_nanos_range shown, at) in
    ap (λ k. to_z w64 (of_z w64 k)) is ∙ to_z-of_z fits
