-- What is not read as a name, a span or a cron text is none.
use Rattle.std.proofs.Common.{◌≡◌, ◌≢◌, ◌≤◌, ◌*◌, ℕ, Bool, List, Option, Some, None, Result, Ok, Err, refl, sym, ap, arith, length, inl, inr, codes}
use Rattle.zr_grid.specs.Grammar.{Span}
use Rattle.zr_grid.specs.Span.{ReadsSpan}
use Rattle.zr_grid.specs.declared.span.SpanFault.{SpanFault}
use Rattle.zr_grid.specs.declared.span.SpanFault.TheVariants.{BadSpan, SpanTooBig}
use Rattle.zr_schedule.specs.Read.{IsCron}
use Rattle.zr_schedule.specs.declared.read.CronFault.{CronFault}
use Rattle.zr_schedule.specs.declared.schedule.When.{When}
use Rattle.zr_schedule.specs.declared.schedule.When.TheVariants.{Every, Cron}
use Rattle.zr_schedule.specs.declared.spec.CronSpec.{CronSpec}
use Rattle.zr_names.specs.Names.{name_is_bad}
use Rattle.zr_names.specs.declared.names.TheConstants.{JOB_LIMIT}
use Rattle.zr_jobwalk.specs.declared.texts.Unread.{Unread}
use Rattle.zr_jobwalk.specs.declared.texts.Unread.TheVariants.{Bad}
use Rattle.zr_jobwalk.specs.declared.texts.Unread.TheVariants as unread
use Rattle.zr_jobwalk.specs.Texts.{IsEvery, IsInterval, IsMinutes, IsPrefix, ReadsText}
use Rattle.zr_names.specs.Names.{IsName, Reads}
use Rattle.zr_names.specs.declared.reading.NameFault.{NameFault}
use Rattle.zr_names.specs.declared.reading.NameFault.TheVariants.{Empty, BadByte, TooLong, NoMemory}

pub no_name : (is_bad : List ℕ → ℕ → Bool) (limit : ℕ) (text : List ℕ) (fault : NameFault) → Reads is_bad limit text (Err fault) → fault ≢ NoMemory → ¬ IsName is_bad limit text
no_name is_bad limit text Empty refused other name =
    let empty : length text ≡ 0 = ap length refused in
    omega (arith, empty, name.not_empty)
no_name is_bad limit text (TooLong n) refused other name = omega (arith, refused.0, refused.1, name.not_long)
no_name is_bad limit text (BadByte place) refused other name =
    let bad = refused.2.bad in
    let good = name.no_place_bad place refused.2.inside in
    cc
no_name is_bad limit text NoMemory refused other name = other refl

pub no_prefix : (text : List ℕ) (fault : NameFault) → Reads name_is_bad JOB_LIMIT text (Err fault) → fault ≢ NoMemory → (prefix : Option (List ℕ)) → ¬ IsPrefix text prefix
no_prefix text fault refused other None is = is
no_prefix text fault refused other (Some prefix) is = no_name name_is_bad JOB_LIMIT text fault refused other is.1

pub every_is : (text : List ℕ) (seconds : ℕ) → ReadsSpan text (Ok seconds) → IsEvery text (Every (seconds * 1000))
every_is text seconds read = record {
  seconds = seconds;
  span = (read.1 seconds).1 refl;
  short = read.0;
  every = refl;
}

pub no_every : (text : List ℕ) (fault : SpanFault) → ReadsSpan text (Err fault) → (when : When) → ¬ IsEvery text when
no_every text SpanTooBig refused when is = omega (arith, refused.1 is.seconds is.span, is.short)
no_every text (BadSpan place) refused when is = refused.bad (is.seconds, is.span)

pub minutes_are : (text : List ℕ) (spec : CronSpec) → IsCron text spec → IsMinutes text (Cron spec)
minutes_are text spec read = record { spec = spec; minutes = read; cron = refl }

pub no_minutes : (text : List ℕ) (read : Result CronSpec CronFault) (fault : CronFault) → read ≡ Err fault → ((spec : CronSpec) → IsCron text spec → read ≡ Ok spec) → (when : When) → ¬ IsMinutes text when
no_minutes text read fault is only when minutes =
    let e = only minutes.spec minutes.minutes in
    cc

no_interval : (text : List ℕ) → ¬ (text ≡ codes "manual") → ((when : When) → ¬ IsEvery text when) → (when : When) → ¬ IsInterval text when
no_interval text other none when (inl manual) = other manual.0
no_interval text other none when (inr every) = none when every

-- a text that is not `manual` is an interval where it is a span
pub spans_alone : (text : List ℕ) (read : Result When Unread) → ¬ (text ≡ codes "manual") → ReadsText IsEvery text read → ReadsText IsInterval text read
spans_alone text (Ok when) other reads = inr reads
spans_alone text (Err Bad) other reads = no_interval text other reads
spans_alone text (Err unread.NoMemory) other reads = tt
