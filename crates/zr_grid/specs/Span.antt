-- What `read_span` answers.
use Rattle.std.specs.Prelude.{◌≡◌, ℕ, ◌<◌, ◌≤◌, ◌↔◌, List, Result, Ok, Err}
use Rattle.zr_grid.specs.declared.span.SpanFault.{SpanFault}
use Rattle.zr_grid.specs.declared.span.SpanFault.TheVariants.{BadSpan, SpanTooBig}
use Rattle.zr_grid.specs.declared.span.TheConstants.{MAX_SPAN}
use Rattle.zr_grid.specs.Grammar.{Span}
use Rattle.zr_grid.specs.Fault.{IsFault}

-- a span of some length
abbrev pub IsSpan : List ℕ → Type 0
IsSpan text = (seconds : ℕ) × Span seconds text

-- the answer is the span's seconds, and no others are; else the span is longer than the limit, or the text is no span
abbrev pub ReadsSpan : List ℕ → Result ℕ SpanFault → Type 0
ReadsSpan text (Ok seconds) = (seconds ≤ MAX_SPAN) × ((s : ℕ) → (Span s text ↔ (s ≡ seconds)))
ReadsSpan text (Err SpanTooBig) = IsSpan text × ((s : ℕ) → Span s text → MAX_SPAN < s)
ReadsSpan text (Err (BadSpan place)) = IsFault IsSpan text place
