use Rattle.std.proofs.Common.{◌≡◌, ◌∙◌, ℕ, List, ap, arith, sym, length}
use Rattle.std.proofs.Math.Seq.{take-length}
use Rattle.std.specs.Io.KnownBytes.{append_known}
use Rattle.zr_pipe.specs.Ends.{WroteFront}
use Rattle.zr_pipe.proofs.EndsLemmas.{append_known-nil}
use Rattle.zr_top.specs.Records.{Written, WroteFrontOf}

-- nothing was written
pub wrote-nothing : (told : Written) (line : List ℕ) → WroteFrontOf told told line
wrote-nothing told line = record {
  count = 0;
  within = omega arith;
  told = sym (append_known-nil told);
}

-- the whole is a front
pub front_whole : (before now : Written) (text : List ℕ) → now ≡ append_known before text → WroteFront before now text
front_whole before now text whole = record {
  count = length text;
  within = omega arith;
  told = whole ∙ ap (append_known before) (sym (take-length text));
}
