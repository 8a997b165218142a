use Rattle.std.proofs.Common.{◌≡◌, map, take}
use Rattle.std.specs.Prelude.{All}
use Rattle.zr_rules.specs.Specs.{IsReadable}
use Rattle.zr_rules.specs.Rules.{spec_of}
use Rattle.zr_rules.proofs.compiling.compile.Given as goal

-- the rules so far are compiled, and nothing was refused
abbrev pub invariant-loop-place : goal.invariant-loop-place
invariant-loop-place g l = record {
  specs : map spec_of l.rules.items ≡ take l.place l.specs;
  readable : All IsReadable (take l.place l.specs);
  count : g.P.Patterns.refusals l.patterns ≡ g.P.Patterns.refusals l.fn.patterns;
  last : g.P.Patterns.refused_last l.patterns ≡ g.P.Patterns.refused_last l.fn.patterns;
}
