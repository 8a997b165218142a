use Rattle.std.proofs.Common.{◌≡◌, ◌+◌, ◌-◌, ◌^◌, min, ap, refl, arith}
use Rattle.zr_rules.specs.Refusals.{Refusals}
use Rattle.zr_rules.proofs.patterns.RegexPatternsPatterns.build.Goals as goal

pub returns-in-Err : goal.returns-in-Err
returns-in-Err c =
    let counted = c.counts.ensures.counted c.if-counts.true in
    let count : c.counts.new.self.count ≡ min (c.args.self.now.count + 1) (2 ^ 64 - 1) = ap (λ (r : Refusals). r.count) counted in
    record {
      source = tt;
      options = tt;
      read = tt;
      refused_rose = λ _. omega (arith, count);
      refused_tells = λ _. ap (λ (r : Refusals). r.last) counted;
      others_count = λ other. absurd (other refl);
      others_tell = λ other. absurd (other refl);
      never_falls = c.counts.ensures.never_falls;
    }
