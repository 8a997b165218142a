use Rattle.std.proofs.Common.{◌≡◌, map, take, Some}
use Rattle.regex.specs.Strings.{matcher_pattern}
use Rattle.zr_rules.specs.Keeps.{seen}
use Rattle.zr_rules.specs.Matching.{FindsAs}
use Rattle.zr_rules.specs.Order.{in_places}
use Rattle.zr_rules.proofs.seeing.found_in_order.Given as goal

abbrev pub invariant-loop-one : goal.invariant-loop-one
invariant-loop-one l = record {
  searches : FindsAs (matcher_pattern l.matcher) l.fn.pattern;
  seen_so_far : l.rows_seen.items ≡ in_places (map (seen (Some l.fn.pattern)) l.rows) (take l.one-index l.order);
}
