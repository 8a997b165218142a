use Rattle.std.proofs.Common.{◌≡◌, ◌++◌, drop, map}
use Rattle.zr_names.specs.Tree.{members_tree}
use Rattle.zr_jobwalk.specs.Lines.{pair_of, present}
use Rattle.zr_jobwalk.proofs.line.lines_in.Given as goal

abbrev pub invariant-loop-pair : goal.invariant-loop-pair
invariant-loop-pair l =
    map pair_of l.lines.items ++ present (members_tree (drop l.pair-index l.pairs))
    ≡ present (members_tree l.fn.pairs)
