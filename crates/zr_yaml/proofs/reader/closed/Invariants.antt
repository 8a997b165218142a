use Rattle.std.proofs.Common.{◌≡◌, vec_len}
use Rattle.std.specs.Option.{option_map}
use Rattle.zr_names.specs.Tree.{tree}
use Rattle.zr_yaml.specs.Reading.{closed}
use Rattle.zr_yaml.specs.Views.{frames_view}
use Rattle.zr_yaml.proofs.reader.closed.Given as goal

abbrev pub invariant-closing : goal.invariant-closing
invariant-closing l =
    closed l.column l.dashed (frames_view l.frames.items) (option_map tree l.slot)
    ≡ closed l.column l.dashed (frames_view l.fn.frames.items) (option_map tree l.fn.slot)

abbrev pub decreases-closing : goal.decreases-closing
decreases-closing l = vec_len l.frames
