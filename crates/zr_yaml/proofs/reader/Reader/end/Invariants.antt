use Rattle.std.proofs.Common.{◌≡◌, vec_len}
use Rattle.std.specs.Option.{option_map}
use Rattle.zr_names.specs.Tree.{tree}
use Rattle.zr_yaml.specs.Reading.{ended}
use Rattle.zr_yaml.specs.Views.{frames_view, reader_view}
use Rattle.zr_yaml.proofs.reader.Reader.end.Given as goal

abbrev pub invariant-ending : goal.invariant-ending
invariant-ending l =
    ended (frames_view l.frames.items) (option_map tree l.slot)
    ≡ ended (reader_view l.fn.self).frames (reader_view l.fn.self).slot

abbrev pub decreases-ending : goal.decreases-ending
decreases-ending l = vec_len l.frames
