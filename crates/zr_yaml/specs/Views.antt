-- What the definitions see of the reader's frames.
use Rattle.std.specs.Prelude.{List, map, reverse}
use Rattle.std.specs.Option.{option_map}
use Rattle.zr_names.specs.Tree.{tree, pair_tree}
use Rattle.zr_yaml.specs.declared.frame.Frame as code
use Rattle.zr_yaml.specs.declared.frame.Frame.TheVariants as case
use Rattle.zr_yaml.specs.declared.frame.Step as code_step
use Rattle.zr_yaml.specs.declared.frame.Step.TheVariants as does
use Rattle.zr_yaml.specs.declared.reader.Reader as code_reader
use Rattle.zr_yaml.specs.Reading.{Frame, dashes, keys, items, pairs, named, valued, Step, stay, under, filled, State}

abbrev pub frame_view : code.Frame → Frame
frame_view (case.Dashes column done) = dashes column (map tree done.items)
frame_view (case.Keys column done key) = keys column (map pair_tree done.pairs.items) key
frame_view (case.Items done) = items (map tree done.items)
frame_view (case.Pairs done) = pairs (map pair_tree done.pairs.items)
frame_view (case.Named done key) = named (map pair_tree done.pairs.items) key
frame_view (case.Valued done key) = valued (map pair_tree done.pairs.items) key

abbrev pub step_view : code_step.Step → Step
step_view (does.Stay frame slot) = stay (frame_view frame) (option_map tree slot)
step_view (does.Under frame inner) = under (frame_view frame) (frame_view inner)
step_view (does.Filled node) = filled (tree node)

-- the innermost frame first
abbrev pub frames_view : List code.Frame → List Frame
frames_view frames = reverse (map frame_view frames)

abbrev pub reader_view : code_reader.Reader → State
reader_view r = record { frames = frames_view r.frames.items; slot = option_map tree r.slot }
