use Rattle.std.specs.Prelude.{ℕ, List, [], ◌∷◌, ◌++◌, Option, Some, None, option_map, codes, length}
use Rattle.zr_names.specs.Hex.{hex_text}
use Rattle.zr_names.specs.declared.unit.Guid.{Guid}
use Rattle.zr_world.specs.declared.pools.Dataset.{Dataset}
use Rattle.zr_world.specs.declared.pools.Partial.{Partial}
use Rattle.zr_world.specs.declared.pools.Version.{Version}
use Rattle.zr_command.specs.declared.version.SetRow.{SetRow}
use Rattle.zr_command.specs.declared.version.VersionRow.{VersionRow}

-- the incremental source of a partial receive in a token of the model: 16 digits, or `none`
abbrev pub from_text : Option Guid → List ℕ
from_text None = codes "none"
from_text (Some guid) = hex_text 16 guid.0

-- the resume token of a partial receive in the model: `1-TO-FROM-SOURCE`
abbrev pub token_text : Partial → List ℕ
token_text partial =
    codes "1-" ++ hex_text 16 partial.to.0 ++ 45 ∷ [] ++ from_text partial.from ++ 45 ∷ [] ++ partial.source

-- how a dataset shows in a listing of all datasets
abbrev pub row_of_set : Dataset → SetRow
row_of_set set = record {
  path = set.path;
  placeholder = set.placeholder;
  token = option_map token_text set.partial;
}

-- how a version shows in a listing of its dataset: its holds as a number
abbrev pub row_of_version : Version → VersionRow
row_of_version version = record {
  name = version.name;
  guid = version.guid;
  txg = version.txg;
  creation = version.creation;
  refs = length version.tags;
}
