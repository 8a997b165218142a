use Rattle.zr_names.specs.Tree.{tree}
use Rattle.zr_yaml.specs.Lines.{lines_of}
use Rattle.zr_yaml.proofs.FaultLines.{gives_document, gives_fault, gives_only}
use Rattle.zr_yaml.proofs.document.read_yaml.Goals as goal

pub returns-clause-document : goal.returns-clause-document
returns-clause-document c = gives_document tree (lines_of c.args.bytes.now) c.read_lines.result c.read_lines.ensures

pub returns-clause-only : goal.returns-clause-only
returns-clause-only c = gives_only tree (lines_of c.args.bytes.now) c.read_lines.result c.read_lines.ensures

pub returns-clause-line : goal.returns-clause-line
returns-clause-line c = gives_fault tree (lines_of c.args.bytes.now) c.read_lines.result c.read_lines.ensures
