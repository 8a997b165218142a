use Rattle.std.proofs.Common.{rules, subst}
use Rattle.zr_top.specs.Due.{scan_of, ScanRan}
use Rattle.zr_top.proofs.Scanned.{scan-due, scan-ran}
use Rattle.zr_top.proofs.running.run_scan.Goals as goal

pub returns-in-Ok-clause-ran : goal.returns-in-Ok-clause-ran
returns-in-Ok-clause-ran g c =
    let unit = scan_of c.args.moment c.args.job in
    let told = g.Z.Zfs.history in
    let begin = c.in-Ok.ensures in
    let ran = scan-ran c.args.jobs.now unit c.args.run (told c.args.runner.now) _ _ _ _ begin.jobs begin.unit begin.told begin.begun c.transcript-legal.ensures.legal c.scan-found.ensures.ended c.scan-found.ensures.units in
    let at : g.row.Z.Denot → Type 0 = λ z. ScanRan c.args.jobs.now unit c.args.run (told c.args.runner.now) (told z) c.scan-found.result.0 c.scan-found.result.1.items in
    subst at (search rules) ran

pub returns-in-Ok-clause-units : goal.returns-in-Ok-clause-units
returns-in-Ok-clause-units g c =
    let unit = scan_of c.args.moment c.args.job in
    scan-due c.args.jobs.now _ unit _ _ _ _ c.in-Ok.ensures.jobs c.in-Ok.ensures.unit c.requires c.scan-found.ensures.units
