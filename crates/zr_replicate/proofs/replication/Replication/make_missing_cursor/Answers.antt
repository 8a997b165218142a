use Rattle.std.proofs.Common.{sym}
use Rattle.zr_replicate.proofs.Lists.{on-ok}
use Rattle.zr_replicate.proofs.Marking.{cursor-is-own, has-cursor, made-cursor}
use Rattle.zr_replicate.proofs.replication.Replication.make_missing_cursor.Goals as goal

pub make_cursor-requires-clause-own : goal.make_cursor-requires-clause-own
make_cursor-requires-clause-own g c =
    cursor-is-own c.in-Ok.name c.args.pair.now.job c.args.newest.now.guid c.in-Ok.ensures.kind

pub returns-in-Ok-clause-cursor : goal.returns-in-Ok-clause-cursor
returns-in-Ok-clause-cursor g c =
    has-cursor c.args.pair.now c.args.self.now.known.now c.args.newest.now c.args.version.now c.in-Ok.name c.in-Ok.ensures.kind c.requires.may (sym c.if-has_mark.ensures)

pub returns-in-Ok-2-clause-cursor : goal.returns-in-Ok-2-clause-cursor
returns-in-Ok-2-clause-cursor g c =
    on-ok _ _ c.make_cursor.result (made-cursor c.args.pair.now c.args.self.now.known.now c.make_cursor.new.self.known.now c.args.newest.now c.args.version.now c.in-Ok.name c.in-Ok.ensures.kind c.requires.may) c.make_cursor.ensures.known
