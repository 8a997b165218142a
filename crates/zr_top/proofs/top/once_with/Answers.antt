use Rattle.zr_top.proofs.Recording.{ran-next}
use Rattle.zr_top.proofs.top.once_with.Goals as goal

pub returns-in-Ok-once-clause-ran : goal.returns-in-Ok-once-clause-ran
returns-in-Ok-once-clause-ran g c =
    ran-next c.args.jobs.now _ _ _ _ _ g.R.Spawn.history _ _ _ _ _ c.tick-moment.ensures c.new-zfs.ensures c.in-Ok.ensures.ok c.spawn.ensures c.in-Ok-once.ensures.ran
