use Rattle.zr_jobfile.proofs.building.build_snap.Goals as goal

pub returns-in-None : goal.returns-in-None
returns-in-None c = λ jobs file.
    c.in-None.ensures.missing file.name file.pattern file.count file.keeps_some file.fits file.tree_is
