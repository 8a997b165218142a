use Rattle.zr_cmd.proofs.reading.fits.Goals as goal

pub returns-in-Path : goal.returns-in-Path
returns-in-Path c = rw c.in-Path.is c.is_path.ensures

pub returns-in-Snap : goal.returns-in-Snap
returns-in-Snap c = rw c.in-Snap.is c.is_full.ensures

pub returns-in-Mark : goal.returns-in-Mark
returns-in-Mark c = rw c.in-Mark.is c.is_full-in-Mark.ensures

pub returns-in-Tag : goal.returns-in-Tag
returns-in-Tag c = rw c.in-Tag.is c.is_job_tag.ensures

pub returns-in-Token : goal.returns-in-Token
returns-in-Token c = rw c.in-Token.is c.is_token.ensures

pub returns-in-Group : goal.returns-in-Group
returns-in-Group c = rw c.in-Group.is c.is_full_group.ensures
