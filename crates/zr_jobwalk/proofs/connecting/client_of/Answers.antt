use Rattle.zr_jobwalk.specs.Connecting.{ClientFault}
use Rattle.zr_jobwalk.proofs.InnerTables.{inner_faults}
use Rattle.zr_jobwalk.proofs.connecting.client_of.Goals as goal

pub returns-clause-fault : goal.returns-clause-fault
returns-clause-fault c =
    let inner = c.in_ok-table.ensures in
    inner_faults ClientFault _ _ _ _ c.read_client.result inner.members inner.front c.read_client.ensures.fault
