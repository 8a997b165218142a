-- A fault of a table inside another, as a fault of the outer one's field.
use Rattle.std.proofs.Common.{◌≡◌, ◌≢◌, ◌++◌, ℕ, List, Option, Some, None, Result, Ok, Err, IfErr, codes, subst, sym, false, is_none}
use Rattle.zr_names.specs.Tree.{Tree, Members}
use Rattle.zr_jobwalk.specs.declared.fault.JobFault.{JobFault}
use Rattle.zr_jobwalk.specs.declared.fault.JobFault.TheVariants.{NoMemory}
use Rattle.zr_jobwalk.specs.Faults.{InTable, MissingOr, NoneOr, NoTableOr}
use Rattle.zr_jobwalk.specs.Tables.{Section}
use Rattle.zr_jobwalk.specs.Values.{HasTable}

inner_fault : (Fault : Section → JobFault → Type 0) (name front : List ℕ) (members : Members) (found : Option Tree) (fault : JobFault) → HasTable found members → front ≡ name ++ codes "." → Fault (record { front = front; members = members }) fault → MissingOr (InTable Fault) name found fault
inner_fault Fault name front inside None fault has leads bad = absurd has
inner_fault Fault name front inside (Some tree) fault has leads bad =
    let Told : List ℕ → Type 0 = λ f. Fault (record { front = f; members = inside }) fault in
    let told : NoTableOr Fault name (Some inside) fault = subst Told leads bad in
    rw has told

-- as the field has to be there
pub inner_faults : {X : Type 0} (Fault : Section → JobFault → Type 0) (name front : List ℕ) (members : Members) (found : Option Tree) (result : Result X JobFault) → HasTable found members → front ≡ name ++ codes "." → IfErr result (λ fault. fault ≢ NoMemory → Fault (record { front = front; members = members }) fault) → IfErr result (λ fault. fault ≢ NoMemory → MissingOr (InTable Fault) name found fault)
inner_faults Fault name front inside found (Ok x) has leads bad = tt
inner_faults Fault name front inside found (Err fault) has leads bad =
    λ other. inner_fault Fault name front inside found fault has leads (bad other)

-- a field that is there has the faults of one that has to be there
pub may_fault : (Fault : List ℕ → Tree → JobFault → Type 0) (name : List ℕ) (found : Option Tree) (fault : JobFault) → false ≡ is_none found → MissingOr Fault name found fault → NoneOr Fault name found fault
may_fault Fault name None fault there bad = cc
may_fault Fault name (Some tree) fault there bad = bad
