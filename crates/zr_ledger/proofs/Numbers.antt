-- The numbers by kind.
use Rattle.std.proofs.Common.{◌≡◌, ◌+◌, ℕ, Bool, true, false, cond, refl, arith}
use Rattle.zr_names.specs.Totals.{plus}
use Rattle.zr_names.specs.declared.unit.Work.{Work}
use Rattle.zr_names.specs.declared.unit.Work.TheVariants.{Scan, Parents, Snap, Replicate, PruneSource, PruneTarget}
use Rattle.zr_ledger.specs.Seats.{same_kind}
use Rattle.zr_ledger.specs.Steps.{no_kinds, number_of, raised}
use Rattle.zr_ledger.specs.declared.counts.Kinds.{Kinds}

pub same_kind-itself : (work : Work) → same_kind work work ≡ true
same_kind-itself Scan = refl
same_kind-itself Parents = refl
same_kind-itself (Snap path prefix) = refl
same_kind-itself (Replicate path) = refl
same_kind-itself (PruneSource path) = refl
same_kind-itself (PruneTarget path) = refl

-- the number of a kind, after one of another kind was raised
pub number_of-raised : (work other : Work) (kinds : Kinds) → number_of work (raised other kinds) ≡ cond (same_kind work other) (plus (number_of work kinds) 1) (number_of work kinds)
number_of-raised Scan Scan kinds = refl
number_of-raised Scan Parents kinds = refl
number_of-raised Scan (Snap path prefix) kinds = refl
number_of-raised Scan (Replicate path) kinds = refl
number_of-raised Scan (PruneSource path) kinds = refl
number_of-raised Scan (PruneTarget path) kinds = refl
number_of-raised Parents Scan kinds = refl
number_of-raised Parents Parents kinds = refl
number_of-raised Parents (Snap path prefix) kinds = refl
number_of-raised Parents (Replicate path) kinds = refl
number_of-raised Parents (PruneSource path) kinds = refl
number_of-raised Parents (PruneTarget path) kinds = refl
number_of-raised (Snap own before) Scan kinds = refl
number_of-raised (Snap own before) Parents kinds = refl
number_of-raised (Snap own before) (Snap path prefix) kinds = refl
number_of-raised (Snap own before) (Replicate path) kinds = refl
number_of-raised (Snap own before) (PruneSource path) kinds = refl
number_of-raised (Snap own before) (PruneTarget path) kinds = refl
number_of-raised (Replicate own) Scan kinds = refl
number_of-raised (Replicate own) Parents kinds = refl
number_of-raised (Replicate own) (Snap path prefix) kinds = refl
number_of-raised (Replicate own) (Replicate path) kinds = refl
number_of-raised (Replicate own) (PruneSource path) kinds = refl
number_of-raised (Replicate own) (PruneTarget path) kinds = refl
number_of-raised (PruneSource own) Scan kinds = refl
number_of-raised (PruneSource own) Parents kinds = refl
number_of-raised (PruneSource own) (Snap path prefix) kinds = refl
number_of-raised (PruneSource own) (Replicate path) kinds = refl
number_of-raised (PruneSource own) (PruneSource path) kinds = refl
number_of-raised (PruneSource own) (PruneTarget path) kinds = refl
number_of-raised (PruneTarget own) Scan kinds = refl
number_of-raised (PruneTarget own) Parents kinds = refl
number_of-raised (PruneTarget own) (Snap path prefix) kinds = refl
number_of-raised (PruneTarget own) (Replicate path) kinds = refl
number_of-raised (PruneTarget own) (PruneSource path) kinds = refl
number_of-raised (PruneTarget own) (PruneTarget path) kinds = refl

pub number_of-none : (work : Work) → number_of work no_kinds ≡ 0
number_of-none Scan = refl
number_of-none Parents = refl
number_of-none (Snap path prefix) = refl
number_of-none (Replicate path) = refl
number_of-none (PruneSource path) = refl
number_of-none (PruneTarget path) = refl

-- accepted is taken and waiting, where one of those that waited is taken
pub after_take : (is : Bool) (accepted taken waiting rest : ℕ) → accepted ≡ plus taken waiting → rest + cond is 1 0 ≡ waiting → accepted ≡ plus (cond is (plus taken 1) taken) rest
after_take true accepted taken waiting rest before left = omega arith
after_take false accepted taken waiting rest before left = omega arith

-- and where one more is accepted
pub after_add : (is : Bool) (accepted taken waiting more : ℕ) → accepted ≡ plus taken waiting → more ≡ waiting + cond is 1 0 → cond is (plus accepted 1) accepted ≡ plus taken more
after_add true accepted taken waiting more before joined = omega arith
after_add false accepted taken waiting more before joined = omega arith
