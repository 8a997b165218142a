-- A text that a field does not take is a bad value.
use Rattle.std.proofs.Common.{◌≡◌, ℕ, List, Option, Some, None, Err}
use Rattle.zr_names.specs.Tree.{Tree}
use Rattle.zr_jobwalk.specs.declared.fault.JobFault.{JobFault}
use Rattle.zr_jobwalk.specs.declared.fault.JobFault.TheVariants.{BadValue}
use Rattle.zr_jobwalk.specs.declared.texts.Unread.{Unread}
use Rattle.zr_jobwalk.specs.declared.texts.Unread.TheVariants.{Bad}
use Rattle.zr_jobwalk.specs.Faults.{IsBad, MissingOr}
use Rattle.zr_jobwalk.specs.Texts.{ReadsText}
use Rattle.zr_jobwalk.specs.Values.{HasText, IsText, SomeIs}

pub bad_text : {X : Type 0} (Is : List ℕ → X → Type 0) (name : List ℕ) (found : Option Tree) (text : List ℕ) (fault : JobFault) → HasText found text → ((x : X) → ¬ Is text x) → fault ≡ BadValue name → MissingOr (IsBad (IsText Is)) name found fault
bad_text Is name None text fault has bad told = absurd has
bad_text {X} Is name (Some tree) text fault has bad told = (told, λ x. rw has (bad x))
