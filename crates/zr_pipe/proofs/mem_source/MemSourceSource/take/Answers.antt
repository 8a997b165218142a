use Rattle.std.proofs.Common.{◌≡◌, ◌-◌, ℕ, ◌+◌, ◌≤◌, ◌++◌, List, min, length, take, drop, sym, ap, ◌∙◌, arith}
use Rattle.std.proofs.lemmas.List.{take-append-drop, take_all, take_at, drop-drop, length-drop, length-take-le}
use Rattle.zr_pipe.proofs.mem_source.MemSourceSource.take.Goals as goal

-- the front of what was left stands at the front of the buffer
takes_front : (bytes front behind : List ℕ) (at count room : ℕ)
    → count ≡ min (length (take (length bytes - at) (drop at bytes))) room
    → front ≡ take count (take (length bytes - at) (drop at bytes))
    → drop at bytes ≡ take count (front ++ behind) ++ drop (at + count) bytes
takes_front bytes front behind at count room least copied =
    let all : take (length bytes - at) (drop at bytes) ≡ drop at bytes = take_all (length bytes - at) (drop at bytes) (omega (arith, length-drop at bytes)) in
    let is_front : front ≡ take count (drop at bytes) = copied ∙ ap (take count) all in
    let fits : count ≤ length (drop at bytes) = omega (arith, least, ap length all) in
    let size : length front ≡ count = ap length is_front ∙ length-take-le count (drop at bytes) fits in
    sym (take-append-drop count (drop at bytes))
    ∙ ap (λ l. l ++ drop count (drop at bytes)) (sym is_front ∙ sym (take_at front behind count size))
    ∙ ap (λ l. take count (front ++ behind) ++ l) (drop-drop count at bytes)

pub returns-clause-taken : goal.returns-clause-taken
returns-clause-taken c =
    rw (← c.self.view_is) (takes_front c.self.inside.bytes.items c.copy_from_slice.new.self _ c.self.inside.taken c.min-count.result _
    (rw c.deref-2.ensures.value at c.min-count.ensures) (rw c.deref-2.ensures.value at c.copy_from_slice.ensures.after))
