use Rattle.std.proofs.Common.{List, ℕ, refl, subst}
use Rattle.zr_listing.proofs.Reading.{some-length}
use Rattle.zr_listing.proofs.TokenReading.{ReadingToken, begun, more, stopped, ended, done, no-rest, token-one, bad-shows-none}
use Rattle.zr_listing.proofs.token.read_token.Goals as goal

pub loop-rest-init : goal.loop-rest-init
loop-rest-init c = begun c.args.bytes.now _ refl refl

pub returns-in-None-clause-garbled : goal.returns-in-None-clause-garbled
returns-in-None-clause-garbled c =
    stopped c.args.bytes.now c.loop-rest.rest.now c.loop-rest.number c.loop-rest.seen c.loop-rest.invariant c.in-None.ensures.none
    (some-length c.loop-rest.rest.now c.is_empty.result c.is_empty.ensures c.loop-rest-test.true)

pub returns-in-None-clause-none : goal.returns-in-None-clause-none
returns-in-None-clause-none c = λ _ info shows.
    bad-shows-none c.args.bytes.now c.loop-rest.number info
    (stopped c.args.bytes.now c.loop-rest.rest.now c.loop-rest.number c.loop-rest.seen c.loop-rest.invariant c.in-None.ensures.none
    (some-length c.loop-rest.rest.now c.is_empty.result c.is_empty.ensures c.loop-rest-test.true)) shows

pub loop-rest-preserved : goal.loop-rest-preserved
loop-rest-preserved c =
    more c.args.bytes.now c.loop-rest.rest.now c.in-Some.after.now c.loop-rest.number c.loop-rest.seen c.take_line.new.self
    c.loop-rest.invariant c.in-Some.ensures.some

pub returns-in-Some-to-clause-only : goal.returns-in-Some-to-clause-only
returns-in-Some-to-clause-only c = λ other shows.
    let bytes = c.args.bytes.now in
    let none = no-rest c.loop-rest.rest.now c.is_empty.result c.is_empty.ensures c.loop-rest-test.false in
    let read = subst (λ (t : List ℕ). ReadingToken bytes t c.loop-rest.number c.loop-rest.seen) none c.loop-rest.invariant in
    token-one bytes other _ shows (done bytes c.loop-rest.number c.loop-rest.seen c.in-Some-to.to read c.in-Some-to.is)

pub returns-in-None-to-clause-none : goal.returns-in-None-to-clause-none
returns-in-None-to-clause-none c = λ _ info shows.
    let bytes = c.args.bytes.now in
    let none = no-rest c.loop-rest.rest.now c.is_empty.result c.is_empty.ensures c.loop-rest-test.false in
    let read = subst (λ (t : List ℕ). ReadingToken bytes t c.loop-rest.number c.loop-rest.seen) none c.loop-rest.invariant in
    bad-shows-none bytes c.loop-rest.number info (ended bytes c.loop-rest.number c.loop-rest.seen read c.in-None-to.is) shows
