use Rattle.zr_time.proofs.Decimal.{digits-four, digits-three, digits-two}
use Rattle.zr_time.proofs.Rising.{one_moment, one_stamp, stamps_rise}
use Rattle.zr_time.proofs.text.stamp.Goals as goal

pub returns-clause-value : goal.returns-clause-value
returns-clause-value c = record {
  before_the_end = c.civil_of-civil.ensures.before_the_end;
  civil = c.civil_of-civil.result;
  shows = c.civil_of-civil.ensures.shows;
  text_is = simp (digits-two, digits-three, digits-four) cc;
}

pub returns-clause-only : goal.returns-clause-only
returns-clause-only c = λ text is. one_stamp c.args.moment _ _ is (returns-clause-value c)

pub returns-clause-of_no_other : goal.returns-clause-of_no_other
returns-clause-of_no_other c = λ other is. one_moment _ _ _ is (returns-clause-value c)

pub returns-clause-rising : goal.returns-clause-rising
returns-clause-rising c = λ later text below is. stamps_rise _ _ _ _ (returns-clause-value c) is below
