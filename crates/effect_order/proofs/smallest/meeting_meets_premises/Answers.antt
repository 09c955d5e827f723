use Rattle.effect_order.proofs.Meeting.{timed, analysed}
use Rattle.effect_order.proofs.MeetingCode.{code}
use Rattle.effect_order.proofs.Needed.{tied}
use Rattle.effect_order.proofs.Followed.{follows, store_precedes, copy_precedes, write_precedes}
use Rattle.effect_order.proofs.smallest.meeting_meets_premises.Goals as goal

pub returns-clause-timed : goal.returns-clause-timed
returns-clause-timed c = timed

pub returns-clause-analysed : goal.returns-clause-analysed
returns-clause-analysed c = analysed

pub returns-clause-code : goal.returns-clause-code
returns-clause-code c = code

pub returns-clause-tied : goal.returns-clause-tied
returns-clause-tied c = tied

pub returns-clause-follows : goal.returns-clause-follows
returns-clause-follows c = follows

pub returns-clause-store_precedes : goal.returns-clause-store_precedes
returns-clause-store_precedes c = store_precedes

pub returns-clause-copy_precedes : goal.returns-clause-copy_precedes
returns-clause-copy_precedes c = copy_precedes

pub returns-clause-write_precedes : goal.returns-clause-write_precedes
returns-clause-write_precedes c = write_precedes
