use Rattle.core_run.specs.Views.{plain_answer, by}
use Rattle.core_run.specs.Seen.{next_by}
use Rattle.core_run.proofs.Answering.{less_taken, stands_so}
use Rattle.core_run.proofs.runner.Runner.answered.Goals as goal

pub returns-clause-taken : goal.returns-clause-taken
returns-clause-taken c = λ request fits go stands yes.
    let mid = c.take_next.new.self in
    let answer = plain_answer c.args.answer in
    let t = less_taken c.args.self.now mid c.in-Some.task request fits go answer (record {
      before = c.in-Some.ensures.taken;
      some = c.in-Some.ensures.some;
      kept = c.take_next.ensures.kept;
      seen = c.requires;
    }) stands in
    stands_so mid c.go_by.new.self (by mid (next_by c.in-Some.task answer)) (go answer) c.in_ok-go_by.ensures.stands t.goes
