use Rattle.std.proofs.Common.{ap, ◌∙◌, length, slice_get}
use Rattle.history_replay.proofs.Whole.{tells}
use Rattle.history_replay.proofs.judge.Judge.outcome.Goals as goal

pub returns : goal.returns
returns c = λ program budget history reached complete.
    tells program budget history c.args.self.now reached _ complete (c.from_vec.ensures ∙ c.in-Ok.ensures)
    (ap length c.from_vec-2.ensures ∙ c.in_ok-printed.ensures.many)
    (λ n lt. ap (λ xs. slice_get xs n) c.from_vec-2.ensures ∙ c.in_ok-printed.ensures.texts reached.fronts reached.all n lt)
    c.in-Ok-copied.ensures
