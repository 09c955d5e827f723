use Rattle.std.proofs.Common.{refl, sym, ◌∙◌}
use Rattle.history_replay.proofs.Reaching.{asks}
use Rattle.history_replay.proofs.judge.Judge.next_request.Goals as goal

pub returns-clause-next : goal.returns-clause-next
returns-clause-next c = λ processes past reached.
    asks processes past c.args.self.now _ c.args.node c.args.number c.request.result
    (sym c.is_turn.ensures.turn ∙ c.if-not-is_turn.false) reached refl refl refl c.request.ensures.many
    (c.request.ensures.stands reached.fronts reached.all) (c.request.ensures.request reached.fronts reached.all)
