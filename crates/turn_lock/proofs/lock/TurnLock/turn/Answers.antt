use Rattle.std.proofs.Common.{rules, ap, ◌∙◌, sym}
use Rattle.turn_lock.proofs.Joined.{at_rest}
use Rattle.turn_lock.proofs.Keeps.{draws}
use Rattle.turn_lock.proofs.lock.TurnLock.turn.Goals as goal

pub fetch_add-ticket-requires : goal.fetch_add-ticket-requires
fetch_add-ticket-requires g c = let rest = at_rest _ _ (ap (λ k. k.out) c.seat.view_is ∙ c.requires.resting) c.seat.invariant.1 in
    (ap (λ k. k.lock) c.seat.view_is ∙ c.requires.lock ∙ sym (ap (λ l. l.id) c.self.view_is), search rules, draws _ _ _ _ _ _ _ rest.0 c.seat.invariant.0)
