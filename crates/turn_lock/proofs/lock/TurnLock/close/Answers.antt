use Rattle.std.proofs.Common.{◌<◌, ap, ◌∙◌, sym, subst}
use Rattle.turn_lock.specs.Words.{times}
use Rattle.turn_lock.proofs.Joined.{at_rest}
use Rattle.turn_lock.proofs.Keeps.{ending}
use Rattle.turn_lock.proofs.lock.TurnLock.close.Goals as goal

pub unreachable-requires : goal.unreachable-requires
unreachable-requires g c = ending _ _ _ _ _ _ _ _ c.close_with-closed.ensures.values.2
    (at_rest _ _ (ap (λ k. k.out) c.seat.view_is ∙ c.requires.resting) c.seat.invariant.1).0
    (λ k lt. subst (λ ls. 0 < times k ls) (sym (ap (λ s. s.lanes) c.seat.view_is)) (c.requires.all_lanes k (subst (λ n. k < n) (ap (λ l. l.lanes) c.self.view_is) lt))) _ c.in-None.ensures.value

pub returns-clause-begins : goal.returns-clause-begins
returns-clause-begins g c = rw (sym c.seat.view_is) (ending _ _ _ _ _ _ _ _ c.close_with-closed.ensures.values.2
    (at_rest _ _ (ap (λ k. k.out) c.seat.view_is ∙ c.requires.resting) c.seat.invariant.1).0
    (λ k lt. subst (λ ls. 0 < times k ls) (sym (ap (λ s. s.lanes) c.seat.view_is)) (c.requires.all_lanes k (subst (λ n. k < n) (ap (λ l. l.lanes) c.self.view_is) lt))) _ c.in-Some.ensures.value).0

pub returns-clause-own : goal.returns-clause-own
returns-clause-own g c = rw (sym c.seat.view_is) (ending _ _ _ _ _ _ _ _ c.close_with-closed.ensures.values.2
    (at_rest _ _ (ap (λ k. k.out) c.seat.view_is ∙ c.requires.resting) c.seat.invariant.1).0
    (λ k lt. subst (λ ls. 0 < times k ls) (sym (ap (λ s. s.lanes) c.seat.view_is)) (c.requires.all_lanes k (subst (λ n. k < n) (ap (λ l. l.lanes) c.self.view_is) lt))) _ c.in-Some.ensures.value).1

pub returns-clause-ends : goal.returns-clause-ends
returns-clause-ends g c = (ending _ _ _ _ _ _ _ _ c.close_with-closed.ensures.values.2
    (at_rest _ _ (ap (λ k. k.out) c.seat.view_is ∙ c.requires.resting) c.seat.invariant.1).0
    (λ k lt. subst (λ ls. 0 < times k ls) (sym (ap (λ s. s.lanes) c.seat.view_is)) (c.requires.all_lanes k (subst (λ n. k < n) (ap (λ l. l.lanes) c.self.view_is) lt))) _ c.in-Some.ensures.value).2
