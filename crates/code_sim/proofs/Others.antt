-- A step of one node leaves what is kept of the others.
use Rattle.std.proofs.Common.{◌≡◌, ℕ, List, ◌∷◌, Option, Some, None, false, ◌==◌, refl, sym, ◌∙◌, subst, ne_eqb}
use Rattle.sc_base.specs.declared.value.End.TheVariants as kind
use Rattle.sc_layout.specs.Layout.{Arrangement}
use Rattle.sc_isa.specs.declared.code.Code.{Code}
use Rattle.sc_isa.specs.declared.journal.Entry.{Entry}
use Rattle.sc_isa.specs.declared.journal.Entry.TheVariants.{Issued, Delivered, Waited, Arrived, Passed, Finished}
use Rattle.sc_isa.specs.Run.{Ask}
use Rattle.node_machine.specs.declared.node.Asked.{Asked}
use Rattle.node_machine.specs.Nodes.{IsAt, IsNext}
use Rattle.fabric.specs.Barriers.{finished}
use Rattle.code_sim.specs.declared.node.Runner.{Runner}
use Rattle.code_sim.specs.Asking.{asks_of, shown, GoesOn, IsRunner}
use Rattle.code_sim.specs.UnderWay.{IsOwn}

-- what the past says of the node is what an earlier one says
pub record SameFor (code : Code) (layout : Arrangement) (budget : ℕ) (old new : List Entry) (number : ℕ) : Type 0 where
  pub asks : asks_of number new ≡ asks_of number old
  pub shown_is : shown code layout budget new number ≡ shown code layout budget old number
  pub finished_is : finished number new ≡ finished number old

pub runner_same : (code : Code) (layout : Arrangement) (budget : ℕ) (old new : List Entry) (number : ℕ) (r : Runner) → SameFor code layout budget old new number
    → IsRunner code layout budget old number r → IsRunner code layout budget new number r
runner_same code layout budget old new number r s x = record {
  own = x.own;
  its_budget = x.its_budget;
  counters = x.counters;
  answered = x.answered ∙ sym s.shown_is;
  goes = by r.asks x.goes;
}
  where
    by : (o : Option Asked) → GoesOn code layout budget old number r.node o → GoesOn code layout budget new number r.node o
    by (Some ask) g = record {
      at = subst (IsAt code layout r.node) (sym s.asks) g.at;
      next = subst (λ (l : List Ask). IsNext code layout r.node l ask) (sym s.asks) g.next;
      standing = g.standing;
      room = g.room;
      runs = s.finished_is ∙ g.runs;
    }
    by None g = record { asked = g.asked; at = g.at; ended = g.ended; finished = s.finished_is ∙ g.finished }

-- after a step of another node
pub other_same : (code : Code) (layout : Arrangement) (budget : ℕ) (past : List Entry) (entry : Entry) (mover number : ℕ) → IsOwn mover entry → (mover ≡ number → ⊥)
    → SameFor code layout budget past (entry ∷ past) number
other_same code layout budget past (Issued q n a) mover number own ne =
    let f : (q == number) ≡ false = ne_eqb q number (λ e. ne (sym own ∙ e)) in
    record { asks = rw f refl; shown_is = refl; finished_is = refl }
other_same code layout budget past (Delivered q n c v) mover number own ne = absurd own
other_same code layout budget past (Waited q c) mover number own ne =
    let f : (q == number) ≡ false = ne_eqb q number (λ e. ne (sym own ∙ e)) in
    record { asks = rw f refl; shown_is = rw f refl; finished_is = refl }
other_same code layout budget past (Arrived q s) mover number own ne =
    let f : (q == number) ≡ false = ne_eqb q number (λ e. ne (sym own ∙ e)) in
    record { asks = rw f refl; shown_is = refl; finished_is = refl }
other_same code layout budget past (Passed q) mover number own ne =
    let f : (q == number) ≡ false = ne_eqb q number (λ e. ne (sym own ∙ e)) in
    record { asks = rw f refl; shown_is = rw f refl; finished_is = refl }
other_same code layout budget past (Finished q kind.Waiting) mover number own ne =
    let f : (q == number) ≡ false = ne_eqb q number (λ e. ne (sym own ∙ e)) in
    record { asks = refl; shown_is = rw f refl; finished_is = rw f refl }
other_same code layout budget past (Finished q kind.Ended) mover number own ne =
    let f : (q == number) ≡ false = ne_eqb q number (λ e. ne (sym own ∙ e)) in
    record { asks = refl; shown_is = refl; finished_is = rw f refl }
other_same code layout budget past (Finished q kind.Cut) mover number own ne =
    let f : (q == number) ≡ false = ne_eqb q number (λ e. ne (sym own ∙ e)) in
    record { asks = refl; shown_is = refl; finished_is = rw f refl }
other_same code layout budget past (Finished q (kind.Fault k l)) mover number own ne =
    let f : (q == number) ≡ false = ne_eqb q number (λ e. ne (sym own ∙ e)) in
    record { asks = refl; shown_is = refl; finished_is = rw f refl }

-- after a delivery
pub delivered_same : (code : Code) (layout : Arrangement) (budget : ℕ) (past : List Entry) (q n c : ℕ) (v : _) (number : ℕ)
    → SameFor code layout budget past (Delivered q n c v ∷ past) number
delivered_same code layout budget past q n c v number = record { asks = refl; shown_is = refl; finished_is = refl }
