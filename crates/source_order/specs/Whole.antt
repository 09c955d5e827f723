-- A whole run of a machine, and what it shows in the end, as an execution and its result are in Shasha and Snir (1988).
use Rattle.std.specs.Prelude.{List, reverse}
use Rattle.effect_order.specs.Effect.{held}
use Rattle.sc_isa.specs.declared.journal.Entry.{Entry}
use Rattle.sc_meaning.specs.Whole.{Outcome}
use Rattle.fabric.specs.Effects.{effects}
use Rattle.fabric.specs.Barriers.{finished}
use Rattle.fabric.specs.Asked.{Machine, run_so_far}
use Rattle.fabric.specs.Legal.{IsLegalJournal, IsCompleteJournal}

-- a whole journal, in the order of its entries
pub record IsRun (machine : Machine) (journal : List Entry) : Type 0 where
  pub legal : IsLegalJournal machine journal
  pub complete : IsCompleteJournal machine journal

-- how each node finished, what it printed, and what each cell holds
abbrev pub run_outcome : Machine → List Entry → Outcome
run_outcome machine journal = record {
  ends = λ node. finished node (reverse journal);
  texts = λ node. (run_so_far machine node (reverse journal)).text;
  memory = λ place. held machine.start place (effects machine.start (reverse journal));
}
