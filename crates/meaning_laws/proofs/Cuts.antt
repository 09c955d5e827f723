-- Small sources use up their budget or their frames, by computation.
use Rattle.std.proofs.Common.{refl}
use Rattle.sc_layout.specs.Layout.{cells_of}
use Rattle.sc_layout.specs.Place.{place_in}
use Rattle.meaning_laws.specs.BudgetExamples.{BudgetsCut}

pub budgets_cut : BudgetsCut
unfolding cells_of place_in
budgets_cut = record {
  no_turn = refl;
  three_turns = refl;
  endless_is_cut = refl;
  before = refl;
  before_ends = refl;
  after = refl;
  after_ends = refl;
  call_is_cut = refl;
  call_is_deep = refl;
}
