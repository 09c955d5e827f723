-- The small sources' histories are whole, by computation.
use Rattle.std.proofs.Common.{pos, [], ◌∷◌, refl}
use Rattle.std.specs.Prelude.{codes}
use Rattle.std.proofs.lemmas.List.{append-nil}
use Rattle.sc_isa.specs.Printing.{formatted}
use Rattle.sc_layout.specs.Layout.{cells_of}
use Rattle.sc_layout.specs.Place.{place_in}
use Rattle.meaning_laws.specs.ExampleSources.{exchange, copying, late_store, forsaking}
use Rattle.meaning_laws.specs.ExampleHistories.{exchanged, copied, stored_late, forsaken, ExchangeHolds, CopyingHolds, LateStoreHolds, ForsakingHolds, HistoriesHold}
use Rattle.meaning_laws.proofs.ByTest.{history_by}

exchange_holds : ExchangeHolds
unfolding cells_of place_in
exchange_holds = record {
  whole = history_by exchange exchanged refl refl;
  ended = refl;
  printed = append-nil (formatted (codes "%d%d") (pos 0 ∷ pos 5 ∷ []));
  put = refl;
  stored = refl;
  wrote = refl;
  untouched = refl;
}

copying_holds : CopyingHolds
unfolding cells_of place_in
copying_holds = record { whole = history_by copying copied refl refl; blocking = refl; split = refl; one_way = refl }

late_store_holds : LateStoreHolds
unfolding cells_of place_in
late_store_holds = record { whole = history_by late_store stored_late refl refl; stored = refl }

forsaking_holds : ForsakingHolds
unfolding cells_of place_in
forsaking_holds = record { whole = history_by forsaking forsaken refl refl; waits = refl; put = refl }

pub histories_hold : HistoriesHold
histories_hold = record {
  exchange_holds = exchange_holds;
  copying_holds = copying_holds;
  late_store_holds = late_store_holds;
  forsaking_holds = forsaking_holds;
}
