-- Small programs whose plain runs are, in source order, whole histories, by computation.
use Rattle.std.proofs.Common.{◌≡◌, ℕ, true, refl}
use Rattle.std.specs.Prelude.{if◌then◌else◌, ◌==◌}
use Rattle.sc_base.specs.declared.value.End.TheVariants.{Ended, Waiting}
use Rattle.sc_base.specs.declared.value.Place.{Place}
use Rattle.sc_base.specs.declared.value.CopyMode.TheVariants.{Blocking, Split, OneWay}
use Rattle.sc_meaning.specs.declared.request.Request.TheVariants.{Read, Write, Get, Put, Store, Copy, Sync, Barrier, AllStoreSync}
use Rattle.sc_meaning.specs.Asking.{Answer, Broken, Finishes, SourceDoing}
use Rattle.resumption.specs.Resumption.{Asks, Makes, Says, Stops}
use Rattle.sc_meaning.specs.Past.{Processes}
use Rattle.source_order.proofs.Setting.{number, cell, text_in, shows_number, lands, meets}
use Rattle.source_order.proofs.Plain.{plain_machine, holds_of}
use Rattle.source_order.proofs.Exact.{exact_of}

abbrev pub on_numbers : (ℕ → SourceDoing) → Processes
on_numbers starts = record { nodes = 2; start = λ place. number 0; starts = starts }

-- ---- each writes the other's flag and reads its own

abbrev flags : (to own : Place) → SourceDoing
flags to own = Makes (Write to (number 1) 1) (Asks (Read own 1) shows_number (λ r. Says (text_in r) (Stops (Finishes Ended))))

abbrev pub dekker : Processes
dekker = on_numbers (λ node. flags (cell 0 (if node == 0 then 1 else 0) 0) (cell 0 node 0))

dekker_holds : holds_of 1 1 6 30 dekker (plain_machine dekker) ≡ true
dekker_holds = refl

-- ---- puts, gets, stores and copies between barriers

abbrev pub past_barrier : Answer → SourceDoing → SourceDoing
past_barrier Broken rest = Stops (Finishes Waiting)
past_barrier _ rest = rest

abbrev exchanges : (me other : ℕ) → SourceDoing
exchanges me other =
    Makes (Copy (cell 0 other 0) (cell 1 me 0) 2 Blocking 1) (
    Makes (Put (cell 0 other 1) (number 5) 1) (
    Makes (Get (cell 0 other 0) 1) (
    Makes (Store (cell 2 other 0) (number 7) 1) (
    Asks (Sync 1) (lands 1) (λ a.
    Asks (AllStoreSync 1) meets (λ b. past_barrier b (
    Makes (Copy (cell 2 me 0) (cell 2 other 1) 1 OneWay 1) (
    Makes (Copy (cell 0 other 0) (cell 0 other 1) 2 Split 1) (
    Asks (Read (cell 2 me 0) 1) shows_number (λ r.
    Says (text_in r) (
    Asks (Barrier 1) meets (λ b. past_barrier b (Stops (Finishes Ended))))))))))))))

abbrev pub exchange : Processes
exchange = on_numbers (λ node. exchanges node (if node == 0 then 1 else 0))

exchange_holds : holds_of 3 3 2 80 exchange (plain_machine exchange) ≡ true
exchange_holds = refl

-- ---- one node arrives at a barrier that the other never reaches

abbrev waits_in_vain : SourceDoing
waits_in_vain = Makes (Write (cell 0 1 0) (number 3) 1) (Asks (Barrier 1) meets (λ b. past_barrier b (Stops (Finishes Ended))))

abbrev pub forsaken : Processes
forsaken = on_numbers (λ node. if node == 0 then waits_in_vain else Stops (Finishes Ended))

forsaken_holds : holds_of 1 1 6 20 forsaken (plain_machine forsaken) ≡ true
forsaken_holds = refl

dekker_is_exact : exact_of 6 30 dekker (plain_machine dekker) ≡ true
dekker_is_exact = refl

exchange_is_exact : exact_of 2 80 exchange (plain_machine exchange) ≡ true
exchange_is_exact = refl

forsaken_is_exact : exact_of 6 20 forsaken (plain_machine forsaken) ≡ true
forsaken_is_exact = refl
