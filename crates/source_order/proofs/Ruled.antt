-- The example runs in source order by the three rules, and their nodes made what their programs request.
use Rattle.std.proofs.Common.{◌≡◌, ℕ, [], map, true, refl}
use Rattle.std.specs.Prelude.{if◌then◌else◌, ◌==◌}
use Rattle.sc_base.specs.declared.value.End.TheVariants.{Ended}
use Rattle.sc_meaning.specs.declared.request.Request.TheVariants.{Read, Get, Store, Sync, AllStoreSync}
use Rattle.resumption.specs.Resumption.{Asks, Makes, Says, Stops}
use Rattle.sc_meaning.specs.Asking.{Finishes, SourceDoing}
use Rattle.sc_meaning.specs.Past.{Processes}
use Rattle.source_order.specs.Steps.{own_requests}
use Rattle.sc_meaning.specs.OfAccess.{unlined}
use Rattle.source_order.specs.Made.{run_in}
use Rattle.source_order.proofs.Setting.{simulated, number, cell, text_in, shows_number, lands, meets}
use Rattle.source_order.proofs.Plain.{plain_machine, pick_list}
use Rattle.source_order.proofs.Rules.{by_rules}
use Rattle.source_order.proofs.Examples.{on_numbers, past_barrier, dekker, forsaken}
use Rattle.source_order.proofs.Late.{falling, falling_machine, late_machine}

-- a store and a get, and a barrier that waits for the store
abbrev shares_with : (me other : ℕ) → SourceDoing
shares_with me other =
    Makes (Store (cell 0 other 0) (number 5) 1) (
    Makes (Get (cell 0 other 0) 1) (
    Asks (Sync 1) (lands 1) (λ a.
    Asks (AllStoreSync 1) meets (λ b. past_barrier b (
    Asks (Read (cell 0 me 0) 1) shows_number (λ r. Says (text_in r) (Stops (Finishes Ended))))))))

abbrev shares : Processes
shares = on_numbers (λ node. shares_with node (if node == 0 then 1 else 0))

dekker_by_rules : by_rules 6 30 dekker (plain_machine dekker) ≡ true
dekker_by_rules = refl

late_dekker_by_rules : by_rules 6 30 dekker (late_machine dekker) ≡ true
late_dekker_by_rules = refl

shares_by_rules : by_rules 2 40 shares (plain_machine shares) ≡ true
shares_by_rules = refl

forsaken_by_rules : by_rules 6 20 forsaken (plain_machine forsaken) ≡ true
forsaken_by_rules = refl

falling_by_rules : by_rules 6 20 falling falling_machine ≡ true
falling_by_rules = refl

falling_made : own_requests 0 (simulated 20 falling_machine (pick_list 1 20) [])
    ≡ map unlined (run_in falling 0 (simulated 20 falling_machine (pick_list 1 20) [])).events
falling_made = refl

forsaken_made : own_requests 0 (simulated 20 (plain_machine forsaken) (pick_list 1 20) [])
    ≡ map unlined (run_in forsaken 0 (simulated 20 (plain_machine forsaken) (pick_list 1 20) [])).events
forsaken_made = refl
