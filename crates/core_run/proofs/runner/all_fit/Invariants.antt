use Rattle.std.proofs.Common.{◌≡◌, drop}
use Rattle.sc_isa.specs.Fitting.{fits_all}
use Rattle.core_run.specs.Seen.{places_of}
use Rattle.core_run.proofs.runner.all_fit.Given as goal

abbrev pub invariant-loop-number : goal.invariant-loop-number
invariant-loop-number l =
    fits_all l.layout (places_of (drop l.number l.spots)) (drop l.number l.values) ≡ fits_all l.layout (places_of l.spots) l.values
