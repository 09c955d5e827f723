-- The command of a name.
use Rattle.std.proofs.Common.{◌≡◌, ℕ, List, Some, true, false, bytes_eq, codes, refl}
use Rattle.splitc_top.specs.declared.words.Options.{Options}
use Rattle.splitc_top.specs.declared.words.Command.TheVariants.{Compile, Delays}
use Rattle.splitc_top.specs.Words.{explain_with, on_nodes, command_named}

pub explain_named : (name : List ℕ) (o : Options) → bytes_eq name (codes "run") ≡ false
    → bytes_eq name (codes "explain") ≡ true → explain_with (Some o) ≡ command_named name (Some o)
explain_named name o run explain = rw run (rw explain refl)

pub compile_named : (name : List ℕ) (o : Options) → bytes_eq name (codes "run") ≡ false
    → bytes_eq name (codes "explain") ≡ false → bytes_eq name (codes "compile") ≡ true
    → on_nodes Compile (Some o) ≡ command_named name (Some o)
compile_named name o run explain compile = rw run (rw explain (rw compile refl))

pub delays_named : (name : List ℕ) (o : Options) → bytes_eq name (codes "run") ≡ false
    → bytes_eq name (codes "explain") ≡ false → bytes_eq name (codes "compile") ≡ false
    → bytes_eq name (codes "delays") ≡ true → on_nodes Delays (Some o) ≡ command_named name (Some o)
delays_named name o run explain compile delays = rw run (rw explain (rw compile (rw delays refl)))
