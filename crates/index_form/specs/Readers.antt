-- Where a place stands, as far as its form depends on it.
use Rattle.std.specs.Prelude.{ℕ, List, []}
use Rattle.flow_form.specs.Within.{Within}

-- with so many nodes and these locals of the `for_my_1d` around it; a form reads nothing else
abbrev pub within_of : (nodes : ℕ) → (mines : List ℕ) → Within
within_of nodes mines = record { nodes = nodes; returns = λ _. []; function = 0; params = 0; mines = mines }
