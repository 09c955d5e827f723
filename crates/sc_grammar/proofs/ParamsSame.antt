-- Parameters are read the same at each depth.
use Rattle.std.proofs.Common.{◌≡◌, refl, ℕ}
use Rattle.sc_grammar.proofs.ReadingItems.{param, one_more_param, params}

pub params_same : (levels : ℕ) → params levels ≡ params 0
unfolding params one_more_param param
params_same levels = refl
