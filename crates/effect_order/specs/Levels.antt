-- Counting what happens at the moments of a run, and levels of moments by the releases before them.
use Rattle.std.specs.Prelude.{ℕ, zero, suc, ◌+◌, Bool, cond}

-- at how many of the moments below t it happens
abbrev pub count : (ℕ → Bool) → ℕ → ℕ
count happens zero = 0
count happens (suc t) = cond (happens t) 1 0 + count happens t

-- twice the releases before the moment, and one more at a release: it rises into a release and out of it
abbrev pub level_at : (ℕ → Bool) → ℕ → ℕ
level_at is_release t = count is_release t + count is_release (suc t)
