-- The words of a seed's generator: PCG XSH RR 64/32 (O'Neill, "PCG: a family of simple fast space-efficient
-- statistically good algorithms for random number generation", 2014), which begins with the seed on stream 0.
use Rattle.std.specs.Prelude.{ℕ, zero, suc}
use Rattle.rand_pcg.specs.Lcg.{Lcg, started, increment_of}
use Rattle.rand_pcg.specs.Pcg.{pcg32, multiplier_64}

-- the generator after so many words
abbrev pub generator_after : ℕ → Lcg → Lcg
generator_after zero g = g
generator_after (suc k) g = generator_after k (pcg32 g).1

-- word k of the generator
abbrev pub word_of : Lcg → ℕ → ℕ
word_of g k = (pcg32 (generator_after k g)).0

-- word k of the seed's generator
abbrev pub seed_word : ℕ → ℕ → ℕ
seed_word seed = word_of (started 64 multiplier_64 seed (increment_of 64 0))
