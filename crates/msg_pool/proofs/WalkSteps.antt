-- Steps of a walk along a chain, from its head and from its tail.
use Rattle.std.proofs.Common.{◌≡◌, ℕ, suc, ◌+◌, ◌-◌, ◌<◌, List, [], ◌∷◌, length, Option, None, ap, ◌∙◌, arith}
use Rattle.std.specs.Prelude.{slice_get}
use Rattle.msg_pool.specs.Chains.{Links, last_or, IsLinked, next_in, previous_in}
use Rattle.msg_pool.proofs.Segments.{next_at, previous_at, last_is}

pub step_forward : (links : Links) (keys : List ℕ) (at after : Option ℕ) (i : ℕ) → IsLinked links None keys None → at ≡ slice_get keys i → after ≡ next_in links at → after ≡ slice_get keys (i + 1)
step_forward links keys at after i linked here step =
    let one : suc i ≡ i + 1 = omega arith in
    step ∙ ap (next_in links) here ∙ next_at links None keys linked i ∙ ap (slice_get keys) one

pub step_back : (links : Links) (keys : List ℕ) (at after : Option ℕ) (count steps i : ℕ) → IsLinked links None keys None → count ≡ length keys → steps < count → i < steps → at ≡ slice_get keys (count - 1 - i) → after ≡ previous_in links at → after ≡ slice_get keys (count - 1 - (i + 1))
step_back links keys at after count steps i linked counted within more here step =
    let j = count - 1 - (i + 1) in
    let one : count - 1 - i ≡ suc j = omega arith in
    let inside : suc j < length keys = omega arith in
    step ∙ ap (previous_in links) (here ∙ ap (slice_get keys) one) ∙ previous_at links None keys None linked j inside

pub tail_at : (keys : List ℕ) (tail : Option ℕ) (count : ℕ) → tail ≡ last_or None keys → count ≡ length keys → 0 < count → tail ≡ slice_get keys (count - 1 - 0)
tail_at [] tail count is counted some = absurd (omega arith)
tail_at (key ∷ keys) tail count is counted some =
    let end : length keys ≡ count - 1 - 0 = omega arith in
    is ∙ last_is None key keys ∙ ap (slice_get (key ∷ keys)) end
