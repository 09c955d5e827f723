-- Numbers that are capped at a limit, and the shares of things that are dealt out in turn.
use Rattle.std.proofs.Common.{◌≡◌, ℕ, suc, ◌+◌, ◌-◌, ◌*◌, ◌/◌, ◌%◌, ◌<◌, ◌≤◌, ◌⊎◌, min, inl, inr, refl, ◌∙◌, ap, arith}
use Rattle.std.proofs.lemmas.Bool.{cases_lt}
use Rattle.std.proofs.Math.Nat.{mul-le-mul_left, lt-mul-div-succ, div-add-mod}
use Rattle.std.proofs.lemmas.Nat.{le-div, mod_below}
use Rattle.sc_layout.specs.Layout.{share_of}

-- a product with a large factor is large
pub big_first : (m p v : ℕ) → m ≤ p → 0 < v → m ≤ p * v
big_first m p v h q = let one : 1 ≤ v = omega arith in omega (arith, mul-le-mul_left p one)

pub big_second : (m p v : ℕ) → m ≤ v → 0 < p → m ≤ p * v
big_second m p v h q = omega (arith, big_first m v p h q)

-- two numbers that are the same under a cap are the same, or both at it
cap_cases : (m x y : ℕ) → min x m ≡ min y m → (x ≡ y) ⊎ ((m ≤ x) × (m ≤ y))
cap_cases m x y e = elim (cases_lt x m) [ inl h ↦ inl (omega arith) | inr h ↦ inr (omega arith, omega arith) ]

both_large : (m x y : ℕ) → m ≤ x → m ≤ y → min x m ≡ min y m
both_large m x y p q = omega arith

capped-same : (m x y v : ℕ) → m ≤ x → m ≤ y → min (x * v) m ≡ min (y * v) m
capped-same m x y v p q = elim (cases_lt 0 v) [
  | inl h ↦ both_large m (x * v) (y * v) (big_first m x v p h) (big_first m y v q h)
  | inr h ↦ (let z : v ≡ 0 = omega arith in rw z (omega arith))
]

capped-first : (m x y v : ℕ) → min x m ≡ min y m → min (x * v) m ≡ min (y * v) m
capped-first m x y v e = elim (cap_cases m x y e) [
  | inl h ↦ ap (λ n. min (n * v) m) h
  | inr h ↦ capped-same m x y v h.0 h.1
]

turned : (m x y : ℕ) → min (x * y) m ≡ min (y * x) m
turned m x y = omega arith

-- what a product is under a cap depends on what its factors are under it
pub capped-mul : (m x y u v : ℕ) → min x m ≡ min y m → min u m ≡ min v m → min (x * u) m ≡ min (y * v) m
capped-mul m x y u v e f = capped-first m x y u e ∙ turned m y u ∙ capped-first m u v y f ∙ turned m v y

pub capped-product : (m p v : ℕ) → min (min p m * v) m ≡ min (p * v) m
capped-product m p v = capped-first m (min p m) p v (omega arith)

-- the first share, where the number of things and the sum under the quotient are capped
pub capped-share : (l m nodes blocks : ℕ) → 0 < nodes → l * nodes < m → min (min (min blocks m + (nodes - 1)) m / nodes) l ≡ min (share_of nodes blocks 0) l
capped-share l m nodes blocks some room = elim (cases_lt (blocks + (nodes - 1)) m) [
  | inl h ↦ (let e : min (min blocks m + (nodes - 1)) m ≡ blocks + (nodes - 1) = omega arith in rw e refl)
  | inr h ↦
      (let low : l * nodes ≤ min (min blocks m + (nodes - 1)) m = omega arith in
      let high : l * nodes ≤ blocks + (nodes - 1) = omega arith in
      both_large l _ _ (le-div l _ nodes some low) (le-div l _ nodes some high))
]

pub first_cells : (l m nodes blocks block : ℕ) → 0 < nodes → l * nodes < m → l ≤ m → min (min (min (min blocks m + (nodes - 1)) m / nodes * min block m) m) l ≡ min (share_of nodes blocks 0 * block) l
first_cells l m nodes blocks block some room le =
    let e : min (min (min (min blocks m + (nodes - 1)) m / nodes * min block m) m) l ≡ min (min (min blocks m + (nodes - 1)) m / nodes * min block m) l = omega arith in
    e ∙ capped-mul l _ _ _ _ (capped-share l m nodes blocks some room) (omega arith)

pub all_cells : (l m blocks block : ℕ) → l ≤ m → min (min (min blocks m * min block m) m) l ≡ min (blocks * block) l
all_cells l m blocks block le =
    let e : min (min (min blocks m * min block m) m) l ≡ min (min blocks m * min block m) l = omega arith in
    e ∙ capped-mul l _ _ _ _ (omega arith) (omega arith)

-- all things are in as many rounds as the first node has things
pub share-all : (nodes blocks : ℕ) → 0 < nodes → blocks ≤ nodes * share_of nodes blocks 0
share-all nodes blocks some = omega (arith, lt-mul-div-succ (blocks + (nodes - 1)) some)

-- no node has more than the first
pub share-le-first : (nodes blocks node : ℕ) → 0 < nodes → share_of nodes blocks node ≤ share_of nodes blocks 0
share-le-first nodes blocks node some =
    let below : nodes * share_of nodes blocks node ≤ blocks + (nodes - suc node) = omega (arith, div-add-mod (blocks + (nodes - suc node)) nodes) in
    le-div (share_of nodes blocks node) (blocks + (nodes - 1)) nodes some (omega arith)

-- thing i is among those of its node
pub share-within : (nodes blocks i : ℕ) → 0 < nodes → i < blocks → i / nodes < share_of nodes blocks (i % nodes)
share-within nodes blocks i some h =
    let parts : nodes * (i / nodes) + i % nodes ≡ i = div-add-mod i nodes in
    let r : i % nodes < nodes = mod_below i nodes some in
    let room : suc (i / nodes) * nodes ≤ blocks + (nodes - suc (i % nodes)) = omega arith in
    le-div (suc (i / nodes)) (blocks + (nodes - suc (i % nodes))) nodes some room
