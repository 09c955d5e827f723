-- Words on lists that the clauses and the rule of the turn lock share: the lane of a list, lanes that are closed, and
-- what is counted of lanes and of views. They are ordinary list words; docs/contracts.md, "The turn lock", says them
-- in prose.
use Rattle.std.specs.Prelude.{◌≡◌, ℕ, ◌+◌, Bool, true, false, List, [], ◌∷◌, length, if◌then◌else◌, ◌==◌, nat_le, min, filter, All}

-- the entries of the lane k, in order
abbrev pub of_lane : {E : Type 0} → (E → ℕ) → ℕ → List E → List E
of_lane lane k es = filter (λ e. lane e == k) es

-- no entry of the lane k closes it
abbrev pub IsOpen : {E : Type 0} → (E → ℕ) → (E → Bool) → ℕ → List E → Type 0
IsOpen lane closes k es = All (λ e. closes e ≡ false) (of_lane lane k es)

-- an entry that closes is the last of its lane
abbrev pub ClosesLast : {E : Type 0} → (E → ℕ) → (E → Bool) → List E → Type 0
ClosesLast lane closes [] = Unit {0}
ClosesLast lane closes (e ∷ es) = (closes e ≡ true → of_lane lane (lane e) es ≡ []) × ClosesLast lane closes es

-- a test as a number
abbrev pub mark : Bool → ℕ
mark b = if b then 1 else 0

-- how often k stands in the list
abbrev pub times : ℕ → List ℕ → ℕ
times k [] = 0
times k (x ∷ xs) = mark (x == k) + times k xs

-- f of each, added up
abbrev pub total : {V : Type 0} → (V → ℕ) → List V → ℕ
total f [] = 0
total f (v ∷ vs) = f v + total f vs

-- the least of x and the others
abbrev pub least_of : ℕ → List ℕ → ℕ
least_of x [] = x
least_of x (y ∷ ys) = least_of (min x y) ys

-- the least of a list that is not empty
abbrev pub least : List ℕ → ℕ
least [] = 0
least (x ∷ xs) = least_of x xs

-- the list without the first a
abbrev pub without : ℕ → List ℕ → List ℕ
without a [] = []
without a (x ∷ xs) = if x == a then xs else x ∷ without a xs

-- the longer of two lists
abbrev pub longer : {E : Type 0} → List E → List E → List E
longer xs ys = if nat_le (length xs) (length ys) then ys else xs
