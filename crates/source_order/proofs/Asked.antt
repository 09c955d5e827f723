-- How many of a list's first requests are answered.
use Rattle.std.proofs.Common.{◌≡◌, ℕ, zero, suc, ◌+◌, ◌≤◌, List, [], ◌∷◌, ◌++◌, length, map, Some, Bool, true, false, refl, ap, arith, le_refl}
use Rattle.std.specs.Prelude.{slice_get}
use Rattle.sc_meaning.specs.declared.request.Request.{Request}
use Rattle.sc_meaning.specs.declared.request.Request.TheVariants as ask
use Rattle.sc_meaning.specs.OfAccess.{unlined}
use Rattle.sc_meaning.specs.Answering.{is_answered}

abbrev pub one_if : Bool → ℕ
one_if true = 1
one_if false = 0

-- those among the first k
abbrev pub asks : ℕ → List Request → ℕ
asks zero rs = 0
asks (suc k) [] = 0
asks (suc k) (r ∷ rs) = one_if (is_answered r) + asks k rs

pub answered_unlined : (r : Request) → is_answered (unlined r) ≡ is_answered r
answered_unlined (ask.Read _ _) = refl
answered_unlined (ask.Write _ _ _) = refl
answered_unlined (ask.Get _ _) = refl
answered_unlined (ask.Put _ _ _) = refl
answered_unlined (ask.Store _ _ _) = refl
answered_unlined (ask.Copy _ _ _ _ _) = refl
answered_unlined (ask.Sync _) = refl
answered_unlined (ask.Barrier _) = refl
answered_unlined (ask.AllStoreSync _) = refl

pub asks_unlined : (k : ℕ) (rs : List Request) → asks k (map unlined rs) ≡ asks k rs
asks_unlined zero rs = refl
asks_unlined (suc k) [] = refl
asks_unlined (suc k) (r ∷ rs) = rw (answered_unlined r, asks_unlined k rs) refl

pub asks_front : (k : ℕ) (rs ts : List Request) → k ≤ length rs → asks k (rs ++ ts) ≡ asks k rs
asks_front zero rs ts le = refl
asks_front (suc k) [] ts le = absurd (omega arith)
asks_front (suc k) (r ∷ rs) ts le = ap (λ n. one_if (is_answered r) + n) (asks_front k rs ts (omega arith))

pub asks_next : (k : ℕ) (rs : List Request) (r : Request) → slice_get rs k ≡ Some r → asks (suc k) rs ≡ asks k rs + one_if (is_answered r)
asks_next k [] r h = absurd cc
asks_next zero (t ∷ rs) r h = let e : t ≡ r = cc in rw e (omega arith)
asks_next (suc k) (t ∷ rs) r h = let i = asks_next k rs r h in omega arith

pub asks_grow : (j k : ℕ) (rs : List Request) → j ≤ k → asks j rs ≤ asks k rs
asks_grow zero k rs le = omega arith
asks_grow (suc j) zero rs le = absurd (omega arith)
asks_grow (suc j) (suc k) [] le = le_refl 0
asks_grow (suc j) (suc k) (r ∷ rs) le = let i = asks_grow j k rs (omega arith) in omega arith

pub asks_all : (k : ℕ) (rs : List Request) → length rs ≤ k → asks k rs ≡ asks (length rs) rs
asks_all zero [] le = refl
asks_all (suc k) [] le = refl
asks_all zero (r ∷ rs) le = absurd (omega arith)
asks_all (suc k) (r ∷ rs) le = ap (λ n. one_if (is_answered r) + n) (asks_all k rs (omega arith))
