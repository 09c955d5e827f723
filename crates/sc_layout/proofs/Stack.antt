-- A stack whose top is the last item of a list.
use Rattle.std.proofs.Common.{◌≡◌, ℕ, ℤ, Some, None, Ok, Err, List, [], ◌∷◌, ◌++◌, reverse, refl, sym, ◌∙◌, ap}
use Rattle.std.proofs.lemmas.List.{reverse-append}
use Rattle.sc_base.specs.Arithmetic.{binary_of}
use Rattle.sc_base.specs.declared.operator.Binary.{Binary}
use Rattle.sc_base.specs.declared.value.FaultKind.{FaultKind}
use Rattle.sc_base.specs.declared.shape.BoundStep.TheVariants.{Op}
use Rattle.sc_layout.specs.Bound.{stack_after}

pub reverse-push : {A : Type 0} (xs : List A) (x : A) → reverse (xs ++ x ∷ []) ≡ x ∷ reverse xs
reverse-push xs x = reverse-append xs (x ∷ [])

two : (all mid rest : List ℤ) (a b : ℤ) → all ≡ mid ++ b ∷ [] → mid ≡ rest ++ a ∷ [] → reverse all ≡ b ∷ a ∷ reverse rest
two all mid rest a b p q = ap reverse p ∙ reverse-push mid b ∙ ap (λ xs. b ∷ reverse xs) q ∙ ap (λ xs. b ∷ xs) (reverse-push rest a)

pub operated : (nodes : ℕ) (op : Binary) (all mid rest new : List ℤ) (a b v : ℤ) → all ≡ mid ++ b ∷ [] → mid ≡ rest ++ a ∷ [] → Ok v ≡ binary_of op a b → new ≡ rest ++ v ∷ [] → stack_after nodes (Op op) (reverse all) ≡ Some (reverse new)
operated nodes op all mid rest new a b v p q r s =
    rw (two all mid rest a b p q, ← r, s) (ap Some (sym (reverse-push rest v)))

pub refused : (nodes : ℕ) (op : Binary) (all mid rest : List ℤ) (a b : ℤ) (e : FaultKind) → all ≡ mid ++ b ∷ [] → mid ≡ rest ++ a ∷ [] → Err e ≡ binary_of op a b → stack_after nodes (Op op) (reverse all) ≡ None
refused nodes op all mid rest a b e p q r = rw (two all mid rest a b p q, ← r) refl
