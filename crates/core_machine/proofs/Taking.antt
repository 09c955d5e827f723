-- Values that were made one after another, and are taken together.
use Rattle.std.proofs.Common.{◌≡◌, ℕ, zero, suc, ◌+◌, ◌≤◌, Bool, true, false, List, [], ◌∷◌, ◌++◌, length, reverse, take, drop, nat_le, refl, sym, ap, ◌∙◌, subst, if◌then◌else◌, arith}
use Rattle.std.proofs.lemmas.Bool.{le-leb}
use Rattle.std.proofs.lemmas.List.{append_assoc, reverse-reverse, reverse-append, length-reverse, length-append}
use Rattle.std.proofs.Math.Seq.{drop-append_seam, take-append_seam}
use Rattle.sc_base.specs.declared.value.Value.{Value}
use Rattle.core_machine.specs.Todo.{State}
use Rattle.core_machine.specs.Moves.{by_values}

-- these values made in turn, with the others below
abbrev pub onto : List Value → List Value → List Value
onto [] vs = vs
onto (x ∷ xs) vs = onto xs (x ∷ vs)

pub onto_is : (xs vs : List Value) → onto xs vs ≡ reverse xs ++ vs
onto_is [] vs = refl
onto_is (x ∷ xs) vs =
    onto_is xs (x ∷ vs) ∙ sym (append_assoc (reverse xs) (x ∷ []) vs) ∙ ap (λ l. l ++ vs) (sym (reverse-append (x ∷ []) xs))

enough : (rs vs : List Value) → nat_le (length rs) (length (rs ++ vs)) ≡ true
enough rs vs = le-leb (length rs) (length (rs ++ vs)) (omega (arith, length-append rs vs))

chosen_true : (b : Bool) (s t : State) → b ≡ true → (if b then s else t) ≡ s
chosen_true b s t e = ap (λ b. if b then s else t) e

at_seam : (rs vs : List Value) (go : List Value → List Value → State) (amiss : State) → by_values (length rs) (rs ++ vs) go amiss ≡ go (reverse rs) vs
at_seam rs vs go amiss =
    chosen_true (nat_le (length rs) (length (rs ++ vs))) _ amiss (enough rs vs)
    ∙ ap (λ l. go (reverse l) (drop (length rs) (rs ++ vs))) (take-append_seam rs vs)
    ∙ ap (go (reverse rs)) (drop-append_seam rs vs)

pub by_onto : (n : ℕ) (xs vs : List Value) (go : List Value → List Value → State) (amiss : State) → length xs ≡ n
    → by_values n (onto xs vs) go amiss ≡ go xs vs
by_onto n xs vs go amiss e =
    ap (λ n. by_values n (onto xs vs) go amiss) (sym e ∙ sym (length-reverse xs))
    ∙ ap (λ l. by_values (length (reverse xs)) l go amiss) (onto_is xs vs)
    ∙ at_seam (reverse xs) vs go amiss
    ∙ ap (λ l. go l vs) (reverse-reverse xs)
