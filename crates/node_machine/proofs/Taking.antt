-- Values that are taken from the top of a stack, by the topmost operands as a list.
use Rattle.std.proofs.Common.{◌≡◌, ℕ, zero, suc, ◌<◌, ◌≤◌, Option, Some, None, Bool, true, false, ◌&&◌, List, [], ◌∷◌, ◌++◌, length, map, take, drop, reverse, refl, sym, ap, ◌∙◌, arith, append_assoc}
use Rattle.std.specs.List.{list_all}
use Rattle.std.proofs.lemmas.List.{reverse-append, append-nil, length-reverse, length-take-le, length-map}
use Rattle.sc_base.specs.declared.value.Value.{Value}
use Rattle.sc_isa.specs.declared.operand.Operand.{Operand}
use Rattle.sc_isa.specs.declared.operand.Operand.TheVariants.{Here, Landing}
use Rattle.sc_isa.specs.declared.operand.Slot.TheVariants.{Holds}
use Rattle.sc_isa.specs.Moves.{Taken, taken}
use Rattle.node_values.specs.Operands.{is_here, value_in}
use Rattle.node_state.proofs.Segments.{map_reverse}

abbrev pub taken_if : Bool → List Value → List Operand → Option Taken
taken_if true values rest = Some (record { values = values; rest = rest })
taken_if false values rest = None

pub too_few : (n : ℕ) (values : List Value) (stack : List Operand) → length stack < n → taken n values stack ≡ None
too_few zero values stack h = absurd (omega arith)
too_few (suc n) values [] h = refl
too_few (suc n) values (Here value ∷ stack) h = too_few n (value ∷ values) stack (omega arith)
too_few (suc n) values (Landing counter number ∷ stack) h = refl

taken_top : (n : ℕ) (values : List Value) (stack : List Operand) → n ≤ length stack
    → taken n values stack
    ≡ taken_if (list_all is_here (take n stack)) (reverse (map value_in (take n stack)) ++ values) (drop n stack)
taken_top zero values stack h = refl
taken_top (suc n) values [] h = absurd (omega arith)
taken_top (suc n) values (Here value ∷ stack) h =
    taken_top n (value ∷ values) stack (omega arith)
    ∙ ap (λ vs. taken_if (list_all is_here (take n stack)) vs (drop n stack))
    (sym (append_assoc (reverse (map value_in (take n stack))) (value ∷ []) values)
    ∙ ap (λ us. us ++ values) (sym (reverse-append (value ∷ []) (map value_in (take n stack)))))
taken_top (suc n) values (Landing counter number ∷ stack) h = refl

all_append : {A : Type 0} → (p : A → Bool) (xs ys : List A) → list_all p (xs ++ ys) ≡ (list_all p xs && list_all p ys)
all_append p [] ys = refl
all_append p (x ∷ xs) ys = elim (p x) as (λ b. (b && list_all p (xs ++ ys)) ≡ ((b && list_all p xs) && list_all p ys)) [
  | true ↦ all_append p xs ys
  | false ↦ refl
]

and_turned : (a b : Bool) → (a && (b && true)) ≡ (b && a)
and_turned true true = refl
and_turned true false = refl
and_turned false true = refl
and_turned false false = refl

all_reverse : {A : Type 0} → (p : A → Bool) (xs : List A) → list_all p (reverse xs) ≡ list_all p xs
all_reverse p [] = refl
all_reverse p (x ∷ xs) =
    ap (list_all p) (reverse-append (x ∷ []) xs) ∙ all_append p (reverse xs) (x ∷ [])
    ∙ ap (λ b. b && (p x && true)) (all_reverse p xs) ∙ and_turned (list_all p xs) (p x)

-- the operands are the topmost ones, the top last
pub taken_as : (n : ℕ) (stack operands : List Operand) → n ≤ length stack → operands ≡ reverse (take n stack)
    → taken n [] stack ≡ taken_if (list_all is_here operands) (map value_in operands) (drop n stack)
taken_as n stack operands h e =
    taken_top n [] stack h
    ∙ ap (λ vs. taken_if (list_all is_here (take n stack)) vs (drop n stack))
    (append-nil (reverse (map value_in (take n stack))) ∙ sym (map_reverse value_in (take n stack)) ∙ ap (map value_in) (sym e))
    ∙ ap (λ b. taken_if b (map value_in operands) (drop n stack)) (sym (all_reverse is_here (take n stack)) ∙ ap (list_all is_here) (sym e))

-- as locals, the operands hold the values
pub held_as : (operands : List Operand) → list_all is_here operands ≡ true
    → map (λ v. Holds (Here v)) (map value_in operands) ≡ map Holds operands
held_as [] h = refl
held_as (Here value ∷ operands) h = ap (λ xs. Holds (Here value) ∷ xs) (held_as operands h)
held_as (Landing counter number ∷ operands) h = absurd (cc)

pub count_as : (n : ℕ) (stack operands : List Operand) → n ≤ length stack → operands ≡ reverse (take n stack)
    → length (map value_in operands) ≡ n
count_as n stack operands h e =
    length-map operands value_in ∙ ap length e ∙ length-reverse (take n stack) ∙ length-take-le n stack h
