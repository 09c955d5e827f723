-- The value of a whole postfix expression is that of its operator at the values of its two parts.
use Rattle.std.proofs.Common.{◌≡◌, ℕ, ℤ, pos, Some, None, List, [], ◌∷◌, ◌++◌, refl, ◌∙◌, ap}
use Rattle.std.specs.Prelude.{Option}
use Rattle.std.specs.Option.{option_map, option_and_then}
use Rattle.std.specs.Result.{result_ok}
use Rattle.sc_base.specs.Arithmetic.{binary_of}
use Rattle.sc_base.specs.declared.operator.Binary.{Binary}
use Rattle.sc_base.specs.declared.shape.BoundStep.{BoundStep}
use Rattle.sc_base.specs.declared.shape.BoundStep.TheVariants.{Op}
use Rattle.sc_layout.specs.Bound.{IsWhole, number, procs, operation, stack_after, stack_at_end, only, result_of}
use Rattle.sc_layout.specs.Laws.{PartsGiveTheValue, combined}

after-first : (nodes : ℕ) (xs ys : List BoundStep) (o : Option (List ℤ)) → ((s : List ℤ) → stack_at_end nodes (xs ++ ys) s ≡ option_and_then (stack_at_end nodes ys) (stack_at_end nodes xs s)) → option_and_then (stack_at_end nodes (xs ++ ys)) o ≡ option_and_then (stack_at_end nodes ys) (option_and_then (stack_at_end nodes xs) o)
after-first nodes xs ys None h = refl
after-first nodes xs ys (Some s) h = h s

-- the steps of two lists, one after the other
at-end-append : (nodes : ℕ) (xs ys : List BoundStep) (stack : List ℤ) → stack_at_end nodes (xs ++ ys) stack ≡ option_and_then (stack_at_end nodes ys) (stack_at_end nodes xs stack)
at-end-append nodes [] ys stack = refl
at-end-append nodes (x ∷ xs) ys stack = after-first nodes xs ys (stack_after nodes x stack) (λ s. at-end-append nodes xs ys s)

-- the steps put the value, if there is one, on top of what was there
record Puts (nodes : ℕ) (steps : List BoundStep) (value : Option ℤ) : Type 0 where
  pub is : (stack : List ℤ) → stack_at_end nodes steps stack ≡ option_map (λ v. v ∷ stack) value

record HasValue (nodes : ℕ) (steps : List BoundStep) : Type 0 where
  pub value : Option ℤ
  pub puts : Puts nodes steps value

at-end-nil : (nodes : ℕ) (o : Option (List ℤ)) → option_and_then (stack_at_end nodes []) o ≡ o
at-end-nil nodes None = refl
at-end-nil nodes (Some s) = refl

last-step : (nodes : ℕ) (op : Binary) (f : List ℤ → Option (List ℤ)) (a b : Option ℤ) (stack : List ℤ) → ((s : List ℤ) → f s ≡ option_map (λ v. v ∷ s) b) → option_and_then (stack_at_end nodes (Op op ∷ [])) (option_and_then f (option_map (λ v. v ∷ stack) a)) ≡ option_map (λ v. v ∷ stack) (combined op a b)
last-step nodes op f None b stack h = refl
last-step nodes op f (Some a) b stack h = ap (λ o. option_and_then (stack_at_end nodes (Op op ∷ [])) o) (h (a ∷ stack)) ∙ at b
  where
    at : (b : Option ℤ) → option_and_then (stack_at_end nodes (Op op ∷ [])) (option_map (λ v. v ∷ a ∷ stack) b) ≡ option_map (λ v. v ∷ stack) (combined op (Some a) b)
    at None = refl
    at (Some b) = at-end-nil nodes (option_map (λ v. v ∷ stack) (result_ok (binary_of op a b)))

both-parts : (nodes : ℕ) (op : Binary) (left right : List BoundStep) (a b : Option ℤ) → Puts nodes left a → Puts nodes right b → Puts nodes (left ++ right ++ Op op ∷ []) (combined op a b)
both-parts nodes op left right a b l r = record {
  is = λ stack.
      (at-end-append nodes (left ++ right) (Op op ∷ []) stack
      ∙ ap (option_and_then (stack_at_end nodes (Op op ∷ []))) (at-end-append nodes left right stack)
      ∙ ap (λ o. option_and_then (stack_at_end nodes (Op op ∷ [])) (option_and_then (stack_at_end nodes right) o)) (l.is stack)
      ∙ last-step nodes op (stack_at_end nodes right) a b stack r.is);
}

has-value : (nodes : ℕ) (steps : List BoundStep) → IsWhole steps → HasValue nodes steps
has-value nodes steps (number n) = record { value = Some n; puts = record { is = λ stack. refl } }
has-value nodes steps procs = record { value = Some (pos nodes); puts = record { is = λ stack. refl } }
has-value nodes steps (operation op left right l r) =
    let a = has-value nodes left l in
    let b = has-value nodes right r in
    record { value = combined op a.value b.value; puts = both-parts nodes op left right a.value b.value a.puts b.puts }

only-one : (o : Option ℤ) → option_and_then only (option_map (λ v. v ∷ []) o) ≡ o
only-one None = refl
only-one (Some v) = refl

result-is : (nodes : ℕ) (steps : List BoundStep) (value : Option ℤ) → Puts nodes steps value → result_of nodes steps ≡ value
unfolding result_of
result-is nodes steps value h = ap (option_and_then only) (h.is []) ∙ only-one value

pub parts_give_the_value : PartsGiveTheValue
parts_give_the_value nodes op left right l r =
    let a = has-value nodes left l in
    let b = has-value nodes right r in
    let whole : result_of nodes (left ++ right ++ Op op ∷ []) ≡ combined op a.value b.value = result-is nodes (left ++ right ++ Op op ∷ []) (combined op a.value b.value) (both-parts nodes op left right a.value b.value a.puts b.puts) in
    rw (result-is nodes left a.value a.puts, result-is nodes right b.value b.puts) whole
