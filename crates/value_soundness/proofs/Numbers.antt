-- What the operators give of numbers of 64 bits has 64 bits.
use Rattle.std.proofs.Common.{◌≡◌, ℕ, zero, suc, ◌+◌, ◌^◌, ℤ, pos, negsuc, ◌+ℤ◌, ◌-ℤ◌, ◌*ℤ◌, neg_ℤ, Result, Ok, Err, Bool, true, false, if◌then◌else◌, nat_lt, refl, ap, ◌∙◌, arith}
use Rattle.std.specs.Prelude.{FitsSigned, int_lt, int_le, int_div, int_rem}
use Rattle.std.specs.Int.{w64, cast_signed}
use Rattle.std.proofs.lemmas.Bool.{and_parts, ltb-true, ltb-false, leb-true}
use Rattle.std.proofs.Math.IntN.{+ℤ-neg_ℤ_cancel}
use Rattle.sc_base.specs.Arithmetic.{within_int, divided, shifted, floor_div, truth, binary_of, unary_of}
use Rattle.sc_base.specs.declared.operator.Binary.{Binary}
use Rattle.sc_base.specs.declared.operator.Binary.TheVariants.{Add, Sub, Mul, Div, Rem, Shl, Shr, And, Or, Xor, Eq, Ne, Lt, Le, Gt, Ge}
use Rattle.sc_base.specs.declared.operator.Unary.{Unary}
use Rattle.sc_base.specs.declared.operator.Unary.TheVariants.{Minus, Not, Invert}
use Rattle.sc_base.specs.declared.value.FaultKind.{FaultKind}

-- what there is of it has 64 bits
abbrev pub OkFits : Result ℤ FaultKind → Type 0
OkFits (Ok n) = FitsSigned w64 n
OkFits (Err kind) = Unit {0}

in_range : (z : ℤ) → int_le (neg_ℤ (pos (2 ^ 63))) z ≡ true → int_lt z (pos (2 ^ 63)) ≡ true → FitsSigned w64 z
in_range (pos n) h k = record { sfits = ltb-true n (2 ^ 63) k }
in_range (negsuc n) h k = record { sfits = omega (arith, leb-true n 9223372036854775807 h) }

within_if : (z : ℤ) (b : Bool) (e : FaultKind) → (b ≡ true → FitsSigned w64 z) → OkFits (if b then Ok z else Err e)
within_if z true e h = h refl
within_if z false e h = tt

within : (z : ℤ) → OkFits (within_int z)
within z = within_if z _ _ (λ h. let p = and_parts (int_le (neg_ℤ (pos (2 ^ 63))) z) (int_lt z (pos
    (2 ^ 63))) h in in_range z p.0 p.1)

divided_fits : (f : ℤ → ℤ → ℤ) (a b : ℤ) → OkFits (divided f a b)
divided_fits f a (pos zero) = tt
divided_fits f a (pos (suc n)) = within (f a (pos (suc n)))
divided_fits f a (negsuc n) = within (f a (negsuc n))

shift_if : (z : ℤ) (b : Bool) (e : FaultKind) → OkFits (if b then within_int z else Err e)
shift_if z true e = within z
shift_if z false e = tt

shifted_fits : (f : ℕ → ℤ) (b : ℤ) → OkFits (shifted f b)
shifted_fits f (pos n) = shift_if (f n) (nat_lt n 64) _
shifted_fits f (negsuc n) = tt

truth_fits : (b : Bool) → OkFits (truth b)
truth_fits true = record { sfits = omega arith }
truth_fits false = record { sfits = omega arith }

signed : (n : ℕ) → FitsSigned w64 (cast_signed w64 n)
signed n = go (nat_lt n (2 ^ 63)) refl
  where
    go : (b : Bool) → nat_lt n (2 ^ 63) ≡ b → FitsSigned w64 (cast_signed w64 n)
    go true h = rw h (record { sfits = ltb-true n (2 ^ 63) h })
    go false h = rw h (record { sfits = omega (arith, ltb-false n (2 ^ 63) h) })

pub binary_fits : (op : Binary) (a b : ℤ) → OkFits (binary_of op a b)
binary_fits Add a b = within (a +ℤ b)
binary_fits Sub a b = within (a -ℤ b)
binary_fits Mul a b = within (a *ℤ b)
binary_fits Div a b = divided_fits int_div a b
binary_fits Rem a b = divided_fits int_rem a b
binary_fits Shl a b = shifted_fits (λ count. a *ℤ pos (2 ^ count)) b
binary_fits Shr a b = shifted_fits (λ count. floor_div a (2 ^ count)) b
binary_fits And a b = signed _
binary_fits Or a b = signed _
binary_fits Xor a b = signed _
binary_fits Eq a b = truth_fits _
binary_fits Ne a b = truth_fits _
binary_fits Lt a b = truth_fits _
binary_fits Le a b = truth_fits _
binary_fits Gt a b = truth_fits _
binary_fits Ge a b = truth_fits _

inverted : (a : ℤ) → FitsSigned w64 a → FitsSigned w64 (neg_ℤ a -ℤ pos 1)
inverted (pos zero) h = record { sfits = omega arith }
inverted (pos (suc n)) h = record { sfits = omega (arith, h.sfits) }
inverted (negsuc n) h =
    let one_less : pos (suc n) -ℤ pos 1 ≡ pos n =
    ap (λ m. pos m -ℤ pos 1) (let e : suc n ≡ n + 1 = omega arith in e) ∙ +ℤ-neg_ℤ_cancel (pos n) (pos 1) in
    rw one_less (record { sfits = omega (arith, h.sfits) })

pub unary_fits : (op : Unary) (a : ℤ) → FitsSigned w64 a → OkFits (unary_of op a)
unary_fits Minus a h = within (neg_ℤ a)
unary_fits Not a h = truth_fits _
unary_fits Invert a h = inverted a h
