-- What a format and its values give, piece by piece.
use Rattle.std.proofs.Common.{◌≡◌, ℕ, ◌+◌, ◌-◌, ◌<◌, ◌==◌, ◌&&◌, if◌then◌else◌, nat_lt, Bool, true, false, List, [], ◌∷◌, ◌++◌, length, take, drop, map, get_or, ℤ, refl, sym, ap, ◌∙◌, append_assoc, ltb-true, add-one, drop-cons}
use Rattle.std.proofs.lemmas.Bool.{ltb-false}
use Rattle.std.proofs.lemmas.List.{take_rest, drop-drop, drop_all}
use Rattle.std.specs.Fmt.{signed_decimal}
use Rattle.sc_isa.specs.declared.operand.Operand.{Operand}
use Rattle.sc_isa.specs.declared.operand.Operand.TheVariants.{Landing}
use Rattle.sc_isa.specs.Printing.{formatted}
use Rattle.node_values.specs.declared.printing.Piece.{Piece}
use Rattle.node_values.specs.declared.printing.Piece.TheVariants.{Percent, Number, Byte}
use Rattle.node_values.specs.Operands.{int_in}
use Rattle.node_values.specs.Printing.{piece_of, left_to_print}

abbrev choice : (c e : Bool) → Piece
choice c e = if c then Percent else if e then Number else Byte

percent_if : (c e : Bool) (x y : List ℕ) → Percent ≡ choice c e → (if c then x else y) ≡ x
percent_if true e x y h = refl
percent_if false true x y h = absurd (cc)
percent_if false false x y h = absurd (cc)

number_if : (c e : Bool) (x y z : List ℕ) → Number ≡ choice c e → (if c then x else if e then y else z) ≡ y
number_if true e x y z h = absurd (cc)
number_if false true x y z h = refl
number_if false false x y z h = absurd (cc)

byte_if : (c e : Bool) (x y z : List ℕ) → Byte ≡ choice c e → (if c then x else if e then y else z) ≡ z
byte_if true e x y z h = absurd (cc)
byte_if false true x y z h = absurd (cc)
byte_if false false x y z h = refl

byte_or : (c : Bool) (x z : List ℕ) → Byte ≡ choice c false → (if c then x else z) ≡ z
byte_or true x z h = absurd (cc)
byte_or false x z h = refl

never_number : (c : Bool) → Number ≡ choice c false → ⊥
never_number true h = absurd (cc)
never_number false h = absurd (cc)

percent_next : (fs : List ℕ) (vs : List ℤ) (more : Bool) → Percent ≡ piece_of fs more
    → formatted fs vs ≡ 37 ∷ formatted (drop 2 fs) vs
percent_next [] vs more h = absurd (cc)
percent_next (b ∷ []) vs more h = absurd (cc)
percent_next (b ∷ n ∷ rest) [] more h = percent_if ((b == 37) && (n == 37)) (more && ((b == 37) && (n == 100))) _ _ h
percent_next (b ∷ n ∷ rest) (v ∷ vs) more h = percent_if ((b == 37) && (n == 37)) (more && ((b == 37) && (n == 100))) _ _ h

number_next : (fs : List ℕ) (v : ℤ) (vs : List ℤ) → Number ≡ piece_of fs true
    → formatted fs (v ∷ vs) ≡ signed_decimal v ++ formatted (drop 2 fs) vs
number_next [] v vs h = absurd (cc)
number_next (b ∷ []) v vs h = absurd (cc)
number_next (b ∷ n ∷ rest) v vs h = number_if ((b == 37) && (n == 37)) ((b == 37) && (n == 100)) _ _ _ h

no_number : (fs : List ℕ) → Number ≡ piece_of fs false → ⊥
no_number [] h = absurd (cc)
no_number (b ∷ []) h = absurd (cc)
no_number (b ∷ n ∷ rest) h = never_number ((b == 37) && (n == 37)) h

byte_some : (b : ℕ) (rest : List ℕ) (v : ℤ) (vs : List ℤ) → Byte ≡ piece_of (b ∷ rest) true
    → formatted (b ∷ rest) (v ∷ vs) ≡ b ∷ formatted rest (v ∷ vs)
byte_some b [] v vs h = refl
byte_some b (n ∷ rest) v vs h = byte_if ((b == 37) && (n == 37)) ((b == 37) && (n == 100)) _ _ _ h

byte_none : (b : ℕ) (rest : List ℕ) → Byte ≡ piece_of (b ∷ rest) false → formatted (b ∷ rest) [] ≡ b ∷ formatted rest []
byte_none b [] h = refl
byte_none b (n ∷ rest) h = byte_or ((b == 37) && (n == 37)) _ _ h

pub drop_next : {A : Type 0} → (xs : List A) (i : ℕ) (d : A) → i < length xs → drop i xs ≡ get_or xs i d ∷ drop (i + 1) xs
drop_next xs i d h = rw add-one (drop-cons xs i d h)

-- ---- a piece at a place in the format

module _ (text new format : List ℕ) (operands : List Operand) (at used : ℕ) (more : Bool) where
  abbrev rest : List ℕ
  rest = drop at format

  at_place : (p : Piece) → p ≡ piece_of (take (length format - at) rest) more → p ≡ piece_of rest more
  at_place p h = h ∙ ap (λ (fs : List ℕ). piece_of fs more) (take_rest format at)

  pub percent_at : new ≡ text ++ 37 ∷ [] → Percent ≡ piece_of (take (length format - at) rest) more
      → new ++ left_to_print format operands (at + 2) used ≡ text ++ left_to_print format operands at used
  percent_at e h =
      let values : List ℤ = map int_in (drop used operands) in
      rw e (append_assoc text (37 ∷ []) (left_to_print format operands (at + 2) used)
      ∙ ap (λ (xs : List ℕ). text ++ xs) (sym (percent_next rest values more (at_place Percent h)
      ∙ ap (λ (fs : List ℕ). 37 ∷ formatted fs values) (drop-drop 2 at format))))

  module _ (is : more ≡ nat_lt used (length operands)) where
    number_rest : (b : Bool) → b ≡ more → (d : Operand) → Number ≡ piece_of rest b → used < length operands
        → formatted rest (map int_in (drop used operands))
        ≡ signed_decimal (int_in (get_or operands used d)) ++ left_to_print format operands (at + 2) (used + 1)
    number_rest false e d h lt = absurd (no_number rest h)
    number_rest true e d h lt =
        ap (λ (os : List Operand). formatted rest (map int_in os)) (drop_next operands used d lt)
        ∙ number_next rest (int_in (get_or operands used d)) (map int_in (drop (used + 1) operands)) h
        ∙ ap (λ (fs : List ℕ). signed_decimal (int_in (get_or operands used d)) ++ formatted fs (map int_in (drop (used + 1) operands)))
        (drop-drop 2 at format)

    some_used : (b : Bool) → b ≡ more → Number ≡ piece_of rest b → used < length operands
    some_used false e h = absurd (no_number rest h)
    some_used true e h = ltb-true used (length operands) (sym (e ∙ is))

    pub number_at : (d : Operand) → new ≡ text ++ signed_decimal (int_in (get_or operands used d))
        → Number ≡ piece_of (take (length format - at) rest) more
        → new ++ left_to_print format operands (at + 2) (used + 1) ≡ text ++ left_to_print format operands at used
    number_at d e h =
        rw e (append_assoc text (signed_decimal (int_in (get_or operands used d))) (left_to_print format operands (at + 2) (used + 1))
        ∙ ap (λ (xs : List ℕ). text ++ xs) (sym (number_rest more refl d (at_place Number h)
        (some_used more refl (at_place Number h)))))

    byte_rest : (b : Bool) (byte : ℕ) (bytes : List ℕ) → b ≡ more → Byte ≡ piece_of (byte ∷ bytes) b
        → formatted (byte ∷ bytes) (map int_in (drop used operands)) ≡ byte ∷ formatted bytes (map int_in (drop used operands))
    byte_rest true byte bytes e h =
        let none : Operand = Landing 0 0 in
        let split = drop_next operands used none (ltb-true used (length operands) (sym (e ∙ is))) in
        rw split (byte_some byte bytes (int_in (get_or operands used none)) (map int_in (drop (used + 1) operands)) h)
    byte_rest false byte bytes e h =
        let all = drop_all used operands (ltb-false used (length operands) (sym (e ∙ is))) in
        rw all (byte_none byte bytes h)

    pub byte_at : at < length format → new ≡ text ++ get_or format at 0 ∷ []
        → Byte ≡ piece_of (take (length format - at) rest) more
        → new ++ left_to_print format operands (at + 1) used ≡ text ++ left_to_print format operands at used
    byte_at lt e h =
        let byte = get_or format at 0 in
        let split = drop_next format at 0 lt in
        let here : Byte ≡ piece_of (byte ∷ drop (at + 1) format) more =
        at_place Byte h ∙ ap (λ (fs : List ℕ). piece_of fs more) split in
        rw e (append_assoc text (byte ∷ []) (left_to_print format operands (at + 1) used)
        ∙ ap (λ (xs : List ℕ). text ++ xs) (sym (ap (λ (fs : List ℕ). formatted fs (map int_in (drop used operands))) split
        ∙ byte_rest more byte (drop (at + 1) format) refl here)))
