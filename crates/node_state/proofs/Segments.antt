-- Lists that are cut at the base of a frame, and turned so that the top comes first.
use Rattle.std.proofs.Common.{◌≡◌, ℕ, ◌+◌, ◌-◌, ◌≤◌, List, [], ◌∷◌, ◌++◌, length, take, drop, reverse, map, refl, sym, ap, ◌∙◌, arith, length-drop}
use Rattle.std.proofs.lemmas.List.{reverse-append, reverse-reverse, length-reverse, take-append-drop, drop-take, take_at, drop_at, map-append, drop-drop, take_rest}

module _ {A : Type 0} where
  turned : (k : ℕ) (ys : List A) → reverse ys ≡ reverse (drop k ys) ++ reverse (take k ys)
  turned k ys = ap reverse (sym (take-append-drop k ys)) ∙ reverse-append (take k ys) (drop k ys)

  top_length : (k count : ℕ) (ys : List A) → k + count ≡ length ys → length (reverse (drop k ys)) ≡ count
  top_length k count ys e = length-reverse (drop k ys) ∙ omega (arith, length-drop k ys)

  -- what is left, and what is taken, where so many are taken from the top
  left_of : (k count : ℕ) (ys : List A) → k + count ≡ length ys → reverse (take k ys) ≡ drop count (reverse ys)
  left_of k count ys e =
      sym (ap (drop count) (turned k ys) ∙ drop_at (reverse (drop k ys)) (reverse (take k ys)) count (top_length k count ys e))

  taken_of : (k count : ℕ) (ys : List A) → k + count ≡ length ys → take count (reverse ys) ≡ reverse (drop k ys)
  taken_of k count ys e =
      ap (take count) (turned k ys) ∙ take_at (reverse (drop k ys)) (reverse (take k ys)) count (top_length k count ys e)

  pub cut_left : (xs : List A) (base count : ℕ) → base + count ≤ length xs
      → reverse (drop base (take (length xs - count) xs)) ≡ drop count (reverse (drop base xs))
  cut_left xs base count h =
      let k = length xs - count - base in
      let place : length xs - count ≡ base + k = omega arith in
      rw (place, drop-take base k xs) (left_of k count (drop base xs) (omega (arith, length-drop base xs)))

  pub cut_taken : (xs : List A) (base count : ℕ) → base + count ≤ length xs
      → take count (reverse (drop base xs)) ≡ reverse (drop (length xs - count) xs)
  cut_taken xs base count h =
      let k = length xs - count - base in
      let place : length xs - count ≡ base + k = omega arith in
      rw (place, ← drop-drop k base xs) (taken_of k count (drop base xs) (omega (arith, length-drop base xs)))

  -- the topmost of a list, by the list as a slice
  pub cut_slice : (xs slice : List A) (base count len : ℕ) → base + count ≤ length xs → slice ≡ xs → len ≡ length xs
      → take (length slice - (len - count)) (drop (len - count) slice) ≡ reverse (take count (reverse (drop base xs)))
  cut_slice xs slice base count len h e f =
      rw (e, f) (take_rest xs (length xs - count) ∙ sym (ap reverse (cut_taken xs base count h)
      ∙ reverse-reverse (drop (length xs - count) xs)))

  -- a list that is written over another
  pub written : (xs ys : List A) (len : ℕ) → len ≡ length xs → length ys ≡ length xs → take len (ys ++ drop (length ys) xs) ≡ ys
  written xs ys len e f = take_at ys (drop (length ys) xs) len (f ∙ sym e)

pub map_reverse : {A B : Type 0} → (f : A → B) (xs : List A) → map f (reverse xs) ≡ reverse (map f xs)
map_reverse f [] = refl
map_reverse f (x ∷ xs) =
    ap (map f) (reverse-append (x ∷ []) xs) ∙ map-append f (reverse xs) (x ∷ [])
    ∙ ap (λ ys. ys ++ f x ∷ []) (map_reverse f xs) ∙ sym (reverse-append (f x ∷ []) (map f xs))
