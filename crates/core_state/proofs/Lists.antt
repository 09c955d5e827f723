-- Lists whose last item is taken first.
use Rattle.std.proofs.Common.{◌≡◌, ℕ, zero, suc, ◌+◌, ◌-◌, ◌≤◌, ◌&&◌, Bool, true, false, List, [], ◌∷◌, ◌++◌, length, take, drop, reverse, map, slice_set, refl, sym, ap, ◌∙◌, arith, length-drop}
use Rattle.std.specs.List.{list_all}
use Rattle.std.proofs.lemmas.List.{reverse-append, length-reverse, length-map, map-append, drop-map, take-map}
use Rattle.node_state.proofs.Segments.{cut_left, cut_taken, map_reverse}
use Rattle.std.proofs.lemmas.List.{reverse-reverse, take-append-drop}
use Rattle.std.proofs.lemmas.List.Folds.{list_all-append}

pub added : {A : Type 0} → (xs : List A) (x : A) → reverse (xs ++ x ∷ []) ≡ x ∷ reverse xs
added xs x = reverse-append xs (x ∷ [])

module _ {A B : Type 0} (f : A → B) where
  pub added_by : (xs : List A) (x : A) → reverse (map f (xs ++ x ∷ [])) ≡ f x ∷ reverse (map f xs)
  added_by xs x = ap reverse (map-append f xs (x ∷ [])) ∙ added (map f xs) (f x)

  pub length_by : (xs : List A) → length (reverse (map f xs)) ≡ length xs
  length_by xs = length-reverse (map f xs) ∙ length-map xs f

  -- the last ones, and those before them
  pub last_by : (xs : List A) (count : ℕ) → count ≤ length xs
      → map f (drop (length xs - count) xs) ≡ reverse (take count (reverse (map f xs)))
  last_by xs count h =
      let ys = map f xs in
      let same : length ys ≡ length xs = length-map xs f in
      sym (drop-map f (length xs - count) xs)
      ∙ sym (reverse-reverse (drop (length xs - count) ys))
      ∙ ap (λ n. reverse (reverse (drop (n - count) ys))) (sym same)
      ∙ ap reverse (sym (cut_taken ys 0 count (omega (arith, same, h))))

  pub rest_by : (xs : List A) (count : ℕ) → count ≤ length xs
      → reverse (map f (take (length xs - count) xs)) ≡ drop count (reverse (map f xs))
  rest_by xs count h =
      let ys = map f xs in
      let same : length ys ≡ length xs = length-map xs f in
      ap reverse (sym (take-map f (length xs - count) xs))
      ∙ ap (λ n. reverse (take (n - count) ys)) (sym same)
      ∙ cut_left ys 0 count (omega (arith, same, h))

-- what holds of all holds of some
first_true : (a b : Bool) → (a && b) ≡ true → a ≡ true
first_true true b h = refl
first_true false b h = h

second_true : (a b : Bool) → (a && b) ≡ true → b ≡ true
second_true true b h = h
second_true false b h = absurd cc

module _ {A : Type 0} (p : A → Bool) where
  parts : (n : ℕ) (xs : List A) → list_all p xs ≡ true → (list_all p (take n xs) && list_all p (drop n xs)) ≡ true
  parts n xs h = sym (list_all-append p (take n xs) (drop n xs)) ∙ ap (list_all p) (take-append-drop n xs) ∙ h

  pub all_taken : (n : ℕ) (xs : List A) → list_all p xs ≡ true → list_all p (take n xs) ≡ true
  all_taken n xs h = first_true (list_all p (take n xs)) (list_all p (drop n xs)) (parts n xs h)

  pub all_dropped : (n : ℕ) (xs : List A) → list_all p xs ≡ true → list_all p (drop n xs) ≡ true
  all_dropped n xs h = second_true (list_all p (take n xs)) (list_all p (drop n xs)) (parts n xs h)

pub set_past : {A : Type 0} → (xs : List A) (i : ℕ) (x : A) → length xs ≤ i → slice_set xs i x ≡ xs
set_past [] zero x h = refl
set_past [] (suc i) x h = refl
set_past (y ∷ xs) zero x h = absurd (omega (arith, h))
set_past (y ∷ xs) (suc i) x h = ap (λ l. y ∷ l) (set_past xs i x (omega (arith, h)))
