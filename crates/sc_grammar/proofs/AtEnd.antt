-- Items are read to the end of the tokens.
use Rattle.std.proofs.Common.{◌≡◌, refl, sym, ap, ◌∙◌, ℕ, zero, suc, ◌+◌, ◌≤◌, arith, Bool, true, false, List, ◌∷◌, Option, Some, None, length, ◌⊎◌, inl, inr, ⊎_elim}
use Rattle.std.specs.Prelude.{slice_get, ◌-◌}
use Rattle.std.proofs.lemmas.Option.{slice_get_past}
use Rattle.sc_tree.specs.declared.token.Token.{Token}
use Rattle.sc_grammar.specs.Items.{Item}
use Rattle.sc_grammar.proofs.Reading.{Out, got, refused, Parser, and_then, bind, pure, next_is, sees, chosen, and_more, many_by, many}
use Rattle.sc_grammar.proofs.ReadingItems.{items, item, one_more_item, is_some_kind}
use Rattle.sc_grammar.proofs.Local.{Advances}

-- where many end, there is no further one, or no token
module _ {A : Type 0} (p : Parser (Option A)) (h : Advances p) (ts : List Token) where
  -- after a first one was looked for
  ends_after : (k n : ℕ) (o : Out (Option A)) (xs : List A) (m : ℕ) → p ts n ≡ o → ((x : A) (j : ℕ) → o ≡ got (Some x) j → (ys : List A) (i : ℕ) → many_by p k ts j ≡ got ys i → ((i2 : ℕ) × (p ts i2 ≡ got None i)) ⊎ (length ts ≤ i)) →
      and_then o (λ x j. and_more (many_by p k) x ts j) ≡ got xs m → ((i : ℕ) × (p ts i ≡ got None m)) ⊎ (length ts ≤ m)
  unfolding bind pure
  ends_after k n (got None j) xs m e g f = let z : j ≡ m = cc in inl (n, e ∙ ap (λ i. got None i) z)
  ends_after k n (got (Some x) j) xs m e g f = last (many_by p k ts j) refl f
    where
      last : (o : Out (List A)) → many_by p k ts j ≡ o → and_then o (λ ys i. got (x ∷ ys) i) ≡ got xs m → ((i : ℕ) × (p ts i ≡ got None m)) ⊎ (length ts ≤ m)
      last (got ys i) q r = let z : i ≡ m = cc in g x j refl ys m (q ∙ ap (λ w. got ys w) z)
      last (refused w) q r = cc
  ends_after k n (refused r) xs m e g f = cc

  many_by_ends : (k n : ℕ) (xs : List A) (m : ℕ) → length ts ≤ n + k → many_by p k ts n ≡ got xs m → ((i : ℕ) × (p ts i ≡ got None m)) ⊎ (length ts ≤ m)
  unfolding many_by bind pure
  many_by_ends zero n xs m le e = let z : n ≡ m = cc in inr (omega arith)
  many_by_ends (suc k) n xs m le e =
      ends_after k n (p ts n) xs m refl (λ x j i ys w f. let lt = h.moves ts n x j i in many_by_ends k j ys w (omega arith) f) e

  pub many_ends : (n : ℕ) (xs : List A) (m : ℕ) → many p ts n ≡ got xs m → ((i : ℕ) × (p ts i ≡ got None m)) ⊎ (length ts ≤ m)
  unfolding many
  many_ends n xs m e = many_by_ends (length ts - n) n xs m (omega arith) e

sees_none : (levels : ℕ) (o : Option Token) → sees (is_some_kind levels) o ≡ false → o ≡ None
sees_none levels None h = refl
sees_none levels (Some t) h = cc

no_item : (o : Out Item) (i m : ℕ) → and_then o (λ x j. got (Some x) j) ≡ got None m → ⊥
no_item (got x j) i m h = cc
no_item (refused r) i m h = cc

module _ (levels : ℕ) (ts : List Token) where
  none_chosen : (i m : ℕ) (b : Bool) → sees (is_some_kind levels) (slice_get ts i) ≡ b → chosen (bind (item levels) (λ x. pure (Some x))) (pure None) b ts i ≡ got None m → slice_get ts m ≡ None
  unfolding bind pure
  none_chosen i m true e h = absurd (no_item (item levels ts i) i m h)
  none_chosen i m false e h = let z : i ≡ m = cc in ap (slice_get ts) (sym z) ∙ sees_none levels (slice_get ts i) e

  none_left : (i m : ℕ) → one_more_item levels ts i ≡ got None m → slice_get ts m ≡ None
  unfolding one_more_item bind next_is
  none_left i m h = none_chosen i m (sees (is_some_kind levels) (slice_get ts i)) refl h

  more_ended : (adv : Advances (one_more_item levels)) (x : Item) (n : ℕ) (o : Out (List Item)) → many (one_more_item levels) ts n ≡ o → (ys : List Item) (m : ℕ) → and_then o (λ xs j. got (x ∷ xs) j) ≡ got ys m → slice_get ts m ≡ None
  more_ended adv x n (got xs j) e ys m h =
      let z : j ≡ m = cc in
      ⊎_elim (λ w. none_left w.0 m w.1) (λ le. slice_get_past ts m le) (many_ends (one_more_item levels) adv ts n xs m (e ∙ ap (λ i. got xs i) z))
  more_ended adv x n (refused r) e ys m h = cc

  item_then : (adv : Advances (one_more_item levels)) (o : Out Item) (ys : List Item) (m : ℕ) → and_then o (λ x n. and_then (many (one_more_item levels) ts n) (λ xs j. got (x ∷ xs) j)) ≡ got ys m → slice_get ts m ≡ None
  item_then adv (got x n) ys m h = more_ended adv x n (many (one_more_item levels) ts n) refl ys m h
  item_then adv (refused r) ys m h = cc

  -- where items are read, no token is left
  pub items-end : Advances (one_more_item levels) → (n : ℕ) (xs : List Item) (m : ℕ) → items levels ts n ≡ got xs m → slice_get ts m ≡ None
  unfolding items bind pure
  items-end adv n xs m h = item_then adv (item levels ts n) xs m h
