-- The one node on which an index form can allow an index.
use Rattle.std.proofs.Common.{◌≡◌, ℕ, zero, suc, Option, Some, None, IfSome, subst, ◌-◌, ◌*◌, ◌/◌, ◌%◌, ◌<◌, ℤ, pos, negsuc, ◌+ℤ◌, ◌*ℤ◌, refl, sym, ap, ◌∙◌, arith}
use Rattle.std.specs.Int.{int_rem_euclid}
use Rattle.std.specs.Int.RustNames.{unsigned_abs}
use Rattle.std.specs.Prelude.{◌≢◌, neg_ℤ}
use Rattle.std.proofs.Math.IntN.{◌-ℤ◌}
use Rattle.std.proofs.Math.Nat.{mul-div_cancel_left, mod-eq_of_lt}
use Rattle.std.proofs.lemmas.Int.{ints, unsigned_abs-mul}
use Rattle.site_graph.specs.declared.site.IndexForm.{IndexForm}
use Rattle.site_graph.specs.declared.site.IndexForm.TheVariants.{Linear, Mine}
use Rattle.alias_conflicts.specs.declared.region.Indices.{Indices}
use Rattle.alias_conflicts.specs.declared.region.Indices.TheVariants.{One, Remainder}
use Rattle.alias_conflicts.specs.May.{SameRemainder, linear, AllowsIndex}
use Rattle.alias_conflicts.specs.Regions.{HasIndex}
use Rattle.alias_conflicts.specs.Across.{IsOnlyIndexNode}
use Rattle.alias_conflicts.proofs.Remainders.{same_remainder, wrapped}

some_steps : (k : ℤ) → k ≢ pos 0 → 0 < unsigned_abs k
some_steps (pos zero) h = absurd (h refl)
some_steps (pos (suc n)) h = omega arith
some_steps (negsuc n) h = omega arith

gap_is : (a b c : ℤ) → a ≡ b +ℤ c → a -ℤ c ≡ b
gap_is a b c e = omega (arith, ints)

pub steps_are : (k c : ℤ) (q index : ℕ) → k ≢ pos 0 → pos index ≡ linear k c q → q ≡ unsigned_abs (pos index -ℤ c) / unsigned_abs k
steps_are k c q index some e =
    let size : unsigned_abs (pos index -ℤ c) ≡ unsigned_abs k * q = ap unsigned_abs (gap_is (pos index) (k *ℤ pos q) c e) ∙ unsigned_abs-mul k (pos q) in
    sym (ap (λ n. n / unsigned_abs k) size ∙ mul-div_cancel_left q (some_steps k some))

-- ---- the node whose own indices leave the remainder

turned : (n : ℕ) (t : ℤ) → (s : ℤ) × (pos n *ℤ t ≡ neg_ℤ (pos n *ℤ s))
turned n (pos zero) = (pos zero, let e : n * 0 ≡ 0 = omega arith in rw e refl)
turned n (pos (suc k)) = (negsuc k, back (n * suc k))
  where
    back : (m : ℕ) → pos m ≡ neg_ℤ (neg_ℤ (pos m))
    back m = omega (arith, ints)
turned n (negsuc k) = (pos (suc k), refl)

moved : (i q : ℕ) (c x y : ℤ) → pos i ≡ (pos q +ℤ c) +ℤ x → x ≡ neg_ℤ y → pos q ≡ (pos i -ℤ c) +ℤ y
moved i q c x y e f = omega (arith, ints)

pub node_by_index : (c : ℤ) (n i q r : ℕ) → 0 < n → q < n → pos r ≡ int_rem_euclid (pos i -ℤ c) (pos n) → SameRemainder n (pos i) (pos q +ℤ c) → q ≡ r
node_by_index c n i q r some low e s =
    let t = turned n s.0 in
    (wrapped (pos i -ℤ c) n r some e q).0 (low, (t.0, moved i q c (pos n *ℤ s.0) (pos n *ℤ t.0) s.1 t.1))

some_remainder : (z : ℤ) (n : ℕ) → (r : ℕ) × (pos r ≡ int_rem_euclid z (pos n))
some_remainder (pos a) n = (a % n, refl)
some_remainder (negsuc a) n = (n - 1 - a % n, refl)

pub node_by_remainder : (c : ℤ) (n i m q r : ℕ) → 0 < n → q < n → m < n → i % n ≡ m → pos r ≡ int_rem_euclid (pos m -ℤ c) (pos n) → SameRemainder n (pos i) (pos q +ℤ c) → q ≡ r
node_by_remainder c n i m q r some low below left e s =
    let x = some_remainder (pos q +ℤ c) n in
    let same : i % n ≡ x.0 = (same_remainder (pos q +ℤ c) n i x.0 some x.1).0 s in
    node_by_index c n m q r some low e ((same_remainder (pos q +ℤ c) n m x.0 some x.1).1 (mod-eq_of_lt below ∙ (sym left ∙ same)))

-- ---- by the forms

pub only_on_line : (nodes : ℕ) (indices : Indices) (form : IndexForm) (k c : ℤ) (i : ℕ) (x : Option ℕ) → form ≡ Linear k c → indices ≡ One i
    → IfSome x (λ n. (q : ℕ) → q < nodes → pos i ≡ linear k c q → q ≡ n) → IfSome x (IsOnlyIndexNode nodes indices form)
only_on_line nodes indices form k c i None e f h = tt
only_on_line nodes indices form k c i (Some n) e f h = λ q index low has allows.
    (let is : index ≡ i = subst (λ (j : Indices). HasIndex nodes j index) f has in
    let at : pos index ≡ linear k c q = subst (λ (g : IndexForm). AllowsIndex g nodes q index) e allows in
    h q low (ap pos (sym is) ∙ at))

pub only_mine : (nodes : ℕ) (indices : Indices) (form : IndexForm) (c : ℤ) (i r : ℕ) → 0 < nodes → form ≡ Mine c → indices ≡ One i
    → pos r ≡ int_rem_euclid (pos i -ℤ c) (pos nodes) → IsOnlyIndexNode nodes indices form r
only_mine nodes indices form c i r some e f is = λ q index low has allows.
    (let same : index ≡ i = subst (λ (j : Indices). HasIndex nodes j index) f has in
    let at : SameRemainder nodes (pos index) (pos q +ℤ c) = subst (λ (g : IndexForm). AllowsIndex g nodes q index) e allows in
    node_by_index c nodes i q r some low is (subst (λ j. SameRemainder nodes (pos j) (pos q +ℤ c)) same at))

pub only_mine_left : (nodes : ℕ) (indices : Indices) (form : IndexForm) (c : ℤ) (m r : ℕ) → 0 < nodes → m < nodes → form ≡ Mine c → indices ≡ Remainder m
    → pos r ≡ int_rem_euclid (pos m -ℤ c) (pos nodes) → IsOnlyIndexNode nodes indices form r
only_mine_left nodes indices form c m r some below e f is = λ q index low has allows.
    (let left : index % nodes ≡ m = subst (λ (j : Indices). HasIndex nodes j index) f has in
    let at : SameRemainder nodes (pos index) (pos q +ℤ c) = subst (λ (g : IndexForm). AllowsIndex g nodes q index) e allows in
    node_by_remainder c nodes index m q r some low below left is at)
