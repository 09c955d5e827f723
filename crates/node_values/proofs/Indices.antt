-- Flat indices, one index after another.
use Rattle.std.proofs.Common.{◌≡◌, ℕ, ◌+◌, ◌*◌, ◌<◌, ℤ, pos, negsuc, nat_lt, if◌then◌else◌, Bool, true, false, Option, Some, None, List, [], ◌∷◌, length, drop, map, get_or, slice_get, refl, sym, ap, ◌∙◌, inl, inr, arith}
use Rattle.std.specs.Option.{option_map_or, option_and_then}
use Rattle.std.proofs.lemmas.Option.{slice_get_cases}
use Rattle.std.proofs.lemmas.List.{drop_all}
use Rattle.sc_layout.specs.Layout.{Arrangement, LaidObject}
use Rattle.sc_layout.specs.Place.{bound_at}
use Rattle.sc_isa.specs.declared.operand.Operand.{Operand}
use Rattle.sc_isa.specs.Elements.{Flat, within, outside, amiss}
use Rattle.node_values.specs.Elements.{bounds_of, short, next_flat, last_flat, short_flat}
use Rattle.node_values.specs.Operands.{int_in}
use Rattle.node_values.proofs.Formats.{drop_next}

bound_by : (k : ℕ) (o : Option LaidObject) → option_and_then (λ o. slice_get o.bounds k) o
    ≡ slice_get (option_map_or (λ o. o.bounds) o []) k
bound_by k None = refl
bound_by k (Some o) = refl

bound_is : (layout : Arrangement) (object k : ℕ) → bound_at layout object k ≡ slice_get (bounds_of layout object) k
bound_is layout object k = bound_by k (slice_get layout.objects object)

drop_some : (xs : List ℕ) (k x : ℕ) → slice_get xs k ≡ Some x → drop k xs ≡ x ∷ drop (k + 1) xs
drop_some xs k x e = elim ((slice_get_cases xs k).1) [
  | inl t ↦
      let same : t.0 ≡ x = cc (t.2, e) in
      drop_next xs k t.0 t.1 ∙ ap (λ (y : ℕ). y ∷ drop (k + 1) xs) (t.3 ∙ same)
  | inr t ↦ absurd (cc (t.1, e))
]

drop_none : (xs : List ℕ) (k : ℕ) → slice_get xs k ≡ None → drop k xs ≡ []
drop_none xs k e = elim ((slice_get_cases xs k).1) [
  | inl t ↦ absurd (cc (t.2, e))
  | inr t ↦ drop_all k xs t.0
]

-- ---- one index

at_pos : (bound : ℕ) (bounds : List ℕ) (i : ℕ) (is : List ℤ) (flat : ℕ)
    → short_flat (bound ∷ bounds) (pos i ∷ is) flat
    ≡ (if nat_lt i bound then short_flat bounds is (short (short (flat * bound) + i)) else outside)
at_pos bound [] i is flat = refl
at_pos bound (b ∷ bs) i is flat = refl

at_neg : (bound : ℕ) (bounds : List ℕ) (i : ℕ) (is : List ℤ) (flat : ℕ)
    → short_flat (bound ∷ bounds) (negsuc i ∷ is) flat ≡ outside
at_neg bound [] i is flat = refl
at_neg bound (b ∷ bs) i is flat = refl

within_if : (b : Bool) (f : ℕ → Flat) (n next : ℕ) → within next ≡ (if b then within n else outside)
    → (if b then f n else outside) ≡ f next
within_if true f n next h = let same : n ≡ next = cc in ap f same
within_if false f n next h = absurd (cc)

outside_if : (b : Bool) (x : Flat) (n : ℕ) → outside ≡ (if b then within n else outside) → (if b then x else outside) ≡ outside
outside_if true x n h = absurd (cc)
outside_if false x n h = refl

never_amiss : (b : Bool) (n : ℕ) → amiss ≡ (if b then within n else outside) → ⊥
never_amiss true n h = absurd (cc)
never_amiss false n h = absurd (cc)

module _ (bounds : List ℕ) (k : ℕ) (is : List ℤ) (flat : ℕ) where
  step_within : (o : Option ℕ) (i : ℤ) (next : ℕ) → slice_get bounds k ≡ o → within next ≡ next_flat o i flat
      → short_flat (drop k bounds) (i ∷ is) flat ≡ short_flat (drop (k + 1) bounds) is next
  step_within None i next e h = absurd (cc)
  step_within (Some bound) (negsuc i) next e h = absurd (cc)
  step_within (Some bound) (pos i) next e h =
      ap (λ (bs : List ℕ). short_flat bs (pos i ∷ is) flat) (drop_some bounds k bound e)
      ∙ at_pos bound (drop (k + 1) bounds) i is flat
      ∙ within_if (nat_lt i bound) (short_flat (drop (k + 1) bounds) is) (short (short (flat * bound) + i)) next h

  step_outside : (o : Option ℕ) (i : ℤ) → slice_get bounds k ≡ o → outside ≡ next_flat o i flat
      → short_flat (drop k bounds) (i ∷ is) flat ≡ outside
  step_outside None i e h = absurd (cc)
  step_outside (Some bound) (negsuc i) e h =
      ap (λ (bs : List ℕ). short_flat bs (negsuc i ∷ is) flat) (drop_some bounds k bound e)
      ∙ at_neg bound (drop (k + 1) bounds) i is flat
  step_outside (Some bound) (pos i) e h =
      ap (λ (bs : List ℕ). short_flat bs (pos i ∷ is) flat) (drop_some bounds k bound e)
      ∙ at_pos bound (drop (k + 1) bounds) i is flat
      ∙ outside_if (nat_lt i bound) (short_flat (drop (k + 1) bounds) is (short (short (flat * bound) + i)))
      (short (short (flat * bound) + i)) h

  step_amiss : (o : Option ℕ) (i : ℤ) → slice_get bounds k ≡ o → amiss ≡ next_flat o i flat
      → short_flat (drop k bounds) (i ∷ is) flat ≡ amiss
  step_amiss None i e h = ap (λ (bs : List ℕ). short_flat bs (i ∷ is) flat) (drop_none bounds k e)
  step_amiss (Some bound) (negsuc i) e h = absurd (cc)
  step_amiss (Some bound) (pos i) e h = absurd (never_amiss (nat_lt i bound) (short (short (flat * bound) + i)) h)

  -- no index is left
  end_by : (o p : Option ℕ) → slice_get bounds k ≡ o → slice_get bounds (k + 1) ≡ p
      → short_flat (drop k bounds) [] flat ≡ last_flat o p flat
  end_by None p e f = ap (λ (bs : List ℕ). short_flat bs [] flat) (drop_none bounds k e)
  end_by (Some bound) None e f =
      ap (λ (bs : List ℕ). short_flat bs [] flat) (drop_some bounds k bound e
      ∙ ap (λ (bs : List ℕ). bound ∷ bs) (drop_none bounds (k + 1) f))
  end_by (Some bound) (Some more) e f =
      ap (λ (bs : List ℕ). short_flat bs [] flat) (drop_some bounds k bound e
      ∙ ap (λ (bs : List ℕ). bound ∷ bs) (drop_some bounds (k + 1) more f))

-- ---- at the operands

module _ (layout : Arrangement) (object k flat : ℕ) (operands : List Operand) where
  abbrev bounds : List ℕ
  bounds = bounds_of layout object

  abbrev now : Flat
  now = short_flat (drop k bounds) (map int_in (drop k operands)) flat

  pub go_end : k ≡ length operands → last_flat (bound_at layout object k) (bound_at layout object (k + 1)) flat ≡ now
  go_end e =
      ap (λ (o : Option ℕ). last_flat o (bound_at layout object (k + 1)) flat) (bound_is layout object k)
      ∙ ap (λ (o : Option ℕ). last_flat (slice_get bounds k) o flat) (bound_is layout object (k + 1))
      ∙ sym (ap (λ (os : List Operand). short_flat (drop k bounds) (map int_in os) flat) (drop_all k operands (omega (arith, e)))
      ∙ end_by bounds k [] flat (slice_get bounds k) (slice_get bounds (k + 1)) refl refl)

  module _ (d o : Operand) (lt : k < length operands) (is : get_or operands k d ≡ o) where
    split : now ≡ short_flat (drop k bounds) (int_in o ∷ map int_in (drop (k + 1) operands)) flat
    split = ap (λ (os : List Operand). short_flat (drop k bounds) (map int_in os) flat) (drop_next operands k d lt
        ∙ ap (λ (p : Operand). p ∷ drop (k + 1) operands) is)

    pub go_within : (next : ℕ) → within next ≡ next_flat (bound_at layout object k) (int_in o) flat
        → now ≡ short_flat (drop (k + 1) bounds) (map int_in (drop (k + 1) operands)) next
    go_within next h =
        split ∙ step_within bounds k (map int_in (drop (k + 1) operands)) flat (bound_at layout object k) (int_in o) next
        (sym (bound_is layout object k)) h

    pub go_outside : outside ≡ next_flat (bound_at layout object k) (int_in o) flat → now ≡ outside
    go_outside h =
        split ∙ step_outside bounds k (map int_in (drop (k + 1) operands)) flat (bound_at layout object k) (int_in o)
        (sym (bound_is layout object k)) h

    pub go_amiss : amiss ≡ next_flat (bound_at layout object k) (int_in o) flat → now ≡ amiss
    go_amiss h =
        split ∙ step_amiss bounds k (map int_in (drop (k + 1) operands)) flat (bound_at layout object k) (int_in o)
        (sym (bound_is layout object k)) h
