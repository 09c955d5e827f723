-- An order that keeps that of conflicting items shows the same values and leaves the same memory.
use Rattle.std.proofs.Common.{◌≡◌, List, [], ◌∷◌, ◌++◌, Bool, true, false, refl, sym, ap, ◌∙◌, subst}
use Rattle.std.proofs.lemmas.Bool.{both_ways, false_from_ne_true}
use Rattle.sc_base.specs.declared.value.Place.{Place}
use Rattle.sc_base.specs.declared.value.Value.{Value}
use Rattle.effect_order.specs.Effect.{Effect}
use Rattle.effect_order.specs.Items.{after, memory_after, Shows, items_conflict}
use Rattle.effect_order.specs.Lists.{Each, Pairs, is_held}
use Rattle.effect_order.specs.Greedy.{Reorder}
use Rattle.effect_order.proofs.Members.{each-left, pairs_left, pairs_without, free}
use Rattle.effect_order.proofs.Exchange.{some-back, shown_after, shown_before, exchanged}

-- of two conflicting items the earlier one comes before the later
abbrev pub Keeps : {X : Type 0} → (X → List Effect) → (X → X → Bool) → X → X → Type 0
Keeps does before a x = items_conflict does a x ≡ true → before a x ≡ true

module _ {X : Type 0} (does : X → List Effect) where
  -- two items that do not conflict leave the same memory in either order
  swap : (m : Place → Value) (a x : X) → items_conflict does a x ≡ false → after does (after does m a) x ≡ after does (after does m x) a
  swap m a x c = exchanged m (does a) (does x) c

  -- an item that conflicts with none of those before it may come first
  pub moved : (m : Place → Value) (us : List X) (x : X) (vs : List X) → Each (λ a. items_conflict does a x ≡ false) us → Shows does m (us ++ x ∷ vs) → Shows does m (x ∷ us ++ vs)
  moved m [] x vs c h = h
  moved m (a ∷ us) x vs c h =
      let k = moved (after does m a) us x vs c.1 h.1 in (
        shown_before m (does a) (does x) c.0 k.0,
        (
          shown_after m (does x) (does a) (some-back (does a) (does x) c.0) h.0,
          subst (λ u. Shows does u (us ++ vs)) (swap m a x c.0) k.1,
        ),
      )

  moved_memory : (m : Place → Value) (us : List X) (x : X) (vs : List X) → Each (λ a. items_conflict does a x ≡ false) us → memory_after does m (us ++ x ∷ vs) ≡ memory_after does m (x ∷ us ++ vs)
  moved_memory m [] x vs c = refl
  moved_memory m (a ∷ us) x vs c = moved_memory (after does m a) us x vs c.1 ∙ ap (λ u. memory_after does u (us ++ vs)) (swap m a x c.0)

  -- none of those before x that it does not have to follow conflicts with it
  pub apart : (before : X → X → Bool) (x : X) (us : List X) → Each (λ a. Keeps does before a x) us → Each (λ a. before a x ≡ false) us → Each (λ a. items_conflict does a x ≡ false) us
  apart before x [] k h = tt
  apart before x (a ∷ us) k h = (false_from_ne_true _ (λ e. both_ways _ h.0 (k.0 e)), apart before x us k.1 h.1)

  pub reorder_shows : (before : X → X → Bool) (out left : List X) (m : Place → Value) → Pairs (Keeps does before) left → Reorder before left out → Shows does m left → Shows does m out × (memory_after does m out ≡ memory_after does m left)
  reorder_shows before [] left m k r h = (tt, ap (memory_after does m) (sym r))
  reorder_shows before (x ∷ out) left m k r h =
      let us = r.0 in
      let vs = r.1 in
      let pairs : Pairs (Keeps does before) (us ++ x ∷ vs) = subst (Pairs (Keeps does before)) r.2 k in
      let fits = each-left (λ a. before a x ≡ false) us (x ∷ vs) (free before x (us ++ x ∷ vs) (subst (λ u. is_held before x u ≡ false) r.2 r.3)) in
      let c = apart before x us (pairs_left (Keeps does before) us x vs pairs) fits in
      let now = moved m us x vs c (subst (Shows does m) r.2 h) in
      let rest = reorder_shows before out (us ++ vs) (after does m x) (pairs_without (Keeps does before) us x vs pairs) r.4 now.1 in
      ((now.0, rest.0), rest.1 ∙ sym (moved_memory m us x vs c) ∙ ap (memory_after does m) (sym r.2))
