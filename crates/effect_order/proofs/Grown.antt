-- Growing a list by what may be taken after it is the order of a relation, where what may be taken is told by the items left.
use Rattle.std.proofs.Common.{◌≡◌, ℕ, zero, suc, List, [], ◌∷◌, ◌++◌, cond, not, Option, Some, None, refl, sym, ap, ◌∙◌, subst, Bool, true, false}
use Rattle.effect_order.specs.Lists.{Each, is_held}
use Rattle.effect_order.specs.Greedy.{behind, then_rest, pick_by, grow}
use Rattle.effect_order.proofs.Taken.{pick, greedy, picked}

flip : {A : Type 0} (b c : Bool) (x y : A) → b ≡ not c → cond b x y ≡ cond c y x
flip true true x y e = absurd (cc)
flip true false x y e = refl
flip false true x y e = refl
flip false false x y e = absurd (cc)

pub same_pick : {X : Type 0} (test : X → Bool) (before : X → X → Bool) (left xs : List X) → Each (λ x. test x ≡ not (is_held before x left)) xs → pick_by test xs ≡ pick before left xs
same_pick test before left [] e = refl
same_pick test before left (x ∷ xs) e =
    flip (test x) (is_held before x left) _ _ e.0 ∙ ap (λ u. cond (is_held before x left) (behind x u) (Some (x, xs))) (same_pick test before left xs e.1)

module _ {X : Type 0} (allows : List X → List X → X → Bool) (before : X → X → Bool) (Kept : List X → List X → Type 0)
    (tells : (past left : List X) → Kept past left → Each (λ x. allows past left x ≡ not (is_held before x left)) left)
    (keeps : (past us vs : List X) (x : X) → Kept past (us ++ x ∷ vs) → is_held before x (us ++ x ∷ vs) ≡ false → Kept (x ∷ past) (us ++ vs)) where
  grow_by : (n : ℕ) (past left : List X) → ((past left : List X) → Kept past left → grow allows n past left ≡ greedy before n left) → Kept past left → (o : Option (X × List X)) → pick before left left ≡ o → then_rest (λ x rest. grow allows n (x ∷ past) rest) o ≡ then_rest (λ x rest. greedy before n rest) o
  grow_by n past left further h None e = refl
  grow_by n past left further h (Some p) e =
      let k = picked before left left p e in
      let now = subst (λ u. Kept past u) k.all h in
      let alone = subst (λ u. is_held before p.0 u ≡ false) k.all k.free in
      let next = subst (λ u. Kept (p.0 ∷ past) u) (sym k.others) (keeps past k.front k.rest p.0 now alone) in
      ap (λ u. p.0 ∷ u) (further (p.0 ∷ past) p.1 next)

  pub grow_greedy : (n : ℕ) (past left : List X) → Kept past left → grow allows n past left ≡ greedy before n left
  grow_greedy zero past left h = refl
  grow_greedy (suc n) past left h =
      ap (λ (o : Option (X × List X)). then_rest (λ x rest. grow allows n (x ∷ past) rest) o) (same_pick (allows past left) before left left (tells past left h)) ∙ grow_by n past left (λ past left. grow_greedy n past left) h (pick before left left) refl
