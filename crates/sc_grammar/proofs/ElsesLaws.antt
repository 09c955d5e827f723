-- What the turns of the loop read that reads the arms of an `if`.
use Rattle.std.proofs.Common.{◌≡◌, refl, ap, sym, ◌∙◌, ℕ, zero, suc, ◌+◌, ◌-◌, ◌<◌, ◌≤◌, List, [], ◌∷◌, ◌++◌, append_assoc, Some, None, true, false}
use Rattle.std.proofs.lemmas.List.{append-nil}
use Rattle.sc_tree.specs.declared.token.Token.{Token}
use Rattle.sc_tree.specs.Plain.{Expression}
use Rattle.sc_grammar.proofs.ManyLaws.{more_left, none_left, map_push}
use Rattle.sc_tree.specs.PlainStmt.{Statement, Arm}
use Rattle.sc_tree.specs.declared.token.Word.TheVariants as words
use Rattle.sc_grammar.proofs.Reading.{Parser, Out, got, refused, Refusal, and_then, takes_word, bind, pure}
use Rattle.sc_grammar.proofs.ReadingStatements.{Elses, elses_by, arm_after, with_arm, if_with, if_of}

abbrev pub with_arms : List Arm → Out Elses → Out Elses
with_arms front (got r m) = got (record { arms = front ++ r.arms; last = r.last }) m
with_arms front (refused e) = refused e

arms_step : (front : List Arm) (x : Arm) (o : Out Elses) → with_arms front (and_then o (λ r m. got (with_arm x r) m)) ≡ with_arms (front ++ x ∷ []) o
arms_step front x (got r m) = ap (λ (l : List Arm). got (record { arms = l; last = r.last }) m) (sym (append_assoc front (x ∷ []) r.arms))
arms_step front x (refused e) = refl

module _ (value : Parser Expression) (inner : Parser Statement) (front : List Arm) (ts : List Token) where
  arms_end : (n : ℕ) → with_arms front (elses_by value inner zero ts n) ≡ got (record { arms = front; last = None }) n
  unfolding elses_by pure
  arms_end n = ap (λ (l : List Arm). got (record { arms = l; last = None }) n) (append-nil front)

  arms_more : (k n n1 n2 m : ℕ) (x : Arm) → takes_word words.Else ts n ≡ got true n1 → takes_word words.If ts n1 ≡ got true n2 → arm_after value inner ts n2 ≡ got x m → with_arms front (elses_by value inner (suc k) ts n) ≡ with_arms (front ++ x ∷ []) (elses_by value inner k ts m)
  unfolding elses_by bind pure
  arms_more k n n1 n2 m x e e1 e2 = rw (e, e1, e2) (arms_step front x (elses_by value inner k ts m))

  arms_fail : (k n n1 n2 : ℕ) (r : Refusal) → takes_word words.Else ts n ≡ got true n1 → takes_word words.If ts n1 ≡ got true n2 → arm_after value inner ts n2 ≡ refused r → with_arms front (elses_by value inner (suc k) ts n) ≡ refused r
  unfolding elses_by bind pure
  arms_fail k n n1 n2 r e e1 e2 = rw (e, e1, e2) refl

  arms_last : (k n n1 n2 m : ℕ) (s : Statement) → takes_word words.Else ts n ≡ got true n1 → takes_word words.If ts n1 ≡ got false n2 → inner ts n2 ≡ got s m → with_arms front (elses_by value inner (suc k) ts n) ≡ got (record { arms = front; last = Some s }) m
  unfolding elses_by bind pure
  arms_last k n n1 n2 m s e e1 e2 = rw (e, e1, e2) (ap (λ (l : List Arm). got (record { arms = l; last = Some s }) m) (append-nil front))

  arms_last_fail : (k n n1 n2 : ℕ) (r : Refusal) → takes_word words.Else ts n ≡ got true n1 → takes_word words.If ts n1 ≡ got false n2 → inner ts n2 ≡ refused r → with_arms front (elses_by value inner (suc k) ts n) ≡ refused r
  unfolding elses_by bind pure
  arms_last_fail k n n1 n2 r e e1 e2 = rw (e, e1, e2) refl

  arms_stop : (k n n1 : ℕ) → takes_word words.Else ts n ≡ got false n1 → with_arms front (elses_by value inner (suc k) ts n) ≡ got (record { arms = front; last = None }) n1
  unfolding elses_by bind pure
  arms_stop k n n1 e = rw e (ap (λ (l : List Arm). got (record { arms = l; last = None }) n1) (append-nil front))

  left_is : (i end n : ℕ) → i < end → with_arms front (elses_by value inner (end - i) ts n) ≡ with_arms front (elses_by value inner (suc (end - (i + 1))) ts n)
  left_is i end n h = ap (λ k. with_arms front (elses_by value inner k ts n)) (more_left i end h)

  pub elses_end : (i end n : ℕ) → end ≤ i → with_arms front (elses_by value inner (end - i) ts n) ≡ got (record { arms = front; last = None }) n
  elses_end i end n h = ap (λ k. with_arms front (elses_by value inner k ts n)) (none_left i end h) ∙ arms_end n

  pub elses_more : (i end n n1 n2 m : ℕ) (x : Arm) → i < end → takes_word words.Else ts n ≡ got true n1 → takes_word words.If ts n1 ≡ got true n2 → arm_after value inner ts n2 ≡ got x m → with_arms front (elses_by value inner (end - i) ts n) ≡ with_arms (front ++ x ∷ []) (elses_by value inner (end - (i + 1)) ts m)
  elses_more i end n n1 n2 m x h e e1 e2 = left_is i end n h ∙ arms_more (end - (i + 1)) n n1 n2 m x e e1 e2

  pub elses_fail : (i end n n1 n2 : ℕ) (r : Refusal) → i < end → takes_word words.Else ts n ≡ got true n1 → takes_word words.If ts n1 ≡ got true n2 → arm_after value inner ts n2 ≡ refused r → with_arms front (elses_by value inner (end - i) ts n) ≡ refused r
  elses_fail i end n n1 n2 r h e e1 e2 = left_is i end n h ∙ arms_fail (end - (i + 1)) n n1 n2 r e e1 e2

  pub elses_last : (i end n n1 n2 m : ℕ) (s : Statement) → i < end → takes_word words.Else ts n ≡ got true n1 → takes_word words.If ts n1 ≡ got false n2 → inner ts n2 ≡ got s m → with_arms front (elses_by value inner (end - i) ts n) ≡ got (record { arms = front; last = Some s }) m
  elses_last i end n n1 n2 m s h e e1 e2 = left_is i end n h ∙ arms_last (end - (i + 1)) n n1 n2 m s e e1 e2

  pub elses_last_fail : (i end n n1 n2 : ℕ) (r : Refusal) → i < end → takes_word words.Else ts n ≡ got true n1 → takes_word words.If ts n1 ≡ got false n2 → inner ts n2 ≡ refused r → with_arms front (elses_by value inner (end - i) ts n) ≡ refused r
  elses_last_fail i end n n1 n2 r h e e1 e2 = left_is i end n h ∙ arms_last_fail (end - (i + 1)) n n1 n2 r e e1 e2

  pub elses_stop : (i end n n1 : ℕ) → i < end → takes_word words.Else ts n ≡ got false n1 → with_arms front (elses_by value inner (end - i) ts n) ≡ got (record { arms = front; last = None }) n1
  elses_stop i end n n1 h e = left_is i end n h ∙ arms_stop (end - (i + 1)) n n1 e

-- the first arm, and the further ones
abbrev pub if_all : Out Elses → Out Statement
if_all o = and_then o (λ r m. got (if_with r.arms r.last) m)

pub first_arm : (x : Arm) (o : Out Elses) → if_all (with_arms (x ∷ []) o) ≡ and_then o (λ r m. got (if_of x r) m)
first_arm x (got r m) = refl
first_arm x (refused e) = refl

pub ruleset elses_turns = (elses_end, elses_more, elses_fail, elses_last, elses_last_fail, elses_stop, first_arm, map_push)
