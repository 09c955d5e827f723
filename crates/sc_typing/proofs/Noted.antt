-- What is noted in reading order is exactly what is broken, and the first of it is the answer.
use Rattle.std.proofs.Common.{◌≡◌, refl, sym, subst, ℕ, arith, Bool, true, false, ◌||◌, ◌&&◌, List, [], ◌∷◌, Some, None}
use Rattle.std.proofs.Common.{◌⊎◌, inl, inr}
use Rattle.std.specs.Prelude.{nat_lt, nat_eq, if◌then◌else◌, Option}
use Rattle.std.specs.List.{Contains}
use Rattle.std.proofs.lemmas.Bool.Decides.{nat_tests}
use Rattle.sc_tree.specs.Names.{Text}
use Rattle.sc_tree.specs.PlainTree.{PlainTree}
use Rattle.sc_typing.specs.declared.notes.Breach.{Breach}
use Rattle.sc_typing.specs.Numbers.{rule_number}
use Rattle.sc_typing.specs.Program.{source_of_tree, line_of}
use Rattle.sc_typing.proofs.ProgramNotes.{noted}
use Rattle.sc_typing.specs.Broken.{Broken}
use Rattle.sc_typing.specs.Answer.{comes_first, IsWellTyped, IsFirstBroken, earlier_of, least_of, first_noted}
use Rattle.sc_typing.proofs.Exactly.{the_one}
use Rattle.sc_typing.proofs.FunctionsNoted.{exact-file, no_member, first_member, more_member, member_cases}

module _ (tree : PlainTree) (names texts : List Text) where
  pub noted_is_broken : {b : Breach} → Contains (noted tree names texts) b → Broken tree names texts b
  noted_is_broken {b = b} h = go ((exact-file (source_of_tree tree names texts) tree).sound [] b h)
    where
      go : Contains [] b ⊎ Broken tree names texts b → Broken tree names texts b
      go (inl i) = absurd (no_member b i)
      go (inr i) = i

  pub broken_is_noted : {b : Breach} → Broken tree names texts b → Contains (noted tree names texts) b
  broken_is_noted {b = b} h = (exact-file (source_of_tree tree names texts) tree).complete [] b h

-- ---- the order of the pairs

-- the first pair is not behind the second
abbrev pub Before : (a b : Breach) → Type 0
Before a b = comes_first b a ≡ false

before_itself : (at rule : ℕ) → (nat_lt at at || (nat_eq at at && nat_lt rule rule)) ≡ false
before_itself at rule = grind (arith, nat_tests)

before_both : (a b i j p q : ℕ) → (nat_lt i a || (nat_eq i a && nat_lt j b)) ≡ false →
    (nat_lt p i || (nat_eq p i && nat_lt q j)) ≡ false →
    (nat_lt p a || (nat_eq p a && nat_lt q b)) ≡ false
before_both a b i j p q x y = grind (arith, nat_tests)

before_turned : (a b i j : ℕ) → (nat_lt i a || (nat_eq i a && nat_lt j b)) ≡ true →
    (nat_lt a i || (nat_eq a i && nat_lt b j)) ≡ false
before_turned a b i j x = grind (arith, nat_tests)

before-trans : (a b d : Breach) → Before a b → Before b d → Before a d
before-trans a b d x y = before_both a.at (rule_number a.rule) b.at (rule_number b.rule) d.at (rule_number d.rule) x y

module _ (a b : Breach) where
  earlier-left : Before (earlier_of a b) a
  earlier-left = go (comes_first b a) refl
    where
      go : (t : Bool) → comes_first b a ≡ t → Before (if t then b else a) a
      go true e = before_turned a.at (rule_number a.rule) b.at (rule_number b.rule) e
      go false e = before_itself a.at (rule_number a.rule)

  earlier-right : Before (earlier_of a b) b
  earlier-right = go (comes_first b a) refl
    where
      go : (t : Bool) → comes_first b a ≡ t → Before (if t then b else a) b
      go true e = before_itself b.at (rule_number b.rule)
      go false e = e

-- the least is not behind the first of the pairs
least-start : (a : Breach) (more : List Breach) → Before (least_of a more) a
least-start a [] = before_itself a.at (rule_number a.rule)
least-start a (b ∷ more) =
    before-trans (least_of (earlier_of a b) more) (earlier_of a b) a (least-start (earlier_of a b) more)
    (earlier-left a b)

-- ---- the least

least-all : (a : Breach) (more : List Breach) (x : Breach) → Contains more x → Before (least_of a more) x
least-all a [] x i = absurd (no_member x i)
least-all a (b ∷ more) x i = go (least-all (earlier_of a b) more x) (member_cases b x more i)
  where
    at_b : Before (least_of (earlier_of a b) more) b
    at_b =
        before-trans (least_of (earlier_of a b) more) (earlier_of a b) b (least-start (earlier_of a b) more)
        (earlier-right a b)

    go : (Contains more x → Before (least_of (earlier_of a b) more) x) → Contains (b ∷ []) x ⊎ Contains more x →
        Before (least_of (earlier_of a b) more) x
    go further (inl j) = subst (λ (y : Breach). Before (least_of (earlier_of a b) more) y) (the_one b x j) at_b
    go further (inr j) = further j

least-of_all : (a : Breach) (more : List Breach) (x : Breach) → Contains (a ∷ more) x → Before (least_of a more) x
least-of_all a more x i = go (member_cases a x more i)
  where
    go : Contains (a ∷ []) x ⊎ Contains more x → Before (least_of a more) x
    go (inl j) = subst (λ (y : Breach). Before (least_of a more) y) (the_one a x j) (least-start a more)
    go (inr j) = least-all a more x j

-- one of two pairs, before others
either-member : (t : Bool) (a b : Breach) (more : List Breach) (x : Breach) →
    Contains ((if t then b else a) ∷ more) x → Contains (a ∷ b ∷ more) x
either-member true a b more x i = more_member a x (b ∷ more) i
either-member false a b more x i = go (member_cases a x more i)
  where
    go : Contains (a ∷ []) x ⊎ Contains more x → Contains (a ∷ b ∷ more) x
    go (inl j) = subst (λ (y : Breach). Contains (a ∷ b ∷ more) y) (the_one a x j) (first_member a (b ∷ more))
    go (inr j) = more_member a x (b ∷ more) (more_member b x more j)

least-member : (a : Breach) (more : List Breach) → Contains (a ∷ more) (least_of a more)
least-member a [] = first_member a []
least-member a (b ∷ more) =
    either-member (comes_first b a) a b more (least_of (earlier_of a b) more) (least-member (earlier_of a b) more)

-- ---- the answer

module _ (tree : PlainTree) (names texts : List Text) where
  pub first_is_least : {b : Breach} → first_noted (noted tree names texts) ≡ Some b →
      IsFirstBroken tree names texts (rule_number b.rule) (line_of tree b.at)
  first_is_least {b = b} e = go (noted tree names texts) refl e
    where
      found : (all : List Breach) → noted tree names texts ≡ all → Contains all b →
          ((x : Breach) → Contains all x → Before b x) → IsFirstBroken tree names texts (rule_number b.rule) (line_of tree b.at)
      found all same i before = record {
        first = b;
        broken = noted_is_broken tree names texts (subst (λ (l : List Breach). Contains l b) (sym same) i);
        least = λ x h. before x (subst (λ (l : List Breach). Contains l x) same (broken_is_noted tree names texts h));
        rule_is = refl;
        line_is = refl;
      }

      go : (all : List Breach) → noted tree names texts ≡ all → first_noted all ≡ Some b →
          IsFirstBroken tree names texts (rule_number b.rule) (line_of tree b.at)
      go [] same f = absurd (let z : None ≡ Some b = f in cc)
      go (a ∷ more) same f =
          let l : least_of a more ≡ b = (let z : Some (least_of a more) ≡ Some b = f in cc) in
          found (a ∷ more) same (subst (λ (y : Breach). Contains (a ∷ more) y) l (least-member a more))
          (λ x i. subst (λ (y : Breach). Before y x) l (least-of_all a more x i))

  pub none_is_well_typed : first_noted (noted tree names texts) ≡ None → IsWellTyped tree names texts
  none_is_well_typed e = λ b h. no_member b (go (noted tree names texts) e b (broken_is_noted tree names texts h))
    where
      go : (all : List Breach) → first_noted all ≡ None → (b : Breach) → Contains all b → Contains [] b
      go [] f b i = i
      go (a ∷ more) f b i = absurd (let z : Some (least_of a more) ≡ None = f in cc)

  -- a tree has an answer
  pub some-answer : IsWellTyped tree names texts ⊎ ((rule : ℕ) × (line : ℕ) × IsFirstBroken tree names texts rule line)
  some-answer = go (first_noted (noted tree names texts)) refl
    where
      go : (o : Option Breach) → first_noted (noted tree names texts) ≡ o →
          IsWellTyped tree names texts ⊎ ((rule : ℕ) × (line : ℕ) × IsFirstBroken tree names texts rule line)
      go None e = inl (none_is_well_typed e)
      go (Some b) e = inr ((rule_number b.rule), line_of tree b.at, first_is_least e)
