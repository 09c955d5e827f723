-- What an expression with a type was made of: its operands had types, and the rule on them was kept.
use Rattle.std.proofs.Common.{◌≡◌, refl, Bool, true, false}
use Rattle.std.specs.Prelude.{Option, Some, None, if◌then◌else◌}
use Rattle.std.specs.Option.{option_map}
use Rattle.sc_typing.specs.Known.{Valued, only}
use Rattle.sc_typing.specs.Operators.{both_of, all_of}

pub never_some : {A P : Type 0} {x : A} → None ≡ Some x → P
never_some {x = x} h = absurd (let z : None ≡ Some x = h in cc)

pub some-is : {A : Type 0} (x y : A) → Some x ≡ Some y → x ≡ y
some-is x y h = let z : Some x ≡ Some y = h in cc

-- an operand that is used, and the rule on it
pub record Only (kept : Bool) (known : Option Valued) (v : Valued) : Type 0 where
  pub is : known ≡ Some v
  pub rule : kept ≡ true

pub only-is : (kept : Bool) (known : Option Valued) (v : Valued) → only kept known ≡ Some v → Only kept known v
only-is kept None v h = never_some h
only-is kept (Some w) v h = go w.ty.void kept h
  where
    go : (void kept : Bool) → (if void then None else if kept then Some w else None) ≡ Some v → Only kept (Some w) v
    go true kept h = never_some h
    go false true h = record { is = h; rule = refl }
    go false false h = never_some h

pub record Made {B : Type 0} (f : Valued → B) (kept : Bool) (known : Option Valued) (made : B) : Type 0 where
  pub of : Valued
  pub is : known ≡ Some of
  pub rule : kept ≡ true
  pub gives : f of ≡ made

pub made-of : {B : Type 0} (f : Valued → B) (kept : Bool) (known : Option Valued) (v : B) →
    option_map f (only kept known) ≡ Some v → Made f kept known v
made-of f kept known v h = go (only kept known) refl h
  where
    go : (o : Option Valued) → only kept known ≡ o → option_map f o ≡ Some v → Made f kept known v
    go None e h = never_some h
    go (Some w) e h =
        let o = only-is kept known w e in
        record { of = w; is = o.is; rule = o.rule; gives = some-is (f w) v h }

pub record MadeOfTwo (f : Valued → Valued → Valued) (kept : Bool) (left right : Option Valued) (made : Valued) : Type 0 where
  pub first : Valued
  pub second : Valued
  pub left_is : left ≡ Some first
  pub right_is : right ≡ Some second
  pub rule : kept ≡ true
  pub gives : f first second ≡ made

pub made-of-two : (f : Valued → Valued → Valued) (kept : Bool) (left right : Option Valued) (v : Valued) →
    both_of f (only kept left) (only true right) ≡ Some v → MadeOfTwo f kept left right v
made-of-two f kept left right v h = go (only kept left) (only true right) refl refl h
  where
    go : (a b : Option Valued) → only kept left ≡ a → only true right ≡ b → both_of f a b ≡ Some v →
        MadeOfTwo f kept left right v
    go None b e g h = never_some h
    go (Some x) None e g h = never_some h
    go (Some x) (Some y) e g h =
        let o = only-is kept left x e in
        let p = only-is true right y g in
        record {
          first = x;
          second = y;
          left_is = o.is;
          right_is = p.is;
          rule = o.rule;
          gives = some-is (f x y) v h;
        }

pub record MadeOfThree (f : Valued → Valued → Valued → Valued) (kept : Bool) (test on off : Option Valued)
    (made : Valued) : Type 0 where
  pub tested : Valued
  pub first : Valued
  pub second : Valued
  pub test_is : test ≡ Some tested
  pub on_is : on ≡ Some first
  pub off_is : off ≡ Some second
  pub rule : kept ≡ true
  pub gives : f tested first second ≡ made

pub made-of-three : (f : Valued → Valued → Valued → Valued) (kept : Bool) (test on off : Option Valued) (v : Valued) →
    all_of f (only kept test) (only true on) (only true off) ≡ Some v → MadeOfThree f kept test on off v
made-of-three f kept test on off v h = go (only kept test) refl h
  where
    go : (t : Option Valued) → only kept test ≡ t → all_of f t (only true on) (only true off) ≡ Some v →
        MadeOfThree f kept test on off v
    go None e h = never_some h
    go (Some t) e h =
        let o = only-is kept test t e in
        let m = made-of-two (f t) true on off v h in
        record {
          tested = t;
          first = m.first;
          second = m.second;
          test_is = o.is;
          on_is = m.left_is;
          off_is = m.right_is;
          rule = o.rule;
          gives = m.gives;
        }
