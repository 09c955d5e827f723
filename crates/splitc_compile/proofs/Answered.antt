-- A source has one answer: it has code, or one refusal.
use Rattle.std.proofs.Common.{◌≡◌, refl, sym, ap, ◌∙◌, subst, ℕ, zero, suc, ◌<◌, ◌≤◌, arith, List, [], ◌∷◌, length, ◌⊎◌, inl, inr, ⊎_elim, Option, Some, None}
use Rattle.std.specs.Prelude.{slice_get}
use Rattle.sc_base.specs.declared.limits.TheConstants.{LIMITS}
use Rattle.sc_tree.specs.Names.{Text}
use Rattle.sc_tree.specs.PlainTypedTree.{PlainTypedTree}
use Rattle.sc_layout.specs.Layout.{Arrangement}
use Rattle.front_end.specs.Accepted.{IsAccepted}
use Rattle.front_end.specs.Accepted as accepting
use Rattle.front_end.specs.declared.refusal.Refusal.{Refusal}
use Rattle.front_end.specs.declared.refusal.Refusal.TheVariants as refusal
use Rattle.front_end.proofs.OneAnswer.{refused-once, accepted-once, accepted-not-refused}
use Rattle.front_end.proofs.SomeAnswer.{some-answer}
use Rattle.sc_core.specs.Core.{Function, Program}
use Rattle.sc_core.specs.Lowering.{core_of}
use Rattle.flow_form.specs.Accesses.{accesses_of}
use Rattle.node_emit.specs.Sources.{locals_of, IsFirstOver}
use Rattle.node_emit.specs.Whole.{AreWithin}
use Rattle.splitc_compile.specs.Answers.{IsCompilable, HasManySites, HasManyLocals, Says}

-- ---- locals

over_first : (p : Program) (c d : ℕ) → IsFirstOver p c → IsFirstOver p d → c ≡ d
over_first p c d a b = go (apart a.number b.number)
  where
    apart : (i j : ℕ) → (i ≡ j) ⊎ ((i < j) ⊎ (j < i))
    apart i j = grind arith

    one : {A : Type 0} (o : Option A) (x y : A) → o ≡ Some x → o ≡ Some y → x ≡ y
    one o x y e f = cc

    go : (a.number ≡ b.number) ⊎ ((a.number < b.number) ⊎ (b.number < a.number)) → c ≡ d
    go (inl e) =
        a.count_is ∙ ap locals_of (one (slice_get p.functions b.number) a.over b.over (subst (λ i. slice_get p.functions i ≡ Some a.over) e a.is_there) b.is_there)
        ∙ sym b.count_is
    go (inr (inl l)) = absurd (b.before a.number a.over l a.is_there a.is_over)
    go (inr (inr l)) = absurd (a.before b.number b.over l b.is_there b.is_over)

over_not_within : (p : Program) (c : ℕ) → IsFirstOver p c → AreWithin p → ⊥
over_not_within p c a w = let h = w a.number a.over a.is_there in omega (arith, a.is_over, h)

-- the first function of these that is over the limit, or none is
abbrev FirstOver : List Function → Type 0
FirstOver fs =
    ((n : ℕ) × (f : Function) × (slice_get fs n ≡ Some f) × (LIMITS.locals < locals_of f)
    × ((m : ℕ) (g : Function) → m < n → slice_get fs m ≡ Some g → (LIMITS.locals < locals_of g) → ⊥))
    ⊎ ((n : ℕ) (f : Function) → slice_get fs n ≡ Some f → locals_of f ≤ LIMITS.locals)

first_over : (fs : List Function) → FirstOver fs
first_over [] = inr (λ n f e. absurd (none n f e))
  where
    none : (n : ℕ) (f : Function) → slice_get [] n ≡ Some f → ⊥
    none n f e = cc
first_over (f ∷ fs) = go (split (locals_of f) LIMITS.locals) (first_over fs)
  where
    split : (a b : ℕ) → (a ≤ b) ⊎ (b < a)
    split a b = grind arith

    same : (x y : Function) → Some x ≡ Some y → x ≡ y
    same x y e = cc

    go : (locals_of f ≤ LIMITS.locals) ⊎ (LIMITS.locals < locals_of f) → FirstOver fs → FirstOver (f ∷ fs)
    go (inr over) further = inl (0, f, refl, over, λ m g l e o. absurd (omega (arith, l)))
    go (inl few) (inl further) =
        inl (suc further.0, further.1, further.2, further.3, before)
      where
        before : (m : ℕ) (g : Function) → m < suc further.0 → slice_get (f ∷ fs) m ≡ Some g → (LIMITS.locals < locals_of g) → ⊥
        before zero g l e o = let h = subst (λ x. locals_of x ≤ LIMITS.locals) (same f g e) few in omega (arith, h, o)
        before (suc m) g l e o = further.4 m g (omega (arith, l)) e o
    go (inl few) (inr further) = inr within
      where
        within : (n : ℕ) (g : Function) → slice_get (f ∷ fs) n ≡ Some g → locals_of g ≤ LIMITS.locals
        within zero g e = subst (λ x. locals_of x ≤ LIMITS.locals) (same f g e) few
        within (suc n) g e = further n g e

-- ---- accepted sources

module _ (source : List ℕ) (nodes : ℕ) where
  -- what is said of one typed tree is said of the other
  along : (n m : List Text) (t u : PlainTypedTree) (l k : Arrangement) (P : PlainTypedTree → Type 0)
      → IsAccepted source nodes n t l → IsAccepted source nodes m u k → P t → P u
  along n m t u l k P a b p = subst P (accepted-once source nodes n m t u l k a b).1 p

  sites_once : (c d : ℕ) → HasManySites source nodes c → HasManySites source nodes d → c ≡ d
  sites_once c d a b =
      along a.names b.names a.typed b.typed a.layout b.layout (λ t. c ≡ accesses_of (core_of t)) a.accepted b.accepted a.count_is ∙ sym b.count_is

  locals_once : (c d : ℕ) → HasManyLocals source nodes c → HasManyLocals source nodes d → c ≡ d
  locals_once c d a b =
      over_first (core_of b.typed) c d
      (along a.names b.names a.typed b.typed a.layout b.layout (λ t. IsFirstOver (core_of t) c) a.accepted b.accepted a.over) b.over

  sites_or_locals : (c d : ℕ) → HasManySites source nodes c → HasManyLocals source nodes d → ⊥
  sites_or_locals c d a b =
      let over = along a.names b.names a.typed b.typed a.layout b.layout (λ t. LIMITS.sites < accesses_of (core_of t)) a.accepted b.accepted a.over in
      omega (arith, over, b.few_sites)

  -- ---- one refusal

  abbrev Late : Refusal → Type 0
  Late (refusal.TooManySites count) = Unit {0}
  Late (refusal.TooManyLocals count) = Unit {0}
  Late r = ⊥

  -- a refusal is one of the front end, or of an accepted source
  data Told (r : Refusal) : Type 0 where
    early : accepting.Says source nodes r → Told r
    sites : (count : ℕ) → r ≡ refusal.TooManySites count → HasManySites source nodes count → Told r
    locals : (count : ℕ) → r ≡ refusal.TooManyLocals count → HasManyLocals source nodes count → Told r

  told : (r : Refusal) → Says source nodes r → Told r
  told (refusal.TooManySites count) h = sites count refl h
  told (refusal.TooManyLocals count) h = locals count refl h
  told (refusal.BadByte at) h = early h
  told (refusal.OpenComment at) h = early h
  told (refusal.WideNumber at) h = early h
  told (refusal.BadDirective line) h = early h
  told refusal.TooManyTokens h = early h
  told (refusal.Syntax seen) h = early h
  told (refusal.TooDeep seen) h = early h
  told (refusal.TooManyObjects count) h = early h
  told (refusal.BadBound line) h = early h
  told (refusal.TooManyCells cells) h = early h
  told (refusal.Rule number line) h = early h

  early_refuses : (n : List Text) (t : PlainTypedTree) (l : Arrangement) (r : Refusal) → IsAccepted source nodes n t l → accepting.Says source nodes r → ⊥
  early_refuses n t l r a h = accepted-not-refused source nodes n t l a r h

  same : (r s : Refusal) → Told r → Told s → r ≡ s
  same r s (early a) (early b) = refused-once source nodes r s a b
  same r s (early a) (sites d f b) = absurd (early_refuses b.names b.typed b.layout r b.accepted a)
  same r s (early a) (locals d f b) = absurd (early_refuses b.names b.typed b.layout r b.accepted a)
  same r s (sites c e a) (early b) = absurd (early_refuses a.names a.typed a.layout s a.accepted b)
  same r s (sites c e a) (sites d f b) = e ∙ ap refusal.TooManySites (sites_once c d a b) ∙ sym f
  same r s (sites c e a) (locals d f b) = absurd (sites_or_locals c d a b)
  same r s (locals c e a) (early b) = absurd (early_refuses a.names a.typed a.layout s a.accepted b)
  same r s (locals c e a) (sites d f b) = absurd (sites_or_locals d c b a)
  same r s (locals c e a) (locals d f b) = e ∙ ap refusal.TooManyLocals (locals_once c d a b) ∙ sym f

  pub refused_once : (r s : Refusal) → Says source nodes r → Says source nodes s → r ≡ s
  refused_once r s a b = same r s (told r a) (told s b)

  not_told : (r : Refusal) → IsCompilable source nodes → Told r → ⊥
  not_told r is (early a) = early_refuses is.names is.typed is.layout r is.accepted a
  not_told r is (sites c e a) =
      let over = along a.names is.names a.typed is.typed a.layout is.layout (λ t. LIMITS.sites < accesses_of (core_of t)) a.accepted is.accepted a.over in
      omega (arith, over, is.few_sites)
  not_told r is (locals c e a) =
      over_not_within (core_of is.typed) c
      (along a.names is.names a.typed is.typed a.layout is.layout (λ t. IsFirstOver (core_of t) c) a.accepted is.accepted a.over) is.few_locals

  pub compilable_not_refused : (r : Refusal) → IsCompilable source nodes → Says source nodes r → ⊥
  compilable_not_refused r is h = not_told r is (told r h)

  -- ---- some answer

  pub early_says : (r : Refusal) → accepting.Says source nodes r → Says source nodes r
  early_says (refusal.TooManySites count) h = absurd h
  early_says (refusal.TooManyLocals count) h = absurd h
  early_says (refusal.BadByte at) h = h
  early_says (refusal.OpenComment at) h = h
  early_says (refusal.WideNumber at) h = h
  early_says (refusal.BadDirective line) h = h
  early_says refusal.TooManyTokens h = h
  early_says (refusal.Syntax seen) h = h
  early_says (refusal.TooDeep seen) h = h
  early_says (refusal.TooManyObjects count) h = h
  early_says (refusal.BadBound line) h = h
  early_says (refusal.TooManyCells cells) h = h
  early_says (refusal.Rule number line) h = h

  pub some_told : IsCompilable source nodes ⊎ ((r : Refusal) × Says source nodes r)
  some_told =
      ⊎_elim (λ is. of_accepted is.0 is.1 is.2 is.3) (λ is. inr (is.0, early_says is.0 is.1)) (some-answer source nodes)
    where
      split : (a b : ℕ) → (a ≤ b) ⊎ (b < a)
      split a b = grind arith

      of_accepted : (n : List Text) (t : PlainTypedTree) (l : Arrangement) → IsAccepted source nodes n t l
          → IsCompilable source nodes ⊎ ((r : Refusal) × Says source nodes r)
      of_accepted n t l a =
          ⊎_elim
          (λ few. ⊎_elim
          (λ over. inr (
            refusal.TooManyLocals (locals_of over.1),
            record {
              names = n;
              typed = t;
              layout = l;
              accepted = a;
              few_sites = few;
              over = record { number = over.0; over = over.1; is_there = over.2; is_over = over.3; count_is = refl; before = over.4 };
            },
          ))
          (λ within. inl (record { names = n; typed = t; layout = l; accepted = a; few_sites = few; few_locals = within }))
          (first_over (core_of t).functions))
          (λ many. inr (
            refusal.TooManySites (accesses_of (core_of t)),
            record { names = n; typed = t; layout = l; accepted = a; over = many; count_is = refl },
          ))
          (split (accesses_of (core_of t)) LIMITS.sites)
