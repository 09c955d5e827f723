-- What reading gives, in the words of the grammar.
use Rattle.std.proofs.Common.{◌≡◌, refl, sym, ap, ◌∙◌, subst, ℕ, zero, suc, ◌+◌, ◌≤◌, ◌<◌, arith, true, false, List, [], ◌∷◌, ◌++◌, Some, None, append-nil, length, ◌⊎◌, inl, inr, ⊎_elim}
use Rattle.std.proofs.lemmas.Option.{slice_get_within}
use Rattle.std.specs.Prelude.{slice_get}
use Rattle.sc_tree.specs.declared.token.Token.{Token}
use Rattle.sc_tree.specs.PlainTree.{PlainTree}
use Rattle.sc_grammar.specs.Rest.{Spelt, Rest, rest, tokens_of}
use Rattle.sc_grammar.specs.Items.{Item, IsItems}
use Rattle.sc_grammar.proofs.Reading.{syntax, deep, Out, got, refused}
use Rattle.sc_grammar.proofs.ReadingItems.{items}
use Rattle.sc_grammar.specs.Sentence.{tree_of, Spells, Sentence, AllShallow, FirstDeep, Agrees, Begins, Shallow, IsSyntax, IsTooDeep}
use Rattle.sc_grammar.proofs.Local.{reach}
use Rattle.sc_grammar.proofs.Fits.{Stand, past, Follows, Found, Begun, FitsOut}
use Rattle.sc_grammar.proofs.Derived.{Stands, place, Even, more_even, Sinks, sinks, sinks_later, Reads, read, refuse}
use Rattle.sc_grammar.proofs.Laws.{Exact}

-- no token is left
abbrev pub AtEnd : Rest → Type 0
AtEnd (rest n us) = us ≡ []

-- ---- tokens in their places

past_is : (us : List Spelt) (n : ℕ) → past us n ≡ n + length us
past_is [] n = omega arith
past_is (s ∷ us) n = let h = past_is us (n + 1) in omega arith

-- tokens that stand from a place on, whatever follows them
stand_get : (ts : List Token) (us more : List Spelt) (n q : ℕ) → Stand ts n us → q < length us → slice_get (tokens_of (us ++ more)) q ≡ slice_get ts (n + q)
stand_get ts [] more n q h lt = absurd (omega arith)
stand_get ts (s ∷ us) more n zero h lt = let e : n + 0 ≡ n = omega arith in rw e (sym h.0)
stand_get ts (s ∷ us) more n (suc q) h lt = let e : n + suc q ≡ n + 1 + q = omega arith in rw e (stand_get ts us more (n + 1) q h.1 (omega arith))

stand_less : (t : Token) (ts : List Token) (n : ℕ) (us : List Spelt) → Stand (t ∷ ts) (suc n) us → Stand ts n us
stand_less t ts n [] h = tt
stand_less t ts n (s ∷ us) h = (h.0, stand_less t ts (n + 1) us (let e : suc n + 1 ≡ suc (n + 1) = omega arith in subst (λ (i : ℕ). Stand (t ∷ ts) i us) e h.1))

-- tokens that stand from the first place to the end are all
stand_whole : (ts : List Token) (us : List Spelt) → Stand ts 0 us → slice_get ts (length us) ≡ None → tokens_of us ≡ ts
stand_whole [] [] h g = refl
stand_whole (t ∷ ts) [] h g = cc
stand_whole [] (s ∷ us) h g = let z = h.0 in cc
stand_whole (t ∷ ts) (s ∷ us) h g =
    let z : t ≡ s.token = (let y = h.0 in cc) in
    let e : 0 + 1 ≡ suc 0 = omega arith in
    let w = stand_whole ts us (stand_less t ts 0 us (subst (λ (i : ℕ). Stand (t ∷ ts) i us) e h.1)) g in cc

tokens_length : (us : List Spelt) → length (tokens_of us) ≡ length us
tokens_length [] = refl
tokens_length (s ∷ us) = let h = tokens_length us in omega arith

stands_all : (us : List Spelt) → Stands (tokens_of us) (rest 0 us)
stands_all us = λ q. let e : 0 + q ≡ q = omega arith in ap (slice_get (tokens_of us)) e

no_else_after : (ts : List Token) (m : ℕ) → Follows ts m []
no_else_after ts m = λ e. let z : false ≡ true = e in cc

-- ---- depth

even_all : (limit n e : ℕ) (us : List Spelt) → Even limit (rest n us) (rest e []) → (q : ℕ) (s : Spelt) → slice_get us q ≡ Some s → s.depth ≤ limit
even_all limit n e [] h q s i = cc
even_all limit n e (t ∷ us) (more_even le h) zero s i = let z : t ≡ s = cc in subst (λ (y : Spelt). y.depth ≤ limit) z le
even_all limit n e (t ∷ us) (more_even le h) (suc q) s i = even_all limit (n + 1) e us h q s i

sinks_at : (limit n k : ℕ) (us : List Spelt) → Sinks limit (rest n us) k → (q : ℕ) × (k ≡ n + q) × FirstDeep limit q us
sinks_at limit n k [] h = elim h [ ]
sinks_at limit n k (t ∷ us) (sinks lt) = (0, omega arith, record { before = λ q r h. absurd (omega arith); token = t; here = refl; deep = lt })
sinks_at limit n k (t ∷ us) (sinks_later le h) =
    let z = sinks_at limit (n + 1) k us h in let f = z.2 in
    (suc z.0, omega (arith, z.1), record { before = before t us z.0 le f.before; token = f.token; here = f.here; deep = f.deep })
  where
    before : (t : Spelt) (us : List Spelt) (j : ℕ) → t.depth ≤ limit → AllShallow limit j us → AllShallow limit (suc j) (t ∷ us)
    before t us j le h zero r lt a = let x : t ≡ r = cc in subst (λ (y : Spelt). y.depth ≤ limit) x le
    before t us j le h (suc q) r lt a = h q r (omega arith) a

shallow_never_sinks : (limit k : ℕ) (us : List Spelt) → AllShallow limit (length us) us → Sinks limit (rest 0 us) k → ⊥
shallow_never_sinks limit k us h g =
    let z = sinks_at limit 0 k us g in
    let f = z.2 in
    let lt : z.0 < length us = slice_get_within us z.0 f.token f.here in
    let a = h z.0 f.token lt f.here in let b = f.deep in omega arith

lt_or_le : (j k : ℕ) → (j < k) ⊎ (k ≤ j)
lt_or_le j zero = inr (omega arith)
lt_or_le zero (suc k) = inl (omega arith)
lt_or_le (suc j) (suc k) = ⊎_elim (λ h. inl (omega arith)) (λ h. inr (omega arith)) (lt_or_le j k)

same_deep : {j k : ℕ} (o : Out (List Item)) → o ≡ refused (deep j) → o ≡ refused (deep k) → j ≡ k
same_deep o a b = cc

deep_syntax : {j k : ℕ} (o : Out (List Item)) → o ≡ refused (deep j) → o ≡ refused (syntax k) → ⊥
deep_syntax o a b = cc

-- ---- sentences that begin so

pub begins_less : (ts : List Token) (j k : ℕ) → j ≤ k → Begins ts k → Begins ts j
begins_less ts j k le b = record { tokens = b.tokens; tree = b.tree; is = b.is; agrees = λ q lt. b.agrees q (omega arith) }

begins_from : (ts : List Token) (k : ℕ) → Begun (IsItems 0) ts 0 k → Begins ts k
begins_from ts k b =
    let us : List Spelt = b.used ++ (b.more ++ []) in
    record {
      tokens = tokens_of us;
      tree = tree_of b.value (tokens_of us);
      is = record { spelt = us; tokens = refl; spells = record { items = b.value; end = past b.more k; is = b.holds [] refl; made = refl } };
      agrees = λ q lt.
          let e = past_is b.used 0 in let i = b.ends in let z : 0 + q ≡ q = omega arith in
          stand_get ts b.used (b.more ++ []) 0 q b.stand (omega arith) ∙ ap (slice_get ts) z;
    }

-- a sentence as a reading of it
module _ (limit : ℕ) (exact : Exact limit (items limit) (IsItems 0) (λ xs b. AtEnd b)) where
  spelt_reads : (us : List Spelt) (tree : PlainTree) (z : Spells us tree) → Reads limit (tokens_of us) (rest 0 us) (rest z.end []) z.items (items limit)
  spelt_reads us tree z = exact.reads (tokens_of us) (rest 0 us) (rest z.end []) z.items z.is (stands_all us) refl

  -- the same tokens as far as reading looked are read alike
  alike : (ts us : List Token) (r : Out (List Item)) (k : ℕ) → items limit ts 0 ≡ r → reach r ≡ k → Agrees (k + 1) ts us → items limit us 0 ≡ r
  alike ts us r k e far g =
      exact.local.same ts us 0 (λ q le. let i : reach (items limit ts 0) ≡ k = ap reach e ∙ far in g q (omega arith)) ∙ e

  module _ (ts : List Token) (r : Out (List Item)) (is : items limit ts 0 ≡ r) where
    fitting : FitsOut (IsItems 0) ts 0 r
    fitting = subst (FitsOut (IsItems 0) ts 0) is (exact.fits.at ts 0)

    got_is : (us : List Spelt) (tree : PlainTree) → Spells us tree → (xs : List Item) (m : ℕ) → items limit (tokens_of us) 0 ≡ got xs m → (tree ≡ tree_of xs (tokens_of us)) × ((q : ℕ) (s : Spelt) → slice_get us q ≡ Some s → s.depth ≤ limit)
    got_is us tree z xs m e = go (spelt_reads us tree z)
      where
        go : Reads limit (tokens_of us) (rest 0 us) (rest z.end []) z.items (items limit) → (tree ≡ tree_of xs (tokens_of us)) × ((q : ℕ) (s : Spelt) → slice_get us q ≡ Some s → s.depth ≤ limit)
        go (read s d g) = (z.made ∙ ap (λ w. tree_of w (tokens_of us)) (let h : got z.items z.end ≡ got xs m = sym g ∙ e in let i : z.items ≡ xs = cc in i), even_all limit 0 z.end us d)
        go (refuse k s g) = let h : refused (deep k) ≡ got xs m = sym g ∙ e in cc

    -- the tree of what was read
    pub tree-is : (xs : List Item) (m : ℕ) → r ≡ got xs m → slice_get ts m ≡ None → Sentence ts (tree_of xs ts)
    tree-is xs m e stop =
        let f : Found (IsItems 0) ts 0 xs m = subst (FitsOut (IsItems 0) ts 0) e fitting in
        let len : length f.used ≡ m = (let a = past_is f.used 0 in let b = f.ends in omega arith) in
        let whole : tokens_of f.used ≡ ts = stand_whole ts f.used f.stand (ap (slice_get ts) len ∙ stop) in
        let spelt : IsItems 0 (rest 0 f.used) (rest m []) xs = subst (λ (l : List Spelt). IsItems 0 (rest 0 l) (rest m []) xs) (append-nil f.used) (f.holds [] (no_else_after ts m)) in
        record { spelt = f.used; tokens = whole; spells = record { items = xs; end = m; is = spelt; made = ap (tree_of xs) (sym whole) } }

    -- what was read ends within the tokens
    pub got-within : (xs : List Item) (m : ℕ) → r ≡ got xs m → slice_get ts m ≡ None → m ≤ length ts
    got-within xs m e stop =
        let f : Found (IsItems 0) ts 0 xs m = subst (FitsOut (IsItems 0) ts 0) e fitting in
        let len : length f.used ≡ m = (let a = past_is f.used 0 in let b = f.ends in omega arith) in
        let whole : tokens_of f.used ≡ ts = stand_whole ts f.used f.stand (ap (slice_get ts) len ∙ stop) in
        let same : length (tokens_of f.used) ≡ length ts = ap (λ (l : List Token). length l) whole in
        let h = tokens_length f.used in omega arith

    -- where all was read, no token is too deep
    pub shallow-is : (xs : List Item) (m : ℕ) → r ≡ got xs m → m ≤ length ts → Shallow limit ts (length ts + 1)
    shallow-is xs m e le us tree z g q s lt i =
        let a : items limit (tokens_of us) 0 ≡ r = alike ts (tokens_of us) r m is (ap reach e) (λ j h. g j (omega arith)) in
        (got_is us tree z xs m (a ∙ e)).1 q s i

    -- a shallow sentence is read
    pub accepts : (us : List Spelt) (tree : PlainTree) → tokens_of us ≡ ts → Spells us tree → AllShallow limit (length us) us → (xs : List Item) × (m : ℕ) × (r ≡ got xs m) × (tree ≡ tree_of xs ts)
    accepts us tree w z h = go (spelt_reads us tree z)
      where
        go : Reads limit (tokens_of us) (rest 0 us) (rest z.end []) z.items (items limit) → (xs : List Item) × (m : ℕ) × (r ≡ got xs m) × (tree ≡ tree_of xs ts)
        go (read s d g) = (z.items, z.end, sym is ∙ ap (λ u. items limit u 0) (sym w) ∙ g, z.made ∙ ap (tree_of z.items) w)
        go (refuse k s g) = absurd (shallow_never_sinks limit k us h s)

    pub syntax-is : (k : ℕ) → r ≡ refused (syntax k) → IsSyntax limit ts (k + 1)
    syntax-is k e =
        let b : Begins ts k = begins_from ts k (subst (FitsOut (IsItems 0) ts 0) e fitting) in
        record {
          before = λ j lt. begins_less ts j k (omega arith) b;
          here = λ c. never c.is.spelt c.tree c.is.spells (λ q lt. ap (λ w. slice_get w q) c.is.tokens ∙ c.agrees q lt);
          shallow = λ j i us tree z g q s lt a. shallow us tree z (λ p h. g p (omega arith)) q s (omega arith) a;
        }
      where
        never : (us : List Spelt) (tree : PlainTree) → Spells us tree → Agrees (k + 1) ts (tokens_of us) → ⊥
        never us tree z g = go (spelt_reads us tree z)
          where
            same : items limit (tokens_of us) 0 ≡ refused (syntax k)
            same = alike ts (tokens_of us) r k is (ap reach e) g ∙ e

            go : Reads limit (tokens_of us) (rest 0 us) (rest z.end []) z.items (items limit) → ⊥
            go (read s d h) = let i : got z.items z.end ≡ refused (syntax k) = sym h ∙ same in cc
            go (refuse j s h) = deep_syntax (items limit (tokens_of us) 0) h same

        shallow : (us : List Spelt) (tree : PlainTree) → Spells us tree → Agrees k ts (tokens_of us) → AllShallow limit k us
        shallow us tree z g q s lt a = go (spelt_reads us tree z)
          where
            back : (j : ℕ) → items limit (tokens_of us) 0 ≡ refused (deep j) → j < k → ⊥
            back j h less =
                let f : items limit ts 0 ≡ refused (deep j) = alike (tokens_of us) ts (refused (deep j)) j h refl (λ p le. sym (g p (omega arith))) in
                deep_syntax (items limit ts 0) f (is ∙ e)

            early : (j : ℕ) → Sinks limit (rest 0 us) j → k ≤ j → s.depth ≤ limit
            early j w le = let x = sinks_at limit 0 j us w in x.2.before q s (omega (arith, x.1)) a

            go : Reads limit (tokens_of us) (rest 0 us) (rest z.end []) z.items (items limit) → s.depth ≤ limit
            go (read w d h) = even_all limit 0 z.end us d q s a
            go (refuse j w h) = ⊎_elim (λ less. absurd (back j h less)) (λ le. early j w le) (lt_or_le j k)

    pub too_deep-is : (k : ℕ) → r ≡ refused (deep k) → IsTooDeep limit ts (k + 1)
    too_deep-is k e = record {
      last = k;
      counts = refl;
      begins = begins_from ts (k + 1) (subst (FitsOut (IsItems 0) ts 0) e fitting);
      deep = λ us tree z g. sunk us (spelt_reads us tree z) (alike ts (tokens_of us) r k is (ap reach e) g ∙ e);
    }
      where
        sunk : (us : List Spelt) {b : Rest} {xs : List Item} → Reads limit (tokens_of us) (rest 0 us) b xs (items limit) → items limit (tokens_of us) 0 ≡ refused (deep k) → FirstDeep limit k us
        sunk us {b = b} {xs = xs} (read s d h) i = let w : got xs (place b) ≡ refused (deep k) = sym h ∙ i in cc
        sunk us (refuse j s h) i =
            let v : j ≡ k = same_deep (items limit (tokens_of us) 0) h i in
            let x = sinks_at limit 0 j us s in
            let y : x.0 ≡ k = omega (arith, x.1) in
            subst (λ (p : ℕ). FirstDeep limit p us) y x.2

-- ---- one tree

-- no token is deeper than this
abbrev deepest : List Spelt → ℕ
deepest [] = 0
deepest (s ∷ us) = s.depth + deepest us

below_deepest : (us : List Spelt) (q : ℕ) (s : Spelt) → slice_get us q ≡ Some s → s.depth ≤ deepest us
below_deepest [] q s h = cc
below_deepest (t ∷ us) zero s h = let z : t.depth ≡ s.depth = (let y : t ≡ s = cc in ap (λ (x : Spelt). x.depth) y) in let w : deepest (t ∷ us) ≡ t.depth + deepest us = refl in omega arith
below_deepest (t ∷ us) (suc q) s h = let z = below_deepest us q s h in let w : deepest (t ∷ us) ≡ t.depth + deepest us = refl in omega arith

-- the same tokens have one tree
pub one-tree : ((limit : ℕ) → Exact limit (items limit) (IsItems 0) (λ xs b. AtEnd b)) → (ts : List Token) (t u : PlainTree) → Sentence ts t → Sentence ts u → t ≡ u
one-tree exact ts t u a b =
    let limit = deepest a.spelt + deepest b.spelt in
    let x = accepts limit (exact limit) ts (items limit ts 0) refl a.spelt t a.tokens a.spells (λ q s lt h. let z = below_deepest a.spelt q s h in omega arith) in
    let y = accepts limit (exact limit) ts (items limit ts 0) refl b.spelt u b.tokens b.spells (λ q s lt h. let z = below_deepest b.spelt q s h in omega arith) in
    x.3 ∙ ap (λ (w : List Item). tree_of w ts) (same_items (items limit ts 0) x.2 y.2) ∙ sym y.3
  where
    same_items : {xs ys : List Item} {m n : ℕ} (o : Out (List Item)) → o ≡ got xs m → o ≡ got ys n → xs ≡ ys
    same_items o h g = cc
