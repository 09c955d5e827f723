-- Passes counted by node, and the most of them.
use Rattle.std.proofs.Common.{◌≡◌, ◌⊎◌, ◌≢◌, ℕ, zero, suc, ◌+◌, ◌<◌, ◌≤◌, List, [], ◌∷◌, length, get_or, set, replicate, take, max, slice_index, true, false, eqb, ◌==◌, if◌then◌else◌, refl, sym, ap, ap₂, ◌∙◌, arith, subst, inl, inr, length-set}
use Rattle.std.proofs.lemmas.List.{get_or-set_same, get_or-set_other}
use Rattle.std.proofs.lemmas.Grind.{get_or_default_zero}
use Rattle.std.proofs.lemmas.Bool.Decides.{eqb_tells}
use Rattle.sc_isa.specs.declared.journal.Entry.{Entry}
use Rattle.sc_isa.specs.declared.journal.Entry.TheVariants.{Issued, Delivered, Waited, Arrived, Passed, Finished}
use Rattle.fabric.specs.Barriers.{passes, released}
use Rattle.journal_order.specs.Listed.{IsOn}

pub record ArePasses (nodes i : ℕ) (past : List Entry) (counts : List ℕ) (most : ℕ) : Type 0 where
  pub items : length counts ≡ nodes
  pub counts_are : (node : ℕ) → node < nodes → slice_index counts node ≡ passes node past
  pub few : (node : ℕ) → node < nodes → slice_index counts node ≤ i
  pub most_is : most ≡ released past
  pub low : most ≤ i

pub none_passed : (nodes : ℕ) (counts : List ℕ) → length counts ≡ nodes → ((node : ℕ) → slice_index counts node ≡ 0) →
    ArePasses nodes 0 [] counts 0
none_passed nodes counts all none = record {
  items = all;
  counts_are = λ node w. none node;
  few = λ node w. let n = none node in omega (arith, n);
  most_is = refl;
  low = omega arith;
}

stays : (nodes i : ℕ) (past : List Entry) (counts : List ℕ) (most : ℕ) (entry : Entry) → ArePasses nodes i past counts most →
    ((node : ℕ) → passes node (entry ∷ past) ≡ passes node past) → released (entry ∷ past) ≡ released past →
    ArePasses nodes (i + 1) (entry ∷ past) counts most
stays nodes i past counts most entry s same all = record {
  items = s.items;
  counts_are = λ node w. s.counts_are node w ∙ sym (same node);
  few = λ node w. let f = s.few node w in omega (arith, f);
  most_is = s.most_is ∙ sym all;
  low = let l = s.low in omega (arith, l);
}

pub no_pass : (nodes i : ℕ) (past : List Entry) (counts : List ℕ) (most : ℕ) (entry : Entry) →
    ArePasses nodes i past counts most → ((node : ℕ) → entry ≡ Passed node → ⊥) → ArePasses nodes (i + 1) (entry ∷ past) counts most
no_pass nodes i past counts most (Passed node) s never = absurd (never node refl)
no_pass nodes i past counts most (Issued node number access) s never = stays nodes i past counts most _ s (λ p. refl) refl
no_pass nodes i past counts most (Delivered node number cell value) s never = stays nodes i past counts most _ s (λ p. refl) refl
no_pass nodes i past counts most (Waited node counter) s never = stays nodes i past counts most _ s (λ p. refl) refl
no_pass nodes i past counts most (Arrived node stores) s never = stays nodes i past counts most _ s (λ p. refl) refl
no_pass nodes i past counts most (Finished node end) s never = stays nodes i past counts most _ s (λ p. refl) refl

pub one_pass : (nodes i : ℕ) (past : List Entry) (counts : List ℕ) (most node v n : ℕ) → ArePasses nodes i past counts most →
    node < nodes → v ≡ get_or counts node v → n ≡ max most (v + 1) →
    ArePasses nodes (i + 1) (Passed node ∷ past) (set counts node (v + 1)) n
one_pass nodes i past counts most node v n s within value is = record {
  items = length-set _ _ _ ∙ s.items;
  counts_are = λ other w. by other w (eqb_tells node other);
  few = λ other w. low other w (eqb_tells node other);
  most_is = is ∙ ap₂ max s.most_is (ap (λ k. k + 1) (here ∙ s.counts_are node within));
  low = let l = s.low in let f = s.few node within in let h = here in omega (arith, is, l, f, h);
}
  where
    inside : node < length counts
    inside = let l = s.items in omega (arith, within, l)

    here : v ≡ slice_index counts node
    here = value ∙ get_or_default_zero counts node v (let l = s.items in omega (arith, within, l))

    by : (other : ℕ) → other < nodes → ((eqb node other ≡ true) × (node ≡ other)) ⊎ ((eqb node other ≡ false) × (node ≢ other)) →
        slice_index (set counts node (v + 1)) other ≡ (if node == other then passes other past + 1 else passes other past)
    by other w (inl p) =
        ap (slice_index (set counts node (v + 1))) (sym p.1)
        ∙ get_or-set_same counts node (v + 1) 0 (let l = s.items in omega (arith, within, l))
        ∙ ap (λ k. k + 1) (value ∙ get_or_default_zero counts node v (let l = s.items in omega (arith, within, l)) ∙ s.counts_are node within ∙ ap (λ q. passes q past) p.1)
        ∙ ap (λ b. if b then passes other past + 1 else passes other past) (sym p.0)
    by other w (inr p) =
        get_or-set_other counts node other (v + 1) 0 (λ e. p.1 (sym e)) ∙ s.counts_are other w
        ∙ ap (λ b. if b then passes other past + 1 else passes other past) (sym p.0)

    low : (other : ℕ) → other < nodes → ((eqb node other ≡ true) × (node ≡ other)) ⊎ ((eqb node other ≡ false) × (node ≢ other)) →
        slice_index (set counts node (v + 1)) other ≤ i + 1
    low other w (inl p) =
        let e = p.1 in
        let same = ap (slice_index (set counts node (v + 1))) (sym p.1)
        ∙ get_or-set_same counts node (v + 1) 0 (let l = s.items in omega (arith, within, l)) in
        let h : v ≡ slice_index counts node = value ∙ get_or_default_zero counts node v (let l = s.items in omega (arith, within, l)) in
        let f = s.few node within in omega (arith, same, h, f)
    low other w (inr p) =
        let same = get_or-set_other counts node other (v + 1) 0 (λ e. p.1 (sym e)) in
        let f = s.few other w in omega (arith, same, f)

pub on_node : (nodes node : ℕ) (entry : Entry) → entry ≡ Passed node → IsOn nodes entry → node < nodes
on_node nodes node entry e on = subst (IsOn nodes) e on

zeros : (n k : ℕ) → slice_index (replicate n 0) k ≡ 0
zeros zero k = refl
zeros (suc n) zero = refl
zeros (suc n) (suc k) = zeros n k

pub all_zero : (n : ℕ) (xs : List ℕ) → xs ≡ replicate n 0 → (k : ℕ) → slice_index xs k ≡ 0
all_zero n xs e k = ap (λ ys. slice_index ys k) e ∙ zeros n k

pub take_whole : {X : Type 0} (xs : List X) (i : ℕ) → length xs ≤ i → take i xs ≡ xs
take_whole [] zero w = refl
take_whole [] (suc i) w = refl
take_whole (x ∷ xs) zero w = absurd (omega (arith, w))
take_whole (x ∷ xs) (suc i) w = ap (λ ys. x ∷ ys) (take_whole xs i (omega (arith, w)))

pub max_comm : (a b : ℕ) → max a b ≡ max b a
max_comm a b = omega arith
