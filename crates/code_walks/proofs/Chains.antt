-- Where instructions stand: from items, each instruction but the last of a run is followed by the next of its run, and an item
-- begins outside of the runs or at the beginning of one.
use Rattle.std.proofs.Common.{◌≡◌, inl, inr, ℕ, zero, suc, ◌+◌, ◌<◌, List, [], ◌∷◌, ◌++◌, length, map, Option, Some, None, slice_get, refl, sym, ap, ◌∙◌, subst, arith}
use Rattle.std.proofs.lemmas.List.{length-append}
use Rattle.sc_isa.specs.declared.op.Op.{Op}
use Rattle.sc_isa.specs.declared.op.Op.TheVariants as op
use Rattle.sc_isa.specs.declared.op.Instr.{Instr}
use Rattle.site_graph.specs.declared.plan.Plan.{Plan}
use Rattle.site_graph.specs.Plans.{waits_at}
use Rattle.node_emit.specs.Runs.{instr, run_width}
use Rattle.node_emit.specs.Stands.{Stands, waits_from, flat}
use Rattle.node_emit.specs.Carries.{Follows}
use Rattle.emit_laws.proofs.Parts.{In}
use Rattle.emit_laws.proofs.Items.{Item, glue, runs, item_width, instrs_of, all_instrs, stands_ops, stands_of, all_stands}
use Rattle.code_walks.proofs.Bounds.{IsStraight, GlueOk, LastOk, OpsOk, AllOk, Boundary}

append_all : {A : Type 0} (xs ys zs : List A) → (xs ++ ys) ++ zs ≡ xs ++ (ys ++ zs)
append_all [] ys zs = refl
append_all (x ∷ xs) ys zs = ap (λ l. x ∷ l) (append_all xs ys zs)

-- so many of a run, from this number on
abbrev pub numbered : (t n m : ℕ) → List (Option Stands)
numbered t n zero = []
numbered t n (suc m) = Some (record { point = t; number = n }) ∷ numbered t (n + 1) m

waits_numbered : (t n : ℕ) (ws : List ℕ) → waits_from t n ws ≡ numbered t n (length ws)
waits_numbered t n [] = refl
waits_numbered t n (w ∷ ws) = ap (λ l. Some (record { point = t; number = n }) ∷ l) (waits_numbered t (n + 1) ws)

numbered_append : (t n a b : ℕ) → numbered t n a ++ numbered t (n + a) b ≡ numbered t n (a + b)
numbered_append t n zero b = let e : n + 0 ≡ n = omega arith in let f : 0 + b ≡ b = omega arith in ap (λ k. numbered t k b) e ∙ ap (λ k. numbered t n k) (sym f)
numbered_append t n (suc a) b =
    let e : n + suc a ≡ n + 1 + a = omega arith in
    let f : suc (a + b) ≡ suc a + b = omega arith in
    ap (λ l. Some (record { point = t; number = n }) ∷ l) (ap (λ k. numbered t (n + 1) a ++ numbered t k b) e ∙ numbered_append t (n + 1) a b)
    ∙ ap (λ k. numbered t n k) f

numbered_length : (t n m : ℕ) → length (numbered t n m) ≡ m
numbered_length t n zero = refl
numbered_length t n (suc m) = ap suc (numbered_length t (n + 1) m)

module _ (plan : Plan) where
  ops_numbered : (t n : ℕ) (ops : List Op) → stands_ops plan t n ops ≡ numbered t n (length ops)
  ops_numbered t n [] = refl
  ops_numbered t n (o ∷ ops) = ap (λ l. Some (record { point = t; number = n }) ∷ l) (ops_numbered t (n + 1) ops)

  -- the places of a run
  pub run_numbered : (t : ℕ) (o : Op) (more : List Op)
      → waits_from t 0 (waits_at plan t) ++ stands_ops plan t (length (waits_at plan t)) (o ∷ more) ≡ numbered t 0 (suc (length (waits_at plan t) + length more))
  run_numbered t o more =
      let k = length (waits_at plan t) in
      let z : k ≡ 0 + k = omega arith in
      let e : k + suc (length more) ≡ suc (k + length more) = omega arith in
      ap (λ l. l ++ stands_ops plan t k (o ∷ more)) (waits_numbered t 0 (waits_at plan t))
      ∙ ap (λ l. numbered t 0 k ++ l) (ops_numbered t k (o ∷ more) ∙ ap (λ n. numbered t n (suc (length more))) z)
      ∙ numbered_append t 0 k (suc (length more)) ∙ ap (λ m. numbered t 0 m) e

  module _ (len : ℕ → ℕ) where
    -- outside of the runs, or the last of its run
    abbrev pub IsOver : Option Stands → Type 0
    IsOver s = Follows len s None

    -- outside of the runs, or the first of one
    abbrev pub IsEntry : Option Stands → Type 0
    IsEntry s = Follows len None s

    pub over_entry : (s next : Option Stands) → IsOver s → IsEntry next → Follows len s next
    over_entry None next o e = e
    over_entry (Some s) None o e = o
    over_entry (Some s) (Some next) o e = inl (e, o)

    -- how long the runs are
    abbrev pub AreLong : List Item → Type 0
    AreLong [] = Unit {0}
    AreLong (glue o ∷ is) = AreLong is
    AreLong (runs t line o more ∷ is) = (len t ≡ run_width plan t (length (o ∷ more))) × AreLong is

    abbrev pub Chain : Option Stands → List (Option Stands) → Type 0
    Chain before [] = IsOver before
    Chain before (s ∷ ss) = (Follows len before s × (IsOver before → IsEntry s)) × Chain s ss

    chain_numbered : (before : Option Stands) (t n m : ℕ) (rest : List (Option Stands))
        → Follows len before (Some (record { point = t; number = n })) × (IsOver before → n ≡ 0)
        → n + suc m ≡ len t → ((s : Option Stands) → IsOver s → Chain s rest) → Chain before (numbered t n (suc m) ++ rest)
    chain_numbered before t n zero rest f e next = (f, next (Some (record { point = t; number = n })) (omega (arith, e)))
    chain_numbered before t n (suc m) rest f e next =
        (f, chain_numbered (Some (record { point = t; number = n })) t (n + 1) m rest (inr (refl, refl), λ o. omega (arith, o, e)) (omega (arith, e)) next)

    chain_items : (is : List Item) → AreLong is → (before : Option Stands) → IsOver before → Chain before (all_stands plan is)
    chain_items [] l before o = o
    chain_items (glue x ∷ is) l before o = ((over_entry before None o tt, λ o. tt), chain_items is l None tt)
    chain_items (runs t line x more ∷ is) l before o =
        subst (λ ss. Chain before (ss ++ all_stands plan is)) (sym (run_numbered t x more))
        (chain_numbered before t 0 (length (waits_at plan t) + length more) (all_stands plan is)
        (over_entry before (Some (record { point = t; number = 0 })) o refl, λ o. refl) (omega (arith, l.0)) (λ s o. chain_items is l.1 s o))

    -- an instruction and the next one
    pub record Pair (s next : Option Stands) : Type 0 where
      pub follows : Follows len s next
      pub enters : IsOver s → IsEntry next

    chain_at : (ss : List (Option Stands)) (before : Option Stands) → Chain before ss → (k : ℕ) → Pair (flat (slice_get ss k)) (flat (slice_get ss (suc k)))
    chain_at [] before c k = record { follows = tt; enters = λ o. tt }
    chain_at (s ∷ []) before c zero = record { follows = c.1; enters = λ o. tt }
    chain_at (s ∷ next ∷ ss) before c zero = record { follows = c.1.0.0; enters = c.1.0.1 }
    chain_at (s ∷ ss) before c (suc k) = chain_at ss s c.1 k

    -- an instruction is followed by the next of its run, or is the last of it
    pub next_follows : (is : List Item) → AreLong is → (k : ℕ) → Pair (flat (slice_get (all_stands plan is) k)) (flat (slice_get (all_stands plan is) (k + 1)))
    next_follows is l k =
        let e : suc k ≡ k + 1 = omega arith in
        subst (λ n. Pair (flat (slice_get (all_stands plan is) k)) (flat (slice_get (all_stands plan is) n))) e (chain_at (all_stands plan is) None (chain_items is l None tt) k)

    get_seam : (xs ys : List (Option Stands)) → slice_get (xs ++ ys) (length xs) ≡ slice_get ys 0
    get_seam [] ys = refl
    get_seam (x ∷ xs) ys = get_seam xs ys

    first_entry : (i : Item) (is : List Item) → IsEntry (flat (slice_get (stands_of plan i ++ all_stands plan is) 0))
    first_entry (glue o) is = tt
    first_entry (runs t line o more) is = subst (λ ss. IsEntry (flat (slice_get (ss ++ all_stands plan is) 0))) (sym (run_numbered t o more)) refl

    item_length : (i : Item) → length (stands_of plan i) ≡ item_width plan i
    item_length (glue o) = refl
    item_length (runs t line o more) =
        ap (λ ss. length ss) (run_numbered t o more) ∙ numbered_length t 0 (suc (length (waits_at plan t) + length more)) ∙ (let e : suc (length (waits_at plan t) + length more) ≡ length (waits_at plan t) + suc (length more) = omega arith in e)

    -- where items begin and end
    pub bound_entry : (is : List Item) (before : List (Option Stands)) (pc q : ℕ) → pc ≡ length before → Boundary plan pc is q
        → IsEntry (flat (slice_get (before ++ all_stands plan is) q))
    bound_entry [] before pc q e b = subst (λ n. IsEntry (flat (slice_get (before ++ []) n))) (sym (b ∙ e)) (subst (λ o. IsEntry (flat o)) (sym (get_seam before [])) tt)
    bound_entry (i ∷ is) before pc q e (inl b) =
        subst (λ n. IsEntry (flat (slice_get (before ++ all_stands plan (i ∷ is)) n))) (sym (b ∙ e))
        (subst (λ o. IsEntry (flat o)) (sym (get_seam before (all_stands plan (i ∷ is)))) (first_entry i is))
    bound_entry (i ∷ is) before pc q e (inr b) =
        let l = length-append before (stands_of plan i) in
        let m = item_length i in
        subst (λ ss. IsEntry (flat (slice_get ss q))) (append_all before (stands_of plan i) (all_stands plan is))
        (bound_entry is (before ++ stands_of plan i) (pc + item_width plan i) q (omega (arith, e, l, m)) b)

  -- ---- instructions beside their places

  module _ (P : Option Stands → Op → Type 0) where
    abbrev pub Both : List Instr → List (Option Stands) → Type 0
    Both [] [] = Unit {0}
    Both (i ∷ is) (s ∷ ss) = P s i.op × Both is ss
    Both _ _ = ⊥

    both_append : (a : List Instr) (x : List (Option Stands)) (b : List Instr) (y : List (Option Stands)) → Both a x → Both b y → Both (a ++ b) (x ++ y)
    both_append [] [] b y h k = k
    both_append [] (s ∷ x) b y h k = absurd h
    both_append (i ∷ a) [] b y h k = absurd h
    both_append (i ∷ a) (s ∷ x) b y h k = (h.0, both_append a x b y h.1 k)

    pub both_at : (is : List Instr) (ss : List (Option Stands)) → Both is ss → (k : ℕ) (i : Instr) → slice_get is k ≡ Some i → P (flat (slice_get ss k)) i.op
    both_at [] ss h k i e = absurd (cc)
    both_at (x ∷ is) [] h k i e = absurd h
    both_at (x ∷ is) (s ∷ ss) h zero i e = let same : x ≡ i = cc in subst (λ (j : Instr). P s j.op) same h.0
    both_at (x ∷ is) (s ∷ ss) h (suc k) i e = both_at is ss h.1 k i e

    abbrev pub OpsAre : (t n : ℕ) → List Op → Type 0
    OpsAre t n [] = Unit {0}
    OpsAre t n (o ∷ ops) = P (Some (record { point = t; number = n })) o × OpsAre t (n + 1) ops

    abbrev pub ItemsAre : List Item → Type 0
    ItemsAre [] = Unit {0}
    ItemsAre (glue o ∷ is) = P None o × ItemsAre is
    ItemsAre (runs t line o more ∷ is) =
        ((n w : ℕ) → n < length (waits_at plan t) → In w (waits_at plan t) → P (Some (record { point = t; number = n })) (op.Wait w))
        × OpsAre t (length (waits_at plan t)) (o ∷ more) × ItemsAre is

    both_waits : (t n line all : ℕ) (ws : List ℕ) → n + length ws ≡ all → ((n w : ℕ) → n < all → In w ws → P (Some (record { point = t; number = n })) (op.Wait w))
        → Both (map (λ site. instr line (op.Wait site)) ws) (waits_from t n ws)
    both_waits t n line all [] e h = tt
    both_waits t n line all (w ∷ ws) e h = (h n w (omega (arith, e)) (inl refl), both_waits t (n + 1) line all ws (omega (arith, e)) (λ n x l i. h n x l (inr i)))

    both_ops : (t n line : ℕ) (ops : List Op) → OpsAre t n ops → Both (map (instr line) ops) (stands_ops plan t n ops)
    both_ops t n line [] h = tt
    both_ops t n line (o ∷ ops) h = (h.0, both_ops t (n + 1) line ops h.1)

    pub both_items : (is : List Item) → ItemsAre is → Both (all_instrs plan is) (all_stands plan is)
    both_items [] h = tt
    both_items (glue o ∷ is) h = (h.0, both_items is h.1)
    both_items (runs t line o more ∷ is) h =
        both_append (instrs_of plan (runs t line o more)) (stands_of plan (runs t line o more)) (all_instrs plan is) (all_stands plan is)
        (both_append (map (λ site. instr line (op.Wait site)) (waits_at plan t)) (waits_from t 0 (waits_at plan t)) (map (instr line) (o ∷ more))
        (stands_ops plan t (length (waits_at plan t)) (o ∷ more)) (both_waits t 0 line (length (waits_at plan t)) (waits_at plan t) (omega arith) h.0)
        (both_ops t (length (waits_at plan t)) line (o ∷ more) h.1))
        (both_items is h.2)

  -- ---- instructions that lead elsewhere end their runs

  module _ (len : ℕ → ℕ) (Ok : ℕ → Type 0) where
    abbrev pub Leaves : Option Stands → Op → Type 0
    Leaves s (op.Jump target) = IsOver len s × Ok target
    Leaves s (op.Zero target) = IsOver len s × Ok target
    Leaves s (op.Call f) = IsOver len s
    Leaves s op.Ret = IsOver len s
    Leaves s _ = Unit {0}

    glue_leaves : (o : Op) → GlueOk Ok o → Leaves None o
    glue_leaves (op.Jump t) h = (tt, h)
    glue_leaves (op.Zero t) h = absurd h
    glue_leaves (op.Call f) h = absurd h
    glue_leaves op.Ret h = absurd h
    glue_leaves o h = tt

    last_leaves : (s : Option Stands) (o : Op) → IsOver len s → LastOk Ok o → Leaves s o
    last_leaves s (op.Jump t) l h = (l, h)
    last_leaves s (op.Zero t) l h = (l, h)
    last_leaves s (op.Call f) l h = l
    last_leaves s op.Ret l h = l
    last_leaves s o l h = tt

    straight_leaves : (s : Option Stands) (o : Op) → IsStraight o → Leaves s o
    straight_leaves s (op.Jump t) h = absurd h
    straight_leaves s (op.Zero t) h = absurd h
    straight_leaves s (op.Call f) h = absurd h
    straight_leaves s op.Ret h = absurd h
    straight_leaves s o h = tt

    ops_leave : (t n : ℕ) (o : Op) (more : List Op) → n + suc (length more) ≡ len t → OpsOk Ok o more → OpsAre Leaves t n (o ∷ more)
    ops_leave t n o [] e h = (last_leaves (Some (record { point = t; number = n })) o (omega (arith, e)) h, tt)
    ops_leave t n o (next ∷ more) e h = (straight_leaves (Some (record { point = t; number = n })) o h.0, ops_leave t (n + 1) next more (omega (arith, e)) h.1)

    items_leave : (is : List Item) → AreLong len is → AllOk Ok is → ItemsAre Leaves is
    items_leave [] l h = tt
    items_leave (glue o ∷ is) l h = (glue_leaves o h.0, items_leave is l h.1)
    items_leave (runs t line o more ∷ is) l h =
        ((λ n w l i. tt), ops_leave t (length (waits_at plan t)) o more (sym l.0) h.0, items_leave is l.1 h.1)

    -- what an instruction that leads elsewhere is
    pub leaves_at : (is : List Item) → AreLong len is → AllOk Ok is → (k : ℕ) (i : Instr) → slice_get (all_instrs plan is) k ≡ Some i
        → Leaves (flat (slice_get (all_stands plan is) k)) i.op
    leaves_at is l h k i e = both_at Leaves (all_instrs plan is) (all_stands plan is) (both_items Leaves is (items_leave is l h)) k i e
