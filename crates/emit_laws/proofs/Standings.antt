-- The items of a source stand in its code, and where their pieces say.
use Rattle.std.proofs.Common.{◌≡◌, ℕ, suc, ◌+◌, List, [], ◌∷◌, ◌++◌, length, map, Option, Some, slice_get, refl, sym, ap, ◌∙◌, subst, arith}
use Rattle.std.proofs.lemmas.List.{length-append, length-map}
use Rattle.sc_isa.specs.declared.op.Op.{Op}
use Rattle.sc_isa.specs.declared.op.Op.TheVariants as op
use Rattle.sc_isa.specs.declared.op.Instr.{Instr}
use Rattle.site_graph.specs.declared.plan.Plan.{Plan}
use Rattle.site_graph.specs.Plans.{waits_at}
use Rattle.node_emit.specs.Runs.{goes_one_way, instr, run_width}
use Rattle.node_emit.specs.Stands.{Stands, waits_from, stands_at, flat}
use Rattle.emit_laws.proofs.Parts.{Setup, RunAt}
use Rattle.emit_laws.proofs.Items.{Item, glue, runs, all_instrs, all_stands, all_pieces, stands_ops, stands_are}
use Rattle.emit_laws.proofs.Placed.{HasItems}

append_one : {A : Type 0} (xs : List A) (x : A) (ys : List A) → (xs ++ x ∷ []) ++ ys ≡ xs ++ x ∷ ys
append_one [] x ys = refl
append_one (y ∷ xs) x ys = ap (λ l. y ∷ l) (append_one xs x ys)

get_seam : {A : Type 0} (xs : List A) (x : A) (ys : List A) → slice_get (xs ++ x ∷ ys) (length xs) ≡ Some x
get_seam [] x ys = refl
get_seam (y ∷ xs) x ys = get_seam xs x ys

module _ (c : Setup) (plan : Plan) (waits : (t : ℕ) → c.waits t ≡ waits_at plan t) (one_way : (site : ℕ) → c.one_way site ≡ goes_one_way plan site) where
  abbrev HasInstrs : ℕ → List Instr → Type 0
  HasInstrs pc [] = Unit {0}
  HasInstrs pc (i ∷ is) = (slice_get c.code.instrs pc ≡ Some i) × HasInstrs (pc + 1) is

  abbrev HasStands : ℕ → List (Option Stands) → Type 0
  HasStands pc [] = Unit {0}
  HasStands pc (s ∷ ss) = (c.stands pc ≡ s) × HasStands (pc + 1) ss

  instrs_from : (pc : ℕ) (xs ys : List Instr) → pc ≡ length xs → c.code.instrs ≡ xs ++ ys → HasInstrs pc ys
  instrs_from pc xs [] e whole = tt
  instrs_from pc xs (y ∷ ys) e whole = (
    ap (λ l. slice_get l pc) whole ∙ ap (slice_get (xs ++ y ∷ ys)) e ∙ get_seam xs y ys,
    instrs_from (pc + 1) (xs ++ y ∷ []) ys (let l = length-append xs (y ∷ []) in omega (arith, e, l)) (whole ∙ sym (append_one xs y ys)),
  )

  stands_from_ : (all : List (Option Stands)) (pc : ℕ) (xs ys : List (Option Stands)) → ((pc : ℕ) → c.stands pc ≡ flat (slice_get all pc)) → pc ≡ length xs → all ≡ xs ++ ys → HasStands pc ys
  stands_from_ all pc xs [] at_ e whole = tt
  stands_from_ all pc xs (y ∷ ys) at_ e whole = (
    at_ pc ∙ ap (λ l. flat (slice_get l pc)) whole ∙ ap (λ n. flat (slice_get (xs ++ y ∷ ys) n)) e ∙ ap flat (get_seam xs y ys),
    stands_from_ all (pc + 1) (xs ++ y ∷ []) ys at_ (let l = length-append xs (y ∷ []) in omega (arith, e, l)) (whole ∙ sym (append_one xs y ys)),
  )

  instrs_back : (pc q : ℕ) (a b : List Instr) → q ≡ pc + length a → HasInstrs pc (a ++ b) → HasInstrs q b
  instrs_back pc q [] b e h = let f : pc ≡ q = omega (arith, e) in subst (λ n. HasInstrs n b) f h
  instrs_back pc q (i ∷ a) b e h = instrs_back (pc + 1) q a b (omega (arith, e)) h.1

  instrs_front : (pc : ℕ) (a b : List Instr) → HasInstrs pc (a ++ b) → HasInstrs pc a
  instrs_front pc [] b h = tt
  instrs_front pc (i ∷ a) b h = (h.0, instrs_front (pc + 1) a b h.1)

  stands_back : (pc q : ℕ) (a b : List (Option Stands)) → q ≡ pc + length a → HasStands pc (a ++ b) → HasStands q b
  stands_back pc q [] b e h = let f : pc ≡ q = omega (arith, e) in subst (λ n. HasStands n b) f h
  stands_back pc q (i ∷ a) b e h = stands_back (pc + 1) q a b (omega (arith, e)) h.1

  stands_front : (pc : ℕ) (a b : List (Option Stands)) → HasStands pc (a ++ b) → HasStands pc a
  stands_front pc [] b h = tt
  stands_front pc (i ∷ a) b h = (h.0, stands_front (pc + 1) a b h.1)

  -- a run whose waits and instructions stand there
  ops_at : (t n pc line end : ℕ) (ops : List Op) → HasInstrs pc (map (instr line) ops) → HasStands pc (stands_ops plan t n ops) → end ≡ pc + length ops → RunAt c t n pc [] ops line end
  ops_at t n pc line end [] i s e = omega (arith, e)
  ops_at t n pc line end (o ∷ ops) i s e = (s.0, i.0, ops_at t (n + 1) (pc + 1) line end ops i.1 s.1 (omega (arith, e)))

  waits_at_ : (t n m pc line end : ℕ) (ws : List ℕ) (ops : List Op) → HasInstrs pc (map (λ site. instr line (op.Wait site)) ws ++ map (instr line) ops)
      → HasStands pc (waits_from t n ws ++ stands_ops plan t m ops) → m ≡ n + length ws → end ≡ pc + (length ws + length ops) → RunAt c t n pc ws ops line end
  waits_at_ t n m pc line end [] ops i s e f =
      let g : m ≡ n = omega (arith, e) in
      only_ops ops i f (subst (λ m. HasStands pc (stands_ops plan t m ops)) g s)
    where
      only_ops : (ops : List Op) → HasInstrs pc (map (instr line) ops) → end ≡ pc + (0 + length ops) → HasStands pc (stands_ops plan t n ops) → RunAt c t n pc [] ops line end
      only_ops ops i f s = ops_at t n pc line end ops i s (omega (arith, f))
  waits_at_ t n m pc line end (w ∷ ws) ops i s e f = (s.0, i.0, waits_at_ t (n + 1) m (pc + 1) line end ws ops i.1 s.1 (omega (arith, e)) (omega (arith, f)))

  waits_length : (t n : ℕ) (ws : List ℕ) → length (waits_from t n ws) ≡ length ws
  waits_length t n [] = refl
  waits_length t n (w ∷ ws) = ap suc (waits_length t (n + 1) ws)

  ops_length : (t n : ℕ) (ops : List Op) → length (stands_ops plan t n ops) ≡ length ops
  ops_length t n [] = refl
  ops_length t n (o ∷ ops) = ap suc (ops_length t (n + 1) ops)

  items_at : (pc : ℕ) (is : List Item) → HasInstrs pc (all_instrs plan is) → HasStands pc (all_stands plan is) → HasItems c plan waits one_way pc is
  items_at pc [] i s = tt
  items_at pc (glue o ∷ is) i s = (record { none = s.0; is = i.0; ends = refl }, items_at (pc + 1) is i.1 s.1)
  items_at pc (runs t line o more ∷ is) i s =
      let ws = waits_at plan t in
      let a = map (λ site. instr line (op.Wait site)) ws ++ map (instr line) (o ∷ more) in
      let b = waits_from t 0 ws ++ stands_ops plan t (length ws) (o ∷ more) in
      let q = pc + run_width plan t (length (o ∷ more)) in
      let la = length-append (map (λ site. instr line (op.Wait site)) ws) (map (instr line) (o ∷ more)) in
      let lw = length-map ws (λ site. instr line (op.Wait site)) in
      let lo = length-map (o ∷ more) (instr line) in
      let lb = length-append (waits_from t 0 ws) (stands_ops plan t (length ws) (o ∷ more)) in
      let mw = waits_length t 0 ws in
      let mo = ops_length t (length ws) (o ∷ more) in (
        waits_at_ t 0 (length ws) pc line q ws (o ∷ more) (instrs_front pc a (all_instrs plan is) i) (stands_front pc b (all_stands plan is) s) (omega arith) refl,
        items_at q is (instrs_back pc q a (all_instrs plan is) (omega (arith, la, lw, lo)) i) (stands_back pc q b (all_stands plan is) (omega (arith, lb, mw, mo)) s),
      )

  -- the code is these items, and each instruction stands where their pieces say
  pub items_stand : (is : List Item) → c.code.instrs ≡ all_instrs plan is → ((pc : ℕ) → c.stands pc ≡ stands_at plan (all_pieces plan is) pc) → HasItems c plan waits one_way 0 is
  items_stand is e at_ =
      items_at 0 is (instrs_from 0 [] (all_instrs plan is) refl e)
      (stands_from_ (all_stands plan is) 0 [] (all_stands plan is) (λ pc. at_ pc ∙ ap (λ l. flat (slice_get l pc)) (stands_are plan 0 is)) refl refl)
