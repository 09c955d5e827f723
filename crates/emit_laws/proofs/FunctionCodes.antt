-- Each function's code lies where its row says.
use Rattle.std.proofs.Common.{◌≡◌, ℕ, zero, suc, ◌+◌, List, [], ◌∷◌, length, Some, false, slice_get, refl, sym, ap, subst, arith}
use Rattle.sc_isa.specs.declared.code.FnRow.{FnRow}
use Rattle.sc_isa.specs.declared.op.Op.TheVariants as op
use Rattle.sc_core.specs.Core.{Function}
use Rattle.sc_core.specs.Statements.{zero_of}
use Rattle.sc_meaning.specs.Points.{size_of, first_from}
use Rattle.flow_form.specs.Accesses.{accesses_in}
use Rattle.site_graph.specs.declared.plan.Plan.{Plan}
use Rattle.site_graph.specs.Plans.{waits_at}
use Rattle.node_emit.specs.Runs.{goes_one_way, run_width, constant_op}
use Rattle.node_emit.specs.Widths.{width_in, width_of}
use Rattle.node_emit.specs.Sources.{locals_of, rows_from}
use Rattle.node_emit.specs.Law.{is_empty}
use Rattle.emit_laws.proofs.Parts.{Setup, PointAt, OutsideAt, Lie}
use Rattle.emit_laws.proofs.Items.{glue, item_of, total, items_in, function_items, functions_items}
use Rattle.emit_laws.proofs.Placed.{sum2, item_total, HasItems, front, back, run_of, outside_lies}
use Rattle.emit_laws.proofs.PlacedStatements.{total_in, FormedIn, lie}

-- how many sites come before the function with this number, of which so many before the first
abbrev pub sites_before : (s : ℕ) → List Function → (function : ℕ) → ℕ
sites_before s [] f = s
sites_before s (g ∷ more) zero = s
sites_before s (g ∷ more) (suc f) = sites_before (s + accesses_in g.body) more f

module _ (c : Setup) (plan : Plan) (waits : (t : ℕ) → c.waits t ≡ waits_at plan t) (one_way : (site : ℕ) → c.one_way site ≡ goes_one_way plan site) where
  -- the function's code, where its first point is k, and so many sites come before it
  pub record CodeAt (g : Function) (k sites : ℕ) (row : FnRow) : Type 0 where
    pub params : row.params ≡ length g.params
    pub room : row.locals ≡ length g.params + length g.others
    pub end : ℕ
    pub last : ℕ
    pub over : ℕ
    pub lies : Lie c g.body (k + 1) sites 0 0 row.start end
    pub zero_at : OutsideAt c end (constant_op (zero_of g.result)) last
    pub return_at : PointAt c (k + 1 + size_of g.body) last (op.Ret ∷ []) g.line over

  -- the body is formed, and the point at its end is not empty
  abbrev pub FunctionFormed : Function → (k s : ℕ) → Type 0
  FunctionFormed g k s = FormedIn c plan waits one_way g.body (k + 1) s × (is_empty c.here.program (k + 1 + size_of g.body) ≡ false)

  abbrev pub AllFormed : List Function → (k s : ℕ) → Type 0
  AllFormed [] k s = Unit {0}
  AllFormed (g ∷ more) k s = FunctionFormed g k s × AllFormed more (k + size_of g.body + 2) (s + accesses_in g.body)

  row_of : Function → (pc : ℕ) → FnRow
  row_of g pc = record { start = pc; params = length g.params; locals = locals_of g }

  code_at : (g : Function) (k s pc : ℕ) → FunctionFormed g k s → HasItems c plan waits one_way pc (function_items plan g k s pc)
      → CodeAt g k s (record { start = pc; params = length g.params; locals = locals_of g })
  code_at g k s pc formed h =
      let t = k + 1 + size_of g.body in
      let end = pc + width_in plan g.body (k + 1) in
      let a = items_in plan g.body (k + 1) s 0 0 pc in
      let b = glue (constant_op (zero_of g.result)) ∷ item_of t g.line (op.Ret ∷ []) in
      let behind = back c plan waits one_way pc end a b (ap (λ n. pc + n) (sym (total_in plan g.body (k + 1) s 0 0 pc))) h in
      record {
        params = refl;
        room = refl;
        end = end;
        last = end + 1;
        over = end + 1 + run_width plan t 1;
        lies = lie c plan waits one_way g.body (k + 1) s 0 0 pc end formed.0 (front c plan waits one_way pc a b h) refl;
        zero_at = outside_lies c plan waits one_way end (end + 1) (constant_op (zero_of g.result)) behind.0 refl;
        return_at = run_of c plan waits one_way t g.line (end + 1) (end + 1 + run_width plan t 1) (op.Ret ∷ []) tt formed.1 behind.1 refl;
      }

  function_total : (g : Function) (k s pc : ℕ) → total plan (function_items plan g k s pc) ≡ width_of plan g k
  function_total g k s pc =
      let t = k + 1 + size_of g.body in
      let h : total plan (function_items plan g k s pc) ≡ width_in plan g.body (k + 1) + (1 + run_width plan t 1) =
      sum2 plan _ _ _ _ (total_in plan g.body (k + 1) s 0 0 pc) (ap (λ n. 1 + n) (item_total plan t g.line (op.Ret ∷ []) tt)) in
      omega (arith, h)

  -- the function with this number
  pub codes_at : (fs : List Function) (k s pc f : ℕ) (g : Function) → AllFormed fs k s → HasItems c plan waits one_way pc (functions_items plan fs k s pc)
      → slice_get fs f ≡ Some g → (row : FnRow) × (slice_get (rows_from plan fs k pc) f ≡ Some row) × CodeAt g (first_from k fs f) (sites_before s fs f) row
  codes_at [] k s pc f g formed h e = absurd (cc)
  codes_at (x ∷ more) k s pc zero g formed h e =
      let same : x ≡ g = cc in
      let row : FnRow = record { start = pc; params = length x.params; locals = locals_of x } in
      (row, refl, subst (λ y. CodeAt y k s row) same (code_at x k s pc formed.0 (front c plan waits one_way pc _ _ h)))
  codes_at (x ∷ more) k s pc (suc f) g formed h e =
      codes_at more (k + size_of x.body + 2) (s + accesses_in x.body) (pc + width_of plan x k) f g formed.1
      (back c plan waits one_way pc (pc + width_of plan x k) (function_items plan x k s pc) _ (ap (λ n. pc + n) (sym (function_total x k s pc))) h) e
