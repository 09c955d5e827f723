-- A typed expression of the code as plain data.
use Rattle.std.specs.Prelude.{List, [], ◌∷◌}
use Rattle.sc_tree.specs.PlainTyped.{TypedExpression, typed_expression, TypedForm, number, null, my_proc, procs, size_int, name, format, chain, both, either, choice, assign, step, plus, prefix, deref, address, cast, postfix, call, convert, printf, sync, barrier, all_store_sync, to_global, to_proc, to_local, bulk_read, bulk_write, bulk_get, bulk_put, bulk_store, TypedExpressions, no_expressions, expressions, TypedLink, link, TypedLinks, no_links, links, TypedTail, index, up, down, TypedTails, no_tails, tails}
use Rattle.sc_tree.specs.declared.typed.TypedExpr.{TypedExpr, fold-TypedExpr}
use Rattle.sc_tree.specs.declared.typed.TypedLink.{TypedLink as CodeLink, fold-TypedLink}
use Rattle.sc_tree.specs.declared.typed.TypedTail.{TypedTail as CodeTail, fold-TypedTail}
use Rattle.sc_tree.specs.declared.typed.TypedKind.{TypedKind, fold-TypedKind}
use Rattle.sc_tree.specs.declared.typed.TypedKind.TheOpen.{TypedKind-F, TypedTail-F, TypedExpr-F, TypedLink-F}

abbrev pub typed_expressions_of : List TypedExpression → TypedExpressions
typed_expressions_of [] = no_expressions
typed_expressions_of (e ∷ more) = expressions e (typed_expressions_of more)

abbrev pub typed_links_of : List TypedLink → TypedLinks
typed_links_of [] = no_links
typed_links_of (l ∷ more) = links l (typed_links_of more)

abbrev pub typed_tails_of : List TypedTail → TypedTails
typed_tails_of [] = no_tails
typed_tails_of (t ∷ more) = tails t (typed_tails_of more)

abbrev pub typed_kind_step : TypedKind-F TypedForm TypedTail TypedExpression TypedLink → TypedForm
typed_kind_step (TypedKind-F.Number n) = number n
typed_kind_step TypedKind-F.Null = null
typed_kind_step TypedKind-F.MyProc = my_proc
typed_kind_step TypedKind-F.Procs = procs
typed_kind_step TypedKind-F.SizeInt = size_int
typed_kind_step (TypedKind-F.Name n) = name n
typed_kind_step (TypedKind-F.Format n) = format n
typed_kind_step (TypedKind-F.Chain first rest) = chain first (typed_links_of rest)
typed_kind_step (TypedKind-F.And all) = both (typed_expressions_of all)
typed_kind_step (TypedKind-F.Or all) = either (typed_expressions_of all)
typed_kind_step (TypedKind-F.Cond a b c) = choice a b c
typed_kind_step (TypedKind-F.Assign op left right) = assign op left right
typed_kind_step (TypedKind-F.Step is_up place) = step is_up place
typed_kind_step (TypedKind-F.Plus e) = plus e
typed_kind_step (TypedKind-F.Prefix op e) = prefix op e
typed_kind_step (TypedKind-F.Deref e) = deref e
typed_kind_step (TypedKind-F.Address e) = address e
typed_kind_step (TypedKind-F.Cast stars e) = cast stars e
typed_kind_step (TypedKind-F.Postfix first rest) = postfix first (typed_tails_of rest)
typed_kind_step (TypedKind-F.Call n args) = call n (typed_expressions_of args)
typed_kind_step (TypedKind-F.Convert ty e) = convert ty e
typed_kind_step (TypedKind-F.Printf n args) = printf n (typed_expressions_of args)
typed_kind_step TypedKind-F.Sync = sync
typed_kind_step TypedKind-F.Barrier = barrier
typed_kind_step TypedKind-F.AllStoreSync = all_store_sync
typed_kind_step (TypedKind-F.ToGlobal node e) = to_global node e
typed_kind_step (TypedKind-F.ToProc e) = to_proc e
typed_kind_step (TypedKind-F.ToLocal e) = to_local e
typed_kind_step (TypedKind-F.BulkRead to from bytes) = bulk_read to from bytes
typed_kind_step (TypedKind-F.BulkWrite to from bytes) = bulk_write to from bytes
typed_kind_step (TypedKind-F.BulkGet to from bytes) = bulk_get to from bytes
typed_kind_step (TypedKind-F.BulkPut to from bytes) = bulk_put to from bytes
typed_kind_step (TypedKind-F.BulkStore to from bytes) = bulk_store to from bytes

abbrev pub typed_tail_step : TypedTail-F TypedForm TypedTail TypedExpression TypedLink → TypedTail
typed_tail_step (TypedTail-F.Index e at line) = index e at line
typed_tail_step (TypedTail-F.Up at line) = up at line
typed_tail_step (TypedTail-F.Down at line) = down at line

abbrev pub typed_expr_step : TypedExpr-F TypedForm TypedTail TypedExpression TypedLink → TypedExpression
typed_expr_step e = typed_expression e.kind e.ty e.start e.at e.line

abbrev pub typed_link_step : TypedLink-F TypedForm TypedTail TypedExpression TypedLink → TypedLink
typed_link_step l = link l.op l.e l.at l.line

abbrev pub plain_typed_kind : TypedKind → TypedForm
plain_typed_kind = fold-TypedKind TypedForm TypedTail TypedExpression TypedLink typed_kind_step typed_tail_step
    typed_expr_step typed_link_step

abbrev pub plain_typed_tail : CodeTail → TypedTail
plain_typed_tail = fold-TypedTail TypedForm TypedTail TypedExpression TypedLink typed_kind_step typed_tail_step
    typed_expr_step typed_link_step

abbrev pub plain_typed : TypedExpr → TypedExpression
plain_typed = fold-TypedExpr TypedForm TypedTail TypedExpression TypedLink typed_kind_step typed_tail_step
    typed_expr_step typed_link_step

abbrev pub plain_typed_link : CodeLink → TypedLink
plain_typed_link = fold-TypedLink TypedForm TypedTail TypedExpression TypedLink typed_kind_step typed_tail_step
    typed_expr_step typed_link_step
