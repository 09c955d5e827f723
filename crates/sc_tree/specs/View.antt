-- An expression of the code as plain data.
use Rattle.std.specs.Prelude.{List, [], ◌∷◌}
use Rattle.sc_tree.specs.Plain.{Expression, expression, Kind, number, null, my_proc, procs, size_int, name, format, chain, both, either, choice, assign, step, plus, prefix, deref, address, cast, postfix, call, Expressions, no_expressions, expressions, Link, link, Links, no_links, links, Tail, index, up, down, Tails, no_tails, tails}
use Rattle.sc_tree.specs.declared.expr.Expr.{Expr, fold-Expr}
use Rattle.sc_tree.specs.declared.expr.Link.{Link as CodeLink, fold-Link}
use Rattle.sc_tree.specs.declared.expr.Tail.{Tail as CodeTail, fold-Tail}
use Rattle.sc_tree.specs.declared.expr.ExprKind.{ExprKind, fold-ExprKind}
use Rattle.sc_tree.specs.declared.expr.ExprKind.TheOpen.{ExprKind-F, Tail-F, Expr-F, Link-F}

abbrev pub expressions_of : List Expression → Expressions
expressions_of [] = no_expressions
expressions_of (e ∷ more) = expressions e (expressions_of more)

abbrev pub links_of : List Link → Links
links_of [] = no_links
links_of (l ∷ more) = links l (links_of more)

abbrev pub tails_of : List Tail → Tails
tails_of [] = no_tails
tails_of (t ∷ more) = tails t (tails_of more)

abbrev pub kind_step : ExprKind-F Kind Tail Expression Link → Kind
kind_step (ExprKind-F.Number n) = number n
kind_step ExprKind-F.Null = null
kind_step ExprKind-F.MyProc = my_proc
kind_step ExprKind-F.Procs = procs
kind_step ExprKind-F.SizeInt = size_int
kind_step (ExprKind-F.Name n) = name n
kind_step (ExprKind-F.Format n) = format n
kind_step (ExprKind-F.Chain first rest) = chain first (links_of rest)
kind_step (ExprKind-F.And all) = both (expressions_of all)
kind_step (ExprKind-F.Or all) = either (expressions_of all)
kind_step (ExprKind-F.Cond a b c) = choice a b c
kind_step (ExprKind-F.Assign op left right) = assign op left right
kind_step (ExprKind-F.Step is_up place) = step is_up place
kind_step (ExprKind-F.Plus e) = plus e
kind_step (ExprKind-F.Prefix op e) = prefix op e
kind_step (ExprKind-F.Deref e) = deref e
kind_step (ExprKind-F.Address e) = address e
kind_step (ExprKind-F.Cast stars e) = cast stars e
kind_step (ExprKind-F.Postfix first rest) = postfix first (tails_of rest)
kind_step (ExprKind-F.Call n args) = call n (expressions_of args)

abbrev pub tail_step : Tail-F Kind Tail Expression Link → Tail
tail_step (Tail-F.Index e at line) = index e at line
tail_step (Tail-F.Up at line) = up at line
tail_step (Tail-F.Down at line) = down at line

abbrev pub expr_step : Expr-F Kind Tail Expression Link → Expression
expr_step e = expression e.kind e.start e.at e.line

abbrev pub link_step : Link-F Kind Tail Expression Link → Link
link_step l = link l.op l.e l.at l.line

abbrev pub plain_kind : ExprKind → Kind
plain_kind = fold-ExprKind Kind Tail Expression Link kind_step tail_step expr_step link_step

abbrev pub plain_tail : CodeTail → Tail
plain_tail = fold-Tail Kind Tail Expression Link kind_step tail_step expr_step link_step

abbrev pub plain : Expr → Expression
plain = fold-Expr Kind Tail Expression Link kind_step tail_step expr_step link_step

abbrev pub plain_link : CodeLink → Link
plain_link = fold-Link Kind Tail Expression Link kind_step tail_step expr_step link_step
