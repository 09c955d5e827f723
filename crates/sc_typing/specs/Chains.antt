-- Chains of operands from the left, and what the operator of each link asks of its operands and makes of them.
use Rattle.std.specs.Prelude.{ℕ, ◌+◌, Bool, true, false, ◌&&◌, Option, Some, None, List, [], ◌∷◌, ◌++◌, if◌then◌else◌}
use Rattle.std.specs.Option.{option_map}
use Rattle.sc_base.specs.declared.operator.Binary.{Binary}
use Rattle.sc_base.specs.declared.operator.Binary.TheVariants as op
use Rattle.sc_base.specs.declared.shape.Ty.{Ty}
use Rattle.sc_tree.specs.PlainTyped as typed
use Rattle.sc_tree.specs.PlainTyped.{TypedExpression, TypedLink}
use Rattle.sc_tree.specs.ViewTyped.{typed_links_of}
use Rattle.sc_typing.specs.declared.known.Spot.{Spot}
use Rattle.sc_typing.specs.declared.rule.Rule.{Rule}
use Rattle.sc_typing.specs.declared.rule.Rule.TheVariants as rules
use Rattle.sc_typing.specs.declared.chains.Level.{Level}
use Rattle.sc_typing.specs.declared.chains.Level.TheVariants.{Sums, Equalities, Others}
use Rattle.sc_typing.specs.Types.{int}
use Rattle.sc_typing.specs.Known.{Valued, valued, expression_of, meets, common, Judgement, only, used}
use Rattle.sc_typing.specs.Rules

-- a chain from the left so far: its first operand and links, the type of its value, and whether that is null
pub record Linked : Type 0 where
  pub first : Valued
  pub rest : List TypedLink
  pub ty : Ty
  pub is_null : Bool

abbrev pub first_link : Valued → Linked
first_link v = record { first = v; rest = []; ty = v.ty; is_null = v.is_null }

unfoldable pub begin_chain : Judgement → Option Linked
begin_chain j = option_map first_link (used j)

-- the value of the chain so far, as the left operand of the next link
abbrev pub left_operand : Linked → Valued
left_operand l = record { expression = l.first.expression; ty = l.ty; is_null = l.is_null; spot = l.first.spot }

abbrev pub has_links : List TypedLink → Bool
has_links [] = false
has_links (_ ∷ _) = true

abbrev pub met_unless : Bool → Valued → Ty → Valued
met_unless has v ty = if has then v else meets v ty

-- the chain whose first operand becomes of the type, unless it has links already
abbrev pub with_first : Linked → Ty → Linked
with_first l ty =
    record { first = met_unless (has_links l.rest) l.first ty; rest = l.rest; ty = l.ty; is_null = l.is_null }

-- the two operands as they stand in the typed expression
pub record Operands : Type 0 where
  pub left : Linked
  pub right : TypedExpression

abbrev pub as_they_are : Linked → Valued → Operands
as_they_are l v = record { left = l; right = expression_of v }

abbrev pub both_of_type : Ty → Linked → Valued → Operands
both_of_type ty l v = record { left = with_first l ty; right = expression_of (meets v ty) }

-- operands that are compared become of one type
abbrev pub of_one_type : Linked → Valued → Operands
of_one_type l v = both_of_type (common l.ty l.is_null v.ty) l v

abbrev pub are_ints : Option Valued → Option Valued → Bool
are_ints left right = Rules.int_kept left && Rules.int_kept right

-- what an operator asks of its operands and makes of them: the rule, whether the operands keep it, the type of the
-- value by that of the left operand, and the typed form
pub record Row : Type 0 where
  pub rule : Rule
  pub kept : Option Valued → Option Valued → Bool
  pub result : Ty → Ty
  pub form : Linked → Valued → Operands

-- operators of one level have one row
abbrev pub level_of : Binary → Level
level_of op.Add = Sums
level_of op.Sub = Sums
level_of op.Eq = Equalities
level_of op.Ne = Equalities
level_of _ = Others

abbrev pub row_at : Level → Row
row_at Sums = record { rule = rules.Sum; kept = Rules.sum_kept; result = λ left. left; form = as_they_are }
row_at Equalities =
    record { rule = rules.Comparison; kept = Rules.comparison_kept; result = λ left. int; form = of_one_type }
row_at Others = record { rule = rules.Ints; kept = are_ints; result = λ left. int; form = as_they_are }

-- the table of the operators
abbrev pub row_of : Binary → Row
row_of op = row_at (level_of op)

-- a chain of the left operand, the operator and the right one, with its type
abbrev pub pushed : Operands → Binary → Ty → (at line : ℕ) → Linked
pushed o op ty at line =
    record {
      first = o.left.first;
      rest = o.left.rest ++ typed.link op o.right at line ∷ [];
      ty = ty;
      is_null = false;
    }

-- the link behind the chain
abbrev pub with_link : Row → Linked → Binary → (at line : ℕ) → Valued → Linked
with_link row l op at line v = pushed (row.form l v) op (row.result l.ty) at line

abbrev pub linked : Option Linked → Binary → (at line : ℕ) → Option Valued → Option Linked
linked None op at line right = None
linked (Some l) op at line right = option_map (with_link (row_of op) l op at line) right

-- the rule on the link's operands
abbrev pub join_kept : Option Linked → Binary → Judgement → Bool
join_kept left op right = (row_of op).kept (option_map left_operand left) right.known

unfoldable pub join : Option Linked → Binary → Judgement → (at line : ℕ) → Option Linked
join left op right at line = linked left op at line (only (join_kept left op right) right.known)

abbrev pub chain_value : Spot → Linked → Valued
chain_value spot l = valued (typed.chain (expression_of l.first) (typed_links_of l.rest)) l.ty false spot
