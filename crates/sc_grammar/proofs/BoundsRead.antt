-- Bounds are read exactly.
use Rattle.std.proofs.Common.{◌+◌, ◌≡◌, refl, sym, ap, ◌∙◌, subst, ℕ, zero, suc, ◌≤◌, arith, Bool, true, List, [], ◌∷◌, ◌++◌, Some, None, append_assoc}
use Rattle.std.specs.Prelude.{◌||◌}
use Rattle.sc_base.specs.declared.operator.Binary.{Binary}
use Rattle.sc_base.specs.declared.shape.BoundStep.{BoundStep}
use Rattle.sc_base.specs.declared.shape.BoundStep.TheVariants as step
use Rattle.sc_tree.specs.declared.token.Token.{Token}
use Rattle.sc_tree.specs.declared.token.TokenKind.{TokenKind}
use Rattle.sc_tree.specs.declared.token.TokenKind.TheVariants.{Number, Name, Format, Word, Mark}
use Rattle.sc_tree.specs.declared.token.Word.{Word as TheWord}
use Rattle.sc_tree.specs.declared.token.Word.TheVariants as words
use Rattle.sc_tree.specs.declared.token.Mark.{Mark as TheMark}
use Rattle.sc_tree.specs.declared.token.Mark.TheVariants as marks
use Rattle.sc_grammar.specs.Marks.{operator_of}
use Rattle.sc_grammar.specs.Rest.{Spelt, Rest, rest, Takes, takes}
use Rattle.sc_grammar.specs.Items.{IsBound, sum as is_sum, IsSummands, no_more_summands, one_more_summand, IsProduct, product as is_product, IsFactors, no_more_factors, one_more_factor, IsUnit, number_unit, procs_unit, parenthesized_unit}
use Rattle.sc_grammar.proofs.Reading.{Parser, many, is_given}
use Rattle.sc_grammar.proofs.ReadingExpressions.{arithmetic_in, at_level}
use Rattle.sc_grammar.proofs.ReadingItems.{begins_bound, steps_in, unit, one_factor, product, one_summand, sum, bound}
use Rattle.sc_grammar.proofs.Local.{Local, Consumes, Advances, local-bind, local-pure, local-fail, local-if_taken, local-if_given, local-many, local-must, local-no_deeper, advances-none, advances-if_given, consumes-first, consumes-fail, consumes-if_taken, consumes-if_given, consumes-no_deeper}
use Rattle.sc_grammar.proofs.Fits.{Rule, Quiet, past, Sample, Fits, fits-bind, fits-pure, fits-fail, fits-wider}
use Rattle.sc_grammar.proofs.FitsTokens.{Gave, OneMore, Opens, spelt, sample-token, fits-if_taken, fits-if_given, fits-mark, fits-many, fits-no_deeper, was-mark, was-word}
use Rattle.sc_grammar.proofs.Derived.{Stands, Reads, Opened, opened, reads-bind, reads-pure, reads-value, reads-mark, reads-given, reads-not_given, reads-taken_mark, reads-taken_word, reads-not_taken, reads-none, reads-more, reads-too_deep}
use Rattle.sc_grammar.proofs.Laws.{Exact, Without, without}
use Rattle.sc_grammar.proofs.Parts.{some_token}
use Rattle.sc_grammar.proofs.PrimaryRead.{gave-number, gives_none}
use Rattle.sc_grammar.proofs.Extends.{or_false, given_none, joins-arithmetic, fewer, gives_none as none_there}

-- ---- what begins a bound, and what goes on with one

-- an operator that joins units
abbrev pub extends_product : TokenKind → Bool
extends_product k = is_given (arithmetic_in 0 k)

-- an operator that joins products
abbrev pub extends_sum : TokenKind → Bool
extends_sum k = is_given (arithmetic_in 1 k)

-- tokens that go on with a bound
abbrev pub extends_bound : TokenKind → Bool
extends_bound k = extends_product k || extends_sum k

no_product : (b : Rest) → Without extends_bound b → Without extends_product b
no_product = fewer extends_bound extends_product (λ k e. (or_false (extends_product k) (extends_sum k) e).0)

no_sum : (b : Rest) → Without extends_bound b → Without extends_sum b
no_sum = fewer extends_bound extends_sum (λ k e. (or_false (extends_product k) (extends_sum k) e).1)

opened-unit : {d : ℕ} {a b : Rest} {all : List BoundStep} → IsUnit d a b all → Opened begins_bound d a
opened-unit (number_unit takes) = opened refl (omega arith)
opened-unit (procs_unit takes) = opened refl (omega arith)
opened-unit (parenthesized_unit takes h t) = opened refl (omega arith)

opened-product : {d : ℕ} {a b : Rest} {all : List BoundStep} → IsProduct d a b all → Opened begins_bound d a
opened-product (is_product u fs) = opened-unit u

pub opened-bound : {d : ℕ} {a b : Rest} {all : List BoundStep} → IsBound d a b all → Opened begins_bound (suc d) a
opened-bound (is_sum p ss) = opened-product p

single_product : {d : ℕ} {a b : Rest} {all : List BoundStep} → IsUnit d a b all → IsProduct d a b (all ++ [])
single_product u = is_product u no_more_factors

pub single : {d : ℕ} {a b : Rest} {all : List BoundStep} → IsUnit (suc d) a b all → IsBound d a b ((all ++ []) ++ [])
single u = is_sum (single_product u) no_more_summands

sample-unit : (d n : ℕ) → Sample (IsUnit d) n
sample-unit d = sample-token d (Word words.Procs) (step.Procs ∷ []) refl (λ a b t. procs_unit t)

pub sample-bound : (d n : ℕ) → Sample (IsBound d) n
sample-bound d = sample-token (suc d) (Word words.Procs) (step.Procs ∷ []) refl (λ a b t. single (procs_unit t))

-- a token of this kind begins a bound
abbrev OpensWith : (d n at line : ℕ) → TokenKind → Type 0
OpensWith d n at line k =
    (s : Spelt) × (s.token ≡ record { kind = k; at = at; line = line }) × (more : List Spelt) × (x : List BoundStep) × Quiet more
    × ((tail : List Spelt) → Quiet tail → IsBound d (rest n (s ∷ (more ++ tail))) (rest (past more (n + 1)) tail) x)

opens_word : (d n at line : ℕ) (w : TheWord) → begins_bound (Word w) ≡ true → OpensWith d n at line (Word w)
opens_word d n at line words.Procs e =
    (spelt (record { kind = Word words.Procs; at = at; line = line }) (suc d), refl, [], step.Procs ∷ [], refl, λ tail w. single (procs_unit takes))
opens_word d n at line w e = cc

-- in the parentheses stands the word for the number of processors
opens_mark : (d n at line : ℕ) (m : TheMark) → begins_bound (Mark m) ≡ true → OpensWith d n at line (Mark m)
opens_mark d n at line marks.OpenRound e = (
  spelt (record { kind = Mark marks.OpenRound; at = at; line = line }) (suc d),
  refl,
  some_token (Word words.Procs) (suc (suc d)) ∷ some_token (Mark marks.CloseRound) (suc d) ∷ [],
  step.Procs ∷ [],
  refl,
  λ tail w. single (parenthesized_unit takes (single (procs_unit takes)) takes),
)
opens_mark d n at line m e = cc

opens_kind : (d n at line : ℕ) (k : TokenKind) → begins_bound k ≡ true → OpensWith d n at line k
opens_kind d n at line (Number v) e =
    (spelt (record { kind = Number v; at = at; line = line }) (suc d), refl, [], step.Number v ∷ [], refl, λ tail w. single (number_unit takes))
opens_kind d n at line (Word w) e = opens_word d n at line w e
opens_kind d n at line (Mark m) e = opens_mark d n at line m e
opens_kind d n at line (Name x) e = cc
opens_kind d n at line (Format x) e = cc

opens-bound : (d : ℕ) → Opens (IsBound d) begins_bound
opens-bound d t h n = opens_kind d n t.at t.line t.kind h

-- ---- a factor and a summand

-- an operator and what it joins, with the operator last
pub data IsJoined (level d : ℕ) (R : Rule (List BoundStep)) (a b : Rest) : List BoundStep → Type 0 where
  joined : {c : Rest} {m : TheMark} {op : Binary} {next : List BoundStep} →
      operator_of m ≡ Some (record { level = level; op = Some op }) → Takes (Mark m) d a c → R c b next →
      IsJoined level d R a b (next ++ step.Op op ∷ [])

joined_by : (level d : ℕ) (R : Rule (List BoundStep)) (a b c : Rest) (op : Binary) (next : List BoundStep) →
    Gave (arithmetic_in level) d a c op → R c b next → IsJoined level d R a b (next ++ step.Op op ∷ [])
joined_by level d R a b c op next g h =
    let j = joins-arithmetic level g.kind op g.gives in
    joined j.operator (subst (λ (k : TokenKind). Takes k d a c) j.is g.takes) h

more_factors : (d : ℕ) (a b c : Rest) (x : List BoundStep) (xs : List (List BoundStep)) → IsJoined 0 d (IsUnit d) a b x → IsFactors d b c (steps_in xs) → IsFactors d a c (steps_in (x ∷ xs))
more_factors d a b c x xs (joined {op = op} {next = next} o t u) h =
    subst (IsFactors d a c) (sym (append_assoc next (step.Op op ∷ []) (steps_in xs))) (one_more_factor o t u h)

more_summands : (d : ℕ) (a b c : Rest) (x : List BoundStep) (xs : List (List BoundStep)) → IsJoined 1 d (IsProduct d) a b x → IsSummands d b c (steps_in xs) → IsSummands d a c (steps_in (x ∷ xs))
more_summands d a b c x xs (joined {op = op} {next = next} o t u) h =
    subst (IsSummands d a c) (sym (append_assoc next (step.Op op ∷ []) (steps_in xs))) (one_more_summand o t u h)

-- the pieces that steps are made of
abbrev factor_pieces : {d : ℕ} {a b : Rest} {all : List BoundStep} → IsFactors d a b all → List (List BoundStep)
factor_pieces no_more_factors = []
factor_pieces (one_more_factor {op = op} {next = next} h t u fs) = (next ++ step.Op op ∷ []) ∷ factor_pieces fs

factor_steps : {d : ℕ} {a b : Rest} {all : List BoundStep} (fs : IsFactors d a b all) → steps_in (factor_pieces fs) ≡ all
factor_steps no_more_factors = refl
factor_steps (one_more_factor {op = op} {next = next} h t u fs) =
    append_assoc next (step.Op op ∷ []) (steps_in (factor_pieces fs)) ∙ ap (λ l. next ++ step.Op op ∷ l) (factor_steps fs)

abbrev summand_pieces : {d : ℕ} {a b : Rest} {all : List BoundStep} → IsSummands d a b all → List (List BoundStep)
summand_pieces no_more_summands = []
summand_pieces (one_more_summand {op = op} {next = next} h t u ss) = (next ++ step.Op op ∷ []) ∷ summand_pieces ss

summand_steps : {d : ℕ} {a b : Rest} {all : List BoundStep} (ss : IsSummands d a b all) → steps_in (summand_pieces ss) ≡ all
summand_steps no_more_summands = refl
summand_steps (one_more_summand {op = op} {next = next} h t u ss) =
    append_assoc next (step.Op op ∷ []) (steps_in (summand_pieces ss)) ∙ ap (λ l. next ++ step.Op op ∷ l) (summand_steps ss)

-- an operator of another level does not go on with a product
factors_then : {d : ℕ} {a b : Rest} {all : List BoundStep} → IsSummands d a b all → Without extends_bound b → Without extends_product a
factors_then {b = b} no_more_summands w = no_product b w
factors_then (one_more_summand h t u ss) w = without _ t (ap (λ o. is_given (at_level 0 o)) h)

-- ---- over how a bound in parentheses is read

module _ (limit d : ℕ) (le : d ≤ limit) (inner : Parser (List BoundStep)) (hi : Exact limit inner (IsBound d) (λ all b. Without extends_bound b)) where
  local-unit : Local (unit inner)
  unfolding unit
  local-unit =
      local-if_given _ (λ n. local-pure _) (
      local-if_taken _ (local-pure _) (
      local-if_taken _ (local-bind hi.local (λ all. local-bind (local-must _) (λ u. local-pure _))) local-fail))

  consumes-unit : Consumes (unit inner)
  unfolding unit
  consumes-unit =
      consumes-if_given _ (λ n. local-pure _) (
      consumes-if_taken _ (local-pure _) (
      consumes-if_taken _ (local-bind hi.local (λ all. local-bind (local-must _) (λ u. local-pure _))) consumes-fail))

  advances-one_factor : Advances (one_factor inner)
  unfolding one_factor
  advances-one_factor = advances-if_given _ (λ op. local-bind local-unit (λ p. local-pure _)) advances-none

  local-product : Local (product inner)
  unfolding product
  local-product = local-bind local-unit (λ first. local-bind (local-many advances-one_factor) (λ more. local-pure _))

  consumes-product : Consumes (product inner)
  unfolding product
  consumes-product = consumes-first consumes-unit (λ first. local-bind (local-many advances-one_factor) (λ more. local-pure _))

  advances-one_summand : Advances (one_summand inner)
  unfolding one_summand
  advances-one_summand = advances-if_given _ (λ op. local-bind local-product (λ p. local-pure _)) advances-none

  local-sum : Local (sum inner)
  unfolding sum
  local-sum = local-bind local-product (λ first. local-bind (local-many advances-one_summand) (λ more. local-pure _))

  consumes-sum : Consumes (sum inner)
  unfolding sum
  consumes-sum = consumes-first consumes-product (λ first. local-bind (local-many advances-one_summand) (λ more. local-pure _))

  fits-unit : Fits (unit inner) (IsUnit d)
  unfolding unit
  fits-unit =
      fits-if_given _ d (λ n. fits-pure _ (λ b a g. number_unit (gave-number d n a b g))) (
      fits-if_taken _ d (fits-pure _ (λ b a w. procs_unit (was-word _ d a b tt w))) (
      fits-if_taken _ d
      (fits-bind hi.fits (λ all. fits-bind (fits-mark _ d) (λ u. fits-pure _ (λ f c t b h a w. parenthesized_unit (was-mark _ d a b tt w) h t))))
      (fits-fail (sample-unit d))))

  fits-one_factor : Fits (one_factor inner) (OneMore (IsJoined 0 d (IsUnit d)))
  unfolding one_factor
  fits-one_factor =
      fits-if_given _ d (λ op. fits-bind fits-unit (λ p. fits-pure _ (λ c b u a g. joined_by _ d _ a c b op p g u)))
      (fits-pure None (λ a. refl))

  fits-factors : Fits (many (one_factor inner)) (λ a b ps. IsFactors d a b (steps_in ps))
  fits-factors = fits-many (IsJoined 0 d (IsUnit d)) _ (λ a. no_more_factors) (more_factors d) (one_factor inner) fits-one_factor

  fits-product : Fits (product inner) (IsProduct d)
  unfolding product
  fits-product = fits-bind fits-unit (λ first. fits-bind fits-factors (λ more. fits-pure _ (λ c b fs a u. is_product u fs)))

  fits-one_summand : Fits (one_summand inner) (OneMore (IsJoined 1 d (IsProduct d)))
  unfolding one_summand
  fits-one_summand =
      fits-if_given _ d (λ op. fits-bind fits-product (λ p. fits-pure _ (λ c b u a g. joined_by _ d _ a c b op p g u)))
      (fits-pure None (λ a. refl))

  fits-summands : Fits (many (one_summand inner)) (λ a b ps. IsSummands d a b (steps_in ps))
  fits-summands = fits-many (IsJoined 1 d (IsProduct d)) _ (λ a. no_more_summands) (more_summands d) (one_summand inner) fits-one_summand

  fits-sum : Fits (sum inner) (λ a b all. (c : ℕ) → suc c ≡ d → IsBound c a b all)
  unfolding sum
  fits-sum =
      fits-bind fits-product (λ first. fits-bind fits-summands (λ more.
      fits-pure _ (λ c b ss a p k e. is_sum (subst (λ (i : ℕ). IsProduct i a b first) (sym e) p) (subst (λ (i : ℕ). IsSummands i b c (steps_in more)) (sym e) ss))))

  reads-unit : (ts : List Token) (a b : Rest) (all : List BoundStep) → IsUnit d a b all → Stands ts a → Reads limit ts a b all (unit inner)
  unfolding unit
  reads-unit ts a b all (number_unit t) s = reads-given limit ts _ _ _ refl t le s (λ r. reads-pure limit ts r)
  reads-unit ts a b all (procs_unit t) s =
      reads-not_given limit ts _ _ (gives_none _ t refl) s (reads-taken_word limit ts _ _ t le s (λ r. reads-pure limit ts r))
  reads-unit ts a b all (parenthesized_unit {b = c} {c = f} t h u) s =
      reads-not_given limit ts _ _ (gives_none _ t refl) s (
      reads-not_taken limit ts _ _ (without _ t refl) s (
      reads-taken_mark limit ts _ _ t le s (λ r.
      reads-bind limit ts _ (hi.reads ts c f all h r (without extends_bound u refl)) (λ q.
      reads-mark limit ts _ _ u le q (λ v. reads-pure limit ts v)))))

  reads-one_factor : (ts : List Token) {a b c : Rest} {m : TheMark} {op : Binary} {next : List BoundStep} →
      operator_of m ≡ Some (record { level = 0; op = Some op }) → Takes (Mark m) d a b → IsUnit d b c next → Stands ts a →
      Reads limit ts a c (Some (next ++ step.Op op ∷ [])) (one_factor inner)
  unfolding one_factor
  reads-one_factor ts {b = b} {c = c} {next = next} h t u s =
      reads-given limit ts (arithmetic_in 0) _ _ (ap (at_level 0) h) t le s (λ r.
      reads-bind limit ts _ (reads-unit ts b c next u r) (λ q. reads-pure limit ts q))

  reads-no_factor : (ts : List Token) (a : Rest) → Stands ts a → Without extends_product a → Reads limit ts a a None (one_factor inner)
  unfolding one_factor
  reads-no_factor ts a s w = reads-not_given limit ts (arithmetic_in 0) _ (none_there extends_product (arithmetic_in 0) (λ k. given_none (arithmetic_in 0 k)) a w) s (reads-pure limit ts s)

  reads-factors : (ts : List Token) (a b : Rest) (all : List BoundStep) (fs : IsFactors d a b all) → Stands ts a → Without extends_product b →
      Reads limit ts a b (factor_pieces fs) (many (one_factor inner))
  reads-factors ts a b all no_more_factors s w = reads-none limit ts (one_factor inner) advances-one_factor s (reads-no_factor ts a s w)
  reads-factors ts a b all (one_more_factor {c = c} {more = more} h t u fs) s w =
      reads-more limit ts (one_factor inner) advances-one_factor (reads-one_factor ts h t u s) (λ r. reads-factors ts c b more fs r w)

  reads-product : (ts : List Token) {a b : Rest} {all : List BoundStep} → IsProduct d a b all → Stands ts a → Without extends_product b →
      Reads limit ts a b all (product inner)
  unfolding product
  reads-product ts {a = a} {b = b} (is_product {b = c} {first = first} {more = more} u fs) s w =
      reads-value limit ts (ap (λ l. first ++ l) (factor_steps fs)) (
      reads-bind limit ts _ (reads-unit ts a c first u s) (λ r.
      reads-bind limit ts _ (reads-factors ts c b more fs r w) (λ q. reads-pure limit ts q)))

  reads-one_summand : (ts : List Token) {a b c : Rest} {m : TheMark} {op : Binary} {next : List BoundStep} →
      operator_of m ≡ Some (record { level = 1; op = Some op }) → Takes (Mark m) d a b → IsProduct d b c next → Stands ts a → Without extends_product c →
      Reads limit ts a c (Some (next ++ step.Op op ∷ [])) (one_summand inner)
  unfolding one_summand
  reads-one_summand ts h t u s w =
      reads-given limit ts (arithmetic_in 1) _ _ (ap (at_level 1) h) t le s (λ r.
      reads-bind limit ts _ (reads-product ts u r w) (λ q. reads-pure limit ts q))

  reads-no_summand : (ts : List Token) (a : Rest) → Stands ts a → Without extends_sum a → Reads limit ts a a None (one_summand inner)
  unfolding one_summand
  reads-no_summand ts a s w = reads-not_given limit ts (arithmetic_in 1) _ (none_there extends_sum (arithmetic_in 1) (λ k. given_none (arithmetic_in 1 k)) a w) s (reads-pure limit ts s)

  reads-summands : (ts : List Token) (a b : Rest) (all : List BoundStep) (ss : IsSummands d a b all) → Stands ts a → Without extends_bound b →
      Reads limit ts a b (summand_pieces ss) (many (one_summand inner))
  reads-summands ts a b all no_more_summands s w = reads-none limit ts (one_summand inner) advances-one_summand s (reads-no_summand ts a s (no_sum a w))
  reads-summands ts a b all (one_more_summand {c = c} {more = more} h t u ss) s w =
      reads-more limit ts (one_summand inner) advances-one_summand (reads-one_summand ts h t u s (factors_then ss w))
      (λ r. reads-summands ts c b more ss r w)

  reads-sum : (ts : List Token) {a b c : Rest} {first more : List BoundStep} → IsProduct d a b first → IsSummands d b c more → Stands ts a → Without extends_bound c →
      Reads limit ts a c (first ++ more) (sum inner)
  unfolding sum
  reads-sum ts {b = b} {c = c} {first = first} {more = more} p ss s w =
      reads-value limit ts (ap (λ l. first ++ l) (summand_steps ss)) (
      reads-bind limit ts _ (reads-product ts p s (factors_then ss w)) (λ r.
      reads-bind limit ts _ (reads-summands ts b c more ss r w) (λ q. reads-pure limit ts q)))

-- ---- by the levels of depth that are left

abbrev pub BoundEnds : List BoundStep → Rest → Type 0
BoundEnds all b = Without extends_bound b

no_level : (limit d : ℕ) → d + 0 ≡ limit → Exact limit (bound zero) (IsBound d) BoundEnds
unfolding bound
no_level limit d e = record {
  local = local-no_deeper begins_bound;
  consumes = consumes-no_deeper begins_bound;
  fits = fits-no_deeper begins_bound (opens-bound d) (sample-bound d);
  reads = λ ts a b x h s w. reads-too_deep limit ts begins_bound _ (opened-bound h) (omega arith) s;
}

one_level : (limit d k : ℕ) → suc d ≤ limit → Exact limit (bound k) (IsBound (suc d)) BoundEnds → Exact limit (bound (suc k)) (IsBound d) BoundEnds
unfolding bound
one_level limit d k le h = record {
  local = local-sum limit (suc d) le (bound k) h;
  consumes = consumes-sum limit (suc d) le (bound k) h;
  fits = fits-wider (λ a b x f. f d refl) (fits-sum limit (suc d) le (bound k) h);
  reads = λ ts a b x i s w. reads-bound ts a b x i s w;
}
  where
    reads-bound : (ts : List Token) (a b : Rest) (x : List BoundStep) → IsBound d a b x → Stands ts a → Without extends_bound b → Reads limit ts a b x (sum (bound k))
    reads-bound ts a b x (is_sum p ss) s w = reads-sum limit (suc d) le (bound k) h ts p ss s w

pub exact-bound : (limit k d : ℕ) → d + k ≡ limit → Exact limit (bound k) (IsBound d) BoundEnds
exact-bound limit zero d e = no_level limit d e
exact-bound limit (suc k) d e = one_level limit d k (omega arith) (exact-bound limit k (suc d) (omega arith))
