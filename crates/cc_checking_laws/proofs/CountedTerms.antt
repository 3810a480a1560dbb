-- The nodes of a term's canonical derivation are counted right, whether it has a type or not.
use Rattle.std.proofs.Common.{◌≡◌, Bool, true, false, cond, ◌∷◌, length, Option, Some, None, refl, sym, ap, ◌∙◌, subst}
use Rattle.cc_base.specs.declared.literal.Base.{Base}
use Rattle.cc_base.specs.declared.literal.Base.TheVariants as bases
use Rattle.cc_base.specs.declared.literal.Op.{Op}
use Rattle.cc_capture.specs.declared.var.Var.{Var}
use Rattle.cc_capture.specs.Sets.{Set, empty}
use Rattle.cc_core.specs.Shapes.{Shape, BaseShape, FunctionShape, TypeFunctionShape, BoxShape, ExitShape, CapturingType, capturing}
use Rattle.cc_core.specs.Terms.{Note, Absent, Written, Own, Term, VariableTerm, LiteralTerm, FunctionTerm, TypeFunctionTerm, BoxTerm, Application, TypeApplication, Unboxing, Let, Primitive, Conditional, Repetition, Operation, Boundary, Leave}
use Rattle.cc_core.specs.Contexts.{Bind, TypeEntry, Context, entry_of}
use Rattle.cc_core.specs.Equality.{same_type}
use Rattle.cc_core.specs.Captured.{variable_set, optional_set}
use Rattle.cc_core.specs.Typing.{base_taken}
use Rattle.cc_core.specs.Derivations.{Derivation}
use Rattle.cc_checking.specs.Exposing.{exposed}
use Rattle.cc_checking.specs.Avoidance.{Positive, avoided_type}
use Rattle.cc_checking.specs.Inference.{result, in_context, set_in, shape_in, type_in, function_found, type_function_found, exit_entry}
use Rattle.cc_checking.specs.CanonicalDerivations as trees
use Rattle.cc_checking.specs.CanonicalDerivations.{Deriving, canonical_shapes, typed, raised, raised_if, shape_at, variable_derived, head_derived, operand_derived, given_derived, argument_in, avoided_or, term_derived}
use Rattle.cc_checking.specs.DerivationSizes as sizes
use Rattle.cc_checking.specs.DerivationSizes.{nodes, Counting, type_nodes, canonical_shape_nodes, Counted, raised_counted, raised_counted_if, variable_counted, head_counted, operand_counted, given_counted, term_counted}
use Rattle.cc_checking_laws.proofs.CountedShapes.{one_more, two_more, three_more, AreCounted, types_counted, canonical_shape_counted}

-- the type and the nodes of the derivation are those that are counted
abbrev pub Counts : Derivation → Counted → Type 0
Counts d c = (typed d ≡ c.type) × (nodes d ≡ c.nodes)

either_counts : (d d' : Derivation) (c c' : Counted) (t u : Bool) → t ≡ u → Counts d c → Counts d' c'
    → Counts (cond t d d') (cond u c c')
either_counts d d' c c' t u e p q =
    subst (λ x. Counts (cond t d d') (cond x c c')) e (elim t as (λ x. Counts (cond x d d') (cond x c c')) [
      | true ↦ p
      | false ↦ q
    ])

module _ (derive : Deriving) (count : Counting) (each : AreCounted derive count) where
  raised_counts : (g : Context) (d : Derivation) (c : Counted) (t : CapturingType) → Counts d c
      → Counts (raised derive g d t) (raised_counted count g c t)
  raised_counts g d c t p = (
    refl,
    two_more _ _ _ _ p.1 (types_counted derive count each g (typed d) t ∙ ap (λ (x : CapturingType). type_nodes count g x t) p.0),
  )

  raised_if_counts : (g : Context) (d : Derivation) (c : Counted) (t : CapturingType) → Counts d c
      → Counts (raised_if derive g d t) (raised_counted_if count g c t)
  raised_if_counts g d c t p =
      either_counts d (raised derive g d t) c (raised_counted count g c t) (same_type (typed d) t) (same_type c.type t) (ap (λ (x : CapturingType). same_type x t) p.0) p (raised_counts g d c t p)

  given_counts : (g : Context) (v : Var) (t : CapturingType)
      → Counts (given_derived derive g v t) (given_counted count g v t)
  given_counts g v t = raised_counts g (variable_derived g v) (variable_counted g v) t (refl, refl)

  head_counts : (g : Context) (v : Var) → Counts (head_derived derive g v) (head_counted count g v)
  head_counts g v = raised_if_counts g (variable_derived g v) (variable_counted g v) (capturing (exposed g (shape_at g v)) (variable_set v)) (refl, refl)

  operand_counts : (g : Context) (v : Var) (s : Shape)
      → Counts (operand_derived derive g v s) (operand_counted count g v s)
  operand_counts g v s = given_counts g v (capturing s (variable_set v))

  application_counts : (g : Context) (v w : Var) (s : Shape)
      → Counts (trees.application_derived derive g v w s) (sizes.application_counted count g v w s)
  application_counts g v w (FunctionShape t c u e) = (refl, two_more _ _ _ _ (head_counts g v).1 (given_counts g w (capturing t c)).1)
  application_counts g v w _ = (refl, refl)

  type_application_counts : (g : Context) (v : Var) (x : Shape) (s : Shape)
      → Counts (trees.type_application_derived derive g v x s) (sizes.type_application_counted count g v x s)
  type_application_counts g v x (TypeFunctionShape b u e) = (refl, two_more _ _ _ _ (head_counts g v).1 (each g x b))
  type_application_counts g v x _ = (refl, refl)

  unboxing_counts : (g : Context) (set : Set) (v : Var) (s : Shape)
      → Counts (trees.unboxing_derived derive g set v s) (sizes.unboxing_counted count g set v s)
  unboxing_counts g set v (BoxShape t c) = (refl, one_more _ _ (given_counts g v (capturing (BoxShape t set) (variable_set v))).1)
  unboxing_counts g set v _ = (refl, refl)

  operation_counts : (g : Context) (o : Op) (v : Var) (argument : Option Var) (base : Option Base)
      → Counts (trees.operation_derived derive g o v argument base) (sizes.operation_counted count g o v argument base)
  operation_counts g o v (Some w) (Some b) = (refl, two_more _ _ _ _ (head_counts g v).1 (operand_counts g w (BaseShape b)).1)
  operation_counts g o v None None = (refl, one_more _ _ (head_counts g v).1)
  operation_counts g o v (Some w) None = (refl, refl)
  operation_counts g o v None (Some b) = (refl, refl)

  exit_counts : (g : Context) (t : CapturingType) (v w : Var) (s : Shape)
      → Counts (trees.exit_derived derive g t v w s) (sizes.exit_counted count g t v w s)
  exit_counts g t v w (ExitShape u) = (refl, two_more _ _ _ _ (head_counts g v).1 (given_counts g w (capturing u empty)).1)
  exit_counts g t v w _ = (refl, refl)

  noted_counts : (g : Context) (note : Note) (d : Derivation) (c : Counted) → Counts d c
      → Counts (trees.noted_derived derive g note d) (sizes.noted_counted count g note c)
  noted_counts g (Written s set) d c p = raised_counts g d c (type_in g (capturing s set)) p
  noted_counts g Absent d c p = p
  noted_counts g (Own s) d c p = p

  left_counts : (g : Context) (named : CapturingType) (d : Derivation) (c : Counted) → Counts d c
      → Counts (trees.left_derived derive g named d) (sizes.left_counted count g named c)
  left_counts g named d c p =
      let less : CapturingType → CapturingType = λ (t : CapturingType). avoided_or t (avoided_type Positive (length g) named.set t) in
      subst (λ (t : CapturingType). Counts (trees.left_derived derive g named d) (raised_counted_if count (entry_of named ∷ g) c t)) (ap less p.0) (raised_if_counts (entry_of named ∷ g) d c (less (typed d)) p)

  let_counts : (g : Context) (d : Derivation) (c : Counted) (tree : Bind → Derivation) (size : Bind → Counted)
      → Counts d c → ((b : Bind) → Counts (tree b) (size b))
      → Counts (trees.let_derived derive g d tree) (sizes.let_counted count g c size)
  let_counts g d c tree size p body =
      let inner : Counts (trees.left_derived derive g (typed d) (tree (entry_of (typed d)))) (sizes.left_counted count g c.type (size (entry_of c.type))) =
      subst (λ (t : CapturingType). Counts (trees.left_derived derive g (typed d) (tree (entry_of (typed d)))) (sizes.left_counted count g t (size (entry_of t)))) p.0
      (left_counts g (typed d) (tree (entry_of (typed d))) (size (entry_of (typed d))) (body (entry_of (typed d)))) in
      (inner.0, two_more _ _ _ _ p.1 inner.1)

  choice_counts : (g : Context) (note : Note) (v : Var) (d d' : Derivation) (c c' : Counted) → Counts d c → Counts d' c'
      → Counts (trees.choice_derived derive g note v d d') (sizes.choice_counted count g note v c c')
  choice_counts g (Written s set) v d d' c c' p p' = (
    refl,
    three_more _ _ _ _ _ _ (operand_counts g v (BaseShape bases.Bool)).1 (raised_counts g d c (type_in g (capturing s set)) p).1 (raised_counts g d' c' (type_in g (capturing s set)) p').1,
  )
  choice_counts g Absent v d d' c c' p p' = (refl, refl)
  choice_counts g (Own s) v d d' c c' p p' = (refl, refl)

  pub term_counts : (t : Term) (g : Context) → Counts (term_derived derive g t) (term_counted count g t)
  term_counts (VariableTerm v) g = (refl, refl)
  term_counts (LiteralTerm l) g = (refl, refl)
  term_counts (FunctionTerm x c body) g =
      let part = term_counts body (entry_of (type_in g (capturing x c)) ∷ g) in
      (ap (λ (t : CapturingType). (function_found g x c (result t body)).type) part.0, one_more _ _ part.1)
  term_counts (TypeFunctionTerm b body) g =
      let part = term_counts body (TypeEntry (shape_in g b) ∷ g) in
      (ap (λ (t : CapturingType). (type_function_found g b (result t body)).type) part.0, one_more _ _ part.1)
  term_counts (BoxTerm v) g = (refl, refl)
  term_counts (Application v w) g = application_counts g (in_context g v) (in_context g w) (exposed g (shape_at g (in_context g v)))
  term_counts (TypeApplication v x) g = type_application_counts g (in_context g v) (shape_in g x) (exposed g (shape_at g (in_context g v)))
  term_counts (Unboxing set v) g = unboxing_counts g (set_in g (optional_set set)) (in_context g v) (exposed g (shape_at g (in_context g v)))
  term_counts (Let note right body) g =
      let_counts g (trees.noted_derived derive g note (term_derived derive g right)) (sizes.noted_counted count g note (term_counted count g right))
      (λ (b : Bind). term_derived derive (b ∷ g) body) (λ (b : Bind). term_counted count (b ∷ g) body)
      (noted_counts g note (term_derived derive g right) (term_counted count g right) (term_counts right g)) (λ (b : Bind). term_counts body (b ∷ g))
  term_counts (Primitive o v w) g = (
    refl,
    two_more _ _ _ _ (operand_counts g (in_context g v) (BaseShape bases.Int)).1 (operand_counts g (in_context g w) (BaseShape bases.Int)).1,
  )
  term_counts (Conditional note v t u) g =
      choice_counts g note (in_context g v) (term_derived derive g t) (term_derived derive g u) (term_counted count g t) (term_counted count g u) (term_counts t g) (term_counts u g)
  term_counts (Repetition v w) g = (
    refl,
    two_more _ _ _ _ (operand_counts g (in_context g v) (BaseShape bases.Int)).1
        (operand_counts g (in_context g w) (FunctionShape (BaseShape bases.Int) empty (BaseShape bases.Unit) empty)).1,
  )
  term_counts (Operation o v argument) g = operation_counts g o (in_context g v) (argument_in g argument) (base_taken o)
  term_counts (Boundary x body) g =
      let part = term_counts body (exit_entry (shape_in g x) ∷ g) in (
        refl,
        one_more _ _ (raised_counts (exit_entry (shape_in g x) ∷ g) (term_derived derive (exit_entry (shape_in g x) ∷ g) body) (term_counted count (exit_entry (shape_in g x) ∷ g) body) (capturing (shape_in g x) empty) part).1,
      )
  term_counts (Leave x c v w) g = exit_counts g (type_in g (capturing x c)) (in_context g v) (in_context g w) (exposed g (shape_at g (in_context g v)))

  pub definition_counts : (g : Context) (note : Note) (t : Term) (signature : CapturingType)
      → Counts (trees.definition_derived derive g note t signature) (sizes.definition_counted count g note t signature)
  definition_counts g note t signature =
      raised_if_counts g (trees.noted_derived derive g note (term_derived derive g t)) (sizes.noted_counted count g note (term_counted count g t)) signature
      (noted_counts g note (term_derived derive g t) (term_counted count g t) (term_counts t g))

pub definitions_counted : (g : Context) (note : Note) (t : Term) (signature : CapturingType)
    → (sizes.definition_counted canonical_shape_nodes g note t signature).nodes ≡ nodes (trees.definition_derived canonical_shapes g note t signature)
definitions_counted g note t signature = sym (definition_counts canonical_shapes canonical_shape_nodes canonical_shape_counted g note t signature).1
