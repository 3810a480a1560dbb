-- What is made of typing derivations.
use Rattle.std.proofs.Common.{◌≡◌, Bool, true, false, sym, ap, ◌∙◌, subst}
use Rattle.std.proofs.lemmas.Bool.{cond-true, cond-false}
use Rattle.cc_core.specs.Equality.{same_type}
use Rattle.cc_core.specs.Contexts.{Context}
use Rattle.cc_capture.specs.declared.var.Var.{Var}
use Rattle.cc_capture.specs.Sets.{Set}
use Rattle.cc_core.specs.Captured.{variable_set}
use Rattle.cc_core.specs.Derivations.{Rule, t-var, OfType, Derivation, Premises, Node, NoPremise}
use Rattle.cc_checking.specs.Exposing.{exposed}
use Rattle.cc_core.specs.Shapes.{Shape, CapturingType, capturing}
use Rattle.cc_core.specs.TermViews.{type_of}
use Rattle.cc_checking.specs.CanonicalDerivations.{Deriving, type_derived, typed, raised, raised_if, shape_at, variable_derived, head_derived}
use Rattle.cc_derive.specs.declared.trees.Tree.{Tree}
use Rattle.cc_derive.specs.Trees.{IsMade}
use Rattle.cc_derive.specs.declared.nodes.Typing.{Typing}
use Rattle.cc_derive.specs.Typings.{IsTyping}
use Rattle.cc_derive.specs.declared.trees.Making.{Making}

-- what is below the type that is given is below the type of the derivation
pub below_typed : (build : Making) (derive : Deriving) (g : Context) (part : Typing) (below : Tree) (d : Derivation) (type : CapturingType)
    → IsTyping build part d → IsMade build below (type_derived derive g (type_of part.ty) type)
    → IsMade build below (type_derived derive g (typed d) type)
below_typed build derive g part below d type p q = subst (λ (l : CapturingType). IsMade build below (type_derived derive g l type)) p.gives q

-- nothing is widened where the type is the same
pub raised_same : (build : Making) (derive : Deriving) (g : Context) (part : Typing) (d : Derivation) (type : CapturingType)
    → same_type (type_of part.ty) type ≡ true → IsTyping build part d → IsTyping build part (raised_if derive g d type)
raised_same build derive g part d type same p =
    subst (IsTyping build part) (sym (cond-true (same_type (typed d) type) d (raised derive g d type) (ap (λ (l : CapturingType). same_type l type) (sym p.gives) ∙ same))) p

-- and it is where it differs
pub raised_other : (build : Making) (derive : Deriving) (g : Context) (part whole : Typing) (d : Derivation) (type : CapturingType)
    → same_type (type_of part.ty) type ≡ false → IsTyping build part d → IsTyping build whole (raised derive g d type)
    → IsTyping build whole (raised_if derive g d type)
raised_other build derive g part whole d type other p q =
    subst (IsTyping build whole) (sym (cond-false (same_type (typed d) type) d (raised derive g d type) (ap (λ (l : CapturingType). same_type l type) (sym p.gives) ∙ other))) q

-- a type that is the same
pub retyped : (build : Making) (t : Typing) (rule : Rule) (premises : Premises) (x y : CapturingType) → x ≡ y
    → IsTyping build t (Node rule premises (OfType x)) → IsTyping build t (Node rule premises (OfType y))
retyped build t rule premises x y e p = subst (λ (z : CapturingType). IsTyping build t (Node rule premises (OfType z))) e p

-- a variable of the shape and the set
pub variable_made : (build : Making) (t : Typing) (g : Context) (v : Var) (s : Shape) (c : Set) → s ≡ shape_at g v → c ≡ variable_set v
    → IsTyping build t (Node t-var NoPremise (OfType (capturing s c))) → IsTyping build t (variable_derived g v)
variable_made build t g v s c e f p =
    retyped build t t-var NoPremise (capturing s c) (capturing (shape_at g v) (variable_set v)) (λ i. capturing (e i) (f i)) p

-- a head whose type is this
pub head_made : (build : Making) (derive : Deriving) (t : Typing) (g : Context) (v : Var) (s : Shape) (c : Set)
    → s ≡ exposed g (shape_at g v) → c ≡ variable_set v
    → IsTyping build t (raised_if derive g (variable_derived g v) (capturing s c)) → IsMade build t.tree (head_derived derive g v)
head_made build derive t g v s c e f p =
    let is : capturing s c ≡ capturing (exposed g (shape_at g v)) (variable_set v) = λ i. capturing (e i) (f i) in
    let made = subst (λ (x : CapturingType). IsTyping build t (raised_if derive g (variable_derived g v) x)) is p in
    made.made
