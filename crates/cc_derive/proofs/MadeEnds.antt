-- What is made of the forms with parts.
use Rattle.std.proofs.Common.{◌≡◌, ◌∷◌, length, ap, ◌∙◌, subst}
use Rattle.cc_capture.specs.Sets.{Set, empty}
use Rattle.cc_core.specs.Contexts.{Context, entry_of}
use Rattle.cc_core.specs.Derivations.{t-abs, t-tabs, t-let, t-boundary, OfType, Derivation, Node, one, two}
use Rattle.cc_core.specs.Shapes.{Shape, FunctionShape, TypeFunctionShape, CapturingType, capturing}
use Rattle.cc_core.specs.Substitution.{closed_type}
use Rattle.cc_core.specs.TermViews.{type_of}
use Rattle.cc_checking.specs.Avoidance.{Positive, avoided_type}
use Rattle.cc_checking.specs.CanonicalDerivations.{Deriving, typed, raised, raised_if, avoided_or, left_derived, let_node, boundary_node}
use Rattle.cc_checking.specs.Inference.{set_in, exit_entry}
use Rattle.cc_derive.specs.Trees.{IsMade}
use Rattle.cc_derive.specs.declared.nodes.Typing.{Typing}
use Rattle.cc_derive.specs.Typings.{IsTyping, function_over, type_function_over}
use Rattle.cc_derive.specs.declared.trees.Making.{Making}

-- a function over its body
pub function_made : (build : Making) (x : Typing) (g : Context) (takes gives ty : CapturingType) (set captured : Set) (part : Typing) (d : Derivation)
    → IsTyping build part d → gives ≡ closed_type (length g) (type_of part.ty) → set ≡ set_in g captured
    → ty ≡ capturing (FunctionShape takes.shape takes.set gives.shape gives.set) set
    → ((e : Derivation) → IsMade build part.tree e → IsTyping build x (Node t-abs (one e) (OfType ty)))
    → IsTyping build x (function_over g takes captured d)
function_made build x g takes gives ty set captured part d p e f u h =
    let is : gives ≡ closed_type (length g) (typed d) = e ∙ ap (closed_type (length g)) p.gives in
    let whole : CapturingType → Set → CapturingType = λ (t : CapturingType) (s : Set). capturing (FunctionShape takes.shape takes.set t.shape t.set) s in
    let same : whole gives set ≡ whole (closed_type (length g) (typed d)) (set_in g captured) = λ i. whole (is i) (f i) in
    subst (λ (z : CapturingType). IsTyping build x (Node t-abs (one d) (OfType z))) (u ∙ same) (h d p.made)

pub type_function_made : (build : Making) (x : Typing) (g : Context) (bound : Shape) (gives ty : CapturingType) (set captured : Set) (part : Typing) (d : Derivation)
    → IsTyping build part d → gives ≡ closed_type (length g) (type_of part.ty) → set ≡ set_in g captured
    → ty ≡ capturing (TypeFunctionShape bound gives.shape gives.set) set
    → ((e : Derivation) → IsMade build part.tree e → IsTyping build x (Node t-tabs (one e) (OfType ty)))
    → IsTyping build x (type_function_over g bound captured d)
type_function_made build x g bound gives ty set captured part d p e f u h =
    let is : gives ≡ closed_type (length g) (typed d) = e ∙ ap (closed_type (length g)) p.gives in
    let whole : CapturingType → Set → CapturingType = λ (t : CapturingType) (s : Set). capturing (TypeFunctionShape bound t.shape t.set) s in
    let same : whole gives set ≡ whole (closed_type (length g) (typed d)) (set_in g captured) = λ i. whole (is i) (f i) in
    subst (λ (z : CapturingType). IsTyping build x (Node t-tabs (one d) (OfType z))) (u ∙ same) (h d p.made)

-- what is widened to a type that is the same, in a context that is the same
pub raised_as : (build : Making) (derive : Deriving) (x : Typing) (g : Context) (d : Derivation) (s t : CapturingType) → s ≡ t
    → IsTyping build x (raised derive g d s) → IsTyping build x (raised derive g d t)
raised_as build derive x g d s t e p = subst (λ (z : CapturingType). IsTyping build x (raised derive g d z)) e p

-- the body of a let
pub left_made : (build : Making) (derive : Deriving) (x part : Typing) (g inner : Context) (named ty : CapturingType) (e : Derivation)
    → inner ≡ entry_of named ∷ g → ty ≡ avoided_or (type_of part.ty) (avoided_type Positive (length g) named.set (type_of part.ty))
    → IsTyping build part e → IsTyping build x (raised_if derive inner e ty) → IsTyping build x (left_derived derive g named e)
left_made build derive x part g inner named ty e is avoided p q =
    let to : ty ≡ avoided_or (typed e) (avoided_type Positive (length g) named.set (typed e)) =
    avoided ∙ ap (λ (t : CapturingType). avoided_or t (avoided_type Positive (length g) named.set t)) p.gives in
    subst (λ (h : Context). IsTyping build x (raised_if derive h e (avoided_or (typed e) (avoided_type Positive (length g) named.set (typed e))))) is
    (subst (λ (t : CapturingType). IsTyping build x (raised_if derive inner e t)) to q)

-- a let
pub let_made : (build : Making) (derive : Deriving) (x named left : Typing) (g : Context) (d e : Derivation)
    → IsTyping build named d → IsTyping build left (left_derived derive g (type_of named.ty) e)
    → ((a b : Derivation) → IsMade build named.tree a → IsMade build left.tree b → IsTyping build x (Node t-let (two a b) (OfType (type_of left.ty))))
    → IsTyping build x (let_node d (left_derived derive g (typed d) e))
let_made build derive x named left g d e p q h =
    let q' = subst (λ (t : CapturingType). IsTyping build left (left_derived derive g t e)) p.gives q in
    let b : Derivation = left_derived derive g (typed d) e in
    subst (λ (t : CapturingType). IsTyping build x (Node t-let (two d b) (OfType t))) q'.gives (h d b p.made q'.made)

-- a boundary
pub boundary_made : (build : Making) (derive : Deriving) (x raised_part : Typing) (g inner : Context) (gives : Shape) (whole copy : CapturingType) (d : Derivation)
    → inner ≡ exit_entry gives ∷ g → whole ≡ capturing gives empty → copy ≡ whole
    → IsTyping build raised_part (raised derive inner d copy)
    → ((e : Derivation) → IsMade build raised_part.tree e → IsTyping build x (Node t-boundary (one e) (OfType whole)))
    → IsTyping build x (boundary_node derive g gives d)
boundary_made build derive x raised_part g inner gives whole copy d is pure same p h =
    let q = subst (λ (z : Context). IsTyping build raised_part (raised derive z d (capturing gives empty))) is
    (subst (λ (t : CapturingType). IsTyping build raised_part (raised derive inner d t)) (same ∙ pure) p) in
    subst (λ (t : CapturingType). IsTyping build x (Node t-boundary (one (raised derive (exit_entry gives ∷ g) d (capturing gives empty))) (OfType t))) pure
    (h (raised derive (exit_entry gives ∷ g) d (capturing gives empty)) q.made)
