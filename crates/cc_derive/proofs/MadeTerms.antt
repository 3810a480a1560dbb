-- What is made of terms with parts.
use Rattle.std.proofs.Common.{◌≡◌, ◌∷◌, ap, ◌∙◌, subst}
use Rattle.cc_capture.specs.Sets.{Set}
use Rattle.cc_core.specs.Captured.{captured_variables}
use Rattle.cc_core.specs.Contexts.{TypeEntry, Context, entry_of}
use Rattle.cc_core.specs.Derivations.{Derivation}
use Rattle.cc_core.specs.Shapes.{Shape, CapturingType}
use Rattle.cc_core.specs.Terms.{Note, Term, FunctionTerm, TypeFunctionTerm, Let, Boundary}
use Rattle.cc_core.specs.TermViews.{type_of}
use Rattle.cc_checking.specs.CanonicalDerivations.{Deriving, typed, noted_derived, left_derived, let_node, boundary_node, term_derived}
use Rattle.cc_checking.specs.Inference.{shape_in, type_in, exit_entry}
use Rattle.cc_derive.specs.declared.nodes.Typing.{Typing}
use Rattle.cc_derive.specs.Typings.{IsTyping, function_over, type_function_over}
use Rattle.cc_derive.specs.declared.trees.Making.{Making}

pub function_term : (build : Making) (derive : Deriving) (x part : Typing) (g inner : Context) (takes read : CapturingType) (body : Term) (captured : Set)
    → inner ≡ entry_of read ∷ g → read ≡ type_in g takes → captured ≡ captured_variables (FunctionTerm takes.shape takes.set body)
    → IsTyping build part (term_derived derive inner body)
    → ((d : Derivation) → IsTyping build part d → IsTyping build x (function_over g read captured d))
    → IsTyping build x (term_derived derive g (FunctionTerm takes.shape takes.set body))
function_term build derive x part g inner takes read body captured is e f p h =
    let d : Derivation = term_derived derive (entry_of (type_in g takes) ∷ g) body in
    let under : inner ≡ entry_of (type_in g takes) ∷ g = is ∙ ap (λ (t : CapturingType). entry_of t ∷ g) e in
    let p' : IsTyping build part d = subst (λ (h : Context). IsTyping build part (term_derived derive h body)) under p in
    subst (λ (c : Set). IsTyping build x (function_over g (type_in g takes) c d)) f
    (subst (λ (t : CapturingType). IsTyping build x (function_over g t captured d)) e (h d p'))

pub type_function_term : (build : Making) (derive : Deriving) (x part : Typing) (g inner : Context) (bound read : Shape) (body : Term) (captured : Set)
    → inner ≡ TypeEntry read ∷ g → read ≡ shape_in g bound → captured ≡ captured_variables (TypeFunctionTerm bound body)
    → IsTyping build part (term_derived derive inner body)
    → ((d : Derivation) → IsTyping build part d → IsTyping build x (type_function_over g read captured d))
    → IsTyping build x (term_derived derive g (TypeFunctionTerm bound body))
type_function_term build derive x part g inner bound read body captured is e f p h =
    let d : Derivation = term_derived derive (TypeEntry (shape_in g bound) ∷ g) body in
    let under : inner ≡ TypeEntry (shape_in g bound) ∷ g = is ∙ ap (λ (s : Shape). TypeEntry s ∷ g) e in
    let p' : IsTyping build part d = subst (λ (h : Context). IsTyping build part (term_derived derive h body)) under p in
    subst (λ (c : Set). IsTyping build x (type_function_over g (shape_in g bound) c d)) f
    (subst (λ (s : Shape). IsTyping build x (type_function_over g s captured d)) e (h d p'))

pub let_term : (build : Making) (derive : Deriving) (x found named part : Typing) (g inner : Context) (note : Note) (right body : Term)
    → IsTyping build found (term_derived derive g right)
    → ((d : Derivation) → IsTyping build found d → IsTyping build named (noted_derived derive g note d))
    → inner ≡ entry_of (type_of named.ty) ∷ g
    → IsTyping build part (term_derived derive inner body)
    → ((d e : Derivation) → IsTyping build named d → IsTyping build part e → IsTyping build x (let_node d (left_derived derive g (typed d) e)))
    → IsTyping build x (term_derived derive g (Let note right body))
let_term build derive x found named part g inner note right body p n is q h =
    let d : Derivation = noted_derived derive g note (term_derived derive g right) in
    let p' : IsTyping build named d = n (term_derived derive g right) p in
    let under : inner ≡ entry_of (typed d) ∷ g = is ∙ ap (λ (t : CapturingType). entry_of t ∷ g) p'.gives in
    h d (term_derived derive (entry_of (typed d) ∷ g) body) p' (subst (λ (h : Context). IsTyping build part (term_derived derive h body)) under q)

pub boundary_term : (build : Making) (derive : Deriving) (x part : Typing) (g inner : Context) (gives read : Shape) (body : Term)
    → inner ≡ exit_entry read ∷ g → read ≡ shape_in g gives → IsTyping build part (term_derived derive inner body)
    → ((d : Derivation) → IsTyping build part d → IsTyping build x (boundary_node derive g read d))
    → IsTyping build x (term_derived derive g (Boundary gives body))
boundary_term build derive x part g inner gives read body is e p h =
    let d : Derivation = term_derived derive (exit_entry (shape_in g gives) ∷ g) body in
    let under : inner ≡ exit_entry (shape_in g gives) ∷ g = is ∙ ap (λ (s : Shape). exit_entry s ∷ g) e in
    subst (λ (s : Shape). IsTyping build x (boundary_node derive g s d)) e
    (h d (subst (λ (h : Context). IsTyping build part (term_derived derive h body)) under p))
