-- What is made of the forms without parts, by the shape that a head is exposed to.
use Rattle.std.proofs.Common.{◌≡◌, sym, subst}
use Rattle.cc_capture.specs.declared.var.Var.{Var}
use Rattle.cc_capture.specs.Sets.{Set, empty}
use Rattle.cc_core.specs.Contexts.{Context}
use Rattle.cc_core.specs.Derivations.{t-app, t-tapp, t-unbox, t-exit, OfType, Derivation, Node, one, two}
use Rattle.cc_core.specs.Shapes.{Shape, FunctionShape, TypeFunctionShape, BoxShape, ExitShape, CapturingType, capturing}
use Rattle.cc_core.specs.Substitution.{replaced_type, replaced_type_by_shape}
use Rattle.cc_checking.specs.CanonicalDerivations.{Deriving, head_derived, given_derived, operand_derived, application_derived, type_application_derived, unboxing_derived, exit_derived}
use Rattle.cc_derive.specs.declared.trees.Tree.{Tree}
use Rattle.cc_derive.specs.Trees.{IsMade}
use Rattle.cc_derive.specs.declared.nodes.Typing.{Typing}
use Rattle.cc_derive.specs.Typings.{IsTyping}
use Rattle.cc_derive.specs.declared.trees.Making.{Making}

pub application_made : (build : Making) (x : Typing) (derive : Deriving) (g : Context) (f a : Var) (takes gives ty taken : CapturingType) (s : Shape) (first second : Tree)
    → s ≡ FunctionShape takes.shape takes.set gives.shape gives.set → taken ≡ takes → ty ≡ replaced_type a gives
    → IsMade build first (head_derived derive g f) → IsMade build second (given_derived derive g a taken)
    → ((d e : Derivation) → IsMade build first d → IsMade build second e → IsTyping build x (Node t-app (two d e) (OfType ty)))
    → IsTyping build x (application_derived derive g f a s)
application_made build x derive g f a takes gives ty taken s first second is same typed p q h =
    let d : Derivation = head_derived derive g f in
    let e : Derivation = given_derived derive g a takes in
    subst (λ (y : Shape). IsTyping build x (application_derived derive g f a y)) (sym is)
    (subst (λ (z : CapturingType). IsTyping build x (Node t-app (two d e) (OfType z))) typed
    (h d e p (subst (λ (z : CapturingType). IsMade build second (given_derived derive g a z)) same q)))

pub type_application_made : (build : Making) (x : Typing) (derive : Deriving) (g : Context) (f : Var) (y bound : Shape) (gives ty : CapturingType) (s : Shape) (first second : Tree)
    → s ≡ TypeFunctionShape bound gives.shape gives.set → ty ≡ replaced_type_by_shape y gives
    → IsMade build first (head_derived derive g f) → IsMade build second (derive g y bound)
    → ((d e : Derivation) → IsMade build first d → IsMade build second e → IsTyping build x (Node t-tapp (two d e) (OfType ty)))
    → IsTyping build x (type_application_derived derive g f y s)
type_application_made build x derive g f y bound gives ty s first second is typed p q h =
    let d : Derivation = head_derived derive g f in
    let e : Derivation = derive g y bound in
    subst (λ (z : Shape). IsTyping build x (type_application_derived derive g f y z)) (sym is)
    (subst (λ (z : CapturingType). IsTyping build x (Node t-tapp (two d e) (OfType z))) typed (h d e p q))

pub unboxing_made : (build : Making) (x : Typing) (derive : Deriving) (g : Context) (set : Set) (v : Var) (content : CapturingType) (ty : CapturingType) (whole s : Shape) (first : Tree)
    → s ≡ BoxShape content.shape content.set → ty ≡ capturing content.shape set → whole ≡ BoxShape content.shape set
    → IsMade build first (operand_derived derive g v whole)
    → ((d : Derivation) → IsMade build first d → IsTyping build x (Node t-unbox (one d) (OfType ty)))
    → IsTyping build x (unboxing_derived derive g set v s)
unboxing_made build x derive g set v content ty whole s first is typed boxed p h =
    let d : Derivation = operand_derived derive g v (BoxShape content.shape set) in
    subst (λ (z : Shape). IsTyping build x (unboxing_derived derive g set v z)) (sym is)
    (subst (λ (z : CapturingType). IsTyping build x (Node t-unbox (one d) (OfType z))) typed
    (h d (subst (λ (z : Shape). IsMade build first (operand_derived derive g v z)) boxed p)))

pub exit_made : (build : Making) (x : Typing) (derive : Deriving) (g : Context) (gives : CapturingType) (v w : Var) (takes s : Shape) (taken : CapturingType) (first second : Tree)
    → s ≡ ExitShape takes → taken ≡ capturing takes empty
    → IsMade build first (head_derived derive g v) → IsMade build second (given_derived derive g w taken)
    → ((d e : Derivation) → IsMade build first d → IsMade build second e → IsTyping build x (Node t-exit (two d e) (OfType gives)))
    → IsTyping build x (exit_derived derive g gives v w s)
exit_made build x derive g gives v w takes s taken first second is same p q h =
    let d : Derivation = head_derived derive g v in
    let e : Derivation = given_derived derive g w (capturing takes empty) in
    subst (λ (z : Shape). IsTyping build x (exit_derived derive g gives v w z)) (sym is)
    (h d e p (subst (λ (z : CapturingType). IsMade build second (given_derived derive g w z)) same q))
