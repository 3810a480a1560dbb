-- The kinds of names: each name that is found stands for what is asked.
use Rattle.std.proofs.Common.{◌≡◌, ℕ, zero, suc, ◌<◌, Bool, true, List, [], ◌∷◌, map, length, get_or, slice_get, position, Option, Some, None, refl, ap, ◌∙◌, subst, arith, bytes_eq}
use Rattle.std.specs.Option.{option_map}
use Rattle.std.proofs.lemmas.List.Quantifiers.{position-Some}
use Rattle.cc_capture.specs.declared.var.Var.{Var}
use Rattle.cc_capture.specs.declared.var.Var.TheVariants.{Bound, Free}
use Rattle.cc_core.specs.Contexts.{lookup}
use Rattle.cc_core.specs.WellFormed.{Kind, TermKind, TypeKind, kind_at}
use Rattle.cc_core.proofs.KindFacts.{IsOfKind}
use Rattle.cc_core.proofs.Lookups.{lookup-within, lookup-map}
use Rattle.cc_mnf.specs.Scopes.{Name, Binder, TermBinder, TypeBinder, Unnamed, Scope, binds_term, binds_type, bound_or_free, term_variable, type_variable}

-- the kind of what a binder binds
abbrev pub binder_kind : Binder → Kind
binder_kind (TermBinder name) = TermKind
binder_kind (TypeBinder name) = TypeKind
binder_kind Unnamed = TermKind

-- the kinds of the binders around, the innermost first
abbrev pub passed : Scope → List Kind
passed scope = map binder_kind scope.binders

-- each name among these stands for a value
pub record HasNames (kinds : List Kind) (names : List Name) : Type 0 where
  pub has : (name : Name) (p : ℕ) → position (bytes_eq name) names ≡ Some p → lookup kinds p ≡ Some TermKind

binder_at : (binders : List Binder) (i : ℕ) (d : Binder) → i < length binders
    → slice_get (map binder_kind binders) i ≡ Some (binder_kind (get_or binders i d))
binder_at [] i d l = absurd (omega arith)
binder_at (b ∷ binders) zero d l = refl
binder_at (b ∷ binders) (suc i) d l = binder_at binders i d (omega arith)

term_binder_kind : (name : Name) (b : Binder) → binds_term name b ≡ true → binder_kind b ≡ TermKind
term_binder_kind name (TermBinder bound) h = refl
term_binder_kind name (TypeBinder bound) h = cc
term_binder_kind name Unnamed h = refl

type_binder_kind : (name : Name) (b : Binder) → binds_type name b ≡ true → binder_kind b ≡ TypeKind
type_binder_kind name (TermBinder bound) h = cc
type_binder_kind name (TypeBinder bound) h = refl
type_binder_kind name Unnamed h = cc

found_kind : (test : Binder → Bool) (kind : Kind) → ((b : Binder) → test b ≡ true → binder_kind b ≡ kind)
    → (binders : List Binder) (i : ℕ) → position test binders ≡ Some i
    → slice_get (map binder_kind binders) i ≡ Some kind
found_kind test kind right binders i e =
    let h = position-Some test binders i Unnamed e in
    binder_at binders i Unnamed h.0 ∙ ap Some (right (get_or binders i Unnamed) h.1)

some_parts : {A : Type 0} (a b : A) → Some a ≡ Some b → a ≡ b
some_parts a b e = cc

either_kind : (kinds inside : List Kind) (o p : Option ℕ) (v : Var)
    → ((i : ℕ) → o ≡ Some i → slice_get inside i ≡ Some TermKind)
    → ((q : ℕ) → p ≡ Some q → lookup kinds q ≡ Some TermKind) → bound_or_free o p ≡ Some v
    → IsOfKind kinds inside v TermKind
either_kind kinds inside (Some i) p v f g e =
    subst (λ w. kind_at kinds inside w ≡ Some TermKind) (some_parts (Bound i) v e) (f i refl)
either_kind kinds inside None (Some q) v f g e =
    subst (λ w. kind_at kinds inside w ≡ Some TermKind) (some_parts (Free q) v e) (g q refl)
either_kind kinds inside None None v f g e = cc

pub term_variable_kind : (kinds : List Kind) (scope : Scope) → HasNames kinds scope.names → (name : Name) (v : Var)
    → term_variable scope name ≡ Some v → IsOfKind kinds (passed scope) v TermKind
term_variable_kind kinds scope names name v e =
    either_kind kinds (passed scope) (position (binds_term name) scope.binders) (position (bytes_eq name) scope.names) v
    (λ i h. found_kind (binds_term name) TermKind (term_binder_kind name) scope.binders i h)
    (λ q h. names.has name q h) e

bound_kind : (kinds inside : List Kind) (o : Option ℕ) (v : Var)
    → ((i : ℕ) → o ≡ Some i → slice_get inside i ≡ Some TypeKind) → option_map Bound o ≡ Some v
    → IsOfKind kinds inside v TypeKind
bound_kind kinds inside (Some i) v f e =
    subst (λ w. kind_at kinds inside w ≡ Some TypeKind) (some_parts (Bound i) v e) (f i refl)
bound_kind kinds inside None v f e = cc

pub type_variable_kind : (kinds : List Kind) (scope : Scope) (name : Name) (v : Var)
    → type_variable scope name ≡ Some v → IsOfKind kinds (passed scope) v TypeKind
type_variable_kind kinds scope name v e =
    bound_kind kinds (passed scope) (position (binds_type name) scope.binders) v
    (λ i h. found_kind (binds_type name) TypeKind (type_binder_kind name) scope.binders i h) e

pub names_kind : (names : List Name) (p : ℕ) → p < length names
    → lookup (map (λ name. TermKind) names) p ≡ Some TermKind
names_kind names p l =
    let found = lookup-within names p l in
    lookup-map (λ (name : Name). TermKind) names p ∙ ap (option_map (λ (name : Name). TermKind)) found.1

pub has_names : (names : List Name) → HasNames (map (λ name. TermKind) names) names
has_names names =
    record { has = λ name p e. names_kind names p (position-Some (bytes_eq name) names p [] e).0 }
