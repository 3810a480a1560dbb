-- The entries of contexts: what stands where one of them is another, and what kinds they have.
use Rattle.std.proofs.Common.{◌≡◌, ℕ, suc, true, false, cond, List, [], ◌∷◌, ◌++◌, length, Option, Some, None, refl, sym, ap, ◌∙◌, subst, inl, inr, ◌⊎◌}
use Rattle.std.specs.Prelude.{nat_eq}
use Rattle.std.specs.Option.{option_map}
use Rattle.std.proofs.lemmas.Bool.{and_parts, eqb-true}
use Rattle.cc_capture.specs.Sets.{Set}
use Rattle.cc_core.specs.Shapes.{Shape}
use Rattle.cc_core.specs.Contexts.{Bind, TermEntry, TypeEntry, Context, lookup}
use Rattle.cc_core.specs.WellFormed.{Kind, TermKind, TypeKind, kind_of, kinds_of, is_well_formed_set, is_well_formed_shape, is_well_formed_entry, is_well_formed_context}
use Rattle.cc_core.proofs.Lookups.{lookup-cases, lookup-map}
use Rattle.cc_core.proofs.KindFacts.{IsKinded, IsKindedSet, IsKinded-from, IsKindedSet-from}
use Rattle.cc_core.proofs.KindRespecting.{MovesKinds-more, moved_kinds}
use Rattle.cc_core.proofs.Sorts.{SetSort, ShapeSort}

pub length-later : {A : Type 0} (later : List A) (a b : A) (older : List A) → length (later ++ (a ∷ older)) ≡ length (later ++ (b ∷ older))
length-later [] a b older = refl
length-later (x ∷ later) a b older = ap suc (length-later later a b older)

-- where one entry is another, what stood at a position stands there still, unless it was that entry
pub lookup-changed : {A : Type 0} (later : List A) (a b : A) (older : List A) (position : ℕ) (entry : A)
    → lookup (later ++ (a ∷ older)) position ≡ Some entry
    → ((position ≡ length older) × (entry ≡ a)) ⊎ (lookup (later ++ (b ∷ older)) position ≡ Some entry)
lookup-changed [] a b older position entry here =
    elim (nat_eq position (length older)) as (λ t. nat_eq position (length older) ≡ t → cond t (Some a) (lookup older position) ≡ Some entry
    → ((position ≡ length older) × (entry ≡ a)) ⊎ (cond t (Some b) (lookup older position) ≡ Some entry)) [
      | true ↦ λ same found. inl (eqb-true position (length older) same, cc)
      | false ↦ λ _ found. inr found
    ] refl here
lookup-changed (x ∷ later) a b older position entry here =
    let lengths = length-later later a b older in
    let tests : nat_eq position (length (later ++ (a ∷ older))) ≡ nat_eq position (length (later ++ (b ∷ older))) = ap (nat_eq position) lengths in
    subst (λ t. ((position ≡ length older) × (entry ≡ a)) ⊎ (cond t (Some x) (lookup (later ++ (b ∷ older)) position) ≡ Some entry)) tests
    (elim (nat_eq position (length (later ++ (a ∷ older)))) as (λ t. cond t (Some x) (lookup (later ++ (a ∷ older)) position) ≡ Some entry
    → ((position ≡ length older) × (entry ≡ a)) ⊎ (cond t (Some x) (lookup (later ++ (b ∷ older)) position) ≡ Some entry)) [
      | true ↦ λ found. inr found
      | false ↦ λ found. lookup-changed later a b older position entry found
    ] here)

-- a position of some kind has an entry of that kind
term_entry : (found : Option Bind) → option_map kind_of found ≡ Some TermKind → (shape : Shape) × (set : Set) × (found ≡ Some (TermEntry shape set))
term_entry (Some (TermEntry shape set)) known = (shape, set, refl)
term_entry (Some (TypeEntry bound)) known = cc
term_entry None known = cc

pub entry_of_term : (context : Context) (position : ℕ) → lookup (kinds_of context) position ≡ Some TermKind
    → (shape : Shape) × (set : Set) × (lookup context position ≡ Some (TermEntry shape set))
entry_of_term context position known = term_entry (lookup context position) (sym (lookup-map kind_of context position) ∙ known)

type_entry : (found : Option Bind) → option_map kind_of found ≡ Some TypeKind → (bound : Shape) × (found ≡ Some (TypeEntry bound))
type_entry (Some (TermEntry shape set)) known = cc
type_entry (Some (TypeEntry bound)) known = (bound, refl)
type_entry None known = cc

pub entry_of_type : (context : Context) (position : ℕ) → lookup (kinds_of context) position ≡ Some TypeKind
    → (bound : Shape) × (lookup context position ≡ Some (TypeEntry bound))
entry_of_type context position known = type_entry (lookup context position) (sym (lookup-map kind_of context position) ∙ known)

pub kind_of_entry : (context : Context) (position : ℕ) (entry : Bind) → lookup context position ≡ Some entry → lookup (kinds_of context) position ≡ Some (kind_of entry)
kind_of_entry context position entry there = lookup-map kind_of context position ∙ ap (option_map kind_of) there

-- well-formed entries and contexts, as facts about kinds
abbrev pub IsKindedEntry : List Kind → Bind → Type 0
IsKindedEntry kinds (TermEntry shape set) = IsKinded kinds [] shape × IsKindedSet kinds [] set
IsKindedEntry kinds (TypeEntry bound) = IsKinded kinds [] bound

abbrev pub IsKindedContext : Context → Type 0
IsKindedContext [] = Unit {0}
IsKindedContext (entry ∷ context) = IsKindedEntry (kinds_of context) entry × IsKindedContext context

pub IsKindedEntry-from : (kinds : List Kind) (entry : Bind) → is_well_formed_entry kinds entry ≡ true → IsKindedEntry kinds entry
IsKindedEntry-from kinds (TermEntry shape set) h =
    let parts = and_parts (is_well_formed_shape kinds [] shape) (is_well_formed_set kinds [] set) h in
    (IsKinded-from kinds [] shape parts.0, IsKindedSet-from kinds [] set parts.1)
IsKindedEntry-from kinds (TypeEntry bound) h = IsKinded-from kinds [] bound h

pub IsKindedContext-from : (context : Context) → is_well_formed_context context ≡ true → IsKindedContext context
IsKindedContext-from [] h = tt
IsKindedContext-from (entry ∷ context) h =
    let parts = and_parts (is_well_formed_entry (kinds_of context) entry) (is_well_formed_context context) h in
    (IsKindedEntry-from (kinds_of context) entry parts.0, IsKindedContext-from context parts.1)

-- with one kind more
pub IsKinded-added : (kind : Kind) (kinds passed : List Kind) (shape : Shape) → IsKinded kinds passed shape → IsKinded (kind ∷ kinds) passed shape
IsKinded-added kind kinds passed shape h = moved_kinds ShapeSort kinds passed (kind ∷ kinds) passed (MovesKinds-more (kind ∷ []) kinds passed) [] shape h

pub IsKindedSet-added : (kind : Kind) (kinds passed : List Kind) (set : Set) → IsKindedSet kinds passed set → IsKindedSet (kind ∷ kinds) passed set
IsKindedSet-added kind kinds passed set h = moved_kinds SetSort kinds passed (kind ∷ kinds) passed (MovesKinds-more (kind ∷ []) kinds passed) [] set h

pub IsKindedEntry-added : (kind : Kind) (kinds : List Kind) (entry : Bind) → IsKindedEntry kinds entry → IsKindedEntry (kind ∷ kinds) entry
IsKindedEntry-added kind kinds (TermEntry shape set) h = (IsKinded-added kind kinds [] shape h.0, IsKindedSet-added kind kinds [] set h.1)
IsKindedEntry-added kind kinds (TypeEntry bound) h = IsKinded-added kind kinds [] bound h

-- what a well-formed context holds is well formed in it
pub entry_kinded : (context : Context) (position : ℕ) (entry : Bind) → IsKindedContext context → lookup context position ≡ Some entry → IsKindedEntry (kinds_of context) entry
entry_kinded [] position entry formed there = cc
entry_kinded (newest ∷ context) position entry formed there =
    IsKindedEntry-added (kind_of newest) (kinds_of context) entry
    (elim (lookup-cases newest context position entry there) as (λ _. IsKindedEntry (kinds_of context) entry) [
      | inl same ↦ subst (IsKindedEntry (kinds_of context)) same.1 formed.0
      | inr found ↦ entry_kinded context position entry formed.1 found
    ])
