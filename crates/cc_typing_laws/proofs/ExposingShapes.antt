-- Exposing follows bounds among the older entries, which are all that a bound names.
use Rattle.std.proofs.Common.{◌≡◌, ℕ, true, false, cond, [], ◌∷◌, length, Some, refl, sym, ap, ◌∙◌, subst, inl, inr, arith}
use Rattle.std.specs.Prelude.{nat_eq}
use Rattle.std.proofs.lemmas.Bool.{eqb-true, eq-eqb}
use Rattle.cc_capture.specs.declared.var.Var.{Var}
use Rattle.cc_capture.specs.declared.var.Var.TheVariants.{Bound, Free}
use Rattle.cc_core.specs.Shapes.{Shape, BaseShape, AnyShape, TypeVariable, FunctionShape, TypeFunctionShape, BoxShape, ExitShape}
use Rattle.cc_core.specs.Contexts.{Bind, TermEntry, TypeEntry, Context, lookup}
use Rattle.cc_core.specs.WellFormed.{TypeKind, kind_of, kinds_of, is_well_formed_shape, is_well_formed_context}
use Rattle.cc_core.specs.Subtyping.{Subtypes}
use Rattle.cc_core.proofs.Lookups.{lookup-newest, lookup-below, lookup-cases, length_map}
use Rattle.cc_core.proofs.KindFacts.{IsKinded, IsKinded-from}
use Rattle.cc_core.proofs.SubcapturingContexts.{IsKindedEntry, IsKindedContext, IsKindedContext-from, entry_kinded}
use Rattle.cc_checking.specs.Exposing.{followed, exposed}
use Rattle.cc_typing_laws.specs.ContextMaps.{Extends, unchanged}
use Rattle.cc_typing_laws.proofs.Extensions.{extends_older, lookup-extends}
use Rattle.cc_typing_laws.proofs.DirectSubtyping.{SubtypesDirectly, alike, through_bound, direct_to}

abbrev IsNoVariable : Shape → Type 0
IsNoVariable shape = (v : Var) → shape ≡ TypeVariable v → ⊥

followed_other : (entry : Bind) (position : ℕ) (shape : Shape) → IsNoVariable shape → followed entry position shape ≡ shape
followed_other (TypeEntry bound) position (TypeVariable v) other = absurd (other v refl)
followed_other (TypeEntry bound) position (BaseShape base) other = refl
followed_other (TypeEntry bound) position AnyShape other = refl
followed_other (TypeEntry bound) position (FunctionShape t c g e) other = refl
followed_other (TypeEntry bound) position (TypeFunctionShape b g e) other = refl
followed_other (TypeEntry bound) position (BoxShape t c) other = refl
followed_other (TypeEntry bound) position (ExitShape g) other = refl
followed_other (TermEntry type set) position shape other = refl

pub followed_newest : (bound : Shape) (position other : ℕ) → other ≡ position → followed (TypeEntry bound) position (TypeVariable (Free other)) ≡ bound
followed_newest bound position other same = let test = eq-eqb other position same in ap (λ t. cond t bound (TypeVariable (Free other))) test

pub followed_older : (entry : Bind) (position other : ℕ) → (other ≡ position → ⊥) → followed entry position (TypeVariable (Free other)) ≡ TypeVariable (Free other)
followed_older (TermEntry type set) position other apart = refl
followed_older (TypeEntry bound) position other apart =
    elim (nat_eq other position) as (λ t. nat_eq other position ≡ t → cond t bound (TypeVariable (Free other)) ≡ TypeVariable (Free other)) [
      | true ↦ λ same. absurd (apart (eqb-true other position same))
      | false ↦ λ _. refl
    ] refl

followed_index : (entry : Bind) (position index : ℕ) → followed entry position (TypeVariable (Bound index)) ≡ TypeVariable (Bound index)
followed_index (TermEntry type set) position index = refl
followed_index (TypeEntry bound) position index = refl

pub others_stay : (context : Context) (shape : Shape) → IsNoVariable shape → exposed context shape ≡ shape
others_stay [] shape other = refl
others_stay (entry ∷ older) shape other = ap (exposed older) (followed_other entry (length older) shape other) ∙ others_stay older shape other

-- what names older entries alone is exposed as without the entry
pub followed_known : (entry : Bind) (older : Context) (shape : Shape) → IsKinded (kinds_of older) [] shape → followed entry (length older) shape ≡ shape
followed_known entry older (TypeVariable (Free position)) h =
    let below = lookup-below (kinds_of older) position TypeKind h in
    let n = length_map kind_of older in
    followed_older entry (length older) position (λ same. absurd (omega arith))
followed_known entry older (TypeVariable (Bound index)) h = followed_index entry (length older) index
followed_known entry older (BaseShape base) h = followed_other entry (length older) (BaseShape base) (λ v e. cc)
followed_known entry older AnyShape h = followed_other entry (length older) AnyShape (λ v e. cc)
followed_known entry older (FunctionShape t c g e) h = followed_other entry (length older) (FunctionShape t c g e) (λ v x. cc)
followed_known entry older (TypeFunctionShape b g e) h = followed_other entry (length older) (TypeFunctionShape b g e) (λ v x. cc)
followed_known entry older (BoxShape t c) h = followed_other entry (length older) (BoxShape t c) (λ v x. cc)
followed_known entry older (ExitShape g) h = followed_other entry (length older) (ExitShape g) (λ v x. cc)

pub exposed-bound : (context : Context) (position : ℕ) (bound : Shape) → IsKindedContext context → lookup context position ≡ Some (TypeEntry bound)
    → exposed context (TypeVariable (Free position)) ≡ exposed context bound
exposed-bound [] position bound g there = cc
exposed-bound (entry ∷ older) position bound g there =
    elim (lookup-cases entry older position (TypeEntry bound) there) as (λ _. exposed older (followed entry (length older) (TypeVariable (Free position))) ≡ exposed older (followed entry (length older) bound)) [
      | inl same ↦
          let own : IsKinded (kinds_of older) [] bound = subst (IsKindedEntry (kinds_of older)) same.1 g.0 in
          ap (exposed older)
          (ap (λ b. followed b (length older) (TypeVariable (Free position))) same.1 ∙ followed_newest bound (length older) position same.0 ∙ sym (followed_known entry older bound own))
      | inr old ↦
          let own : IsKinded (kinds_of older) [] bound = entry_kinded older position (TypeEntry bound) g.1 old in
          let below = lookup-below older position (TypeEntry bound) old in
          ap (exposed older) (followed_older entry (length older) position (λ same. absurd (omega arith)))
          ∙ exposed-bound older position bound g.1 old ∙ ap (exposed older) (sym (followed_known entry older bound own))
    ]

pub exposing_follows : (context : Context) (position : ℕ) (bound : Shape) → is_well_formed_context context ≡ true
    → lookup context position ≡ Some (TypeEntry bound) → exposed context (TypeVariable (Free position)) ≡ exposed context bound
exposing_follows context position bound formed there = exposed-bound context position bound (IsKindedContext-from context formed) there

-- one step leads to what names older entries alone
pub followed_kinded : (entry : Bind) (older : Context) (position : ℕ) → IsKindedEntry (kinds_of older) entry → lookup (kinds_of (entry ∷ older)) position ≡ Some TypeKind
    → IsKinded (kinds_of older) [] (followed entry (length older) (TypeVariable (Free position)))
followed_kinded entry older position own h =
    elim (lookup-cases (kind_of entry) (kinds_of older) position TypeKind h) as (λ _. IsKinded (kinds_of older) [] (followed entry (length older) (TypeVariable (Free position)))) [
      | inl same ↦ newest entry (same.0 ∙ length_map kind_of older) same.1 own
      | inr old ↦
          let below = lookup-below (kinds_of older) position TypeKind old in
          let n = length_map kind_of older in
          subst (IsKinded (kinds_of older) []) (sym (followed_older entry (length older) position (λ same. absurd (omega arith)))) old
    ]
  where
    newest : (entry : Bind) → position ≡ length older → kind_of entry ≡ TypeKind → IsKindedEntry (kinds_of older) entry
        → IsKinded (kinds_of older) [] (followed entry (length older) (TypeVariable (Free position)))
    newest (TermEntry type set) here is own = cc
    newest (TypeEntry bound) here is own = subst (IsKinded (kinds_of older) []) (sym (followed_newest bound (length older) position here)) own

still_no_variable : (context : Context) (shape : Shape) → IsNoVariable shape → IsNoVariable (exposed context shape)
still_no_variable context shape other v e = other v (sym (others_stay context shape other) ∙ e)

-- there is no variable in the end
ends_at : (context : Context) (shape : Shape) → IsKindedContext context → IsKinded (kinds_of context) [] shape → IsNoVariable (exposed context shape)
ends_at [] (TypeVariable (Free position)) g h = cc
ends_at (entry ∷ older) (TypeVariable (Free position)) g h =
    ends_at older (followed entry (length older) (TypeVariable (Free position))) g.1 (followed_kinded entry older position g.0 h)
ends_at context (TypeVariable (Bound index)) g h = cc
ends_at context (BaseShape base) g h = still_no_variable context (BaseShape base) (λ w x. cc)
ends_at context AnyShape g h = still_no_variable context AnyShape (λ w x. cc)
ends_at context (FunctionShape t c u d) g h = still_no_variable context (FunctionShape t c u d) (λ w x. cc)
ends_at context (TypeFunctionShape b u d) g h = still_no_variable context (TypeFunctionShape b u d) (λ w x. cc)
ends_at context (BoxShape t c) g h = still_no_variable context (BoxShape t c) (λ w x. cc)
ends_at context (ExitShape u) g h = still_no_variable context (ExitShape u) (λ w x. cc)

pub no_variable_left : (context : Context) (shape : Shape) → is_well_formed_context context ≡ true → is_well_formed_shape (kinds_of context) [] shape ≡ true
    → (v : Var) → exposed context shape ≡ TypeVariable v → ⊥
no_variable_left context shape formed known = ends_at context shape (IsKindedContext-from context formed) (IsKinded-from (kinds_of context) [] shape known)

-- what is above the bound is above the variable
above_followed : (entry : Bind) (older : Context) (shape right : Shape) (longer : Context) → Extends (entry ∷ older) longer
    → SubtypesDirectly longer (followed entry (length older) shape) right → SubtypesDirectly longer shape right
above_followed (TermEntry type set) older shape right longer more below = below
above_followed (TypeEntry bound) older (TypeVariable (Free position)) right longer more below =
    elim (nat_eq position (length older)) as (λ t. nat_eq position (length older) ≡ t
    → SubtypesDirectly longer (cond t bound (TypeVariable (Free position))) right → SubtypesDirectly longer (TypeVariable (Free position)) right) [
      | true ↦ λ same found.
          let here = eqb-true position (length older) same in
          let stands : lookup longer position ≡ Some (TypeEntry bound) =
          ap (lookup longer) here ∙ lookup-extends more (length older) (TypeEntry bound) (lookup-newest (TypeEntry bound) older) in
          through_bound stands found
      | false ↦ λ _ found. found
    ] refl below
above_followed (TypeEntry bound) older (TypeVariable (Bound index)) right longer more below = below
above_followed (TypeEntry bound) older (BaseShape base) right longer more below = below
above_followed (TypeEntry bound) older AnyShape right longer more below = below
above_followed (TypeEntry bound) older (FunctionShape t c g e) right longer more below = below
above_followed (TypeEntry bound) older (TypeFunctionShape b g e) right longer more below = below
above_followed (TypeEntry bound) older (BoxShape t c) right longer more below = below
above_followed (TypeEntry bound) older (ExitShape g) right longer more below = below

above : (context : Context) (shape : Shape) (longer : Context) → Extends context longer → SubtypesDirectly longer shape (exposed context shape)
above [] shape longer more = alike
above (entry ∷ older) shape longer more =
    above_followed entry older shape (exposed older (followed entry (length older) shape)) longer more (above older (followed entry (length older) shape) longer (extends_older more))

pub exposed_above : (context : Context) (shape : Shape) → Subtypes context shape (exposed context shape)
exposed_above context shape = direct_to (above context shape context unchanged)
