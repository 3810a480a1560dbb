-- Among binds a well-formed type or term without holes has a name or a binder for each of its variables.
use Rattle.std.proofs.Common.{◌≡◌, ℕ, zero, suc, ◌+◌, ◌-◌, ◌^◌, ◌<◌, ◌≤◌, Bool, true, false, List, [], ◌∷◌, Option, Some, None, cond, length, bytes_eq, refl, sym, ap, subst, ◌∙◌, arith}
use Rattle.std.specs.Prelude.{max, is_some, slice_get, nat_eq}
use Rattle.std.specs.List.{AllByRecursion, IsDistinct}
use Rattle.std.proofs.lemmas.Option.{slice_get_within}
use Rattle.std.proofs.lemmas.Bool.Decides.{Decides-eqb}
use Rattle.cc_base.specs.Names.{IsName}
use Rattle.cc_capture.specs.declared.var.Var.{Var}
use Rattle.cc_capture.specs.declared.var.Var.TheVariants.{Bound, Free}
use Rattle.cc_capture.specs.declared.var.Elem.{Elem}
use Rattle.cc_capture.specs.declared.var.Elem.TheVariants.{Var as Variable, Cap, Hole}
use Rattle.cc_capture.specs.Sets.{Set, Member, contains}
use Rattle.cc_core.specs.Shapes.{Shape, BaseShape, AnyShape, TypeVariable, FunctionShape, TypeFunctionShape, BoxShape, ExitShape, CapturingType, capturing}
use Rattle.cc_core.specs.Terms.{Note, Absent, Written, Own, Term, VariableTerm, LiteralTerm, FunctionTerm, TypeFunctionTerm, BoxTerm, Application, TypeApplication, Unboxing, Let, Primitive, Conditional, Repetition, Operation, Boundary, Leave}
use Rattle.cc_core.specs.Contexts.{lookup}
use Rattle.cc_core.specs.Occurrences.{Meets, MeetsInSet, IsNoHole, without_holes, HasNoHole, HasNoHoleInSet}
use Rattle.cc_core.specs.WellFormed.{Kind, TermKind, TypeKind, kind_at}
use Rattle.cc_core.proofs.KindFacts.{IsOfKind, IsKindedElement, IsKindedSet, IsKinded, IsKindedNote, IsKindedOptional, IsKindedOptionalSet, IsKindedTerm}
use Rattle.cc_certificate_text.specs.Heights.{shape_height, note_height, term_height}
use Rattle.cc_certificate_text.specs.LocalNames.{IsNamed, IsNamedElement, IsLocal}
use Rattle.cc_certificate_text.specs.Certificates.{IsWritten, IsWrittenNote, IsOptionalNote, IsWrittenSet, takes_argument}
use Rattle.cc_certificate_text.specs.Reading.{Counted}
use Rattle.cc_certificate_text.proofs.Seen.{MayStand}
use Rattle.cc_certificate_text.proofs.SetOrders.{all_of_listed, listed_all}
use Rattle.cc_certificate_text.proofs.ReadTypes.{NamedSet, NamedShape}
use Rattle.cc_certificate_text.proofs.ReadTerms.{NamedVariable, NamedNote, WrittenNote, NamedArgument, NamedOpening, NamedTerm, SetOf, ShapeOf}

-- each of the kinds is that of terms
abbrev pub AllTerms : List Kind → Type 0
AllTerms kinds = AllByRecursion (λ k. k ≡ TermKind) kinds

lookup_in : (x : Kind) (xs : List Kind) (p : ℕ) (k : Kind) (test : Bool) → nat_eq p (length xs) ≡ test → x ≡ TermKind
    → (lookup xs p ≡ Some k → (p < length xs) × (k ≡ TermKind))
    → cond test (Some x) (lookup xs p) ≡ Some k → (p < length (x ∷ xs)) × (k ≡ TermKind)
lookup_in x xs p k true e is deeper h =
    let same : p ≡ length xs = (Decides-eqb p (length xs)).0 e in
    let found : x ≡ k = cc in (omega (arith, same), sym found ∙ is)
lookup_in x xs p k false e is deeper h = let rest = deeper h in (omega (arith, rest.0), rest.1)

-- what is looked up among variables of terms is one
lookup_terms : (kinds : List Kind) → AllTerms kinds → (p : ℕ) (k : Kind) → lookup kinds p ≡ Some k → (p < length kinds) × (k ≡ TermKind)
lookup_terms [] all p k h = cc
lookup_terms (x ∷ xs) all p k h = lookup_in x xs p k (nat_eq p (length xs)) refl all.0 (lookup_terms xs all.1 p k) h

module _ (names : List (List ℕ)) (all : AllByRecursion IsName names) (apart : IsDistinct bytes_eq names)
    (kinds : List Kind) (terms : AllTerms kinds) (many : length kinds ≡ length names) where
  may_stand : (passed : List Kind) (i : ℕ) (k : Kind) → slice_get passed i ≡ Some k → length passed ≤ 2 ^ 32
      → MayStand Counted (length passed) i
  may_stand passed i k h low =
      let inside = slice_get_within passed i k h in (inside, omega (arith, inside, low))

  named_variable : (passed : List Kind) (v : Var) → IsOfKind kinds passed v TermKind → length passed ≤ 2 ^ 32
      → NamedVariable names all apart (length passed) v
  named_variable passed (Bound i) h low = may_stand passed i TermKind h low
  named_variable passed (Free p) h low = let found = lookup_terms kinds terms p TermKind h in omega (arith, found.0, many)

  named_local : (passed : List Kind) (v : Var) → IsOfKind kinds passed v TypeKind → length passed ≤ 2 ^ 32
      → IsLocal (MayStand Counted (length passed)) v
  named_local passed (Bound i) h low = may_stand passed i TypeKind h low
  named_local passed (Free p) h low = let found = lookup_terms kinds terms p TypeKind h in types_apart found.1
    where
      types_apart : TypeKind ≡ TermKind → ⊥
      types_apart e = cc

  named_element : (passed : List Kind) (e : Elem) → IsKindedElement kinds passed e → IsNoHole e → length passed ≤ 2 ^ 32
      → IsNamedElement (MayStand Counted (length passed)) (length names) e
  named_element passed (Variable v) h none low = named_variable passed v h low
  named_element passed Cap h none low = tt
  named_element passed (Hole hole) h none low = absurd none

  pub named_set : (passed : List Kind) (d : ℕ) (c : Set) → IsKindedSet kinds passed c → MeetsInSet without_holes d c → length passed ≤ 2 ^ 32
      → SetOf names all apart (length passed) c
  unfolding contains
  named_set passed d c h none low =
      listed_all (IsNamedElement (MayStand Counted (length passed)) (length names)) c.list
      (λ e m. named_element passed e (h e m) (none e m) low)

  pub named_shape : (shape : Shape) (passed : List Kind) (d : ℕ) → IsKinded kinds passed shape → Meets without_holes d shape
      → length passed + shape_height shape ≤ 2 ^ 32 → ShapeOf names all apart (length passed) shape
  named_shape (BaseShape base) passed d h none low = tt
  named_shape AnyShape passed d h none low = tt
  named_shape (TypeVariable v) passed d h none low = named_local passed v h (omega (arith, low))
  named_shape (FunctionShape takes c gives e) passed d h none low = (
    omega (arith, low),
    named_shape takes passed d h.0 none.0 (omega (arith, low)),
    named_set passed d c h.1 none.1 (omega (arith, low)),
    named_shape gives (TermKind ∷ passed) (suc d) h.2 none.2 (omega (arith, low)),
    named_set (TermKind ∷ passed) (suc d) e h.3 none.3 (omega (arith, low)),
  )
  named_shape (TypeFunctionShape bound gives e) passed d h none low = (
    omega (arith, low),
    named_shape bound passed d h.0 none.0 (omega (arith, low)),
    named_shape gives (TypeKind ∷ passed) (suc d) h.1 none.1 (omega (arith, low)),
    named_set (TypeKind ∷ passed) (suc d) e h.2 none.2 (omega (arith, low)),
  )
  named_shape (BoxShape content c) passed d h none low =
      (named_shape content passed d h.0 none.0 (omega (arith, low)), named_set passed d c h.1 none.1 (omega (arith, low)))
  named_shape (ExitShape gives) passed d h none low = named_shape gives passed d h none (omega (arith, low))

  -- a set with names has no hole
  element_no_hole : (local : ℕ → Type 0) (e : Elem) → IsNamedElement local (length names) e → IsNoHole e
  element_no_hole local (Variable v) h = tt
  element_no_hole local Cap h = tt
  element_no_hole local (Hole hole) h = absurd h

  pub set_no_hole : (depth d : ℕ) (c : Set) → SetOf names all apart depth c → MeetsInSet without_holes d c
  unfolding contains
  set_no_hole depth d c h e m =
      element_no_hole (MayStand Counted depth) e (all_of_listed (IsNamedElement (MayStand Counted depth) (length names)) c.list h e m)

  pub shape_no_hole : (shape : Shape) (depth d : ℕ) → ShapeOf names all apart depth shape → Meets without_holes d shape
  shape_no_hole (BaseShape base) depth d h = tt
  shape_no_hole AnyShape depth d h = tt
  shape_no_hole (TypeVariable v) depth d h = tt
  shape_no_hole (FunctionShape takes c gives e) depth d h =
      (shape_no_hole takes depth d h.1, set_no_hole depth d c h.2, shape_no_hole gives (suc depth) (suc d) h.3, set_no_hole (suc depth) (suc d) e h.4)
  shape_no_hole (TypeFunctionShape bound gives e) depth d h =
      (shape_no_hole bound depth d h.1, shape_no_hole gives (suc depth) (suc d) h.2, set_no_hole (suc depth) (suc d) e h.3)
  shape_no_hole (BoxShape content c) depth d h = (shape_no_hole content depth d h.0, set_no_hole depth d c h.1)
  shape_no_hole (ExitShape gives) depth d h = shape_no_hole gives depth d h

  -- TERMS

  named_note : (note : Note) (passed : List Kind) → IsKindedNote kinds passed note → IsOptionalNote note
      → length passed + note_height note ≤ 2 ^ 32 → NamedNote names all apart (length passed) note
  named_note Absent passed h written low = tt
  named_note (Written shape set) passed h written low =
      (named_shape shape passed 0 h.0 written.0 low, named_set passed 0 set h.1 written.1 (omega (arith, low)))
  named_note (Own shape) passed h written low = absurd written

  written_note : (note : Note) (passed : List Kind) → IsKindedNote kinds passed note → IsWrittenNote note
      → length passed + note_height note ≤ 2 ^ 32 → WrittenNote names all apart (length passed) note
  written_note Absent passed h written low = absurd written
  written_note (Written shape set) passed h written low =
      (named_shape shape passed 0 h.0 written.0 low, named_set passed 0 set h.1 written.1 (omega (arith, low)))
  written_note (Own shape) passed h written low = absurd written

  named_opening : (o : Option Set) (passed : List Kind) → IsKindedOptionalSet kinds passed o → IsWrittenSet o
      → length passed ≤ 2 ^ 32 → NamedOpening names all apart (length passed) o
  named_opening (Some set) passed h written low = named_set passed 0 set h written low
  named_opening None passed h written low = absurd written

  named_argument : (o : Option Var) (passed : List Kind) → IsKindedOptional kinds passed o → length passed ≤ 2 ^ 32
      → NamedArgument names all apart (length passed) o
  named_argument (Some v) passed h low = named_variable passed v h low
  named_argument None passed h low = tt

  pub named_term : (term : Term) (passed : List Kind) → IsKindedTerm kinds passed term → IsWritten term
      → length passed + term_height term ≤ 2 ^ 32 → NamedTerm names all apart (length passed) term
  named_term (VariableTerm v) passed h w low = named_variable passed v h (omega (arith, low))
  named_term (LiteralTerm literal) passed h w low = w
  named_term (FunctionTerm takes c body) passed h w low = (
    omega (arith, low),
    named_shape takes passed 0 h.0 w.0 (omega (arith, low)),
    named_set passed 0 c h.1 w.1 (omega (arith, low)),
    named_term body (TermKind ∷ passed) h.2 w.2 (omega (arith, low)),
  )
  named_term (TypeFunctionTerm bound body) passed h w low =
      (omega (arith, low), named_shape bound passed 0 h.0 w.0 (omega (arith, low)), named_term body (TypeKind ∷ passed) h.1 w.1 (omega (arith, low)))
  named_term (BoxTerm content) passed h w low = named_variable passed content h (omega (arith, low))
  named_term (Application head argument) passed h w low =
      (named_variable passed head h.0 (omega (arith, low)), named_variable passed argument h.1 (omega (arith, low)))
  named_term (TypeApplication head argument) passed h w low =
      (named_variable passed head h.0 (omega (arith, low)), named_shape argument passed 0 h.1 w (omega (arith, low)))
  named_term (Unboxing set content) passed h w low =
      (named_opening set passed h.0 w (omega (arith, low)), named_variable passed content h.1 (omega (arith, low)))
  named_term (Let note right body) passed h w low = (
    omega (arith, low),
    named_note note passed h.0 w.0 (omega (arith, low)),
    named_term right passed h.1 w.1 (omega (arith, low)),
    named_term body (TermKind ∷ passed) h.2 w.2 (omega (arith, low)),
  )
  named_term (Primitive operator left right) passed h w low =
      (named_variable passed left h.0 (omega (arith, low)), named_variable passed right h.1 (omega (arith, low)))
  named_term (Conditional note test positive negative) passed h w low = (
    written_note note passed h.0 w.0 (omega (arith, low)),
    named_variable passed test h.1 (omega (arith, low)),
    named_term positive passed h.2 w.1 (omega (arith, low)),
    named_term negative passed h.3 w.2 (omega (arith, low)),
  )
  named_term (Repetition count body) passed h w low =
      (named_variable passed count h.0 (omega (arith, low)), named_variable passed body h.1 (omega (arith, low)))
  named_term (Operation operation receiver argument) passed h w low =
      (named_variable passed receiver h.0 (omega (arith, low)), w, named_argument argument passed h.1 (omega (arith, low)))
  named_term (Boundary gives body) passed h w low =
      (omega (arith, low), named_shape gives passed 0 h.0 w.0 (omega (arith, low)), named_term body (TermKind ∷ passed) h.1 w.1 (omega (arith, low)))
  named_term (Leave gives c left given) passed h w low = (
    named_shape gives passed 0 h.0 w.0 (omega (arith, low)),
    named_set passed 0 c h.1 w.1 (omega (arith, low)),
    named_variable passed left h.2 (omega (arith, low)),
    named_variable passed given h.3 (omega (arith, low)),
  )

  optional_note : (note : Note) (depth : ℕ) → NamedNote names all apart depth note → IsOptionalNote note
  optional_note Absent depth h = tt
  optional_note (Written shape set) depth h = (shape_no_hole shape depth 0 h.0, set_no_hole depth 0 set h.1)
  optional_note (Own shape) depth h = absurd h

  note_written : (note : Note) (depth : ℕ) → WrittenNote names all apart depth note → IsWrittenNote note
  note_written Absent depth h = absurd h
  note_written (Written shape set) depth h = (shape_no_hole shape depth 0 h.0, set_no_hole depth 0 set h.1)
  note_written (Own shape) depth h = absurd h

  opening_written : (o : Option Set) (depth : ℕ) → NamedOpening names all apart depth o → IsWrittenSet o
  opening_written (Some set) depth h = set_no_hole depth 0 set h
  opening_written None depth h = absurd h

  -- a term with names is written
  pub term_written : (term : Term) (depth : ℕ) → NamedTerm names all apart depth term → IsWritten term
  term_written (VariableTerm v) depth h = tt
  term_written (LiteralTerm literal) depth h = h
  term_written (FunctionTerm takes c body) depth h =
      (shape_no_hole takes depth 0 h.1, set_no_hole depth 0 c h.2, term_written body (suc depth) h.3)
  term_written (TypeFunctionTerm bound body) depth h = (shape_no_hole bound depth 0 h.1, term_written body (suc depth) h.2)
  term_written (BoxTerm content) depth h = tt
  term_written (Application head argument) depth h = tt
  term_written (TypeApplication head argument) depth h = shape_no_hole argument depth 0 h.1
  term_written (Unboxing set content) depth h = opening_written set depth h.0
  term_written (Let note right body) depth h =
      (optional_note note depth h.1, term_written right depth h.2, term_written body (suc depth) h.3)
  term_written (Primitive operator left right) depth h = tt
  term_written (Conditional note test positive negative) depth h =
      (note_written note depth h.0, term_written positive depth h.2, term_written negative depth h.3)
  term_written (Repetition count body) depth h = tt
  term_written (Operation operation receiver argument) depth h = h.1
  term_written (Boundary gives body) depth h = (shape_no_hole gives depth 0 h.1, term_written body (suc depth) h.2)
  term_written (Leave gives c left given) depth h = (shape_no_hole gives depth 0 h.0, set_no_hole depth 0 c h.1)
