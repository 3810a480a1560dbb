-- The lines of a context's entries fit and are written as the entries are.
use Rattle.std.proofs.Common.{inl, inr, ◌≡◌, ℕ, zero, suc, ◌+◌, ◌<◌, ◌≤◌, false, List, [], ◌∷◌, ◌++◌, length, take, drop, Some, codes, bytes_eq, refl, sym, ap, subst, ◌∙◌, arith, slice_index_or, take-append-drop}
use Rattle.std.specs.List.{AllByRecursion, IsDistinct, list_any}
use Rattle.std.proofs.lemmas.Bool.{and_parts, or_from}
use Rattle.std.proofs.lemmas.Cmp.{nat_list_eq_equiv}
use Rattle.std.proofs.lemmas.List.{length-take-le}
use Rattle.cc_base.specs.Names.{IsName}
use Rattle.cc_capture.specs.Sets.{Set}
use Rattle.cc_core.specs.Shapes.{Shape, capturing}
use Rattle.cc_core.specs.Contexts.{TermEntry, TypeEntry, Context, lookup}
use Rattle.cc_core.specs.Occurrences.{Meets, MeetsInSet}
use Rattle.cc_core.specs.WellFormed.{TermKind, TypeKind, kind_of, kinds_of, is_well_formed_entry, is_well_formed_context, IsWellFormedContext}
use Rattle.cc_core.proofs.KindFacts.{IsKindedType-from}
use Rattle.cc_core.proofs.Lookups.{length_map, lookup-cases}
use Rattle.cc_print.specs.TypeTexts.{type_under}
use Rattle.cc_certificate_writing.specs.Certificates.{bind_line, bind_lines}
use Rattle.cc_certificate_text.specs.Certificates.{Binds, Binding, line_text}
use Rattle.cc_certificate_laws.specs.CertificateLines.{bound_lines}
use Rattle.cc_certificate_laws.specs.CertificateLaws.{closed_at, IsPresentableEntry}
use Rattle.cc_certificate_laws.proofs.ClosedSyntax.{AreNames, type_closed}
use Rattle.cc_certificate_laws.proofs.NamedFronts.{named_position, type_front}
use Rattle.cc_certificate_laws.proofs.LinesThatFit.{Leads, no_line, one_line, and_then}

name_at : (names : List (List ℕ)) (n : ℕ) → AllByRecursion IsName names → n < length names
    → IsName (slice_index_or names n [])
name_at [] n all low = absurd (omega (arith, low))
name_at (x ∷ names) zero all low = all.0
name_at (x ∷ names) (suc n) all low = name_at names n all.1 (omega (arith, low))

other_name : (x : List ℕ) (names : List (List ℕ)) (n : ℕ) → AllByRecursion (λ y. bytes_eq x y ≡ false) names
    → n < length names → bytes_eq (slice_index_or names n []) x ≡ false
other_name x [] n all low = absurd (omega (arith, low))
other_name x (y ∷ names) zero all low = nat_list_eq_equiv.symm y x ∙ all.0
other_name x (y ∷ names) (suc n) all low = other_name x names n all.1 (omega (arith, low))

-- a name is none of those before it
new_name : (names : List (List ℕ)) (n : ℕ) → IsDistinct bytes_eq names → n < length names
    → list_any (bytes_eq (slice_index_or names n [])) (take n names) ≡ false
unfolding IsDistinct
new_name [] n apart low = absurd (omega (arith, low))
new_name (x ∷ names) zero apart low = refl
new_name (x ∷ names) (suc n) apart low =
    or_from (bytes_eq (slice_index_or names n []) x) (list_any (bytes_eq (slice_index_or names n [])) (take n names))
    (other_name x names n apart.0 (omega (arith, low))) (new_name names n apart.1 (omega (arith, low)))

-- where all entries are variables of terms, no position is that of a type variable
pub all_names : (context : Context) → AllByRecursion IsPresentableEntry context → AreNames (length context) (kinds_of context)
all_names [] all p found = cc
all_names (TypeEntry bound ∷ older) all p found = absurd all.0
all_names (TermEntry shape set ∷ older) all p found =
    elim (lookup-cases TermKind (kinds_of older) p TypeKind found) as (λ _. length (TermEntry shape set ∷ older) ≤ p) [
      | inl here ↦ let no = here.1 in cc
      | inr there ↦ absurd (other_kind older all.1 p there)
    ]
  where
    other_kind : (context : Context) → AllByRecursion IsPresentableEntry context → (p : ℕ)
        → lookup (kinds_of context) p ≡ Some TypeKind → ⊥
    other_kind [] all p found = cc
    other_kind (TypeEntry bound ∷ older) all p found = all.0
    other_kind (TermEntry shape set ∷ older) all p found =
        elim (lookup-cases TermKind (kinds_of older) p TypeKind found) as (λ _. ⊥) [
          | inl here ↦ let no = here.1 in cc
          | inr there ↦ other_kind older all.1 p there
        ]

module _ (names : List (List ℕ)) (named : AllByRecursion IsName names) (apart : IsDistinct bytes_eq names) where
  bind_written : (older : Context) (shape : Shape) (set : Set) → length older < length names
      → Meets (closed_at (length older) 0) 0 shape → MeetsInSet (closed_at (length older) 0) 0 set
      → line_text (Binding (take (length older) names) older)
      (Binds (slice_index_or names (length older) []) (capturing shape set))
      ≡ bind_line names (length older) (TermEntry shape set)
  bind_written older shape set low closed closed' =
      let size : length (take (length older) names) ≡ length older = length-take-le (length older) names (omega (arith, low)) in
      let front = type_front (take (length older) names) (drop (length older) names) 0 shape set
      (subst (λ n. Meets (closed_at n 0) 0 shape) (sym size) closed)
      (subst (λ n. MeetsInSet (closed_at n 0) 0 set) (sym size) closed') in
      let type : type_under (take (length older) names) 0 shape set ≡ type_under names 0 shape set =
      sym front ∙ ap (λ all. type_under all 0 shape set) (take-append-drop (length older) names) in
      let name = named_position names (codes "_") (length older) low in
      λ i. codes "bind " ++ sym name i ++ codes ": " ++ type i

  -- the lines of the entries
  pub binds_lead : (context : Context) → length context ≤ length names → IsWellFormedContext context
      → AllByRecursion IsPresentableEntry context
      → Leads (Binding [] []) (bound_lines names context) (bind_lines names context)
      (Binding (take (length context) names) context)
  binds_lead [] low formed all = no_line (Binding [] [])
  binds_lead (TypeEntry bound ∷ older) low formed all = absurd all.0
  binds_lead (TermEntry shape set ∷ older) low formed all =
      let parts = and_parts (is_well_formed_entry (kinds_of older) (TermEntry shape set)) (is_well_formed_context older) formed in
      let below : length older < length names = omega (arith, low) in
      let closed = type_closed (length older) 0 (kinds_of older)
      (let size : length (kinds_of older) ≡ length older + 0 = omega (arith, length_map kind_of older) in size)
      (all_names older all.1) (capturing shape set)
      (IsKindedType-from (kinds_of older) [] (capturing shape set) parts.0) all.0.0 in
      and_then (Binding [] []) (Binding (take (length older) names) older)
      (Binding (take (suc (length older)) names) (TermEntry shape set ∷ older)) _ _ _ _
      (binds_lead older (omega (arith, low)) parts.1 all.1)
      (one_line (Binding (take (length older) names) older)
      (Binds (slice_index_or names (length older) []) (capturing shape set))
      (bind_line names (length older) (TermEntry shape set))
      (Binding (take (suc (length older)) names) (TermEntry shape set ∷ older))
      (name_at names (length older) named below, new_name names (length older) apart below, parts.0, all.0.0, all.0.1)
      (bind_written older shape set below closed.0 closed.1)
      (ap (λ front. Binding front (TermEntry shape set ∷ older)) (sym (take_more names (length older) below))))
    where
      take_more : (names : List (List ℕ)) (n : ℕ) → n < length names
          → take (suc n) names ≡ take n names ++ slice_index_or names n [] ∷ []
      take_more [] n low = absurd (omega (arith, low))
      take_more (x ∷ names) zero low = refl
      take_more (x ∷ names) (suc n) low = ap (λ t. x ∷ t) (take_more names n (omega (arith, low)))
