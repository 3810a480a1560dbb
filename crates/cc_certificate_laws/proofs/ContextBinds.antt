-- The binds that are written for a context bind it.
use Rattle.std.proofs.Common.{◌≡◌, ℕ, ◌≤◌, List, [], ◌∷◌, ◌++◌, map, length, take, refl, sym, ap, ◌∙◌, arith, slice_index_or}
use Rattle.std.specs.List.{AllByRecursion}
use Rattle.std.proofs.lemmas.List.{take_all}
use Rattle.std.proofs.Math.Seq.{take-suc}
use Rattle.cc_core.specs.Shapes.{CapturingType, capturing}
use Rattle.cc_core.specs.Contexts.{TermEntry, TypeEntry, Context, entry_of}
use Rattle.cc_certificate_text.specs.Certificates.{Binds}
use Rattle.cc_certificate_judging.specs.CertificateParts.{CertificateBind, bind_line, bound_names}
use Rattle.cc_certificate_judging.specs.Judging.{with_binds}
use Rattle.cc_certificate_laws.specs.CertificateLines.{bound_lines}
use Rattle.cc_certificate_laws.specs.CertificateLaws.{IsTermEntry}

-- the binds of a context whose entries are variables of terms
pub binds_in : List (List ℕ) → Context → List CertificateBind
binds_in names [] = []
binds_in names (TermEntry shape set ∷ older) =
    binds_in names older ++ (slice_index_or names (length older) [], capturing shape set) ∷ []
binds_in names (TypeEntry bound ∷ older) = binds_in names older

pub map_append : {A B : Type 0} (f : A → B) (xs ys : List A) → map f (xs ++ ys) ≡ map f xs ++ map f ys
map_append f [] ys = refl
map_append f (x ∷ xs) ys = ap (λ t. f x ∷ t) (map_append f xs ys)

pub bound_are_binds : (names : List (List ℕ)) (g : Context) → AllByRecursion IsTermEntry g
    → bound_lines names g ≡ map bind_line (binds_in names g)
unfolding binds_in
bound_are_binds names [] all = refl
bound_are_binds names (TermEntry shape set ∷ older) all =
    ap (λ ls. ls ++ Binds (slice_index_or names (length older) []) (capturing shape set) ∷ []) (bound_are_binds names older all.1)
    ∙ sym (map_append bind_line (binds_in names older) ((slice_index_or names (length older) [], capturing shape set) ∷ []))
bound_are_binds names (TypeEntry bound ∷ older) all = absurd all.0

with_one_more : (g : Context) (types : List CapturingType) (last : CapturingType)
    → with_binds g (types ++ last ∷ []) ≡ entry_of last ∷ with_binds g types
with_one_more g [] last = refl
with_one_more g (type ∷ types) last = with_one_more (entry_of type ∷ g) types last

-- they bind the context
pub context_of_binds : (names : List (List ℕ)) (g : Context) → AllByRecursion IsTermEntry g
    → with_binds [] (map (λ bind. bind.1) (binds_in names g)) ≡ g
unfolding binds_in
context_of_binds names [] all = refl
context_of_binds names (TermEntry shape set ∷ older) all =
    ap (with_binds []) (map_append (λ bind. bind.1) (binds_in names older) ((slice_index_or names (length older) [], capturing shape set) ∷ []))
    ∙ (with_one_more [] (map (λ bind. bind.1) (binds_in names older)) (capturing shape set)
    ∙ ap (λ g. TermEntry shape set ∷ g) (context_of_binds names older all.1))
context_of_binds names (TypeEntry bound ∷ older) all = absurd all.0

-- and they have its names
names_in_front : (names : List (List ℕ)) (g : Context) → AllByRecursion IsTermEntry g → length g ≤ length names
    → bound_names (binds_in names g) ≡ take (length g) names
unfolding binds_in
names_in_front names [] all low = refl
names_in_front names (TermEntry shape set ∷ older) all low =
    map_append (λ bind. bind.0) (binds_in names older) ((slice_index_or names (length older) [], capturing shape set) ∷ [])
    ∙ (ap (λ l. l ++ slice_index_or names (length older) [] ∷ []) (names_in_front names older all.1 (omega (arith, low)))
    ∙ sym (take-suc names (length older) [] (omega (arith, low))))
names_in_front names (TypeEntry bound ∷ older) all low = absurd all.0

pub names_of_binds : (names : List (List ℕ)) (g : Context) → AllByRecursion IsTermEntry g → length names ≡ length g
    → bound_names (binds_in names g) ≡ names
names_of_binds names g all each =
    names_in_front names g all (omega (arith, each)) ∙ take_all (length g) names (omega (arith, each))
