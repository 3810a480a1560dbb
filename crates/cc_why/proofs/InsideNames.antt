-- The names that are visible inside a definition, by its parts.
use Rattle.std.proofs.Common.{◌≡◌, ℕ, zero, suc, ◌<◌, ◌≤◌, min, Bool, true, false, List, [], ◌∷◌, ◌++◌, length, map, take, drop, slice_get, Some, None, if◌then◌else◌, refl, sym, ap, ◌∙◌, append-nil, arith}
use Rattle.std.specs.Prelude.{nat_lt}
use Rattle.std.proofs.lemmas.Bool.{ltb-false}
use Rattle.std.proofs.lemmas.List.{take_min, take-map}
use Rattle.cc_core.specs.declared.terms.CoreDef.{CoreDef}
use Rattle.cc_mnf.specs.CoreModules.{definition_of}
use Rattle.cc_mnf.specs.ElaboratedModules.{CoreDefinition}
use Rattle.cc_mnf.specs.Scopes.{Name}
use Rattle.cc_module_reasoning.specs.RefusedDefinitions.{names_behind, names_inside_first, names_inside_at}
use Rattle.cc_why.specs.ToldReasons.{own_name}

none_past : (defs : List CoreDef) (at : ℕ) → length defs ≤ at → own_name (slice_get (map definition_of defs) at) ≡ []
none_past [] at past = refl
none_past (first ∷ rest) zero past = absurd (omega arith)
none_past (first ∷ rest) (suc at) past = none_past rest at (omega arith)

-- where no definition stands, no name comes behind the others
pub nothing_added : (names : List Name) (defs : List CoreDef) (at : ℕ) → false ≡ nat_lt at (length defs)
    → names ≡ names ++ own_name (slice_get (map definition_of defs) at)
nothing_added names defs at past =
    sym (ap (λ own. names ++ own) (none_past defs at (ltb-false at (length defs) (sym past))) ∙ append-nil names)

own_behind : (names : List Name) (name : Name) (recursive : Bool)
    → (if recursive then names ++ name ∷ [] else names) ≡ names ++ (if recursive then name ∷ [] else [])
own_behind names name true = refl
own_behind names name false = sym (append-nil names)

inside_first : (names : List Name) (definitions : List CoreDefinition) (before : ℕ)
    → names_inside_first names (drop before definitions) ≡ names ++ own_name (slice_get definitions before)
inside_first names [] zero = sym (append-nil names)
inside_first names [] (suc before) = sym (append-nil names)
inside_first names (first ∷ rest) zero = own_behind names first.name first.recursive
inside_first names (first ∷ rest) (suc before) = inside_first names rest before

-- the names outside, those of the definitions before it, and its own where it is recursive
pub inside_joined : (outer two all : List Name) (defs : List CoreDef) (before end : ℕ) → end ≡ min before (length defs)
    → two ≡ outer ++ map (λ one. one.name) (map definition_of (take end defs))
    → all ≡ two ++ own_name (slice_get (map definition_of defs) before)
    → all ≡ names_inside_at outer (map definition_of defs) before
inside_joined outer two all defs before end is front whole =
    let named : List CoreDefinition → List Name = map (λ (one : CoreDefinition). one.name) in
    whole
    ∙ ap (λ names. names ++ own_name (slice_get (map definition_of defs) before))
    (front
    ∙ ap (λ ds. outer ++ named (map definition_of ds)) (ap (λ n. take n defs) is ∙ take_min before defs)
    ∙ ap (λ ds. outer ++ named ds) (sym (take-map definition_of before defs)))
    ∙ sym (inside_first (names_behind outer (map definition_of defs) before) (map definition_of defs) before)
