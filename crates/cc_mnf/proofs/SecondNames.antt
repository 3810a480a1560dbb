-- The names of an elaborated module differ, and a second name is refused where it stands.
use Rattle.std.proofs.Common.{◌≡◌, ◌≢◌, ℕ, zero, Bool, true, false, List, [], ◌∷◌, ◌++◌, get_or, if◌then◌else◌, refl, sym, ap, ◌∙◌, subst, append_assoc, append-nil, Contains}
use Rattle.std.specs.List.{IsDistinct, list_any}
use Rattle.std.specs.Str.{bytes_eq}
use Rattle.std.specs.Cmp.Lexicographic.{bytes_decides}
use Rattle.std.proofs.lemmas.List.Folds.{Any-from_list_any, list_any_at}
use Rattle.std.proofs.lemmas.List.Quantifiers.{all_pairs_push}
use Rattle.std.proofs.lemmas.Map.Made.{AllPairs-from_IsDistinct, IsDistinct-from_AllPairs}
use Rattle.cc_base.specs.declared.code.Code.TheVariants.{E09}
use Rattle.cc_base.specs.declared.place.Place.{Place}
use Rattle.cc_grammar.specs.Syntax.{ImportSyntax, DefSyntax, ModuleSyntax}
use Rattle.cc_mnf.specs.Steps.{gives, refuses}
use Rattle.cc_mnf.specs.Scopes.{Name}
use Rattle.cc_mnf.specs.ElaboratedModules.{with_name, with_imports, elaborated_definitions, elaborated_module}
use Rattle.cc_mnf.specs.ElaboratedModules.{import_names, definition_names, names_of}
use Rattle.cc_mnf.specs.ElaborationLaws.{heading, heading_in_text}
use Rattle.cc_mnf.specs.NameLaws as law
use Rattle.cc_mnf.specs.NameLaws.{SecondImport, SecondDefinition, CanBeElaborated, text_of, defined_names}
use Rattle.cc_mnf.proofs.BroughtFacts.{Brings, then_brings, gives_brings, refuses_brings, own_holes_bring, weaker_brings}
use Rattle.cc_mnf.proofs.ElaboratedDefinitions.{module_has, heading_kept}

-- whether a name is among others
pub among : (name : Name) (names : List Name) → list_any (bytes_eq name) names ≡ true → Contains names name
among name names h =
    let found = Any-from_list_any (bytes_eq name) names h in
    let same : found.1 ≡ name = sym ((bytes_decides name found.1).0 found.4) in
    (found.0, found.2, subst (λ x. get_or names found.0 x ≡ x) same found.3)

pub among_test : (name : Name) (names : List Name) → Contains names name → list_any (bytes_eq name) names ≡ true
among_test name names h =
    list_any_at (bytes_eq name) names h.0 name h.1 ((bytes_decides name (get_or names h.0 name)).1 (sym h.2))

distinct_push : (name : Name) (names : List Name) → list_any (bytes_eq name) names ≡ false → IsDistinct bytes_eq names
    → IsDistinct bytes_eq (names ++ name ∷ [])
distinct_push name names new h =
    IsDistinct-from_AllPairs bytes_decides (names ++ name ∷ [])
    (all_pairs_push (λ x y. x ≢ y) names name (AllPairs-from_IsDistinct bytes_decides names h)
    (λ k d l same.
    clash (sym (list_any_at (bytes_eq name) names k d l ((bytes_decides name (get_or names k d)).1 (sym same))) ∙ new)))
  where
    clash : true ≡ false → ⊥
    clash e = cc

-- names that differ go on to differ
distinct_chosen : (names : List Name) (name : Name) (at : Place) (b : Bool) (before : ℕ)
    → list_any (bytes_eq name) names ≡ b → IsDistinct bytes_eq names
    → Brings (λ more after. (more ≡ names ++ name ∷ []) × IsDistinct bytes_eq more)
    (if b then refuses E09 at else gives (names ++ name ∷ [])) before
distinct_chosen names name at true before e h = refuses_brings E09 at
distinct_chosen names name at false before e h =
    gives_brings (names ++ name ∷ []) (refl, distinct_push name names e h)

distinct_with_name : (names : List Name) (name : Name) (at : Place) (before : ℕ) → IsDistinct bytes_eq names
    → Brings (λ more after. (more ≡ names ++ name ∷ []) × IsDistinct bytes_eq more) (with_name names name at) before
distinct_with_name names name at before h =
    distinct_chosen names name at (list_any (bytes_eq name) names) before refl h

distinct_imports : (names : List Name) (imports : List ImportSyntax) (before : ℕ) → IsDistinct bytes_eq names
    → Brings (λ more after. (more ≡ names ++ import_names imports) × IsDistinct bytes_eq more)
    (with_imports names imports) before
distinct_imports names [] before h = gives_brings names (sym (append-nil names), h)
distinct_imports names (first ∷ rest) before h =
    then_brings (distinct_with_name names first.name first.name_at before h)
    (λ more middle e.
    weaker_brings
    (λ all after k. (
      k.0 ∙ ap (λ list. list ++ import_names rest) e.0
          ∙ append_assoc names (first.name ∷ []) (import_names rest),
      k.1,
    ))
    (distinct_imports more rest middle e.1))

distinct_definitions : (names : List Name) (definitions : List DefSyntax) (before : ℕ) → IsDistinct bytes_eq names
    → Brings (λ list after. IsDistinct bytes_eq (names ++ definition_names list))
    (elaborated_definitions names definitions) before
distinct_definitions names [] before h =
    gives_brings [] (subst (IsDistinct bytes_eq) (sym (append-nil names)) h)
distinct_definitions names (first ∷ rest) before h =
    then_brings (distinct_with_name names first.name first.name_at before h)
    (λ more middle e.
    then_brings {P = λ d after. heading d ≡ heading_in_text first}
    (own_holes_bring (heading_kept names more first zero))
    (λ one next k. then_brings (distinct_definitions more rest next e.1)
    (λ others last l. gives_brings (one ∷ others)
    (subst (IsDistinct bytes_eq)
    (ap (λ list. list ++ definition_names others) (e.0 ∙ ap (λ head. names ++ head.name ∷ []) (sym k))
    ∙ append_assoc names (one.name ∷ []) (definition_names others)) l))))

distinct_module : (devices : List Name) (text : ModuleSyntax) → IsDistinct bytes_eq devices
    → Brings (λ found after. IsDistinct bytes_eq (names_of devices found.imports found.definitions))
    (elaborated_module devices text) zero
distinct_module devices text h =
    then_brings (distinct_imports devices text.imports zero h)
    (λ names middle e. then_brings (distinct_definitions names text.defs middle e.1)
    (λ list last k. gives_brings (record { imports = text.imports; definitions = list })
    (subst (λ all. IsDistinct bytes_eq (all ++ definition_names list)) e.0 k)))

pub names_differ : law.NamesDiffer
names_differ devices text found e h =
    module_has (λ m. IsDistinct bytes_eq (names_of devices m.imports m.definitions)) devices text found
    (distinct_module devices text h) e
