-- The context of a definition of an accepted module is that of the definition in its program.
use Rattle.std.proofs.Common.{◌≡◌, List, [], ◌∷◌, ◌++◌, map, reverse, refl, sym, ap, ◌∙◌, append_assoc, if◌then◌else◌}
use Rattle.std.proofs.lemmas.List.{reverse-append}
use Rattle.cc_core.specs.Contexts.{Context, entry_of}
use Rattle.cc_core.specs.Programs.{Definition, definition_context}
use Rattle.cc_verdicts.specs.ModuleVerdicts.{CheckedDefinition, declared_context, with_findings, in_program}
use Rattle.cc_verdicts.specs.StandingDefinitions.{with_definitions}
use Rattle.cc_certificate_laws.specs.ModuleCertificates.{ContextsAreThoseOfPrograms}

map_append : {A B : Type 0} (f : A → B) (xs ys : List A) → map f (xs ++ ys) ≡ map f xs ++ map f ys
map_append f [] ys = refl
map_append f (x ∷ xs) ys = ap (λ t. f x ∷ t) (map_append f xs ys)

-- turned round, the first one stands behind the others
turned : (g : Context) (first : Definition) (rest : List Definition)
    → definition_context g (reverse (first ∷ rest)) ≡ definition_context (entry_of first.signature ∷ g) (reverse rest)
turned g first rest =
    ap (definition_context g) (reverse-append (first ∷ []) rest)
    ∙ ap (λ l. l ++ g) (map_append (λ (one : Definition). entry_of one.signature) (reverse rest) (first ∷ []))
    ∙ append_assoc (map (λ (one : Definition). entry_of one.signature) (reverse rest)) (entry_of first.signature ∷ []) g

with_definitions-program : (g : Context) (before : List CheckedDefinition)
    → with_definitions g before ≡ definition_context g (reverse (map in_program before))
with_definitions-program g [] = refl
with_definitions-program g (first ∷ before) =
    with_definitions-program (entry_of first.accepted.signature ∷ g) before
    ∙ sym (turned g (in_program first) (map in_program before))

pub contexts_of_programs : ContextsAreThoseOfPrograms
contexts_of_programs devices findings before one =
    ap (λ (g : Context). if one.recursive then entry_of one.accepted.signature ∷ g else g)
    (with_definitions-program (with_findings (declared_context devices) findings) before)
