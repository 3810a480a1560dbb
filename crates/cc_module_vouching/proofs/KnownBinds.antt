-- The binds of devices and imports, one after another.
use Rattle.std.proofs.Common.{◌≡◌, ℕ, ◌+◌, ◌<◌, List, [], ◌∷◌, ◌++◌, length, get_or, map, drop}
use Rattle.std.proofs.Common.{Some, None, refl, sym, ap, ◌∙◌, subst, append_assoc}
use Rattle.std.proofs.lemmas.List.{append-nil}
use Rattle.cc_base.specs.declared.code.Diag.{Diag}
use Rattle.cc_base.specs.declared.literal.Import.{Import}
use Rattle.cc_core.specs.Shapes.{CapturingType}
use Rattle.cc_core.specs.declared.types.Ty.{Ty}
use Rattle.cc_grammar.specs.Syntax.{ImportSyntax}
use Rattle.cc_mnf.proofs.ModuleLoops.{drop_next}
use Rattle.cc_parse.specs.Trees.{import_syntax}
use Rattle.cc_verdicts.specs.ModuleVerdicts.{FoundDefinition, code_of, missing_or}
use Rattle.cc_vouching.specs.VouchedDefinitions.{import_bind}
use Rattle.cc_vouching.specs.VouchedModules.{Answered, vouched_findings}
use Rattle.cc_vouch.specs.BindViews.{binds_of}
use Rattle.cc_vouch.specs.VouchViews.{refusal_of}
use Rattle.cc_module_vouching.specs.KeptFindings.{KeepsAnswers}
use Rattle.cc_module_vouching.specs.KnownImports.{import_finding, import_findings, missing_among, binds_among, AddsImport, AddsImports}
use Rattle.cc_module_vouching.specs.declared.answered.AnsweredModules.{AnsweredModules}

-- a definition is found for the import
pub import_added : (modules : AnsweredModules) (one : ImportSyntax) (old new : List (List ℕ × Ty))
    (signature : CapturingType) → import_finding modules one ≡ FoundDefinition signature
    → binds_of new ≡ binds_of old ++ (one.name, signature) ∷ [] → AddsImport modules one old new None
import_added modules one old new signature is added =
    (ap code_of is, added ∙ ap (λ f. binds_of old ++ import_bind one f) (sym is))

-- The binds of imports are added so far: those that are left decide.
pub record AreAdded (modules : AnsweredModules) (all : List ImportSyntax) (start known : List (List ℕ × Ty))
    (left : List ImportSyntax) : Type 0 where
  pub missing : missing_among modules left ≡ missing_among modules all
  pub binds : binds_of known ++ binds_among modules left ≡ binds_of start ++ binds_among modules all

pub none_added : (modules : AnsweredModules) (all : List ImportSyntax) (start : List (List ℕ × Ty))
    → AreAdded modules all start start all
none_added modules all start = record { missing = refl; binds = refl }

-- one more
one_added : (modules : AnsweredModules) (all : List ImportSyntax) (start known more : List (List ℕ × Ty))
    (one : ImportSyntax) (left : List ImportSyntax) → AddsImport modules one known more None
    → AreAdded modules all start known (one ∷ left) → AreAdded modules all start more left
one_added modules all start known more one left adds added =
    record {
      missing = sym (ap (λ o. missing_or one.at o (missing_among modules left)) adds.0) ∙ added.missing;
      binds =
          ap (λ b. b ++ binds_among modules left) adds.1
          ∙ append_assoc (binds_of known) (import_bind one (import_finding modules one)) (binds_among modules left)
          ∙ added.binds;
    }

next_left : (imports : List Import) (index : ℕ) (one : Import) → index < length imports → one ≡ get_or imports index one
    → map import_syntax (drop index imports) ≡ import_syntax one ∷ map import_syntax (drop (index + 1) imports)
next_left imports index one below is = ap (map import_syntax) (drop_next imports index one below is)

pub imports_more : (modules : AnsweredModules) (imports : List Import) (start known more : List (List ℕ × Ty))
    (index : ℕ) (one : Import) → index < length imports → one ≡ get_or imports index one
    → AddsImport modules (import_syntax one) known more None
    → AreAdded modules (map import_syntax imports) start known (map import_syntax (drop index imports))
    → AreAdded modules (map import_syntax imports) start more (map import_syntax (drop (index + 1) imports))
imports_more modules imports start known more index one below is adds added =
    one_added modules (map import_syntax imports) start known more (import_syntax one)
    (map import_syntax (drop (index + 1) imports)) adds
    (subst (AreAdded modules (map import_syntax imports) start known) (next_left imports index one below is) added)

-- no definition is found for the next one
pub imports_stop : (modules : AnsweredModules) (imports : List Import) (start known more : List (List ℕ × Ty))
    (index : ℕ) (one : Import) (diag : Diag) → index < length imports → one ≡ get_or imports index one
    → AddsImport modules (import_syntax one) known more (Some diag)
    → AreAdded modules (map import_syntax imports) start known (map import_syntax (drop index imports))
    → missing_among modules (map import_syntax imports) ≡ Some (refusal_of diag)
imports_stop modules imports start known more index one diag below is adds added =
    sym added.missing
    ∙ ap (missing_among modules) (next_left imports index one below is)
    ∙ ap (λ o. missing_or one.at o (missing_among modules (map import_syntax (drop (index + 1) imports)))) adds.0
    ∙ ap (λ p. Some (record { code = diag.code; at = p })) (sym adds.1)

-- none is left
pub imports_end : (modules : AnsweredModules) (imports : List Import) (start known : List (List ℕ × Ty)) (index : ℕ)
    → drop index imports ≡ []
    → AreAdded modules (map import_syntax imports) start known (map import_syntax (drop index imports))
    → AddsImports modules (map import_syntax imports) start known None
imports_end modules imports start known index none added =
    let end = subst (λ l. AreAdded modules (map import_syntax imports) start known (map import_syntax l)) none added in
    (sym end.missing, sym (append-nil (binds_of known)) ∙ end.binds)

-- what is found for imports is what is found in the modules with their answers
pub findings_kept : (modules : AnsweredModules) (answered : Answered) → KeepsAnswers modules answered
    → (imports : List ImportSyntax) → import_findings modules imports ≡ vouched_findings answered imports
findings_kept modules answered keeps [] = refl
findings_kept modules answered keeps (one ∷ rest) =
    λ i. keeps one.source one.name i ∷ findings_kept modules answered keeps rest i
