-- What is answered to a text, from what is answered to its tree and to its definitions.
use Rattle.std.proofs.Common.{◌≡◌, ℕ, List, [], ◌++◌, length, map, Vec, Some, None, Result, Ok, Err, sym, ap, ◌∙◌, subst}
use Rattle.std.specs.declared.alloc.Global.{Global}
use Rattle.cc_base.specs.declared.code.Diag.{Diag}
use Rattle.cc_base.specs.declared.device.DeviceDecl.{DeviceDecl}
use Rattle.cc_base.specs.declared.literal.Import.{Import}
use Rattle.cc_core.specs.declared.types.Ty.{Ty}
use Rattle.cc_grammar.specs.Syntax.{ModuleSyntax}
use Rattle.cc_mnf.specs.ElaboratedModules.{CoreModule, elaboration, device_names}
use Rattle.cc_mnf.specs.ElaboratedModules as elaborated
use Rattle.cc_parse.specs.Trees.{import_syntax, module_syntax}
use Rattle.cc_parse.specs.declared.tree.Module.{Module}
use Rattle.cc_text_reading.specs.TextReadings.{text_reading_of}
use Rattle.cc_text_reading.specs.declared.reading.TextReading.{TextReading as DeclaredReading}
use Rattle.cc_text_reading.specs.declared.reading.TextReading.TheVariants as readings
use Rattle.cc_verdicts.proofs.ReadingLaws.{text_has_one_reading}
use Rattle.cc_verdicts.specs.ModuleVerdicts.{first_missing}
use Rattle.cc_verdicts.specs.Readings.{TextReading, IsTree, IsNoModule, HasReading, reading_of_text}
use Rattle.cc_vouching.specs.Submissions.{Claim}
use Rattle.cc_vouching.specs.VouchedDefinitions.{device_bind, import_binds}
use Rattle.cc_vouching.specs.VouchedModules.{Answer, RefusesText, Answered, vouched_findings, AreAnswered, HasAnswer, is_no_module, import_is_missing, is_not_elaborated, is_gone_through}
use Rattle.cc_vouch.specs.BindViews.{binds_of}
use Rattle.cc_vouch.specs.VouchViews.{refusal_of}
use Rattle.cc_module_vouching.proofs.KnownBinds.{findings_kept}
use Rattle.cc_module_vouching.specs.AnsweredDefinitions.{AnswersAll}
use Rattle.cc_module_vouching.specs.AnsweredTexts.{AnswersTree, AnswersFound}
use Rattle.cc_module_vouching.specs.KeptFindings.{KeepsAnswers}
use Rattle.cc_module_vouching.specs.ClaimViews.{claim_of, claimed_module_of}
use Rattle.cc_module_vouching.specs.KnownImports.{missing_among, binds_among, AreKnownBefore}
use Rattle.cc_module_vouching.specs.declared.answered.AnsweredModules.{AnsweredModules}
use Rattle.cc_module_vouching.specs.declared.claims.Claim.{Claim as DeclaredClaim}
use Rattle.cc_module_vouching.specs.declared.claims.ClaimedModule.{ClaimedModule as DeclaredModule}

-- the definitions are gone through
pub core_answered : (devices : List DeviceDecl) (size : ℕ) (known : List (List ℕ × Ty)) (tree : ModuleSyntax)
    (claims : List Claim) (core : CoreModule) (answer : Answer) → size ≡ length devices
    → elaboration (device_names devices) tree ≡ elaborated.IsElaborated core
    → AnswersAll size known claims core.definitions answer → AnswersFound devices known tree claims answer
core_answered devices size known tree claims core answer counted is answers answered it binds found reading same =
    is_gone_through {core = core} reading found is
    (subst (λ c. AreAnswered devices tree.imports (vouched_findings answered tree.imports) c [] core.definitions answer)
    (sym same)
    (answers devices tree.imports (vouched_findings answered tree.imports)
    (record { counted = sym counted; bound = binds })))

-- names or normal form refuse
pub core_refused : (devices : List DeviceDecl) (known : List (List ℕ × Ty)) (tree : ModuleSyntax) (claims : List Claim)
    (diag : Diag) → elaboration (device_names devices) tree ≡ elaborated.IsRefused diag.code diag.place
    → AnswersFound devices known tree claims (RefusesText diag.code diag.place)
core_refused devices known tree claims diag is answered it binds found reading same = is_not_elaborated reading found is

-- a definition is found for each import
pub tree_answered : (devices : List DeviceDecl) (modules : AnsweredModules) (known : List (List ℕ × Ty))
    (tree : ModuleSyntax) (claims : List Claim) (answer : Answer) → missing_among modules tree.imports ≡ None
    → binds_of known ≡ map device_bind devices ++ binds_among modules tree.imports
    → AnswersFound devices known tree claims answer → AnswersTree devices modules tree claims answer
tree_answered devices modules known tree claims answer none binds answers answered it keeps reading same =
    let kept = findings_kept modules answered keeps tree.imports in
    answers answered it (binds ∙ ap (λ f. map device_bind devices ++ import_binds tree.imports f) kept)
    (sym (ap (first_missing tree.imports) kept) ∙ none) reading same

-- none is found for one
pub import_refused : (devices : List DeviceDecl) (modules : AnsweredModules) (tree : ModuleSyntax) (claims : List Claim)
    (diag : Diag) → missing_among modules tree.imports ≡ Some (refusal_of diag)
    → AnswersTree devices modules tree claims (RefusesText diag.code diag.place)
import_refused devices modules tree claims diag missing answered it keeps reading same =
    import_is_missing {missing = refusal_of diag} reading
    (sym (ap (first_missing tree.imports) (findings_kept modules answered keeps tree.imports)) ∙ missing)

-- what the walk over the imports answers
pub tree_found : (devices : List DeviceDecl) (modules : AnsweredModules) (imports : List Import) (tree : Module)
    (known : Vec (List ℕ × Ty) Global) (before : Result (Vec (List ℕ × Ty) Global) Diag) (claims : List Claim)
    (answer : Answer) → imports ≡ tree.imports.items → before ≡ Ok known
    → AreKnownBefore devices modules (map import_syntax imports) before
    → AnswersFound devices known.items (module_syntax tree) claims answer
    → AnswersTree devices modules (module_syntax tree) claims answer
tree_found devices modules imports tree known before claims answer same is found answers =
    let h = subst (λ l. AreKnownBefore devices modules (map import_syntax l) (Ok known)) same
    (subst (AreKnownBefore devices modules (map import_syntax imports)) is found) in
    tree_answered devices modules known.items (module_syntax tree) claims answer h.0 h.1 answers

pub tree_refused : (devices : List DeviceDecl) (modules : AnsweredModules) (imports : List Import) (tree : Module)
    (diag : Diag) (before : Result (Vec (List ℕ × Ty) Global) Diag) (claims : List Claim)
    → imports ≡ tree.imports.items → before ≡ Err diag → AreKnownBefore devices modules (map import_syntax imports) before
    → AnswersTree devices modules (module_syntax tree) claims (RefusesText diag.code diag.place)
tree_refused devices modules imports tree diag before claims same is found =
    import_refused devices modules (module_syntax tree) claims diag
    (subst (λ l. AreKnownBefore devices modules (map import_syntax l) (Err diag)) same
    (subst (AreKnownBefore devices modules (map import_syntax imports)) is found))

-- what a text is that was read
has_reading : (text : List ℕ) (told : TextReading) → told ≡ reading_of_text text → HasReading text told
has_reading text told is = (text_has_one_reading text told).1 is

pub module_answered : (devices : List DeviceDecl) (modules : AnsweredModules) (it : DeclaredModule) (source : List ℕ)
    (claims : List DeclaredClaim) (reading : DeclaredReading) (tree : Module) (answer : Answer)
    → source ≡ it.source.items → claims ≡ it.claims.items → reading ≡ readings.Tree tree
    → text_reading_of reading ≡ reading_of_text source
    → AnswersTree devices modules (module_syntax tree) (map claim_of claims) answer
    → (answered : Answered) → KeepsAnswers modules answered → HasAnswer devices answered (claimed_module_of it) answer
module_answered devices modules it source claims reading tree answer same also is read answers answered keeps =
    answers answered (claimed_module_of it) keeps
    (has_reading it.source.items (IsTree (module_syntax tree))
    (ap text_reading_of (sym is) ∙ read ∙ ap reading_of_text same))
    (ap (map claim_of) (sym also))

pub text_refused : (devices : List DeviceDecl) (modules : AnsweredModules) (it : DeclaredModule) (source : List ℕ)
    (reading : DeclaredReading) (diag : Diag) → source ≡ it.source.items → reading ≡ readings.NoModule diag
    → text_reading_of reading ≡ reading_of_text source → (answered : Answered) → KeepsAnswers modules answered
    → HasAnswer devices answered (claimed_module_of it) (RefusesText diag.code diag.place)
text_refused devices modules it source reading diag same is read answered keeps =
    is_no_module
    (has_reading it.source.items (IsNoModule diag.code diag.place)
    (ap text_reading_of (sym is) ∙ read ∙ ap reading_of_text same))
