-- The verdict of a text, found in so many steps and rounds for each definition.
use Rattle.std.proofs.Common.{◌≡◌, ◌∙◌, ℕ, true, List, [], ◌∷◌, length, map, Option, Some, None, refl, sym, ap, subst}
use Rattle.std.specs.Prelude.{is_some}
use Rattle.std.specs.Fmt.{digits}
use lib.Utf8.{encode}
use Rattle.cc_capture.specs.Elements.{element_order, same_element}
use Rattle.cc_capture.specs.Rising.{placed}
use Rattle.cc_capture.specs.Variables.{same_variable}
use Rattle.cc_capture.specs.Sets.{contains, empty, insert, from_list, retain, remove, union, flat_image, same_set, is_subset}
use Rattle.cc_grammar.specs.Tests.{operation_named}
use Rattle.cc_grammar.specs.Reading.{reading_of, module_at, imports_at, import_at, defs_at, def_at, def_rule_at, part_at, expr_over, links_at, next_link, link_at, dot_at, operation_at, link_rule_at, expr_start_at, fun_at, expr_rule_at, type_over, shape_over, shape_start_at, paren_at, named_at, shape_rule_at, one_part_at, written_at, captures_at, set_at, caret_at, elements_at, name_at, placed_name_at, symbol_at, word_at}
use Rattle.cc_lex.specs.Cutting.{word_of, short_symbol, pair_symbol, number_of}
use Rattle.cc_mnf.specs.Steps.{followed, gives, refuses, new_hole, with_own_holes}
use Rattle.cc_mnf.specs.ElaboratedTypes.{elaborated_shape, elaborated_type, with_elements}
use Rattle.cc_mnf.specs.Elaboration.{elaborated}
use Rattle.cc_checking.specs.Comparison.{comparison, by_form}
use Rattle.cc_checking.specs.Outcomes.{◌>>=◌}
use Rattle.cc_base.specs.declared.code.Code.{Code}
use Rattle.cc_base.specs.declared.device.DeviceDecl.{DeviceDecl}
use Rattle.cc_base.specs.declared.place.Place.{Place}
use Rattle.cc_core.specs.Shapes.{CapturingType}
use Rattle.cc_core.specs.Contexts.{Context, entry_of}
use Rattle.cc_grammar.specs.Syntax.{ModuleSyntax}
use Rattle.cc_checking_laws.proofs.ComputedVerdicts.{verdict_in, verdict_in_steps}
use Rattle.cc_mnf.specs.ElaboratedModules.{CoreDefinition, Elaboration, elaboration, device_names}
use Rattle.cc_mnf.specs.ElaboratedModules as elaborated
use Rattle.cc_checking.specs.Verdicts as definitions
use Rattle.cc_verdicts.specs.ModuleVerdicts.{CheckedDefinition, ModuleVerdict, IsAccepted, IsRefused, Refusal, Finding, with_findings, AreJudged, no_more, refused_first, accepted_first, HasModuleVerdict, is_no_module, import_is_missing, is_not_elaborated, is_judged, first_missing, declared_context, to_be_checked, checked_as, after_definition}
use Rattle.cc_verdicts.specs.Readings.{TextReading, IsTree, IsNoModule, HasReading}
use Rattle.cc_verdicts.proofs.ReadingLaws.{text_has_one_reading}
use Rattle.cc_worked_texts.proofs.QuickTokens.{quick_tokens, quick_letters, quick_reading, same_reading}
use Rattle.cc_worked_texts.specs.TextMeanings.{meanings_read, meanings_of, SayTheSame}
use Rattle.cc_worked_texts.specs.TextVerdicts.{devices, signature_text, RefusesWith, Refuses, AcceptsWith, Accepts}

-- the verdict with this definition before what is found for the others
abbrev before_others : CheckedDefinition → Option ModuleVerdict → Option ModuleVerdict
before_others first None = None
before_others first (Some verdict) = Some (after_definition first verdict)

-- the verdict of definitions, by that of the first, and by what is found for the others behind its signature
abbrev judged_first : CoreDefinition → Option definitions.Verdict → (CapturingType → Option ModuleVerdict) → Option ModuleVerdict
judged_first first None others = None
judged_first first (Some (definitions.IsRefused code at)) others = Some (IsRefused code at)
judged_first first (Some (definitions.IsAccepted accepted)) others = before_others (checked_as first accepted) (others accepted.signature)

-- the verdict of definitions in order
abbrev judged_in : ℕ → ℕ → Context → List CoreDefinition → Option ModuleVerdict
judged_in n count context [] = Some (IsAccepted [])
judged_in n count context (first ∷ rest) =
    judged_first first (verdict_in n count context (to_be_checked first)) (λ signature. judged_in n count (entry_of signature ∷ context) rest)

-- the verdict of a module that elaborates so
abbrev of_elaboration : List DeviceDecl → ℕ → List Finding → Elaboration → Option ModuleVerdict
of_elaboration beside n findings (elaborated.IsRefused code at) = Some (IsRefused code at)
of_elaboration beside n findings (elaborated.IsElaborated core) = judged_in n (length beside) (with_findings (declared_context beside) findings) core.definitions

-- the verdict of a tree of which this import is missing, or none
abbrev of_imports : List DeviceDecl → ℕ → List Finding → ModuleSyntax → Option Refusal → Option ModuleVerdict
of_imports beside n findings tree (Some missing) = Some (IsRefused missing.code missing.at)
of_imports beside n findings tree None = of_elaboration beside n findings (elaboration (device_names beside) tree)

-- the verdict of a text that is this
abbrev of_reading : List DeviceDecl → ℕ → List Finding → TextReading → Option ModuleVerdict
of_reading beside n findings (IsNoModule code at) = Some (IsRefused code at)
of_reading beside n findings (IsTree tree) = of_imports beside n findings tree (first_missing tree.imports findings)

-- the verdict of a text beside the devices, for whose imports this is found, if so many steps and rounds are enough
abbrev pub text_verdict_in : List DeviceDecl → ℕ → List Finding → List ℕ → Option ModuleVerdict
text_verdict_in beside n findings text = of_reading beside n findings (quick_reading text)

same_verdict : {v w : ModuleVerdict} → Some v ≡ Some w → v ≡ w
same_verdict e = cc

before_parts : (count : ℕ) (context : Context) (first : CoreDefinition) (rest : List CoreDefinition) (accepted : definitions.Accepted)
    → definitions.HasVerdict count context (to_be_checked first) (definitions.IsAccepted accepted)
    → (found : Option ModuleVerdict) → ((w : ModuleVerdict) → found ≡ Some w → AreJudged count (entry_of accepted.signature ∷ context) rest w)
    → (v : ModuleVerdict) → before_others (checked_as first accepted) found ≡ Some v → AreJudged count context (first ∷ rest) v
before_parts count context first rest accepted has None others v e = cc
before_parts count context first rest accepted has (Some w) others v e =
    subst (λ u. AreJudged count context (first ∷ rest) u) (same_verdict e) (accepted_first {first = first} {rest = rest} {accepted = accepted} has (others w refl))

first_parts : (count : ℕ) (context : Context) (first : CoreDefinition) (rest : List CoreDefinition)
    → (own : Option definitions.Verdict) → ((w : definitions.Verdict) → own ≡ Some w → definitions.HasVerdict count context (to_be_checked first) w)
    → (others : CapturingType → Option ModuleVerdict) → ((signature : CapturingType) (w : ModuleVerdict) → others signature ≡ Some w → AreJudged count (entry_of signature ∷ context) rest w)
    → (v : ModuleVerdict) → judged_first first own others ≡ Some v → AreJudged count context (first ∷ rest) v
first_parts count context first rest None has others behind v e = cc
first_parts count context first rest (Some (definitions.IsRefused code at)) has others behind v e =
    subst (λ u. AreJudged count context (first ∷ rest) u) (same_verdict e) (refused_first {first = first} {rest = rest} (has (definitions.IsRefused code at) refl))
first_parts count context first rest (Some (definitions.IsAccepted accepted)) has others behind v e =
    before_parts count context first rest accepted (has (definitions.IsAccepted accepted) refl) (others accepted.signature) (behind accepted.signature) v e

are_judged_in : (n count : ℕ) (context : Context) (list : List CoreDefinition) (v : ModuleVerdict) → judged_in n count context list ≡ Some v → AreJudged count context list v
are_judged_in n count context [] v e = subst (λ u. AreJudged count context [] u) (same_verdict e) no_more
are_judged_in n count context (first ∷ rest) v e =
    first_parts count context first rest (verdict_in n count context (to_be_checked first)) (λ w is. verdict_in_steps n count context (to_be_checked first) w is)
    (λ signature. judged_in n count (entry_of signature ∷ context) rest) (λ signature w is. are_judged_in n count (entry_of signature ∷ context) rest w is) v e

by_elaboration : (beside : List DeviceDecl) (n : ℕ) (findings : List Finding) (text : List ℕ) (tree : ModuleSyntax) → HasReading text (IsTree tree) → first_missing tree.imports findings ≡ None
    → (found : Elaboration) → elaboration (device_names beside) tree ≡ found → (v : ModuleVerdict) → of_elaboration beside n findings found ≡ Some v → HasModuleVerdict beside text findings v
by_elaboration beside n findings text tree reads none (elaborated.IsRefused code at) is v e =
    subst (λ u. HasModuleVerdict beside text findings u) (same_verdict e) (is_not_elaborated reads none is)
by_elaboration beside n findings text tree reads none (elaborated.IsElaborated core) is v e =
    is_judged reads none is (are_judged_in n (length beside) (with_findings (declared_context beside) findings) core.definitions v e)

by_imports : (beside : List DeviceDecl) (n : ℕ) (findings : List Finding) (text : List ℕ) (tree : ModuleSyntax) → HasReading text (IsTree tree) → (missing : Option Refusal) → first_missing tree.imports findings ≡ missing
    → (v : ModuleVerdict) → of_imports beside n findings tree missing ≡ Some v → HasModuleVerdict beside text findings v
by_imports beside n findings text tree reads (Some missing) is v e =
    subst (λ u. HasModuleVerdict beside text findings u) (same_verdict e) (import_is_missing reads is)
by_imports beside n findings text tree reads None is v e = by_elaboration beside n findings text tree reads is (elaboration (device_names beside) tree) refl v e

by_reading : (beside : List DeviceDecl) (n : ℕ) (findings : List Finding) (text : List ℕ) (reading : TextReading) → HasReading text reading → (v : ModuleVerdict) → of_reading beside n findings reading ≡ Some v → HasModuleVerdict beside text findings v
by_reading beside n findings text (IsNoModule code at) reads v e = subst (λ u. HasModuleVerdict beside text findings u) (same_verdict e) (is_no_module reads)
by_reading beside n findings text (IsTree tree) reads v e = by_imports beside n findings text tree reads (first_missing tree.imports findings) refl v e

-- what is found is the verdict
pub text_verdict_in_steps : (beside : List DeviceDecl) (n : ℕ) (findings : List Finding) (text : List ℕ) (v : ModuleVerdict) → text_verdict_in beside n findings text ≡ Some v → HasModuleVerdict beside text findings v
text_verdict_in_steps beside n findings text v e = by_reading beside n findings text (quick_reading text) ((text_has_one_reading text (quick_reading text)).1 (sym (same_reading text))) v e

-- a text is refused where that is found
pub refused_with : (n : ℕ) (findings : List Finding) (text : List ℕ) (code : Code) (at : Place) → text_verdict_in devices n findings text ≡ Some (IsRefused code at) → RefusesWith findings text code at
refused_with n findings text code at e = text_verdict_in_steps devices n findings text (IsRefused code at) e

pub refused : (n : ℕ) (text : List ℕ) (code : Code) (at : Place) → text_verdict_in devices n [] text ≡ Some (IsRefused code at) → Refuses text code at
refused n text code at e = refused_with n [] text code at e

-- the signatures, where the text is accepted
abbrev pub signatures_in : Option ModuleVerdict → Option (List (List ℕ))
signatures_in None = None
signatures_in (Some (IsRefused code at)) = None
signatures_in (Some (IsAccepted list)) = Some (map signature_text list)

same_texts : {a b : List (List ℕ)} → Some a ≡ Some b → a ≡ b
same_texts e = cc

by_verdict : (findings : List Finding) (text : List ℕ) (signatures : List (List ℕ)) (found : Option ModuleVerdict) → ((v : ModuleVerdict) → found ≡ Some v → HasModuleVerdict devices text findings v)
    → signatures_in found ≡ Some signatures → AcceptsWith findings text signatures
by_verdict findings text signatures None has e = cc
by_verdict findings text signatures (Some (IsRefused code at)) has e = cc
by_verdict findings text signatures (Some (IsAccepted list)) has e = (list, has (IsAccepted list) refl, same_texts e)

-- a text is accepted with its signatures where that is found
pub accepted_with : (n : ℕ) (findings : List Finding) (text : List ℕ) (signatures : List (List ℕ)) → signatures_in (text_verdict_in devices n findings text) ≡ Some signatures → AcceptsWith findings text signatures
accepted_with n findings text signatures e = by_verdict findings text signatures (text_verdict_in devices n findings text) (λ v is. text_verdict_in_steps devices n findings text v is) e

pub accepted : (n : ℕ) (text : List ℕ) (signatures : List (List ℕ)) → signatures_in (text_verdict_in devices n [] text) ≡ Some signatures → Accepts text signatures
accepted n text signatures e = accepted_with n [] text signatures e

-- TWO TEXTS

same_meanings : (text : List ℕ) → meanings_of text ≡ meanings_read (quick_reading text)
same_meanings text = ap meanings_read (same_reading text)

-- two texts say the same where that is found
pub says : (text other : List ℕ) → is_some (meanings_read (quick_reading text)) ≡ true
    → meanings_read (quick_reading text) ≡ meanings_read (quick_reading other) → SayTheSame text other
says text other e f = (ap is_some (same_meanings text) ∙ e, same_meanings text ∙ f ∙ sym (same_meanings other))

-- `unfolding text_computing` lets `refl` compute the verdict of a text
unfoldable pub text_computing : Unit {0}
unfolding quick_tokens word_of short_symbol pair_symbol number_of encode reading_of module_at imports_at import_at defs_at def_at def_rule_at part_at expr_over links_at next_link link_at dot_at operation_at link_rule_at expr_start_at fun_at expr_rule_at type_over shape_over shape_start_at paren_at named_at shape_rule_at one_part_at written_at captures_at set_at caret_at elements_at name_at placed_name_at symbol_at word_at operation_named followed gives refuses new_hole with_own_holes elaborated_shape elaborated_type with_elements elaborated elaboration ◌>>=◌ comparison by_form same_variable same_set contains flat_image from_list union retain remove insert placed element_order same_element empty is_subset digits
text_computing = tt

-- the same where it has other characters than those of ASCII
unfoldable pub letters_computing : Unit {0}
unfolding text_computing quick_letters
letters_computing = tt
