-- The modules of an entry as the code makes them, one after another.
use Rattle.std.proofs.Common.{◌≡◌, ℕ, ◌+◌, ◌<◌, Bool, List, [], ◌∷◌, ◌++◌, length, get_or, map, take, Some}
use Rattle.std.proofs.Common.{Option, sym, ap, ◌∙◌, subst, arith, if◌then◌else◌}
use Rattle.std.specs.Prelude.{zero, suc}
use Rattle.std.proofs.lemmas.List.{get_or_default, get_or-map, map-append, take_more}
use Rattle.std.proofs.lemmas.List.Elements.{filter-append}
use Rattle.std.specs.List.{AllByRecursion, filter, slice_get}
use Rattle.std.specs.Map.{keys_of}
use Rattle.std.specs.Option.{unwrap_or}
use Rattle.cc_session.specs.declared.modules.EntryModule.{EntryModule}
use Rattle.cc_session.specs.Modules.{module_of}
use Rattle.cc_grammar.specs.Syntax.{ImportSyntax}
use Rattle.cc_entry_laws.specs.PresentEntries.{definitions_of, present_module}
use Rattle.cc_judge.specs.Dependencies.{AreRead}
use Rattle.cc_judge.specs.Places.{entry_at}
use Rattle.cc_judge.proofs.Graphs.{reading_of_place}
use Rattle.cc_judge.proofs.TextPlaces.{text_of_place, place_of_key}
use Rattle.cc_verdicts.specs.ModuleVerdicts.{ModuleVerdict}
use Rattle.cc_verdicts.specs.PresentTexts.{Texts, ArePresent, text_of}
use Rattle.cc_verdicts.specs.Readings.{imports_of}
use Rattle.cc_module.specs.declared.judgement.ModuleVerdict.{ModuleVerdict as DeclaredVerdict}
use Rattle.cc_module.specs.Judgements.{checked_definition_of, module_verdict_of}
use Rattle.cc_parse.specs.Trees.{import_syntax}
use Rattle.cc_session.specs.EntryParts.{HaveVerdicts, ArePresentModules, AddsPresent}
use Rattle.cc_session.proofs.CurrentVerdicts.{as_many}

-- the module at a place is the present one of the name there
pub made_module : (texts : Texts) → ArePresent texts → (readings : List (List ℕ))
    → AreRead texts readings → (verdicts : List (List ℕ × DeclaredVerdict)) (all : List ℕ → ModuleVerdict)
    → HaveVerdicts texts all verdicts → (at : ℕ) (name : List ℕ) → slice_get (keys_of texts) at ≡ Some name
    → (reading : List ℕ) → reading ≡ get_or readings at reading
    → (read_imports : Option (List ImportSyntax)) → read_imports ≡ imports_of reading
    → (verdict : List ℕ × DeclaredVerdict) → verdict ≡ get_or verdicts at verdict
    → (one : EntryModule) → one.name ≡ name
    → map import_syntax one.imports.items ≡ unwrap_or read_imports []
    → map checked_definition_of one.defs.items ≡ definitions_of (module_verdict_of verdict.1)
    → module_of one ≡ present_module texts all name
made_module texts sorted readings read verdicts all have at name stands reading is_reading read_imports are_read verdict is_verdict one named
    imports definitions =
    let (within, same) = place_of_key texts at name stands in
    let entry = entry_at texts at in
    let T : List ℕ → Type 0 = λ n. text_of texts n ≡ Some entry.1 in
    let is_text = subst T same (text_of_place texts sorted at within) in
    let reads = are_read ∙ ap imports_of (reading_of_place texts readings read at entry reading within
    (get_or_default texts at ([], []) entry within) is_reading) in
    let inside : at < length verdicts = omega (arith, as_many texts all verdicts have) in
    let verdict_is : module_verdict_of verdict.1 ≡ all name =
    ap (λ (v : List ℕ × DeclaredVerdict). module_verdict_of v.1) is_verdict
    ∙ sym (get_or-map (λ (v : List ℕ × DeclaredVerdict). module_verdict_of v.1) verdicts at verdict (all name) inside)
    ∙ ap (λ vs. get_or vs at (all name)) have
    ∙ get_or-map (λ (e : List ℕ × List ℕ). all e.0) texts at ([], []) (all name) within
    ∙ ap all same in
    let imports_is : map import_syntax one.imports.items
    ≡ unwrap_or (imports_of (unwrap_or (text_of texts name) [])) [] =
    imports ∙ ap (λ o. unwrap_or o []) reads ∙ sym (ap (λ o. unwrap_or (imports_of (unwrap_or o [])) []) is_text) in
    let definitions_is = definitions ∙ ap definitions_of verdict_is in
    (λ j. record { name = named j; imports = imports_is j; definitions = definitions_is j })

-- one name more
pub reached_more : (texts : Texts) (verdicts : List (List ℕ × DeclaredVerdict)) (p : List ℕ → Bool)
    (names : List (List ℕ)) (i : ℕ) (name : List ℕ) → i < length names → name ≡ get_or names i name
    → (old new : List EntryModule) → ArePresentModules texts verdicts old (filter p (take i names))
    → AddsPresent texts verdicts (if p name then name ∷ [] else []) old new
    → ArePresentModules texts verdicts new (filter p (take (i + 1) names))
reached_more texts verdicts p names i name within is old new so_far adds all have =
    let f = present_module texts all in
    let more : filter p (take (i + 1) names) ≡ filter p (take i names) ++ (if p name then name ∷ [] else []) =
    ap (filter p) (take_more names i name within ∙ ap (λ n. take i names ++ n ∷ []) (sym is))
    ∙ filter-append p (take i names) (name ∷ []) in
    adds all have ∙ ap (λ ms. ms ++ map f (if p name then name ∷ [] else [])) (so_far all have)
    ∙ sym (ap (map f) more ∙ map-append f (filter p (take i names)) (if p name then name ∷ [] else []))

pub all_at : {A : Type 0} (P : A → Type 0) (xs : List A) (i : ℕ) (x : A) → i < length xs → x ≡ get_or xs i x
    → AllByRecursion P xs → P x
all_at P [] i x within is all = absurd (omega arith)
all_at P (y ∷ ys) zero x within is all = subst P (sym is) all.0
all_at P (y ∷ ys) (suc i) x within is all = all_at P ys i x (omega arith) is all.1
