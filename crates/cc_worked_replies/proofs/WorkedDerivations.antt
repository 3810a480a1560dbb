-- Replies that show derivations, by computation.
use Rattle.std.proofs.Common.{◌≡◌, ℕ, ◌<◌, ◌≤◌, true, false, cond, List, [], ◌∷◌, codes, refl, ap, arith, if◌then◌else◌}
use Rattle.std.specs.Prelude.{nat_le}
use Rattle.std.specs.Str.{bytes_eq}
use Rattle.std.proofs.lemmas.Bool.Decides.{nat_tests}
use Rattle.cc_base.specs.declared.code.Code.TheVariants.{E36}
use Rattle.cc_certificate_writing.specs.DefinitionCertificates.{definition_certificate_lines}
use Rattle.cc_graph.specs.Graph.{ImportMap}
use Rattle.cc_replies.specs.Replies.{derivation_size}
use Rattle.cc_replies.specs.ReplyTexts.{Derived, DerivationRefused}
use Rattle.cc_verdicts.specs.ModuleVerdicts.{Finding, ModuleVerdict}
use Rattle.cc_verdicts.specs.PresentTexts.{finding_in}
use Rattle.cc_verdicts.specs.StandingDefinitions.{standing_context, standing_names}
use Rattle.cc_worked_replies.specs.DerivationExamples as example
use Rattle.cc_worked_replies.specs.RunExamples.{printing, refused_module}
use Rattle.cc_worked_replies.specs.TextReplies.{console, m, n, main}
use Rattle.cc_worked_replies.proofs.ComputedAnswers.{derivation_replies, derivation_computing}
use Rattle.cc_worked_replies.proofs.ComputedReplies.{verdicts_by, AreJudged, are_judged, reply_computing}
use Rattle.cc_worked_replies.proofs.WorkedRuns.{alone, verdicts_of, printing_judged, refused_judged}

identity_judged : AreJudged [] example.identity (verdicts_of [] example.identity) alone (m ∷ [])
unfolding reply_computing
identity_judged =
    are_judged [] 12 example.identity (verdicts_of [] example.identity) alone (m ∷ []) tt (tt, tt) refl (refl, tt)
    (record { steps = refl; whole = refl })

pub identity_is_derived : example.IdentityIsDerived
unfolding derivation_computing
identity_is_derived =
    derivation_replies [] example.identity (verdicts_of [] example.identity) alone (m ∷ []) identity_judged m (codes "id")
    (codes "derive m.id" ∷ codes "  cert 1" ∷ codes "  term fun (_0: Unit) => _0" ∷ codes "  1 t-var [] : Unit^{_0}" ∷ codes "  2 t-abs [1] : (_0: Unit) -> Unit^{_0}" ∷ []) false refl refl

pub call_is_derived : example.CallIsDerived
unfolding derivation_computing
call_is_derived =
    derivation_replies console printing (verdicts_of console printing) alone (m ∷ []) printing_judged m main
    (codes "derive m.main" ∷ codes "  cert 1" ∷ codes "  bind out: Console^{cap}" ∷ codes "  bind f: ((_0: Int) -> Unit)^{out}" ∷ codes "  term fun (_0: Unit) => let _1 = 5 in f(_1)" ∷ codes "  1 t-lit [] : Int" ∷ codes "  2 t-var [] : ((_2: Int) -> Unit)^{f}" ∷ codes "  3 t-var [] : Int^{_1}" ∷ codes "  4 set [] {} <: {}" ∷ codes "  5 var [4] {_1} <: {}" ∷ codes "  6 set [5] {_1} <: {}" ∷ codes "  7 refl [] Int <: Int" ∷ codes "  8 capt [6 7] Int^{_1} <: Int" ∷ codes "  9 t-sub [3 8] : Int" ∷ codes "  10 t-app [2 9] : Unit" ∷ codes "  11 t-let [1 10] : Unit" ∷ codes "  12 t-abs [11] : ((_0: Unit) -> Unit)^{f}" ∷ codes "  13 elem [] {out} <: {out}" ∷ codes "  14 set [13] {out} <: {out}" ∷ codes "  15 var [14] {f} <: {out}" ∷ codes "  16 set [15] {f} <: {out}" ∷ codes "  17 refl [] (_0: Unit) -> Unit <: (_0: Unit) -> Unit" ∷ codes "  18 capt [16 17] ((_0: Unit) -> Unit)^{f} <: ((_0: Unit) -> Unit)^{out}" ∷ codes "  19 t-sub [12 18] : ((_0: Unit) -> Unit)^{out}" ∷ []) false refl refl

-- the import graph of the two modules, and its order
abbrev two_imports : ImportMap
two_imports = (codes "app", codes "log" ∷ []) ∷ (codes "log", []) ∷ []

abbrev two_names : List (List ℕ)
two_names = codes "log" ∷ codes "app" ∷ []

abbrev two_findings : List ℕ → List Finding
two_findings name =
    if bytes_eq name (codes "app")
    then finding_in (verdicts_of console example.two_modules (codes "log")) (codes "line") ∷ []
    else []

abbrev two_verdicts : List ℕ → ModuleVerdict
two_verdicts = verdicts_by console example.two_modules two_findings

two_judged : AreJudged console example.two_modules two_verdicts two_imports two_names
unfolding reply_computing
two_judged =
    are_judged console 12 example.two_modules two_verdicts two_imports two_names
    (tt, tt) ((refl, tt), (tt, tt)) refl (refl, (refl, tt)) (record { steps = refl; whole = refl })

pub import_is_derived : example.ImportIsDerived
unfolding derivation_computing
import_is_derived =
    derivation_replies console example.two_modules two_verdicts two_imports two_names two_judged (codes "app") main
    (codes "derive app.main" ∷ codes "  cert 1" ∷ codes "  bind out: Console^{cap}" ∷ codes "  bind line: ((_0: Int) -> Unit)^{out}" ∷ codes "  term fun (_0: Unit) => let _1 = 1 in line(_1)" ∷ codes "  1 t-lit [] : Int" ∷ codes "  2 t-var [] : ((_2: Int) -> Unit)^{line}" ∷ codes "  3 t-var [] : Int^{_1}" ∷ codes "  4 set [] {} <: {}" ∷ codes "  5 var [4] {_1} <: {}" ∷ codes "  6 set [5] {_1} <: {}" ∷ codes "  7 refl [] Int <: Int" ∷ codes "  8 capt [6 7] Int^{_1} <: Int" ∷ codes "  9 t-sub [3 8] : Int" ∷ codes "  10 t-app [2 9] : Unit" ∷ codes "  11 t-let [1 10] : Unit" ∷ codes "  12 t-abs [11] : ((_0: Unit) -> Unit)^{line}" ∷ codes "  13 elem [] {out} <: {out}" ∷ codes "  14 set [13] {out} <: {out}" ∷ codes "  15 var [14] {line} <: {out}" ∷ codes "  16 set [15] {line} <: {out}" ∷ codes "  17 refl [] (_0: Unit) -> Unit <: (_0: Unit) -> Unit" ∷ codes "  18 capt [16 17] ((_0: Unit) -> Unit)^{line} <: ((_0: Unit) -> Unit)^{out}" ∷ codes "  19 t-sub [12 18] : ((_0: Unit) -> Unit)^{out}" ∷ []) false refl refl

pub refused_derivations : example.RefusedDerivations
unfolding derivation_computing
refused_derivations = record {
  no_module = derivation_replies console printing (verdicts_of console printing) alone (m ∷ []) printing_judged n main
      (codes "derive n.main refused E32" ∷ []) true refl refl;
  of_a_refused_module = derivation_replies console refused_module (verdicts_of console refused_module) [] [] refused_judged m main
      (codes "derive m.main refused E34" ∷ []) true refl refl;
  of_none_in_a_refused_module = derivation_replies console refused_module (verdicts_of console refused_module) [] [] refused_judged m (codes "none")
      (codes "derive m.none refused E34" ∷ []) true refl refl;
  no_definition = derivation_replies console printing (verdicts_of console printing) alone (m ∷ []) printing_judged m (codes "none")
      (codes "derive m.none refused E33" ∷ []) true refl refl;
}

-- a number is at most the limit, or beyond it
within : (n limit : ℕ) → n ≤ limit → nat_le n limit ≡ true
within n limit h = grind (arith, nat_tests)

beyond : (n limit : ℕ) → limit < n → nat_le n limit ≡ false
beyond n limit h = grind (arith, nat_tests)

pub small_derivations_are_shown : example.SmallDerivationsAreShown
small_derivations_are_shown devices module_name name it few =
    ap (λ t. cond t (Derived module_name name (definition_certificate_lines (standing_names devices it) (standing_context devices it) it.definition.accepted))
    (DerivationRefused module_name name E36)) (within (derivation_size devices it) 100000 few)

pub large_derivations_are_refused : example.LargeDerivationsAreRefused
large_derivations_are_refused devices module_name name it many =
    ap (λ t. cond t (Derived module_name name (definition_certificate_lines (standing_names devices it) (standing_context devices it) it.definition.accepted))
    (DerivationRefused module_name name E36)) (beyond (derivation_size devices it) 100000 many)
