-- Replies that show derivations, by example, and which derivations are too large to be shown.
use Rattle.std.specs.Prelude.{◌≡◌, ℕ, ◌<◌, ◌≤◌, codes, true, false, List, [], ◌∷◌, Ok}
use Rattle.std.specs.List.{flat_map}
use Rattle.cc_base.specs.declared.code.Code.TheVariants.{E36}
use Rattle.cc_base.specs.declared.device.DeviceDecl.{DeviceDecl}
use Rattle.cc_certificate_writing.specs.DefinitionCertificates.{definition_certificate_lines}
use Rattle.cc_checking.specs.DerivationSizes.{nodes}
use Rattle.cc_checking_laws.specs.AcceptedDefinitions.{accepted_derived}
use Rattle.cc_verdicts.specs.PresentTexts.{Texts}
use Rattle.cc_verdicts.specs.StandingDefinitions.{Standing, standing_context, standing_names}
use Rattle.cc_replies.specs.Replies.{derivation_reply}
use Rattle.cc_replies.specs.ReplyTexts.{line, Derived, DerivationRefused}
use Rattle.cc_replies.specs.Requests.{ShowDerivation}
use Rattle.cc_worked_replies.specs.RunExamples.{printing, refused_module}
use Rattle.cc_worked_replies.specs.TextReplies.{RepliesWith, console, m, n, main, one_module}

-- the identity on the unit value
abbrev pub identity : Texts
identity = one_module (codes "def id = fun (x: Unit) => x" ∷ [])

-- Its certificate stands behind the head line, each line with two spaces.
abbrev pub IdentityIsDerived : Type 0
IdentityIsDerived =
    RepliesWith [] identity (ShowDerivation m (codes "id"))
    (codes "derive m.id" ∷ codes "  cert 1" ∷ codes "  term fun (_0: Unit) => _0" ∷ codes "  1 t-var [] : Unit^{_0}"
    ∷ codes "  2 t-abs [1] : (_0: Unit) -> Unit^{_0}" ∷ []) false

-- Devices and earlier definitions are bound in front, in order; behind the type that is found comes the one that others
-- see, without the earlier definition.
abbrev pub CallIsDerived : Type 0
CallIsDerived =
    RepliesWith console printing (ShowDerivation m main)
    (codes "derive m.main" ∷ codes "  cert 1" ∷ codes "  bind out: Console^{cap}"
    ∷ codes "  bind f: ((_0: Int) -> Unit)^{out}" ∷ codes "  term fun (_0: Unit) => let _1 = 5 in f(_1)"
    ∷ codes "  1 t-lit [] : Int" ∷ codes "  2 t-var [] : ((_2: Int) -> Unit)^{f}" ∷ codes "  3 t-var [] : Int^{_1}"
    ∷ codes "  4 set [] {} <: {}" ∷ codes "  5 var [4] {_1} <: {}" ∷ codes "  6 set [5] {_1} <: {}"
    ∷ codes "  7 refl [] Int <: Int" ∷ codes "  8 capt [6 7] Int^{_1} <: Int" ∷ codes "  9 t-sub [3 8] : Int"
    ∷ codes "  10 t-app [2 9] : Unit" ∷ codes "  11 t-let [1 10] : Unit"
    ∷ codes "  12 t-abs [11] : ((_0: Unit) -> Unit)^{f}" ∷ codes "  13 elem [] {out} <: {out}"
    ∷ codes "  14 set [13] {out} <: {out}" ∷ codes "  15 var [14] {f} <: {out}" ∷ codes "  16 set [15] {f} <: {out}"
    ∷ codes "  17 refl [] (_0: Unit) -> Unit <: (_0: Unit) -> Unit"
    ∷ codes "  18 capt [16 17] ((_0: Unit) -> Unit)^{f} <: ((_0: Unit) -> Unit)^{out}"
    ∷ codes "  19 t-sub [12 18] : ((_0: Unit) -> Unit)^{out}" ∷ []) false

-- a function that prints, and another module that calls it
abbrev pub two_modules : Texts
two_modules =
    (codes "app", flat_map line (codes "import log.line" ∷ codes "def main = fun (u: Unit) => line(1)" ∷ []))
    ∷ (codes "log", line (codes "def line = fun (x: Int) => out.print(x)")) ∷ []

-- Imports are bound behind the devices, by the names that they have in the module, with their signatures.
abbrev pub ImportIsDerived : Type 0
ImportIsDerived =
    RepliesWith console two_modules (ShowDerivation (codes "app") main)
    (codes "derive app.main" ∷ codes "  cert 1" ∷ codes "  bind out: Console^{cap}"
    ∷ codes "  bind line: ((_0: Int) -> Unit)^{out}" ∷ codes "  term fun (_0: Unit) => let _1 = 1 in line(_1)"
    ∷ codes "  1 t-lit [] : Int" ∷ codes "  2 t-var [] : ((_2: Int) -> Unit)^{line}" ∷ codes "  3 t-var [] : Int^{_1}"
    ∷ codes "  4 set [] {} <: {}" ∷ codes "  5 var [4] {_1} <: {}" ∷ codes "  6 set [5] {_1} <: {}"
    ∷ codes "  7 refl [] Int <: Int" ∷ codes "  8 capt [6 7] Int^{_1} <: Int" ∷ codes "  9 t-sub [3 8] : Int"
    ∷ codes "  10 t-app [2 9] : Unit" ∷ codes "  11 t-let [1 10] : Unit"
    ∷ codes "  12 t-abs [11] : ((_0: Unit) -> Unit)^{line}" ∷ codes "  13 elem [] {out} <: {out}"
    ∷ codes "  14 set [13] {out} <: {out}" ∷ codes "  15 var [14] {line} <: {out}"
    ∷ codes "  16 set [15] {line} <: {out}" ∷ codes "  17 refl [] (_0: Unit) -> Unit <: (_0: Unit) -> Unit"
    ∷ codes "  18 capt [16 17] ((_0: Unit) -> Unit)^{line} <: ((_0: Unit) -> Unit)^{out}"
    ∷ codes "  19 t-sub [12 18] : ((_0: Unit) -> Unit)^{out}" ∷ []) false

-- Why a derivation is not shown: the module is not present, or is refused, or has no definition of the name; that the
-- module is refused is told before all else about the definition.
pub record RefusedDerivations : Type 0 where
  pub no_module : RepliesWith console printing (ShowDerivation n main) (codes "derive n.main refused E32" ∷ []) true
  pub of_a_refused_module : RepliesWith console refused_module (ShowDerivation m main)
      (codes "derive m.main refused E34" ∷ []) true
  pub of_none_in_a_refused_module : RepliesWith console refused_module (ShowDerivation m (codes "none"))
      (codes "derive m.none refused E34" ∷ []) true
  pub no_definition : RepliesWith console printing (ShowDerivation m (codes "none"))
      (codes "derive m.none refused E33" ∷ []) true

-- A canonical derivation of 100,000 nodes is shown, and so is each smaller one, with the lines of its certificate.
abbrev pub SmallDerivationsAreShown : Type 0
SmallDerivationsAreShown =
    (devices : List DeviceDecl) (module_name name : List ℕ) (it : Standing)
    → nodes (accepted_derived (standing_context devices it) it.definition.accepted) ≤ 100000
    → derivation_reply devices module_name name (Ok it)
    ≡ Derived module_name name
    (definition_certificate_lines (standing_names devices it) (standing_context devices it) it.definition.accepted)

-- One of more nodes is not, whatever the definition.
abbrev pub LargeDerivationsAreRefused : Type 0
LargeDerivationsAreRefused =
    (devices : List DeviceDecl) (module_name name : List ℕ) (it : Standing)
    → 100000 < nodes (accepted_derived (standing_context devices it) it.definition.accepted)
    → derivation_reply devices module_name name (Ok it) ≡ DerivationRefused module_name name E36
