-- The reasons of texts that are no modules belong to what the texts are.
use Rattle.std.specs.Prelude.{◌≡◌, ℕ, List}
use Rattle.cc_base.specs.declared.code.Code.{Code}
use Rattle.cc_base.specs.declared.place.Place.{Place}
use Rattle.cc_text_reasons.specs.TextReasons.{TextReason, text_code, HasTextReason}
use Rattle.cc_verdicts.specs.Readings.{HasReading, IsNoModule}

-- a text with such a reason is no module, with its code at its place
abbrev pub TextReasonsAreOfRefusals : Type 0
TextReasonsAreOfRefusals =
    (text : List ℕ) (reason : TextReason) (at : Place)
    → HasTextReason text reason at → HasReading text (IsNoModule (text_code reason) at)

-- Each text that is no module has a reason, with that code at that place.
abbrev pub RefusedTextsHaveAReason : Type 0
RefusedTextsHaveAReason =
    (text : List ℕ) (code : Code) (at : Place) → HasReading text (IsNoModule code at)
    → (reason : TextReason) × (code ≡ text_code reason) × HasTextReason text reason at

-- and it has one alone
abbrev pub TextReasonsAreUnique : Type 0
TextReasonsAreUnique =
    (text : List ℕ) (one other : TextReason) (at place : Place)
    → HasTextReason text one at → HasTextReason text other place → (one ≡ other) × (at ≡ place)
