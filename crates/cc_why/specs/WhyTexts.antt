-- How it is told why a module is refused.
use Rattle.std.specs.Prelude.{◌≡◌, ℕ, Bool, true, false, List, ◌++◌, codes, Option, Result, IfOk}
use Rattle.std.specs.List.{flat_map}
use Rattle.cc_base.specs.Texts.{code_text, place_text}
use Rattle.cc_base.specs.declared.code.Code.TheVariants.{E32}
use Rattle.cc_base.specs.declared.device.DeviceDecl.{DeviceDecl}
use Rattle.cc_io.specs.declared.whole.WriteAll.{WriteAll}
use Rattle.cc_io.specs.Wholes.{WritesWhole}
use Rattle.cc_mnf.specs.Scopes.{Name}
use Rattle.cc_module_reasons.specs.WhyAnswers.{Why, NoSuchModule, NotRefused, RefusedSince, IsWhy}
use Rattle.cc_replies.specs.ReplyTexts.{head, refused_head, inner_line}
use Rattle.cc_verdicts.specs.PresentTexts.{Texts}

-- the text of the answer: the head line, and of a refused module its code and place, and the lines of the reason
abbrev pub why_text : Name → Why → List ℕ
why_text name NoSuchModule = refused_head (codes "why") name E32
why_text name NotRefused = head (codes "why") name
why_text name (RefusedSince code at lines) =
    head (codes "why") name
    ++ (inner_line (code_text code ++ codes " " ++ place_text at) ++ flat_map inner_line lines)

-- Whether the question is refused: it is where no such module is present. That a module is refused is an answer.
abbrev pub is_refusal : Why → Bool
is_refusal NoSuchModule = true
is_refusal NotRefused = false
is_refusal (RefusedSince code at lines) = false

-- The answer of the present texts was written, or a front of it; it is told whether it is a refusal.
pub record TellsWhy (devices : List DeviceDecl) (texts : Texts) (name : Name) (old new : Option (List ℕ))
    (result : Result Bool WriteAll) : Type 0 where
  pub answer : Why
  pub is : IsWhy devices texts name answer
  pub written : WritesWhole old new result (why_text name answer)
  pub told : IfOk result (λ it. it ≡ is_refusal answer)
