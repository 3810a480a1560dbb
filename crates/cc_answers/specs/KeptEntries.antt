-- What is kept of the present modules. It serves the code alone.
use Rattle.std.specs.Prelude.{◌≡◌, ◌-◌, ◌^◌, ℕ, min, Bool, true, List, map, length, option_map, Result, Ok, IfOk}
use Rattle.std.specs.List.{AllByRecursion, sum_by}
use Rattle.std.specs.Option.{unwrap_or}
use Rattle.cc_base.specs.declared.device.DeviceDecl.{DeviceDecl}
use Rattle.cc_capture.specs.declared.var.Elem.{Elem}
use Rattle.cc_session.specs.EntryAnswers.{AnswersEntry}
use Rattle.cc_session.specs.LinkedModules.{AreLinked}
use Rattle.cc_session.specs.Modules.{module_of}
use Rattle.cc_session.specs.declared.modules.EntryModule.{EntryModule}
use Rattle.cc_verdicts.specs.PresentTexts.{Texts, text_of}
use Rattle.cc_answers.specs.Explaining.{FindsLinked}
use Rattle.cc_answers.specs.LinkedPrograms.{IsProgramOf}
use Rattle.cc_answers.specs.declared.explanation.Explained.{Explained}
use Rattle.cc_answers.specs.declared.kept.Kept.{Kept}
use Rattle.cc_answers.specs.declared.linked.LinkedEntry.{LinkedEntry}

-- it is the entry of the definition where these texts are present, with its program
pub record IsLinkedFor (devices : List DeviceDecl) (texts : Texts) (module_name name : List ℕ) (it : LinkedEntry) : Type 0 where
  pub answers : AnswersEntry devices texts module_name name (Ok it.entry)
  pub program : IsProgramOf it.program it.entry

-- it explains the elements in the signature of the definition where these texts are present
pub record IsExplainedFor (devices : List DeviceDecl) (texts : Texts) (module_name name : List ℕ) (elements : List Elem) (it : Explained) :
    Type 0 where
  pub linked : AreLinked devices texts module_name (map module_of it.modules.items)
  pub finds : FindsLinked (length devices) (map module_of it.modules.items) module_name name elements it.found.items

-- what is kept is that of the definition of its names
abbrev pub IsLinked : List DeviceDecl → Texts → LinkedEntry → Type 0
IsLinked devices texts it = IsLinkedFor devices texts it.entry.module it.entry.def it

abbrev pub IsExplained : List DeviceDecl → Texts → Explained → Type 0
IsExplained devices texts it = IsExplainedFor devices texts it.module it.def it.set.list it

-- all that is kept is what it was made as, where these texts are present
pub record IsKeptFor (devices : List DeviceDecl) (texts : Texts) (kept : Kept) : Type 0 where
  pub linked : AllByRecursion (λ it. IsLinked devices texts it.value.value) kept.linked.items
  pub explained : AllByRecursion (λ it. IsExplained devices texts it.value.value) kept.explained.items

-- how many bytes the text of a present module has
abbrev pub text_size : Texts → List ℕ → ℕ
text_size texts name = unwrap_or (option_map length (text_of texts name)) 0

-- how many bytes the texts of modules have, up to as many as can be counted
abbrev pub texts_size : Texts → List EntryModule → ℕ
texts_size texts modules = min (sum_by (λ it. text_size texts it.name) modules) (2 ^ 64 - 1)

-- where a command is answered by a refusal, the present texts are as before
abbrev pub StayWhereRefused : {E : Type 0} → Result Bool E → Texts → Texts → Type 0
StayWhereRefused result old new = IfOk result (λ refused. refused ≡ true → new ≡ old)
