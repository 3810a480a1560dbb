-- Replies to checks, and such that show signatures and derivations, where the present texts are given, by computation.
use Rattle.std.proofs.Common.{◌≡◌, ℕ, Bool, List, [], Option, Some, None, Err, refl, sym, ap}
use Rattle.std.specs.Prelude.{Result}
use Rattle.std.specs.List.{flat_map}
use Rattle.std.specs.Option.{unwrap_or}
use Rattle.cc_base.specs.declared.code.Code.{Code}
use Rattle.cc_base.specs.declared.code.Code.TheVariants.{E32}
use Rattle.cc_base.specs.declared.device.DeviceDecl.{DeviceDecl}
use Rattle.cc_capture.specs.Sets.{image}
use Rattle.cc_capture.specs.Variables.{same_variable}
use Rattle.cc_checking.specs.CanonicalDerivations.{shape_derived, form_derived}
use Rattle.cc_graph.specs.Graph.{ImportMap}
use Rattle.cc_mnf.specs.ElaboratedModules.{device_names}
use Rattle.cc_verdicts.specs.ModuleVerdicts.{ModuleVerdict}
use Rattle.cc_verdicts.specs.PresentTexts.{Texts, text_of}
use Rattle.cc_verdicts.specs.StandingDefinitions.{Standing, standing_by, standing_from}
use Rattle.cc_replies.specs.Replies.{check_reply, signature_reply, derivation_reply}
use Rattle.cc_replies.specs.ReplyTexts.{line, reply_text, is_refusal}
use Rattle.cc_replies.specs.Requests.{CheckModules, ShowSignature, ShowDerivation}
use Rattle.cc_worked_replies.proofs.ComputedReplies.{quick_imports, same_imports, findings_by, same_findings, AreJudged, reply_computing}
use Rattle.cc_worked_replies.specs.TextReplies.{RepliesWith}

module _ (devices : List DeviceDecl) (texts : Texts) (verdicts : List ℕ → ModuleVerdict) (graph : ImportMap)
    (names : List (List ℕ)) where
  -- a definition of a module where it stands, with less computation
  abbrev pub quick_standing : List ℕ → List ℕ → Option (List ℕ) → Result Standing Code
  quick_standing module_name name (Some text) =
      standing_by (unwrap_or (quick_imports text) []) (findings_by graph texts verdicts module_name text)
      (verdicts module_name) name
  quick_standing module_name name None = Err E32

  module _ (judged : AreJudged devices texts verdicts graph names) where
    same_standing : (module_name name : List ℕ) (o : Option (List ℕ))
        → quick_standing module_name name o ≡ standing_from texts verdicts module_name name o
    same_standing module_name name (Some text) =
        sym (λ i. standing_by (unwrap_or (same_imports text i) [])
        (same_findings texts graph judged.is_graph verdicts module_name text i) (verdicts module_name) name)
    same_standing module_name name None = refl

    -- the reply to a check has the lines that are found
    pub check_replies : (lines : List (List ℕ)) (refused : Bool)
        → reply_text (device_names devices) (check_reply texts verdicts) ≡ flat_map line lines
        → is_refusal (check_reply texts verdicts) ≡ refused
        → RepliesWith devices texts CheckModules lines refused
    check_replies lines refused text tells = (check_reply texts verdicts, (verdicts, judged.are, refl), text, tells)

    -- so does the one that shows signatures
    pub signature_replies : (name : List ℕ) (lines : List (List ℕ)) (refused : Bool)
        → reply_text (device_names devices) (signature_reply texts verdicts name) ≡ flat_map line lines
        → is_refusal (signature_reply texts verdicts name) ≡ refused
        → RepliesWith devices texts (ShowSignature name) lines refused
    signature_replies name lines refused text tells =
        (signature_reply texts verdicts name, (verdicts, judged.are, refl), text, tells)

    -- and the one that shows a derivation
    pub derivation_replies : (module_name name : List ℕ) (lines : List (List ℕ)) (refused : Bool)
        → reply_text (device_names devices)
        (derivation_reply devices module_name name (quick_standing module_name name (text_of texts module_name)))
        ≡ flat_map line lines
        → is_refusal (derivation_reply devices module_name name (quick_standing module_name name (text_of texts module_name)))
        ≡ refused
        → RepliesWith devices texts (ShowDerivation module_name name) lines refused
    derivation_replies module_name name lines refused text tells = (
      derivation_reply devices module_name name (quick_standing module_name name (text_of texts module_name)),
      (
        verdicts,
        judged.are,
        ap (derivation_reply devices module_name name) (same_standing module_name name (text_of texts module_name)),
      ),
      text,
      tells,
    )

-- `unfolding derivation_computing` lets `refl` compute the reply that shows a derivation
unfoldable pub derivation_computing : Unit {0}
unfolding reply_computing shape_derived form_derived image same_variable
derivation_computing = tt
